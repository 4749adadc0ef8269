-- The demand list of an allocation, which stands in logs where windows pick little of it (this project's own profile).
use Rattle.std.specs.Prelude.{◌≡◌, ◌≤◌, ℕ, ◌+◌, ◌-◌, ◌*◌, [], length, true, if◌then◌else◌}
use Rattle.greedy_rules.specs.Demands.{Demands}
use Rattle.window_allocation.specs.declared.window_list.WindowList.{WindowList}

-- the list that it stands for
abbrev pub demands_of : WindowList → Demands
demands_of list = if list.logged then record { items = list.log.items; spare = list.list.spare - length list.log.items } else list.list

-- it is for so many endpoints: there is room for an item of each pair of them, and for all that stand in the logs
pub record IsWindowList (endpoints : ℕ) (list : WindowList) : Type 0 where
  pub ends : list.log.endpoints ≡ endpoints
  pub room : endpoints * endpoints ≤ length list.list.items + list.list.spare
  pub empty : list.logged ≡ true → list.list.items ≡ []
  pub fits : list.logged ≡ true → length list.log.items ≤ list.list.spare

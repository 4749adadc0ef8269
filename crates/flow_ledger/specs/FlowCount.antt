-- What is in flight and what is pending of a flow's counts, and that they add up. From this project's own profile.
use Rattle.std.specs.Prelude.{◌≡◌, ℕ, ◌+◌, ◌-◌}
use Rattle.flow_ledger.specs.declared.FlowCount.{FlowCount}

-- the slots that were allocated, and of which it is not yet known whether they arrived
abbrev pub in_flight : FlowCount → ℕ
in_flight count = count.allocated - count.acknowledged - count.lost

-- the slots that are yet to be allocated: what was demanded and what was lost again, less what was allocated
abbrev pub pending : FlowCount → ℕ
pending count = count.demanded + count.lost - count.allocated

-- every slot demanded is acknowledged, in flight or pending
abbrev pub CountBalances : FlowCount → Type 0
CountBalances count = count.demanded ≡ count.acknowledged + in_flight count + pending count

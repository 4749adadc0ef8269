-- What the calls make of a lane's lines, one by one; for the parts of a lane alone (this project's own profile).
use Rattle.std.specs.Prelude.{◌≡◌, ℕ, ◌+◌, ◌-◌, max, Bool, not, ◌&&◌, ◌||◌, nat_lt, List, length, Option, Some, None, slice_get, if◌then◌else◌}
use Rattle.greedy_rules.specs.declared.flows.Flow.{Flow}
use Rattle.greedy_rules.specs.declared.flows.Entry.{Entry}
use Rattle.flow_ledger.specs.declared.FlowCount.{FlowCount}
use Rattle.ack_window.specs.declared.send_window.Decided.{Decided}
use Rattle.ack_window.specs.Weights.{weight_lost, weight_shown}
use Rattle.endpoint_history.specs.Packets.{Telling, slots_to}
use Rattle.arbiter_lane.specs.declared.line.LaneLine.{LaneLine}

-- each line becomes another by what the relation says of its destination
pub record Become (relation : ℕ → LaneLine → LaneLine → Type 0) (before after : List LaneLine) : Type 0 where
  pub as_many : length after ≡ length before
  pub each : (dst : ℕ) (old new : LaneLine) → slice_get before dst ≡ Some old → slice_get after dst ≡ Some new → relation dst old new

pub record LineCounts : Type 0 where
  pub demanded : ℕ
  pub allocated : ℕ
  pub acknowledged : ℕ
  pub lost : ℕ

pub record HasCounts (count : FlowCount) (counts : LineCounts) : Type 0 where
  pub demanded : count.demanded ≡ counts.demanded
  pub allocated : count.allocated ≡ counts.allocated
  pub acknowledged : count.acknowledged ≡ counts.acknowledged
  pub lost : count.lost ≡ counts.lost

-- the counts of a line change to these, and nothing else does
pub record HasChanged (old new : LaneLine) (counts : LineCounts) : Type 0 where
  pub opened : new.opened ≡ old.opened
  pub entered : new.entered ≡ old.entered
  pub count : HasCounts new.count counts

abbrev pub counts_on : LaneLine → LineCounts
counts_on line = record { demanded = line.count.demanded; allocated = line.count.allocated; acknowledged = line.count.acknowledged; lost = line.count.lost }

abbrev pub LosesSlots : ℕ → LaneLine → LaneLine → Type 0
LosesSlots n old new = HasChanged old new (record (counts_on old) { lost = old.count.lost + n })

abbrev pub AcknowledgesSlots : ℕ → LaneLine → LaneLine → Type 0
AcknowledgesSlots n old new = HasChanged old new (record (counts_on old) { acknowledged = old.count.acknowledged + n })

abbrev pub RisesTo : ℕ → LaneLine → LaneLine → Type 0
RisesTo total old new = HasChanged old new (record (counts_on old) { demanded = max old.count.demanded total })

abbrev pub AllocatesSlots : ℕ → LaneLine → LaneLine → Type 0
AllocatesSlots n old new = HasChanged old new (record (counts_on old) { allocated = old.count.allocated + n })

-- the slots to a destination in those of the numbers that are found lost, and in those that are shown
abbrev pub slots_lost : List (Decided Telling) → ℕ → ℕ
slots_lost found dst = weight_lost (λ (telling : Telling). slots_to dst telling.told) found

abbrev pub slots_shown : List (Decided Telling) → ℕ → ℕ
slots_shown found dst = weight_shown (λ (telling : Telling). slots_to dst telling.told) found

abbrev pub DecidesSlots : ℕ → ℕ → LaneLine → LaneLine → Type 0
DecidesSlots shown lost old new = HasChanged old new (record (counts_on old) { acknowledged = old.count.acknowledged + shown; lost = old.count.lost + lost })

-- a request decides numbers, and raises a demand
abbrev pub Hears : ℕ → ℕ → ℕ → LaneLine → LaneLine → Type 0
Hears shown lost total old new = HasChanged old new (record {
  demanded = max old.count.demanded total;
  allocated = old.count.allocated;
  acknowledged = old.count.acknowledged + shown;
  lost = old.count.lost + lost;
})

-- what a line has to add to the need of its flow
abbrev pub add_on : LaneLine → ℕ
add_on line = line.count.demanded + line.count.lost - line.entered

-- whether a line's flow has an entry
abbrev pub has_entry : Bool → LaneLine → Bool
has_entry resets line = nat_lt 0 (add_on line) || (resets && line.opened)

-- the entry of a line's flow, where it has one, in a round in which a reset was taken or not
abbrev pub entry_on : LaneLine → Flow → Bool → Option Entry
entry_on line flow resets =
    if has_entry resets line
    then Some (record { flow = flow; opens = nat_lt 0 (add_on line) && not line.opened; clear = resets && line.opened; add = add_on line })
    else None

-- all that it owes is entered
pub record IsEntered (old new : LaneLine) : Type 0 where
  pub opened : new.opened ≡ (nat_lt 0 (add_on old) || old.opened)
  pub entered : new.entered ≡ old.count.demanded + old.count.lost
  pub count : HasCounts new.count (counts_on old)

-- its counts start again at 0
pub record HasStartedAgain (old new : LaneLine) : Type 0 where
  pub opened : new.opened ≡ old.opened
  pub entered : new.entered ≡ 0
  pub count : HasCounts new.count (record { demanded = 0; allocated = 0; acknowledged = 0; lost = 0 })

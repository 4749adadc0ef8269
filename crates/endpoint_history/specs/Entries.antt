-- The entries that a lane records in the batch of each round. From this project's own profile.
use Rattle.std.specs.Prelude.{ℕ, ◌+◌, ◌-◌, ◌&&◌, ◌||◌, Bool, false, not, nat_lt, List, [], ◌∷◌, ◌++◌, Option, Some, None, if◌then◌else◌}
use Rattle.greedy_rules.specs.declared.flows.Entry.{Entry}
use Rattle.endpoint_history.specs.Packets.{Resets}
use Rattle.endpoint_history.specs.Lane.{LaneHistory, TakesUp, Records, restarts}
use Rattle.endpoint_history.specs.Counts.{owed}

-- how many batches are recorded
abbrev pub rounds_recorded : LaneHistory → ℕ
rounds_recorded [] = 0
rounds_recorded (Records round ∷ earlier) = rounds_recorded earlier + 1
rounds_recorded (_ ∷ earlier) = rounds_recorded earlier

-- where the counting of the present round begins: after the batch recorded last, or the last reset
abbrev pub counted_from : LaneHistory → LaneHistory
counted_from [] = []
counted_from (Records round ∷ earlier) = Records round ∷ earlier
counted_from (TakesUp round (Resets epoch version) ∷ earlier) = if restarts earlier epoch then TakesUp round (Resets epoch version) ∷ earlier else counted_from earlier
counted_from (_ ∷ earlier) = counted_from earlier

-- a reset was taken since the batch recorded last
abbrev pub is_reset : LaneHistory → Bool
is_reset [] = false
is_reset (Records round ∷ earlier) = false
is_reset (TakesUp round (Resets epoch version) ∷ earlier) = restarts earlier epoch || is_reset earlier
is_reset (_ ∷ earlier) = is_reset earlier

-- by how much what is owed grew in the present round
abbrev pub added : ℕ → LaneHistory → ℕ → ℕ
added g history dst = owed g history dst - owed g (counted_from history) dst

-- there is an entry where it adds or clears; it opens where it adds and no batch has the flow
abbrev pub entry_with : ℕ → ℕ → Bool → Bool → ℕ → Option Entry
entry_with endpoint dst had clear add =
    if nat_lt 0 add || clear
    then Some (record { flow = record { src = endpoint; dst = dst }; opens = nat_lt 0 add && not had; clear = clear; add = add })
    else None

-- some batch recorded has the flow
abbrev pub had : ℕ → LaneHistory → ℕ → Bool
had g [] dst = false
had g (Records round ∷ earlier) dst = nat_lt 0 (added g earlier dst) || had g earlier dst
had g (_ ∷ earlier) dst = had g earlier dst

-- the flow's entry in the batch that is recorded next; it clears where a reset was taken and some batch has the flow
abbrev pub next_entry : ℕ → ℕ → LaneHistory → ℕ → Option Entry
next_entry endpoint g history dst = entry_with endpoint dst (had g history dst) (is_reset history && had g history dst) (added g history dst)

-- its entry in each batch recorded, the first batch first
abbrev pub entries_of_batches : ℕ → ℕ → LaneHistory → ℕ → List (Option Entry)
entries_of_batches endpoint g [] dst = []
entries_of_batches endpoint g (Records round ∷ earlier) dst = entries_of_batches endpoint g earlier dst ++ next_entry endpoint g earlier dst ∷ []
entries_of_batches endpoint g (_ ∷ earlier) dst = entries_of_batches endpoint g earlier dst

-- what the batches since the last reset add, with that of its round
abbrev pub adds : ℕ → LaneHistory → ℕ → ℕ
adds g [] dst = 0
adds g (Records round ∷ earlier) dst = adds g earlier dst + added g earlier dst
adds g (TakesUp round (Resets epoch version) ∷ earlier) dst = if restarts earlier epoch then 0 else adds g earlier dst
adds g (_ ∷ earlier) dst = adds g earlier dst

-- What a batch has settled once items of the demand list were fed to it, and the list was ended or not: its slots as they
-- stand, and of the list that it leaves the items that no later item can change or come before (this project's own profile).
use Rattle.std.specs.Prelude.{◌≡◌, ◌<◌, ℕ, List, [], ◌++◌, replicate, filter, Bool, true, false, ◌&&◌, ◌||◌, nat_lt, IsTrue, Some}
use Rattle.greedy_rules.specs.declared.flows.Flow.{Flow}
use Rattle.greedy_rules.specs.declared.flows.Item.{Item}
use Rattle.greedy_rules.specs.declared.flows.Entry.{Entry}
use Rattle.greedy_rules.specs.Batches.{DemandBatch, IsBatch}
use Rattle.greedy_rules.specs.Limits.{is_barred}
use Rattle.greedy_rules.specs.Demands.{OpensNewFlows, is_listed, opened, after_batch}
use Rattle.greedy_rules.specs.Allocation.{batch_slots, list_after_slots}
use Rattle.slot_batches.specs.FlowByFlow.{slots_after, items_after}
use Rattle.slot_batches.specs.Feeding.{has_served, taken_up, unserved}
use Rattle.slot_batches.specs.NextList.{IsListBefore}
use Rattle.slot_batches.specs.Pieces.{piece_count, piece_at, has_piece, next_piece}

-- the slots, the first of this number: those of the items taken up so far, and at the list's end those of the batch
abbrev pub slots_filled : DemandBatch → ℕ → ℕ → List Item → Bool → List (List Flow)
slots_filled batch number b fed false = slots_after (is_barred batch.limits) number (taken_up batch.entries fed false) (replicate b [])
slots_filled batch number b fed true = batch_slots (is_barred batch.limits) number b (after_batch batch.entries fed)

-- a flow counts as fed once an item of it was fed; one that opens, once an item that was served before was fed
abbrev pub counts_as_fed : List Entry → List Item → Flow → Bool
counts_as_fed batch fed flow = is_listed fed flow || (has_served fed && is_listed (opened batch) flow)

-- the item has no slot of the batch whose first slot has this number
abbrev pub has_no_slot : ℕ → Item → Bool
has_no_slot number item = nat_lt item.last number

-- the list that the batch leaves of a list
abbrev pub next_list : DemandBatch → ℕ → ℕ → List Item → List Item
next_list batch number b list = list_after_slots (is_barred batch.limits) number b (after_batch batch.entries list)

-- of the list that the batch leaves of a list, the items that count as fed and have no slot of the batch
abbrev pub settled_of : DemandBatch → ℕ → ℕ → List Item → List Item → List Item
settled_of batch number b list fed = filter (λ item. counts_as_fed batch.entries fed item.flow && has_no_slot number item) (next_list batch number b list)

-- the items settled: these, of what was fed so far; and at the list's end all
abbrev pub settled : DemandBatch → ℕ → ℕ → List Item → Bool → List Item
settled batch number b fed false = settled_of batch number b fed fed
settled batch number b fed true = next_list batch number b fed

-- they are those of the whole list, whatever is fed later; and flow by flow, of those taken up so far the ones without a slot
pub record AreSettled (batch : DemandBatch) (number b : ℕ) (fed rest : List Item) : Type 0 where
  pub whatever_follows : settled_of batch number b (fed ++ rest) fed ≡ settled batch number b fed false
  pub flow_by_flow : settled batch number b fed false ≡ unserved number (items_after (is_barred batch.limits) number (taken_up batch.entries fed false) (replicate b []))

abbrev pub SettledItemsCountAsFed : Type 0
SettledItemsCountAsFed =
    (batch : DemandBatch) (number b : ℕ) (fed rest : List Item) → IsBatch batch.entries → OpensNewFlows batch.entries (fed ++ rest) → IsListBefore number (fed ++ rest) → AreSettled batch number b fed rest

-- what is settled of a list fed in part stands at the front of the list that the batch leaves
abbrev pub SettledItemsStay : Type 0
SettledItemsStay =
    (batch : DemandBatch) (number b : ℕ) (fed rest : List Item) → 0 < number → IsBatch batch.entries → OpensNewFlows batch.entries (fed ++ rest) → IsListBefore number (fed ++ rest)
    → (more : List Item) × (settled batch number b (fed ++ rest) true ≡ settled batch number b fed false ++ more)

-- so the next piece, early or not, is the piece at its place of that list
abbrev pub EarlyPiecesAreOfTheList : Type 0
EarlyPiecesAreOfTheList =
    (batch : DemandBatch) (number b : ℕ) (fed rest : List Item) (finished : Bool) (stage given : ℕ) → 0 < number → IsBatch batch.entries → OpensNewFlows batch.entries (fed ++ rest)
    → IsListBefore number (fed ++ rest) → (finished ≡ true → rest ≡ []) → IsTrue (has_piece finished given (settled batch number b fed finished))
    → (given < piece_count (settled batch number b (fed ++ rest) true))
    × (next_piece stage finished given (settled batch number b fed finished) ≡ Some (piece_at stage (settled batch number b (fed ++ rest) true) given))

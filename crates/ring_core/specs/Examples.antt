-- Small windows in full.
use Rattle.std.specs.Prelude.{◌≡◌, ℕ, true, false, Bool, List, [], ◌∷◌, replicate}
use Rattle.greedy_rules.specs.declared.flows.Item.{Item}
use Rattle.greedy_rules.specs.Batches.{DemandBatch}
use Rattle.greedy_rules.specs.Examples.{opening_entry, waiting, in_one_rack}
use Rattle.slot_batches.specs.Pieces.{Part}
use Rattle.ring_core.specs.Windows.{window_of, turns_of}
use Rattle.ring_core.specs.Streams.{EdgeInto, edge_stream}

abbrev pub part : ℕ → ℕ → List Item → Bool → Part
part stage from items end = record { stage = stage; from = from; items = items; end = end }

-- the edge into a worker of so many, for these batches of two slots each, the first of them batch 0
abbrev pub edge_into : ℕ → ℕ → List Item → List DemandBatch → EdgeInto
edge_into worker workers list batches = record {
  window = record { list = list; batches = batches; first_batch = 0; b = 2; workers = workers };
  worker = worker;
}

-- The empty list has one piece without items, and with the end; the list that is left follows it.
abbrev pub AnEmptyListHasOnePiece : Type 0
AnEmptyListHasOnePiece =
    edge_stream (edge_into 0 1 [] (in_one_rack (opening_entry 0 1 3 ∷ []) ∷ []))
    ≡ part 0 0 [] true ∷ part 1 0 (waiting 0 1 1 2 ∷ []) true ∷ []

-- Of two workers the first is brought the list of the window and the one that it leaves, and the second the list between the two.
abbrev pub TwoWorkersTakeTurns : Type 0
TwoWorkersTakeTurns =
    (edge_stream (edge_into 0 2 [] (in_one_rack (opening_entry 0 1 3 ∷ []) ∷ in_one_rack [] ∷ [])) ≡ part 0 0 [] true ∷ part 2 0 (waiting 0 1 0 3 ∷ []) true ∷ [])
    × (edge_stream (edge_into 1 2 [] (in_one_rack (opening_entry 0 1 3 ∷ []) ∷ in_one_rack [] ∷ [])) ≡ part 1 0 (waiting 0 1 1 2 ∷ []) true ∷ [])

-- A worker without a stage is brought nothing.
abbrev pub AWorkerWithoutAStageIsBroughtNothing : Type 0
AWorkerWithoutAStageIsBroughtNothing = edge_stream (edge_into 2 3 [] (in_one_rack (opening_entry 0 1 3 ∷ []) ∷ [])) ≡ []

-- 65 items are two pieces.
abbrev pub SixtyFiveItemsAreTwoPieces : Type 0
SixtyFiveItemsAreTwoPieces =
    edge_stream (edge_into 0 1 (replicate 65 (waiting 0 1 0 0)) [])
    ≡ part 0 0 (replicate 64 (waiting 0 1 0 0)) false ∷ part 0 64 (waiting 0 1 0 0 ∷ []) true ∷ []

-- One piece of the empty list is taken up, and one given; then one is taken up again, and one given. Two pieces of 65 items
-- are taken up, and two given.
abbrev pub EachPieceTakesATurn : Type 0
EachPieceTakesATurn =
    (turns_of (window_of [] (in_one_rack (opening_entry 0 1 3 ∷ []) ∷ in_one_rack [] ∷ []) 0 2 2) ≡ 4)
    × (turns_of (window_of (replicate 65 (waiting 0 1 0 0)) (in_one_rack [] ∷ []) 0 2 1) ≡ 4)

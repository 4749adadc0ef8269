-- What a worker takes up, and where it is then.
use Rattle.std.proofs.Common.{◌≡◌, ◌<◌, ◌≤◌, ◌+◌, ◌-◌, ◌*◌, ◌/◌, ◌^◌, ℕ, Bool, true, false, cond, nat_le, nat_lt, List, ◌++◌, length, set, take, drop, Option, Some, None, slice_get, All, refl, sym, ap, ◌∙◌, subst, arith, inl, inr}
use Rattle.std.proofs.lemmas.Bool.{cases_Bool, cases_lt, both_ways, or_right, lt-leb, le-leb, leb-true, leb-false}
use Rattle.std.proofs.lemmas.Bool.Decides.{nat_tests}
use Rattle.std.proofs.lemmas.Option.{same_Some}
use Rattle.std.proofs.lemmas.List.{take-append-drop, take_all, take_at}
use Rattle.std.proofs.lemmas.List.Elements.{All-take, All-drop}
use Rattle.list_facts.proofs.Lists.{take_on}
use Rattle.greedy_rules.specs.declared.flows.Item.{Item}
use Rattle.greedy_rules.specs.Batches.{DemandBatch, entry_of}
use Rattle.greedy_rules.specs.Demands.{AreBelow, OpensNewFlows, opened, need_with}
use Rattle.greedy_rules.specs.Room.{FlowsFitPairs}
use Rattle.slot_batches.specs.declared.piece.Piece.{Piece}
use Rattle.slot_batches.specs.NextList.{IsListBefore, EveryBatchLeavesAList, EveryBatchKeepsItsFlows}
use Rattle.slot_batches.specs.Pieces.{Part, piece_count, piece_at, has_piece, next_piece, waiting_items, part_of}
use Rattle.slot_batches.specs.Settled.{settled}
use Rattle.slot_batches.specs.Stands.{IsSameWork, Stands, MayBeFed, ListsMayBeFed, StageState}
use Rattle.ring_core.specs.States.{WorkerState}
use Rattle.ring_core.specs.Windows.{Window, MayBePlayed, list_before_stage, batch_of, first_slot_in, pieces_before, worker_of, is_fed, items_fed, piece_given_next}
use Rattle.ring_core.specs.Streams.{IsPieceAt, pieces_into, edge_stream}
use Rattle.ring_core.specs.Ends.{WorkerEnds, one_taken}
use Rattle.ring_core.specs.Workers.{StageIsAt, HasPlayed}
use Rattle.ring_core.specs.Turns.{piece_to_push}
use Rattle.ring_core.proofs.WindowLemmas.{one_list_on, list_before, few_pieces}
use Rattle.ring_core.proofs.StreamLemmas.{own_here, stream_has, into_short}
use Rattle.ring_core.proofs.PlayLemmas.{to_push, with_stage}

ended_alike : (n fed : ℕ) → nat_le n (64 * (fed + 1)) ≡ nat_le ((n - 1) / 64 + 1) (fed + 1)
ended_alike n fed = elim (cases_lt (64 * (fed + 1)) n) [
  | inl more ↦ lt-leb n (64 * (fed + 1)) more ∙ sym (lt-leb ((n - 1) / 64 + 1) (fed + 1) (omega (arith, more)))
  | inr few ↦ le-leb n (64 * (fed + 1)) few ∙ sym (le-leb ((n - 1) / 64 + 1) (fed + 1) (omega (arith, few)))
]

has_none : (has : Bool) (x : Part) → cond has (Some x) None ≡ None → has ≡ false
has_none true x is = absurd (cc)
has_none false x is = refl

module _ (endpoints : ℕ) (window : Window) (stage fed given : ℕ) (may : MayBePlayed endpoints window) (below : stage < length window.batches) where
  abbrev list : List Item
  list = list_before_stage window stage

  abbrev batch : DemandBatch
  batch = batch_of window stage

  -- while a stage gives no piece its list has not ended
  pub not_ended : given < pieces_before window (stage + 1) → piece_given_next window stage fed given ≡ None → is_fed window stage fed ≡ false
  not_ended within none = elim (cases_Bool (is_fed window stage fed)) [
    | inr some ↦ some
    | inl all ↦
        let left : List Item = settled batch (first_slot_in window stage) window.b (items_fed window stage fed) true in
        let has : has_piece true given left ≡ false =
        has_none (has_piece true given left) (piece_at (stage + 1) left given)
        (subst (λ (b : Bool). next_piece (stage + 1) b given (settled batch (first_slot_in window stage) window.b (items_fed window stage fed) b) ≡ None) all none) in
        let enough : pieces_before window stage ≤ fed = leb-true (pieces_before window stage) fed all in
        let whole : items_fed window stage fed ≡ list = take_all (64 * fed) list (omega (arith, enough)) in
        let left_is : left ≡ list_before_stage window (stage + 1) = ap (λ (l : List Item). settled batch (first_slot_in window stage) window.b l true) whole ∙ sym (one_list_on window stage below) in
        let many : given < piece_count left = omega (arith, within, ap piece_count left_is) in
        absurd (both_ways (has_piece true given left) has (or_right (nat_lt 64 (length (waiting_items given left))) (nat_lt given (piece_count left)) (yes given (piece_count left) many)))
  ]
    where
      yes : (a b : ℕ) → a < b → nat_lt a b ≡ true
      yes a b less = grind (arith, nat_tests)

  pub fed_below : is_fed window stage fed ≡ false → fed < pieces_before window stage
  fed_below some = leb-false (pieces_before window stage) fed some

  -- the next piece's items may be fed
  pub one_piece_on : items_fed window stage fed ++ (piece_at stage list fed).items ≡ items_fed window stage (fed + 1)
  one_piece_on = sym (take_on (64 * fed) 64 list) ∙ ap (λ (n : ℕ). take n list) (let on : 64 * fed + 64 ≡ 64 * (fed + 1) = omega arith in on)

  pub may_be_fed : EveryBatchLeavesAList → ListsMayBeFed → MayBeFed batch.entries endpoints (first_slot_in window stage) (items_fed window stage (fed + 1))
  may_be_fed leaves feed =
      let front : List Item = items_fed window stage (fed + 1) in
      let rest : List Item = drop (64 * (fed + 1)) list in
      let whole : list ≡ front ++ rest = sym (take-append-drop (64 * (fed + 1)) list) in
      let applies = may.applies stage below in
      let all : List Item = list ++ opened batch.entries in
      let in_range : AreBelow endpoints list = subst (AreBelow endpoints) (take_at list (opened batch.entries) (length list) refl) (All-take (λ item. (item.flow.src < endpoints) × (item.flow.dst < endpoints)) (length list) all applies.below) in
      feed batch.entries endpoints (first_slot_in window stage) front rest (subst (IsListBefore (first_slot_in window stage)) whole (list_before endpoints window may leaves stage (omega (arith, below))))
      (subst (AreBelow endpoints) whole in_range) (subst (OpensNewFlows batch.entries) whole applies.opens)

  pub needs_fit : All (λ item. need_with (entry_of batch.entries item.flow) item.need < 2 ^ 32) (piece_at stage list fed).items
  needs_fit =
      All-take (λ (item : Item). need_with (entry_of batch.entries item.flow) item.need < 4294967296) 64 (drop (64 * fed) list)
      (All-drop (λ (item : Item). need_with (entry_of batch.entries item.flow) item.need < 4294967296) (64 * fed) list (may.applies stage below).needs)

module _ (batches : List DemandBatch) (ends : WorkerEnds) (w : WorkerState) (fed given : ℕ) (played : HasPlayed batches ends w fed given) (below : w.stage < length batches)
    (none : piece_to_push ends w ≡ None) where
  abbrev w_window : Window
  w_window = ends.before.window

  inside : w.stage < length w_window.batches
  inside = omega (arith, below, ap length played.window.batches_are)

  pub some_left : is_fed w_window w.stage fed ≡ false
  some_left = not_ended w.endpoints w_window w.stage fed given played.window.may inside played.given_within (sym (to_push batches ends w fed given played) ∙ none)

  pub fed_more : fed < pieces_before w_window w.stage
  fed_more = fed_below w.endpoints w_window w.stage fed given played.window.may inside some_left

  -- the piece that is there is the next of its list
  pub piece_is : (piece : Piece) → IsPieceAt ends.before ends.taken piece → part_of piece ≡ piece_at w.stage (list_before_stage w_window w.stage) fed
  piece_is piece is =
      let own : worker_of w_window.workers w.stage ≡ ends.before.worker =
      ap (λ (n : ℕ). worker_of n w.stage) played.window.workers_are ∙ (ap (worker_of w.workers) played.stage ∙ (own_here w.workers w.number w.place played.is_worker.number ∙ sym played.before)) in
      let at : ends.taken ≡ length (pieces_into w_window ends.before.worker w.stage) + fed = played.taken ∙ (played.taken_is ∙ ap (λ (n : ℕ). length (pieces_into w_window n w.stage) + fed) (sym played.before)) in
      let there = stream_has ends.before w.stage fed own (omega (arith, inside)) fed_more in
      same_Some (part_of piece) (piece_at w.stage (list_before_stage w_window w.stage) fed) (sym is ∙ (ap (slice_get (edge_stream ends.before)) at ∙ there))

  pub taken_short : EveryBatchKeepsItsFlows → FlowsFitPairs → w.taken + 1 < 2 ^ 32
  taken_short keeps pairs =
      let few = few_pieces w.endpoints w_window played.window.may keeps pairs in
      let short = into_short w_window w.number few w.stage (omega (arith, inside)) in
      omega (arith, played.taken_is, fed_more, few w.stage (omega (arith, inside)), short, inside, played.window.may.few_batches)

  -- and then the stage stands so
  pub at_more : (part : Part) (new : StageState) → part ≡ piece_at w.stage (list_before_stage w_window w.stage) fed
      → IsSameWork w.endpoints w_window.b (w.stage + 1) (first_slot_in w_window w.stage) new → Stands (batch_of w_window w.stage) (items_fed w_window w.stage fed ++ part.items) part.end given new
      → StageIsAt w.endpoints w_window w.stage (fed + 1) given new
  at_more part new is work stands = record {
    work = work;
    stands = subst (λ (l : List Item). Stands (batch_of w_window w.stage) l (is_fed w_window w.stage (fed + 1)) given new) (one_piece_on w.endpoints w_window w.stage fed given played.window.may inside)
        (subst (λ (b : Bool). Stands (batch_of w_window w.stage) (items_fed w_window w.stage fed ++ (piece_at w.stage (list_before_stage w_window w.stage) fed).items) b given new)
        (ended_alike (length (list_before_stage w_window w.stage)) fed)
        (subst (λ (p : Part). Stands (batch_of w_window w.stage) (items_fed w_window w.stage fed ++ p.items) p.end given new) is stands));
  }

  pub fed_on : (new : StageState) (h : Option Part) → h ≡ None → StageIsAt w.endpoints w_window w.stage (fed + 1) given new
      → HasPlayed batches (one_taken ends) (record w { stages = set w.stages w.place new; taken = w.taken + 1; held = h }) (fed + 1) given
  fed_on new h is at =
      rw is (with_stage batches ends w fed given played None (ends.taken + 1) (w.taken + 1) (fed + 1) new below (ap (λ (n : ℕ). n + 1) played.taken) (omega (arith, played.taken_is)) (omega (arith, fed_more)) tt at)

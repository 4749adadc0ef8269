-- What a worker pushes, and where it is then.
use Rattle.std.proofs.Common.{◌≡◌, ◌<◌, ◌≤◌, ◌+◌, ◌-◌, ◌*◌, ◌/◌, ◌^◌, ℕ, Bool, true, false, ◌&&◌, ◌||◌, cond, nat_le, nat_lt, List, [], ◌++◌, length, drop, Option, Some, None, slice_get, refl, sym, ap, ◌∙◌, subst, arith, inl, inr, length-append}
use Rattle.std.specs.Prelude.{is_some}
use Rattle.std.proofs.lemmas.Bool.{cases_Bool, cases_lt, leb-true, leb-false}
use Rattle.std.proofs.lemmas.Bool.Decides.{nat_tests}
use Rattle.std.proofs.lemmas.Nat.{mod_below, mul-le}
use Rattle.std.proofs.lemmas.Option.{same_Some}
use Rattle.std.proofs.lemmas.List.{length-drop, take-append-drop}
use Rattle.std.proofs.Math.ListN.{drop_of_length-le}
use Rattle.greedy_rules.specs.declared.flows.Item.{Item}
use Rattle.greedy_rules.specs.Batches.{DemandBatch}
use Rattle.greedy_rules.specs.Demands.{OpensNewFlows}
use Rattle.greedy_rules.specs.Room.{FlowsFitPairs}
use Rattle.greedy_rules.proofs.TableLemmas.{next_row}
use Rattle.slot_batches.specs.NextList.{IsListBefore, EveryBatchLeavesAList, EveryBatchKeepsItsFlows}
use Rattle.slot_batches.specs.Pieces.{Part, piece_count, piece_at, has_piece, next_piece}
use Rattle.slot_batches.specs.Settled.{settled, SettledItemsStay, EarlyPiecesAreOfTheList}
use Rattle.ring_core.specs.States.{WorkerState}
use Rattle.ring_core.specs.Windows.{Window, MayBePlayed, list_before_stage, batch_of, first_slot_in, pieces_before, worker_of, worker_after, is_fed, items_fed, piece_given_next}
use Rattle.ring_core.specs.Streams.{EdgeInto, pieces_into, edge_stream}
use Rattle.ring_core.specs.Ends.{WorkerEnds, one_sent}
use Rattle.ring_core.specs.Workers.{own_stage, StageIsAt, StageHasEnded, HasPlayed}
use Rattle.ring_core.proofs.WindowLemmas.{one_list_on, list_before, few_pieces}
use Rattle.ring_core.proofs.StreamLemmas.{own_here, next_own, stream_has, into_step, into_short}
use Rattle.ring_core.proofs.BeginLemmas.{ended_nodes, ended_slots}
use Rattle.ring_core.proofs.PlayLemmas.{held_is}

has_of : (has : Bool) (x p : Part) → cond has (Some x) None ≡ Some p → has ≡ true
has_of true x p is = refl
has_of false x p is = absurd (cc)

fed_all : (n count fed : ℕ) → count ≡ (n - 1) / 64 + 1 → nat_le count fed ≡ true → n ≤ 64 * fed
fed_all n count fed is le = let below : count ≤ fed = leb-true count fed le in omega (arith, is, below)

module _ (endpoints : ℕ) (window : Window) (stage fed given : ℕ) (part : Part) (may : MayBePlayed endpoints window) (leaves : EveryBatchLeavesAList) (stay : SettledItemsStay) (early : EarlyPiecesAreOfTheList)
    (below : stage < length window.batches) (is : piece_given_next window stage fed given ≡ Some part) where
  abbrev list : List Item
  list = list_before_stage window stage

  abbrev next : List Item
  next = list_before_stage window (stage + 1)

  abbrev batch : DemandBatch
  batch = batch_of window stage

  abbrev first : ℕ
  first = first_slot_in window stage

  abbrev finished : Bool
  finished = is_fed window stage fed

  abbrev front : List Item
  front = items_fed window stage fed

  abbrev rest : List Item
  rest = drop (64 * fed) list

  whole : front ++ rest ≡ list
  whole = take-append-drop (64 * fed) list

  has : has_piece finished given (settled batch first window.b front finished) ≡ true
  has = has_of (has_piece finished given (settled batch first window.b front finished)) (piece_at (stage + 1) (settled batch first window.b front finished) given) part is

  ended : finished ≡ true → rest ≡ []
  ended all = drop_of_length-le list (fed_all (length list) (pieces_before window stage) fed refl all)

  -- the list before the next stage
  next_is : settled batch first window.b (front ++ rest) true ≡ next
  next_is = ap (λ (l : List Item). settled batch first window.b l true) whole ∙ sym (one_list_on window stage below)

  opens : OpensNewFlows batch.entries (front ++ rest)
  opens = subst (OpensNewFlows batch.entries) (sym whole) (may.applies stage below).opens

  before : IsListBefore first (front ++ rest)
  before = subst (IsListBefore first) (sym whole) (list_before endpoints window may leaves stage (omega (arith, below)))

  positive : 0 < first
  positive = omega arith

  here : (given < piece_count (settled batch first window.b (front ++ rest) true))
      × (next_piece (stage + 1) finished given (settled batch first window.b front finished) ≡ Some (piece_at (stage + 1) (settled batch first window.b (front ++ rest) true) given))
  here = early batch first window.b front rest finished (stage + 1) given positive (may.applies stage below).rises opens before ended has

  pub part_is : part ≡ piece_at (stage + 1) next given
  part_is = same_Some part (piece_at (stage + 1) next given) (sym is ∙ (here.1 ∙ ap (λ (l : List Item). Some (piece_at (stage + 1) l given)) next_is))

  -- only once the list was fed to its end a piece has the end
  pub end_is_last : part.end ≡ true → finished ≡ true
  end_is_last last = elim (cases_Bool finished) [
    | inl all ↦ all
    | inr some ↦
        let kept = stay batch first window.b front rest positive (may.applies stage below).rises opens before in
        let early_part : List Item = settled batch first window.b front false in
        let many : has_piece false given early_part ≡ true = subst (λ (b : Bool). has_piece b given (settled batch first window.b front b) ≡ true) some has in
        let more : 64 < length (drop (64 * given) early_part) = more_than (length (drop (64 * given) early_part)) (false && nat_lt given (piece_count early_part)) refl many in
        let long : length next ≡ length early_part + length kept.0 = ap length (sym next_is ∙ kept.1) ∙ length-append early_part kept.0 in
        let few : length next ≤ 64 * (given + 1) = leb-true (length next) (64 * (given + 1)) (sym (ap (λ (p : Part). p.end) part_is) ∙ last) in
        absurd (omega (arith, more, length-drop (64 * given) early_part, long, few))
  ]
    where
      more_than : (n : ℕ) (b : Bool) → b ≡ false → (nat_lt 64 n || b) ≡ true → 64 < n
      more_than n b none is = grind (arith, nat_tests)

  pub last_given : part.end ≡ true → given < pieces_before window (stage + 1) → given + 1 ≡ pieces_before window (stage + 1)
  last_given last within = let few = leb-true (length next) (64 * (given + 1)) (sym (ap (λ (p : Part). p.end) part_is) ∙ last) in omega (arith, few, within)

  pub more_given : part.end ≡ false → given + 1 < pieces_before window (stage + 1)
  more_given last = let many = leb-false (length next) (64 * (given + 1)) (sym (ap (λ (p : Part). p.end) part_is) ∙ last) in omega (arith, many)

-- what the present stage gives next is the next of the stream out of the worker
pub gives_next : (batches : List DemandBatch) (ends : WorkerEnds) (w : WorkerState) (fed given : ℕ) (piece : Part) → HasPlayed batches ends w fed given → w.stage < length batches
    → piece_given_next ends.before.window w.stage fed given ≡ Some piece → EveryBatchLeavesAList → SettledItemsStay → EarlyPiecesAreOfTheList → slice_get (edge_stream ends.after) ends.sent ≡ Some piece
gives_next batches ends w fed given piece played below gives leaves stay early =
    let window : Window = ends.before.window in
    let inside : w.stage < length window.batches = omega (arith, below, ap length played.window.batches_are) in
    let after : EdgeInto = record { window = window; worker = worker_after w.workers w.number } in
    let is = part_is w.endpoints window w.stage fed given piece played.window.may leaves stay early inside gives in
    let own : worker_of window.workers (w.stage + 1) ≡ after.worker =
    ap (λ (n : ℕ). worker_of n (w.stage + 1)) played.window.workers_are ∙ (ap (λ (n : ℕ). worker_of w.workers (n + 1)) played.stage ∙ next_own w.workers w.number w.place played.is_worker.number) in
    let at : ends.sent ≡ length (pieces_into window after.worker (w.stage + 1)) + given = played.sent ∙ played.sent_is in
    subst (λ (e : EdgeInto). slice_get (edge_stream e) ends.sent ≡ Some piece) (sym played.after)
    (subst (λ (n : ℕ). slice_get (edge_stream after) n ≡ Some piece) (sym at)
    (stream_has after (w.stage + 1) given own (omega (arith, inside)) played.given_within ∙ ap (λ (p : Part). Some p) (sym is)))

module _ (batches : List DemandBatch) (ends : WorkerEnds) (w : WorkerState) (fed given : ℕ) (piece : Part) (played : HasPlayed batches ends w fed given) (held : w.held ≡ Some piece) where
  abbrev w_window : Window
  w_window = ends.before.window

  inside : w.stage < length w_window.batches
  inside = omega (arith, (held_is batches ends w fed given played piece held).0, ap length played.window.batches_are)

  -- it is the next of its stream
  pub pushes_next : EveryBatchLeavesAList → SettledItemsStay → EarlyPiecesAreOfTheList → slice_get (edge_stream ends.after) ends.sent ≡ Some piece
  pushes_next leaves stay early =
      let is = held_is batches ends w fed given played piece held in
      gives_next batches ends w fed given piece played is.0 is.1 leaves stay early

  pub sent_short : EveryBatchKeepsItsFlows → FlowsFitPairs → w.sent + 1 < 2 ^ 32
  sent_short keeps pairs =
      let few = few_pieces w.endpoints w_window played.window.may keeps pairs in
      let short = into_short w_window (worker_after w.workers w.number) few (w.stage + 1) (omega (arith, inside)) in
      omega (arith, played.sent_is, played.given_within, few (w.stage + 1) (omega (arith, inside)), short, inside, played.window.may.few_batches)

  pub stage_short : w.stage + w.workers < 2 ^ 32
  stage_short = omega (arith, inside, played.window.may.few_batches, played.window.may.few_workers, played.window.workers_are)

  pub place_short : w.place + 1 < 2 ^ 64
  place_short =
      let some : 1 ≤ w.workers = omega (arith, played.is_worker.number) in
      let within = mul-le w.place 1 w.place w.workers (omega arith) some in
      omega (arith, within, played.stage, inside, played.window.may.few_batches)

  -- the stage goes on
  pub sent_on : EveryBatchLeavesAList → SettledItemsStay → EarlyPiecesAreOfTheList → piece.end ≡ false → (h : Option Part) → h ≡ None → HasPlayed batches (one_sent ends) (record w { sent = w.sent + 1; held = h }) fed (given + 1)
  sent_on leaves stay early last h none =
      let is = held_is batches ends w fed given played piece held in
      let more = more_given w.endpoints w_window w.stage fed given piece played.window.may leaves stay early inside is.1 last in
      rw none (record {
        is_worker = record { number = played.is_worker.number; some_slots = played.is_worker.some_slots; few_batches = played.is_worker.few_batches; endpoints = played.is_worker.endpoints; sizes = played.is_worker.sizes; enough = played.is_worker.enough };
        window = record { may = played.window.may; batches_are = played.window.batches_are; first_is = refl; b_is = played.window.b_is; workers_are = played.window.workers_are };
        before = played.before;
        after = played.after;
        count = played.count;
        stage = played.stage;
        near = played.near;
        taken = played.taken;
        sent = ap (λ (n : ℕ). n + 1) played.sent;
        taken_is = played.taken_is;
        sent_is = omega (arith, played.sent_is);
        fed_within = played.fed_within;
        given_within = more;
        held = tt;
        past = λ past. absurd (omega (arith, past, is.0));
        ended = played.ended;
        present = λ state below at. subst (λ (g : ℕ). StageIsAt w.endpoints w_window w.stage fed g state) (ap (λ (o : Option Part). cond (is_some o) (given + 1) given) held) (played.present state below at);
        later = played.later;
        idle = played.idle;
      })

  fed_whole : EveryBatchLeavesAList → SettledItemsStay → EarlyPiecesAreOfTheList → piece.end ≡ true → fed ≡ pieces_before w_window w.stage
  fed_whole leaves stay early last =
      let is = held_is batches ends w fed given played piece held in
      let all = end_is_last w.endpoints w_window w.stage fed given piece played.window.may leaves stay early inside is.1 last in
      let at_least : pieces_before w_window w.stage ≤ fed = leb-true (pieces_before w_window w.stage) fed all in
      omega (arith, at_least, played.fed_within)

  -- and where the piece has the end, the next stage follows
  pub sent_last : EveryBatchLeavesAList → SettledItemsStay → EarlyPiecesAreOfTheList → piece.end ≡ true → (h : Option Part) → h ≡ None
      → HasPlayed batches (one_sent ends) (record w { stage = w.stage + w.workers; place = w.place + 1; sent = w.sent + 1; held = h }) 0 0
  sent_last leaves stay early last h none =
      let is = held_is batches ends w fed given played piece held in
      let next : ℕ = worker_after w.workers w.number in
      let workers_are = played.window.workers_are in
      let all = fed_whole leaves stay early last in
      let whole = last_given w.endpoints w_window w.stage fed given piece played.window.may leaves stay early inside is.1 last played.given_within in
      let below : w.number < w_window.workers = omega (arith, played.is_worker.number, workers_are) in
      let own : worker_of w_window.workers w.stage ≡ w.number =
      ap (λ (n : ℕ). worker_of n w.stage) workers_are ∙ (ap (worker_of w.workers) played.stage ∙ own_here w.workers w.number w.place played.is_worker.number) in
      let own_next : worker_of w_window.workers (w.stage + 1) ≡ next =
      ap (λ (n : ℕ). worker_of n (w.stage + 1)) workers_are ∙ (ap (λ (n : ℕ). worker_of w.workers (n + 1)) played.stage ∙ next_own w.workers w.number w.place played.is_worker.number) in
      let next_below : next < w_window.workers = omega (arith, mod_below (w.number + 1) w.workers (omega (arith, played.is_worker.number)), workers_are) in
      let taken_on : length (pieces_into w_window w.number (w.stage + w.workers)) ≡ length (pieces_into w_window w.number w.stage) + pieces_before w_window w.stage =
      ap (λ (n : ℕ). length (pieces_into w_window w.number (w.stage + n))) (sym workers_are) ∙ into_step w_window w.number w.stage below own in
      let turned : w.stage + w.workers + 1 ≡ w.stage + 1 + w_window.workers = omega (arith, workers_are) in
      let sent_on : length (pieces_into w_window next (w.stage + w.workers + 1)) ≡ length (pieces_into w_window next (w.stage + 1)) + pieces_before w_window (w.stage + 1) =
      ap (λ (n : ℕ). length (pieces_into w_window next n)) turned ∙ into_step w_window next (w.stage + 1) next_below own_next in
      let on : own_stage w.workers w.number (w.place + 1) ≡ w.stage + w.workers = omega (arith, next_row w.place w.workers, played.stage) in
      rw none (record {
        is_worker = record { number = played.is_worker.number; some_slots = played.is_worker.some_slots; few_batches = played.is_worker.few_batches; endpoints = played.is_worker.endpoints; sizes = played.is_worker.sizes; enough = played.is_worker.enough };
        window = record { may = played.window.may; batches_are = played.window.batches_are; first_is = refl; b_is = played.window.b_is; workers_are = workers_are };
        before = played.before;
        after = played.after;
        count = played.count;
        stage = sym on;
        near = omega (arith, is.0);
        taken = played.taken;
        sent = ap (λ (n : ℕ). n + 1) played.sent;
        taken_is = omega (arith, taken_on, played.taken_is, all);
        sent_is = omega (arith, sent_on, played.sent_is, whole);
        fed_within = omega arith;
        given_within = omega arith;
        held = tt;
        past = λ past. (refl, refl);
        ended = λ place state earlier at. elim (cases_lt place w.place) [
          | inl before ↦ played.ended place state before at
          | inr here ↦
              let same : place ≡ w.place = omega (arith, earlier, here) in
              let stage_is : own_stage w.workers w.number place ≡ w.stage = ap (own_stage w.workers w.number) same ∙ sym played.stage in
              let was = played.present state is.0 (ap (slice_get w.stages) (sym same) ∙ at) in
              let is_whole = subst (λ (f : ℕ). StageIsAt w.endpoints w_window w.stage f (cond (is_some w.held) (given + 1) given) state) all was in
              subst (λ (s : ℕ). StageHasEnded w.endpoints w_window s state) (sym stage_is)
              (record {
                work = was.work;
                slots = ended_slots w.endpoints w_window w.stage (cond (is_some w.held) (given + 1) given) state is_whole;
                none = ended_nodes w.endpoints w_window w.stage (cond (is_some w.held) (given + 1) given) state inside is_whole (ap (λ (o : Option Part). cond (is_some o) (given + 1) given) held ∙ whole);
              })
        ];
        present = λ state within at. subst (λ (s : ℕ). StageIsAt w.endpoints w_window s 0 0 state) on (played.later (w.place + 1) state (omega arith) (omega (arith, on, within)) at);
        later = λ place state after within at. played.later place state (omega (arith, after)) within at;
        idle = played.idle;
      })

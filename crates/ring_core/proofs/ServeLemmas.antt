-- A worker that serves the whole list of its present stage at once.
use Rattle.std.proofs.Common.{◌≡◌, ◌<◌, ◌≤◌, ◌+◌, ◌-◌, ◌*◌, ◌^◌, ℕ, zero, Bool, true, false, cond, List, [], ◌++◌, length, get_or, set, Option, Some, None, slice_get, refl, sym, ap, ◌∙◌, subst, arith, inl, inr, length-set}
use Rattle.std.specs.Prelude.{IfSome, is_some}
use Rattle.std.proofs.lemmas.Bool.{cases_lt}
use Rattle.std.proofs.lemmas.Nat.{mod_below}
use Rattle.std.proofs.lemmas.List.{append-nil, take_at}
use Rattle.std.proofs.lemmas.List.Elements.{All-set, All-take}
use Rattle.greedy_rules.specs.declared.flows.Item.{Item}
use Rattle.greedy_rules.specs.Batches.{DemandBatch}
use Rattle.greedy_rules.specs.Demands.{AreBelow, OpensNewFlows, opened}
use Rattle.greedy_rules.specs.Room.{FlowsFitPairs}
use Rattle.greedy_rules.proofs.TableLemmas.{next_row}
use Rattle.slot_batches.specs.NextList.{IsListBefore, EveryBatchLeavesAList, EveryBatchKeepsItsFlows}
use Rattle.slot_batches.specs.Pieces.{Part, next_piece}
use Rattle.slot_batches.specs.Settled.{slots_filled, settled}
use Rattle.slot_batches.specs.Stands.{StageState, IsSameWork, Stands, MayBeFed, ListsMayBeFed, stage_endpoints, batch_size_of, first_slot_of, stage_number, stage_slots}
use Rattle.slot_batches.proofs.NodeCounts.{settled-all}
use Rattle.slot_batches.proofs.SettledLemmas.{none_settled}
use Rattle.ring_core.specs.States.{WorkerState}
use Rattle.ring_core.specs.Windows.{Window, list_before_stage, batch_of, first_slot_in, pieces_before, piece_given_next, worker_of, worker_after}
use Rattle.ring_core.specs.Streams.{pieces_into}
use Rattle.ring_core.specs.Workers.{own_stage, StageIsAt, StageHasEnded}
use Rattle.ring_core.specs.Wholes.{own_ends, StartsStage}
use Rattle.ring_core.proofs.WindowLemmas.{one_list_on, list_before, few_pieces, few_after}
use Rattle.ring_core.proofs.StreamLemmas.{own_here, next_own, into_step, into_short}
use Rattle.ring_core.proofs.PlayLemmas.{get_set_same, get_set_other, idle_state}
use Rattle.ring_core.proofs.BeginLemmas.{none_fed}

-- a stage that was fed nothing gives nothing
pub none_first : (window : Window) (stage : ℕ) → piece_given_next window stage zero zero ≡ None
none_first window stage =
    ap (λ (b : Bool). next_piece (stage + 1) b 0 (settled (batch_of window stage) (first_slot_in window stage) window.b [] b)) (none_fed (length (list_before_stage window stage) - 1))
    ∙ ap (next_piece (stage + 1) false 0) (none_settled (batch_of window stage) (first_slot_in window stage) window.b)

none_held : (below : Type 0) (window : Window) (stage : ℕ) (held : Option Part) → IfSome held (λ part. below × (piece_given_next window stage zero zero ≡ Some part)) → held ≡ None
none_held below window stage None told = refl
none_held below window stage (Some part) told = let is = sym (none_first window stage) ∙ told.1 in absurd (cc)

module _ (batches : List DemandBatch) (window : Window) (w : WorkerState) (starts : StartsStage batches window w) (below : w.stage < length batches) where
  abbrev list : List Item
  list = list_before_stage window w.stage

  abbrev batch : DemandBatch
  batch = batch_of window w.stage

  pub inside : w.stage < length window.batches
  inside = omega (arith, below, ap length starts.window.batches_are)

  pub held_none : w.held ≡ None
  held_none = none_held (w.stage < length batches) window w.stage w.held starts.held

  pub state_at : (state : StageState) → state ≡ get_or w.stages w.place state → StageIsAt w.endpoints window w.stage zero zero state
  state_at state is = idle_state batches (own_ends window w) w 0 0 starts state below held_none is

  pub begun : (state : StageState) → state ≡ get_or w.stages w.place state → Stands batch [] false 0 state
  begun state is = subst (λ (b : Bool). Stands batch [] b 0 state) (none_fed (length list - 1)) (state_at state is).stands

  pub may_be_fed : (state : StageState) → state ≡ get_or w.stages w.place state → EveryBatchLeavesAList → ListsMayBeFed → MayBeFed batch.entries (stage_endpoints state) (first_slot_of state) list
  may_be_fed state is leaves feed =
      let at = state_at state is in
      let applies = starts.window.may.applies w.stage inside in
      let all : list ≡ list ++ [] = sym (append-nil list) in
      let range : AreBelow w.endpoints list = subst (AreBelow w.endpoints) (take_at list (opened batch.entries) (length list) refl) (All-take (λ (item : Item). (item.flow.src < w.endpoints) × (item.flow.dst < w.endpoints)) (length list) (list ++ opened batch.entries) applies.below) in
      let may = feed batch.entries w.endpoints (first_slot_in window w.stage) list [] (subst (IsListBefore (first_slot_in window w.stage)) all (list_before w.endpoints window starts.window.may leaves w.stage (omega (arith, inside))))
      (subst (AreBelow w.endpoints) all range) (subst (OpensNewFlows batch.entries) all applies.opens) in
      subst (λ (n : ℕ). MayBeFed batch.entries n (first_slot_of state) list) (sym at.work.same_endpoints) (subst (λ (n : ℕ). MayBeFed batch.entries w.endpoints n list) (sym at.work.same_first) may)

  -- the list that its batch leaves
  pub left_is : (state : StageState) → state ≡ get_or w.stages w.place state → settled batch (first_slot_of state) (batch_size_of state) list true ≡ list_before_stage window (w.stage + 1)
  left_is state is =
      let at = state_at state is in
      (λ i. settled batch (at.work.same_first i) (at.work.same_size i) list true) ∙ sym (one_list_on window w.stage inside)

  pub left_fits : (state : StageState) → state ≡ get_or w.stages w.place state → EveryBatchKeepsItsFlows → FlowsFitPairs → length (settled batch (first_slot_of state) (batch_size_of state) list true) ≤ w.endpoints * w.endpoints
  left_fits state is keeps pairs = omega (arith, ap length (left_is state is), few_after w.endpoints window starts.window.may keeps pairs w.stage inside)

  -- it has a node for each item by which that list is longer
  pub nodes_are : (state : StageState) → state ≡ get_or w.stages w.place state → state.nodes + length list ≡ length (list_before_stage window (w.stage + 1))
  nodes_are state is =
      omega (arith, (begun state is).nodes, settled-all batch (first_slot_of state) (batch_size_of state) list, ap length (left_is state is))

  pub taken_fits : EveryBatchKeepsItsFlows → FlowsFitPairs → w.taken + pieces_before window w.stage < 2 ^ 32
  taken_fits keeps pairs =
      let few = few_pieces w.endpoints window starts.window.may keeps pairs in
      let short = into_short window w.number few w.stage (omega (arith, inside)) in
      omega (arith, starts.taken_is, few w.stage (omega (arith, inside)), short, inside, starts.window.may.few_batches)

  pub sent_fits : EveryBatchKeepsItsFlows → FlowsFitPairs → w.sent + pieces_before window (w.stage + 1) < 2 ^ 32
  sent_fits keeps pairs =
      let few = few_pieces w.endpoints window starts.window.may keeps pairs in
      let short = into_short window (worker_after w.workers w.number) few (w.stage + 1) (omega (arith, inside)) in
      omega (arith, starts.sent_is, few (w.stage + 1) (omega (arith, inside)), short, inside, starts.window.may.few_batches)

  -- the worker as it then is
  abbrev pub served : StageState → ℕ → ℕ → ℕ → WorkerState
  served new stage taken sent = record w { stages = set w.stages w.place new; place = w.place + 1; stage = stage; taken = taken; sent = sent }

  pub starts_next : (state new : StageState) (stage taken sent : ℕ) → state ≡ get_or w.stages w.place state → IsSameWork (stage_endpoints state) (batch_size_of state) (stage_number state) (first_slot_of state) new
      → stage_slots new ≡ slots_filled batch (first_slot_of state) (batch_size_of state) list true → new.nodes ≡ 0 → stage ≡ w.stage + w.workers → taken ≡ w.taken + pieces_before window w.stage → sent ≡ w.sent + pieces_before window (w.stage + 1)
      → StartsStage batches window (served new stage taken sent)
  starts_next state new stage taken sent is work slots none stage_is taken_is sent_is =
      let at = state_at state is in
      let next : ℕ = worker_after w.workers w.number in
      let workers_are = starts.window.workers_are in
      let number_below : w.number < window.workers = omega (arith, starts.is_worker.number, workers_are) in
      let own : worker_of window.workers w.stage ≡ w.number = ap (λ (n : ℕ). worker_of n w.stage) workers_are ∙ (ap (worker_of w.workers) starts.stage ∙ own_here w.workers w.number w.place starts.is_worker.number) in
      let own_next : worker_of window.workers (w.stage + 1) ≡ next = ap (λ (n : ℕ). worker_of n (w.stage + 1)) workers_are ∙ (ap (λ (n : ℕ). worker_of w.workers (n + 1)) starts.stage ∙ next_own w.workers w.number w.place starts.is_worker.number) in
      let next_below : next < window.workers = omega (arith, mod_below (w.number + 1) w.workers (omega (arith, starts.is_worker.number)), workers_are) in
      let taken_on : length (pieces_into window w.number stage) ≡ length (pieces_into window w.number w.stage) + pieces_before window w.stage =
      ap (λ (n : ℕ). length (pieces_into window w.number n)) (stage_is ∙ ap (λ (n : ℕ). w.stage + n) (sym workers_are)) ∙ into_step window w.number w.stage number_below own in
      let turned : stage + 1 ≡ w.stage + 1 + window.workers = omega (arith, workers_are, stage_is) in
      let sent_on : length (pieces_into window next (stage + 1)) ≡ length (pieces_into window next (w.stage + 1)) + pieces_before window (w.stage + 1) =
      ap (λ (n : ℕ). length (pieces_into window next n)) turned ∙ into_step window next (w.stage + 1) next_below own_next in
      let on : own_stage w.workers w.number (w.place + 1) ≡ stage = omega (arith, next_row w.place w.workers, starts.stage, stage_is) in
      let is_new : StageHasEnded w.endpoints window w.stage new = record {
        work = record {
          same_endpoints = work.same_endpoints ∙ at.work.same_endpoints;
          same_size = work.same_size ∙ at.work.same_size;
          same_number = work.same_number ∙ at.work.same_number;
          same_first = work.same_first ∙ at.work.same_first;
        };
        slots = slots ∙ (λ i. slots_filled batch (at.work.same_first i) (at.work.same_size i) list true);
        none = none;
      } in
      let other : (place : ℕ) (s : StageState) → (place ≡ w.place → ⊥) → slice_get (set w.stages w.place new) place ≡ Some s → slice_get w.stages place ≡ Some s = λ place s apart there. sym (get_set_other w.stages w.place place new apart) ∙ there in
      record {
        is_worker = record {
          number = starts.is_worker.number;
          some_slots = starts.is_worker.some_slots;
          few_batches = starts.is_worker.few_batches;
          endpoints = All-set (λ s. stage_endpoints s ≡ w.endpoints) w.stages w.place new is_new.work.same_endpoints starts.is_worker.endpoints;
          sizes = All-set (λ s. batch_size_of s ≡ w.b) w.stages w.place new (is_new.work.same_size ∙ starts.window.b_is) starts.is_worker.sizes;
          enough = subst (λ (n : ℕ). w.batches ≤ own_stage w.workers w.number n) (sym (length-set w.stages w.place new)) starts.is_worker.enough;
        };
        window = record { may = starts.window.may; batches_are = starts.window.batches_are; first_is = refl; b_is = starts.window.b_is; workers_are = workers_are };
        before = refl;
        after = refl;
        count = starts.count;
        stage = sym on;
        near = omega (arith, below, stage_is);
        taken = refl;
        sent = refl;
        taken_is = omega (arith, taken_on, taken_is, starts.taken_is);
        sent_is = omega (arith, sent_on, sent_is, starts.sent_is);
        fed_within = omega arith;
        given_within = omega arith;
        held = subst (λ (h : Option Part). IfSome h (λ part. (stage < length batches) × (piece_given_next window stage zero zero ≡ Some part))) (sym held_none) tt;
        past = λ past. (refl, refl);
        ended = λ place s earlier there. elim (cases_lt place w.place) [
          | inl before ↦ starts.ended place s before (other place s (λ q. omega (arith, q, before)) there)
          | inr here ↦
              let same : place ≡ w.place = omega (arith, earlier, here) in
              let stage_here : own_stage w.workers w.number place ≡ w.stage = ap (own_stage w.workers w.number) same ∙ sym starts.stage in
              subst (λ (n : ℕ). StageHasEnded w.endpoints window n s) (sym stage_here) (subst (StageHasEnded w.endpoints window w.stage) (sym (get_set_same w.stages w.place new s (ap (slice_get (set w.stages w.place new)) (sym same) ∙ there))) is_new)
        ];
        present = λ s within there.
            let later : StageIsAt w.endpoints window (own_stage w.workers w.number (w.place + 1)) 0 0 s = starts.later (w.place + 1) s (omega arith) (omega (arith, on, within)) (other (w.place + 1) s (λ q. omega (arith, q)) there) in
            subst (λ (h : Option Part). StageIsAt w.endpoints window stage zero (cond (is_some h) (0 + 1) 0) s) (sym held_none) (subst (λ (n : ℕ). StageIsAt w.endpoints window n 0 0 s) on later);
        later = λ place s after within there. starts.later place s (omega (arith, after)) within (other place s (λ q. omega (arith, q, after)) there);
        idle = λ place s over there. starts.idle place s over (other place s (λ q. omega (arith, over, below, starts.stage, ap (own_stage w.workers w.number) q)) there);
      }

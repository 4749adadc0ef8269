-- The stages of a window served one after the other, each at once.
use Rattle.std.proofs.Common.{◌≡◌, ◌≢◌, ◌<◌, ◌≤◌, ◌+◌, ◌-◌, ◌*◌, ◌/◌, ◌%◌, ◌^◌, ℕ, zero, suc, List, length, get_or, set, Some, slice_get, refl, sym, ap, ◌∙◌, subst, arith, inl, inr, length-set, length-append}
use Rattle.std.proofs.lemmas.Bool.{cases_lt}
use Rattle.std.proofs.lemmas.Nat.{mod_below, div-add-mod'}
use Rattle.std.proofs.lemmas.Option.{slice_get_read}
use Rattle.greedy_rules.specs.declared.flows.Item.{Item}
use Rattle.greedy_rules.specs.Batches.{DemandBatch}
use Rattle.greedy_rules.specs.Room.{FlowsFitPairs}
use Rattle.slot_batches.specs.NextList.{EveryBatchKeepsItsFlows}
use Rattle.slot_batches.specs.Pieces.{piece_count, pieces}
use Rattle.ring_core.specs.States.{EdgeState, WorkerState}
use Rattle.ring_core.specs.Windows.{Window, list_before_stage, pieces_before, turns_below, worker_of}
use Rattle.ring_core.specs.Streams.{pieces_into, edge_stream}
use Rattle.ring_core.specs.Edges.{StreamsAreShort}
use Rattle.ring_core.specs.Workers.{own_stage, IsSameWorker}
use Rattle.ring_core.specs.Cores.{IsCrewed}
use Rattle.ring_core.specs.Wholes.{StartsStage, StartsFrom, HasPassed, StandsBefore}
use Rattle.ring_core.proofs.WindowLemmas.{few_items, few_pieces}
use Rattle.ring_core.proofs.StreamLemmas.{own_here, own_not, into_own, into_other, length-pieces}
use Rattle.ring_core.proofs.CountLemmas.{into_up}
use Rattle.ring_core.proofs.PlayLemmas.{get_set_same, get_set_other}

-- a worker's own stage that is no further than the workers' number from another own one is that one
pub same_stage : (workers worker place s stage : ℕ) → worker < workers → stage ≡ own_stage workers worker place → worker_of workers s ≡ worker → s ≤ stage → stage < s + workers → stage ≡ s
same_stage workers worker place s stage below is own from near = elim (cases_lt s stage) [
  | inr past ↦ omega (arith, from, past)
  | inl more ↦
      let d : ℕ = stage - s in
      let at : ℕ = s / workers in
      let here : own_stage workers worker at ≡ s = ap (λ (n : ℕ). at * workers + n) (sym own) ∙ div-add-mod' s workers in
      let there : own_stage workers worker at + d ≡ own_stage workers worker place = omega (arith, here, from, is) in
      absurd (own_not workers worker at d below (omega (arith, more)) (omega (arith, near, from)) (ap (worker_of workers) there ∙ own_here workers worker place below))
]

-- what an element of a list is, one of which was written
one_of : {X : Type 0} (P : ℕ → X → Type 0) (xs : List X) (at : ℕ) (new : X) → P at new → ((k : ℕ) (x : X) → k ≢ at → slice_get xs k ≡ Some x → P k x) → (k : ℕ) (x : X) → slice_get (set xs at new) k ≡ Some x → P k x
one_of P xs at new this others k x is = elim (cases_lt k at) [
  | inl before ↦ let apart : k ≢ at = λ q. omega (arith, q, before) in others k x apart (sym (get_set_other xs at k new apart) ∙ is)
  | inr past ↦ elim (cases_lt at k) [
    | inl beyond ↦ let apart : k ≢ at = λ q. omega (arith, q, beyond) in others k x apart (sym (get_set_other xs at k new apart) ∙ is)
    | inr not_beyond ↦
        let here : k ≡ at = omega (arith, past, not_beyond) in
        subst (λ (n : ℕ). P n x) (sym here) (subst (P at) (sym (get_set_same xs at new x (ap (slice_get (set xs at new)) (sym here) ∙ is))) this)
  ]
]

module _ (endpoints most : ℕ) (batches : List DemandBatch) (window : Window) (stage : ℕ) (crew : List WorkerState) (edges : List EdgeState) (list : List Item)
    (stands : StandsBefore endpoints most batches window stage crew edges list) (below : stage < length batches) where
  abbrev pub number : ℕ
  number = stage % window.workers

  pub number_below : number < window.workers
  number_below = mod_below stage window.workers stands.may.some_workers

  inside : stage < length window.batches
  inside = omega (arith, below, ap length stands.batches_are)

  pub few_here : EveryBatchKeepsItsFlows → FlowsFitPairs → length list ≤ 65536
  few_here keeps pairs = omega (arith, ap length stands.list_is, few_items endpoints window stands.may keeps pairs stage (omega (arith, inside)))

  pub few_next : EveryBatchKeepsItsFlows → FlowsFitPairs → (next : List Item) → next ≡ list_before_stage window (stage + 1) → length next ≤ 65536
  few_next keeps pairs next is = omega (arith, ap length is, few_items endpoints window stands.may keeps pairs (stage + 1) (omega (arith, inside)))

  pub turns_fit : EveryBatchKeepsItsFlows → FlowsFitPairs → turns_below window stage + (pieces_before window stage + pieces_before window (stage + 1)) < 2 ^ 62
  turns_fit keeps pairs = let few = few_turns (stage + 1) (omega (arith, inside)) in let on = ap (turns_below window) (let q : stage + 1 ≡ suc stage = omega arith in q) in omega (arith, few, on, inside, stands.may.few_batches)
    where
      few_turns : (s : ℕ) → s ≤ length window.batches → turns_below window s ≤ s * 2048
      few_turns zero within = omega arith
      few_turns (suc s) within =
          let few = few_pieces endpoints window stands.may keeps pairs in
          omega (arith, few_turns s (omega (arith, within)), few s (omega (arith, within)), few (s + 1) (omega (arith, within)))

  -- the edge that the list goes through
  module _ (e : EdgeState) (e_is : e ≡ get_or edges number e) where
    pub edge_there : slice_get edges number ≡ Some e
    edge_there = slice_get_read edges window.workers number e (sym stands.edge_count) number_below e_is

    into_next : length (pieces_into window number (stage + 1)) ≡ length (pieces_into window number stage) + pieces_before window stage
    into_next = ap length (into_own window number stage refl) ∙ (length-append (pieces_into window number stage) (pieces stage (list_before_stage window stage)) ∙ ap (λ (n : ℕ). length (pieces_into window number stage) + n) (length-pieces window stage))

    pub pass_fits : StreamsAreShort window → (count : ℕ) → count ≡ piece_count list → (e.taken + count < 2 ^ 32) × (e.sent + count < 2 ^ 32)
    unfolding edge_stream
    pass_fits short count is =
        let passed = stands.passed number e edge_there in
        let more = into_up window number (stage + 1) (length window.batches + 1) (omega (arith, inside)) in
        let all = short number in
        let one = is ∙ ap piece_count stands.list_is in
        (omega (arith, passed.taken, into_next, more, all, one), omega (arith, passed.sent, into_next, more, all, one))

    -- the worker that serves it
    module _ (w : WorkerState) (w_is : w ≡ get_or crew number w) where
      pub worker_there : slice_get crew number ≡ Some w
      worker_there = slice_get_read crew window.workers number w (sym stands.worker_count) number_below w_is

      pub starts_from : StartsFrom endpoints most batches window stage number w
      starts_from = stands.workers number w worker_there

      pub stage_is : w.stage ≡ stage
      stage_is =
          let crewed = starts_from.crewed in
          let at : w.stage ≡ own_stage window.workers number w.place = starts_from.starts.stage ∙ (λ i. own_stage (crewed.workers_is i) (crewed.number_is i) w.place) in
          same_stage window.workers number w.place stage w.stage number_below at refl starts_from.from starts_from.near

      pub list_here : list ≡ list_before_stage window w.stage
      list_here = stands.list_is ∙ ap (list_before_stage window) (sym stage_is)

      pub next_stands : (v : WorkerState) (f : EdgeState) (next : List Item) (count : ℕ) → StartsStage batches window v → IsSameWorker w v → v.stage ≡ w.stage + w.workers → next ≡ list_before_stage window (w.stage + 1)
          → count ≡ piece_count list → f.pieces ≡ e.pieces → f.taken ≡ e.taken + count → f.sent ≡ e.sent + count
          → StandsBefore endpoints most batches window (stage + 1) (set crew number v) (set edges number f) next
      next_stands v f next count starts same on next_is count_is held taken sent =
          let was = starts_from.crewed in
          let passed = stands.passed number e edge_there in
          let one = count_is ∙ ap piece_count stands.list_is in
          let suc_is : stage + 1 ≡ suc stage = omega arith in
          let crewed : IsCrewed window.workers endpoints most window.b number v = record {
            is_worker = starts.is_worker;
            number_is = same.same_number ∙ was.number_is;
            workers_is = same.same_workers ∙ was.workers_is;
            endpoints_is = same.same_endpoints ∙ was.endpoints_is;
            batches_is = same.same_batches ∙ was.batches_is;
            b_is = same.same_b ∙ was.b_is;
          } in
          record {
            may = stands.may;
            batches_are = stands.batches_are;
            worker_count = length-set crew number v ∙ stands.worker_count;
            edge_count = length-set edges number f ∙ stands.edge_count;
            list_is = next_is ∙ ap (λ (n : ℕ). list_before_stage window (n + 1)) stage_is;
            workers = one_of (StartsFrom endpoints most batches window (stage + 1)) crew number v
                (record { crewed = crewed; from = omega (arith, on, stage_is, was.workers_is, number_below); near = omega (arith, on, stage_is, was.workers_is); starts = starts })
                (λ k x other there.
                let it = stands.workers k x there in
                let own : worker_of window.workers x.stage ≡ k = (λ i. worker_of (sym it.crewed.workers_is i) x.stage) ∙ (ap (worker_of x.workers) it.starts.stage ∙ (own_here x.workers x.number x.place it.starts.is_worker.number ∙ it.crewed.number_is)) in
                let later : x.stage ≢ stage = λ q. other (sym own ∙ ap (worker_of window.workers) q) in
                let past : stage + 1 ≤ x.stage = elim (cases_lt stage x.stage) [
                  | inl more ↦ omega (arith, more)
                  | inr not_more ↦ absurd (later (omega (arith, not_more, it.from)))
                ] in
                record { crewed = it.crewed; from = past; near = omega (arith, it.near); starts = it.starts });
            passed = one_of (HasPassed window (stage + 1)) edges number f
                (record { none = held ∙ passed.none; taken = omega (arith, taken, passed.taken, into_next, one); sent = omega (arith, sent, passed.sent, into_next, one) })
                (λ k x other there.
                let it = stands.passed k x there in
                let same : length (pieces_into window k (stage + 1)) ≡ length (pieces_into window k stage) =
                ap length (ap (pieces_into window k) suc_is ∙ into_other window k stage (λ q. other (sym q))) in
                record { none = it.none; taken = it.taken ∙ sym same; sent = it.sent ∙ sym same });
          }

-- Where a list lies whole, and a ring as its stages begin to be served at once, and as they have been.
use Rattle.std.proofs.Common.{◌≡◌, ◌≢◌, ◌<◌, ◌≤◌, ◌+◌, ◌-◌, ◌*◌, ◌^◌, ℕ, suc, Bool, List, [], ◌++◌, length, set, cond, nat_eq, Option, Some, None, slice_get, refl, sym, ap, ◌∙◌, subst, arith, inl, inr, length-append}
use Rattle.std.proofs.lemmas.Bool.{cases_lt, cases_eq, ne_eqb}
use Rattle.std.proofs.lemmas.Nat.{mod_below}
use Rattle.std.proofs.lemmas.Option.{slice_get_within, same_Some}
use Rattle.greedy_rules.specs.declared.flows.Item.{Item}
use Rattle.greedy_rules.specs.Batches.{DemandBatch}
use Rattle.greedy_rules.specs.Room.{FlowsFitPairs}
use Rattle.slot_batches.specs.Pieces.{Part, piece_count, pieces}
use Rattle.ring_core.specs.States.{EdgeState, RingState, WorkerState}
use Rattle.ring_core.specs.Windows.{Window, list_before_stage, worker_of, worker_after}
use Rattle.ring_core.specs.Streams.{items_of, pieces_at, pieces_into, edge_stream}
use Rattle.ring_core.specs.Ends.{WorkerEnds}
use Rattle.ring_core.specs.Edges.{between, AllHold, taken_of, sent_on_edge, taken_at, sent_at, room_at}
use Rattle.ring_core.specs.Workers.{own_stage, HasPlayed, Plays}
use Rattle.ring_core.specs.Cores.{IsRing, IsPlaying, IsFinished, HasJustBegun, ends_in, window_in}
use Rattle.ring_core.specs.Wholes.{with_parts, with_list, lying_in, MayBeSent, own_ends, StartsFrom, StandsBefore}
use Rattle.ring_core.proofs.WindowLemmas.{first_list, few_before}
use Rattle.ring_core.proofs.StreamLemmas.{own_here, next_own, at_own, at_other, into_own, into_other}
use Rattle.ring_core.proofs.CountLemmas.{into_up, into_past}
use Rattle.ring_core.proofs.StartLemmas.{own_zero, front_of, between_front, first_pieces, first_count, found_sent, AreEmptied}
use Rattle.ring_core.proofs.PlayLemmas.{get_set_same, get_set_other}
use Rattle.ring_core.proofs.EndLemmas.{get_some, into_back, between_back}
use Rattle.ring_core.proofs.TakeLemmas.{items_are}
use Rattle.ring_core.proofs.WholeLemmas.{count_is, sent_into, parts_here, parts_other, parts_length, parts_room}

-- where no edge holds anything, no list lies whole
pub none_whole : (workers : ℕ) (whole : Option ℕ) (list : List Item) (edges : List EdgeState) → 0 < workers → length edges ≡ workers → AreEmptied (with_list whole workers list edges) → whole ≡ None
none_whole workers None list edges some count empty = refl
none_whole workers (Some stage) list edges some count empty =
    let number : ℕ = worker_of workers stage in
    let there = get_some edges number (omega (arith, mod_below stage workers some, count)) in
    let none = ap length (empty number _ (parts_here number (pieces stage list) edges there.0 there.1)).0 in
    absurd (omega (arith, none, count_is stage list))

-- the edges but one hold nothing: then what lies there are the items of that one's pieces
module _ (workers : ℕ) (list : List Item) (edges : List EdgeState) (k : ℕ) (raw edge : EdgeState) (some : 0 < workers) (count : length edges ≡ workers) (raw_is : slice_get edges k ≡ Some raw) where
  abbrev Others : Option ℕ → Type 0
  Others whole = (number : ℕ) (e : EdgeState) → number ≢ k → slice_get (with_list whole workers list edges) number ≡ Some e → e.pieces ≡ []

  -- the edge that a whole list counts for is that one
  lies_at : (stage : ℕ) → Others (Some stage) → worker_of workers stage ≡ k
  lies_at stage others =
      let number : ℕ = worker_of workers stage in
      let there = get_some edges number (omega (arith, mod_below stage workers some, count)) in
      elim (cases_eq number k) [
        | inl same ↦ same
        | inr apart ↦
            let none = ap length (others number _ apart (parts_here number (pieces stage list) edges there.0 there.1)) in
            absurd (omega (arith, none, count_is stage list))
      ]

  parts_at : (stage : ℕ) → Others (Some stage) → slice_get (with_list (Some stage) workers list edges) k ≡ Some edge → edge ≡ sent_into raw (pieces stage list)
  parts_at stage others is =
      let at = lies_at stage others in
      let here : slice_get (with_parts k (pieces stage list) edges) k ≡ Some edge = ap (λ (n : ℕ). slice_get (with_parts n (pieces stage list) edges) k) (sym at) ∙ is in
      same_Some edge (sent_into raw (pieces stage list)) (sym here ∙ parts_here k (pieces stage list) edges raw raw_is)

  pub lying : (whole : Option ℕ) → Others whole → slice_get (with_list whole workers list edges) k ≡ Some edge → lying_in whole list raw ≡ items_of edge.pieces
  lying None others is = ap (λ (e : EdgeState). items_of e.pieces) (same_Some raw edge (sym raw_is ∙ is))
  lying (Some stage) others is = sym (items_are stage list) ∙ ap (λ (e : EdgeState). items_of e.pieces) (sym (parts_at stage others is))

  pub counts : (whole : Option ℕ) → Others whole → slice_get (with_list whole workers list edges) k ≡ Some edge → MayBeSent whole workers list edges → edge.taken + length edge.pieces + 1 < 2 ^ 32 → raw.taken + length raw.pieces + 1 < 2 ^ 32
  counts None others is may fits = subst (λ (e : EdgeState). e.taken + length e.pieces + 1 < 4294967296) (same_Some edge raw (sym is ∙ raw_is)) fits
  counts (Some stage) others is may fits =
      let at = lies_at stage others in
      let none = (may.1 raw (ap (slice_get edges) at ∙ raw_is)).0 in
      let taken = ap (λ (e : EdgeState). e.taken) (parts_at stage others is) in
      omega (arith, ap length none, taken, fits)

  -- once that one's pieces are handed over, none holds anything
  pub handed : (whole : Option ℕ) → Others whole → MayBeSent whole workers list edges → (new : EdgeState) → (whole ≡ None → new.pieces ≡ []) → ((stage : ℕ) → whole ≡ Some stage → new ≡ raw)
      → (number : ℕ) (e : EdgeState) → slice_get (set edges k new) number ≡ Some e → e.pieces ≡ []
  handed None others may new empty stays number e is = elim (cases_eq number k) [
    | inl here ↦
        ap (λ (x : EdgeState). x.pieces) (get_set_same edges k new e (ap (slice_get (set edges k new)) (sym here) ∙ is)) ∙ empty refl
    | inr apart ↦ others number e apart (sym (get_set_other edges k number new apart) ∙ is)
  ]
  handed (Some stage) others may new empty stays number e is =
      let at = lies_at stage others in
      elim (cases_eq number k) [
        | inl here ↦
            ap (λ (x : EdgeState). x.pieces) (get_set_same edges k new e (ap (slice_get (set edges k new)) (sym here) ∙ is) ∙ stays stage refl) ∙ (may.1 raw (ap (slice_get edges) at ∙ raw_is)).0
        | inr apart ↦
            others number e apart (parts_other (worker_of workers stage) number (pieces stage list) edges (λ q. apart (q ∙ at)) ∙ (sym (get_set_other edges k number new apart) ∙ is))
      ]

-- as a window begins
module _ (batches : List DemandBatch) (core : RingState) (playing : IsPlaying batches core) (begun : HasJustBegun core) where
  abbrev window : Window
  window = window_in batches core

  pub first_holds : (edge : EdgeState) → slice_get core.edges 0 ≡ Some edge → items_of edge.pieces ≡ core.list
  unfolding edge_stream
  first_holds edge is =
      let holds = playing.holds.each 0 edge is in
      let taken : edge.taken ≡ 0 = sym (ap taken_of is) ∙ begun.none_taken 0 in
      let sent : edge.sent ≡ piece_count core.list = sym (ap sent_on_edge is) ∙ begun.list_sent 0 in
      let front : pieces_into window 0 1 ≡ pieces 0 core.list = at_own window 0 0 (own_zero window.workers playing.ring.some_workers) ∙ first_pieces window in
      let all = front_of window 0 (length batches) 1 in
      let on : length batches + 1 ≡ 1 + length batches = omega arith in
      let stream : pieces_into window 0 (length batches + 1) ≡ pieces 0 core.list ++ all.0 = ap (pieces_into window 0) on ∙ (all.1 ∙ ap (λ (ps : List Part). ps ++ all.0) front) in
      let held : edge.pieces ≡ pieces 0 core.list = holds.pieces ∙ ((λ i. between (taken i) edge.sent (stream i)) ∙ between_front (pieces 0 core.list) all.0 edge.sent (sent ∙ sym (count_is 0 core.list))) in
      ap items_of held ∙ items_are 0 core.list

  pub others_hold_none : (number : ℕ) (edge : EdgeState) → number ≢ 0 → slice_get core.edges number ≡ Some edge → edge.pieces ≡ []
  others_hold_none number edge other is =
      let holds = playing.holds.each number edge is in
      let taken : edge.taken ≡ 0 = sym (ap taken_of is) ∙ begun.none_taken number in
      let sent : edge.sent ≡ 0 = sym (ap sent_on_edge is) ∙ (begun.list_sent number ∙ ap (λ (b : Bool). cond b (piece_count core.list) 0) (ne_eqb number 0 other)) in
      holds.pieces ∙ (λ i. between (taken i) (sent i) (edge_stream (record { window = window; worker = number })))

  others_start : (number : ℕ) (edge : EdgeState) → number ≢ 0 → slice_get core.edges number ≡ Some edge → (edge.pieces ≡ []) × (edge.taken ≡ 0) × (edge.sent ≡ 0)
  others_start number edge other is = (
    others_hold_none number edge other is,
    sym (ap taken_of is) ∙ begun.none_taken number,
    sym (ap sent_on_edge is) ∙ (begun.list_sent number ∙ ap (λ (b : Bool). cond b (piece_count core.list) 0) (ne_eqb number 0 other)),
  )

  -- the edges as the code has them, once the list lies whole
  pub lifted : (list : List Item) (raw : List EdgeState) (whole : Option ℕ) (old new : EdgeState) → core.edges ≡ with_list whole core.workers list raw → MayBeSent whole core.workers list raw → slice_get raw 0 ≡ Some old
      → lying_in whole list old ≡ core.list → (whole ≡ None → (new.pieces ≡ []) × (new.taken ≡ 0) × (new.sent ≡ 0)) → ((stage : ℕ) → whole ≡ Some stage → new ≡ old) → AreEmptied (set raw 0 new)
  lifted list raw None old new laid may old_is lies empty stays number edge is = elim (cases_lt 0 number) [
    | inl later ↦
        let apart : number ≢ 0 = λ q. omega (arith, q, later) in
        let there : slice_get core.edges number ≡ Some edge = ap (λ (es : List EdgeState). slice_get es number) laid ∙ (sym (get_set_other raw 0 number new apart) ∙ is) in
        others_start number edge apart there
    | inr here ↦
        let at : number ≡ 0 = omega (arith, here) in
        let same : edge ≡ new = get_set_same raw 0 new edge (ap (slice_get (set raw 0 new)) (sym at) ∙ is) in
        subst (λ (e : EdgeState). (e.pieces ≡ []) × (e.taken ≡ 0) × (e.sent ≡ 0)) (sym same) (empty refl)
  ]
  lifted list raw (Some stage) old new laid may old_is lies empty stays number edge is =
      let some = playing.ring.some_workers in
      let count : length raw ≡ core.workers = sym (parts_length (worker_of core.workers stage) (pieces stage list) raw) ∙ (ap length (sym laid) ∙ playing.ring.edge_count) in
      let lies_here = lies_at core.workers list raw 0 old old some count old_is stage (λ k e other there. others_hold_none k e other (ap (λ (es : List EdgeState). slice_get es k) laid ∙ there)) in
      let first : slice_get core.edges 0 ≡ Some (sent_into old (pieces stage list)) =
      ap (λ (es : List EdgeState). slice_get es 0) laid ∙ (ap (λ (n : ℕ). slice_get (with_parts n (pieces stage list) raw) 0) lies_here ∙ parts_here 0 (pieces stage list) raw old old_is) in
      elim (cases_lt 0 number) [
        | inl later ↦
            let apart : number ≢ 0 = λ q. omega (arith, q, later) in
            let there : slice_get core.edges number ≡ Some edge =
            ap (λ (es : List EdgeState). slice_get es number) laid
            ∙ (parts_other (worker_of core.workers stage) number (pieces stage list) raw (λ q. apart (q ∙ lies_here)) ∙ (sym (get_set_other raw 0 number new apart) ∙ is)) in
            others_start number edge apart there
        | inr here ↦
            let at : number ≡ 0 = omega (arith, here) in
            let same : edge ≡ old = get_set_same raw 0 new edge (ap (slice_get (set raw 0 new)) (sym at) ∙ is) ∙ stays stage refl in
            let held = (may.1 old (ap (slice_get raw) lies_here ∙ old_is)).0 in
            let taken : old.taken ≡ 0 = sym (ap taken_of first) ∙ begun.none_taken 0 in
            let all : old.sent + length (pieces stage list) ≡ piece_count core.list = sym (ap sent_on_edge first) ∙ begun.list_sent 0 in
            let sent : old.sent ≡ 0 = omega (arith, all, count_is stage list, ap piece_count lies) in
            subst (λ (e : EdgeState). (e.pieces ≡ []) × (e.taken ≡ 0) × (e.sent ≡ 0)) (sym same) (held, taken, sent)
      ]

  pub list_fits : FlowsFitPairs → 0 < length batches → length core.list ≤ core.endpoints * core.endpoints
  list_fits pairs some = omega (arith, ap length (first_list window), few_before core.endpoints window playing.may pairs 0 (omega (arith, some)))

  worker_starts : (number : ℕ) (w : WorkerState) → slice_get core.crew number ≡ Some w → StartsFrom core.endpoints core.batches batches window 0 number w
  worker_starts number w is =
      let crewed = playing.ring.each number w is in
      let plays = playing.plays number w is in
      let fed : ℕ = plays.0 in
      let given : ℕ = plays.1 in
      let played = plays.2 in
      let below : w.number < core.workers = omega (arith, played.is_worker.number, crewed.workers_is) in
      let none : w.taken ≡ 0 = sym played.taken ∙ begun.none_taken number in
      let own_first : worker_of window.workers w.number ≡ w.number = ap (worker_of window.workers) (let q : w.number ≡ own_stage window.workers w.number 0 = omega arith in q) ∙ own_here window.workers w.number 0 below in
      let first : w.stage ≡ w.number = elim (cases_lt w.number w.stage) [
        | inl past ↦ absurd (omega (arith, into_past window w.number w.number w.stage own_first past, played.taken_is, none))
        | inr not_past ↦ omega (arith, not_past, played.stage)
      ] in
      let fed_none : fed ≡ 0 = omega (arith, played.taken_is, none) in
      let after : worker_after w.workers w.number ≡ worker_after core.workers number = λ i. worker_after (crewed.workers_is i) (crewed.number_is i) in
      let found = (found_sent window number playing.ring.some_workers (omega (arith, below, crewed.number_is))).1 in
      let found_is : sent_at core.edges (worker_after core.workers number) ≡ length (pieces_into window (worker_after core.workers number) (number + 1)) =
      begun.list_sent (worker_after core.workers number) ∙ (ap (λ (n : ℕ). cond (nat_eq (worker_after core.workers number) 0) n 0) (first_count window) ∙ found) in
      let there : length (pieces_into window (worker_after w.workers w.number) (w.stage + 1)) ≡ length (pieces_into window (worker_after core.workers number) (number + 1)) = λ i. length (pieces_into window (after i) ((first ∙ crewed.number_is) i + 1)) in
      let given_none : given ≡ 0 = omega (arith, played.sent, played.sent_is, found_is, there) in
      let ends : ends_in batches core number ≡ own_ends window w = λ i. record {
        before = record { window = window; worker = sym crewed.number_is i };
        after = record { window = window; worker = sym after i };
        taken = played.taken i;
        sent = played.sent i;
      } in
      record {
        crewed = crewed;
        from = omega arith;
        near = omega (arith, first, below);
        starts = subst (λ (e : WorkerEnds). HasPlayed batches e w 0 0) ends (subst (λ (n : ℕ). HasPlayed batches (ends_in batches core number) w n 0) fed_none (subst (λ (n : ℕ). HasPlayed batches (ends_in batches core number) w fed n) given_none played));
      }

  pub stands_first : (edges : List EdgeState) (list : List Item) → length edges ≡ core.workers → AreEmptied edges → list ≡ core.list → StandsBefore core.endpoints core.batches batches window 0 core.crew edges list
  stands_first edges list count empty list_is = record {
    may = playing.may;
    batches_are = refl;
    worker_count = playing.ring.worker_count;
    edge_count = count;
    list_is = list_is ∙ sym (first_list window);
    workers = worker_starts;
    passed = λ number edge is. let it = empty number edge is in record { none = it.0; taken = it.1; sent = it.2 };
  }

-- once all stages have served their lists
module _ (batches : List DemandBatch) (core : RingState) (playing : IsPlaying batches core) (crew : List WorkerState) (edges : List EdgeState) (list : List Item)
    (stands : StandsBefore core.endpoints core.batches batches (window_in batches core) (length batches) crew edges list) (rooms : (number : ℕ) → room_at edges number ≡ room_at core.edges number) (spare : ℕ) (nodes : spare ≡ core.spare) where
  abbrev w_window : Window
  w_window = window_in batches core

  abbrev stages : ℕ
  stages = length batches

  abbrev last : ℕ
  last = worker_of core.workers stages

  abbrev pub laid : List EdgeState
  laid = with_parts last (pieces stages list) edges

  on : stages + 1 ≡ suc stages
  on = omega arith

  laid_at : (k : ℕ) (edge : EdgeState) → slice_get laid k ≡ Some edge
      → (edge.taken ≡ length (pieces_into w_window k stages)) × (edge.sent ≡ length (pieces_into w_window k (stages + 1))) × (edge.pieces ≡ pieces_at w_window k stages)
  laid_at k edge is = elim (cases_eq k last) [
    | inl here ↦
        let there = get_some edges last (omega (arith, mod_below stages core.workers playing.ring.some_workers, stands.edge_count)) in
        let same : edge ≡ sent_into there.0 (pieces stages list) = same_Some edge (sent_into there.0 (pieces stages list)) (sym is ∙ (ap (slice_get laid) here ∙ parts_here last (pieces stages list) edges there.0 there.1)) in
        let passed = stands.passed last there.0 there.1 in
        let into : length (pieces_into w_window last (stages + 1)) ≡ length (pieces_into w_window last stages) + length (pieces stages list) =
        ap length (into_own w_window last stages refl) ∙ (length-append (pieces_into w_window last stages) (pieces stages (list_before_stage w_window stages)) ∙ ap (λ (l : List Item). length (pieces_into w_window last stages) + length (pieces stages l)) (sym stands.list_is)) in
        let sent : there.0.sent + length (pieces stages list) ≡ length (pieces_into w_window last (stages + 1)) = omega (arith, passed.sent, into) in (
          ap (λ (e : EdgeState). e.taken) same ∙ (passed.taken ∙ ap (λ (n : ℕ). length (pieces_into w_window n stages)) (sym here)),
          ap (λ (e : EdgeState). e.sent) same ∙ (sent ∙ ap (λ (n : ℕ). length (pieces_into w_window n (stages + 1))) (sym here)),
          ap (λ (e : EdgeState). e.pieces) same ∙ (ap (pieces stages) stands.list_is ∙ sym (at_own w_window k stages (sym here))),
        )
    | inr apart ↦
        let passed = stands.passed k edge (sym (parts_other last k (pieces stages list) edges apart) ∙ is) in
        let other : worker_of core.workers stages ≡ k → ⊥ = λ q. apart (sym q) in
        let same : length (pieces_into w_window k (stages + 1)) ≡ length (pieces_into w_window k stages) = ap length (ap (pieces_into w_window k) on ∙ into_other w_window k stages other) in
        (passed.taken, passed.sent ∙ sym same, passed.none ∙ sym (at_other w_window k stages other))
  ]

  laid_holds : AllHold w_window laid
  unfolding edge_stream
  laid_holds = record {
    each = λ k edge is.
        let told = laid_at k edge is in
        let up = into_up w_window k stages (stages + 1) (omega arith) in
        let stream : pieces_into w_window k (stages + 1) ≡ pieces_into w_window k stages ++ pieces_at w_window k stages = ap (pieces_into w_window k) on in
        record {
          order = omega (arith, told.0, told.1, up);
          within = omega (arith, told.1);
          pieces = told.2 ∙ sym (ap (between edge.taken edge.sent) stream ∙ between_back (pieces_into w_window k stages) (pieces_at w_window k stages) edge.taken edge.sent told.0 (told.1 ∙ ap length stream));
        };
  }

  laid_plays : (number : ℕ) (w : WorkerState) → slice_get crew number ≡ Some w → Plays batches (ends_in batches (record core { edges = laid; crew = crew; spare = spare }) number) w
  laid_plays number w is =
      let it = stands.workers number w is in
      let crewed = it.crewed in
      let starts = it.starts in
      let below : number < core.workers = omega (arith, slice_get_within crew number w is, stands.worker_count) in
      let next : ℕ = worker_after core.workers number in
      let next_below : next < core.workers = mod_below (number + 1) core.workers playing.ring.some_workers in
      let after : worker_after w.workers w.number ≡ next = λ i. worker_after (crewed.workers_is i) (crewed.number_is i) in
      let d : ℕ = w.stage - stages in
      let near : d < core.workers = omega (arith, it.near, it.from, below) in
      let own : worker_of core.workers w.stage ≡ number = (λ i. worker_of (sym crewed.workers_is i) w.stage) ∙ (ap (worker_of w.workers) starts.stage ∙ (own_here w.workers w.number w.place starts.is_worker.number ∙ crewed.number_is)) in
      let own_next : worker_of core.workers (w.stage + 1) ≡ next = (λ i. worker_of (sym crewed.workers_is i) (w.stage + 1)) ∙ (ap (λ (n : ℕ). worker_of w.workers (n + 1)) starts.stage ∙ (next_own w.workers w.number w.place starts.is_worker.number ∙ after)) in
      let back = into_back w_window number w.stage d below own near (omega arith) ∙ ap (pieces_into w_window number) (let q : w.stage - d ≡ stages = omega (arith, it.from) in q) in
      let back_next = into_back w_window next (w.stage + 1) d next_below own_next near (omega arith) ∙ ap (pieces_into w_window next) (let q : w.stage + 1 - d ≡ stages + 1 = omega (arith, it.from) in q) in
      let edge = get_some laid number (omega (arith, parts_length last (pieces stages list) edges, stands.edge_count, below)) in
      let other = get_some laid next (omega (arith, parts_length last (pieces stages list) edges, stands.edge_count, next_below)) in
      let taken_is : length (pieces_into w_window w.number w.stage) ≡ length (pieces_into w_window number stages) = ap (λ (n : ℕ). length (pieces_into w_window n w.stage)) crewed.number_is ∙ ap length back in
      let sent_is : length (pieces_into w_window (worker_after w.workers w.number) (w.stage + 1)) ≡ length (pieces_into w_window next (stages + 1)) = ap (λ (n : ℕ). length (pieces_into w_window n (w.stage + 1))) after ∙ ap length back_next in
      let taken : w.taken ≡ taken_at laid number = omega (arith, starts.taken_is, taken_is, (laid_at number edge.0 edge.1).0, ap taken_of edge.1) in
      let sent : w.sent ≡ sent_at laid next = omega (arith, starts.sent_is, sent_is, (laid_at next other.0 other.1).1, ap sent_on_edge other.1) in
      let ends : own_ends w_window w ≡ ends_in batches (record core { edges = laid; crew = crew; spare = spare }) number = λ i. record {
        before = record { window = w_window; worker = crewed.number_is i };
        after = record { window = w_window; worker = after i };
        taken = taken i;
        sent = sent i;
      } in
      (0, 0, subst (λ (e : WorkerEnds). HasPlayed batches e w 0 0) ends starts)

  laid_ring : IsRing (record core { edges = laid; crew = crew; spare = spare })
  laid_ring = record {
    some_workers = playing.ring.some_workers;
    few_workers = playing.ring.few_workers;
    few_batches = playing.ring.few_batches;
    edge_count = parts_length last (pieces stages list) edges ∙ stands.edge_count;
    worker_count = stands.worker_count;
    rooms = λ number within. parts_room last (pieces stages list) edges number ∙ (rooms number ∙ playing.ring.rooms number within);
    each = λ number w is. (stands.workers number w is).crewed;
  }

  pub laid_playing : IsPlaying batches (record core { edges = laid; crew = crew; spare = spare })
  laid_playing = record {
    ring = laid_ring;
    stages = playing.stages;
    may = playing.may;
    short = playing.short;
    holds = laid_holds;
    nodes = ap (λ (n : ℕ). n + length (list_before_stage w_window stages)) nodes ∙ playing.nodes;
    plays = laid_plays;
  }

  pub laid_finished : IsFinished (record core { edges = laid; crew = crew; spare = spare })
  laid_finished number w is = omega (arith, playing.stages, (stands.workers number w is).from)

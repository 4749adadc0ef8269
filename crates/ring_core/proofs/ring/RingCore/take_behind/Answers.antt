use Rattle.std.proofs.Common.{◌≡◌, ◌≢◌, ◌<◌, ◌≤◌, ◌+◌, ◌-◌, ◌%◌, ℕ, List, [], length, set, get_or, Option, Some, None, slice_get, sym, ap, ◌∙◌, subst, arith, length-set}
use Rattle.std.specs.Vec.{with_item}
use Rattle.std.proofs.lemmas.Nat.{mod_below}
use Rattle.std.proofs.lemmas.Option.{slice_get_read}
use Rattle.greedy_rules.specs.declared.flows.Item.{Item}
use Rattle.greedy_rules.specs.Batches.{DemandBatch}
use Rattle.greedy_rules.specs.Schedule.{rest_from}
use Rattle.ring_core.specs.contracts.ring.RingCore.{the_view}
use Rattle.ring_core.specs.declared.whole.Whole.{Whole}
use Rattle.ring_core.specs.States.{EdgeState, RingState}
use Rattle.ring_core.specs.Edges.{room_at, room_of}
use Rattle.ring_core.specs.Cores.{IsAtRest, IsPlaying, IsFinished, pairs_of, window_in}
use Rattle.ring_core.specs.Wholes.{with_list, room_for, whole_nodes, MayBeSent}
use Rattle.ring_core.proofs.BeginLemmas.{written}
use Rattle.ring_core.proofs.EdgeLemmas.{room_kept}
use Rattle.ring_core.proofs.EndLemmas.{get_some, last_list}
use Rattle.ring_core.proofs.StreamLemmas.{at_other}
use Rattle.ring_core.proofs.StartLemmas.{few_pairs}
use Rattle.ring_core.proofs.TakeLemmas.{last_items, last_is, counts_fit, few_left, rest_with}
use Rattle.ring_core.proofs.WholeLemmas.{list_length, list_room}
use Rattle.ring_core.proofs.LyingLemmas.{lying, counts, handed}
use Rattle.ring_core.proofs.ring.RingCore.take_behind.Goals as goal

others_empty : (batches : List DemandBatch) (core : RingState) → IsPlaying batches core → IsFinished core → (number : ℕ) (e : EdgeState) → number ≢ length batches % core.workers → slice_get core.edges number ≡ Some e → e.pieces ≡ []
others_empty batches core playing finished number e other is = last_list batches core playing finished number e is ∙ at_other (window_in batches core) number (length batches) (λ q. other (sym q))

pub hand_over-requires-clause-room : goal.hand_over-requires-clause-room
hand_over-requires-clause-room c =
    let batches = c.requires.room.0 in
    let core : RingState = the_view c.self.inside in
    let playing : IsPlaying batches core = subst (IsPlaying c.requires.room.0) (sym c.self.view_is) c.requires.room.1 in
    let finished : IsFinished core = subst IsFinished (sym c.self.view_is) c.requires.finished in
    let raw : List EdgeState = c.self.inside.edges.items in
    let whole = c.self.inside.whole in
    let count : length raw ≡ core.workers = sym (list_length whole.stage core.workers whole.list.items raw) ∙ playing.ring.edge_count in
    let len : c.len.result ≡ core.workers = omega (arith, c.len.ensures, c.self.inside.edges.ok.0, count) in
    let at : ℕ = length batches % core.workers in
    let within : at < core.workers = mod_below (length batches) core.workers playing.ring.some_workers in
    let old : EdgeState = c.index_mut.result.now in
    let old_is : slice_get raw at ≡ Some old = slice_get_read raw core.workers at old (sym count) within (c.index_mut.ensures.value ∙ (λ i. get_or raw (playing.stages i % len i) old)) in
    let edge = get_some core.edges at (omega (arith, within, playing.ring.edge_count)) in
    let others = others_empty batches core playing finished in
    let lies = lying core.workers whole.list.items raw at old edge.0 playing.ring.some_workers count old_is whole.stage others edge.1 in
    let rest = last_items batches core playing finished edge.0 edge.1 in
    let fits = subst (λ (v : RingState). length (rest_from v.b v.first_batch v.list batches) ≤ length c.args.list.now.items + c.args.list.now.spare) (sym c.self.view_is) c.requires.room.2 in
    omega (arith, ap length (lies ∙ rest), fits)

pub hand_over-requires-clause-counts : goal.hand_over-requires-clause-counts
hand_over-requires-clause-counts c =
    let batches = c.requires.room.0 in
    let core : RingState = the_view c.self.inside in
    let playing : IsPlaying batches core = subst (IsPlaying c.requires.room.0) (sym c.self.view_is) c.requires.room.1 in
    let finished : IsFinished core = subst IsFinished (sym c.self.view_is) c.requires.finished in
    let raw : List EdgeState = c.self.inside.edges.items in
    let whole = c.self.inside.whole in
    let count : length raw ≡ core.workers = sym (list_length whole.stage core.workers whole.list.items raw) ∙ playing.ring.edge_count in
    let len : c.len.result ≡ core.workers = omega (arith, c.len.ensures, c.self.inside.edges.ok.0, count) in
    let at : ℕ = length batches % core.workers in
    let within : at < core.workers = mod_below (length batches) core.workers playing.ring.some_workers in
    let old : EdgeState = c.index_mut.result.now in
    let old_is : slice_get raw at ≡ Some old = slice_get_read raw core.workers at old (sym count) within (c.index_mut.ensures.value ∙ (λ i. get_or raw (playing.stages i % len i) old)) in
    let edge = get_some core.edges at (omega (arith, within, playing.ring.edge_count)) in
    let others = others_empty batches core playing finished in
    counts core.workers whole.list.items raw at old edge.0 playing.ring.some_workers count old_is whole.stage others edge.1 c.self.invariant.2 (counts_fit batches core playing at edge.0 edge.1)

pub returns-clause-list : goal.returns-clause-list
returns-clause-list c =
    rw (← c.self.view_is) (λ every plays.
    let batches = every in
    let core : RingState = the_view c.self.inside in
    let playing : IsPlaying batches core = plays in
    let finished : IsFinished core = subst IsFinished (sym c.self.view_is) c.requires.finished in
    let raw : List EdgeState = c.self.inside.edges.items in
    let whole = c.self.inside.whole in
    let count : length raw ≡ core.workers = sym (list_length whole.stage core.workers whole.list.items raw) ∙ playing.ring.edge_count in
    let len : c.len.result ≡ core.workers = omega (arith, c.len.ensures, c.self.inside.edges.ok.0, count) in
    let at : ℕ = length batches % core.workers in
    let within : at < core.workers = mod_below (length batches) core.workers playing.ring.some_workers in
    let old : EdgeState = c.index_mut.result.now in
    let old_is : slice_get raw at ≡ Some old = slice_get_read raw core.workers at old (sym count) within (c.index_mut.ensures.value ∙ (λ i. get_or raw (playing.stages i % len i) old)) in
    let edge = get_some core.edges at (omega (arith, within, playing.ring.edge_count)) in
    let others = others_empty batches core playing finished in
    let lies = lying core.workers whole.list.items raw at old edge.0 playing.ring.some_workers count old_is whole.stage others edge.1 in
    c.hand_over.ensures.items ∙ (lies ∙ last_items batches core playing finished edge.0 edge.1))

-- with no list that lies whole the edges are as the code has them
left_whole : (workers : ℕ) (new : Whole) (edges items : List EdgeState) → new.stage ≡ None → items ≡ edges → with_list new.stage workers new.list.items items ≡ edges
left_whole workers new edges items none is = ap (λ (o : Option ℕ). with_list o workers new.list.items items) none ∙ is

pub hand_over-requires-clause-fits : goal.hand_over-requires-clause-fits
hand_over-requires-clause-fits c =
    let batches = c.requires.room.0 in
    let core : RingState = the_view c.self.inside in
    let playing : IsPlaying batches core = subst (IsPlaying c.requires.room.0) (sym c.self.view_is) c.requires.room.1 in
    let finished : IsFinished core = subst IsFinished (sym c.self.view_is) c.requires.finished in
    let raw : List EdgeState = c.self.inside.edges.items in
    let whole = c.self.inside.whole in
    let count : length raw ≡ core.workers = sym (list_length whole.stage core.workers whole.list.items raw) ∙ playing.ring.edge_count in
    let len : c.len.result ≡ core.workers = omega (arith, c.len.ensures, c.self.inside.edges.ok.0, count) in
    let at : ℕ = length batches % core.workers in
    let within : at < core.workers = mod_below (length batches) core.workers playing.ring.some_workers in
    let old : EdgeState = c.index_mut.result.now in
    let old_is : slice_get raw at ≡ Some old = slice_get_read raw core.workers at old (sym count) within (c.index_mut.ensures.value ∙ (λ i. get_or raw (playing.stages i % len i) old)) in
    let edge = get_some core.edges at (omega (arith, within, playing.ring.edge_count)) in
    let others = others_empty batches core playing finished in
    let lies = lying core.workers whole.list.items raw at old edge.0 playing.ring.some_workers count old_is whole.stage others edge.1 ∙ last_items batches core playing finished edge.0 edge.1 in
    omega (arith, ap length lies, few_left batches core playing, c.self.invariant.4)

pub restart_edges-requires : goal.restart_edges-requires
restart_edges-requires c =
    let batches = c.requires.room.0 in
    let core : RingState = the_view c.self.inside in
    let playing : IsPlaying batches core = subst (IsPlaying c.requires.room.0) (sym c.self.view_is) c.requires.room.1 in
    let finished : IsFinished core = subst IsFinished (sym c.self.view_is) c.requires.finished in
    let raw : List EdgeState = c.self.inside.edges.items in
    let whole = c.self.inside.whole in
    let count : length raw ≡ core.workers = sym (list_length whole.stage core.workers whole.list.items raw) ∙ playing.ring.edge_count in
    let len : c.len.result ≡ core.workers = omega (arith, c.len.ensures, c.self.inside.edges.ok.0, count) in
    let at : ℕ = length batches % core.workers in
    let within : at < core.workers = mod_below (length batches) core.workers playing.ring.some_workers in
    let old : EdgeState = c.index_mut.result.now in
    let old_is : slice_get raw at ≡ Some old = slice_get_read raw core.workers at old (sym count) within (c.index_mut.ensures.value ∙ (λ i. get_or raw (playing.stages i % len i) old)) in
    let edge = get_some core.edges at (omega (arith, within, playing.ring.edge_count)) in
    let others = others_empty batches core playing finished in
    let here : ℕ = c.self.inside.stages % c.len.result in
    let here_is : here ≡ at = λ i. playing.stages i % len i in
    let new : EdgeState = c.hand_over.new.edge in
    record {
      empty = λ number e is.
          handed core.workers whole.list.items raw at old edge.0 playing.ring.some_workers count old_is whole.stage others c.self.invariant.2 new c.hand_over.ensures.taken c.hand_over.ensures.stays number e
          (ap (λ (n : ℕ). slice_get (set raw n new) number) (sym here_is) ∙ (ap (λ (es : List EdgeState). slice_get es number) (sym c.deref_mut.ensures.value) ∙ is));
    }

-- no list lies whole
none_sent : (o : Option ℕ) (workers : ℕ) (list : List Item) (edges : List EdgeState) → o ≡ None → MayBeSent o workers list edges
none_sent None workers list edges is = tt
none_sent (Some stage) workers list edges is = cc

pub invariant_of-self : goal.invariant_of-self
invariant_of-self c =
    let batches = c.requires.room.0 in
    let core : RingState = the_view c.self.inside in
    let playing : IsPlaying batches core = subst (IsPlaying c.requires.room.0) (sym c.self.view_is) c.requires.room.1 in
    let finished : IsFinished core = subst IsFinished (sym c.self.view_is) c.requires.finished in
    let raw : List EdgeState = c.self.inside.edges.items in
    let whole = c.self.inside.whole in
    let count : length raw ≡ core.workers = sym (list_length whole.stage core.workers whole.list.items raw) ∙ playing.ring.edge_count in
    let len : c.len.result ≡ core.workers = omega (arith, c.len.ensures, c.self.inside.edges.ok.0, count) in
    let at : ℕ = length batches % core.workers in
    let within : at < core.workers = mod_below (length batches) core.workers playing.ring.some_workers in
    let old : EdgeState = c.index_mut.result.now in
    let old_is : slice_get raw at ≡ Some old = slice_get_read raw core.workers at old (sym count) within (c.index_mut.ensures.value ∙ (λ i. get_or raw (playing.stages i % len i) old)) in
    let edge = get_some core.edges at (omega (arith, within, playing.ring.edge_count)) in
    let others = others_empty batches core playing finished in
    let lies = lying core.workers whole.list.items raw at old edge.0 playing.ring.some_workers count old_is whole.stage others edge.1 ∙ last_items batches core playing finished edge.0 edge.1 in
    let left = c.hand_over.ensures.items ∙ lies in
    let nodes : length c.hand_over.new.spare ≡ pairs_of core.endpoints = omega (arith, c.hand_over.ensures.nodes, c.self.invariant.3, playing.nodes, ap length (last_is (window_in batches core)), ap length left) in
    let none = c.hand_over.ensures.none in
    let new = c.hand_over.new.self in (
      omega (arith, c.hand_over.ensures.room, c.self.invariant.0),
      omega (arith, ap room_for c.hand_over.ensures.left, c.self.invariant.1),
      none_sent new.stage core.workers new.list.items _ none,
      omega (arith, ap (λ (o : Option ℕ). whole_nodes o new.list.items) none),
      omega (arith, nodes, few_pairs core.endpoints playing.may.few_endpoints),
    )

pub returns-clause-rest : goal.returns-clause-rest
returns-clause-rest c =
    let batches = c.requires.room.0 in
    let core : RingState = the_view c.self.inside in
    let playing : IsPlaying batches core = subst (IsPlaying c.requires.room.0) (sym c.self.view_is) c.requires.room.1 in
    let finished : IsFinished core = subst IsFinished (sym c.self.view_is) c.requires.finished in
    let raw : List EdgeState = c.self.inside.edges.items in
    let whole = c.self.inside.whole in
    let count : length raw ≡ core.workers = sym (list_length whole.stage core.workers whole.list.items raw) ∙ playing.ring.edge_count in
    let len : c.len.result ≡ core.workers = omega (arith, c.len.ensures, c.self.inside.edges.ok.0, count) in
    let at : ℕ = length batches % core.workers in
    let within : at < core.workers = mod_below (length batches) core.workers playing.ring.some_workers in
    let old : EdgeState = c.index_mut.result.now in
    let old_is : slice_get raw at ≡ Some old = slice_get_read raw core.workers at old (sym count) within (c.index_mut.ensures.value ∙ (λ i. get_or raw (playing.stages i % len i) old)) in
    let edge = get_some core.edges at (omega (arith, within, playing.ring.edge_count)) in
    let others = others_empty batches core playing finished in
    let here : ℕ = c.self.inside.stages % c.len.result in
    let here_is : here ≡ at = λ i. playing.stages i % len i in
    let new : EdgeState = c.hand_over.new.edge in
    let empty : List EdgeState = c.restart_edges.new.edges in
    let inside : here < length raw = omega (arith, here_is, within, count) in
    let room : new.room ≡ room_at raw here = c.hand_over.ensures.edge ∙ (sym (ap room_of old_is) ∙ ap (room_at raw) (sym here_is)) in
    let were = written (with_item c.self.inside.edges here new) empty c.deref_mut.result.now c.deref_mut.ensures.value c.restart_edges.ensures.count in
    let empty_count : length empty ≡ length core.edges = c.restart_edges.ensures.count ∙ (ap length c.deref_mut.ensures.value ∙ (length-set raw here new ∙ (count ∙ sym playing.ring.edge_count))) in
    let lies = lying core.workers whole.list.items raw at old edge.0 playing.ring.some_workers count old_is whole.stage others edge.1 ∙ last_items batches core playing finished edge.0 edge.1 in
    let left = c.hand_over.ensures.items ∙ lies in
    let nodes : length c.hand_over.new.spare ≡ pairs_of core.endpoints = omega (arith, c.hand_over.ensures.nodes, c.self.invariant.3, playing.nodes, ap length (last_is (window_in batches core)), ap length left) in
    let spare : length c.hand_over.new.spare - whole_nodes c.hand_over.new.self.stage c.hand_over.new.self.list.items ≡ pairs_of core.endpoints =
    omega (arith, nodes, ap (λ (o : Option ℕ). whole_nodes o c.hand_over.new.self.list.items) c.hand_over.ensures.none) in
    subst (λ (es : List EdgeState). IsAtRest (record core { edges = es; spare = length c.hand_over.new.spare - whole_nodes c.hand_over.new.self.stage c.hand_over.new.self.list.items }))
    (sym (left_whole core.workers c.hand_over.new.self empty _ c.hand_over.ensures.none were))
    (rest_with batches core empty (length c.hand_over.new.spare - whole_nodes c.hand_over.new.self.stage c.hand_over.new.self.list.items) playing finished empty_count
    (λ k. c.restart_edges.ensures.rooms k ∙ (ap (λ (es : List EdgeState). room_at es k) c.deref_mut.ensures.value ∙ (room_kept raw here new k room inside ∙ sym (list_room whole.stage core.workers whole.list.items raw k))))
    c.restart_edges.ensures.empty spare)

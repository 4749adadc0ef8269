use Rattle.std.proofs.Common.{◌≡◌, ◌<◌, ℕ, List, length, set, Option, None, slice_get, refl, sym, ap, ◌∙◌, subst, arith, length-set}
use Rattle.greedy_rules.specs.declared.flows.Item.{Item}
use Rattle.greedy_rules.specs.Batches.{DemandBatch}
use Rattle.greedy_rules.specs.Demands.{Demands}
use Rattle.slot_batches.specs.Pieces.{piece_count}
use Rattle.ring_core.specs.contracts.ring.RingCore.{the_view}
use Rattle.ring_core.specs.States.{EdgeState, RingState, WorkerState}
use Rattle.ring_core.specs.Windows.{window_of}
use Rattle.ring_core.specs.Edges.{taken_at, sent_at, room_at, room_of}
use Rattle.ring_core.specs.Openings.{crew_openings}
use Rattle.ring_core.specs.Cores.{IsAtRest, MayStart}
use Rattle.ring_core.specs.Wholes.{with_list, room_for, whole_nodes, MayBeSent}
use Rattle.ring_core.proofs.BeginLemmas.{written}
use Rattle.ring_core.proofs.EndLemmas.{get_some}
use Rattle.ring_core.proofs.WholeLemmas.{list_length}
use Rattle.ring_core.proofs.LyingLemmas.{none_whole}
use Rattle.ring_core.proofs.StartLemmas.{AreEmptied, starts_at, ring_playing, may_begin, none_taken, list_sent, nodes_found}
use Rattle.ring_core.proofs.ring.RingCore.begin.Goals as goal

-- the ring at rest, and what it is to begin
abbrev Asked : ℕ → List DemandBatch → List Item → RingState → Type 0
Asked first batches list core = IsAtRest core × MayStart core first batches list

-- no list lies whole, so the edges are as the code has them
module _ (whole : Option ℕ) (list : List Item) (raw : List EdgeState) (core : RingState) (rest : IsAtRest core) (edges_are : core.edges ≡ with_list whole core.workers list raw) where
  raw_count : length raw ≡ core.workers
  raw_count = sym (list_length whole core.workers list raw) ∙ (ap length (sym edges_are) ∙ rest.ring.edge_count)

  no_whole : whole ≡ None
  no_whole = none_whole core.workers whole list raw rest.ring.some_workers raw_count (λ number edge is. rest.none_lies number edge (ap (λ (es : List EdgeState). slice_get es number) edges_are ∙ is))

  are_raw : core.edges ≡ raw
  are_raw = edges_are ∙ ap (λ (o : Option ℕ). with_list o core.workers list raw) no_whole

  no_nodes : whole_nodes whole list ≡ 0
  no_nodes = ap (λ (o : Option ℕ). whole_nodes o list) no_whole

pub take_over-pieces-requires-clause-nodes : goal.take_over-pieces-requires-clause-nodes
take_over-pieces-requires-clause-nodes c =
    let core : RingState = the_view c.self.inside in
    let asked : Asked c.args.first_batch c.args.batches.now c.args.list.now.items core = subst (Asked c.args.first_batch c.args.batches.now c.args.list.now.items) (sym c.self.view_is) (c.requires.rest, c.requires.may) in
    omega (arith, asked.0.nodes, asked.1.fits, no_nodes c.self.inside.whole.stage c.self.inside.whole.list.items c.self.inside.edges.items core asked.0 refl)

pub take_over-pieces-requires-clause-first : goal.take_over-pieces-requires-clause-first
take_over-pieces-requires-clause-first c =
    let core : RingState = the_view c.self.inside in
    let asked : Asked c.args.first_batch c.args.batches.now c.args.list.now.items core = subst (Asked c.args.first_batch c.args.batches.now c.args.list.now.items) (sym c.self.view_is) (c.requires.rest, c.requires.may) in
    let ring = asked.0.ring in
    let raw : List EdgeState = c.self.inside.edges.items in
    let are = are_raw c.self.inside.whole.stage c.self.inside.whole.list.items raw core asked.0 refl in
    let edge = get_some core.edges 0 (omega (arith, ring.edge_count, ring.some_workers)) in
    let told = asked.0.none_lies 0 edge.0 edge.1 in
    let room : edge.0.room ≡ core.room = sym (ap room_of edge.1) ∙ ring.rooms 0 ring.some_workers in
    (edge.0, ap (λ (es : List EdgeState). slice_get es 0) (c.deref_mut.ensures.value ∙ sym are) ∙ edge.1, told.0, told.1, told.2, omega (arith, room, asked.1.room))

pub begin_crew-requires-clause-none : goal.begin_crew-requires-clause-none
begin_crew-requires-clause-none c = λ number worker is.
    let core : RingState = the_view c.self.inside in
    let rest : IsAtRest core = subst IsAtRest (sym c.self.view_is) c.requires.rest in
    rest.none_held number worker (ap (λ (ws : List WorkerState). slice_get ws number) (sym c.deref_mut-2.ensures.value) ∙ is)

pub begin_crew-requires-clause-nodes : goal.begin_crew-requires-clause-nodes
begin_crew-requires-clause-nodes c =
    let core : RingState = the_view c.self.inside in
    let batches = c.args.batches.now in
    let first : ℕ = c.args.first_batch in
    let list : List Item = c.args.list.now.items in
    let asked : Asked first batches list core = subst (Asked first batches list) (sym c.self.view_is) (c.requires.rest, c.requires.may) in
    let starts = starts_at core first batches list asked.0 asked.1 in
    let found = nodes_found core first batches list starts c.every_batch_leaves_a_list.ensures.flows c.flows_fit_pairs.ensures asked.1.fits in
    let none = no_nodes c.self.inside.whole.stage c.self.inside.whole.list.items c.self.inside.edges.items core asked.0 refl in
    omega (arith, asked.0.nodes, none, found.0, found.1, c.take_over-pieces.ensures.nodes, ap (crew_openings batches) c.deref_mut-2.ensures.value)

pub begin_crew-requires-clause-workers : goal.begin_crew-requires-clause-workers
begin_crew-requires-clause-workers c = λ number worker is.
    let core : RingState = the_view c.self.inside in
    let asked : Asked c.args.first_batch c.args.batches.now c.args.list.now.items core = subst (Asked c.args.first_batch c.args.batches.now c.args.list.now.items) (sym c.self.view_is) (c.requires.rest, c.requires.may) in
    may_begin core c.args.first_batch c.args.batches.now c.args.list.now.items (starts_at core c.args.first_batch c.args.batches.now c.args.list.now.items asked.0 asked.1) number worker
    (ap (λ (ws : List WorkerState). slice_get ws number) (sym c.deref_mut-2.ensures.value) ∙ is)

-- the first edge alone has changed
edges_on : (empty start laid : List EdgeState) (edge : EdgeState) → start ≡ empty → laid ≡ set start 0 edge → laid ≡ set empty 0 edge
edges_on empty start laid edge same is = is ∙ ap (λ (es : List EdgeState). set es 0 edge) same

pub returns-clause-playing : goal.returns-clause-playing
returns-clause-playing c =
    let core : RingState = the_view c.self.inside in
    let batches = c.args.batches.now in
    let first : ℕ = c.args.first_batch in
    let list : List Item = c.args.list.now.items in
    let items : c.of.result.value.items ≡ list = ap (λ (d : Demands). d.items) c.of.ensures in
    let asked : Asked first batches list core = subst (Asked first batches list) (sym c.self.view_is) (c.requires.rest, c.requires.may) in
    let starts = starts_at core first batches list asked.0 asked.1 in
    let raw : List EdgeState = c.self.inside.edges.items in
    let whole = c.self.inside.whole in
    let are = are_raw whole.stage whole.list.items raw core asked.0 refl in
    let none = no_nodes whole.stage whole.list.items raw core asked.0 refl in
    let new_whole = c.take_over-pieces.new.self in
    let new : List EdgeState = c.take_over-pieces.new.edges in
    let crew : List WorkerState = c.begin_crew.new.crew in
    let told = c.take_over-pieces.ensures.edges core.workers starts.ring.some_workers in
    let edge : EdgeState = told.edge in
    let raw_are : c.deref_mut.result.now ≡ raw = c.deref_mut.ensures.value in
    let new_count : length new ≡ length c.deref_mut.result.now = sym (list_length new_whole.stage core.workers new_whole.list.items new) ∙ (ap length told.edges_are ∙ length-set c.deref_mut.result.now 0 edge) in
    let were = written c.self.inside.edges new c.deref_mut.result.now raw_are new_count in
    let laid = edges_on raw c.deref_mut.result.now _ edge raw_are (ap (with_list new_whole.stage core.workers new_whole.list.items) were ∙ told.edges_are) in
    let room = told.room_is ∙ ap (λ (es : List EdgeState). room_at es 0) raw_are in
    let same_crew = c.deref_mut-2.ensures.value in
    let keeps = c.every_batch_leaves_a_list.ensures.flows in
    let pairs = c.flows_fit_pairs.ensures in
    let found = nodes_found core first batches list starts keeps pairs asked.1.fits in
    ring_playing core first batches list starts _ raw edge crew c.take_over-pieces.result (ap (λ (xs : List Item). window_of xs batches first core.b core.workers) items) refl refl refl refl refl refl
    laid (written c.self.inside.crew crew c.deref_mut-2.result.now same_crew c.begin_crew.ensures.count) (ap length (sym are))
    (λ number e is. asked.0.none_lies number e (ap (λ (es : List EdgeState). slice_get es number) are ∙ is))
    (λ number. ap (λ (es : List EdgeState). room_at es number) (sym are))
    told.pieces_are told.none_taken told.sent_is room c.take_over-pieces.ensures.count (c.begin_crew.ensures.count ∙ ap length same_crew)
    (λ number old new was is. c.begin_crew.ensures.begun number old new (ap (λ (ws : List WorkerState). slice_get ws number) same_crew ∙ was) is)
    (omega (arith, asked.0.nodes, none, found.0, found.1, c.take_over-pieces.ensures.nodes, c.begin_crew.ensures.nodes, ap (crew_openings batches) same_crew))
    keeps pairs

pub returns-clause-begun : goal.returns-clause-begun
returns-clause-begun c =
    let core : RingState = the_view c.self.inside in
    let rest : IsAtRest core = subst IsAtRest (sym c.self.view_is) c.requires.rest in
    let ring = rest.ring in
    let raw : List EdgeState = c.self.inside.edges.items in
    let whole = c.self.inside.whole in
    let are = are_raw whole.stage whole.list.items raw core rest refl in
    let empty : AreEmptied raw = λ number e is. rest.none_lies number e (ap (λ (es : List EdgeState). slice_get es number) are ∙ is) in
    let new_whole = c.take_over-pieces.new.self in
    let new : List EdgeState = c.take_over-pieces.new.edges in
    let told = c.take_over-pieces.ensures.edges core.workers ring.some_workers in
    let edge : EdgeState = told.edge in
    let raw_are : c.deref_mut.result.now ≡ raw = c.deref_mut.ensures.value in
    let new_count : length new ≡ length c.deref_mut.result.now = sym (list_length new_whole.stage core.workers new_whole.list.items new) ∙ (ap length told.edges_are ∙ length-set c.deref_mut.result.now 0 edge) in
    let were = written c.self.inside.edges new c.deref_mut.result.now raw_are new_count in
    let laid = edges_on raw c.deref_mut.result.now _ edge raw_are (ap (with_list new_whole.stage core.workers new_whole.list.items) were ∙ told.edges_are) in
    let some : 0 < length raw = omega (arith, ap length are, ring.edge_count, ring.some_workers) in
    let list : piece_count c.args.list.now.items ≡ piece_count c.of.result.value.items = ap (λ (d : Demands). piece_count d.items) (sym c.of.ensures) in
    record {
      none_taken = λ number. ap (λ (es : List EdgeState). taken_at es number) laid ∙ none_taken raw edge empty told.none_taken number;
      list_sent = λ number. ap (λ (es : List EdgeState). sent_at es number) laid ∙ list_sent raw edge _ empty some (told.sent_is ∙ list) number;
    }

pub invariant_of-self : goal.invariant_of-self
invariant_of-self c =
    let core : RingState = the_view c.self.inside in
    let batches = c.args.batches.now in
    let first : ℕ = c.args.first_batch in
    let list : List Item = c.args.list.now.items in
    let asked : Asked first batches list core = subst (Asked first batches list) (sym c.self.view_is) (c.requires.rest, c.requires.may) in
    let starts = starts_at core first batches list asked.0 asked.1 in
    let found = nodes_found core first batches list starts c.every_batch_leaves_a_list.ensures.flows c.flows_fit_pairs.ensures asked.1.fits in
    let none = no_nodes c.self.inside.whole.stage c.self.inside.whole.list.items c.self.inside.edges.items core asked.0 refl in
    let told = c.take_over-pieces.ensures in
    let some = starts.ring.some_workers in
    let new_whole = c.take_over-pieces.new.self in
    let new : List EdgeState = c.take_over-pieces.new.edges in
    let raw_are = c.deref_mut.ensures.value in
    let laid = told.edges core.workers some in
    let new_count : length new ≡ length c.deref_mut.result.now = sym (list_length new_whole.stage core.workers new_whole.list.items new) ∙ (ap length laid.edges_are ∙ length-set c.deref_mut.result.now 0 laid.edge) in
    let were = written c.self.inside.edges new c.deref_mut.result.now raw_are new_count in
    let crewed = ap (crew_openings batches) c.deref_mut-2.ensures.value in (
      omega (arith, told.room, c.self.invariant.0),
      omega (arith, ap room_for told.left, c.self.invariant.1),
      subst (MayBeSent new_whole.stage core.workers new_whole.list.items) (sym were) (told.sent core.workers some),
      omega (arith, asked.0.nodes, none, found.0, found.1, told.nodes, c.begin_crew.ensures.nodes, crewed),
      omega (arith, c.begin_crew.ensures.nodes, told.fewer, c.self.invariant.4),
    )

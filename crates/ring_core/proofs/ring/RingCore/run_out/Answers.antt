use Rattle.std.proofs.Common.{◌≡◌, ◌<◌, ◌≤◌, ◌*◌, ℕ, List, ◌-◌, length, set, Option, Some, slice_get, refl, sym, ap, ◌∙◌, subst, arith, length-set}
use Rattle.std.specs.Vec.{with_item, with_items}
use Rattle.std.proofs.lemmas.Nat.{mod_below}
use Rattle.std.proofs.lemmas.Option.{slice_get_read}
use Rattle.greedy_rules.specs.declared.flows.Item.{Item}
use Rattle.slot_batches.specs.Pieces.{piece_count, pieces}
use Rattle.ring_core.specs.contracts.ring.RingCore.{the_view}
use Rattle.ring_core.specs.States.{EdgeState, RingState, WorkerState}
use Rattle.ring_core.specs.Windows.{Window, pieces_before, turns_of, worker_of}
use Rattle.ring_core.specs.Edges.{room_at, room_of}
use Rattle.ring_core.specs.Cores.{IsPlaying, IsFinished, HasJustBegun, HasRoomForTwo, window_in}
use Rattle.ring_core.specs.Wholes.{with_parts, with_list, lying_in, room_for, StandsBefore}
use Rattle.ring_core.proofs.WindowLemmas.{few_items}
use Rattle.ring_core.proofs.BeginLemmas.{written}
use Rattle.ring_core.proofs.EdgeLemmas.{room_kept}
use Rattle.ring_core.proofs.EndLemmas.{get_some}
use Rattle.ring_core.proofs.StartLemmas.{AreEmptied, few_pairs}
use Rattle.ring_core.proofs.TakeLemmas.{counts_fit}
use Rattle.ring_core.proofs.WholeLemmas.{list_length, list_room}
use Rattle.ring_core.proofs.LyingLemmas.{lying, counts, first_holds, others_hold_none, lifted, list_fits, stands_first, laid, laid_playing, laid_finished}
use Rattle.ring_core.proofs.ring.RingCore.run_out.Goals as goal

pub lift-requires-clause-room : goal.lift-requires-clause-room
lift-requires-clause-room c =
    let core : RingState = the_view c.self.inside in
    let batches = c.args.batches.now in
    let playing : IsPlaying batches core = subst (IsPlaying batches) (sym c.self.view_is) c.requires.playing in
    let begun : HasJustBegun core = subst HasJustBegun (sym c.self.view_is) c.requires.begun in
    let raw : List EdgeState = c.self.inside.edges.items in
    let whole : Option ℕ = c.self.inside.whole.stage in
    let list : List Item = c.self.inside.whole.list.items in
    let some : 0 < core.workers = playing.ring.some_workers in
    let count : length raw ≡ core.workers = sym (list_length whole core.workers list raw) ∙ playing.ring.edge_count in
    let old : EdgeState = c.index_mut.result.now in
    let old_is : slice_get raw 0 ≡ Some old = slice_get_read raw (length raw) 0 old refl (omega (arith, count, some)) c.index_mut.ensures.value in
    let edge = get_some core.edges 0 (omega (arith, playing.ring.edge_count, some)) in
    let others = others_hold_none batches core playing begun in
    let lies : lying_in whole list old ≡ core.list = lying core.workers list raw 0 old edge.0 some count old_is whole others edge.1 ∙ first_holds batches core playing begun edge.0 edge.1 in
    let going : 0 < length batches = omega (arith, c.if-self-eq0.false, playing.stages) in
    omega (arith, ap length lies, list_fits batches core playing begun c.flows_fit_pairs.ensures going, c.self.invariant.0)

pub lift-requires-clause-counts : goal.lift-requires-clause-counts
lift-requires-clause-counts c =
    let core : RingState = the_view c.self.inside in
    let batches = c.args.batches.now in
    let playing : IsPlaying batches core = subst (IsPlaying batches) (sym c.self.view_is) c.requires.playing in
    let begun : HasJustBegun core = subst HasJustBegun (sym c.self.view_is) c.requires.begun in
    let raw : List EdgeState = c.self.inside.edges.items in
    let whole : Option ℕ = c.self.inside.whole.stage in
    let list : List Item = c.self.inside.whole.list.items in
    let some : 0 < core.workers = playing.ring.some_workers in
    let count : length raw ≡ core.workers = sym (list_length whole core.workers list raw) ∙ playing.ring.edge_count in
    let old : EdgeState = c.index_mut.result.now in
    let old_is : slice_get raw 0 ≡ Some old = slice_get_read raw (length raw) 0 old refl (omega (arith, count, some)) c.index_mut.ensures.value in
    let edge = get_some core.edges 0 (omega (arith, playing.ring.edge_count, some)) in
    let others = others_hold_none batches core playing begun in
    counts core.workers list raw 0 old edge.0 some count old_is whole others edge.1 c.self.invariant.2 (counts_fit batches core playing 0 edge.0 edge.1)

pub lift-requires-clause-fits : goal.lift-requires-clause-fits
lift-requires-clause-fits c =
    let core : RingState = the_view c.self.inside in
    let batches = c.args.batches.now in
    let playing : IsPlaying batches core = subst (IsPlaying batches) (sym c.self.view_is) c.requires.playing in
    let begun : HasJustBegun core = subst HasJustBegun (sym c.self.view_is) c.requires.begun in
    let raw : List EdgeState = c.self.inside.edges.items in
    let whole : Option ℕ = c.self.inside.whole.stage in
    let list : List Item = c.self.inside.whole.list.items in
    let some : 0 < core.workers = playing.ring.some_workers in
    let count : length raw ≡ core.workers = sym (list_length whole core.workers list raw) ∙ playing.ring.edge_count in
    let old : EdgeState = c.index_mut.result.now in
    let old_is : slice_get raw 0 ≡ Some old = slice_get_read raw (length raw) 0 old refl (omega (arith, count, some)) c.index_mut.ensures.value in
    let edge = get_some core.edges 0 (omega (arith, playing.ring.edge_count, some)) in
    let others = others_hold_none batches core playing begun in
    let lies : lying_in whole list old ≡ core.list = lying core.workers list raw 0 old edge.0 some count old_is whole others edge.1 ∙ first_holds batches core playing begun edge.0 edge.1 in
    omega (arith, ap length lies, playing.may.few_items, c.self.invariant.4)

pub play_stages-turns-requires : goal.play_stages-turns-requires
play_stages-turns-requires c =
    let core : RingState = the_view c.self.inside in
    let batches = c.args.batches.now in
    let playing : IsPlaying batches core = subst (IsPlaying batches) (sym c.self.view_is) c.requires.playing in
    let begun : HasJustBegun core = subst HasJustBegun (sym c.self.view_is) c.requires.begun in
    let raw : List EdgeState = c.self.inside.edges.items in
    let whole : Option ℕ = c.self.inside.whole.stage in
    let list : List Item = c.self.inside.whole.list.items in
    let some : 0 < core.workers = playing.ring.some_workers in
    let count : length raw ≡ core.workers = sym (list_length whole core.workers list raw) ∙ playing.ring.edge_count in
    let old : EdgeState = c.index_mut.result.now in
    let old_is : slice_get raw 0 ≡ Some old = slice_get_read raw (length raw) 0 old refl (omega (arith, count, some)) c.index_mut.ensures.value in
    let edge = get_some core.edges 0 (omega (arith, playing.ring.edge_count, some)) in
    let others = others_hold_none batches core playing begun in
    let lies : lying_in whole list old ≡ core.list = lying core.workers list raw 0 old edge.0 some count old_is whole others edge.1 ∙ first_holds batches core playing begun edge.0 edge.1 in
    let window : Window = window_in batches core in
    let pairs : ℕ = core.endpoints * core.endpoints in
    let empty : List EdgeState = set raw 0 c.lift.new.edge in
    let emptied : AreEmptied empty = lifted batches core playing begun list raw whole old c.lift.new.edge refl c.self.invariant.2 old_is lies c.lift.ensures.lifted c.lift.ensures.stays in
    let empty_count : length empty ≡ core.workers = length-set raw 0 c.lift.new.edge ∙ count in
    let edges_are : c.deref_mut-2.result.now ≡ empty = c.deref_mut-2.ensures.value in
    let crew_is : c.deref_mut.result.now ≡ core.crew = c.deref_mut.ensures.value in
    let begins = stands_first batches core playing begun empty c.lift.new.self.list.items empty_count emptied (c.lift.ensures.list ∙ lies) in
    let stands : StandsBefore core.endpoints core.batches batches window 0 c.deref_mut.result.now c.deref_mut-2.result.now c.lift.new.self.list.items =
    subst (λ (ws : List WorkerState). StandsBefore core.endpoints core.batches batches window 0 ws c.deref_mut-2.result.now c.lift.new.self.list.items) (sym crew_is)
    (subst (λ (es : List EdgeState). StandsBefore core.endpoints core.batches batches window 0 core.crew es c.lift.new.self.list.items) (sym edges_are) begins) in
    let list_room_is : pairs ≤ room_for c.lift.new.self.list = omega (arith, c.lift.ensures.room, c.self.invariant.0) in
    let left_room_is : pairs ≤ room_for c.lift.new.self.left = omega (arith, ap room_for c.lift.ensures.left, c.self.invariant.1) in
    record {
      stands = (core.endpoints, core.batches, window, stands, list_room_is, left_room_is, playing.short);
      fits = omega (arith, c.lift.ensures.nodes, c.self.invariant.3, playing.nodes, few_pairs core.endpoints playing.may.few_endpoints, playing.may.few_items, ap length (c.lift.ensures.list ∙ lies));
    }

pub invariant_of-self : goal.invariant_of-self
invariant_of-self c =
    let core : RingState = the_view c.self.inside in
    let batches = c.args.batches.now in
    let playing : IsPlaying batches core = subst (IsPlaying batches) (sym c.self.view_is) c.requires.playing in
    let begun : HasJustBegun core = subst HasJustBegun (sym c.self.view_is) c.requires.begun in
    let raw : List EdgeState = c.self.inside.edges.items in
    let whole : Option ℕ = c.self.inside.whole.stage in
    let list : List Item = c.self.inside.whole.list.items in
    let some : 0 < core.workers = playing.ring.some_workers in
    let count : length raw ≡ core.workers = sym (list_length whole core.workers list raw) ∙ playing.ring.edge_count in
    let old : EdgeState = c.index_mut.result.now in
    let old_is : slice_get raw 0 ≡ Some old = slice_get_read raw (length raw) 0 old refl (omega (arith, count, some)) c.index_mut.ensures.value in
    let edge = get_some core.edges 0 (omega (arith, playing.ring.edge_count, some)) in
    let others = others_hold_none batches core playing begun in
    let lies : lying_in whole list old ≡ core.list = lying core.workers list raw 0 old edge.0 some count old_is whole others edge.1 ∙ first_holds batches core playing begun edge.0 edge.1 in
    let window : Window = window_in batches core in
    let pairs : ℕ = core.endpoints * core.endpoints in
    let empty : List EdgeState = set raw 0 c.lift.new.edge in
    let emptied : AreEmptied empty = lifted batches core playing begun list raw whole old c.lift.new.edge refl c.self.invariant.2 old_is lies c.lift.ensures.lifted c.lift.ensures.stays in
    let empty_count : length empty ≡ core.workers = length-set raw 0 c.lift.new.edge ∙ count in
    let edges_are : c.deref_mut-2.result.now ≡ empty = c.deref_mut-2.ensures.value in
    let crew_is : c.deref_mut.result.now ≡ core.crew = c.deref_mut.ensures.value in
    let begins = stands_first batches core playing begun empty c.lift.new.self.list.items empty_count emptied (c.lift.ensures.list ∙ lies) in
    let stands : StandsBefore core.endpoints core.batches batches window 0 c.deref_mut.result.now c.deref_mut-2.result.now c.lift.new.self.list.items =
    subst (λ (ws : List WorkerState). StandsBefore core.endpoints core.batches batches window 0 ws c.deref_mut-2.result.now c.lift.new.self.list.items) (sym crew_is)
    (subst (λ (es : List EdgeState). StandsBefore core.endpoints core.batches batches window 0 core.crew es c.lift.new.self.list.items) (sym edges_are) begins) in
    let list_room_is : pairs ≤ room_for c.lift.new.self.list = omega (arith, c.lift.ensures.room, c.self.invariant.0) in
    let left_room_is : pairs ≤ room_for c.lift.new.self.left = omega (arith, ap room_for c.lift.ensures.left, c.self.invariant.1) in
    let new : List EdgeState = c.play_stages-turns.new.edges in
    let crew : List WorkerState = c.play_stages-turns.new.crew in
    let left : List Item = c.play_stages-turns.new.whole.list.items in
    let after = (c.play_stages-turns.ensures.stands core.endpoints core.batches window stands).0 in
    let were_new = written (with_item c.self.inside.edges 0 c.lift.new.edge) new c.deref_mut-2.result.now c.deref_mut-2.ensures.value (after.edge_count ∙ sym stands.edge_count) in
    let were_crew = written c.self.inside.crew crew c.deref_mut.result.now c.deref_mut.ensures.value (after.worker_count ∙ sym stands.worker_count) in
    let rooms : (k : ℕ) → room_at new k ≡ room_at core.edges k = λ k.
    c.play_stages-turns.ensures.rooms k
    ∙ (ap (λ (es : List EdgeState). room_at es k) edges_are
    ∙ (room_kept raw 0 c.lift.new.edge k (c.lift.ensures.edge ∙ sym (ap room_of old_is)) (omega (arith, count, some)) ∙ sym (list_room whole core.workers list raw k))) in
    let same_spare : length c.play_stages-turns.new.spare - length left ≡ core.spare = omega (arith, c.play_stages-turns.ensures.nodes, c.lift.ensures.nodes, c.self.invariant.3) in
    let stages : length batches ≡ c.self.inside.stages = sym playing.stages in
    let at : ℕ = worker_of core.workers c.self.inside.stages in
    let rooms_for = c.play_stages-turns.ensures.list pairs list_room_is left_room_is in
    let wide : HasRoomForTwo batches core = subst (HasRoomForTwo batches) (sym c.self.view_is) c.requires.room in
    let few = few_items core.endpoints window playing.may c.every_batch_leaves_a_list.ensures.flows c.flows_fit_pairs.ensures (length batches) (omega arith) in
    let within : at < core.workers = mod_below c.self.inside.stages core.workers some in
    let fits : 2 * pieces_before window (length batches) ≤ core.room = wide (length batches) (omega arith) in (
      rooms_for.0,
      rooms_for.1,
      (
        omega (arith, ap length after.list_is, few),
        λ edge is.
            let there : slice_get new at ≡ Some edge = ap (λ (es : List EdgeState). slice_get es at) (sym were_new) ∙ is in
            let room : edge.room ≡ core.room = sym (ap room_of there) ∙ (rooms at ∙ playing.ring.rooms at within) in
            ((after.passed at edge there).none, omega (arith, room, fits, ap piece_count after.list_is)),
      ),
      omega (arith, same_spare, c.play_stages-turns.ensures.nodes, c.lift.ensures.nodes, c.self.invariant.3),
      omega (arith, c.play_stages-turns.ensures.nodes, c.lift.ensures.nodes, c.self.invariant.3, playing.nodes, few_pairs core.endpoints playing.may.few_endpoints, ap length after.list_is, few),
    )

pub returns-clause-playing : goal.returns-clause-playing
returns-clause-playing c =
    let core : RingState = the_view c.self.inside in
    let batches = c.args.batches.now in
    let playing : IsPlaying batches core = subst (IsPlaying batches) (sym c.self.view_is) c.requires.playing in
    let begun : HasJustBegun core = subst HasJustBegun (sym c.self.view_is) c.requires.begun in
    let raw : List EdgeState = c.self.inside.edges.items in
    let whole : Option ℕ = c.self.inside.whole.stage in
    let list : List Item = c.self.inside.whole.list.items in
    let some : 0 < core.workers = playing.ring.some_workers in
    let count : length raw ≡ core.workers = sym (list_length whole core.workers list raw) ∙ playing.ring.edge_count in
    let old : EdgeState = c.index_mut.result.now in
    let old_is : slice_get raw 0 ≡ Some old = slice_get_read raw (length raw) 0 old refl (omega (arith, count, some)) c.index_mut.ensures.value in
    let edge = get_some core.edges 0 (omega (arith, playing.ring.edge_count, some)) in
    let others = others_hold_none batches core playing begun in
    let lies : lying_in whole list old ≡ core.list = lying core.workers list raw 0 old edge.0 some count old_is whole others edge.1 ∙ first_holds batches core playing begun edge.0 edge.1 in
    let window : Window = window_in batches core in
    let pairs : ℕ = core.endpoints * core.endpoints in
    let empty : List EdgeState = set raw 0 c.lift.new.edge in
    let emptied : AreEmptied empty = lifted batches core playing begun list raw whole old c.lift.new.edge refl c.self.invariant.2 old_is lies c.lift.ensures.lifted c.lift.ensures.stays in
    let empty_count : length empty ≡ core.workers = length-set raw 0 c.lift.new.edge ∙ count in
    let edges_are : c.deref_mut-2.result.now ≡ empty = c.deref_mut-2.ensures.value in
    let crew_is : c.deref_mut.result.now ≡ core.crew = c.deref_mut.ensures.value in
    let begins = stands_first batches core playing begun empty c.lift.new.self.list.items empty_count emptied (c.lift.ensures.list ∙ lies) in
    let stands : StandsBefore core.endpoints core.batches batches window 0 c.deref_mut.result.now c.deref_mut-2.result.now c.lift.new.self.list.items =
    subst (λ (ws : List WorkerState). StandsBefore core.endpoints core.batches batches window 0 ws c.deref_mut-2.result.now c.lift.new.self.list.items) (sym crew_is)
    (subst (λ (es : List EdgeState). StandsBefore core.endpoints core.batches batches window 0 core.crew es c.lift.new.self.list.items) (sym edges_are) begins) in
    let list_room_is : pairs ≤ room_for c.lift.new.self.list = omega (arith, c.lift.ensures.room, c.self.invariant.0) in
    let left_room_is : pairs ≤ room_for c.lift.new.self.left = omega (arith, ap room_for c.lift.ensures.left, c.self.invariant.1) in
    let new : List EdgeState = c.play_stages-turns.new.edges in
    let crew : List WorkerState = c.play_stages-turns.new.crew in
    let left : List Item = c.play_stages-turns.new.whole.list.items in
    let after = (c.play_stages-turns.ensures.stands core.endpoints core.batches window stands).0 in
    let were_new = written (with_item c.self.inside.edges 0 c.lift.new.edge) new c.deref_mut-2.result.now c.deref_mut-2.ensures.value (after.edge_count ∙ sym stands.edge_count) in
    let were_crew = written c.self.inside.crew crew c.deref_mut.result.now c.deref_mut.ensures.value (after.worker_count ∙ sym stands.worker_count) in
    let rooms : (k : ℕ) → room_at new k ≡ room_at core.edges k = λ k.
    c.play_stages-turns.ensures.rooms k
    ∙ (ap (λ (es : List EdgeState). room_at es k) edges_are
    ∙ (room_kept raw 0 c.lift.new.edge k (c.lift.ensures.edge ∙ sym (ap room_of old_is)) (omega (arith, count, some)) ∙ sym (list_room whole core.workers list raw k))) in
    let same_spare : length c.play_stages-turns.new.spare - length left ≡ core.spare = omega (arith, c.play_stages-turns.ensures.nodes, c.lift.ensures.nodes, c.self.invariant.3) in
    let stages : length batches ≡ c.self.inside.stages = sym playing.stages in
    let same : record core { edges = laid batches core playing crew new left after rooms (length c.play_stages-turns.new.spare - length left) same_spare; crew = crew; spare = length c.play_stages-turns.new.spare - length left } ≡ record core { edges = with_list (Some c.self.inside.stages) core.workers left (with_items (with_item c.self.inside.edges 0 c.lift.new.edge) new).items; crew = (with_items c.self.inside.crew crew).items; spare = length c.play_stages-turns.new.spare - length left } =
    λ i. record core { edges = with_parts (worker_of core.workers (stages i)) (pieces (stages i) left) (sym were_new i); crew = sym were_crew i; spare = length c.play_stages-turns.new.spare - length left } in
    subst (IsPlaying batches) same (laid_playing batches core playing crew new left after rooms (length c.play_stages-turns.new.spare - length left) same_spare)

pub returns-clause-finished : goal.returns-clause-finished
returns-clause-finished c =
    let core : RingState = the_view c.self.inside in
    let batches = c.args.batches.now in
    let playing : IsPlaying batches core = subst (IsPlaying batches) (sym c.self.view_is) c.requires.playing in
    let begun : HasJustBegun core = subst HasJustBegun (sym c.self.view_is) c.requires.begun in
    let raw : List EdgeState = c.self.inside.edges.items in
    let whole : Option ℕ = c.self.inside.whole.stage in
    let list : List Item = c.self.inside.whole.list.items in
    let some : 0 < core.workers = playing.ring.some_workers in
    let count : length raw ≡ core.workers = sym (list_length whole core.workers list raw) ∙ playing.ring.edge_count in
    let old : EdgeState = c.index_mut.result.now in
    let old_is : slice_get raw 0 ≡ Some old = slice_get_read raw (length raw) 0 old refl (omega (arith, count, some)) c.index_mut.ensures.value in
    let edge = get_some core.edges 0 (omega (arith, playing.ring.edge_count, some)) in
    let others = others_hold_none batches core playing begun in
    let lies : lying_in whole list old ≡ core.list = lying core.workers list raw 0 old edge.0 some count old_is whole others edge.1 ∙ first_holds batches core playing begun edge.0 edge.1 in
    let window : Window = window_in batches core in
    let pairs : ℕ = core.endpoints * core.endpoints in
    let empty : List EdgeState = set raw 0 c.lift.new.edge in
    let emptied : AreEmptied empty = lifted batches core playing begun list raw whole old c.lift.new.edge refl c.self.invariant.2 old_is lies c.lift.ensures.lifted c.lift.ensures.stays in
    let empty_count : length empty ≡ core.workers = length-set raw 0 c.lift.new.edge ∙ count in
    let edges_are : c.deref_mut-2.result.now ≡ empty = c.deref_mut-2.ensures.value in
    let crew_is : c.deref_mut.result.now ≡ core.crew = c.deref_mut.ensures.value in
    let begins = stands_first batches core playing begun empty c.lift.new.self.list.items empty_count emptied (c.lift.ensures.list ∙ lies) in
    let stands : StandsBefore core.endpoints core.batches batches window 0 c.deref_mut.result.now c.deref_mut-2.result.now c.lift.new.self.list.items =
    subst (λ (ws : List WorkerState). StandsBefore core.endpoints core.batches batches window 0 ws c.deref_mut-2.result.now c.lift.new.self.list.items) (sym crew_is)
    (subst (λ (es : List EdgeState). StandsBefore core.endpoints core.batches batches window 0 core.crew es c.lift.new.self.list.items) (sym edges_are) begins) in
    let list_room_is : pairs ≤ room_for c.lift.new.self.list = omega (arith, c.lift.ensures.room, c.self.invariant.0) in
    let left_room_is : pairs ≤ room_for c.lift.new.self.left = omega (arith, ap room_for c.lift.ensures.left, c.self.invariant.1) in
    let new : List EdgeState = c.play_stages-turns.new.edges in
    let crew : List WorkerState = c.play_stages-turns.new.crew in
    let left : List Item = c.play_stages-turns.new.whole.list.items in
    let after = (c.play_stages-turns.ensures.stands core.endpoints core.batches window stands).0 in
    let were_new = written (with_item c.self.inside.edges 0 c.lift.new.edge) new c.deref_mut-2.result.now c.deref_mut-2.ensures.value (after.edge_count ∙ sym stands.edge_count) in
    let were_crew = written c.self.inside.crew crew c.deref_mut.result.now c.deref_mut.ensures.value (after.worker_count ∙ sym stands.worker_count) in
    let rooms : (k : ℕ) → room_at new k ≡ room_at core.edges k = λ k.
    c.play_stages-turns.ensures.rooms k
    ∙ (ap (λ (es : List EdgeState). room_at es k) edges_are
    ∙ (room_kept raw 0 c.lift.new.edge k (c.lift.ensures.edge ∙ sym (ap room_of old_is)) (omega (arith, count, some)) ∙ sym (list_room whole core.workers list raw k))) in
    let same_spare : length c.play_stages-turns.new.spare - length left ≡ core.spare = omega (arith, c.play_stages-turns.ensures.nodes, c.lift.ensures.nodes, c.self.invariant.3) in
    let stages : length batches ≡ c.self.inside.stages = sym playing.stages in
    let same : record core { edges = laid batches core playing crew new left after rooms (length c.play_stages-turns.new.spare - length left) same_spare; crew = crew; spare = length c.play_stages-turns.new.spare - length left } ≡ record core { edges = with_list (Some c.self.inside.stages) core.workers left (with_items (with_item c.self.inside.edges 0 c.lift.new.edge) new).items; crew = (with_items c.self.inside.crew crew).items; spare = length c.play_stages-turns.new.spare - length left } =
    λ i. record core { edges = with_parts (worker_of core.workers (stages i)) (pieces (stages i) left) (sym were_new i); crew = sym were_crew i; spare = length c.play_stages-turns.new.spare - length left } in
    subst IsFinished same (laid_finished batches core playing crew new left after rooms (length c.play_stages-turns.new.spare - length left) same_spare)

pub returns-clause-turns : goal.returns-clause-turns
returns-clause-turns c =
    let core : RingState = the_view c.self.inside in
    let batches = c.args.batches.now in
    let playing : IsPlaying batches core = subst (IsPlaying batches) (sym c.self.view_is) c.requires.playing in
    let begun : HasJustBegun core = subst HasJustBegun (sym c.self.view_is) c.requires.begun in
    let raw : List EdgeState = c.self.inside.edges.items in
    let whole : Option ℕ = c.self.inside.whole.stage in
    let list : List Item = c.self.inside.whole.list.items in
    let some : 0 < core.workers = playing.ring.some_workers in
    let count : length raw ≡ core.workers = sym (list_length whole core.workers list raw) ∙ playing.ring.edge_count in
    let old : EdgeState = c.index_mut.result.now in
    let old_is : slice_get raw 0 ≡ Some old = slice_get_read raw (length raw) 0 old refl (omega (arith, count, some)) c.index_mut.ensures.value in
    let edge = get_some core.edges 0 (omega (arith, playing.ring.edge_count, some)) in
    let others = others_hold_none batches core playing begun in
    let lies : lying_in whole list old ≡ core.list = lying core.workers list raw 0 old edge.0 some count old_is whole others edge.1 ∙ first_holds batches core playing begun edge.0 edge.1 in
    let window : Window = window_in batches core in
    let pairs : ℕ = core.endpoints * core.endpoints in
    let empty : List EdgeState = set raw 0 c.lift.new.edge in
    let emptied : AreEmptied empty = lifted batches core playing begun list raw whole old c.lift.new.edge refl c.self.invariant.2 old_is lies c.lift.ensures.lifted c.lift.ensures.stays in
    let empty_count : length empty ≡ core.workers = length-set raw 0 c.lift.new.edge ∙ count in
    let edges_are : c.deref_mut-2.result.now ≡ empty = c.deref_mut-2.ensures.value in
    let crew_is : c.deref_mut.result.now ≡ core.crew = c.deref_mut.ensures.value in
    let begins = stands_first batches core playing begun empty c.lift.new.self.list.items empty_count emptied (c.lift.ensures.list ∙ lies) in
    let stands : StandsBefore core.endpoints core.batches batches window 0 c.deref_mut.result.now c.deref_mut-2.result.now c.lift.new.self.list.items =
    subst (λ (ws : List WorkerState). StandsBefore core.endpoints core.batches batches window 0 ws c.deref_mut-2.result.now c.lift.new.self.list.items) (sym crew_is)
    (subst (λ (es : List EdgeState). StandsBefore core.endpoints core.batches batches window 0 core.crew es c.lift.new.self.list.items) (sym edges_are) begins) in
    let list_room_is : pairs ≤ room_for c.lift.new.self.list = omega (arith, c.lift.ensures.room, c.self.invariant.0) in
    let left_room_is : pairs ≤ room_for c.lift.new.self.left = omega (arith, ap room_for c.lift.ensures.left, c.self.invariant.1) in
    (c.play_stages-turns.ensures.stands core.endpoints core.batches window stands).1 ∙ ap (λ (v : RingState). turns_of (window_in batches v)) c.self.view_is

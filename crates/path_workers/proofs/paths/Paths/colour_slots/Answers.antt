use Rattle.std.proofs.Common.{◌≡◌, ◌<◌, ◌+◌, ℕ, List, ◌++◌, All, length, Vec, vec_len, nat_lt, cond, get_or, sym, ap, ◌∙◌, subst, arith}
use Rattle.std.specs.List.{list_any}
use Rattle.std.proofs.lemmas.List.{with_items_is}
use Rattle.crossbeam_queue.specs.Passes.{view}
use Rattle.greedy_rules.specs.declared.flows.Flow.{Flow}
use Rattle.greedy_rules.specs.Schedule.{slot_in}
use Rattle.clos_topology.specs.Network.{Network, endpoints_of}
use Rattle.path_workers.specs.declared.jobs.Job.{Job}
use Rattle.path_workers.specs.declared.jobs.Hand.{Hand}
use Rattle.path_workers.specs.declared.painter.Painter.{Painter}
use Rattle.path_workers.specs.Jobs.{slot_jobs, end_jobs, jobs_put, taken_slots}
use Rattle.path_workers.specs.PathWork.{PathWork, times_taken, AreTakenOnce}
use Rattle.path_workers.specs.CoreTable.{core_of}
use Rattle.path_workers.specs.Coloured.{HasItsCores, NamesBelow}
use Rattle.path_workers.specs.Painters.{numbers_of, MayAllPaint, HasPainted, MayPaint, has_row}
use Rattle.path_workers.proofs.CrewLemmas.{colourable, crew_ready, all_may}
use Rattle.path_workers.proofs.PlayLemmas.{at_rest_again, taken_once, jobs_counted}
use Rattle.path_workers.proofs.NamedCores.{named_below}
use Rattle.path_workers.proofs.paths.Paths.colour_slots.Given.{Over}
use Rattle.path_workers.proofs.paths.Paths.colour_slots.Goals.{After-gather}
use Rattle.path_workers.proofs.paths.Paths.colour_slots.Goals as goal

-- the workers before they play
ready : (g : Over) (c : goal.After-play-arg-1 g) → All (HasPainted c.self.inside.net c.self.inside.slots c.args.slots.now.slots) c.replace-painters.result.items
ready g c =
    let net : Network = c.self.inside.net in
    let room : ℕ = c.self.inside.slots in
    crew_ready net room c.args.slots.now.slots c.self.inside.painters c.replace-painters.result c.deref_mut.result.now c.forget.new.painters c.self.invariant.painters c.deref_mut.ensures.value (c.forget.ensures.painted net room c.args.slots.now.slots) c.forget.auto.painters c.replace-painters.ensures.value

pub play-painters-requires-clause-may : goal.play-painters-requires-clause-may
play-painters-requires-clause-may g c κs within =
    let can = colourable c.args.self.now _ c.args.slots.now.slots c.self.view_is c.requires.count c.requires.endpoints c.requires.matchings c.requires.degrees in
    let may : MayAllPaint c.args.slots.now.slots c.replace-painters.result.items = (c.self.inside.net, c.self.inside.slots, can, ready g c) in
    may

-- and once they have played
painted : (g : Over) (c : goal.After-gather-arg-1 g) → All (HasPainted c.self.inside.net c.self.inside.slots c.args.slots.now.slots) c.play-painters.result.0.items
painted g c =
    let net : Network = c.self.inside.net in
    let room : ℕ = c.self.inside.slots in
    c.play-painters.ensures.painted net room
    (crew_ready net room c.args.slots.now.slots c.self.inside.painters c.replace-painters.result c.deref_mut.result.now c.forget.new.painters c.self.invariant.painters c.deref_mut.ensures.value (c.forget.ensures.painted net room c.args.slots.now.slots) c.forget.auto.painters c.replace-painters.ensures.value)

pub gather-requires-clause-painted : goal.gather-requires-clause-painted
gather-requires-clause-painted g c =
    let slots : List (List Flow) = c.args.slots.now.slots in
    let can = colourable c.args.self.now _ slots c.self.view_is c.requires.count c.requires.endpoints c.requires.matchings c.requires.degrees in
    let shown : c.deref.result.now ≡ c.play-painters.result.0.items = c.deref.ensures.value in (
      slots,
      c.requires.slot_room,
      subst (All (MayPaint slots)) (sym shown) (all_may _ _ slots c.play-painters.result.0.items can (painted g c)),
      λ slot below. ap (list_any (has_row slot)) shown ∙ c.play-painters.ensures.rows slot below,
    )

pub gather-requires-clause-endpoint_room : goal.gather-requires-clause-endpoint_room
gather-requires-clause-endpoint_room g c k d below =
    let shown : c.deref.result.now ≡ c.play-painters.result.0.items = c.deref.ensures.value in
    let here : HasPainted c.self.inside.net c.self.inside.slots c.args.slots.now.slots (get_or c.deref.result.now k d) = subst (λ (ps : List Painter). All (HasPainted c.self.inside.net c.self.inside.slots c.args.slots.now.slots) ps) (sym shown) (painted g c) k d below in
    omega (
      arith,
      ap endpoints_of here.sized.same_net,
      ap (λ (w : PathWork). endpoints_of w.net) c.self.view_is,
      c.requires.endpoint_room,
    )

painted_then : (g : Over) (c : After-gather g) → All (HasPainted c.self.inside.net c.self.inside.slots c.args.slots.now.slots) c.play-painters.result.0.items
painted_then g c =
    let net : Network = c.self.inside.net in
    let room : ℕ = c.self.inside.slots in
    c.play-painters.ensures.painted net room
    (crew_ready net room c.args.slots.now.slots c.self.inside.painters c.replace-painters.result c.deref_mut.result.now c.forget.new.painters c.self.invariant.painters c.deref_mut.ensures.value (c.forget.ensures.painted net room c.args.slots.now.slots) c.forget.auto.painters c.replace-painters.ensures.value)

pub invariant_of-self : goal.invariant_of-self
invariant_of-self g c =
    let again = at_rest_again (view c.take_over-pass.new.pass) (view c.play-painters.result.1) (view c.join.new.pass) c.take_over-pass.ensures.left c.join.ensures.both c.play-painters.ensures.rest in
    let len : vec_len c.replace-painters.result ≡ vec_len c.self.inside.painters = ap (λ (v : Vec _ _). vec_len v) c.replace-painters.ensures.value in
    record {
      some = omega (arith, c.self.invariant.some, len, c.play-painters.ensures.len);
      few = omega (arith, c.self.invariant.few, len, c.play-painters.ensures.len);
      room = c.self.invariant.room;
      painters = λ k d below. (painted_then g c k d below).sized;
      queue = c.join.ensures.queue;
      rest = again.0;
    }

-- the workers may paint, and are of the same network
may_paint_then : (g : Over) (c : After-gather g) → All (MayPaint c.args.slots.now.slots) c.deref.result.now
may_paint_then g c =
    let slots : List (List Flow) = c.args.slots.now.slots in
    let can = colourable c.args.self.now _ slots c.self.view_is c.requires.count c.requires.endpoints c.requires.matchings c.requires.degrees in
    subst (All (MayPaint slots)) (sym {A = List Painter} c.deref.ensures.value) (all_may _ _ slots c.play-painters.result.0.items can (painted_then g c))

same_nets : (g : Over) (c : After-gather g) → All (λ (p : Painter). p.net ≡ c.args.self.now.net) c.deref.result.now
same_nets g c =
    subst (All (λ (p : Painter). p.net ≡ c.args.self.now.net)) (sym {A = List Painter} c.deref.ensures.value) (λ k d under. (painted_then g c k d under).sized.same_net ∙ ap (λ (w : PathWork). w.net) c.self.view_is)

-- a slot of the table has its cores
coloured : (g : Over) (c : After-gather g) (at : ℕ) → at < length c.args.slots.now.slots → HasItsCores c.args.self.now.net (slot_in c.args.slots.now.slots at) (core_of c.gather.new.out at)
coloured g c at below =
    let shown : c.deref.result.now ≡ c.play-painters.result.0.items = c.deref.ensures.value in
    c.gather.ensures.coloured c.args.self.now.net c.args.slots.now.slots (may_paint_then g c) (same_nets g c) (λ slot under. ap (list_any (has_row slot)) shown ∙ c.play-painters.ensures.rows slot under) at below

pub returns-clause-coloured : goal.returns-clause-coloured
returns-clause-coloured g c =
    let net : Network = c.args.self.now.net in
    let named : (at : ℕ) → at < length c.args.slots.now.slots → NamesBelow net.cores (core_of c.gather.new.out at) = λ at below.
    let has = coloured g c at below in
    named_below net.hosts net.cores (slot_in c.args.slots.now.slots at) (core_of c.gather.new.out at) has.clean has.others in
    record {
      clean = λ at below. (coloured g c at below).clean;
      others = λ at below. (coloured g c at below).others;
      below = named;
      past = c.gather.ensures.past net c.args.slots.now.slots (may_paint_then g c) (same_nets g c);
    }

jobs : (g : Over) (c : After-gather g) → jobs_put c.join.new.pass ≡ c.args.self.now.jobs + length c.args.slots.now.slots + c.args.self.now.paths
jobs g c =
    let again = at_rest_again (view c.take_over-pass.new.pass) (view c.play-painters.result.1) (view c.join.new.pass) c.take_over-pass.ensures.left c.join.ensures.both c.play-painters.ensures.rest in
    omega (
      arith,
      ap (λ (jobs : List Job). length jobs) again.1,
      jobs_counted (view c.take_over-pass.result).put (view c.play-painters.result.1).put (length c.args.slots.now.slots) c.len-workers.result c.play-painters.ensures.put,
      ap (λ (v : Hand). length v.put) c.take_over-pass.ensures.new,
      ap (λ (w : PathWork). w.jobs) c.self.view_is,
      ap (λ (w : PathWork). w.paths) c.self.view_is,
      c.len-workers.ensures,
    )

taken : (g : Over) (c : After-gather g) → AreTakenOnce (length c.args.slots.now.slots) c.args.self.now.taken (taken_slots c.join.new.pass)
taken g c slot =
    let again = at_rest_again (view c.take_over-pass.new.pass) (view c.play-painters.result.1) (view c.join.new.pass) c.take_over-pass.ensures.left c.join.ensures.both c.play-painters.ensures.rest in
    let count : ℕ = length c.args.slots.now.slots in
    let before : Hand = view c.self.inside.pass in
    let put : (view c.join.new.pass).put ≡ before.put ++ slot_jobs count ++ end_jobs c.len-workers.result =
    again.1 ∙ (c.play-painters.ensures.put ∙ ap (λ (v : Hand). v.put ++ slot_jobs count ++ end_jobs c.len-workers.result) c.take_over-pass.ensures.new) in
    taken_once slot count c.len-workers.result before (view c.join.new.pass) c.self.invariant.rest again.0 put
    ∙ ap (λ (w : PathWork). times_taken slot w.taken + cond (nat_lt slot count) 1 0) c.self.view_is

pub returns-clause-work : goal.returns-clause-work
returns-clause-work g c =
    let painters = c.self.inside.painters in
    let shown : c.deref_mut.result.now ≡ painters.items = c.deref_mut.ensures.value in
    let new : List Painter = c.forget.new.painters in
    let count : length new ≡ vec_len painters = omega (arith, c.forget.auto.painters, ap (λ (ps : List Painter). length ps) shown, painters.ok.0) in
    let len : vec_len c.replace-painters.result ≡ vec_len painters = ap (λ (v : Vec _ _). vec_len v) c.replace-painters.ensures.value in
    let items : c.replace-painters.result.items ≡ new = ap (λ (v : Vec _ _). v.items) c.replace-painters.ensures.value ∙ with_items_is painters new count in
    record {
      jobs = jobs g c;
      taken = taken g c;
      same = record {
        net = ap (λ (w : PathWork). w.net) c.self.view_is;
        slots = ap (λ (w : PathWork). w.slots) c.self.view_is;
        paths = omega (arith, c.play-painters.ensures.len, len, ap (λ (w : PathWork). w.paths) c.self.view_is);
        numbers = c.play-painters.ensures.numbers
            ∙ (ap numbers_of items ∙ (c.forget.ensures.numbers ∙ (ap numbers_of shown ∙ ap (λ (w : PathWork). w.numbers) c.self.view_is)));
      };
    }

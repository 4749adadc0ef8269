use Rattle.std.proofs.Common.{◌≡◌, ◌+◌, ◌-◌, ◌*◌, ℕ, List, [], length, min, take, drop, All, ap, sym, ◌∙◌, subst, arith}
use Rattle.std.proofs.lemmas.Nat.{mul-le}
use Rattle.std.proofs.lemmas.List.{length-replicate}
use Rattle.greedy_rules.specs.declared.flows.Flow.{Flow}
use Rattle.greedy_rules.specs.Schedule.{first_slot, rest_by, slot_in}
use Rattle.greedy_rules.specs.Examples.{remaining}
use Rattle.clos_topology.specs.Network.{Network}
use Rattle.clos_topology.specs.Links.{IsClean}
use Rattle.plan_rounds.specs.Batches.{plan_batches}
use Rattle.path_workers.specs.CoreTable.{core_of}
use Rattle.window_allocation.specs.Ready.{IsFit}
use Rattle.fewest_plan.specs.Scheduled.{window_slots_by}
use Rattle.fewest_plan.proofs.planner.Planner.window.Goals as goal

pub serve_all-requires-clause-may : goal.serve_all-requires-clause-may
serve_all-requires-clause-may g c =
    let it =
    c.every_window_is_ready.ensures c.args.trace.now c.args.self.now c.rounds-first.result c.min-count.result c.deref.result.now c.rounds.ensures.sound c.requires.stands c.rounds-first.ensures
    (omega (arith, c.min-count.ensures, c.from.ensures, c.rounds-first.ensures, c.rounds.ensures.number)) (c.deref.ensures.value ∙ c.in_ok-batches.ensures.batches) in
    it.may

pub serve_all-requires-clause-places : goal.serve_all-requires-clause-places
serve_all-requires-clause-places g c =
    let it =
    c.every_window_is_ready.ensures c.args.trace.now c.args.self.now c.rounds-first.result c.min-count.result c.deref.result.now c.rounds.ensures.sound c.requires.stands c.rounds-first.ensures
    (omega (arith, c.min-count.ensures, c.from.ensures, c.rounds-first.ensures, c.rounds.ensures.number)) (c.deref.ensures.value ∙ c.in_ok-batches.ensures.batches) in
    ap length c.in_ok-slots.ensures.slots
    ∙ (length-replicate (c.min-count.result * c.from-2.result) []
    ∙ (ap (λ (n : ℕ). c.min-count.result * n) c.from-2.ensures ∙ ap (λ (n : ℕ). n * c.args.self.now.b) (sym it.number)))

pub colour_slots-requires-clause-count : goal.colour_slots-requires-clause-count
colour_slots-requires-clause-count g c κs within =
    let it =
    c.every_window_is_ready.ensures c.args.trace.now c.args.self.now c.rounds-first.result c.min-count.result c.deref.result.now c.rounds.ensures.sound c.requires.stands c.rounds-first.ensures
    (omega (arith, c.min-count.ensures, c.from.ensures, c.rounds-first.ensures, c.rounds.ensures.number)) (c.deref.ensures.value ∙ c.in_ok-batches.ensures.batches) in
    let b : ℕ = c.args.self.now.b in
    omega (arith, ap length c.in_ok-serve_all.ensures.slots, it.long, c.requires.stands.colours, mul-le c.min-count.result b c.args.self.now.g b it.few (omega arith))

pub colour_slots-requires-clause-endpoints : goal.colour_slots-requires-clause-endpoints
colour_slots-requires-clause-endpoints g c κs within k d below =
    let it =
    c.every_window_is_ready.ensures c.args.trace.now c.args.self.now c.rounds-first.result c.min-count.result c.deref.result.now c.rounds.ensures.sound c.requires.stands c.rounds-first.ensures
    (omega (arith, c.min-count.ensures, c.from.ensures, c.rounds-first.ensures, c.rounds.ensures.number)) (c.deref.ensures.value ∙ c.in_ok-batches.ensures.batches) in
    let fit : All (IsFit c.args.self.now.paths.net) c.serve_all.new.slots.slots = subst (All (IsFit c.args.self.now.paths.net)) (sym c.in_ok-serve_all.ensures.slots) it.fit in
    (fit k d below).flows

pub colour_slots-requires-clause-matchings : goal.colour_slots-requires-clause-matchings
colour_slots-requires-clause-matchings g c κs within k d below =
    let it =
    c.every_window_is_ready.ensures c.args.trace.now c.args.self.now c.rounds-first.result c.min-count.result c.deref.result.now c.rounds.ensures.sound c.requires.stands c.rounds-first.ensures
    (omega (arith, c.min-count.ensures, c.from.ensures, c.rounds-first.ensures, c.rounds.ensures.number)) (c.deref.ensures.value ∙ c.in_ok-batches.ensures.batches) in
    let fit : All (IsFit c.args.self.now.paths.net) c.serve_all.new.slots.slots = subst (All (IsFit c.args.self.now.paths.net)) (sym c.in_ok-serve_all.ensures.slots) it.fit in
    (fit k d below).matching

pub colour_slots-requires-clause-degrees : goal.colour_slots-requires-clause-degrees
colour_slots-requires-clause-degrees g c κs within k d below =
    let it =
    c.every_window_is_ready.ensures c.args.trace.now c.args.self.now c.rounds-first.result c.min-count.result c.deref.result.now c.rounds.ensures.sound c.requires.stands c.rounds-first.ensures
    (omega (arith, c.min-count.ensures, c.from.ensures, c.rounds-first.ensures, c.rounds.ensures.number)) (c.deref.ensures.value ∙ c.in_ok-batches.ensures.batches) in
    let fit : All (IsFit c.args.self.now.paths.net) c.serve_all.new.slots.slots = subst (All (IsFit c.args.self.now.paths.net)) (sym c.in_ok-serve_all.ensures.slots) it.fit in
    (fit k d below).degrees

pub colour_slots-requires-clause-slot_room : goal.colour_slots-requires-clause-slot_room
colour_slots-requires-clause-slot_room g c κs within =
    let it =
    c.every_window_is_ready.ensures c.args.trace.now c.args.self.now c.rounds-first.result c.min-count.result c.deref.result.now c.rounds.ensures.sound c.requires.stands c.rounds-first.ensures
    (omega (arith, c.min-count.ensures, c.from.ensures, c.rounds-first.ensures, c.rounds.ensures.number)) (c.deref.ensures.value ∙ c.in_ok-batches.ensures.batches) in
    omega (arith, ap length c.in_ok-serve_all.ensures.slots, it.long, c.in_ok-cores.ensures.slots, ap (λ (n : ℕ). c.min-count.result * n) c.from-2.ensures)

pub returns-clause-stands : goal.returns-clause-stands
returns-clause-stands g c =
    let it =
    c.every_window_is_ready.ensures c.args.trace.now c.args.self.now c.rounds-first.result c.min-count.result c.deref.result.now c.rounds.ensures.sound c.requires.stands c.rounds-first.ensures
    (omega (arith, c.min-count.ensures, c.from.ensures, c.rounds-first.ensures, c.rounds.ensures.number)) (c.deref.ensures.value ∙ c.in_ok-batches.ensures.batches) in
    let b : ℕ = c.args.self.now.b in
    let rounds : c.args.self.now.collection.rounds + c.min-count.result ≡ c.window.new.self.rounds = sym c.in_ok-batches.ensures.rounds in
    record {
      window = c.requires.stands.window;
      size = c.requires.stands.size;
      collected = c.in_ok-batches.ensures.stands;
      serves = c.in_ok-serve_all.ensures.same_endpoints ∙ c.requires.stands.serves;
      slots = c.in_ok-serve_all.ensures.same_b ∙ c.requires.stands.slots;
      left = c.in_ok-serve_all.ensures.list ∙ (it.left ∙ ap (λ (n : ℕ). rest_by remaining b (take n (plan_batches c.args.trace.now))) rounds);
      net = c.colour_slots.ensures.work.same.net ∙ c.requires.stands.net;
      colours = c.colour_slots.ensures.work.same.slots ∙ c.requires.stands.colours;
    }

pub returns-clause-planned : goal.returns-clause-planned
returns-clause-planned g c =
    let it =
    c.every_window_is_ready.ensures c.args.trace.now c.args.self.now c.rounds-first.result c.min-count.result c.deref.result.now c.rounds.ensures.sound c.requires.stands c.rounds-first.ensures
    (omega (arith, c.min-count.ensures, c.from.ensures, c.rounds-first.ensures, c.rounds.ensures.number)) (c.deref.ensures.value ∙ c.in_ok-batches.ensures.batches) in
    let b : ℕ = c.args.self.now.b in
    let trace = c.args.trace.now in
    let k : ℕ = c.args.self.now.collection.rounds in
    let count_is : c.min-count.result ≡ min c.args.self.now.g (trace.rounds - k) = omega (arith, c.min-count.ensures, c.from.ensures, c.rounds-first.ensures, c.rounds.ensures.number) in
    let first : ℕ = first_slot b c.rounds-first.result in
    let base : first ≡ first_slot b k = ap (first_slot b) c.rounds-first.ensures in
    let slots : c.serve_all.new.slots.slots ≡ window_slots_by remaining b (plan_batches trace) k (min c.args.self.now.g (trace.rounds - k)) =
    c.in_ok-serve_all.ensures.slots ∙ (it.slots ∙ ap (λ (n : ℕ). window_slots_by remaining b (plan_batches trace) k n) count_is) in
    record {
      starts = c.rounds-first.ensures;
      batches = c.in_ok-batches.ensures.batches ∙ ap (λ (n : ℕ). take n (drop k (plan_batches trace))) count_is;
      slots = slots;
      endpoints = c.in_ok-serve_all.ensures.endpoints ∙ (c.in_ok-slots.ensures.endpoints ∙ c.endpoints.ensures.number);
      core_slots = c.colour_slots.ensures.out.slots ∙ (c.in_ok-cores.ensures.slots ∙ (ap (λ (n : ℕ). c.min-count.result * n) c.from-2.ensures ∙ ap (λ (n : ℕ). n * b) count_is));
      core_endpoints = c.colour_slots.ensures.out.endpoints ∙ (c.in_ok-cores.ensures.endpoints ∙ c.endpoints-2.ensures.number);
      clean = λ at below.
          let place : at ≡ first_slot b k + at - first = omega (arith, base) in
          subst (λ (n : ℕ). IsClean trace.net.hosts trace.net.cores (slot_in (window_slots_by remaining b (plan_batches trace) k (min c.args.self.now.g (trace.rounds - k))) at) (core_of c.colour_slots.new.out n)) place
          (subst (λ (xs : List (List Flow)). IsClean trace.net.hosts trace.net.cores (slot_in xs at) (core_of c.colour_slots.new.out at)) slots
          (subst (λ (net : Network). IsClean net.hosts net.cores (slot_in c.serve_all.new.slots.slots at) (core_of c.colour_slots.new.out at)) c.requires.stands.net
          (c.colour_slots.ensures.coloured.clean at (omega (arith, ap length slots, below)))));
    }

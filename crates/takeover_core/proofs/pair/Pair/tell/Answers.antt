use Rattle.std.proofs.Common.{◌≡◌, ◌≤◌, ◌<◌, ◌∷◌, ℕ, Some, refl, sym, ap, ◌∙◌, subst, arith}
use Rattle.std.proofs.lemmas.List.{get_or_default}
use Rattle.greedy_rules.specs.Cells.{flow_of}
use Rattle.takeover_history.specs.declared.event.Event.TheVariants as event
use Rattle.takeover_history.specs.declared.event.Refusal.TheVariants.{NoLease, Stale}
use Rattle.takeover_history.specs.Events.{Fact, Told}
use Rattle.takeover_history.specs.Leases.{lease_of}
use Rattle.takeover_history.specs.Endpoints.{asked_of_flow, base_of}
use Rattle.takeover_history.specs.Steps.{told_fact, log_of}
use Rattle.takeover_core.proofs.Noding.{other_told, own_told, told-is, told-stale}
use Rattle.takeover_core.proofs.Ending.{AreEndpointsOf, ends_took}
use Rattle.takeover_core.proofs.Stepping.{stands_by, stands_refused, nodes_with, two_with}
use Rattle.takeover_core.proofs.pair.Pair.tell.Goals as goal

pub returns-in_default-clause-stands : goal.returns-in_default-clause-stands
returns-in_default-clause-stands c = λ setting events s may.
    stands_refused setting c.args.self.now events (event.Tell c.args.src c.args.node) NoLease
    (ap (told_fact (log_of setting events) c.args.src) (sym (s.nodes_are c.args.node _ may.is_event.1).lease_is ∙ c.in_default.is)) s

pub returns-then-lease-index-clause-stands : goal.returns-then-lease-index-clause-stands
returns-then-lease-index-clause-stands c = λ setting events s may.
    let log = log_of setting events in
    let src = c.args.src in
    let gens = c.args.self.now.ends.generations.items in
    let of_node : lease_of log c.args.node ≡ Some c.in-Some.lease = sym (s.nodes_are c.args.node _ may.is_event.1).lease_is ∙ c.in-Some.is in
    let gen = c.index.ensures ∙ (get_or_default gens src c.index.result.now 0 (omega (arith, may.is_event.0, s.ends_are.count)) ∙ s.ends_are.generations_are src may.is_event.0) in
    stands_refused setting _ events (event.Tell src c.args.node) Stale
    (ap (told_fact log src) of_node ∙ told-stale log src c.in-Some.lease (omega (arith, c.if-lease-index.true, gen))) s

pub tell-requires-clause-less : goal.tell-requires-clause-less
tell-requires-clause-less c = λ dst in_dst.
    let (setting, events, s, may) = c.requires in
    let log = log_of setting events in
    let src = c.args.src in
    let lease = c.in-Some.lease in
    let gens = c.args.self.now.ends.generations.items in
    let of_node : lease_of log c.args.node ≡ Some lease = sym (s.nodes_are c.args.node _ may.is_event.1).lease_is ∙ c.in-Some.is in
    let gen = c.index.ensures ∙ (get_or_default gens src c.index.result.now 0 (omega (arith, may.is_event.0, s.ends_are.count)) ∙ s.ends_are.generations_are src may.is_event.0) in
    let fact = ap (told_fact log src) of_node ∙ told-is log src lease (omega (arith, c.if-lease-index.false, gen)) in
    let is = c.take.ensures in
    let e : AreEndpointsOf setting (Told src lease.generation ∷ log) c.take.new.self = ends_took setting log src lease.generation c.args.self.now.ends c.take.new.self s.ends_are may.is_event.0 is.generations is.length is.base is.endpoints is.asked is.counts is.sent in
    let based = (c.running_counts_serve.ensures.few setting (event.Tell src c.args.node ∷ events)).1.based (flow_of src dst) in
    let based' : base_of setting (Told src lease.generation ∷ log) (flow_of src dst) ≤ asked_of_flow log (flow_of src dst) =
    subst (λ (f : Fact). base_of setting (f ∷ log) (flow_of src dst) ≤ asked_of_flow (f ∷ log) (flow_of src dst)) fact based in
    let within : dst < setting.endpoints = subst (λ (n : ℕ). dst < n) e.asked_is.0 in_dst in
    omega (arith, e.asked_is.1 src dst may.is_event.0 within, e.base_is.1 src dst may.is_event.0 within, based')

pub returns-clause-stands : goal.returns-clause-stands
returns-clause-stands c = λ setting events s may.
    let log = log_of setting events in
    let src = c.args.src in
    let node = c.args.node in
    let lease = c.in-Some.lease in
    let gens = c.args.self.now.ends.generations.items in
    let n = s.nodes_are node c.index-self-node.result may.is_event.1 in
    let of_node : lease_of log node ≡ Some lease = sym (s.nodes_are node _ may.is_event.1).lease_is ∙ c.in-Some.is in
    let gen = c.index.ensures ∙ (get_or_default gens src c.index.result.now 0 (omega (arith, may.is_event.0, s.ends_are.count)) ∙ s.ends_are.generations_are src may.is_event.0) in
    let fact = ap (told_fact log src) of_node ∙ told-is log src lease (omega (arith, c.if-lease-index.false, gen)) in
    let is = c.take.ensures in
    let e : AreEndpointsOf setting (Told src lease.generation ∷ log) c.take.new.self = ends_took setting log src lease.generation c.args.self.now.ends c.take.new.self s.ends_are may.is_event.0 is.generations is.length is.base is.endpoints is.asked is.counts is.sent in
    stands_by setting _ events (event.Tell src node) (Told src lease.generation) fact (record {
      fits = s.fits;
      asks_fit = s.asks_fit;
      endpoints_are = s.endpoints_are;
      b_is = s.b_is;
      keeper_is = s.keeper_is;
      turns_are = s.turns_are;
      two = two_with c.args.self.now.nodes node _ s.two;
      nodes_are = nodes_with setting log (Told src lease.generation ∷ log) c.args.self.now.nodes node _ s.two may.is_event.1 s.nodes_are
          (own_told setting log node _ _ lease src c.take.new.self.asked c.take.new.self.base of_node e.asked_is.1 e.base_is.1
          (λ s' d in_d. c.tell.ensures.cells s' d (subst (λ (m : ℕ). d < m) (sym e.asked_is.0) in_d)) c.tell.ensures.endpoints refl refl refl refl refl n)
          (λ number other below apart it. other_told setting log number other src lease.generation
          (λ held its same. c.running_counts_serve.ensures.own setting events node number lease held of_node its apart (sym same)) it);
      ends_are = e;
      published_are = s.published_are;
      last_is = s.last_is;
      none_is = s.none_is;
    })

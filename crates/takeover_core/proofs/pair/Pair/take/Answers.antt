use Rattle.std.proofs.Common.{◌≡◌, ◌≤◌, ◌+◌, ◌*◌, ◌<◌, ◌∷◌, ℕ, length, false, Option, Some, None, refl, sym, ap, ◌∙◌, subst, arith}
use Rattle.std.specs.Prelude.{IfSome}
use Rattle.std.proofs.Math.Nat.{mul-le-mul}
use Rattle.takeover_history.specs.declared.lease.Lease.{Lease}
use Rattle.takeover_history.specs.declared.event.Event.TheVariants as event
use Rattle.takeover_history.specs.declared.event.Refusal.{Refusal}
use Rattle.takeover_history.specs.declared.event.Refusal.TheVariants.{NoMessage}
use Rattle.takeover_history.specs.Events.{Took, Refused}
use Rattle.takeover_history.specs.Leases.{lease_of}
use Rattle.takeover_history.specs.Steps.{taken_fact, log_of}
use Rattle.takeover_core.specs.Node.{begins_below}
use Rattle.takeover_core.specs.declared.outcome.Outcome.TheVariants as outcome
use Rattle.takeover_core.proofs.Noding.{taking, take-is, takes_own, takes_later, own_took, other_took}
use Rattle.takeover_core.proofs.Stepping.{stands_by, answers_by, stands_refused, nodes_with, two_with}
use Rattle.takeover_core.proofs.pair.Pair.take.Goals as goal

pub returns-in_default-clause-stands : goal.returns-in_default-clause-stands
returns-in_default-clause-stands c = λ setting events s may.
    stands_refused setting _ events (event.Take c.args.node c.args.m) NoMessage
    (ap (taken_fact setting (log_of setting events) c.args.node) (s.keeper_is.answers c.args.m ∙ (sym c.granted.ensures ∙ c.in_default.is))) s

within : (o : Option Lease) (span most : ℕ) → ((lease : Lease) → o ≡ Some lease → lease.first + span < most) → IfSome o (λ last. last.first + span < most)
within None span most below = tt
within (Some lease) span most below = below lease refl

pub refuses-requires : goal.refuses-requires
refuses-requires c =
    let (setting, events, s, may) = c.requires in
    let few = c.running_counts_serve.ensures.few setting events in
    let n = s.nodes_are c.args.node c.index-self-node.result may.is_event in
    let most : setting.span * length (log_of setting events) ≤ 100 * 10000 = (let many : length (log_of setting events) ≤ 10000 = omega (arith, few.0, may.few) in mul-le-mul s.fits.batches many) in
    within _ c.args.self.now.keeper.span _ (λ lease is. omega (arith, few.1.numbers c.args.node lease (sym n.lease_is ∙ is), most, s.keeper_is.span_is))

pub returns-in-Some-refuses-clause-answers : goal.returns-in-Some-refuses-clause-answers
returns-in-Some-refuses-clause-answers c = λ setting events s may.
    answers_by setting events (event.Take c.args.node c.args.m) (Refused c.in-Some-refuses.name) _
    (take-is setting (log_of setting events) c.args.node c.args.m c.args.self.now.keeper.span _ c.in-Some.lease c.refuses.result (s.nodes_are c.args.node c.index-self-node.result may.is_event) s.keeper_is.span_is
    (s.keeper_is.answers c.args.m ∙ (sym c.granted.ensures ∙ c.in-Some.is)) c.refuses.ensures
    ∙ ap (λ (o : Option Refusal). taking o c.in-Some.lease) c.in-Some-refuses.is) refl

pub returns-in-Some-refuses-clause-stands : goal.returns-in-Some-refuses-clause-stands
returns-in-Some-refuses-clause-stands c = λ setting events s may.
    stands_refused setting _ events (event.Take c.args.node c.args.m) c.in-Some-refuses.name
    (take-is setting (log_of setting events) c.args.node c.args.m c.args.self.now.keeper.span _ c.in-Some.lease c.refuses.result (s.nodes_are c.args.node c.index-self-node.result may.is_event) s.keeper_is.span_is
    (s.keeper_is.answers c.args.m ∙ (sym c.granted.ensures ∙ c.in-Some.is)) c.refuses.ensures
    ∙ ap (λ (o : Option Refusal). taking o c.in-Some.lease) c.in-Some-refuses.is) s

pub returns-clause-answers : goal.returns-clause-answers
returns-clause-answers c = λ setting events s may.
    answers_by setting events (event.Take c.args.node c.args.m) (Took c.in-Some.lease) outcome.Nothing
    (take-is setting (log_of setting events) c.args.node c.args.m c.args.self.now.keeper.span _ c.in-Some.lease c.refuses.result (s.nodes_are c.args.node c.index-self-node.result may.is_event) s.keeper_is.span_is
    (s.keeper_is.answers c.args.m ∙ (sym c.granted.ensures ∙ c.in-Some.is)) c.refuses.ensures
    ∙ ap (λ (o : Option Refusal). taking o c.in-Some.lease) c.in_default-refuses.is) refl

pub returns-clause-stands : goal.returns-clause-stands
returns-clause-stands c = λ setting events s may.
    let log = log_of setting events in
    let node = c.args.node in
    let lease = c.in-Some.lease in
    let is = c.take.ensures in
    let fact = take-is setting log node c.args.m c.args.self.now.keeper.span _ lease c.refuses.result (s.nodes_are node c.index-self-node.result may.is_event) s.keeper_is.span_is
    (s.keeper_is.answers c.args.m ∙ (sym c.granted.ensures ∙ c.in-Some.is)) c.refuses.ensures
    ∙ ap (λ (o : Option Refusal). taking o lease) c.in_default-refuses.is in
    let later = subst (λ (n : ℕ). begins_below n (lease_of log node) lease ≡ false) s.keeper_is.span_is
    (subst (λ (o : Option Lease). begins_below c.args.self.now.keeper.span o lease ≡ false) (s.nodes_are node c.index-self-node.result may.is_event).lease_is
    (takes_later node _ c.args.self.now.keeper.span _ lease (sym c.refuses.ensures ∙ c.in_default-refuses.is))) in
    let own = takes_own node _ c.args.self.now.keeper.span _ lease (sym c.refuses.ensures ∙ c.in_default-refuses.is) in
    stands_by setting _ events (event.Take node c.args.m) (Took lease) fact (record {
      fits = s.fits;
      asks_fit = s.asks_fit;
      endpoints_are = s.endpoints_are;
      b_is = s.b_is;
      keeper_is = s.keeper_is;
      turns_are = s.turns_are;
      two = two_with c.args.self.now.nodes node c.take.new.self s.two;
      nodes_are = nodes_with setting log (Took lease ∷ log) c.args.self.now.nodes node c.take.new.self s.two may.is_event s.nodes_are
          (own_took setting events node c.args.m _ c.take.new.self lease c.a_generation_begins_anew.ensures (omega (arith, s.fits.batch)) ((c.running_counts_serve.ensures.few setting events).1.published node) later fact own is.lease is.used is.boot is.told is.published is.room is.anew is.goes_on
          (s.nodes_are node c.index-self-node-2.result may.is_event))
          (λ number other below apart n. other_took setting log number other lease (λ e. apart (sym own ∙ e)) n);
      ends_are = s.ends_are;
      published_are = s.published_are;
      last_is = s.last_is;
      none_is = s.none_is;
    })

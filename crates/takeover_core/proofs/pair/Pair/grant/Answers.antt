use Rattle.std.proofs.Common.{◌≤◌, ◌*◌, length, sym, ap, ◌∙◌, arith}
use Rattle.std.proofs.Math.Nat.{mul-le-mul}
use Rattle.takeover_history.specs.declared.event.Event.TheVariants as event
use Rattle.takeover_history.specs.declared.event.Refusal.TheVariants.{NoMessage}
use Rattle.takeover_history.specs.Events.{Granted}
use Rattle.takeover_history.specs.Leases.{leases}
use Rattle.takeover_history.specs.Steps.{granted, log_of}
use Rattle.takeover_core.proofs.Keeping.{lease-is, granted as keeper_granted}
use Rattle.takeover_core.proofs.Stepping.{stands_by, stands_refused}
use Rattle.takeover_core.proofs.pair.Pair.grant.Goals as goal

pub returns-in_default-clause-stands : goal.returns-in_default-clause-stands
returns-in_default-clause-stands c = λ setting events s may.
    stands_refused setting _ events (event.Grant c.args.m) NoMessage
    (ap (granted setting (log_of setting events)) (s.keeper_is.asks c.args.m ∙ (sym c.sender.ensures ∙ c.in_default.is))) s

pub overflow_cast-message : goal.overflow_cast-message
overflow_cast-message c =
    let (setting, events, s, may) = c.requires in
    let few = c.running_counts_serve.ensures.few setting events in
    omega (arith, c.len-message.ensures, s.keeper_is.count, few.0, few.1.messages, may.few)

pub grant-requires-clause-generation : goal.grant-requires-clause-generation
grant-requires-clause-generation c =
    let (setting, events, s, may) = c.requires in
    let few = c.running_counts_serve.ensures.few setting events in
    omega (arith, s.keeper_is.bounded, few.0, few.1.granted, may.few)

pub grant-requires-clause-next : goal.grant-requires-clause-next
grant-requires-clause-next c =
    let (setting, events, s, may) = c.requires in
    let few = c.running_counts_serve.ensures.few setting events in
    let many : length (leases (log_of setting events)) ≤ 10000 = omega (arith, few.0, few.1.granted, may.few) in
    let most : setting.span * length (leases (log_of setting events)) ≤ 100 * 10000 = mul-le-mul s.fits.batches many in
    omega (arith, s.keeper_is.next, s.keeper_is.span_is, s.fits.batches, most)

pub returns-clause-stands : goal.returns-clause-stands
returns-clause-stands c = λ setting events s may.
    let log = log_of setting events in
    let is = c.in_ok-lease.ensures in
    let lease = c.in_ok-lease.lease in
    let given = lease-is setting c.args.self.now.keeper log c.in-Some.holder lease s.keeper_is is.lease in
    let fact = ap (granted setting log) (s.keeper_is.asks c.args.m ∙ (sym c.sender.ensures ∙ c.in-Some.is)) ∙ ap Granted (sym given) in
    stands_by setting _ events (event.Grant c.args.m) (Granted lease) fact (record {
      fits = s.fits;
      asks_fit = s.asks_fit;
      endpoints_are = s.endpoints_are;
      b_is = s.b_is;
      keeper_is = keeper_granted setting.span c.args.self.now.keeper c.grant.new.self log lease c.in-Some.holder s.keeper_is is.lease is.messages is.span is.holder is.generation is.next;
      turns_are = s.turns_are;
      two = s.two;
      nodes_are = s.nodes_are;
      ends_are = s.ends_are;
      published_are = s.published_are;
      last_is = s.last_is;
      none_is = s.none_is;
    })

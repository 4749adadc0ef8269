use Rattle.std.proofs.Common.{◌≡◌, ◌≤◌, ℕ, List, IfOk, sym, subst, arith}
use Rattle.clos_topology.specs.Network.{endpoints_of}
use Rattle.trace_text.specs.Made.{asks_of_round, losses_of_round, made_asks, made_trace, state_after, state_before}
use Rattle.trace_text.specs.Trace.{with_puts}
use Rattle.trace_text.proofs.MadeFacts.{asks-among, asks-bounded, losses-among, flat_map-more, round-next}
use Rattle.trace_text.proofs.PutFacts.{none_few, none_kept}
use Rattle.trace_text.proofs.ValidFacts.{asked-le, rounds-le}
use Rattle.trace_text.proofs.make.make_trace.Goals as goal

pub loop-round-preserved : goal.loop-round-preserved
loop-round-preserved c =
    let n = endpoints_of c.args.net in
    let number = c.args.number in
    let round = c.loop-round.round in
    let so_far = c.loop-round.invariant in
    let endpoints = c.endpoints-endpoints.ensures.number in
    let asks = c.in_ok-add_asks.ensures in
    let losses = c.in_ok-add_losses.ensures in
    record {
      asks = rw (asks.asks, so_far.asks, so_far.state, endpoints) (sym (flat_map-more (λ r. asks_of_round n r (state_before number n r)) round));
      fates = rw (losses.fates, so_far.fates, asks.state, so_far.state, endpoints) (sym (flat_map-more (λ r. losses_of_round n r (state_after 15 (state_before number n r))) round));
      boots = so_far.boots;
      raws = so_far.raws;
      bytes = so_far.bytes;
      state = rw (losses.state, asks.state, so_far.state, endpoints) (round-next number n round);
    }

pub of-requires-clause-among : goal.of-requires-clause-among
of-requires-clause-among c = rw c.loop-round.invariant.asks (asks-among c.args.number (endpoints_of c.args.net) c.loop-round.round c.requires.endpoints)

pub of-requires-clause-small : goal.of-requires-clause-small
of-requires-clause-small c = λ round src dst.
    let few : c.loop-round.round ≤ 100000 = omega (arith, c.loop-round.auto.round-end, c.requires.few) in
    let asks = made_asks c.args.number (endpoints_of c.args.net) c.loop-round.round in
    rw c.loop-round.invariant.asks (omega (arith, asked-le round src dst asks, asks-bounded c.args.number (endpoints_of c.args.net) c.loop-round.round src dst c.requires.endpoints few))

pub of-requires-clause-bounded : goal.of-requires-clause-bounded
of-requires-clause-bounded c = λ src dst.
    let few : c.loop-round.round ≤ 100000 = omega (arith, c.loop-round.auto.round-end, c.requires.few) in
    let asks = made_asks c.args.number (endpoints_of c.args.net) c.loop-round.round in
    rw c.loop-round.invariant.asks (omega (arith, rounds-le c.args.rounds src dst asks, asks-bounded c.args.number (endpoints_of c.args.net) c.loop-round.round src dst c.requires.endpoints few))

pub of-requires-clause-events : goal.of-requires-clause-events
of-requires-clause-events c = record {
  each_fate = rw c.loop-round.invariant.fates (losses-among c.args.number (endpoints_of c.args.net) c.loop-round.round);
  each_boot = rw c.loop-round.invariant.boots (λ k d lt. absurd (omega arith));
  each_raw = rw c.loop-round.invariant.raws (λ k d lt. absurd (omega arith));
}

pub of-requires-clause-puts : goal.of-requires-clause-puts
of-requires-clause-puts c = none_few c.new.result c.new.ensures.packets

pub returns : goal.returns
returns c =
    let so_far = c.loop-round.invariant in
    let all : c.loop-round.round ≡ c.args.rounds = omega (arith, c.loop-round.auto.round-end, c.loop-round-test.false) in
    let content = rw (so_far.asks, so_far.fates, so_far.boots, so_far.raws, so_far.bytes, all) at c.of.ensures.content in
    subst (λ (puts : List (List (List ℕ))). IfOk c.of.result (λ trace. trace ≡ with_puts puts (made_trace c.args.number c.args.net c.args.rounds))) (none_kept (endpoints_of c.args.net) c.new.result c.new.ensures.packets) content

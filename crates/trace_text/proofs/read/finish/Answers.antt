use Rattle.std.proofs.Common.{◌≡◌, ◌≢◌, length, ℕ, List, sum_by, sym, ap, ◌∙◌, Some, Ok, arith}
use Rattle.clos_topology.specs.Network.{Network, endpoints_of}
use Rattle.trace_text.specs.Asks.{slots_asked}
use Rattle.std.specs.List.{range_with_len}
use Rattle.trace_text.specs.Earlier.{end_of, net_of, slots_in_round}
use Rattle.trace_text.specs.Events.{events_kept}
use Rattle.trace_text.specs.Puts.{puts_in}
use Rattle.trace_text.specs.Standing.{endpoints_kept}
use Rattle.trace_text.specs.Trace.{content_by, each_below, puts_of, with_puts}
use Rattle.trace_text.proofs.ContentFacts.{content_by-same}
use Rattle.trace_text.proofs.EventRowFacts.{events-same}
use Rattle.trace_text.proofs.TraceFacts.{ended-some}
use Rattle.trace_text.proofs.ValidFacts.{row-asked-le, row-rounds-le}
use Rattle.trace_text.proofs.read.finish.Goals as goal
use mathlib.Core.Path.{fun_ext}

pub of-requires-clause-small : goal.of-requires-clause-small
of-requires-clause-small c = λ round src dst.
    let before = c.requires.stands.0 in
    let stands = c.requires.stands.1 in
    omega (arith, c.in_ok-asks.ensures.sums round src dst, stands.asks round src dst, row-asked-le round src dst before, stands.bounded src dst)

pub of-requires-clause-bounded : goal.of-requires-clause-bounded
of-requires-clause-bounded c = λ src dst.
    let before = c.requires.stands.0 in
    let stands = c.requires.stands.1 in
    let same : sum_by (λ round. sum_by (slots_asked round src dst) c.in_ok-asks.asks.items) (range_with_len 0 c.in-Some-end.rounds) ≡ sum_by (λ round. sum_by (slots_in_round round src dst) before) (range_with_len 0 c.in-Some-end.rounds) =
    ap (λ (f : ℕ → ℕ). sum_by f (range_with_len 0 c.in-Some-end.rounds)) (fun_ext (λ round. c.in_ok-asks.ensures.sums round src dst ∙ stands.asks round src dst)) in
    omega (arith, same, row-rounds-le c.in-Some-end.rounds src dst before, stands.bounded src dst)

pub of-requires-clause-among : goal.of-requires-clause-among
of-requires-clause-among c = let stands = c.requires.stands.1 in rw c.in-Some.is at (c.in_ok-asks.ensures.among (endpoints_kept c.args.rows.net) stands.among stands.held_among)

pub of-requires-clause-boots : goal.of-requires-clause-boots
of-requires-clause-boots c = let stands = c.requires.stands.1 in omega (arith, stands.few, stands.count, c.requires.room)

pub of-requires-clause-raws : goal.of-requires-clause-raws
of-requires-clause-raws c = let stands = c.requires.stands.1 in omega (arith, stands.few_raws, stands.count, c.requires.room)

pub of-requires-clause-puts : goal.of-requires-clause-puts
of-requires-clause-puts c = c.requires.stands.1.puts.are_few

pub returns : goal.returns
returns c = λ before stands.
    let is = rw c.in-Some.is at stands.net in
    let rounds = c.in-Some-end.rounds in
    let some : length before ≢ 0 = omega (arith, is.0) in
    let end : end_of before ≡ Some rounds = sym stands.ended ∙ c.in-Some-end.is in
    let amount : ℕ → ℕ → ℕ → ℕ = λ round src dst. sum_by (slots_asked round src dst) c.in_ok-asks.asks.items in
    let events = c.args.rows.events in
    let kept = events_kept events.fates.items events.boots.items events.raws.items events.bytes.items in (
      ended-some before rounds some end
          ∙ ap Ok (sym (c.in_ok-of.ensures.content ∙ ap (λ (n : Network). with_puts (each_below (endpoints_of n) (puts_in c.args.rows.puts)) (content_by n rounds amount kept)) (sym is.1)
          ∙ (ap (λ (puts : ℕ → List (List ℕ)). with_puts (each_below (endpoints_of (net_of before)) puts) (content_by (net_of before) rounds amount kept)) (fun_ext stands.puts.each)
          ∙ ap (with_puts (puts_of before)) (content_by-same (net_of before) rounds _ _ _ _ (λ round src dst. c.in_ok-asks.ensures.sums round src dst ∙ stands.asks round src dst) (events-same before events.fates.items events.boots.items events.raws.items events.bytes.items stands.events))))),
      c.in_ok-of.ensures.sound,
    )

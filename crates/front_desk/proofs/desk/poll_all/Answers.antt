use Rattle.std.proofs.Common.{length, map, get_or, sym, ◌∙◌, subst, refl, arith}
use Rattle.std.proofs.lemmas.List.{length-set, map-set}
use Rattle.std.proofs.lemmas.Option.{slice_get-get_or}
use Rattle.front_desk.specs.State.{HavePolled}
use Rattle.front_desk.specs.Standing.{state_of}
use Rattle.front_desk.proofs.Lines.{lines-set, state_at}
use Rattle.front_desk.proofs.Polls.{polled-same, polled-then}
use Rattle.front_desk.proofs.desk.poll_all.Goals as goal

pub loop-endpoint-init : goal.loop-endpoint-init
loop-endpoint-init c = record { many = refl; lines = c.requires.lines; polled = polled-same (map state_of c.args.lines.now) }

pub poll-requires-clause-line : goal.poll-requires-clause-line
poll-requires-clause-line c =
    let at = c.loop-endpoint.endpoint in
    (at, length c.args.lines.now, c.loop-endpoint.invariant.lines at _ (slice_get-get_or c.loop-endpoint.lines at c.index-lines-endpoint.result (omega (arith, c.loop-endpoint-test.true, c.loop-endpoint.invariant.many))))

pub loop-endpoint-preserved : goal.loop-endpoint-preserved
loop-endpoint-preserved c =
    let lines = c.loop-endpoint.lines in
    let at = c.loop-endpoint.endpoint in
    let old = get_or lines at c.index-lines-endpoint.result in
    let here = slice_get-get_or lines at c.index-lines-endpoint.result (omega (arith, c.loop-endpoint-test.true, c.loop-endpoint.invariant.many)) in
    record {
      many = length-set lines at c.poll.new.self ∙ c.loop-endpoint.invariant.many;
      lines = lines-set (length c.args.lines.now) lines at old c.poll.new.self c.loop-endpoint.invariant.lines here c.poll.ensures.line;
      polled = subst (λ states. HavePolled (map state_of c.args.lines.now) states) (sym (map-set state_of lines at c.poll.new.self))
          (polled-then (map state_of c.args.lines.now) (map state_of lines) at (state_of old) (state_of c.poll.new.self) c.loop-endpoint.invariant.polled
          (state_at lines (map state_of lines) at old refl here) c.poll.ensures.polled);
    }

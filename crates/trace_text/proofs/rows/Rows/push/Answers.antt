use Rattle.std.proofs.Common.{arith, refl}
use Rattle.std.proofs.lemmas.List.Sums.{sum_by_push}
use Rattle.trace_text.specs.Rows.{End}
use Rattle.trace_text.specs.Earlier.{row_slots, slots_in_round}
use Rattle.trace_text.proofs.RowFacts.{length-more, net-more, greatest_round-more, end_of-more}
use Rattle.trace_text.proofs.EventRowFacts.{no_event, latest_fate-more}
use Rattle.trace_text.proofs.PutFacts.{no_put}
use Rattle.trace_text.proofs.rows.Rows.push.Goals as goal

pub returns-in-End : goal.returns-in-End
returns-in-End c = λ before s.
    let row = End c.in-End.rounds in
    let allowed = rw c.in-End.is at c.requires.allowed in
    rw c.in-End.is (record {
      count = omega (arith, length-more before row, s.count);
      net = net-more before row c.args.self.now.net allowed.0 s.net;
      endpoints = s.endpoints;
      round = omega (arith, greatest_round-more before row, s.round);
      ended = rw (end_of-more before row, ← s.ended, allowed.1) refl;
      short = (allowed.2, allowed.3);
      table = s.table;
      totals = λ src dst low low2. omega (arith, s.totals src dst low low2, sum_by_push (row_slots src dst) before row);
      bounded = λ src dst. omega (arith, s.bounded src dst, sum_by_push (row_slots src dst) before row);
      asks = λ round src dst. omega (arith, s.asks round src dst, sum_by_push (slots_in_round round src dst) before row);
      tidy = s.tidy;
      among = s.among;
      held_among = s.held_among;
      ways = s.ways;
      fated = λ endpoint up low. omega (arith, s.fated endpoint up low, latest_fate-more endpoint up before row);
      events = no_event before row _ _ _ _ (λ round endpoint up. refl) (λ round endpoint. refl) (λ round. refl) s.events;
      few = omega (arith, length-more before row, s.few);
      few_raws = omega (arith, length-more before row, s.few_raws);
      few_bytes = omega (arith, length-more before row, s.few_bytes);
      bounds = s.bounds;
      puts = no_put before row _ _ (λ endpoint. refl) s.puts;
    })

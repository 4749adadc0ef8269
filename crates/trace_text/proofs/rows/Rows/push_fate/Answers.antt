use Rattle.std.proofs.Common.{◌≡◌, ◌≤◌, ◌+◌, ◌*◌, refl, sym, ◌∙◌, arith, length-set}
use Rattle.std.proofs.lemmas.List.Sums.{sum_by_push}
use Rattle.std.proofs.lemmas.List.Elements.{All-push}
use Rattle.list_facts.proofs.Options.{option_or-none}
use Rattle.trace_text.specs.Rows.{Meets}
use Rattle.trace_text.specs.Earlier.{row_slots, slots_in_round, end_of, greatest_round}
use Rattle.trace_text.specs.Events.{IsFateAmong, way_number}
use Rattle.trace_text.specs.Standing.{endpoints_kept}
use Rattle.trace_text.proofs.RowFacts.{length-more, net-more, net-some, greatest_round-more, end_of-more}
use Rattle.trace_text.proofs.EventRowFacts.{fate-event, fated-more}
use Rattle.trace_text.proofs.PutFacts.{no_put}
use Rattle.trace_text.proofs.rows.Rows.push_fate.Goals as goal

pub returns : goal.returns
returns c = λ before s.
    let row = Meets c.args.round c.args.endpoint c.args.up c.args.fate in
    let n = endpoints_kept c.args.self.now.net in
    let at : c.way_of-at.result ≡ c.args.endpoint * 2 + way_number c.args.up = c.way_of-at.ensures.place in
    let items = c.in_ok-push.ensures.items in
    let late : greatest_round before ≤ c.args.round = omega (arith, s.round, c.requires.allowed.0) in
    record {
      count = omega (arith, length-more before row, s.count);
      net = net-more before row c.args.self.now.net (net-some c.args.self.now.net c.args.endpoint c.requires.allowed.2) s.net;
      endpoints = s.endpoints;
      round = omega (arith, greatest_round-more before row, s.round, c.requires.allowed.0);
      ended = s.ended ∙ sym (end_of-more before row ∙ option_or-none (end_of before));
      table = s.table;
      totals = λ src dst low low2. omega (arith, s.totals src dst low low2, sum_by_push (row_slots src dst) before row);
      short = s.short;
      bounded = λ src dst. omega (arith, s.bounded src dst, sum_by_push (row_slots src dst) before row);
      asks = λ r src dst. omega (arith, s.asks r src dst, sum_by_push (slots_in_round r src dst) before row);
      tidy = s.tidy;
      among = s.among;
      held_among = s.held_among;
      ways = length-set c.args.self.now.fated.items c.way_of-at.result (c.args.round + 1) ∙ s.ways;
      fated = λ endpoint up low. rw at (fated-more c.args.self.now.fated.items n c.args.round c.args.endpoint c.args.up c.args.fate before endpoint up s.ways c.requires.allowed.2 late (s.fated endpoint up low));
      events = rw items (fate-event before _ _ _ _ _ s.events);
      few = omega (arith, length-more before row, s.few);
      few_raws = omega (arith, length-more before row, s.few_raws);
      few_bytes = omega (arith, length-more before row, s.few_bytes);
      bounds = record {
        each_fate = rw items (All-push (IsFateAmong n) c.args.self.now.events.fates.items _ s.bounds.each_fate (c.requires.allowed.2, c.requires.allowed.3));
        each_boot = s.bounds.each_boot;
        each_raw = s.bounds.each_raw;
      };
      puts = no_put before row _ _ (λ endpoint. refl) s.puts;
    }

use Rattle.std.proofs.Common.{◌≡◌, ◌≤◌, ◌∷◌, [], true, refl, sym, ◌∙◌, arith, length-append}
use Rattle.std.proofs.lemmas.Bool.Decides.{nat_tests}
use Rattle.std.proofs.lemmas.List.Sums.{sum_by_push}
use Rattle.std.proofs.lemmas.List.Elements.{All-push}
use Rattle.list_facts.proofs.Options.{option_or-none}
use Rattle.trace_text.specs.Rows.{Boot}
use Rattle.trace_text.specs.Earlier.{row_slots, slots_in_round, end_of}
use Rattle.trace_text.specs.Events.{IsBootAmong}
use Rattle.trace_text.specs.Faults.{is_between}
use Rattle.trace_text.specs.Standing.{endpoints_kept}
use Rattle.trace_text.proofs.RowFacts.{length-more, net-more, net-some, greatest_round-more, end_of-more}
use Rattle.trace_text.proofs.EventRowFacts.{boot-event, latest_fate-more}
use Rattle.trace_text.proofs.PutFacts.{no_put}
use Rattle.trace_text.proofs.rows.Rows.push_boot.Goals as goal

pub returns : goal.returns
returns c = λ before s.
    let row = Boot c.args.round c.args.endpoint c.args.version in
    let n = endpoints_kept c.args.self.now.net in
    let items = c.in_ok-push.ensures.items in
    let version : is_between 1 2 c.args.version ≡ true = c.requires.allowed.2 in
    let low : 1 ≤ c.args.version = grind (arith, nat_tests) in
    let high : c.args.version ≤ 2 = grind (arith, nat_tests) in
    record {
      count = omega (arith, length-more before row, s.count);
      net = net-more before row c.args.self.now.net (net-some c.args.self.now.net c.args.endpoint c.requires.allowed.1) s.net;
      endpoints = s.endpoints;
      round = omega (arith, greatest_round-more before row, s.round, c.requires.allowed.0);
      ended = s.ended ∙ sym (end_of-more before row ∙ option_or-none (end_of before));
      table = s.table;
      totals = λ src dst low low2. omega (arith, s.totals src dst low low2, sum_by_push (row_slots src dst) before row);
      short = s.short;
      bounded = λ src dst. omega (arith, s.bounded src dst, sum_by_push (row_slots src dst) before row);
      asks = λ r src dst. omega (arith, s.asks r src dst, sum_by_push (slots_in_round r src dst) before row);
      tidy = s.tidy;
      among = s.among;
      held_among = s.held_among;
      ways = s.ways;
      fated = λ endpoint up low. omega (arith, s.fated endpoint up low, latest_fate-more endpoint up before row);
      events = rw items (boot-event before _ _ _ _ _ s.events);
      few = rw items (omega (arith, length-more before row, length-append c.args.self.now.events.boots.items (record { round = c.args.round; endpoint = c.args.endpoint; version = c.args.version } ∷ []), s.few));
      few_raws = omega (arith, length-more before row, s.few_raws);
      few_bytes = omega (arith, length-more before row, s.few_bytes);
      bounds = record {
        each_fate = s.bounds.each_fate;
        each_boot = rw items (All-push (IsBootAmong n) c.args.self.now.events.boots.items _ s.bounds.each_boot (c.requires.allowed.1, low, high));
        each_raw = s.bounds.each_raw;
      };
      puts = no_put before row _ _ (λ endpoint. refl) s.puts;
    }

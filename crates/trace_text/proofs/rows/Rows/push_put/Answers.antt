use Rattle.std.proofs.Common.{◌≤◌, length, refl, sym, ◌∙◌, arith}
use Rattle.std.proofs.lemmas.List.Sums.{sum_by_push}
use Rattle.list_facts.proofs.Options.{option_or-none}
use Rattle.trace_text.specs.Rows.{Put}
use Rattle.trace_text.specs.Earlier.{row_slots, slots_in_round, end_of}
use Rattle.trace_text.specs.Fields.{bytes_of}
use Rattle.trace_text.specs.Standing.{endpoints_kept}
use Rattle.trace_text.proofs.HexFacts.{hex-bytes}
use Rattle.trace_text.proofs.RowFacts.{length-more, net-more, net-some, greatest_round-more, end_of-more}
use Rattle.trace_text.proofs.EventRowFacts.{no_event, latest_fate-more}
use Rattle.trace_text.proofs.PutFacts.{put_more}
use Rattle.trace_text.proofs.rows.Rows.push_put.Goals as goal

pub push-requires-clause-room : goal.push-requires-clause-room
push-requires-clause-room c = let s = c.requires.stands.1 in omega (arith, s.puts.few_bytes, s.count, c.requires.room)

pub push-requires-clause-endpoint : goal.push-requires-clause-endpoint
push-requires-clause-endpoint c = let s = c.requires.stands.1 in omega (arith, s.puts.counted, c.requires.allowed.0)

pub returns : goal.returns
returns c = λ before s.
    let packet = bytes_of c.args.packet.now in
    let row = Put c.args.endpoint packet in
    let told = c.in_ok-push.ensures in
    let hex = (hex-bytes c.args.packet.now c.requires.allowed.2.0).1 in
    let short : length packet ≤ 2048 = omega (arith, hex, c.requires.allowed.2.1) in
    record {
      count = omega (arith, length-more before row, s.count);
      net = net-more before row c.args.self.now.net (net-some c.args.self.now.net c.args.endpoint c.requires.allowed.0) s.net;
      endpoints = s.endpoints;
      round = omega (arith, greatest_round-more before row, s.round);
      ended = s.ended ∙ sym (end_of-more before row ∙ option_or-none (end_of before));
      short = s.short;
      table = s.table;
      totals = λ src dst low low2. omega (arith, s.totals src dst low low2, sum_by_push (row_slots src dst) before row);
      bounded = λ src dst. omega (arith, s.bounded src dst, sum_by_push (row_slots src dst) before row);
      asks = λ r src dst. omega (arith, s.asks r src dst, sum_by_push (slots_in_round r src dst) before row);
      tidy = s.tidy;
      among = s.among;
      held_among = s.held_among;
      ways = s.ways;
      fated = λ endpoint up low. omega (arith, s.fated endpoint up low, latest_fate-more endpoint up before row);
      events = no_event before row _ _ _ _ (λ round endpoint up. refl) (λ round endpoint. refl) (λ round. refl) s.events;
      few = omega (arith, length-more before row, s.few);
      few_raws = omega (arith, length-more before row, s.few_raws);
      few_bytes = omega (arith, length-more before row, s.few_bytes);
      bounds = s.bounds;
      puts = put_more before c.args.endpoint (endpoints_kept c.args.self.now.net) packet c.args.self.now.puts c.push.new.self told.packets told.bytes told.counts c.requires.allowed.0 c.requires.allowed.1 short s.puts;
    }

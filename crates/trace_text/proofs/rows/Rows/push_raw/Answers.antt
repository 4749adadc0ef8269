use Rattle.std.proofs.Common.{[], ◌∷◌, ◌++◌, length, refl, sym, ◌∙◌, arith, length-append}
use Rattle.std.proofs.lemmas.List.Sums.{sum_by_push}
use Rattle.std.proofs.lemmas.List.Elements.{All-push}
use Rattle.list_facts.proofs.Options.{option_or-none}
use Rattle.trace_text.specs.Rows.{Raw}
use Rattle.trace_text.specs.Earlier.{row_slots, slots_in_round, end_of}
use Rattle.trace_text.specs.Events.{IsWithin, packet_from}
use Rattle.trace_text.specs.Fields.{bytes_of}
use Rattle.trace_text.proofs.HexFacts.{hex-bytes}
use Rattle.trace_text.proofs.RowFacts.{length-more, net-more, greatest_round-more, end_of-more}
use Rattle.trace_text.proofs.EventRowFacts.{raw-event, start-from, latest_fate-more}
use Rattle.trace_text.proofs.PutFacts.{no_put}
use Rattle.trace_text.proofs.rows.Rows.push_raw.Goals as goal

pub push_raw-requires-clause-room : goal.push_raw-requires-clause-room
push_raw-requires-clause-room c = let s = c.requires.stands.1 in omega (arith, s.few_bytes, s.count, c.requires.room)

pub returns : goal.returns
returns c = λ before s.
    let packet = bytes_of c.args.packet.now in
    let row = Raw c.args.round packet in
    let events = c.args.self.now.events in
    let told = c.in_ok-push_raw.ensures in
    let hex = (hex-bytes c.args.packet.now c.requires.allowed.2.0).1 in
    record {
      count = omega (arith, length-more before row, s.count);
      net = net-more before row c.args.self.now.net c.requires.allowed.1 s.net;
      endpoints = s.endpoints;
      round = omega (arith, greatest_round-more before row, s.round, c.requires.allowed.0);
      ended = s.ended ∙ sym (end_of-more before row ∙ option_or-none (end_of before));
      table = s.table;
      totals = λ src dst low low2. omega (arith, s.totals src dst low low2, sum_by_push (row_slots src dst) before row);
      short = s.short;
      bounded = λ src dst. omega (arith, s.bounded src dst, sum_by_push (row_slots src dst) before row);
      asks = λ r src dst. omega (arith, s.asks r src dst, sum_by_push (slots_in_round r src dst) before row);
      tidy = s.tidy;
      among = s.among;
      held_among = s.held_among;
      ways = s.ways;
      fated = λ endpoint up low. omega (arith, s.fated endpoint up low, latest_fate-more endpoint up before row);
      events = rw (told.fates, told.boots, told.raws, told.bytes)
          (raw-event before c.args.round packet events.fates.items events.boots.items events.raws.items events.bytes.items s.bounds.each_raw s.events);
      few = rw told.boots (omega (arith, length-more before row, s.few));
      few_raws = rw told.raws (omega (arith, length-more before row, length-append events.raws.items (packet_from c.args.round (length events.bytes.items) (length packet) ∷ []), s.few_raws));
      few_bytes = rw told.bytes (omega (arith, length-more before row, length-append events.bytes.items packet, hex, c.requires.allowed.2.1, s.few_bytes));
      bounds = rw (told.fates, told.boots, told.raws, told.bytes) (record {
        each_fate = s.bounds.each_fate;
        each_boot = s.bounds.each_boot;
        each_raw = All-push (IsWithin (length (events.bytes.items ++ packet))) events.raws.items _
            (λ k d lt. let here = s.bounds.each_raw k d lt in (omega (arith, here.0, length-append events.bytes.items packet), here.1))
            (omega (arith, start-from c.args.round (length events.bytes.items) (length packet), length-append events.bytes.items packet), omega (arith, hex, c.requires.allowed.2.1));
      });
      puts = no_put before row _ _ (λ endpoint. refl) s.puts;
    }

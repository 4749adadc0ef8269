use Rattle.std.proofs.Common.{◌≡◌, ◌+◌, ◌*◌, get_or, refl, sym, ap, ◌∙◌, arith, length-set}
use Rattle.std.proofs.lemmas.Grind.{common_steps}
use Rattle.std.proofs.lemmas.List.Sums.{sum_by_push}
use Rattle.list_facts.proofs.Options.{option_or-none}
use Rattle.trace_text.specs.Asks.{IsAmong}
use Rattle.trace_text.specs.Rows.{Ask}
use Rattle.trace_text.specs.Earlier.{row_slots, slots_in_round, end_of}
use Rattle.trace_text.specs.Standing.{endpoints_kept}
use Rattle.trace_text.specs.declared.ask.Ask.{Ask as Asked}
use Rattle.trace_text.proofs.RowFacts.{length-more, net-more, net-some, greatest_round-more, end_of-more, slots_of-bounded, few-endpoints}
use Rattle.trace_text.proofs.EventRowFacts.{no_event, latest_fate-more}
use Rattle.trace_text.proofs.TableFacts.{table-more}
use Rattle.trace_text.proofs.PutFacts.{no_put}
use Rattle.trace_text.proofs.FlowFacts.{held-own, held-added, added-among}
use Rattle.trace_text.proofs.ValidFacts.{row-asked-le}
use Rattle.trace_text.proofs.rows.Rows.add_ask.Goals as goal

pub add-requires-clause-small : goal.add-requires-clause-small
add-requires-clause-small c =
    let s = c.requires.stands.1 in
    let few = few-endpoints c.requires.stands.0 c.args.self.now.net s.net in
    record { src = omega (arith, few, c.requires.allowed.1); dst = omega (arith, few, c.requires.allowed.2); other = c.requires.allowed.3; some = c.requires.allowed.4 }

pub add-requires-clause-fits : goal.add-requires-clause-fits
add-requires-clause-fits c =
    let before = c.requires.stands.0 in
    let s = c.requires.stands.1 in
    let few = few-endpoints before c.args.self.now.net s.net in
    let ask : Asked = record { round = c.args.round; src = c.args.src; dst = c.args.dst; slots = c.args.slots } in
    let sums = c.args.self.now.sums in
    omega (
      arith,
      held-own ask sums.round sums.slots.items (omega (arith, few, c.requires.allowed.1)) (omega (arith, few, c.requires.allowed.2)) c.requires.turned,
      s.asks c.args.round c.args.src c.args.dst,
      row-asked-le c.args.round c.args.src c.args.dst before,
      s.totals c.args.src c.args.dst c.requires.allowed.1 c.requires.allowed.2,
      c.requires.allowed.5,
    )

pub returns-clause-rows : goal.returns-clause-rows
returns-clause-rows c = λ before s.
    let row = Ask c.args.round c.args.src c.args.dst c.args.slots in
    let n = endpoints_kept c.args.self.now.net in
    let few = few-endpoints before c.args.self.now.net s.net in
    let totals = c.args.self.now.totals.items in
    let at = c.args.src * n + c.args.dst in
    let place : c.place_of-at.result ≡ at = c.place_of-at.ensures.place in
    let old : c.index_mut.result.now ≡ get_or totals at 0 = grind (arith, common_steps) in
    let asked = s.totals c.args.src c.args.dst c.requires.allowed.1 c.requires.allowed.2 in
    let ask : Asked = record { round = c.args.round; src = c.args.src; dst = c.args.dst; slots = c.args.slots } in
    let small : IsAmong 256 ask =
    record { src = omega (arith, few, c.requires.allowed.1); dst = omega (arith, few, c.requires.allowed.2); other = c.requires.allowed.3; some = c.requires.allowed.4 } in
    let turned = c.args.self.now.sums in
    record {
      count = omega (arith, length-more before row, s.count);
      net = net-more before row c.args.self.now.net (net-some c.args.self.now.net c.args.src c.requires.allowed.1) s.net;
      endpoints = s.endpoints;
      round = omega (arith, greatest_round-more before row, s.round, c.requires.allowed.0);
      ended = s.ended ∙ sym (end_of-more before row ∙ option_or-none (end_of before));
      table = length-set totals c.place_of-at.result (c.index_mut.result.now + c.args.slots) ∙ s.table;
      totals = λ src dst low low2.
          rw (place, old) (table-more totals n c.args.round c.args.src c.args.dst c.args.slots src dst s.table c.requires.allowed.1 c.requires.allowed.2 low low2
          ∙ ap (λ k. k + row_slots src dst row) (s.totals src dst low low2) ∙ sym (sum_by_push (row_slots src dst) before row));
      short = s.short;
      bounded = λ src dst. slots_of-bounded before c.args.round c.args.src c.args.dst c.args.slots src dst s.bounded (omega arith);
      tidy = c.add.ensures.tidy;
      asks = λ round src dst.
          omega (
            arith,
            held-added ask turned.round c.add.new.self.round turned.slots.items c.add.new.self.slots.items round src dst small.src small.dst s.tidy.flows c.requires.turned
                c.add.ensures.round c.add.ensures.slots,
            s.asks round src dst,
            sum_by_push (slots_in_round round src dst) before row,
          );
      among = s.among;
      held_among = added-among n ask turned.slots.items c.add.new.self.slots.items _ small (record { src = c.requires.allowed.1; dst = c.requires.allowed.2; other = c.requires.allowed.3; some = c.requires.allowed.4 })
          c.add.ensures.slots s.held_among;
      ways = s.ways;
      fated = λ endpoint up low. omega (arith, s.fated endpoint up low, latest_fate-more endpoint up before row);
      events = no_event before row _ _ _ _ (λ round endpoint up. refl) (λ round endpoint. refl) (λ round. refl) s.events;
      few = omega (arith, length-more before row, s.few);
      few_raws = omega (arith, length-more before row, s.few_raws);
      few_bytes = omega (arith, length-more before row, s.few_bytes);
      bounds = s.bounds;
      puts = no_put before row _ _ (λ endpoint. refl) s.puts;
    }

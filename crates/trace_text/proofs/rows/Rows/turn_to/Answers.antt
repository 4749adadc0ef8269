use Rattle.std.proofs.Common.{◌∙◌}
use Rattle.trace_text.specs.Standing.{endpoints_kept}
use Rattle.trace_text.proofs.rows.Rows.turn_to.Goals as goal

pub turn_to-requires : goal.turn_to-requires
turn_to-requires c = record { tidy = c.requires.1.tidy }

pub returns-clause-stands : goal.returns-clause-stands
returns-clause-stands c = λ before s.
    let (among, held_among) = c.in_ok-turn_to.ensures.among (endpoints_kept c.args.self.now.net) s.among s.held_among in
    record {
      count = s.count;
      net = s.net;
      endpoints = s.endpoints;
      round = s.round;
      ended = s.ended;
      short = s.short;
      table = s.table;
      totals = s.totals;
      bounded = s.bounded;
      tidy = c.in_ok-turn_to.ensures.tidy;
      asks = λ round src dst. c.in_ok-turn_to.ensures.sums round src dst ∙ s.asks round src dst;
      among = among;
      held_among = held_among;
      ways = s.ways;
      fated = s.fated;
      events = s.events;
      few = s.few;
      few_raws = s.few_raws;
      few_bytes = s.few_bytes;
      bounds = s.bounds;
      puts = s.puts;
    }

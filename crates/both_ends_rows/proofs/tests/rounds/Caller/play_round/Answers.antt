use Rattle.std.proofs.Common.{List, OnOk, subst, sym, arith}
use Rattle.greedy_rules.specs.declared.flows.Entry.{Entry}
use Rattle.greedy_rules.specs.Batches.{IsAboveLast}
use Rattle.fcp_framing.specs.declared.packet.Told.{Told}
use Rattle.arbiter_lane.specs.State.{AreSlots, AreAllocated}
use Rattle.lane_rounds.specs.Outside.{round_with}
use Rattle.lane_rounds.specs.Rounds.{HasRoundMore}
use Rattle.both_ends_rows.proofs.Playing.{epochs-fit, asks-may, slots-are, slots-allocated, round-ends}
use Rattle.both_ends_rows.proofs.tests.rounds.Caller.play_round.Goals as goal

pub round-requires-clause-may : goal.round-requires-clause-may
round-requires-clause-may c =
    let it = c.args.self.now in
    let is = c.requires.played in
    let entries = c.args.written.now.batch.entries in
    record {
      whole = is.whole;
      round = sym is.at;
      rounds = omega (arith, c.requires.rounds);
      version = c.requires.version;
      epochs = epochs-fit it.rounds it.dst it.round it.asked c.args.events.now.boots it.before it.last is c.requires.rounds c.requires.boots;
      asks = asks-may it.rounds it.dst it.round it.asked c.args.ask c.args.events.now.boots c.args.events.now.version it.before it.last c.args.events.now.asks is c.requires.asks c.requires.most;
      slots = subst (λ (told : List Told). AreSlots it.rounds.lane.endpoints it.rounds.lane.b it.rounds.lane.endpoint told) (sym c.told-told.ensures)
          (slots-are it.rounds it.dst it.round it.asked it.before it.last is);
      allocated = subst (λ (told : List Told). AreAllocated it.rounds.lane it.round told) (sym c.told-told.ensures)
          (slots-allocated c.conditions_suffice.ensures it.rounds it.dst it.round it.asked it.before it.last is);
      above = subst (λ (es : List Entry). IsAboveLast es (record { src = it.rounds.lane.endpoint; dst = 0 })) (sym c.requires.batch) tt;
    }

pub returns-clause-played : goal.returns-clause-played
returns-clause-played c =
    let it = c.args.self.now in
    round-ends it.rounds c.round.new.self it.dst it.round it.asked c.args.ask it.before it.last c.args.events.now c.round.result c.requires.played c.requires.asks c.requires.boots
    (subst (λ (told : List Told). OnOk c.round.result (HasRoundMore it.rounds it.round (round_with it.rounds.lane.endpoint it.rounds.lane.endpoints c.args.events.now told) c.round.new.self)) c.told-told.ensures c.round.ensures.played)

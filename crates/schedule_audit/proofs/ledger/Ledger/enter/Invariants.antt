use Rattle.std.proofs.Common.{take}
use Rattle.schedule_audit.specs.Entered.{Enters, AreSized}
use Rattle.schedule_audit.proofs.ledger.Ledger.enter.Given as goal

abbrev pub invariant-loop-at : goal.invariant-loop-at
invariant-loop-at l = record {
  enters : Enters (take l.at l.batch.entries) l.slots l.fn.self l.self;
  sized : AreSized l.fn.self.seen.endpoints l.self;
}

use Rattle.std.proofs.Common.{◌≡◌, List, take, drop, Option}
use Rattle.list_facts.specs.Order.{sort_by}
use Rattle.report_text.specs.declared.line.Line.{Line}
use Rattle.schedule_audit.specs.Collecting.{Collects}
use Rattle.schedule_audit.specs.Played.{AuditIsPlayed}
use Rattle.schedule_audit.proofs.ReadBatches.{ReadOff}
use Rattle.schedule_audit.proofs.SendOrder.{number}
use Rattle.schedule_audit.proofs.auditor.first_wrong.Given as goal

abbrev pub invariant-loop-round : goal.invariant-loop-round
invariant-loop-round l = record {
  played : (lines : List (Option Line)) → Collects lines l.fn.collected → (off : ReadOff l.fn.net lines) → AuditIsPlayed l.fn.net l.fn.b (take l.round off.batches) (drop l.round off.batches) l.played l.judges;
  net : l.judges.net ≡ l.fn.net;
  paths : l.judges.paths.lines.items ≡ l.fn.collected.paths.items;
  sends : l.judges.sends.lines.items ≡ sort_by number l.fn.collected.sends.items;
}

use Rattle.clos_topology.specs.Network.{endpoints_of}
use Rattle.schedule_audit.specs.Lines.{records, rounds_in_lines}
use Rattle.schedule_audit.specs.Wrong.{batches_of_records}
use Rattle.schedule_audit.proofs.ReadBatches.{no_misplaced_line_is_recorded}
use Rattle.schedule_audit.proofs.laws.no_misplaced_line_is_recorded.Goals as goal

pub returns : goal.returns
returns c = record {
  batches = no_misplaced_line_is_recorded;
  slots = λ net b lines none.
      c.every_recorded_slot.ensures (endpoints_of net) b (record { hosts = net.hosts; cores = net.cores }) (batches_of_records net (rounds_in_lines lines) (records lines)) (no_misplaced_line_is_recorded net lines none);
}

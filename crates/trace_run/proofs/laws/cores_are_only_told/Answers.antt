-- Sends, packets and counts.
use Rattle.trace_run.proofs.CoresOfRun.{cores_decide_no_send, cores_stand_in_down_packets, cores_decide_no_up_packet, cores_decide_no_count}
use Rattle.trace_run.proofs.laws.cores_are_only_told.Goals as goal

pub returns : goal.returns
returns c = record { sends = cores_decide_no_send; down = cores_stand_in_down_packets; up = cores_decide_no_up_packet; counts = cores_decide_no_count }

-- The slots of an acknowledged number were taken in once, and never by another number.
use Rattle.std.proofs.Common.{◌≡◌, ℕ, ◌+◌, ◌*◌, true, cond, ◌++◌, Some, sym, ◌∙◌, ap}
use Rattle.ack_window.specs.Arrivals.{is_number_taken}
use Rattle.ack_window.specs.Versions.{reorder_of}
use Rattle.endpoint_history.specs.Agent as agent
use Rattle.endpoint_history.specs.Agent.{until}
use Rattle.endpoint_history.specs.Lane as lane
use Rattle.endpoint_history.specs.Steps.{agent_of, lane_of}
use Rattle.endpoint_history.specs.Tellings.{Issue, issued}
use Rattle.endpoint_history.specs.NumberLaws.{AcknowledgedSlotsAreTakenOnce}
use Rattle.endpoint_history.specs.Windows.{Windows}
use Rattle.endpoint_history.proofs.BothEnds.{ends_agree}
use Rattle.endpoint_history.proofs.Issues.{content-came, packet-came}
use Rattle.endpoint_history.proofs.NeverTaken.{Extends-steps, Extends-taken, ever_taken-made, arrives-before, issued-steps, risen, issue_of}
use Rattle.endpoint_history.proofs.TakenOnce.{taken-once, acknowledged_is_taken_once}

pub acknowledged_slots_are_taken_once : (w : Windows) → AcknowledgedSlotsAreTakenOnce
acknowledged_slots_are_taken_once w endpoints g later earlier arrives rise number telling counted is some shown =
    let steps = later ++ earlier in
    let epoch : ℕ = lane.epoch_of (lane_of earlier) in
    let arrived_before = arrives-before endpoints g later earlier arrives in
    let j = ends_agree w endpoints g earlier arrived_before in
    let boot = until epoch (agent_of earlier) in
    let now = until epoch (agent_of steps) in
    let goes_on = (Extends-steps epoch later earlier j.epochs).0 in
    let v = agent.version_of boot in
    let was : is_number_taken (reorder_of v) (agent.arrived boot) number ≡ true = rw j.version at (j.down.shown number counted shown) in
    let still : is_number_taken (reorder_of (agent.version_of now)) (agent.arrived now) number ≡ true = Extends-taken w boot now number goes_on was in
    let then = acknowledged_is_taken_once w endpoints g earlier arrived_before number counted shown in
    let from = content-came g (lane_of earlier) number telling (risen later earlier rise) is some in
    let moved = issued-steps g later earlier (telling.batch + 2 * g) rise from.begun in
    record {
      came = then.0;
      content = λ t among same. let both : Some t.packet.content ≡ Some telling = sym (then.1 t among same) ∙ is in cc;
      once = taken-once w now number ∙ ap (λ b. cond b 1 0) still;
      alone = λ t among some_taken same.
          let came = packet-came w g (lane_of steps) t.packet rise (ever_taken-made endpoints g steps t arrives among) some_taken in
          let that : issued g (lane_of steps) (t.packet.content.batch + 2 * g) ≡ Some (issue_of epoch number telling) =
          ap (λ (b : ℕ). issued g (lane_of steps) (b + 2 * g)) same ∙ moved.0 ∙ from.issue in
          let both : Some (issue_of t.packet.epoch t.packet.seq t.packet.content) ≡ Some (issue_of epoch number telling) = sym came.issue ∙ that in
          let issues : issue_of t.packet.epoch t.packet.seq t.packet.content ≡ issue_of epoch number telling = cc in
          (ap (λ (i : Issue). i.epoch) issues, ap (λ (i : Issue). i.number) issues, ap (λ (i : Issue). i.content) issues);
    }

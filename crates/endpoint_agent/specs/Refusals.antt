-- What an agent refuses, in the order in which it is tried (this project's own profile): bytes that spell no packet, a packet to
-- another endpoint, of another epoch, of the other version, a number that is too old or came before.
use Rattle.std.specs.Prelude.{◌≡◌, ℕ, ◌==◌, List, Option, Some, None, if◌then◌else◌}
use Rattle.fcp_framing.specs.declared.packet.Down as framing
use Rattle.fcp_framing.specs.declared.refusal.FrameRefused.{FrameRefused}
use Rattle.fcp_framing.specs.Fields.{down_of}
use Rattle.fcp_framing.specs.Refusals.{first_refusal, refuses_down}
use Rattle.ack_window.specs.declared.take_window.Taken.{Taken}
use Rattle.ack_window.specs.declared.take_window.Taken.TheVariants.{Fresh, Repeat, Old}
use Rattle.ack_window.specs.Arrivals.{receive_verdict}
use Rattle.ack_window.specs.Versions.{reorder_of}
use Rattle.endpoint_history.specs.Agent.{AgentHistory, epoch_of, version_of, arrived}
use Rattle.endpoint_agent.specs.declared.refusal.DownRefused.{DownRefused}
use Rattle.endpoint_agent.specs.declared.refusal.DownRefused.TheVariants as refused

-- what a number is refused for
abbrev pub refusal_of_number : Taken → Option DownRefused
refusal_of_number Fresh = None
refusal_of_number Repeat = Some refused.Repeat
refusal_of_number Old = Some refused.OldSeq

-- what a packet is refused for, by the agent of an endpoint after these calls
abbrev pub refusal_of_packet : ℕ → AgentHistory → framing.Down → Option DownRefused
refusal_of_packet me history down =
    if down.dst == me
    then
    (if down.epoch == epoch_of history
    then
    (if down.version == version_of history
    then refusal_of_number (receive_verdict (reorder_of (version_of history)) (arrived history) down.seq)
    else Some refused.OtherVersion)
    else Some refused.OtherEpoch)
    else Some refused.NotMine

abbrev pub refusal_or : Option FrameRefused → Option DownRefused → Option DownRefused
refusal_or None later = later
refusal_or (Some frame) later = Some (refused.Frame frame)

-- what bytes are refused for, None where they are accepted
abbrev pub refusal_of : ℕ → ℕ → ℕ → AgentHistory → List ℕ → Option DownRefused
refusal_of me endpoints b history bytes =
    refusal_or (first_refusal (refuses_down endpoints b bytes)) (refusal_of_packet me history (down_of bytes))

-- the bytes spell an allocation for this endpoint, which is then a call of the agent, whatever it answers
pub record IsOwn (me endpoints b : ℕ) (bytes : List ℕ) : Type 0 where
  pub spelled : first_refusal (refuses_down endpoints b bytes) ≡ None
  pub destination : (down_of bytes).dst ≡ me

-- What a lane refuses, in the order in which it is tried (this project's own profile): bytes that spell no packet, a packet of
-- another endpoint, of another epoch, of the other version, a number that is too old or came before.
use Rattle.std.specs.Prelude.{◌≡◌, ℕ, ◌==◌, nat_lt, List, Option, Some, None, if◌then◌else◌}
use Rattle.fcp_framing.specs.declared.packet.Up as framing
use Rattle.fcp_framing.specs.declared.refusal.FrameRefused.{FrameRefused}
use Rattle.fcp_framing.specs.Fields.{up_of}
use Rattle.fcp_framing.specs.Refusals.{first_refusal, refuses_up}
use Rattle.ack_window.specs.declared.take_window.Taken.{Taken}
use Rattle.ack_window.specs.declared.take_window.Taken.TheVariants.{Fresh, Repeat, Old}
use Rattle.ack_window.specs.Arrivals.{receive_verdict}
use Rattle.ack_window.specs.Versions.{reorder_of}
use Rattle.endpoint_history.specs.Lane.{LaneHistory, epoch_of, version_of, arrived}
use Rattle.arbiter_lane.specs.declared.refusal.UpRefused.{UpRefused}
use Rattle.arbiter_lane.specs.declared.refusal.UpRefused.TheVariants as refused

-- what a number is refused for
abbrev pub up_refusal_of_number : Taken → Option UpRefused
up_refusal_of_number Fresh = None
up_refusal_of_number Repeat = Some refused.Repeat
up_refusal_of_number Old = Some refused.OldSeq

-- what a packet is refused for, by the lane of an endpoint after these calls
abbrev pub up_refusal_of_packet : ℕ → LaneHistory → framing.Up → Option UpRefused
up_refusal_of_packet endpoint history up =
    if up.src == endpoint
    then
    (if nat_lt up.epoch (epoch_of history)
    then Some refused.OldEpoch
    else
    (if nat_lt (epoch_of history) up.epoch
    then (if up.reset then None else Some refused.Unsynced)
    else
    (if up.version == version_of history
    then (if up.reset then None else up_refusal_of_number (receive_verdict (reorder_of (version_of history)) (arrived history) up.seq))
    else Some refused.OtherVersion)))
    else Some refused.NotMine

abbrev pub up_refusal_or : Option FrameRefused → Option UpRefused → Option UpRefused
up_refusal_or None later = later
up_refusal_or (Some frame) later = Some (refused.Frame frame)

-- what bytes are refused for, None where they are accepted
abbrev pub up_refusal : ℕ → ℕ → LaneHistory → List ℕ → Option UpRefused
up_refusal endpoint endpoints history bytes =
    up_refusal_or (first_refusal (refuses_up endpoints bytes)) (up_refusal_of_packet endpoint history (up_of bytes))

-- the bytes spell a packet of this endpoint, which is then a call of the lane, whatever it answers
pub record IsOwnUp (endpoint endpoints : ℕ) (bytes : List ℕ) : Type 0 where
  pub spelled : first_refusal (refuses_up endpoints bytes) ≡ None
  pub source : (up_of bytes).src ≡ endpoint

-- Which raw packets of a round are refused, each by the lane as it then stands, and under which numbers. From this project's own profile.
use Rattle.std.specs.Prelude.{ℕ, List, [], ◌∷◌, ◌++◌, length, Option, Some, None, if◌then◌else◌}
use Rattle.fcp_framing.specs.Fields.{up_of}
use Rattle.fcp_framing.specs.Refusals as framing
use Rattle.endpoint_history.specs.Packets.{up_packet}
use Rattle.endpoint_history.specs.Lane.{LaneHistory, TakesUp}
use Rattle.fcp_framing.specs.declared.packet.Told.{Told}
use Rattle.endpoint_history.specs.Rounds.{Round, read, played}
use Rattle.endpoint_history.specs.Steps.{lane_of}
use Rattle.arbiter_lane.specs.declared.refusal.UpRefused.{UpRefused}
use Rattle.arbiter_lane.specs.declared.refusal.UpRefused.TheVariants.{Frame, NotMine, Unsynced, OldEpoch, OtherVersion, OldSeq, Repeat}
use Rattle.arbiter_lane.specs.Refusals.{up_refusal}
use Rattle.lane_rounds.specs.Outside.{names, round_with}
use Rattle.lane_rounds.specs.Raw.{Raw}
use Rattle.lane_rounds.specs.declared.events.Events.{Events}

abbrev pub up_refusal_number : UpRefused → ℕ
up_refusal_number (Frame refusal) = framing.frame_refusal_number refusal
up_refusal_number Unsynced = 21
up_refusal_number OldEpoch = 22
up_refusal_number OldSeq = 23
up_refusal_number Repeat = 24
up_refusal_number NotMine = 25
up_refusal_number OtherVersion = 26

-- a lane's calls with bytes that arrive after them: a packet of its endpoint is one more, whatever it is answered
abbrev pub with_arrival : ℕ → ℕ → ℕ → List ℕ → LaneHistory → LaneHistory
with_arrival endpoint endpoints round bytes history =
    if names endpoint endpoints bytes then TakesUp round (up_packet (up_of bytes)) ∷ history else history

-- the place of a packet with the number of its refusal, nothing where it is accepted
abbrev pub numbered_refusal : ℕ → Option UpRefused → List (ℕ × ℕ)
numbered_refusal place None = []
numbered_refusal place (Some refusal) = (place, up_refusal_number refusal) ∷ []

-- raw packets that arrive one after the other
module _ (endpoint endpoints round : ℕ) where
  abbrev pub with_raw : List Raw → LaneHistory → LaneHistory
  with_raw [] history = history
  with_raw (r ∷ raw) history = with_raw raw (with_arrival endpoint endpoints round r.bytes history)

  abbrev pub refused_in : List Raw → LaneHistory → List (ℕ × ℕ)
  refused_in [] history = []
  refused_in (r ∷ raw) history =
      numbered_refusal r.place (up_refusal endpoint endpoints history r.bytes) ++ refused_in raw (with_arrival endpoint endpoints round r.bytes history)

-- the raw packets that are refused in a round, after all that arrives of the world's
abbrev pub refused_by : ℕ → ℕ → ℕ → Events → List Told → List Round → List (ℕ × ℕ)
refused_by endpoint endpoints g events told rounds =
    refused_in endpoint endpoints (length rounds) events.raw
    (lane_of (read endpoints g (length rounds) (record (round_with endpoint endpoints events told) { raw = [] }) (played endpoints g rounds)))

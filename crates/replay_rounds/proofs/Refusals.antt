-- Each refusal of a raw packet has a number under which refusals are told.
use Rattle.std.proofs.Common.{◌≡◌, ℕ, Bool, true, false, cond, get_or, Option, Some, None, refl, inl, inr, arith}
use Rattle.std.specs.Prelude.{◌==◌, nat_lt, option_map, IfSome, take}
use Rattle.std.proofs.lemmas.Bool.{eq-eqb}
use Rattle.std.proofs.lemmas.List.Elements.{All-map}
use Rattle.arbiter_lane.specs.Taken.{Taken}
use Rattle.arbiter_lane.specs.Taken.TheVariants as taken
use Rattle.arbiter_lane.specs.Arrivals.{receive_verdict}
use Rattle.arbiter_lane.specs.Versions.{reorder_of}
use Rattle.fcp_framing.specs.declared.packet.Up.{Up}
use Rattle.fcp_framing.specs.declared.refusal.FrameRefused.{FrameRefused}
use Rattle.fcp_framing.specs.declared.refusal.FrameRefused.TheVariants.{Short, Version, Kind, Endpoint, Count, Order, SelfFlow, TooMuch, Mask, Trailing, Epoch, Seq}
use Rattle.fcp_framing.specs.Fields.{up_of}
use Rattle.fcp_framing.specs.Refusals.{first_refusal, refuses_up}
use Rattle.fcp_framing.specs.Refusals as framing
use Rattle.endpoint_history.specs.Lane.{LaneHistory, epoch_of, version_of, arrived}
use Rattle.arbiter_lane.specs.declared.refusal.UpRefused.{UpRefused}
use Rattle.arbiter_lane.specs.declared.refusal.UpRefused.TheVariants as refused
use Rattle.arbiter_lane.specs.Refusals.{up_refusal_of_number, up_refusal_of_packet, up_refusal_or}
use Rattle.lane_rounds.specs.Raw.{Raw}
use Rattle.lane_rounds.specs.Refused.{up_refusal_number}
use Rattle.replay_rounds.specs.Setting.{raw_rows}
use Rattle.replay_rounds.specs.Played.{answer_after, lane_before, IsLaneRefusal, EveryRefusalHasANumber}

-- the number of a refusal is one of those
abbrev IsTold : Option UpRefused → Type 0
IsTold refusal = IfSome (option_map up_refusal_number refusal) IsLaneRefusal

framing-told : (refusal : FrameRefused) → IsLaneRefusal (framing.frame_refusal_number refusal)
framing-told Short = inl (omega arith, omega arith)
framing-told Version = inl (omega arith, omega arith)
framing-told Kind = inl (omega arith, omega arith)
framing-told Endpoint = inl (omega arith, omega arith)
framing-told Count = inl (omega arith, omega arith)
framing-told Order = inl (omega arith, omega arith)
framing-told SelfFlow = inl (omega arith, omega arith)
framing-told TooMuch = inl (omega arith, omega arith)
framing-told Mask = inl (omega arith, omega arith)
framing-told Trailing = inl (omega arith, omega arith)
framing-told Epoch = inl (omega arith, omega arith)
framing-told Seq = inl (omega arith, omega arith)

number-told : (verdict : Taken) → IsTold (up_refusal_of_number verdict)
number-told taken.Fresh = tt
number-told taken.Repeat = inr (inl (omega arith, omega arith))
number-told taken.Old = inr (inl (omega arith, omega arith))

either : (c : Bool) (a b : Option UpRefused) → IsTold a → IsTold b → IsTold (cond c a b)
either true a b first second = first
either false a b first second = second

-- by the lane of the endpoint that a packet names
packet-told : (endpoint : ℕ) (history : LaneHistory) (up : Up) → up.src ≡ endpoint → IsTold (up_refusal_of_packet endpoint history up)
packet-told endpoint history up own = rw (eq-eqb up.src endpoint own) (
    either (nat_lt up.epoch (epoch_of history)) _ _ (inr (inl (omega arith, omega arith)))
    (either (nat_lt (epoch_of history) up.epoch) _ _ (either up.reset None (Some refused.Unsynced) tt (inr (inl (omega arith, omega arith))))
    (either (up.version == version_of history) _ _
    (either up.reset None _ tt (number-told (receive_verdict (reorder_of (version_of history)) (arrived history) up.seq))) (inr (inr refl)))))

or-told : (frame : Option FrameRefused) (later : Option UpRefused) → IsTold later → IsTold (up_refusal_or frame later)
or-told None later told = told
or-told (Some frame) later told = framing-told frame

pub every_refusal_has_a_number : EveryRefusalHasANumber
every_refusal_has_a_number setting trace round =
    All-map (λ answer. IfSome answer IsLaneRefusal) (λ raw. answer_after setting round (take raw.place (raw_rows trace round)) raw) (raw_rows trace round)
    (λ i d below. told (get_or (raw_rows trace round) i d))
  where
    told : (raw : Raw) → IfSome (answer_after setting round (take raw.place (raw_rows trace round)) raw) IsLaneRefusal
    told raw =
        let up = up_of raw.bytes in
        or-told (first_refusal (refuses_up setting.endpoints raw.bytes)) _ (packet-told up.src (lane_before setting round (take raw.place (raw_rows trace round)) up.src) up refl)

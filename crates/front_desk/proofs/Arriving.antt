-- A lane after bytes that arrive, whether they name its endpoint or not.
use Rattle.std.proofs.Common.{◌≡◌, ◌≢◌, ℕ, Bool, false, cond, ◌&&◌, ◌==◌, List, ◌∷◌, Option, Some, None, is_none, IfSome, sym, subst, refl, inl, inr}
use Rattle.std.proofs.lemmas.Bool.{cases_Bool}
use Rattle.fcp_framing.specs.declared.refusal.FrameRefused.{FrameRefused}
use Rattle.fcp_framing.specs.Fields.{up_of}
use Rattle.fcp_framing.specs.Refusals.{first_refusal, refuses_up}
use Rattle.endpoint_history.specs.Packets.{up_packet}
use Rattle.endpoint_history.specs.Lane.{LaneHistory, TakesUp}
use Rattle.endpoint_history.specs.Counts.{Allocation}
use Rattle.arbiter_lane.specs.declared.refusal.UpRefused.{UpRefused}
use Rattle.arbiter_lane.specs.declared.refusal.UpRefused.TheVariants.{NotMine, OldSeq, Repeat}
use Rattle.arbiter_lane.specs.Refusals.{up_refusal, up_refusal_or, up_refusal_of_packet, IsOwnUp}
use Rattle.arbiter_lane.specs.State.{LaneState}
use Rattle.arbiter_lane.specs.Standing.{LaneStandsFor}
use Rattle.lane_rounds.specs.Outside.{names}
use Rattle.lane_rounds.specs.Refused.{with_arrival}
use Rattle.lane_rounds.proofs.Raw.{names-own}

-- bytes of no packet, or of another endpoint's, leave the lane as it was
foreign : (lane new : LaneState) (frame : Option FrameRefused) (mine : Bool) (later : Option UpRefused) → (is_none frame && mine) ≡ false → (mine ≡ false → later ≡ Some NotMine) →
    IfSome (up_refusal_or frame later) (λ refusal. refusal ≢ OldSeq → refusal ≢ Repeat → new ≡ lane) → new ≡ lane
foreign lane new None mine later off other unchanged =
    subst (λ (refusal : Option UpRefused). IfSome refusal (λ r. r ≢ OldSeq → r ≢ Repeat → new ≡ lane)) (other off) unchanged (λ e. cc) (λ e. cc)
foreign lane new (Some frame) mine later off other unchanged = unchanged (λ e. cc) (λ e. cc)

same : (lane new : LaneState) (bytes : List ℕ) (history : LaneHistory) → names lane.endpoint lane.endpoints bytes ≡ false →
    IfSome (up_refusal lane.endpoint lane.endpoints history bytes) (λ refusal. refusal ≢ OldSeq → refusal ≢ Repeat → new ≡ lane) → new ≡ lane
unfolding names
same lane new bytes history off unchanged =
    foreign lane new (first_refusal (refuses_up lane.endpoints bytes)) ((up_of bytes).src == lane.endpoint) (up_refusal_of_packet lane.endpoint history (up_of bytes)) off (λ other. rw other refl) unchanged

pub with_bytes-stands : (lane new : LaneState) (round : ℕ) (bytes : List ℕ) (given : Option UpRefused) (history : LaneHistory) (allocations : List Allocation) →
    given ≡ up_refusal lane.endpoint lane.endpoints history bytes →
    IfSome given (λ refusal. refusal ≢ OldSeq → refusal ≢ Repeat → new ≡ lane) →
    (IsOwnUp lane.endpoint lane.endpoints bytes → LaneStandsFor new (TakesUp round (up_packet (up_of bytes)) ∷ history) allocations) →
    LaneStandsFor lane history allocations → LaneStandsFor new (with_arrival lane.endpoint lane.endpoints round bytes history) allocations
with_bytes-stands lane new round bytes given history allocations answer unchanged stands stood =
    let Stands : Bool → Type 0 = λ b. LaneStandsFor new (cond b (TakesUp round (up_packet (up_of bytes)) ∷ history) history) allocations in
    elim (cases_Bool (names lane.endpoint lane.endpoints bytes)) [
      | inl on ↦ subst Stands (sym on) (stands (names-own lane.endpoint lane.endpoints bytes on))
      | inr off ↦
          let kept = same lane new bytes history off (subst (λ (g : Option UpRefused). IfSome g (λ refusal. refusal ≢ OldSeq → refusal ≢ Repeat → new ≡ lane)) answer unchanged) in
          subst Stands (sym off) (subst (λ (l : LaneState). LaneStandsFor l history allocations) (sym kept) stood)
    ]

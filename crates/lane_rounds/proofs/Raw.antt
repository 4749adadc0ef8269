-- Raw packets, one after the other.
use Rattle.std.proofs.Common.{◌≡◌, ◌≢◌, ℕ, Bool, true, false, cond, ◌&&◌, ◌==◌, List, [], ◌∷◌, ◌++◌, map, filter, Option, Some, None, is_none, IfSome, sym, ◌∙◌, ap, subst, refl, inl, inr, append_assoc}
use Rattle.std.proofs.lemmas.List.{append-nil}
use Rattle.std.proofs.lemmas.Bool.{cases_Bool, and_parts, eqb-true}
use Rattle.fcp_framing.specs.declared.refusal.FrameRefused.{FrameRefused}
use Rattle.fcp_framing.specs.Refusals.{first_refusal, refuses_up}
use Rattle.arbiter_lane.specs.declared.refusal.UpRefused.{UpRefused}
use Rattle.arbiter_lane.specs.declared.refusal.UpRefused.TheVariants.{Frame, NotMine, OldSeq, Repeat}
use Rattle.endpoint_history.specs.Lane.{LaneHistory, TakesUp}
use Rattle.endpoint_history.specs.Packets.{up_packet}
use Rattle.endpoint_history.specs.Counts.{Allocation}
use Rattle.fcp_framing.specs.Fields.{up_of}
use Rattle.arbiter_lane.specs.State.{LaneState, IsSameLane}
use Rattle.arbiter_lane.specs.Refusals.{up_refusal, up_refusal_or, up_refusal_of_packet, IsOwnUp}
use Rattle.arbiter_lane.specs.Standing as lanes
use Rattle.lane_rounds.specs.Raw.{Raw}
use Rattle.lane_rounds.specs.Outside.{names, packets_in}
use Rattle.lane_rounds.specs.Refused.{with_arrival, with_raw, refused_in, numbered_refusal}
use Rattle.lane_rounds.specs.Parts.{reading}

-- some have been read, and the others make of it what all do
pub record HasRead (endpoint endpoints round : ℕ) (raw left : List Raw) (history : LaneHistory) (allocations : List Allocation) (lane : LaneState) (was refused : List (ℕ × ℕ)) : Type 0 where
  pub now : LaneHistory
  pub stands : lanes.LaneStandsFor lane now allocations
  pub rest : with_raw endpoint endpoints round raw history ≡ with_raw endpoint endpoints round left now
  pub told : was ++ refused_in endpoint endpoints round raw history ≡ refused ++ refused_in endpoint endpoints round left now

pub read-more : (endpoint endpoints round : ℕ) (raw : List Raw) (r : Raw) (left : List Raw) (history : LaneHistory) (allocations : List Allocation) (lane next : LaneState) (was refused more : List (ℕ × ℕ)) →
    HasRead endpoint endpoints round raw (r ∷ left) history allocations lane was refused →
    ((now : LaneHistory) → lanes.LaneStandsFor lane now allocations → lanes.LaneStandsFor next (with_arrival endpoint endpoints round r.bytes now) allocations) →
    ((now : LaneHistory) → lanes.LaneStandsFor lane now allocations → more ≡ refused ++ numbered_refusal r.place (up_refusal endpoint endpoints now r.bytes)) →
    HasRead endpoint endpoints round raw left history allocations next was more
read-more endpoint endpoints round raw r left history allocations lane next was refused more some stands told = record {
  now = with_arrival endpoint endpoints round r.bytes some.now;
  stands = stands some.now some.stands;
  rest = some.rest;
  told = some.told ∙ sym (append_assoc refused (numbered_refusal r.place (up_refusal endpoint endpoints some.now r.bytes)) (refused_in endpoint endpoints round left (with_arrival endpoint endpoints round r.bytes some.now)))
      ∙ ap (λ xs. xs ++ refused_in endpoint endpoints round left (with_arrival endpoint endpoints round r.bytes some.now)) (sym (told some.now some.stands));
}

-- the calls that raw packets are
pub with_raw-reads : (endpoint endpoints round : ℕ) (raw : List Raw) (history : LaneHistory) → with_raw endpoint endpoints round raw history ≡ reading round (packets_in endpoint endpoints raw) history
with_raw-reads endpoint endpoints round [] history = refl
with_raw-reads endpoint endpoints round (r ∷ raw) history =
    elim (names endpoint endpoints r.bytes) as (λ b. with_raw endpoint endpoints round raw (cond b (TakesUp round (up_packet (up_of r.bytes)) ∷ history) history)
    ≡ reading round (map (λ (q : Raw). up_packet (up_of q.bytes)) (cond b (r ∷ filter (λ (q : Raw). names endpoint endpoints q.bytes) raw) (filter (λ (q : Raw). names endpoint endpoints q.bytes) raw))) history) [
      | true ↦ with_raw-reads endpoint endpoints round raw (TakesUp round (up_packet (up_of r.bytes)) ∷ history)
      | false ↦ with_raw-reads endpoint endpoints round raw history
    ]

-- ---- one raw packet

-- what a packet that does not name the endpoint is refused for
record NotNamed (given : Option UpRefused) : Type 0 where
  pub refusal : UpRefused
  pub is : given ≡ Some refusal
  pub not_old : refusal ≢ OldSeq
  pub not_repeat : refusal ≢ Repeat

not_named : (f : Option FrameRefused) (own : Bool) (later : Option UpRefused) → (is_none f && own) ≡ false → (own ≡ false → later ≡ Some NotMine) → NotNamed (up_refusal_or f later)
not_named None own later off mine = record { refusal = NotMine; is = mine off; not_old = λ e. cc; not_repeat = λ e. cc }
not_named (Some frame) own later off mine = record { refusal = Frame frame; is = refl; not_old = λ e. cc; not_repeat = λ e. cc }

names-not : (endpoint endpoints : ℕ) (history : LaneHistory) (bytes : List ℕ) → names endpoint endpoints bytes ≡ false → NotNamed (up_refusal endpoint endpoints history bytes)
unfolding names
names-not endpoint endpoints history bytes off =
    not_named (first_refusal (refuses_up endpoints bytes)) ((up_of bytes).src == endpoint) (up_refusal_of_packet endpoint history (up_of bytes)) off (λ other. rw other refl)

pub none_is : (f : Option FrameRefused) → is_none f ≡ true → f ≡ None
none_is None is = refl
none_is (Some frame) is = absurd (cc)

pub names-own : (endpoint endpoints : ℕ) (bytes : List ℕ) → names endpoint endpoints bytes ≡ true → IsOwnUp endpoint endpoints bytes
unfolding names
names-own endpoint endpoints bytes on =
    let both = and_parts (is_none (first_refusal (refuses_up endpoints bytes))) ((up_of bytes).src == endpoint) on in
    record { spelled = none_is (first_refusal (refuses_up endpoints bytes)) both.0; source = eqb-true (up_of bytes).src endpoint both.1 }

pub with_bytes-stands : (lane new : LaneState) (round : ℕ) (bytes : List ℕ) (given : Option UpRefused) →
    ((history : LaneHistory) (allocations : List Allocation) → lanes.LaneStandsFor lane history allocations → given ≡ up_refusal lane.endpoint lane.endpoints history bytes) →
    IfSome given (λ refusal. refusal ≢ OldSeq → refusal ≢ Repeat → new ≡ lane) →
    (IsOwnUp lane.endpoint lane.endpoints bytes → (history : LaneHistory) (allocations : List Allocation) → lanes.LaneStandsFor lane history allocations → lanes.LaneStandsFor new (TakesUp round (up_packet (up_of bytes)) ∷ history) allocations) →
    (history : LaneHistory) (allocations : List Allocation) → lanes.LaneStandsFor lane history allocations → lanes.LaneStandsFor new (with_arrival lane.endpoint lane.endpoints round bytes history) allocations
with_bytes-stands lane new round bytes given answer unchanged stands history allocations stood =
    elim (cases_Bool (names lane.endpoint lane.endpoints bytes)) [
      | inl on ↦
          subst (λ (b : Bool). lanes.LaneStandsFor new (cond b (TakesUp round (up_packet (up_of bytes)) ∷ history) history) allocations) (sym on)
          (stands (names-own lane.endpoint lane.endpoints bytes on) history allocations stood)
      | inr off ↦
          let it = names-not lane.endpoint lane.endpoints history bytes off in
          let same : new ≡ lane = subst (λ (g : Option UpRefused). IfSome g (λ refusal. refusal ≢ OldSeq → refusal ≢ Repeat → new ≡ lane)) (answer history allocations stood ∙ it.is) unchanged it.not_old it.not_repeat in
          subst (λ (b : Bool). lanes.LaneStandsFor new (cond b (TakesUp round (up_packet (up_of bytes)) ∷ history) history) allocations) (sym off)
          (subst (λ (l : LaneState). lanes.LaneStandsFor l history allocations) (sym same) stood)
    ]

-- ---- the first and the last

pub read-begins : (endpoint endpoints round : ℕ) (raw : List Raw) (history : LaneHistory) (allocations : List Allocation) (lane : LaneState) (was : List (ℕ × ℕ)) →
    lanes.LaneStandsFor lane history allocations → HasRead endpoint endpoints round raw raw history allocations lane was was
read-begins endpoint endpoints round raw history allocations lane was stands = record { now = history; stands = stands; rest = refl; told = refl }

pub read-ends : (endpoint endpoints round : ℕ) (raw left : List Raw) (history : LaneHistory) (allocations : List Allocation) (lane : LaneState) (was refused : List (ℕ × ℕ)) →
    left ≡ [] → HasRead endpoint endpoints round raw left history allocations lane was refused →
    lanes.LaneStandsFor lane (with_raw endpoint endpoints round raw history) allocations × (refused ≡ was ++ refused_in endpoint endpoints round raw history)
read-ends endpoint endpoints round raw left history allocations lane was refused none it = (
  subst (λ (h : LaneHistory). lanes.LaneStandsFor lane h allocations) (sym (it.rest ∙ ap (λ (rs : List Raw). with_raw endpoint endpoints round rs it.now) none)) it.stands,
  sym (it.told ∙ ap (λ (rs : List Raw). refused ++ refused_in endpoint endpoints round rs it.now) none ∙ append-nil refused),
)

-- what holds by the sizes of a lane that only some calls changed holds by its first sizes
pub for_same : (was lane : LaneState) → IsSameLane was lane → (P : ℕ → ℕ → Type 0) → P lane.endpoint lane.endpoints → P was.endpoint was.endpoints
for_same was lane same P p = subst (λ n. P was.endpoint n) same.endpoints (subst (λ n. P n lane.endpoints) same.endpoint p)

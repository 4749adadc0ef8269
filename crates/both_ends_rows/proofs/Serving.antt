-- What the caller of a lane alone keeps over its calls.
use Rattle.std.proofs.Common.{◌≡◌, ◌≢◌, ◌⊎◌, ℕ, ◌+◌, ◌-◌, ◌≤◌, Bool, true, false, ◌==◌, List, ◌∷◌, sym, ◌∙◌, ap, subst, refl, inl, inr, arith}
use Rattle.std.specs.Prelude.{Option, Some, None, IfSome}
use Rattle.std.proofs.lemmas.Bool.{eqb-true}
use Rattle.fcp_framing.specs.declared.refusal.FrameRefused.{FrameRefused}
use Rattle.fcp_framing.specs.Fields.{up_of}
use Rattle.fcp_framing.specs.Refusals.{first_refusal, refuses_up}
use Rattle.endpoint_history.specs.Conditions.{LaneCall, Happens, Allocates, history_of, allocations_of, allocated_in, MeetsConditions}
use Rattle.endpoint_history.specs.Counts.{Allocation, allocated, owed}
use Rattle.endpoint_history.specs.Entries.{rounds_recorded}
use Rattle.endpoint_history.specs.Lane.{MakesDown, TakesUp, Records}
use Rattle.endpoint_history.specs.Packets.{up_packet}
use Rattle.endpoint_history.specs.Steps.{rounds_begun}
use Rattle.arbiter_lane.specs.Laws.{ConditionsSuffice}
use Rattle.arbiter_lane.specs.Refusals.{up_refusal, up_refusal_or, up_refusal_of_packet, IsOwnUp}
use Rattle.arbiter_lane.specs.Standing.{LaneStandsFor}
use Rattle.arbiter_lane.specs.State.{LaneState, AreAllocated}
use Rattle.arbiter_lane.specs.declared.refusal.UpRefused.{UpRefused}
use Rattle.arbiter_lane.specs.declared.refusal.UpRefused.TheVariants.{NotMine, OldSeq, Repeat}
use Rattle.both_ends_rows.specs.Callers.{told_of_one, IsServed}
use Rattle.both_ends_rows.proofs.Playing.{told-few, counted-more, counted-one}

-- ---- bytes that are a packet of another endpoint, or none

own-or-same : (lane new : LaneState) (f : Option FrameRefused) (own : Bool) (later given : Option UpRefused) → given ≡ up_refusal_or f later → (own ≡ false → later ≡ Some NotMine) →
    IfSome given (λ refusal. refusal ≢ OldSeq → refusal ≢ Repeat → new ≡ lane) → ((f ≡ None) × (own ≡ true)) ⊎ (new ≡ lane)
own-or-same lane new None true later given is mine same = inl (refl, refl)
own-or-same lane new None false later given is mine same =
    inr (subst (λ (g : Option UpRefused). IfSome g (λ refusal. refusal ≢ OldSeq → refusal ≢ Repeat → new ≡ lane)) (is ∙ mine refl) same (λ e. cc) (λ e. cc))
own-or-same lane new (Some frame) own later given is mine same =
    inr (subst (λ (g : Option UpRefused). IfSome g (λ refusal. refusal ≢ OldSeq → refusal ≢ Repeat → new ≡ lane)) is same (λ e. cc) (λ e. cc))

module _ (lane : LaneState) (dst number made : ℕ) (before last : Bool) (is : IsServed lane dst number made before last) where
  records : rounds_recorded (history_of is.calls) ≡ number
  records = sym is.stands.round ∙ is.at

  -- what a call keeps that leaves the sizes as they are
  pub called : (new : LaneState) (number' made' : ℕ) (before' last' : Bool) (calls : List LaneCall) → new.endpoint ≡ lane.endpoint → new.endpoints ≡ lane.endpoints → new.b ≡ lane.b → new.g ≡ lane.g →
      new.round ≡ number' → (made' ≡ 0 → new.is_made ≡ false) → LaneStandsFor new (history_of calls) (allocations_of calls) → MeetsConditions 1 calls → rounds_begun (history_of calls) ≡ number' + made' →
      (before' ≡ true → 1 ≤ allocated_in (number' - 2) (allocations_of calls) dst) → (last' ≡ true → 1 ≤ allocated_in (number' - 1) (allocations_of calls) dst) →
      IsServed new dst number' made' before' last'
  called new number' made' before' last' calls endpoint endpoints b g at made_is stands meets begun was is_last = record {
    endpoints = endpoints ∙ is.endpoints;
    b = b ∙ is.b;
    g = g ∙ is.g;
    at = at;
    not_made = made_is;
    within = is.within;
    other = λ same. is.other (same ∙ endpoint);
    calls = calls;
    stands = stands;
    meets = meets;
    begun = begun;
    counted_before = was;
    counted_last = is_last;
  }

-- ---- each call

module _ (lane : LaneState) (dst number : ℕ) (before last : Bool) where
  meets-told : (is : IsServed lane dst number 0 before last) → MeetsConditions 1 (Happens (MakesDown number (told_of_one dst before)) ∷ is.calls)
  meets-told is = (
    let begun = is.begun in omega (arith, begun),
    λ late reset to. told-few dst to (allocated_in (number - 2) (allocations_of is.calls) to) before
        (λ on same. subst (λ (d : ℕ). 1 ≤ allocated_in (number - 2) (allocations_of is.calls) d) same (is.counted_before on)),
    is.meets,
  )

  pub slot-allocated : ConditionsSuffice → IsServed lane dst number 0 before last → AreAllocated lane number (told_of_one dst before)
  slot-allocated suffice is =
      suffice.telling lane is.calls number (told_of_one dst before) (subst (λ (g : ℕ). MeetsConditions g (Happens (MakesDown number (told_of_one dst before)) ∷ is.calls)) (sym is.g) (meets-told is)) is.stands

  pub served-told : (new : LaneState) → (is : IsServed lane dst number 0 before last) → new ≡ record lane { sent = new.sent; lines = new.lines; is_made = true } →
      LaneStandsFor new (MakesDown number (told_of_one dst before) ∷ history_of is.calls) (allocations_of is.calls) → IsServed new dst number 1 before last
  served-told new is frame stands =
      called lane dst number 0 before last is new number 1 before last (Happens (MakesDown number (told_of_one dst before)) ∷ is.calls)
      (ap (λ (l : LaneState). l.endpoint) frame) (ap (λ (l : LaneState). l.endpoints) frame) (ap (λ (l : LaneState). l.b) frame) (ap (λ (l : LaneState). l.g) frame)
      (ap (λ (l : LaneState). l.round) frame ∙ is.at) (λ no. absurd (omega (arith, no))) stands (meets-told is) refl is.counted_before is.counted_last

  pub served-read : (new : LaneState) (bytes : List ℕ) (given : Option UpRefused) → (is : IsServed lane dst number 1 before last) →
      new.endpoint ≡ lane.endpoint → new.endpoints ≡ lane.endpoints → new.b ≡ lane.b → new.g ≡ lane.g → new.round ≡ lane.round →
      given ≡ up_refusal lane.endpoint lane.endpoints (history_of is.calls) bytes →
      IfSome given (λ refusal. refusal ≢ OldSeq → refusal ≢ Repeat → new ≡ lane) →
      (IsOwnUp lane.endpoint lane.endpoints bytes → LaneStandsFor new (TakesUp number (up_packet (up_of bytes)) ∷ history_of is.calls) (allocations_of is.calls)) →
      IsServed new dst number 1 before last
  served-read new bytes given is endpoint endpoints b g round answer unchanged stands =
      elim (own-or-same lane new (first_refusal (refuses_up lane.endpoints bytes)) ((up_of bytes).src == lane.endpoint) (up_refusal_of_packet lane.endpoint (history_of is.calls) (up_of bytes)) given
      answer (λ other. rw other refl) unchanged) [
        | inl own ↦
            let packet = up_packet (up_of bytes) in
            called lane dst number 1 before last is new number 1 before last (Happens (TakesUp number packet) ∷ is.calls) endpoint endpoints b g (round ∙ is.at) (λ no. absurd (omega (arith, no)))
            (stands (record { spelled = own.0; source = eqb-true (up_of bytes).src lane.endpoint own.1 }))
            (let recorded = records lane dst number 1 before last is in omega (arith, recorded), is.meets)
            is.begun is.counted_before is.counted_last
        | inr same ↦ subst (λ (l : LaneState). IsServed l dst number 1 before last) (sym same) is
      ]

  pub served-recorded : (new : LaneState) → (is : IsServed lane dst number 1 before last) → new ≡ record lane { lines = new.lines; is_reset = false; is_made = false; round = number + 1 } →
      LaneStandsFor new (Records number ∷ history_of is.calls) (allocations_of is.calls) → IsServed new dst (number + 1) 0 last false
  served-recorded new is frame stands =
      let begun = is.begun in
      let shift : number - 1 ≡ number + 1 - 2 = omega arith in
      called lane dst number 1 before last is new (number + 1) 0 last false (Happens (Records number) ∷ is.calls)
      (ap (λ (l : LaneState). l.endpoint) frame) (ap (λ (l : LaneState). l.endpoints) frame) (ap (λ (l : LaneState). l.b) frame) (ap (λ (l : LaneState). l.g) frame)
      (ap (λ (l : LaneState). l.round) frame) (λ no. ap (λ (l : LaneState). l.is_made) frame) stands is.meets (omega (arith, begun))
      (λ on. subst (λ (k : ℕ). 1 ≤ allocated_in k (allocations_of is.calls) dst) shift (is.counted_last on)) (λ no. absurd (cc))

pub served-counted : (lane new : LaneState) (dst batch : ℕ) (before : Bool) → (is : IsServed lane dst (batch + 1) 0 before false) → new ≡ record lane { lines = new.lines } →
    allocated (history_of is.calls) (allocations_of is.calls) dst + 1 ≤ owed lane.g (history_of is.calls) dst →
    LaneStandsFor new (history_of is.calls) (record { dst = dst; batch = batch; slots = 1 } ∷ allocations_of is.calls) → IsServed new dst (batch + 1) 0 before true
served-counted lane new dst batch before is frame owes stands =
    let a : Allocation = record { dst = dst; batch = batch; slots = 1 } in
    let back : batch ≡ batch + 1 - 1 = omega arith in
    let recorded = records lane dst (batch + 1) 0 before false is in
    called lane dst (batch + 1) 0 before false is new (batch + 1) 0 before true (Allocates a ∷ is.calls)
    (ap (λ (l : LaneState). l.endpoint) frame) (ap (λ (l : LaneState). l.endpoints) frame) (ap (λ (l : LaneState). l.b) frame) (ap (λ (l : LaneState). l.g) frame)
    (ap (λ (l : LaneState). l.round) frame ∙ is.at) (λ none. ap (λ (l : LaneState). l.is_made) frame ∙ is.not_made none) stands
    (omega (arith, recorded), (λ since. subst (λ (g : ℕ). allocated (history_of is.calls) (allocations_of is.calls) dst + 1 ≤ owed g (history_of is.calls) dst) is.g owes), is.meets)
    is.begun
    (λ on. counted-more dst (batch + 1 - 2) a (allocations_of is.calls) (is.counted_before on))
    (λ on. subst (λ (k : ℕ). 1 ≤ allocated_in k (a ∷ allocations_of is.calls) dst) back (counted-one dst batch (allocations_of is.calls)))

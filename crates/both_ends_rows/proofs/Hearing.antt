-- What the caller of an agent alone keeps over its calls.
use Rattle.std.proofs.Common.{◌≡◌, ◌≢◌, ◌⊎◌, ℕ, ◌+◌, ◌<◌, ◌≤◌, Bool, true, false, cond, ◌==◌, ◌&&◌, List, [], ◌∷◌, sym, ◌∙◌, ap, subst, refl, inl, inr, arith}
use Rattle.std.specs.Prelude.{nat_lt}
use Rattle.std.proofs.lemmas.Bool.{cases_Bool, and_parts, eq-eqb, or_left, or_right}
use Rattle.std.proofs.lemmas.List.Sums.{count_by-le-length}
use Rattle.ack_window.specs.declared.take_window.Taken.TheVariants.{Fresh, Repeat, Old}
use Rattle.ack_window.specs.Arrivals.{highest, has_come, is_fresh}
use Rattle.ack_window.specs.Versions.{reorder_of}
use Rattle.fcp_framing.specs.declared.packet.Down.{Down}
use Rattle.endpoint_history.specs.Agent.{AgentHistory, Boots, Asks, TakesDown, MakesUp, SendsDue, TakenDown, version_of, is_current, takes, arrived, taken, is_in_time, missed}
use Rattle.endpoint_history.specs.AgentLaws.{TakingBringsSlots}
use Rattle.endpoint_history.specs.Packets.{DownPacket, down_packet, slots_to}
use Rattle.endpoint_history.specs.Tellings.{Among}
use Rattle.endpoint_agent.specs.Standing.{AgentStandsFor}
use Rattle.endpoint_agent.specs.State.{AgentState}
use Rattle.endpoint_agent.specs.Timely.{BatchesAreApart, MayTake}
use Rattle.endpoint_agent.proofs.Due.{nil_or}
use Rattle.both_ends_rows.specs.Callers.{IsHeard, MayBeHeard}

-- ---- a number that was taken is not taken again

come-more : (latest number : ℕ) (earlier : List ℕ) → has_come earlier number ≡ true → has_come (latest ∷ earlier) number ≡ true
come-more latest number earlier came = or_right (latest == number) (has_come earlier number) came

taken-came : (t : TakenDown) (calls : AgentHistory) → Among t (taken calls) → has_come (arrived calls) t.packet.seq ≡ true
unfolding takes
taken-came t [] among = absurd among
taken-came t (Boots version ∷ earlier) among = absurd among
taken-came t (Asks dst slots ∷ earlier) among = taken-came t earlier among
taken-came t (MakesUp ∷ earlier) among = taken-came t earlier among
taken-came t (SendsDue round ∷ earlier) among = taken-came t earlier among
taken-came t (TakesDown round packet ∷ earlier) among =
    let this : TakenDown = record { round = round; packet = packet } in
    let came : (b : Bool) → is_current earlier packet ≡ b → has_come (arrived earlier) t.packet.seq ≡ true → has_come (cond b (packet.seq ∷ arrived earlier) (arrived earlier)) t.packet.seq ≡ true =
    λ b. elim b as (λ b. is_current earlier packet ≡ b → has_come (arrived earlier) t.packet.seq ≡ true → has_come (cond b (packet.seq ∷ arrived earlier) (arrived earlier)) t.packet.seq ≡ true) [
      | true ↦ λ is older. come-more packet.seq t.packet.seq (arrived earlier) older
      | false ↦ λ is older. older
    ] in
    elim (cases_Bool (takes earlier packet)) [
      | inl on ↦
          let current = (and_parts (is_current earlier packet) _ on).0 in
          elim (subst (λ (b : Bool). Among t (cond b (this ∷ taken earlier) (taken earlier))) on among) [
            | inl same ↦
                subst (λ (b : Bool). has_come (cond b (packet.seq ∷ arrived earlier) (arrived earlier)) t.packet.seq ≡ true) (sym current)
                (or_left (packet.seq == t.packet.seq) (has_come (arrived earlier) t.packet.seq) (eq-eqb packet.seq t.packet.seq (ap (λ (t : TakenDown). t.packet.seq) same)))
            | inr older ↦ came (is_current earlier packet) refl (taken-came t earlier older)
          ]
      | inr off ↦
          came (is_current earlier packet) refl (taken-came t earlier (subst (λ (b : Bool). Among t (cond b (this ∷ taken earlier) (taken earlier))) off among))
    ]

not_fresh : (current old : Bool) → (current && is_fresh (cond old Old Repeat)) ≡ false
not_fresh true true = refl
not_fresh true false = refl
not_fresh false old = refl

not-again : (calls : AgentHistory) (packet : DownPacket) → has_come (arrived calls) packet.seq ≡ true → takes calls packet ≡ false
unfolding takes
not-again calls packet came =
    let old = nat_lt (packet.seq + reorder_of (version_of calls)) (highest (arrived calls)) in
    ap (λ (b : Bool). is_current calls packet && is_fresh (cond old Old (cond b Repeat Fresh))) came ∙ not_fresh (is_current calls packet) old

clash : (b : Bool) → b ≡ true → b ≡ false → ⊥
clash b on off = cc

-- ---- an allocation that is heard

module _ (agent : AgentState) (round boots asks batch number : ℕ) (down : Down) (is : IsHeard agent round boots asks batch number) (may : MayBeHeard round batch number down) where
  once : takes is.calls (down_packet down) ≡ true → down.told.items ≢ [] → (t : TakenDown) → Among t (taken is.calls) → t.packet.content.told ≢ [] → t.packet.content.batch ≢ down.batch
  once fresh some t among told same =
      elim (is.told t among told) [
        | inl earlier ↦ elim (may.next some) [
          | inl next ↦ omega (arith, earlier, next, same)
          | inr it ↦ omega (arith, earlier, it.0, same)
        ]
        | inr last ↦ elim (may.next some) [
          | inl next ↦ omega (arith, last.0, next, same)
          | inr it ↦ clash (takes is.calls (down_packet down)) fresh
              (not-again is.calls (down_packet down) (subst (λ (n : ℕ). has_come (arrived is.calls) n ≡ true) (last.1 ∙ sym it.1) (taken-came t is.calls among)))
        ]
      ]

  pub may-take : takes is.calls (down_packet down) ≡ true → MayTake agent.g is.calls round (down_packet down)
  may-take fresh = record {
    late = λ some. let late = may.late some in let g = is.g in omega (arith, late, g);
    apart = (once fresh, is.apart);
  }

  apart-now : BatchesAreApart (taken (TakesDown round (down_packet down) ∷ is.calls))
  apart-now =
      let now : TakenDown = record { round = round; packet = down_packet down } in
      elim (cases_Bool (takes is.calls (down_packet down))) [
        | inl on ↦ subst (λ (b : Bool). BatchesAreApart (cond b (now ∷ taken is.calls) (taken is.calls))) (sym on) (once on, is.apart)
        | inr off ↦ subst (λ (b : Bool). BatchesAreApart (cond b (now ∷ taken is.calls) (taken is.calls))) (sym off) is.apart
      ]

  -- what is told of earlier packets, once this one is the last
  module _ (batch' number' : ℕ) (this : down.told.items ≢ [] → (batch' ≡ down.batch) × (number' ≡ down.seq)) (other : down.told.items ≡ [] → (batch' ≡ batch) × (number' ≡ number)) where
    abbrev IsEarlier : ℕ → ℕ → ℕ → ℕ → Type 0
    IsEarlier k n batch number = (k < batch) ⊎ ((k ≡ batch) × (n ≡ number))

    later : (k n : ℕ) → IsEarlier k n batch number → IsEarlier k n batch' number'
    later k n before =
        elim (nil_or down.told.items) [
          | inl none ↦
              let same = other none in
              subst (λ (b : ℕ). IsEarlier k n b number') (sym same.0) (subst (λ (m : ℕ). IsEarlier k n batch m) (sym same.1) before)
          | inr some ↦
              let same = this some in
              subst (λ (b : ℕ). IsEarlier k n b number') (sym same.0) (subst (λ (m : ℕ). IsEarlier k n down.batch m) (sym same.1)
              (elim (may.next some) [
                | inl next ↦ elim before [
                  | inl low ↦ inl (omega (arith, low, next))
                  | inr it ↦ let at = it.0 in inl (omega (arith, at, next))
                ]
                | inr it ↦ elim before [
                  | inl low ↦ let at = it.0 in inl (omega (arith, low, at))
                  | inr was ↦ inr (was.0 ∙ sym it.0, was.1 ∙ sym it.1)
                ]
              ]))
        ]

    told-now : (t : TakenDown) → Among t (taken (TakesDown round (down_packet down) ∷ is.calls)) → t.packet.content.told ≢ [] → IsEarlier t.packet.content.batch t.packet.seq batch' number'
    told-now t among told =
        let now : TakenDown = record { round = round; packet = down_packet down } in
        elim (cases_Bool (takes is.calls (down_packet down))) [
          | inl on ↦ elim (subst (λ (b : Bool). Among t (cond b (now ∷ taken is.calls) (taken is.calls))) on among) [
            | inl same ↦
                subst (λ (t : TakenDown). t.packet.content.told ≢ [] → IsEarlier t.packet.content.batch t.packet.seq batch' number') same
                (λ some. let at = this some in inr (sym at.0, sym at.1)) told
            | inr older ↦ later t.packet.content.batch t.packet.seq (is.told t older told)
          ]
          | inr off ↦ later t.packet.content.batch t.packet.seq (is.told t (subst (λ (b : Bool). Among t (cond b (now ∷ taken is.calls) (taken is.calls))) off among) told)
        ]

    pub heard-one : (new : AgentState) → new.me ≡ agent.me → new.endpoints ≡ agent.endpoints → new.b ≡ agent.b → new.g ≡ agent.g → new.round ≡ agent.round → new.is_made ≡ agent.is_made → new.epoch ≡ agent.epoch →
        AgentStandsFor new (TakesDown round (down_packet down) ∷ is.calls) → IsHeard new round boots asks batch' number'
    heard-one new me endpoints b g at made epoch stands = record {
      me = me ∙ is.me;
      endpoints = endpoints ∙ is.endpoints;
      b = b ∙ is.b;
      g = g ∙ is.g;
      at = at ∙ is.at;
      not_made = made ∙ is.not_made;
      epoch = epoch ∙ is.epoch;
      calls = TakesDown round (down_packet down) ∷ is.calls;
      stands = stands;
      asked = is.asked;
      apart = apart-now;
      told = told-now;
    }

-- What the calls of an agent change of its slots, and that no more is sent than was asked for.
use Rattle.std.proofs.Common.{◌≡◌, ℕ, ◌+◌, ◌-◌, ◌≤◌, true, false, cond, ◌==◌, nat_lt, List, [], ◌∷◌, ap, refl, inl, inr, arith}
use Rattle.std.specs.Prelude.{count_by}
use Rattle.std.proofs.lemmas.Bool.{cases_eq, cases_Bool, eq-eqb, ne_eqb, ltb-true}
use Rattle.std.proofs.lemmas.List.Sums.{sum_by-cons}
use Rattle.endpoint_history.specs.Packets.{DownPacket, slots_to}
use Rattle.endpoint_history.specs.Agent.{AgentHistory, Boots, Asks, TakesDown, MakesUp, SendsDue, TakenDown, takes, taken, is_in_time, in_time, missed, asked}
use Rattle.endpoint_history.specs.Sending.{Slot, due, sent_of, sends}
use Rattle.endpoint_history.specs.AgentLaws.{TakingBringsSlots, SendsAreAsked}
use Rattle.endpoint_history.proofs.SlotSums.{sum_by-split}
use Rattle.endpoint_history.proofs.Sending.{count_by-cons, sent_now-is}

-- ---- slots taken in

timely : (g round : ℕ) (packet : DownPacket) (history : AgentHistory) (dst : ℕ) → takes history packet ≡ true →
    in_time g (TakesDown round packet ∷ history) dst ≡ in_time g history dst + cond (is_in_time g (record { round = round; packet = packet })) (slots_to dst packet.content.told) 0
timely g round packet history dst takes_it =
    let push = sum_by-cons (λ (t : TakenDown). cond (is_in_time g t) (slots_to dst t.packet.content.told) 0) (record { round = round; packet = packet }) (taken history) in
    rw takes_it (omega arith)

late : (g round : ℕ) (packet : DownPacket) (history : AgentHistory) (dst : ℕ) → takes history packet ≡ true →
    missed g (TakesDown round packet ∷ history) dst ≡ missed g history dst + cond (is_in_time g (record { round = round; packet = packet })) 0 (slots_to dst packet.content.told)
late g round packet history dst takes_it =
    let push = sum_by-cons (λ (t : TakenDown). cond (is_in_time g t) 0 (slots_to dst t.packet.content.told)) (record { round = round; packet = packet }) (taken history) in
    rw takes_it (omega arith)

refused : (g round : ℕ) (packet : DownPacket) (history : AgentHistory) (dst : ℕ) → takes history packet ≡ false →
    (in_time g (TakesDown round packet ∷ history) dst ≡ in_time g history dst) × (missed g (TakesDown round packet ∷ history) dst ≡ missed g history dst)
refused g round packet history dst left = rw left (refl, refl)

pub taking_brings_slots : TakingBringsSlots
taking_brings_slots = record {
  timely = λ g round packet history dst takes_it. timely g round packet history dst takes_it;
  late = λ g round packet history dst takes_it. late g round packet history dst takes_it;
  refused = λ g round packet history dst left. refused g round packet history dst left;
  both = λ g history dst. sum_by-split (λ (t : TakenDown). is_in_time g t) (λ (t : TakenDown). slots_to dst t.packet.content.told) (taken history);
}

-- ---- sends

-- no more is sent of a flow than is left of it
sent-left : (left : ℕ → ℕ) (slots : List Slot) (dst : ℕ) → count_by (λ (s : Slot). s.dst == dst) (sent_of left slots) ≤ left dst
sent-left left [] dst = omega arith
sent-left left (s ∷ slots) dst =
    let less = λ (d : ℕ). left d - cond (d == s.dst) 1 0 in
    elim (cases_Bool (nat_lt 0 (left s.dst))) [
      | inr none ↦ rw none (sent-left left slots dst)
      | inl some ↦
          let rest = sent-left less slots dst in
          let push = count_by-cons (λ (x : Slot). x.dst == dst) s (sent_of less slots) in
          let enough = ltb-true 0 (left s.dst) some in
          rw some (elim (cases_eq s.dst dst) [
            | inl same ↦
                let counted = rw (eq-eqb s.dst dst same) at push in
                let here : less dst ≡ left dst - 1 = ap (λ b. left dst - cond b 1 0) (eq-eqb dst s.dst (omega arith)) in
                let is = ap left same in
                omega arith
            | inr other ↦
                let counted = rw (ne_eqb s.dst dst other) at push in
                let here : less dst ≡ left dst - 0 = ap (λ b. left dst - cond b 1 0) (ne_eqb dst s.dst (omega arith)) in
                omega arith
          ])
    ]

pub sends_are_asked : SendsAreAsked
sends_are_asked b g [] dst = omega arith
sends_are_asked b g (Boots version ∷ history) dst = omega arith
sends_are_asked b g (MakesUp ∷ history) dst = sends_are_asked b g history dst
sends_are_asked b g (TakesDown round packet ∷ history) dst = sends_are_asked b g history dst
sends_are_asked b g (Asks to slots ∷ history) dst =
    let before = sends_are_asked b g history dst in
    elim (to == dst) as (λ c. sends b g history dst ≤ cond c (asked history dst + slots) (asked history dst)) [ true ↦ omega arith | false ↦ before ]
sends_are_asked b g (SendsDue round ∷ history) dst =
    let before = sends_are_asked b g history dst in
    let left = λ (d : ℕ). asked history d - sends b g history d in
    let some = sent-left left (due b g history round) dst in
    let same = ap (λ xs. count_by (λ (s : Slot). s.dst == dst) xs) (sent_now-is b g history (λ d. sends b g history d) round) in
    omega arith

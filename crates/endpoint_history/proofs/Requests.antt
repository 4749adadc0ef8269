-- What requests name.
use Rattle.std.proofs.Common.{◌≡◌, ℕ, zero, suc, ◌+◌, ◌<◌, ◌≤◌, Bool, true, ◌&&◌, not, cond, ◌==◌, List, [], ◌∷◌, Some, sym, ap, subst, refl, inl, inr, arith, All}
use Rattle.std.specs.Prelude.{map, filter}
use Rattle.std.specs.List.{range_with_len}
use Rattle.std.specs.List.Sorted.{IsStrictlyIncreasing}
use Rattle.std.proofs.lemmas.Bool.{cases_eq, cases_Bool, eq-eqb, ne_eqb}
use Rattle.std.proofs.lemmas.List.Elements.{All-nil, All-cons, All-head, All-tail}
use Rattle.std.proofs.lemmas.List.FromFn.{length-range_with_len, get_or-range_with_len}
use Rattle.std.proofs.lemmas.List.Kept.{IsStrictlyIncreasing-filter}
use Rattle.ack_window.specs.Ends.{content_of}
use Rattle.ack_window.specs.Sends.{Event, newest_of}
use Rattle.fcp_framing.specs.declared.packet.Demand.{Demand}
use Rattle.endpoint_history.specs.Agent.{AgentEvent, AgentHistory, Boots, Asks, TakesDown, MakesUp, SendsDue, epoch_of, is_current, sends_new, total, unconfirmed, numbers}
use Rattle.endpoint_history.specs.AgentLaws.{NamesTotals, RequestsNameTotals}
use Rattle.endpoint_history.proofs.Totals.{total-grows}

-- ---- the destinations

range-rises : (n : ℕ) → IsStrictlyIncreasing (range_with_len 0 n)
range-rises n k within =
    let long = length-range_with_len 0 n in
    let here = get_or-range_with_len 0 n k 0 (omega arith) in
    let next = get_or-range_with_len 0 n (k + 1) 0 (omega arith) in
    omega arith

range-below : (a n : ℕ) → All (λ (m : ℕ). m < a + n) (range_with_len a n)
range-below a zero = All-nil (λ (m : ℕ). m < a + 0)
range-below a (suc n) =
    let moved : a + 1 + n ≡ a + suc n = omega arith in
    All-cons (λ (m : ℕ). m < a + suc n) a (range_with_len (a + 1) n) (omega arith)
    (subst (λ (most : ℕ). All (λ (m : ℕ). m < most) (range_with_len (a + 1) n)) moved (range-below (a + 1) n))

named-dsts : (test : Demand → Bool) (most : ℕ → ℕ) (dsts : List ℕ) →
    map (λ (d : Demand). d.dst) (filter test (map (λ n. record { dst = n; total = most n }) dsts)) ≡ filter (λ n. test (record { dst = n; total = most n })) dsts
named-dsts test most [] = refl
named-dsts test most (n ∷ dsts) =
    elim (cases_Bool (test (record { dst = n; total = most n }))) [
      | inl named ↦ rw named (ap (λ xs. n ∷ xs) (named-dsts test most dsts))
      | inr left ↦ rw left (named-dsts test most dsts)
    ]

named-all : (P : Demand → Type 0) (Q : ℕ → Type 0) (test : Demand → Bool) (most : ℕ → ℕ) (dsts : List ℕ) → ((n : ℕ) → Q n → test (record { dst = n; total = most n }) ≡ true → P (record { dst = n; total = most n })) → All Q dsts →
    All P (filter test (map (λ n. record { dst = n; total = most n }) dsts))
named-all P Q test most [] holds each = All-nil P
named-all P Q test most (n ∷ dsts) holds each =
    let rest = named-all P Q test most dsts holds (All-tail Q n dsts each) in
    elim (cases_Bool (test (record { dst = n; total = most n }))) [
      | inl named ↦ rw named (All-cons P (record { dst = n; total = most n }) _ (holds n (All-head Q n dsts each) named) rest)
      | inr left ↦ rw left rest
    ]

-- ---- a new request

not_zero : (n : ℕ) (b : Bool) → not (n == 0) && b ≡ true → 0 < n
not_zero n b h =
    elim (cases_eq n 0) [
      | inl none ↦ let it = rw (eq-eqb n 0 none) at h in absurd (cc)
      | inr some ↦ omega arith
    ]

new-names : (endpoints g : ℕ) (history : AgentHistory) (sent : List (Event (List Demand))) → NamesTotals endpoints g history (unconfirmed endpoints g history sent)
unfolding unconfirmed
new-names endpoints g history sent = record {
  rising = subst IsStrictlyIncreasing (sym (named-dsts _ (λ n. total g history n) (range_with_len 0 endpoints))) (IsStrictlyIncreasing-filter _ (range_with_len 0 endpoints) (range-rises endpoints));
  within = named-all (λ (d : Demand). d.dst < endpoints) (λ n. n < 0 + endpoints) _ (λ n. total g history n) (range_with_len 0 endpoints) (λ n below named. omega arith) (range-below 0 endpoints);
  totals = named-all (λ (d : Demand). (0 < d.total) × (d.total ≤ total g history d.dst)) (λ n. n < 0 + endpoints) _ (λ n. total g history n) (range_with_len 0 endpoints) (λ n below named. (not_zero (total g history n) _ named, omega arith)) (range-below 0 endpoints);
}

-- ---- a later call of the boot

All-more : {X : Type 0} (P Q : X → Type 0) (xs : List X) → ((x : X) → P x → Q x) → All P xs → All Q xs
All-more P Q [] more each = All-nil Q
All-more P Q (x ∷ xs) more each = All-cons Q x xs (more x (All-head P x xs each)) (All-more P Q xs more (All-tail P x xs each))

later-names : (endpoints g : ℕ) (event : AgentEvent) (history : AgentHistory) (demands : List Demand) → epoch_of (event ∷ history) ≡ epoch_of history → NamesTotals endpoints g history demands → NamesTotals endpoints g (event ∷ history) demands
later-names endpoints g event history demands stays names = record {
  rising = names.rising;
  within = names.within;
  totals = All-more (λ (d : Demand). (0 < d.total) × (d.total ≤ total g history d.dst)) (λ (d : Demand). (0 < d.total) × (d.total ≤ total g (event ∷ history) d.dst)) demands
      (λ d named. let grows = total-grows g event history d.dst stays in let low = named.1 in (named.0, omega arith)) names.totals;
}

pub requests_name_totals : RequestsNameTotals
requests_name_totals endpoints g [] number demands is = absurd (cc)
requests_name_totals endpoints g (Boots version ∷ history) number demands is = absurd (cc)
requests_name_totals endpoints g (Asks to slots ∷ history) number demands is = later-names endpoints g (Asks to slots) history demands refl (requests_name_totals endpoints g history number demands is)
requests_name_totals endpoints g (SendsDue round ∷ history) number demands is = later-names endpoints g (SendsDue round) history demands refl (requests_name_totals endpoints g history number demands is)
requests_name_totals endpoints g (TakesDown round packet ∷ history) number demands is =
    let before : content_of (numbers endpoints g history) number ≡ Some demands =
    elim (cases_Bool (is_current history packet)) [ inl current ↦ rw current at is | inr other ↦ rw other at is ] in
    later-names endpoints g (TakesDown round packet) history demands refl (requests_name_totals endpoints g history number demands before)
requests_name_totals endpoints g (MakesUp ∷ history) number demands is =
    let sent = numbers endpoints g history in
    let latest = unconfirmed endpoints g history sent in
    later-names endpoints g MakesUp history demands refl
    (elim (cases_Bool (sends_new history sent)) [
      | inr again ↦ requests_name_totals endpoints g history number demands (rw again at is)
      | inl new ↦
          elim (cases_eq number (newest_of sent + 1)) [
            | inl here ↦
                let same = subst (λ (b : Bool). cond b (Some latest) (content_of sent number) ≡ Some demands) (eq-eqb number (newest_of sent + 1) here) (rw new at is) in
                let content : latest ≡ demands = cc in
                subst (λ (ds : List Demand). NamesTotals endpoints g history ds) content (new-names endpoints g history sent)
            | inr other ↦
                requests_name_totals endpoints g history number demands
                (subst (λ (b : Bool). cond b (Some latest) (content_of sent number) ≡ Some demands) (ne_eqb number (newest_of sent + 1) other) (rw new at is))
          ]
    ])

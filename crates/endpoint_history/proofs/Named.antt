-- Packets that name nothing of an endpoint, or little.
use Rattle.std.proofs.Common.{◌≡◌, ◌≢◌, ℕ, List, [], ◌∷◌, All, refl, ◌≤◌, inl, inr, arith, cond, ap}
use Rattle.endpoint_history.specs.Confirmed.{total_named}
use Rattle.endpoint_history.specs.Packets.{slots_to}
use Rattle.fcp_framing.specs.declared.packet.Demand.{Demand}
use Rattle.fcp_framing.specs.declared.packet.Told.{Told}
use Rattle.std.proofs.lemmas.Bool.{ne_eqb, cases_Bool}
use Rattle.std.proofs.lemmas.List.Elements.{All-head, All-tail}
use Rattle.std.proofs.lemmas.List.Sums.{sum_by-cons}
use Rattle.std.specs.Prelude.{◌==◌}

pub total_named-own : (endpoint : ℕ) (demands : List Demand) → All (λ (demand : Demand). demand.dst ≢ endpoint) demands → total_named endpoint demands ≡ 0
total_named-own endpoint [] others = refl
total_named-own endpoint (demand ∷ demands) others =
    rw (ne_eqb demand.dst endpoint (All-head (λ (demand : Demand). demand.dst ≢ endpoint) demand demands others))
    (total_named-own endpoint demands (All-tail (λ (demand : Demand). demand.dst ≢ endpoint) demand demands others))

pub total_named-most : (most dst : ℕ) (demands : List Demand) → All (λ (demand : Demand). demand.total ≤ most) demands → total_named dst demands ≤ most
total_named-most most dst [] totals = omega arith
total_named-most most dst (demand ∷ demands) totals =
    let here = All-head (λ (demand : Demand). demand.total ≤ most) demand demands totals in
    let rest = total_named-most most dst demands (All-tail (λ (demand : Demand). demand.total ≤ most) demand demands totals) in
    elim (cases_Bool (demand.dst == dst)) [
      | inl same ↦ rw same (omega (arith, here, rest))
      | inr other ↦ rw other rest
    ]

pub slots_to-own : (endpoint : ℕ) (told : List Told) → All (λ (slot : Told). slot.dst ≢ endpoint) told → slots_to endpoint told ≡ 0
slots_to-own endpoint [] others = refl
slots_to-own endpoint (slot ∷ told) others =
    let both = sum_by-cons (λ (slot : Told). cond {A = ℕ} (slot.dst == endpoint) 1 0) slot told in
    let here : cond {A = ℕ} (slot.dst == endpoint) 1 0 ≡ 0 = ap (λ b. cond {A = ℕ} b 1 0) (ne_eqb slot.dst endpoint (All-head (λ (slot : Told). slot.dst ≢ endpoint) slot told others)) in
    let rest = slots_to-own endpoint told (All-tail (λ (slot : Told). slot.dst ≢ endpoint) slot told others) in
    omega (arith, both, here, rest)

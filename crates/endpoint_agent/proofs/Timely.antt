-- A packet that comes in order may be taken.
use Rattle.std.proofs.Common.{◌≡◌, ◌≢◌, ℕ, zero, suc, ◌+◌, ◌*◌, ◌<◌, ◌≤◌, Bool, true, false, cond, ◌==◌, nat_lt, List, [], ◌∷◌, ◌++◌, length, filter, refl, sym, ◌∙◌, ap, inl, inr, arith, add-one}
use Rattle.std.specs.Prelude.{sum_by}
use Rattle.std.specs.List.{flat_map}
use Rattle.std.proofs.lemmas.Bool.{cases_Bool, cases_eq, cond-true, cond-false, eqb-true, eq-eqb, ne_eqb, and_parts, le-leb, lt-leb, lt-ltb}
use Rattle.std.proofs.lemmas.Bool.Decides.{nat_tests}
use Rattle.std.proofs.lemmas.List.Sums.{sum_by-cons, count_by-le-length}
use Rattle.list_facts.specs.Order.{sort_by}
use Rattle.list_facts.proofs.Bools.{cond-same}
use Rattle.fcp_framing.specs.declared.packet.Told.{Told}
use Rattle.endpoint_history.specs.Packets.{DownPacket, slots_to}
use Rattle.endpoint_history.specs.Agent.{AgentHistory, TakenDown, taken, is_in_time}
use Rattle.endpoint_history.specs.Sending.{Slot, slots_of_telling}
use Rattle.endpoint_history.specs.Tellings.{Among}
use Rattle.endpoint_agent.specs.declared.lines.FlowLine.{FlowLine}
use Rattle.endpoint_agent.specs.Standing.{AgentStandsFor}
use Rattle.endpoint_agent.specs.Timely.{BatchesAreApart, AreTold, MayTake}
use Rattle.endpoint_agent.specs.State.{AgentState, line_at, batch_place, first_waiting, waits_of}
use Rattle.endpoint_agent.proofs.Due.{is_due, due_of, nil_or}

abbrev slots_in : ℕ → List TakenDown → List Slot
slots_in b ts = flat_map (λ (t : TakenDown). slots_of_telling b t.packet.content) ts

-- where no packet tells slots of a batch, none are due when it is used
none-due : (b g batch : ℕ) (ts : List TakenDown) → ((t : TakenDown) → Among t ts → t.packet.content.told ≢ [] → t.packet.content.batch ≢ batch)
    → slots_in b (filter (is_due g (batch + 2 * g + 2)) ts) ≡ []
none-due b g batch [] once = refl
none-due b g batch (t ∷ ts) once =
    let test : Bool = is_due g (batch + 2 * g + 2) t in
    let kept = filter (is_due g (batch + 2 * g + 2)) ts in
    let rest = none-due b g batch ts (λ s among. once s (inr among)) in
    elim (cases_Bool test) [
      | inr left ↦ ap (slots_in b) (cond-false test (t ∷ kept) kept left) ∙ rest
      | inl due ↦
          let same = eqb-true (batch + 2 * g + 2) (t.packet.content.batch + 2 * g + 2) (and_parts (is_in_time g t) (batch + 2 * g + 2 == t.packet.content.batch + 2 * g + 2) due).1 in
          elim (nil_or t.packet.content.told) [
            | inl none ↦
                ap (slots_in b) (cond-true test (t ∷ kept) kept due)
                ∙ ap (λ (told : List Told). slots_of_telling b (record { batch = t.packet.content.batch; told = told }) ++ slots_in b kept) none
                ∙ rest
            | inr some ↦ absurd (once t (inl refl) some (omega (arith, same)))
          ]
    ]

no-slots : (b batch : ℕ) (told : List Told) → slots_of_telling b (record { batch = batch; told = told }) ≡ [] → told ≡ []
no-slots b batch [] none = refl
no-slots b batch (t ∷ told) none = absurd cc

free : (agent : AgentState) (history : AgentHistory) (packet : DownPacket) → AgentStandsFor agent history → packet.content.batch + 2 * agent.g ≤ agent.round
    → ((t : TakenDown) → Among t (taken history) → t.packet.content.told ≢ [] → t.packet.content.batch ≢ packet.content.batch)
    → agent.round ≤ packet.content.batch + 2 * agent.g + 2 → batch_place agent.waiting packet.content.batch ≡ []
free agent history packet stands late once in_time =
    let k = packet.content.batch in
    let b = agent.b in
    let g = agent.g in
    let waits : waits_of g agent.round agent.waiting k ≡ batch_place agent.waiting k =
    ap (λ (c : Bool). cond c (batch_place agent.waiting k) []) (le-leb k (first_waiting g agent.round + 2) (omega (arith, late))) in
    let none : due_of b g (k + 2 * g + 2) (taken history) ≡ [] =
    ap (sort_by (λ (s : Slot). s.slot)) (none-due b g k (taken history) once) in
    sym waits ∙ no-slots b k (waits_of g agent.round agent.waiting k) (stands.waiting k (omega (arith, in_time)) ∙ none)

-- ---- how much is missed where no two are of one batch

-- the slots to a destination that an allocation brings too late
abbrev missed_of : ℕ → ℕ → TakenDown → ℕ
missed_of g dst t = cond (is_in_time g t) 0 (slots_to dst t.packet.content.told)

module _ (g dst : ℕ) where
  abbrev of_batch : ℕ → TakenDown → ℕ
  of_batch k t = cond (t.packet.content.batch == k) (missed_of g dst t) 0

  abbrev of_lower : ℕ → TakenDown → ℕ
  of_lower n t = cond (nat_lt t.packet.content.batch n) (missed_of g dst t) 0

  few-of : (t : TakenDown) → length t.packet.content.told ≤ 64 → missed_of g dst t ≤ 64
  few-of t few = by (is_in_time g t) (count_by-le-length (λ (s : Told). s.dst == dst) t.packet.content.told)
    where
      by : (b : Bool) → slots_to dst t.packet.content.told ≤ length t.packet.content.told → cond b 0 (slots_to dst t.packet.content.told) ≤ 64
      by true most = omega arith
      by false most = omega (arith, most, few)

  none-of : (t : TakenDown) → t.packet.content.told ≡ [] → missed_of g dst t ≡ 0
  none-of t none = ap (λ (told : List Told). cond (is_in_time g t) 0 (slots_to dst told)) none ∙ cond-same (is_in_time g t) 0

  -- of a batch of which none tells slots none are missed, and of any other at most 64
  no-batch : (k : ℕ) (ts : List TakenDown) → ((u : TakenDown) → Among u ts → u.packet.content.told ≢ [] → u.packet.content.batch ≢ k) → sum_by (of_batch k) ts ≡ 0
  no-batch k [] others = refl
  no-batch k (t ∷ ts) others =
      let rest = no-batch k ts (λ u among. others u (inr among)) in
      let here : of_batch k t ≡ 0 = elim (nil_or t.packet.content.told) [
        | inl none ↦ ap (λ (n : ℕ). cond (t.packet.content.batch == k) n 0) (none-of t none) ∙ cond-same (t.packet.content.batch == k) 0
        | inr some ↦ cond-false (t.packet.content.batch == k) (missed_of g dst t) 0 (ne_eqb t.packet.content.batch k (others t (inl refl) some))
      ] in
      omega (arith, sum_by-cons (of_batch k) t ts, rest, here)

  one-batch : (k round : ℕ) (ts : List TakenDown) → BatchesAreApart ts → AreTold round ts → sum_by (of_batch k) ts ≤ 64
  one-batch k round [] apart told = omega arith
  one-batch k round (t ∷ ts) apart told =
      let rest = one-batch k round ts apart.1 told.2 in
      let few = few-of t told.0 in
      let cons = sum_by-cons (of_batch k) t ts in
      elim (cases_eq t.packet.content.batch k) [
        | inr other ↦
            let here : of_batch k t ≡ 0 = cond-false (t.packet.content.batch == k) (missed_of g dst t) 0 (ne_eqb t.packet.content.batch k other) in
            omega (arith, cons, rest, here)
        | inl same ↦
            let here : of_batch k t ≡ missed_of g dst t = cond-true (t.packet.content.batch == k) (missed_of g dst t) 0 (eq-eqb t.packet.content.batch k same) in
            elim (nil_or t.packet.content.told) [
              | inl none ↦ let nothing = none-of t none in omega (arith, cons, rest, here, nothing)
              | inr some ↦
                  let others = no-batch k ts (λ u among some_too is. apart.0 some u among some_too (is ∙ sym same)) in
                  omega (arith, cons, here, few, others)
            ]
      ]

  lower-more : (n : ℕ) (ts : List TakenDown) → sum_by (of_lower (n + 1)) ts ≡ sum_by (of_lower n) ts + sum_by (of_batch n) ts
  lower-more n [] = refl
  lower-more n (t ∷ ts) =
      let rest = lower-more n ts in
      let here : of_lower (n + 1) t ≡ of_lower n t + of_batch n t = by t.packet.content.batch (missed_of g dst t) in
      omega (arith, sum_by-cons (of_lower (n + 1)) t ts, sum_by-cons (of_lower n) t ts, sum_by-cons (of_batch n) t ts, rest, here)
    where
      by : (k m : ℕ) → cond (nat_lt k (n + 1)) m 0 ≡ cond (nat_lt k n) m 0 + cond (k == n) m 0
      by k m = grind (arith, nat_tests)

  lower-few : (round : ℕ) (ts : List TakenDown) → BatchesAreApart ts → AreTold round ts → (n : ℕ) → sum_by (of_lower n) ts ≤ 64 * n
  lower-few round ts apart told zero = none ts
    where
      none : (ts : List TakenDown) → sum_by (of_lower 0) ts ≤ 0
      none [] = omega arith
      none (t ∷ ts) =
          let here : of_lower 0 t ≡ 0 = cond-false (nat_lt t.packet.content.batch 0) (missed_of g dst t) 0 (grind (arith, nat_tests)) in
          omega (arith, sum_by-cons (of_lower 0) t ts, none ts, here)
  lower-few round ts apart told (suc n) =
      let rest = lower-few round ts apart told n in
      let one = one-batch n round ts apart told in
      let more = ap (λ (k : ℕ). sum_by (of_lower k) ts) (sym (add-one n)) ∙ lower-more n ts in
      omega (arith, rest, one, more)

  all-lower : (round : ℕ) (ts : List TakenDown) → AreTold round ts → sum_by (missed_of g dst) ts ≡ sum_by (of_lower (round + 1)) ts
  all-lower round [] told = refl
  all-lower round (t ∷ ts) told =
      let rest = all-lower round ts told.2 in
      let here : of_lower (round + 1) t ≡ missed_of g dst t = elim (nil_or t.packet.content.told) [
        | inl none ↦ let nothing = none-of t none in by (nat_lt t.packet.content.batch (round + 1)) (missed_of g dst t) nothing
        | inr some ↦ let low = told.1 some in cond-true (nat_lt t.packet.content.batch (round + 1)) (missed_of g dst t) 0 (lt-ltb t.packet.content.batch (round + 1) (omega (arith, low)))
      ] in
      omega (arith, sum_by-cons (missed_of g dst) t ts, sum_by-cons (of_lower (round + 1)) t ts, rest, here)
    where
      by : (b : Bool) (m : ℕ) → m ≡ 0 → cond b m 0 ≡ m
      by true m none = refl
      by false m none = sym none

  pub few-missed : (round : ℕ) (ts : List TakenDown) → BatchesAreApart ts → AreTold round ts → sum_by (missed_of g dst) ts ≤ 64 * (round + 1)
  few-missed round ts apart told =
      let all = all-lower round ts told in
      let few = lower-few round ts apart told (round + 1) in
      omega (arith, all, few)

-- ---- what an agent may take

-- slots that are taken come two windows after their batch or later. Where they are in time none of their batch wait, and where they
-- are not, they and those that were missed before are few enough to be counted
pub record HasRoom (agent : AgentState) (round : ℕ) (packet : DownPacket) : Type 0 where
  pub late : packet.content.told ≢ [] → packet.content.batch + 2 * agent.g ≤ round
  pub apart : packet.content.told ≢ [] → round ≤ packet.content.batch + 2 * agent.g + 2 → batch_place agent.waiting packet.content.batch ≡ []
  pub fits : packet.content.told ≢ [] → packet.content.batch + 2 * agent.g + 2 < round →
      (dst : ℕ) → dst < agent.endpoints → (line_at agent.lines dst).missed + slots_to dst packet.content.told ≤ 100000000

pub has-room : (agent : AgentState) (history : AgentHistory) (packet : DownPacket) → AgentStandsFor agent history → agent.round < 100000 → length packet.content.told ≤ 64
    → MayTake agent.g history agent.round packet → HasRoom agent agent.round packet
has-room agent history packet stands rounds few may = record {
  late = may.late;
  apart = λ some in_time. free agent history packet stands (may.late some) (may.apart.0 some) in_time;
  fits = λ some past dst below.
      let this : TakenDown = record { round = agent.round; packet = packet } in
      let told : AreTold agent.round (this ∷ taken history) = (few, λ some. let e = may.late some in omega (arith, e), stands.told) in
      let all = few-missed agent.g dst agent.round (this ∷ taken history) may.apart told in
      let cons = sum_by-cons (missed_of agent.g dst) this (taken history) in
      let now : missed_of agent.g dst this ≡ slots_to dst packet.content.told = cond-false (is_in_time agent.g this) 0 (slots_to dst packet.content.told) (lt-leb agent.round (packet.content.batch + 2 * agent.g + 2) past) in
      let before = ap (λ (l : FlowLine). l.missed) (stands.lines dst below) in
      omega (arith, all, cons, now, before, rounds);
}

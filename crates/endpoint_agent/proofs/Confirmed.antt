-- A flow's total is confirmed exactly where a request from the one on that may first carry it is acknowledged.
use Rattle.std.proofs.Common.{◌≡◌, ◌⊎◌, ℕ, ◌+◌, ◌<◌, ◌≤◌, max, Bool, true, false, cond, ◌&&◌, ◌==◌, leb, Option, Some, None, List, [], ◌∷◌, refl, sym, ◌∙◌, ap, subst, inl, inr, arith}
use Rattle.std.specs.List.{list_any}
use Rattle.std.proofs.lemmas.Bool.{cases_Bool, cases_lt, cond-true, cond-false, and_from, and_parts, le-leb, lt-leb}
use Rattle.ack_window.specs.declared.send_window.Unresolved.{Unresolved}
use Rattle.ack_window.specs.declared.acknowledgement.Acknowledgement.{Acknowledgement}
use Rattle.ack_window.specs.declared.acknowledgement.Decision.{Decision}
use Rattle.ack_window.specs.Acknowledgement.{is_acknowledged, decision_read}
use Rattle.ack_window.specs.Sends.{Event, Sends, Reads, newest_of, numbers_sent, decision_of, first_decision}
use Rattle.fcp_framing.specs.declared.packet.Demand.{Demand}
use Rattle.endpoint_history.specs.Agent.{was_carried}
use Rattle.endpoint_agent.specs.Carrying.{greatest_in, greatest_acknowledged}
use Rattle.endpoint_agent.proofs.Members.{Has, Has-left, Has-cases, any_from, any_to}

abbrev pub Requests : Type 0
Requests = List (Event (List Demand))

abbrev pub Request : Type 0
Request = Unresolved (List Demand)

abbrev pub demand_of : ℕ → ℕ → Demand
demand_of dst total = record { dst = dst; total = total }

-- a request carries a total where it names the flow with it
abbrev pub carries : ℕ → ℕ → List Demand → Bool
carries dst total demands = list_any (λ (d : Demand). d.dst == dst && d.total == total) demands

-- ---- the greatest number

pub below_greatest : (test : ℕ → Bool) (xs : List Request) (s : Request) → Has xs s → test s.number ≡ true → s.number ≤ greatest_in test xs
below_greatest test [] s here passes = absurd here
below_greatest test (y ∷ xs) s here passes = elim here [
  | inl same ↦
      let e : y.number ≡ s.number = ap (λ (u : Request). u.number) same in
      let is = cond-true (test y.number) (max y.number (greatest_in test xs)) (greatest_in test xs) (ap test e ∙ passes) in
      omega arith
  | inr later ↦
      let e = below_greatest test xs s later passes in
      elim (cases_Bool (test y.number)) [
        | inl t ↦ let is = cond-true (test y.number) (max y.number (greatest_in test xs)) (greatest_in test xs) t in omega arith
        | inr f ↦ let is = cond-false (test y.number) (max y.number (greatest_in test xs)) (greatest_in test xs) f in omega arith
      ]
]

pub greatest_there : (test : ℕ → Bool) (xs : List Request) → 1 ≤ greatest_in test xs → (s : Request) × Has xs s × (test s.number ≡ true) × (s.number ≡ greatest_in test xs)
greatest_there test [] some = absurd (omega arith)
greatest_there test (y ∷ xs) some = elim (cases_Bool (test y.number)) [
  | inl t ↦
      let is = cond-true (test y.number) (max y.number (greatest_in test xs)) (greatest_in test xs) t in
      elim (cases_lt (greatest_in test xs) y.number) [
        | inl first ↦ (y, inl refl, t, omega arith)
        | inr later ↦ let (s, there, passes, same) = greatest_there test xs (omega arith) in (s, inr there, passes, omega arith)
      ]
  | inr f ↦
      let is = cond-false (test y.number) (max y.number (greatest_in test xs)) (greatest_in test xs) f in
      let (s, there, passes, same) = greatest_there test xs (omega arith) in (s, inr there, passes, omega arith)
]

-- ---- what was carried

abbrev pub acked : ℕ → ℕ → Requests → ℕ → Bool
acked reorder span sent number = is_acknowledged (decision_of reorder span sent number)

abbrev passes : ℕ → ℕ → Requests → ℕ → ℕ → Request → Bool
passes reorder span sent dst total s = acked reorder span sent s.number && carries dst total s.content

pub carried-from : (reorder span : ℕ) (sent : Requests) (dst total : ℕ) (m : Request) → Has (numbers_sent sent) m → acked reorder span sent m.number ≡ true → carries dst total m.content ≡ true
    → was_carried reorder span sent (demand_of dst total) ≡ true
carried-from reorder span sent dst total m here is carried =
    any_from (passes reorder span sent dst total) (numbers_sent sent) m here (and_from (acked reorder span sent m.number) (carries dst total m.content) is carried)

pub carried-to : (reorder span : ℕ) (sent : Requests) (dst total : ℕ) → was_carried reorder span sent (demand_of dst total) ≡ true
    → (m : Request) × Has (numbers_sent sent) m × (acked reorder span sent m.number ≡ true) × (carries dst total m.content ≡ true)
carried-to reorder span sent dst total was =
    let (m, here, both) = any_to (passes reorder span sent dst total) (numbers_sent sent) was in
    let (is, carried) = and_parts (acked reorder span sent m.number) (carries dst total m.content) both in
    (m, here, is, carried)

stays_acknowledged : (first later : Option Decision) → is_acknowledged first ≡ true → is_acknowledged (first_decision first later) ≡ true
stays_acknowledged None later none = absurd cc
stays_acknowledged (Some decision) later is = is

-- it stays so
carried-reads : (reorder span : ℕ) (sent : Requests) (dst total : ℕ) (ack : Acknowledgement) → was_carried reorder span sent (demand_of dst total) ≡ true → was_carried reorder span (Reads ack ∷ sent) (demand_of dst total) ≡ true
carried-reads reorder span sent dst total ack was =
    let (m, here, is, carried) = carried-to reorder span sent dst total was in
    carried-from reorder span (Reads ack ∷ sent) dst total m here
    (stays_acknowledged (decision_of reorder span sent m.number) (decision_read reorder span (newest_of sent) ack m.number) is) carried

carried-sends : (reorder span : ℕ) (sent : Requests) (dst total : ℕ) (content : List Demand) → was_carried reorder span sent (demand_of dst total) ≡ true → was_carried reorder span (Sends content ∷ sent) (demand_of dst total) ≡ true
carried-sends reorder span sent dst total content was =
    let (m, here, is, carried) = carried-to reorder span sent dst total was in
    carried-from reorder span (Sends content ∷ sent) dst total m
    (Has-left (numbers_sent sent) (record { number = newest_of sent + 1; content = content } ∷ []) m here) is carried

-- ---- what the requests carry of a flow whose total is this, where the request with this number is the first that may carry it

pub record Carrying (reorder span : ℕ) (sent : Requests) (dst total from : ℕ) : Type 0 where
  pub starts : total ≡ 0 → from ≡ 0
  pub grown : from ≡ 0 → total ≡ 0
  pub reach : from ≤ newest_of sent + 1
  pub most : (s : Request) (other : ℕ) → Has (numbers_sent sent) s → carries dst other s.content ≡ true → other ≤ total
  pub before : (s : Request) → Has (numbers_sent sent) s → carries dst total s.content ≡ true → from ≤ s.number
  pub since : (s : Request) → Has (numbers_sent sent) s → from ≤ s.number → 1 ≤ from →
      (carries dst total s.content ≡ true) ⊎ (was_carried reorder span sent (demand_of dst total) ≡ true)

sent_up_to_newest : (sent : Requests) (s : Request) → Has (numbers_sent sent) s → s.number ≤ newest_of sent
sent_up_to_newest [] s here = absurd here
sent_up_to_newest (Sends content ∷ earlier) s here = elim (Has-cases (numbers_sent earlier) (record { number = newest_of earlier + 1; content = content }) s here) [
  | inl there ↦ let e = sent_up_to_newest earlier s there in omega arith
  | inr same ↦ let e : newest_of earlier + 1 ≡ s.number = ap (λ (u : Request). u.number) same in omega arith
]
sent_up_to_newest (Reads ack ∷ earlier) s here = sent_up_to_newest earlier s here

pub Carrying-none : (reorder span dst : ℕ) → Carrying reorder span [] dst 0 0
Carrying-none reorder span dst = record {
  starts = λ _. refl;
  grown = λ _. refl;
  reach = omega arith;
  most = λ s other here carried. absurd here;
  before = λ s here carried. absurd here;
  since = λ s here after some. absurd here;
}

-- the total grows, or stays as it was
pub Carrying-grows : (reorder span : ℕ) (sent : Requests) (dst total from later : ℕ) (same : Bool) → Carrying reorder span sent dst total from
    → (same ≡ true → later ≡ total) → (same ≡ false → total < later)
    → Carrying reorder span sent dst later (cond same from (newest_of sent + 1))
Carrying-grows reorder span sent dst total from later true carrying is grew =
    subst (λ (n : ℕ). Carrying reorder span sent dst n from) (sym (is refl)) carrying
Carrying-grows reorder span sent dst total from later false carrying is grew =
    let above = grew refl in
    record {
      starts = λ none. absurd (omega arith);
      grown = λ none. absurd (omega arith);
      reach = omega arith;
      most = λ s other here carried. let e = carrying.most s other here carried in omega arith;
      before = λ s here carried. let e = carrying.most s later here carried in absurd (omega arith);
      since = λ s here after some. let e = sent_up_to_newest sent s here in absurd (omega arith);
    }

pub Carrying-reads : (reorder span : ℕ) (sent : Requests) (dst total from : ℕ) (ack : Acknowledgement) → Carrying reorder span sent dst total from → Carrying reorder span (Reads ack ∷ sent) dst total from
Carrying-reads reorder span sent dst total from ack carrying = record {
  starts = carrying.starts;
  grown = carrying.grown;
  reach = carrying.reach;
  most = carrying.most;
  before = carrying.before;
  since = λ s here after some. elim (carrying.since s here after some) [
    | inl carried ↦ inl carried
    | inr was ↦ inr (carried-reads reorder span sent dst total ack was)
  ];
}

pub Carrying-sends : (reorder span : ℕ) (sent : Requests) (dst total from : ℕ) (content : List Demand) → Carrying reorder span sent dst total from
    → ((other : ℕ) → carries dst other content ≡ true → other ≡ total)
    → (0 < total → was_carried reorder span sent (demand_of dst total) ≡ false → carries dst total content ≡ true)
    → Carrying reorder span (Sends content ∷ sent) dst total from
Carrying-sends reorder span sent dst total from content carrying only named =
    let new : Request = record { number = newest_of sent + 1; content = content } in
    record {
      starts = carrying.starts;
      grown = carrying.grown;
      reach = omega (arith, carrying.reach);
      most = λ s other here carried. elim (Has-cases (numbers_sent sent) new s here) [
        | inl there ↦ carrying.most s other there carried
        | inr same ↦ let e = only other (ap (λ (u : Request). carries dst other u.content) same ∙ carried) in omega arith
      ];
      before = λ s here carried. elim (Has-cases (numbers_sent sent) new s here) [
        | inl there ↦ carrying.before s there carried
        | inr same ↦ let e : newest_of sent + 1 ≡ s.number = ap (λ (u : Request). u.number) same in omega (arith, carrying.reach)
      ];
      since = λ s here after some. elim (Has-cases (numbers_sent sent) new s here) [
        | inl there ↦ elim (carrying.since s there after some) [
          | inl carried ↦ inl carried
          | inr was ↦ inr (carried-sends reorder span sent dst total content was)
        ]
        | inr same ↦ elim (cases_Bool (was_carried reorder span sent (demand_of dst total))) [
          | inl was ↦ inr (carried-sends reorder span sent dst total content was)
          | inr not_yet ↦
              let above : 0 < total = elim (cases_lt 0 total) as (λ _. 0 < total) [ inl it ↦ it | inr none ↦ let e = carrying.starts (omega arith) in absurd (omega arith) ] in
              inl (ap (λ (u : Request). carries dst total u.content) (sym same) ∙ named above not_yet)
        ]
      ];
    }

-- ---- the test

pub confirmed_by_number : (reorder span : ℕ) (sent : Requests) (dst total from : ℕ) → Carrying reorder span sent dst total from → 0 < total
    → was_carried reorder span sent (demand_of dst total) ≡ leb from (greatest_acknowledged reorder span sent)
confirmed_by_number reorder span sent dst total from carrying above =
    let all = numbers_sent sent in
    let greatest = greatest_acknowledged reorder span sent in
    let some : 1 ≤ from = elim (cases_lt 0 from) as (λ _. 1 ≤ from) [ inl it ↦ it | inr none ↦ let e = carrying.grown (omega arith) in absurd (omega arith) ] in
    elim (cases_lt greatest from) [
      | inl below ↦
          elim (cases_Bool (was_carried reorder span sent (demand_of dst total))) [
            | inr f ↦ f ∙ sym (lt-leb from greatest below)
            | inl t ↦
                let (m, here, is, carried) = carried-to reorder span sent dst total t in
                let at_least = carrying.before m here carried in
                let at_most = below_greatest (acked reorder span sent) all m here is in
                absurd (omega arith)
          ]
      | inr reached ↦
          let (m, here, is, same) = greatest_there (acked reorder span sent) all (omega arith) in
          elim (carrying.since m here (omega arith) some) [
            | inl carried ↦ carried-from reorder span sent dst total m here is carried
            | inr was ↦ was
          ] ∙ sym (le-leb from greatest reached)
    ]

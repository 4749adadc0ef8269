-- The slots of published batches, and what an endpoint sends of them.
use Rattle.std.proofs.Common.{◌≡◌, ◌≢◌, ◌<◌, ◌≤◌, ◌+◌, ◌*◌, ◌==◌, ◌&&◌, ◌||◌, ℕ, zero, suc, List, [], ◌∷◌, ◌++◌, length, get_or, cond, find, Bool, true, false, Option, Some, None, All, AllPairs, refl, sym, ap, ◌∙◌, subst, inl, inr, arith}
use Rattle.std.specs.Prelude.{Contains}
use Rattle.std.proofs.Math.Nat.{suc-mul, mul-le-mul_right}
use Rattle.std.proofs.lemmas.Bool.{cases_Bool, cases_eq, cases_order, eqb-true, eq-eqb, false≢true}
use Rattle.std.proofs.lemmas.List.Elements.{All-nil, All-cons, All-head, All-tail, All-append, All-weaker, Contains-append_left, Contains-append_right}
use Rattle.greedy_rules.specs.declared.flows.Flow.{Flow}
use Rattle.greedy_rules.specs.Flows.{same_flow}
use Rattle.greedy_rules.specs.Demands.{after_batch}
use Rattle.greedy_rules.specs.Slot.{has_flow}
use Rattle.greedy_rules.specs.SlotTable.{destination_of}
use Rattle.greedy_rules.specs.Limits.{is_barred}
use Rattle.greedy_rules.specs.Matching.{IsMatching}
use Rattle.greedy_rules.specs.Schedule.{first_slot, slot_in}
use Rattle.greedy_rules.proofs.Facts.{same_flow-true, Apart, apart_from_all, IsMatching-slot_with, not_taken, All-batch_slots}
use Rattle.greedy_rules.proofs.ScheduleLemmas.{length-batch_slots}
use Rattle.list_facts.proofs.Pairs.{AllPairs-nil, AllPairs-cons, AllPairs-head, AllPairs-tail, AllPairs-append}
use Rattle.takeover_history.specs.Events.{PairSetting, BatchIssue, Fact, Asked, Requested, Granted, Took, Told, Published, Heard, Crashed, Refused, Log}
use Rattle.takeover_history.specs.Endpoints.{issues, Send, send_to, own_sends}
use Rattle.takeover_history.specs.Batches.{one_rack_limits, list_of, issue_for}
use Rattle.takeover_history.specs.Steps.{IsLog}

-- ---- numbers

below : (b n m : ℕ) → n < m → n * b + b ≤ m * b
below b n m lt = omega (arith, suc-mul n b, mul-le-mul_right b lt)

-- two slots with one number are of one batch
pub same_batch : (b n m o p : ℕ) → o < b → p < b → first_slot b n + o ≡ first_slot b m + p → n ≡ m
same_batch b n m o p in_n in_m same = elim (cases_order n m) [
  | inl is ↦ is
  | inr (inl lt) ↦ absurd (omega (arith, below b n m lt))
  | inr (inr gt) ↦ absurd (omega (arith, below b m n gt))
]

-- ---- a published batch

-- it has b slots, and each is a matching
abbrev pub HasSlots : PairSetting → BatchIssue → Type 0
HasSlots setting issue = (length issue.slots ≡ setting.b) × All IsMatching issue.slots

has_slots : (setting : PairSetting) (log : Log) (issue : BatchIssue) → issue ≡ issue_for setting log issue.lease → HasSlots setting issue
has_slots setting log issue is =
    subst (HasSlots setting) (sym is) (
      length-batch_slots (is_barred (one_rack_limits setting)) (first_slot setting.b (issue_for setting log issue.lease).number) setting.b (after_batch (issue_for setting log issue.lease).batch.entries (list_of setting issue.lease.generation log)),
      All-batch_slots (is_barred (one_rack_limits setting)) (λ flow. Unit {0}) IsMatching
          (λ slot flow any free pairs. IsMatching-slot_with flow slot (apart_from_all slot flow (not_taken (one_rack_limits setting) slot flow free)) pairs)
          (AllPairs-nil Apart)
          (first_slot setting.b (issue_for setting log issue.lease).number) setting.b (after_batch (issue_for setting log issue.lease).batch.entries (list_of setting issue.lease.generation log))
          (λ k d within. tt),
    )

pub slots_of_all : (setting : PairSetting) (log : Log) → IsLog setting log → All (HasSlots setting) (issues log)
slots_of_all setting [] is = All-nil (HasSlots setting)
slots_of_all setting (Asked flow slots ∷ log) is = slots_of_all setting log is.1
slots_of_all setting (Requested holder ∷ log) is = slots_of_all setting log is.1
slots_of_all setting (Granted lease ∷ log) is = slots_of_all setting log is.1
slots_of_all setting (Took lease ∷ log) is = slots_of_all setting log is.1
slots_of_all setting (Told src generation ∷ log) is = slots_of_all setting log is.1
slots_of_all setting (Published issue ∷ log) is = All-cons (HasSlots setting) issue (issues log) (has_slots setting log issue is.0.2) (slots_of_all setting log is.1)
slots_of_all setting (Heard src issue ∷ log) is = slots_of_all setting log is.1
slots_of_all setting (Crashed node ∷ log) is = slots_of_all setting log is.1
slots_of_all setting (Refused why ∷ log) is = slots_of_all setting log is.1

-- ---- in a matching

-- a flow of the slot
pub member : (P : Flow → Type 0) (slot : List Flow) (flow : Flow) → All P slot → has_flow slot flow ≡ true → P flow
member P [] flow all has = absurd (false≢true has)
member P (f ∷ slot) flow all has = elim (cases_Bool (same_flow f flow)) [
  | inl here ↦ subst P (same_flow-true f flow here) (All-head P f slot all)
  | inr other ↦ member P slot flow (All-tail P f slot all) (rw other at has)
]

-- two flows of a matching with different sources have different destinations
pub other_destination : (slot : List Flow) (f g : Flow) → IsMatching slot → has_flow slot f ≡ true → has_flow slot g ≡ true → f.src ≢ g.src → f.dst ≢ g.dst
other_destination [] f g pairs has_f has_g other = absurd (false≢true has_f)
other_destination (x ∷ slot) f g pairs has_f has_g other =
    let R : Flow → Flow → Type 0 = λ a b. (a.src ≢ b.src) × (a.dst ≢ b.dst) in
    let apart : All (R x) slot = AllPairs-head R x slot pairs in
    elim (cases_Bool (same_flow x f)) [
      | inl is_f ↦ elim (cases_Bool (same_flow x g)) [
        | inl is_g ↦ absurd (other (ap (λ (y : Flow). y.src) (sym (same_flow-true x f is_f) ∙ same_flow-true x g is_g)))
        | inr not_g ↦ λ same.
            let r = member (R x) slot g apart (rw not_g at has_g) in
            r.1 (ap (λ (y : Flow). y.dst) (same_flow-true x f is_f) ∙ same)
      ]
      | inr not_f ↦ elim (cases_Bool (same_flow x g)) [
        | inl is_g ↦ λ same.
            let r = member (R x) slot f apart (rw not_f at has_f) in
            r.1 (ap (λ (y : Flow). y.dst) (same_flow-true x g is_g) ∙ sym same)
        | inr not_g ↦ other_destination slot f g (AllPairs-tail R x slot pairs) (rw not_f at has_f) (rw not_g at has_g) other
      ]
    ]

-- where a source sends is a flow of the slot
pub destination-has : (slot : List Flow) (src dst : ℕ) → destination_of slot src ≡ Some dst → has_flow slot (record { src = src; dst = dst }) ≡ true
destination-has [] src dst is = absurd (cc)
destination-has (f ∷ slot) src dst is = elim (cases_Bool (f.src == src)) [
  | inl here ↦
      let to : Some f.dst ≡ Some dst = rw here at is in
      let same : f.dst ≡ dst = cc in
      rw (here, eq-eqb f.dst dst same) refl
  | inr other ↦ rw other (destination-has slot src dst (rw other at is))
]

-- and a flow of a matching is where its source sends
pub has-destination : (slot : List Flow) (flow : Flow) → IsMatching slot → has_flow slot flow ≡ true → destination_of slot flow.src ≡ Some flow.dst
has-destination [] flow pairs has = absurd (false≢true has)
has-destination (f ∷ slot) flow pairs has =
    let R : Flow → Flow → Type 0 = λ a b. (a.src ≢ b.src) × (a.dst ≢ b.dst) in
    elim (cases_Bool (same_flow f flow)) [
      | inl here ↦
          let is = same_flow-true f flow here in
          rw (eq-eqb f.src flow.src (ap (λ (y : Flow). y.src) is)) (ap (λ (y : Flow). Some y.dst) is)
      | inr other ↦
          let later : has_flow slot flow ≡ true = rw other at has in
          let r = member (R f) slot flow (AllPairs-head R f slot pairs) later in
          elim (cases_Bool (f.src == flow.src)) [
            | inl same ↦ absurd (r.0 (eqb-true f.src flow.src same))
            | inr differs ↦ rw differs (has-destination slot flow (AllPairs-tail R f slot pairs) later)
          ]
    ]

-- ---- what an endpoint sends of these slots

abbrev pub IsOwn : ℕ → ℕ → List (List Flow) → Send → Type 0
IsOwn src number slots send = (offset : ℕ) × (offset < length slots) × (send.slot ≡ number + offset) × (has_flow (slot_in slots offset) send.flow ≡ true) × (send.flow.src ≡ src)

own-one : (src number : ℕ) (slot : List Flow) (slots : List (List Flow)) (o : Option ℕ) → destination_of slot src ≡ o → All (IsOwn src number (slot ∷ slots)) (send_to src number o)
own-one src number slot slots None is = All-nil (IsOwn src number (slot ∷ slots))
own-one src number slot slots (Some dst) is =
    All-cons (IsOwn src number (slot ∷ slots)) (record { slot = number; flow = record { src = src; dst = dst } }) []
    (0, omega arith, omega arith, destination-has slot src dst is, refl)
    (All-nil (IsOwn src number (slot ∷ slots)))

pub own-all : (src number : ℕ) (slots : List (List Flow)) → All (IsOwn src number slots) (own_sends src number slots)
own-all src number [] = All-nil (IsOwn src number [])
own-all src number (slot ∷ slots) =
    All-append (IsOwn src number (slot ∷ slots)) (send_to src number (destination_of slot src)) (own_sends src (number + 1) slots)
    (own-one src number slot slots (destination_of slot src) refl)
    (All-weaker (IsOwn src (number + 1) slots) (IsOwn src number (slot ∷ slots))
    (λ send is. (suc is.0, omega (arith, is.1), omega (arith, is.2), is.3, is.4))
    (own_sends src (number + 1) slots) (own-all src (number + 1) slots))

abbrev pub Once : Send → Send → Type 0
Once s t = s.slot ≡ t.slot → s.flow.src ≢ t.flow.src

at_number : (src number : ℕ) (o : Option ℕ) → All (λ (s : Send). s.slot ≡ number) (send_to src number o)
at_number src number None = All-nil (λ (s : Send). s.slot ≡ number)
at_number src number (Some dst) = All-cons (λ (s : Send). s.slot ≡ number) (record { slot = number; flow = record { src = src; dst = dst } }) [] refl (All-nil (λ (s : Send). s.slot ≡ number))

once-one : (src number : ℕ) (o : Option ℕ) → AllPairs Once (send_to src number o)
once-one src number None = AllPairs-nil Once
once-one src number (Some dst) =
    AllPairs-cons Once (record { slot = number; flow = record { src = src; dst = dst } }) [] (All-nil (Once (record { slot = number; flow = record { src = src; dst = dst } }))) (AllPairs-nil Once)

pub own-once : (src number : ℕ) (slots : List (List Flow)) → AllPairs Once (own_sends src number slots)
own-once src number [] = AllPairs-nil Once
own-once src number (slot ∷ slots) =
    let here = send_to src number (destination_of slot src) in
    let later = own_sends src (number + 1) slots in
    AllPairs-append Once here later (once-one src number (destination_of slot src)) (own-once src (number + 1) slots)
    (All-weaker (λ (s : Send). s.slot ≡ number) (λ s. All (Once s) later)
    (λ s is. All-weaker (IsOwn src (number + 1) slots) (Once s) (λ t own same. absurd (omega (arith, own.2))) later (own-all src (number + 1) slots))
    here (at_number src number (destination_of slot src)))

-- each of its slots is there
pub own-has : (src number offset : ℕ) (slots : List (List Flow)) (flow : Flow) → flow.src ≡ src → All IsMatching slots → offset < length slots → has_flow (slot_in slots offset) flow ≡ true
    → Contains (own_sends src number slots) (record { slot = number + offset; flow = flow })
own-has src number offset [] flow of_src all within has = absurd (omega arith)
own-has src number zero (slot ∷ slots) flow of_src all within has =
    let to : destination_of slot src ≡ Some flow.dst = subst (λ (s : ℕ). destination_of slot s ≡ Some flow.dst) of_src (has-destination slot flow (All-head IsMatching slot slots all) has) in
    let it : Send = record { slot = number; flow = record { src = src; dst = flow.dst } } in
    let here : send_to src number (destination_of slot src) ≡ it ∷ [] = ap (λ (o : Option ℕ). send_to src number o) to in
    let same : it ≡ record { slot = number + 0; flow = flow } = ap (λ (s : ℕ). record { slot = number; flow = record { src = s; dst = flow.dst } }) (sym of_src) ∙ ap (λ (n : ℕ). record { slot = n; flow = flow }) (omega arith) in
    subst (λ (s : Send). Contains (own_sends src number (slot ∷ slots)) s) same
    (Contains-append_left (send_to src number (destination_of slot src)) (own_sends src (number + 1) slots) it (subst (λ (xs : List Send). Contains xs it) (sym here) (0, omega arith, refl)))
own-has src number (suc offset) (slot ∷ slots) flow of_src all within has =
    let same : number + 1 + offset ≡ number + suc offset = omega arith in
    Contains-append_right (send_to src number (destination_of slot src)) (own_sends src (number + 1) slots) (record { slot = number + suc offset; flow = flow })
    (subst (λ (n : ℕ). Contains (own_sends src (number + 1) slots) (record { slot = n; flow = flow })) same
    (own-has src (number + 1) offset slots flow of_src (All-tail IsMatching slot slots all) (omega arith) has))

-- Words of slots: of endpoints, and of flows.
use Rattle.std.proofs.Common.{◌≡◌, ◌≢◌, ◌<◌, ◌≤◌, ◌+◌, ◌*◌, ◌%◌, ◌^◌, ℕ, zero, suc, List, length, get_or, set, replicate, Bool, true, false, ◌&&◌, ◌||◌, ◌==◌, nat_lt, nat_eq, max, bit_and, bit_or, w64, Option, Some, None, refl, sym, ap, ◌∙◌, subst, arith, inl, inr, ◌⊎◌}
use Rattle.std.specs.Int.{bit_at}
use Rattle.std.specs.Option.{option_eq}
use Rattle.std.proofs.lemmas.Bool.{cases_eq, cases_lt, cases_Bool, eq-eqb, ne_eqb, and_parts, and_left, and_right, or_cases, or_right, lt-ltb, le-ltb, ltb-true, both_ways}
use Rattle.std.proofs.lemmas.Nat.{same_from_place}
use Rattle.std.proofs.lemmas.Nat.Bits.{bit_at-lt, bit_at_or, bit_at_set_same, bit_at_set_other}
use Rattle.std.proofs.lemmas.List.{get_or-set_same, get_or-set_other, get_or-replicate}
use Rattle.greedy_rules.specs.declared.flows.Flow.{Flow}
use Rattle.greedy_rules.specs.Flows.{same_flow}
use Rattle.greedy_rules.specs.Slot.{has_flow}
use Rattle.greedy_rules.specs.Schedule.{slot_in}
use Rattle.greedy_rules.specs.SlotTable.{destination_of}
use Rattle.greedy_rules.proofs.Facts.{same_flow-true}
use Rattle.greedy_rules.proofs.TableLemmas.{next_row}
use Rattle.greedy_rules.proofs.SlotSources.{Rises, flow_goes}
use Rattle.greedy_rules.proofs.FlowOrder.{same_flow-refl}
use Rattle.endpoint_bitmaps.specs.Slots.{has_slot}
use Rattle.endpoint_bitmaps.proofs.Facts.{has_slot-none}
use Rattle.endpoint_bitmaps.proofs.WordLemmas.{has_slot-both}
use Rattle.window_allocation.specs.Needs.{place_of}
use Rattle.window_allocation.specs.Reach.{IsEarliest, ShowSlots, IsFirstBatch}

either_bit : (x y : ℕ) → x < 2 → y < 2 → (max x y == 1) ≡ ((x == 1) || (y == 1))
either_bit zero zero x_is y_is = refl
either_bit zero (suc zero) x_is y_is = refl
either_bit zero (suc (suc y)) x_is y_is = absurd (omega arith)
either_bit (suc zero) zero x_is y_is = refl
either_bit (suc zero) (suc zero) x_is y_is = refl
either_bit (suc zero) (suc (suc y)) x_is y_is = absurd (omega arith)
either_bit (suc (suc x)) y x_is y_is = absurd (omega arith)

-- the slots of either of two words
pub has_slot-either : (a b k : ℕ) → has_slot (bit_or a b) k ≡ (has_slot a k || has_slot b k)
has_slot-either a b k = ap (λ (n : ℕ). n == 1) (bit_at_or a b k) ∙ either_bit (bit_at a k) (bit_at b k) (bit_at-lt a k) (bit_at-lt b k)

or_false : (b : Bool) → b ≡ (b || false)
or_false true = refl
or_false false = refl

and_true : (b : Bool) → b ≡ (b && true)
and_true true = refl
and_true false = refl

-- a word with one slot more
pub has_slot-with : (word slot k : ℕ) → slot < 64 → has_slot (bit_or word (1 * 2 ^ slot % 2 ^ 64)) k ≡ (has_slot word k || (k == slot))
has_slot-with word slot k within = elim (cases_eq k slot) [
  | inl here ↦
      ap (λ (n : ℕ). has_slot (bit_or word (1 * 2 ^ slot % 2 ^ 64)) n) here
      ∙ (ap (λ (n : ℕ). n == 1) (bit_at_set_same w64 word slot within) ∙ sym (or_right (has_slot word k) (k == slot) (eq-eqb k slot here)))
  | inr there ↦
      ap (λ (n : ℕ). n == 1) (bit_at_set_other w64 word slot within k there)
      ∙ (or_false (has_slot word k) ∙ ap (λ (b : Bool). has_slot word k || b) (sym (ne_eqb k slot there)))
]

-- the word of one endpoint with more slots
pub more_slots : (words : List ℕ) (place slots other at : ℕ) → place < length words → has_slot (get_or (set words place (bit_or (get_or words place 0) slots)) other 0) at ≡ true
    → (has_slot (get_or words other 0) at ≡ true) ⊎ ((other ≡ place) × (has_slot slots at ≡ true))
more_slots words place slots other at within is =
    let word : ℕ = bit_or (get_or words place 0) slots in
    elim (cases_eq other place) [
      | inl here ↦
          let both : (has_slot (get_or words place 0) at || has_slot slots at) ≡ true =
          sym (has_slot-either (get_or words place 0) slots at)
          ∙ (ap (λ (n : ℕ). has_slot n at) (sym (ap (λ (n : ℕ). get_or (set words place word) n 0) here ∙ get_or-set_same words place word 0 within)) ∙ is) in
          elim (or_cases (has_slot (get_or words place 0) at) (has_slot slots at) both) [
            | inl was ↦ inl (ap (λ (n : ℕ). has_slot (get_or words n 0) at) here ∙ was)
            | inr new ↦ inr (here, new)
          ]
      | inr there ↦ inl (ap (λ (n : ℕ). has_slot n at) (sym (get_or-set_other words place other word 0 there)) ∙ is)
    ]

-- the words of flows, where that of one names a slot more
pub more_flow_slots : (n slot : ℕ) (words : List ℕ) (one flow : Flow) (at : ℕ) → slot < 64 → one.src < n → one.dst < n → flow.src < n → flow.dst < n → place_of n one.src one.dst < length words
    → has_slot (get_or (set words (place_of n one.src one.dst) (bit_or (get_or words (place_of n one.src one.dst) 0) (1 * 2 ^ slot % 2 ^ 64))) (place_of n flow.src flow.dst) 0) at
    ≡ (has_slot (get_or words (place_of n flow.src flow.dst) 0) at || ((at == slot) && same_flow one flow))
more_flow_slots n slot words one flow at few one_src one_dst src dst within =
    let here : ℕ = place_of n one.src one.dst in
    let there : ℕ = place_of n flow.src flow.dst in
    let old : ℕ = get_or words here 0 in
    let word : ℕ = bit_or old (1 * 2 ^ slot % 2 ^ 64) in
    elim (cases_Bool (same_flow one flow)) [
      | inl same ↦
          let flows : one ≡ flow = same_flow-true one flow same in
          let places : there ≡ here = ap (λ (f : Flow). place_of n f.src f.dst) (sym flows) in
          ap (λ (m : ℕ). has_slot (get_or (set words here word) m 0) at) places
          ∙ (ap (λ (m : ℕ). has_slot m at) (get_or-set_same words here word 0 within)
          ∙ (has_slot-with old slot at few
          ∙ (ap (λ (m : ℕ). has_slot (get_or words m 0) at || (at == slot)) (sym places)
          ∙ ap (λ (b : Bool). has_slot (get_or words there 0) at || b) (and_true (at == slot) ∙ ap (λ (b : Bool). (at == slot) && b) (sym same)))))
      | inr other ↦
          let apart : there ≢ here = λ same.
          let parts = same_from_place flow.src flow.dst one.src one.dst n dst one_dst same in
          let flows : one ≡ flow = (λ i. record { src = sym parts.0 i; dst = sym parts.1 i }) in
          both_ways (same_flow one flow) other (ap (same_flow one) (sym flows) ∙ same_flow-refl one) in
          ap (λ (m : ℕ). has_slot m at) (get_or-set_other words here there word 0 apart)
          ∙ (or_false (has_slot (get_or words there 0) at) ∙ ap (λ (b : Bool). has_slot (get_or words there 0) at || b) (sym (and_right (at == slot) (same_flow one flow) other)))
    ]

-- so many sources of a slot were looked at: the next one's flow is noted, if it sends
pub next_source : (slot : List Flow) (src dst : ℕ) (flow : Flow) → Rises slot → Some dst ≡ destination_of slot src
    → ((nat_lt flow.src src && has_flow slot flow) || same_flow (record { src = src; dst = dst }) flow) ≡ (nat_lt flow.src (src + 1) && has_flow slot flow)
next_source slot src dst flow rises sends = elim (cases_eq flow.src src) [
  | inl here ↦
      let has : has_flow slot flow ≡ (dst == flow.dst) =
      flow_goes slot flow rises ∙ ap (λ (o : Option ℕ). option_eq nat_eq o (Some flow.dst)) (ap (destination_of slot) here ∙ sym sends) in
      ap (λ (b : Bool). (b && has_flow slot flow) || same_flow (record { src = src; dst = dst }) flow) (le-ltb flow.src src (omega (arith, here)))
      ∙ (ap (λ (b : Bool). b && (dst == flow.dst)) (eq-eqb src flow.src (sym here))
      ∙ (sym has ∙ ap (λ (b : Bool). b && has_flow slot flow) (sym (lt-ltb flow.src (src + 1) (omega (arith, here))))))
  | inr there ↦
      let other : (src == flow.src) ≡ false = ne_eqb src flow.src (λ same. there (sym same)) in
      ap (λ (b : Bool). (nat_lt flow.src src && has_flow slot flow) || (b && (dst == flow.dst))) other
      ∙ (sym (or_false (nat_lt flow.src src && has_flow slot flow)) ∙ ap (λ (b : Bool). b && has_flow slot flow) (one_more there))
]
  where
    one_more : {n m : ℕ} → (n ≡ m → ⊥) → nat_lt n m ≡ nat_lt n (m + 1)
    one_more {n} {m} apart = elim (cases_lt n m) [
      | inl below ↦ lt-ltb n m below ∙ sym (lt-ltb n (m + 1) (omega arith))
      | inr above ↦ le-ltb n m above ∙ sym (le-ltb n (m + 1) (elim (cases_eq n m) [ inl same ↦ absurd (apart same) | inr other ↦ omega arith ]))
    ]

pub idle_source : (slot : List Flow) (src : ℕ) (flow : Flow) → Rises slot → None ≡ destination_of slot src → (nat_lt flow.src src && has_flow slot flow) ≡ (nat_lt flow.src (src + 1) && has_flow slot flow)
idle_source slot src flow rises none = elim (cases_eq flow.src src) [
  | inl here ↦
      let has : has_flow slot flow ≡ false =
      flow_goes slot flow rises ∙ ap (λ (o : Option ℕ). option_eq nat_eq o (Some flow.dst)) (ap (destination_of slot) here ∙ sym none) in
      and_right _ _ has ∙ sym (and_right _ _ has)
  | inr there ↦ elim (cases_lt flow.src src) [
    | inl below ↦ ap (λ (b : Bool). b && has_flow slot flow) (lt-ltb flow.src src below ∙ sym (lt-ltb flow.src (src + 1) (omega arith)))
    | inr above ↦ ap (λ (b : Bool). b && has_flow slot flow) (le-ltb flow.src src above ∙ sym (le-ltb flow.src (src + 1) (omega (arith, there))))
  ]
]

more_or : (h e p q : Bool) → ((h || (e && p)) || (e && q)) ≡ (h || (e && (p || q)))
more_or true e p q = refl
more_or false true p q = refl
more_or false false p q = refl

-- beside what they named, the words name a slot for those of its flows whose sources are below this one
abbrev pub NameFlowsBelow : ℕ → ℕ → List Flow → ℕ → List ℕ → List ℕ → Type 0
NameFlowsBelow n slot row src old now =
    (flow : Flow) (at : ℕ) → flow.src < n → flow.dst < n
    → has_slot (get_or now (place_of n flow.src flow.dst) 0) at ≡ (has_slot (get_or old (place_of n flow.src flow.dst) 0) at || ((at == slot) && (nat_lt flow.src src && has_flow row flow)))

abbrev NameFlow : ℕ → ℕ → Flow → List ℕ → List ℕ → Type 0
NameFlow n slot one old now =
    (flow : Flow) (at : ℕ) → flow.src < n → flow.dst < n
    → has_slot (get_or now (place_of n flow.src flow.dst) 0) at ≡ (has_slot (get_or old (place_of n flow.src flow.dst) 0) at || ((at == slot) && same_flow one flow))

pub source_noted : (n m slot src dst : ℕ) (row : List Flow) (old was now : List ℕ) → Rises row → Some dst ≡ destination_of row src → m ≡ n → NameFlowsBelow n slot row src old was
    → NameFlow m slot (record { src = src; dst = dst }) was now → NameFlowsBelow n slot row (src + 1) old now
source_noted n m slot src dst row old was now rises sends same named one flow at src_in dst_in =
    let here : ℕ = place_of n flow.src flow.dst in
    let one_here : NameFlow n slot (record { src = src; dst = dst }) was now = subst (λ (k : ℕ). NameFlow k slot (record { src = src; dst = dst }) was now) same one in
    one_here flow at src_in dst_in
    ∙ (ap (λ (b : Bool). b || ((at == slot) && same_flow (record { src = src; dst = dst }) flow)) (named flow at src_in dst_in)
    ∙ (more_or (has_slot (get_or old here 0) at) (at == slot) (nat_lt flow.src src && has_flow row flow) (same_flow (record { src = src; dst = dst }) flow)
    ∙ ap (λ (b : Bool). has_slot (get_or old here 0) at || ((at == slot) && b)) (next_source row src dst flow rises sends)))

pub source_idle : (n slot src : ℕ) (row : List Flow) (old now : List ℕ) → Rises row → None ≡ destination_of row src → NameFlowsBelow n slot row src old now → NameFlowsBelow n slot row (src + 1) old now
source_idle n slot src row old now rises none named flow at src_in dst_in =
    named flow at src_in dst_in
    ∙ ap (λ (b : Bool). has_slot (get_or old (place_of n flow.src flow.dst) 0) at || ((at == slot) && b)) (idle_source row src flow rises none)

pub sources_noted : (n slot src : ℕ) (row : List Flow) (old now : List ℕ) → n ≤ src → NameFlowsBelow n slot row src old now → (flow : Flow) (at : ℕ) → flow.src < n → flow.dst < n
    → has_slot (get_or now (place_of n flow.src flow.dst) 0) at ≡ (has_slot (get_or old (place_of n flow.src flow.dst) 0) at || ((at == slot) && has_flow row flow))
sources_noted n slot src row old now all named flow at src_in dst_in =
    named flow at src_in dst_in
    ∙ ap (λ (b : Bool). has_slot (get_or old (place_of n flow.src flow.dst) 0) at || ((at == slot) && (b && has_flow row flow))) (lt-ltb flow.src src (omega arith))

-- one slot more is noted
pub next_slot : (slots : List (List Flow)) (slot at : ℕ) (flow : Flow)
    → ((nat_lt at slot && has_flow (slot_in slots at) flow) || ((at == slot) && has_flow (slot_in slots slot) flow)) ≡ (nat_lt at (slot + 1) && has_flow (slot_in slots at) flow)
next_slot slots slot at flow = elim (cases_eq at slot) [
  | inl here ↦
      ap (λ (b : Bool). (b && has_flow (slot_in slots at) flow) || ((at == slot) && has_flow (slot_in slots slot) flow)) (le-ltb at slot (omega (arith, here)))
      ∙ (ap (λ (b : Bool). b && has_flow (slot_in slots slot) flow) (eq-eqb at slot here ∙ sym (lt-ltb at (slot + 1) (omega (arith, here))))
      ∙ ap (λ (k : ℕ). nat_lt at (slot + 1) && has_flow (slot_in slots k) flow) (sym here))
  | inr there ↦
      ap (λ (b : Bool). (nat_lt at slot && has_flow (slot_in slots at) flow) || (b && has_flow (slot_in slots slot) flow)) (ne_eqb at slot there)
      ∙ (sym (or_false (nat_lt at slot && has_flow (slot_in slots at) flow))
      ∙ elim (cases_lt at slot) [
        | inl below ↦ ap (λ (b : Bool). b && has_flow (slot_in slots at) flow) (lt-ltb at slot below ∙ sym (lt-ltb at (slot + 1) (omega arith)))
        | inr above ↦ ap (λ (b : Bool). b && has_flow (slot_in slots at) flow) (le-ltb at slot above ∙ sym (le-ltb at (slot + 1) (omega (arith, there))))
      ])
]

-- no slot is noted
pub no_slot : (place count at : ℕ) (slots : List (List Flow)) (flow : Flow) → place < count → has_slot (get_or (replicate count 0) place 0) at ≡ (nat_lt at 0 && has_flow (slot_in slots at) flow)
no_slot place count at slots flow within =
    ap (λ (n : ℕ). has_slot n at) (get_or-replicate count place 0 0 within) ∙ (has_slot-none at ∙ sym (and_left (nat_lt at 0) (has_flow (slot_in slots at) flow) (le-ltb at 0 (omega arith))))

-- they are the first in which the flow is served
pub earliest_slots : (n count b : ℕ) (slots : List (List Flow)) (words : List ℕ) (flow : Flow) (at : ℕ) → flow.src < n → flow.dst < n → ShowSlots n count slots words
    → has_slot (get_or words (place_of n flow.src flow.dst) 0) at ≡ true → IsFirstBatch b (get_or words (place_of n flow.src flow.dst) 0) at → IsEarliest b slots at flow
earliest_slots n count b slots words flow at src dst show named one =
    let here = and_parts (nat_lt at count) (has_flow (slot_in slots at) flow) (sym (show flow at src dst) ∙ named) in
    let within : at < count = ltb-true at count here.0 in
    record {
      batch = one.batch;
      from = one.from;
      before = one.before;
      served = here.1;
      first = λ earlier before.
          ap (λ (b : Bool). b && has_flow (slot_in slots earlier) flow) (sym (lt-ltb earlier count (omega (arith, one.from))))
          ∙ (sym (show flow earlier src dst) ∙ one.none earlier before);
    }

-- what stands up to the end of the next batch, where no slot was found before it
pub found_first : (slots first batch b at : ℕ) → ((earlier : ℕ) → earlier < batch * b → has_slot slots earlier ≡ false) → ((k : ℕ) → has_slot first k ≡ nat_lt k ((batch + 1) * b))
    → has_slot (bit_and slots first) at ≡ true → (has_slot slots at ≡ true) × IsFirstBatch b slots at
found_first slots first batch b at none first_is is =
    let both = and_parts (has_slot slots at) (has_slot first at) (sym (has_slot-both slots first at) ∙ is) in
    let within : at < (batch + 1) * b = ltb-true at ((batch + 1) * b) (sym (first_is at) ∙ both.1) in (
      both.0,
      record {
        batch = batch;
        from = elim (cases_lt at (batch * b)) [ inl below ↦ absurd (both_ways _ (none at below) both.0) | inr above ↦ above ];
        before = omega (arith, within, next_row batch b);
        none = none;
      },
    )

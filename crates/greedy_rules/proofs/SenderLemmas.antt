-- The bits of a slot table's senders: a word is written, and what a slot's words tell of who sends in it.
use Rattle.std.proofs.Common.{◌≡◌, ◌<◌, ◌+◌, ◌*◌, ◌/◌, ◌%◌, ◌^◌, ◌==◌, ◌&&◌, ◌||◌, ℕ, List, [], ◌∷◌, length, get_or, set, take, drop, Option, Some, None, Bool, true, false, find, cond, bit_or, refl, sym, ap, ◌∙◌, arith, inl, inr}
use Rattle.std.specs.Prelude.{is_some, nat_lt}
use Rattle.std.specs.List.{list_any}
use Rattle.std.specs.Option.{option_map}
use Rattle.std.specs.Int.{bit_at}
use Rattle.std.proofs.lemmas.Bool.{cases_eq, cases_lt, cases_Bool, cases_order, cond-true, cond-false, and_left, and_right, or_right, and_parts, eqb-true, eq-eqb, ne_eqb, lt-ltb, le-ltb}
use Rattle.std.proofs.lemmas.List.{get_or-set_same, get_or-set_other, get_or-drop, get_or-take, length-take, get_or_past}
use Rattle.std.proofs.lemmas.Nat.{same_from_place}
use Rattle.std.proofs.lemmas.Nat.Bits.{bit_at_above}
use Rattle.list_facts.specs.Bits.{TellsHeld}
use Rattle.std.proofs.Math.Bool.{or-false}
use Rattle.list_facts.proofs.Bools.{eqb_turned}
use Rattle.list_facts.proofs.Bits.{bit_of_word, bit_set_in_word}
use Rattle.greedy_rules.specs.declared.flows.Flow.{Flow}
use Rattle.greedy_rules.specs.Slot.{slot_with}
use Rattle.greedy_rules.specs.Schedule.{slot_in}
use Rattle.greedy_rules.specs.SlotTable.{flows_from, destination_of}
use Rattle.greedy_rules.specs.Senders.{AreSendersOf}
use Rattle.greedy_rules.proofs.SlotLemmas.{any-slot_with}
use Rattle.greedy_rules.proofs.RowLemmas.{destination-at}

-- the source's bit in the slot, of words so many of which are each slot's
abbrev pub sends_at : ℕ → List ℕ → ℕ → ℕ → Bool
sends_at each words slot src = nat_lt (src / 64) each && (bit_at (get_or words (slot * each + src / 64) 0) (src % 64) == 1)

-- one word is written: the bits of others stay
pub word_written : (each : ℕ) (words : List ℕ) (slot word bits : ℕ) → word < each → slot * each + word < length words → (at src : ℕ)
    → sends_at each (set words (slot * each + word) bits) at src ≡ cond ((at == slot) && (src / 64 == word)) (bit_at bits (src % 64) == 1) (sends_at each words at src)
word_written each words slot word bits below inside at src = elim (cases_lt (src / 64) each) [
  | inr past ↦
      let beyond : nat_lt (src / 64) each ≡ false = le-ltb (src / 64) each past in
      let apart : ((at == slot) && (src / 64 == word)) ≡ false = and_right (at == slot) (src / 64 == word) (ne_eqb (src / 64) word (λ e. omega (arith, e, past, below))) in
      and_left (nat_lt (src / 64) each) _ beyond
      ∙ (sym (and_left (nat_lt (src / 64) each) _ beyond) ∙ sym (cond-false ((at == slot) && (src / 64 == word)) (bit_at bits (src % 64) == 1) (sends_at each words at src) apart))
  | inl within ↦ elim (cases_Bool ((at == slot) && (src / 64 == word))) [
    | inl here ↦
        let parts = and_parts (at == slot) (src / 64 == word) here in
        let of_slot : at ≡ slot = eqb-true at slot parts.0 in
        let of_word : src / 64 ≡ word = eqb-true (src / 64) word parts.1 in
        let place : at * each + src / 64 ≡ slot * each + word = ap (λ (n : ℕ). n * each + src / 64) of_slot ∙ ap (λ (n : ℕ). slot * each + n) of_word in
        ap (λ (b : Bool). b && (bit_at (get_or (set words (slot * each + word) bits) (at * each + src / 64) 0) (src % 64) == 1)) (lt-ltb (src / 64) each within)
        ∙ (ap (λ (n : ℕ). bit_at (get_or (set words (slot * each + word) bits) n 0) (src % 64) == 1) place
        ∙ (ap (λ (n : ℕ). bit_at n (src % 64) == 1) (get_or-set_same words (slot * each + word) bits 0 inside)
        ∙ sym (cond-true ((at == slot) && (src / 64 == word)) (bit_at bits (src % 64) == 1) (sends_at each words at src) here)))
    | inr elsewhere ↦
        ap (λ (n : ℕ). nat_lt (src / 64) each && (bit_at n (src % 64) == 1))
        (get_or-set_other words (slot * each + word) (at * each + src / 64) bits 0 (λ same. apart elsewhere (same_from_place at (src / 64) slot word each within below same)))
        ∙ sym (cond-false ((at == slot) && (src / 64 == word)) (bit_at bits (src % 64) == 1) (sends_at each words at src) elsewhere)
  ]
]
  where
    apart : ((at == slot) && (src / 64 == word)) ≡ false → (at ≡ slot) × (src / 64 ≡ word) → ⊥
    apart elsewhere same =
        let both : ((at == slot) && (src / 64 == word)) ≡ true = ap (λ (b : Bool). b && (src / 64 == word)) (eq-eqb at slot same.0) ∙ eq-eqb (src / 64) word same.1 in
        let no : false ≡ true = sym elsewhere ∙ both in
        absurd (cc)

-- where the bit of a source is set in its word, it sends too
pub bit_written : (each : ℕ) (words : List ℕ) (slot src old : ℕ) → old ≡ get_or words (slot * each + src / 64) 0 → src / 64 < each → (at other : ℕ)
    → cond ((at == slot) && (other / 64 == src / 64)) (bit_at (bit_or old (1 * 2 ^ (src % 64) % 2 ^ 64)) (other % 64) == 1) (sends_at each words at other) ≡ (sends_at each words at other || ((at == slot) && (other == src)))
bit_written each words slot src old was below at other =
    let new : Bool = bit_at (bit_or old (1 * 2 ^ (src % 64) % 2 ^ 64)) (other % 64) == 1 in
    let sends : Bool = sends_at each words at other in
    elim (cases_Bool ((at == slot) && (other / 64 == src / 64))) [
      | inl here ↦
          let parts = and_parts (at == slot) (other / 64 == src / 64) here in
          let of_slot : at ≡ slot = eqb-true at slot parts.0 in
          let of_word : other / 64 ≡ src / 64 = eqb-true (other / 64) (src / 64) parts.1 in
          let place : slot * each + src / 64 ≡ at * each + other / 64 = ap (λ (n : ℕ). n * each + src / 64) (sym of_slot) ∙ ap (λ (n : ℕ). at * each + n) (sym of_word) in
          let had : (bit_at old (other % 64) == 1) ≡ sends =
          ap (λ (n : ℕ). bit_at n (other % 64) == 1) (was ∙ ap (λ (n : ℕ). get_or words n 0) place)
          ∙ sym (ap (λ (b : Bool). b && (bit_at (get_or words (at * each + other / 64) 0) (other % 64) == 1)) (lt-ltb (other / 64) each (omega (arith, of_word, below)))) in
          let source : (other % 64 == src % 64) ≡ ((at == slot) && (other == src)) =
          alike (λ e. omega (arith, e, of_word)) (λ e. omega (arith, e)) ∙ sym (ap (λ (b : Bool). b && (other == src)) parts.0) in
          cond-true ((at == slot) && (other / 64 == src / 64)) new sends here
          ∙ (bit_set_in_word old (src % 64) (other % 64) (omega arith)
          ∙ (ap (λ (b : Bool). b || (other % 64 == src % 64)) had ∙ ap (λ (b : Bool). sends || b) source))
      | inr elsewhere ↦
          cond-false ((at == slot) && (other / 64 == src / 64)) new sends elsewhere
          ∙ (sym (or-false sends) ∙ ap (λ (b : Bool). sends || b) (sym (other_source elsewhere)))
    ]
  where
    alike : (other % 64 ≡ src % 64 → other ≡ src) → (other ≡ src → other % 64 ≡ src % 64) → (other % 64 == src % 64) ≡ (other == src)
    alike up down = elim (cases_eq other src) [
      | inl same ↦ eq-eqb (other % 64) (src % 64) (down same) ∙ sym (eq-eqb other src same)
      | inr apart ↦ ne_eqb (other % 64) (src % 64) (λ e. apart (up e)) ∙ sym (ne_eqb other src apart)
    ]

    other_source : ((at == slot) && (other / 64 == src / 64)) ≡ false → ((at == slot) && (other == src)) ≡ false
    other_source elsewhere = elim (cases_eq other src) [
      | inl same ↦
          let word : (other / 64 == src / 64) ≡ true = eq-eqb (other / 64) (src / 64) (omega (arith, same)) in
          ap (λ (b : Bool). (at == slot) && b) (eq-eqb other src same ∙ sym word) ∙ elsewhere
      | inr apart ↦ and_right (at == slot) (other == src) (ne_eqb other src apart)
    ]

-- a word more is written
pub word_more : (here has was now : Bool) (of_word word : ℕ) → ((of_word == word) ≡ true → now ≡ has) → cond (here && (of_word == word)) now (cond (here && nat_lt of_word word) has was) ≡ cond (here && nat_lt of_word (word + 1)) has was
word_more false has was now of_word word is = refl
word_more true has was now of_word word is = elim (cases_order of_word word) [
  | inl same ↦
      let there : (of_word == word) ≡ true = eq-eqb of_word word same in
      cond-true (of_word == word) now (cond (nat_lt of_word word) has was) there
      ∙ (is there ∙ sym (cond-true (nat_lt of_word (word + 1)) has was (lt-ltb of_word (word + 1) (omega (arith, same)))))
  | inr (inl before) ↦
      cond-false (of_word == word) now (cond (nat_lt of_word word) has was) (ne_eqb of_word word (λ e. absurd (omega (arith, e, before))))
      ∙ (cond-true (nat_lt of_word word) has was (lt-ltb of_word word before) ∙ sym (cond-true (nat_lt of_word (word + 1)) has was (lt-ltb of_word (word + 1) (omega (arith, before)))))
  | inr (inr after) ↦
      cond-false (of_word == word) now (cond (nat_lt of_word word) has was) (ne_eqb of_word word (λ e. absurd (omega (arith, e, after))))
      ∙ (cond-false (nat_lt of_word word) has was (le-ltb of_word word (omega (arith, after))) ∙ sym (cond-false (nat_lt of_word (word + 1)) has was (le-ltb of_word (word + 1) (omega (arith, after)))))
]

-- of the sources below this one, those are noted that send
abbrev pub noted_below : List (Option ℕ) → ℕ → ℕ → Bool
noted_below row src other = nat_lt other src && is_some (get_or row other None)

-- a source more is noted, which sends
pub sender_noted : (row : List (Option ℕ)) (here was : Bool) (src other : ℕ) → is_some (get_or row src None) ≡ true
    → (cond here (noted_below row src other) was || (here && (other == src))) ≡ cond here (noted_below row (src + 1) other) was
sender_noted row false was src other sends = or-false was
sender_noted row true was src other sends = elim (cases_order other src) [
  | inl same ↦
      or_right (noted_below row src other) (other == src) (eq-eqb other src same)
      ∙ sym (ap (λ (b : Bool). b && is_some (get_or row other None)) (lt-ltb other (src + 1) (omega (arith, same))) ∙ (ap (λ (n : ℕ). is_some (get_or row n None)) same ∙ sends))
  | inr (inl before) ↦
      ap (λ (b : Bool). noted_below row src other || b) (ne_eqb other src (λ e. absurd (omega (arith, e, before))))
      ∙ (or-false (noted_below row src other)
      ∙ ap (λ (b : Bool). b && is_some (get_or row other None)) (lt-ltb other src before ∙ sym (lt-ltb other (src + 1) (omega (arith, before)))))
  | inr (inr after) ↦
      ap (λ (b : Bool). noted_below row src other || b) (ne_eqb other src (λ e. absurd (omega (arith, e, after))))
      ∙ (or-false (noted_below row src other)
      ∙ ap (λ (b : Bool). b && is_some (get_or row other None)) (le-ltb other src (omega (arith, after)) ∙ sym (le-ltb other (src + 1) (omega (arith, after)))))
]

-- a source more is passed, which does not send
pub idle_passed : (row : List (Option ℕ)) (here was : Bool) (src other : ℕ) → is_some (get_or row src None) ≡ false → cond here (noted_below row src other) was ≡ cond here (noted_below row (src + 1) other) was
idle_passed row false was src other idle = refl
idle_passed row true was src other idle = elim (cases_order other src) [
  | inl same ↦
      let none : is_some (get_or row other None) ≡ false = ap (λ (n : ℕ). is_some (get_or row n None)) same ∙ idle in
      and_right (nat_lt other src) _ none ∙ sym (and_right (nat_lt other (src + 1)) _ none)
  | inr (inl before) ↦ ap (λ (b : Bool). b && is_some (get_or row other None)) (lt-ltb other src before ∙ sym (lt-ltb other (src + 1) (omega (arith, before))))
  | inr (inr after) ↦ ap (λ (b : Bool). b && is_some (get_or row other None)) (le-ltb other src (omega (arith, after)) ∙ sym (le-ltb other (src + 1) (omega (arith, after))))
]

-- a source sends where some flow of the slot has it
sends_any : (slot : List Flow) (src : ℕ) → is_some (destination_of slot src) ≡ list_any (λ flow. flow.src == src) slot
sends_any [] src = refl
sends_any (flow ∷ slot) src = elim (cases_Bool (flow.src == src)) [
  | inl here ↦
      ap (λ (f : Option Flow). is_some (option_map (λ (g : Flow). g.dst) f)) (cond-true (flow.src == src) (Some flow) (find (λ (g : Flow). g.src == src) slot) here)
      ∙ sym (ap (λ (b : Bool). b || list_any (λ (g : Flow). g.src == src) slot) here)
  | inr other ↦
      ap (λ (f : Option Flow). is_some (option_map (λ (g : Flow). g.dst) f)) (cond-false (flow.src == src) (Some flow) (find (λ (g : Flow). g.src == src) slot) other)
      ∙ (sends_any slot src ∙ sym (ap (λ (b : Bool). b || list_any (λ (g : Flow). g.src == src) slot) other))
]

-- with one flow more its source sends too
pub one_sender_more : (flow : Flow) (slot : List Flow) (src : ℕ) → is_some (destination_of (slot_with flow slot) src) ≡ (is_some (destination_of slot src) || (src == flow.src))
one_sender_more flow slot src =
    sends_any (slot_with flow slot) src
    ∙ (any-slot_with (λ (f : Flow). f.src == src) flow slot
    ∙ (ap (λ (b : Bool). (flow.src == src) || b) (sym (sends_any slot src))
    ∙ (turned (flow.src == src) (is_some (destination_of slot src)) ∙ ap (λ (b : Bool). is_some (destination_of slot src) || b) (eqb_turned flow.src src))))
  where
    turned : (a b : Bool) → (a || b) ≡ (b || a)
    turned true true = refl
    turned true false = refl
    turned false true = refl
    turned false false = refl

-- where one slot is another, it has its own senders, and the others have theirs
pub senders_of_set : (slots : List (List Flow)) (slot : ℕ) (flows : List Flow) (at src : ℕ) → slot < length slots
    → is_some (destination_of (slot_in (set slots slot flows) at) src) ≡ cond (at == slot) (is_some (destination_of flows src)) (is_some (destination_of (slot_in slots at) src))
senders_of_set slots slot flows at src below = elim (cases_eq at slot) [
  | inl same ↦
      ap (λ (f : List Flow). is_some (destination_of f src)) (ap (slot_in (set slots slot flows)) same ∙ get_or-set_same slots slot flows [] below)
      ∙ sym (cond-true (at == slot) (is_some (destination_of flows src)) (is_some (destination_of (slot_in slots at) src)) (eq-eqb at slot same))
  | inr other ↦
      ap (λ (f : List Flow). is_some (destination_of f src)) (get_or-set_other slots slot at flows [] other)
      ∙ sym (cond-false (at == slot) (is_some (destination_of flows src)) (is_some (destination_of (slot_in slots at) src)) (ne_eqb at slot other))
]

pub senders_of_put : (slots : List (List Flow)) (slot : ℕ) (flow : Flow) (at src : ℕ) → slot < length slots
    → is_some (destination_of (slot_in (set slots slot (slot_with flow (slot_in slots slot))) at) src) ≡ (is_some (destination_of (slot_in slots at) src) || ((at == slot) && (src == flow.src)))
senders_of_put slots slot flow at src below =
    senders_of_set slots slot (slot_with flow (slot_in slots slot)) at src below
    ∙ elim (cases_eq at slot) [
      | inl same ↦
          let here = eq-eqb at slot same in
          cond-true (at == slot) (is_some (destination_of (slot_with flow (slot_in slots slot)) src)) (is_some (destination_of (slot_in slots at) src)) here
          ∙ (one_sender_more flow (slot_in slots slot) src
          ∙ (ap (λ (n : ℕ). is_some (destination_of (slot_in slots n) src) || (src == flow.src)) (sym same)
          ∙ ap (λ (b : Bool). is_some (destination_of (slot_in slots at) src) || (b && (src == flow.src))) (sym here)))
      | inr other ↦
          let there = ne_eqb at slot other in
          cond-false (at == slot) (is_some (destination_of (slot_with flow (slot_in slots slot)) src)) (is_some (destination_of (slot_in slots at) src)) there
          ∙ (sym (or-false (is_some (destination_of (slot_in slots at) src)))
          ∙ ap (λ (b : Bool). is_some (destination_of (slot_in slots at) src) || (b && (src == flow.src))) (sym there))
    ]

-- where the words tell who sends in a slot, each of them tells which of its 64 places of the row hold a destination
pub word_of_senders : (words : List ℕ) (row : List (Option ℕ)) (word : ℕ) → AreSendersOf (flows_from 0 row) words → get_or words word 0 < 2 ^ 64 → TellsHeld (take 64 (drop (word * 64) row)) (get_or words word 0)
word_of_senders words row word are fits place = elim (cases_lt place 64) [
  | inl below ↦
      let src : ℕ = word * 64 + place in
      let here : src ≡ 0 + src = omega arith in
      sym (bit_of_word words word place below)
      ∙ (are src
      ∙ ap is_some (destination-at 0 src src row here ∙ sym (get_or-take 64 (drop (word * 64) row) place None below ∙ get_or-drop (word * 64) row place None)))
  | inr above ↦
      ap (λ (n : ℕ). n == 1) (bit_at_above (get_or words word 0) 64 place fits above)
      ∙ sym (ap is_some (get_or_past (take 64 (drop (word * 64) row)) place None (omega (arith, above, length-take 64 (drop (word * 64) row)))))
]

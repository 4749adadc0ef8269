-- The links of racks, as lists of counts and words.
use Rattle.std.proofs.Common.{◌≡◌, ◌≢◌, ◌<◌, ◌≤◌, ◌+◌, ◌-◌, ◌*◌, ◌^◌, ◌++◌, ℕ, List, length, get_or, set, replicate, drop, Bool, true, false, not, ◌==◌, ◌&&◌, nat_lt, cond, bit_and, w64, refl, sym, ap, ◌∙◌, arith, inl, inr}
use Rattle.std.specs.Int.{trailing_zeros}
use Rattle.std.proofs.lemmas.Bool.{cases_eq, cases_lt, and_right, and_parts, eq-eqb, ne_eqb, lt-ltb, le-ltb, both_ways, eqb-true}
use Rattle.std.proofs.lemmas.List.{get_or-set_same, get_or-set_other, get_or_read, length-set, length-append, length-drop, length-replicate, get_or-replicate, get_or-drop, get_or_append_left, get_or-append_right}
use Rattle.std.proofs.lemmas.Nat.Bits.{bit_at-pow_same, bit_at-pow_other}
use Rattle.std.proofs.Math.Bool.{and-true, and-not_self}
use Rattle.endpoint_bitmaps.specs.Slots.{has_slot}
use Rattle.endpoint_bitmaps.specs.Links.{taken_in, HasTakenLinks, ShowsLeft, IsUsed}
use Rattle.endpoint_bitmaps.proofs.WordLemmas.{has_slot-without, has_slot-first, lowest_is, without_lowest}

-- a rack that has taken no link has one left in every slot of its word
none_taken : (cores rack slot : ℕ) (counts words : List ℕ) → 1 ≤ cores → slot < 64 → taken_in counts rack slot ≡ 0 → get_or words rack 0 ≡ 2 ^ 64 - 1
    → has_slot (get_or words rack 0) slot ≡ nat_lt (taken_in counts rack slot) cores
none_taken cores rack slot counts words some within none all =
    ap (λ (n : ℕ). has_slot n slot) all
    ∙ (has_slot-first 64 slot ∙ (lt-ltb slot 64 within ∙ sym (ap (λ (n : ℕ). nat_lt n cores) none ∙ lt-ltb 0 cores some)))

-- links that nobody has taken yet
pub shows_none : (cores : ℕ) (counts words : List ℕ) (racks : ℕ) → 1 ≤ cores → counts ≡ replicate (racks * 64) 0 → words ≡ replicate racks (2 ^ 64 - 1) → ShowsLeft cores counts words
shows_none cores counts words racks some counts_are words_are =
    let long : length words ≡ racks = ap length words_are ∙ length-replicate racks (2 ^ 64 - 1) in
    record {
      count = ap length counts_are ∙ (length-replicate (racks * 64) 0 ∙ ap (λ (n : ℕ). n * 64) (sym long));
      each = λ rack slot below within.
          none_taken cores rack slot counts words some within
          (ap (λ (xs : List ℕ). taken_in xs rack slot) counts_are ∙ get_or-replicate (racks * 64) (rack * 64 + slot) 0 0 (omega (arith, long, below, within)))
          (ap (λ (xs : List ℕ). get_or xs rack 0) words_are ∙ get_or-replicate racks rack (2 ^ 64 - 1) 0 (omega (arith, long, below)));
    }

-- the links of all racks are given back, of which those below `used` alone have taken any
pub shows_cleared : (cores before used : ℕ) (counts words counts' words' : List ℕ) → 1 ≤ cores → 1 ≤ before → ShowsLeft before counts words → IsUsed used counts
    → counts' ≡ replicate (length counts) 0 → words' ≡ replicate used (2 ^ 64 - 1) ++ drop used words → ShowsLeft cores counts' words'
shows_cleared cores before used counts words counts' words' some had shows is_used counts_are words_are =
    let n : ℕ = length words in
    let all : ℕ = 2 ^ 64 - 1 in
    let ones : List ℕ = replicate used all in
    let within_used : used ≤ n = omega (arith, is_used.within, shows.count) in
    let ones_long : length ones ≡ used = length-replicate used all in
    let racks : length words' ≡ n = ap length words_are ∙ (length-append ones (drop used words) ∙ omega (arith, ones_long, length-drop used words, within_used)) in
    record {
      count = ap length counts_are ∙ (length-replicate (length counts) 0 ∙ (shows.count ∙ ap (λ (m : ℕ). m * 64) (sym racks)));
      each = λ rack slot below within.
          let none : taken_in counts' rack slot ≡ 0 =
          ap (λ (xs : List ℕ). taken_in xs rack slot) counts_are ∙ get_or-replicate (length counts) (rack * 64 + slot) 0 0 (omega (arith, racks, below, within, shows.count)) in
          elim (cases_lt rack used) [
            | inl taken ↦
                none_taken cores rack slot counts' words' some within none
                (ap (λ (xs : List ℕ). get_or xs rack 0) words_are
                ∙ (get_or_append_left ones (drop used words) 0 rack (omega (arith, taken, ones_long)) ∙ get_or-replicate used rack all 0 taken))
            | inr rest ↦
                let kept : get_or words' rack 0 ≡ get_or words rack 0 =
                ap (λ (xs : List ℕ). get_or xs rack 0) words_are
                ∙ (get_or-append_right ones (drop used words) used rack 0 ones_long rest
                ∙ (get_or-drop used words (rack - used) 0 ∙ ap (λ (m : ℕ). get_or words m 0) (omega (arith, rest)))) in
                ap (λ (m : ℕ). has_slot m slot) kept
                ∙ (shows.each rack slot (omega (arith, racks, below)) within
                ∙ (ap (λ (m : ℕ). nat_lt m before) (is_used.rest (rack * 64 + slot) (omega (arith, rest)))
                ∙ (lt-ltb 0 before had ∙ sym (ap (λ (m : ℕ). nat_lt m cores) none ∙ lt-ltb 0 cores some))))
          ];
    }

has_only : (slot k : ℕ) → has_slot (2 ^ slot) k ≡ (k == slot)
has_only slot k = elim (cases_eq k slot) [
  | inl here ↦ ap (λ (n : ℕ). has_slot (2 ^ slot) n) here ∙ (ap (λ (n : ℕ). n == 1) (bit_at-pow_same slot) ∙ sym (eq-eqb k slot here))
  | inr other ↦ ap (λ (n : ℕ). n == 1) (bit_at-pow_other slot k other) ∙ sym (ne_eqb k slot other)
]

-- the last link of a rack is taken in a slot
pub shows_full : (cores rack slot count word : ℕ) (counts words : List ℕ) → ShowsLeft cores counts words → rack < length words → slot < 64 → word < 2 ^ 64 → 2 ^ slot < 2 ^ 64
    → word ≡ get_or words rack word → count ≡ cores
    → ShowsLeft cores (set counts (rack * 64 + slot) count) (set words rack (bit_and word (2 ^ 64 - 1 - 2 ^ slot)))
shows_full cores rack slot count word counts words shows below within fits slot_fits word_is full =
    let place : ℕ = rack * 64 + slot in
    let less : ℕ = bit_and word (2 ^ 64 - 1 - 2 ^ slot) in
    let last : ℕ → ℕ → Bool = λ r k. nat_lt (taken_in (set counts place count) r k) cores in
    record {
      count = length-set counts place count ∙ (shows.count ∙ ap (λ (n : ℕ). n * 64) (sym (length-set words rack less)));
      each = λ r k r_below k_within.
          elim (cases_eq r rack) [
            | inl here ↦
                let word_now : has_slot (get_or (set words rack less) r 0) k ≡ (has_slot word k && not (k == slot)) =
                ap (λ (n : ℕ). has_slot (get_or (set words rack less) n 0) k) here
                ∙ (ap (λ (n : ℕ). has_slot n k) (get_or-set_same words rack less 0 below)
                ∙ (has_slot-without word (2 ^ slot) k fits slot_fits ∙ ap (λ (b : Bool). has_slot word k && not b) (has_only slot k))) in
                elim (cases_eq k slot) [
                  | inl same ↦
                      word_now ∙ (and_right (has_slot word k) _ (ap not (eq-eqb k slot same))
                      ∙ sym (ap (λ (n : ℕ). nat_lt (get_or (set counts place count) n 0) cores) (omega (arith, here, same))
                      ∙ (ap (λ (n : ℕ). nat_lt n cores) (get_or-set_same counts place count 0 (omega (arith, shows.count, below, within)))
                      ∙ le-ltb count cores (omega (arith, full)))))
                  | inr other ↦
                      word_now ∙ (ap (λ (b : Bool). has_slot word k && not b) (ne_eqb k slot other) ∙ (and-true (has_slot word k)
                      ∙ (ap (λ (n : ℕ). has_slot n k) (get_or_read words rack word below word_is 0)
                      ∙ (shows.each rack k below k_within
                      ∙ sym (ap (λ (n : ℕ). nat_lt n cores)
                      (get_or-set_other counts place (r * 64 + k) count 0 (λ same. absurd (omega (arith, same, here, other))) ∙ ap (λ (n : ℕ). get_or counts (n * 64 + k) 0) here))))))
                ]
            | inr other ↦
                ap (λ (n : ℕ). has_slot n k) (get_or-set_other words rack r less 0 other)
                ∙ (shows.each r k (omega (arith, r_below, length-set words rack less)) k_within
                ∙ sym (ap (λ (n : ℕ). nat_lt n cores) (get_or-set_other counts place (r * 64 + k) count 0 (λ same. absurd (omega (arith, same, other, k_within, within))))))
          ];
    }

-- so many of a rack's links are taken, and the rest of the slots are to come
pub record IsTaking (cores rack slots rest : ℕ) (old counts words : List ℕ) : Type 0 where
  pub taken : HasTakenLinks rack (λ k. has_slot slots k && not (has_slot rest k)) old counts
  pub shows : ShowsLeft cores counts words
  pub part : (k : ℕ) → has_slot rest k ≡ true → has_slot slots k ≡ true

counted_no : (n : ℕ) (here p : Bool) → p ≡ false → n ≡ n + cond (here && p) 1 0
counted_no n here p off = ap (λ (m : ℕ). m) (omega arith) ∙ ap (λ (b : Bool). n + cond b 1 0) (sym (and_right here p off))

pub taking_starts : (cores rack slots : ℕ) (counts words : List ℕ) → ShowsLeft cores counts words → IsTaking cores rack slots slots counts counts words
taking_starts cores rack slots counts words shows = record {
  taken = λ at k within. counted_no (taken_in counts at k) (at == rack) (has_slot slots k && not (has_slot slots k)) (and-not_self (has_slot slots k));
  shows = shows;
  part = λ k is. is;
}

-- a link is left in it
pub left_there : (cores rack slots rest slot : ℕ) (old old_words counts words : List ℕ) → rack < length words → rack < length old_words → slot < 64 → ShowsLeft cores old old_words
    → ((k : ℕ) → has_slot slots k ≡ true → has_slot (get_or old_words rack 0) k ≡ true) → IsTaking cores rack slots rest old counts words → has_slot rest slot ≡ true
    → has_slot (get_or words rack 0) slot ≡ true
left_there cores rack slots rest slot old old_words counts words below old_below within old_shows free taking here =
    let as_before : taken_in counts rack slot ≡ taken_in old rack slot =
    taking.taken rack slot within
    ∙ sym (counted_no (taken_in old rack slot) (rack == rack) (has_slot slots slot && not (has_slot rest slot)) (and_right (has_slot slots slot) _ (ap not here))) in
    taking.shows.each rack slot below within
    ∙ (ap (λ (n : ℕ). nat_lt n cores) as_before ∙ (sym (old_shows.each rack slot old_below within) ∙ free slot (taking.part slot here)))

one_more : (n : ℕ) (here slots rest last : Bool) → (last ≡ true → rest ≡ true) → (rest ≡ true → slots ≡ true)
    → (n + cond (here && (slots && not rest)) 1 0) + cond (here && last) 1 0 ≡ n + cond (here && (slots && not (rest && not last))) 1 0
one_more n false slots rest last held part = omega arith
one_more n true true true true held part = omega arith
one_more n true true true false held part = omega arith
one_more n true true false false held part = omega arith
one_more n true true false true held part = absurd (both_ways false refl (held refl))
one_more n true false false false held part = omega arith
one_more n true false false true held part = absurd (both_ways false refl (held refl))
one_more n true false true last held part = absurd (both_ways false refl (part refl))

pub taking_more : (cores rack slots rest : ℕ) (old counts words counts' words' : List ℕ) → rest < 2 ^ 64 → rest ≢ 0 → IsTaking cores rack slots rest old counts words
    → HasTakenLinks rack (λ k. k == trailing_zeros w64 rest) counts counts' → ShowsLeft cores counts' words' → IsTaking cores rack slots (bit_and rest (rest - 1)) old counts' words'
taking_more cores rack slots rest old counts words counts' words' fits some taking took shows =
    let t : ℕ = trailing_zeros w64 rest in
    record {
      taken = λ at k within.
          took at k within
          ∙ (ap (λ (n : ℕ). n + cond ((at == rack) && (k == t)) 1 0) (taking.taken at k within)
          ∙ (one_more (taken_in old at k) (at == rack) (has_slot slots k) (has_slot rest k) (k == t)
          (λ is. ap (has_slot rest) (eqb-true k t is) ∙ lowest_is rest fits some) (taking.part k)
          ∙ ap (λ (b : Bool). taken_in old at k + cond ((at == rack) && (has_slot slots k && not b)) 1 0) (sym (without_lowest rest k fits some))));
      shows = shows;
      part = λ k is. taking.part k (and_parts (has_slot rest k) (not (k == t)) (sym (without_lowest rest k fits some) ∙ is)).0;
    }

-- the slots that are to come are left as they are
pub taking_stops : (cores rack slots rest : ℕ) (old counts words : List ℕ) → slots < 2 ^ 64 → rest < 2 ^ 64 → IsTaking cores rack slots rest old counts words
    → HasTakenLinks rack (has_slot (bit_and slots (2 ^ 64 - 1 - rest))) old counts
taking_stops cores rack slots rest old counts words fits rest_fits taking = λ at k within.
    taking.taken at k within
    ∙ ap (λ (b : Bool). taken_in old at k + cond ((at == rack) && b) 1 0) (sym (has_slot-without slots rest k fits rest_fits))

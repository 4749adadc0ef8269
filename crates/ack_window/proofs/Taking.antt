-- What a window has to change when a number arrives.
use Rattle.std.proofs.Common.{◌≡◌, ◌≢◌, ℕ, ◌+◌, ◌-◌, ◌^◌, ◌<◌, ◌≤◌, Bool, true, false, ◌&&◌, ◌||◌, cond, nat_lt, ◌==◌, if◌then◌else◌, List, [], ◌∷◌, sym, ◌∙◌, ap, subst, refl, inl, inr, arith}
use Rattle.std.specs.Int.{bit_at, IsBitSet}
use Rattle.std.proofs.lemmas.Bool.{cases_lt, cases_eq, cases_order, cases_Bool, cond-true, cond-false, lt-ltb, le-ltb, eq-eqb, ne_eqb, false_from_ne_true, or_left, or_right}
use Rattle.std.proofs.lemmas.Nat.Bits.{bit_at_above, bit_at-zero}
use Rattle.list_facts.proofs.Numbers.{bit_at-set}
use Rattle.list_facts.proofs.Bools.{never_or}
use Rattle.ack_window.specs.declared.take_window.Taken.TheVariants.{Fresh, Repeat, Old}
use Rattle.ack_window.specs.declared.acknowledgement.Acknowledgement.{Acknowledgement}
use Rattle.ack_window.specs.Arrivals.{highest, has_come, receive_verdict, is_fresh, is_number_taken, mask_of, StandsForArrivals}
use Rattle.ack_window.proofs.Bits.{some-pow, bits_where-lt, bits_where-from_bits, bit_at-bits_where}

pub highest-above : (arrived : List ℕ) (number : ℕ) → has_come arrived number ≡ true → number ≤ highest arrived
highest-above [] number here = absurd (cc)
highest-above (latest ∷ earlier) number here =
    elim (cases_eq latest number) [
      | inl same ↦ omega arith
      | inr other ↦
          let skipped : has_come earlier number ≡ true = ap (λ b. b || has_come earlier number) (sym (ne_eqb latest number other)) ∙ here in
          omega (arith, highest-above earlier number skipped)
    ]

pub came-highest : (arrived : List ℕ) → 1 ≤ highest arrived → has_come arrived (highest arrived) ≡ true
came-highest [] some = absurd (omega arith)
came-highest (latest ∷ earlier) some =
    elim (cases_lt (highest earlier) (latest + 1)) [
      | inl first ↦
          let top : highest (latest ∷ earlier) ≡ latest = omega arith in
          or_left (latest == highest (latest ∷ earlier)) (has_come earlier (highest (latest ∷ earlier))) (eq-eqb latest (highest (latest ∷ earlier)) (sym top))
      | inr later ↦
          let top : highest (latest ∷ earlier) ≡ highest earlier = omega arith in
          or_right (latest == highest (latest ∷ earlier)) (has_come earlier (highest (latest ∷ earlier)))
          (ap (λ n. has_come earlier n) top ∙ came-highest earlier (omega arith))
    ]

pub verdict-old : (reorder : ℕ) (arrived : List ℕ) (number : ℕ) → number + reorder < highest arrived → receive_verdict reorder arrived number ≡ Old
verdict-old reorder arrived number below =
    cond-true (nat_lt (number + reorder) (highest arrived)) Old (if has_come arrived number then Repeat else Fresh) (lt-ltb (number + reorder) (highest arrived) below)

pub verdict-repeat : (reorder : ℕ) (arrived : List ℕ) (number : ℕ) → highest arrived ≤ number + reorder → has_come arrived number ≡ true → receive_verdict reorder arrived number ≡ Repeat
verdict-repeat reorder arrived number near here =
    cond-false (nat_lt (number + reorder) (highest arrived)) Old (if has_come arrived number then Repeat else Fresh) (le-ltb (number + reorder) (highest arrived) near)
    ∙ cond-true (has_come arrived number) Repeat Fresh here

pub verdict-fresh : (reorder : ℕ) (arrived : List ℕ) (number : ℕ) → highest arrived ≤ number + reorder → has_come arrived number ≡ false → receive_verdict reorder arrived number ≡ Fresh
verdict-fresh reorder arrived number near new =
    cond-false (nat_lt (number + reorder) (highest arrived)) Old (if has_come arrived number then Repeat else Fresh) (le-ltb (number + reorder) (highest arrived) near)
    ∙ cond-false (has_come arrived number) Repeat Fresh new

-- a number other than the latest was taken where it was taken before
pub is_taken-other : (reorder : ℕ) (latest : ℕ) (earlier : List ℕ) (number : ℕ) → latest ≢ number → is_number_taken reorder (latest ∷ earlier) number ≡ is_number_taken reorder earlier number
is_taken-other reorder latest earlier number other =
    ap (λ b. (b && is_fresh (receive_verdict reorder earlier latest)) || is_number_taken reorder earlier number) (ne_eqb latest number other)

-- a number that isn't fresh changes nothing
pub is_taken-stale : (reorder : ℕ) (latest : ℕ) (earlier : List ℕ) (number : ℕ) → is_fresh (receive_verdict reorder earlier latest) ≡ false → is_number_taken reorder (latest ∷ earlier) number ≡ is_number_taken reorder earlier number
is_taken-stale reorder latest earlier number stale =
    ap (λ b. ((latest == number) && b) || is_number_taken reorder earlier number) stale
    ∙ never_or (latest == number) (is_number_taken reorder earlier number)

pub is_taken-fresh : (reorder : ℕ) (earlier : List ℕ) (number : ℕ) → receive_verdict reorder earlier number ≡ Fresh → is_number_taken reorder (number ∷ earlier) number ≡ true
is_taken-fresh reorder earlier number fresh =
    ap (λ b. (b && is_fresh (receive_verdict reorder earlier number)) || is_number_taken reorder earlier number) (eq-eqb number number refl)
    ∙ ap (λ v. is_fresh v || is_number_taken reorder earlier number) fresh

-- near the highest, what came was taken
pub is_taken-came : (reorder : ℕ) (arrived : List ℕ) (number : ℕ) → highest arrived ≤ number + reorder → is_number_taken reorder arrived number ≡ has_come arrived number
is_taken-came reorder [] number near = refl
is_taken-came reorder (latest ∷ earlier) number near =
    let before = is_taken-came reorder earlier number (omega arith) in
    elim (cases_eq latest number) [
      | inr other ↦
          is_taken-other reorder latest earlier number other ∙ before ∙ sym (ap (λ b. b || has_come earlier number) (ne_eqb latest number other))
      | inl same ↦
          let here : has_come (latest ∷ earlier) number ≡ true = or_left (latest == number) (has_come earlier number) (eq-eqb latest number same) in
          elim (cases_Bool (has_come earlier number)) [
            | inl again ↦ or_right (latest == number && is_fresh (receive_verdict reorder earlier latest)) (is_number_taken reorder earlier number) (before ∙ again) ∙ sym here
            | inr new ↦
                let fresh : is_number_taken reorder (number ∷ earlier) number ≡ true = is_taken-fresh reorder earlier number (verdict-fresh reorder earlier number (omega arith) new) in
                subst (λ (n : ℕ). is_number_taken reorder (n ∷ earlier) number ≡ true) (sym same) fresh ∙ sym here
          ]
    ]

-- what was taken came, and so isn't above the highest
pub came-taken : (reorder : ℕ) (arrived : List ℕ) (number : ℕ) → is_number_taken reorder arrived number ≡ true → has_come arrived number ≡ true
came-taken reorder [] number taken = absurd (cc)
came-taken reorder (latest ∷ earlier) number taken =
    elim (cases_eq latest number) [
      | inl same ↦ or_left (latest == number) (has_come earlier number) (eq-eqb latest number same)
      | inr other ↦ or_right (latest == number) (has_come earlier number) (came-taken reorder earlier number (sym (is_taken-other reorder latest earlier number other) ∙ taken))
    ]

pub is_taken-above : (reorder : ℕ) (arrived : List ℕ) (number : ℕ) → highest arrived < number → is_number_taken reorder arrived number ≡ false
is_taken-above reorder arrived number above =
    false_from_ne_true (is_number_taken reorder arrived number)
    (λ taken. let top : number ≤ highest arrived = highest-above arrived number (came-taken reorder arrived number taken) in absurd (omega arith))

-- a number that is fresh was not taken
pub fresh-new : (reorder : ℕ) (arrived : List ℕ) (number : ℕ) → receive_verdict reorder arrived number ≡ Fresh → is_number_taken reorder arrived number ≡ false
fresh-new reorder arrived number fresh =
    false_from_ne_true (is_number_taken reorder arrived number)
    (λ taken.
    elim (cases_lt (number + reorder) (highest arrived)) [
      | inl old ↦ let is = verdict-old reorder arrived number old in absurd (cc)
      | inr near ↦ let is = verdict-repeat reorder arrived number near (came-taken reorder arrived number taken) in absurd (cc)
    ])

pub came-above : (arrived : List ℕ) (number : ℕ) → highest arrived < number → has_come arrived number ≡ false
came-above arrived number above =
    false_from_ne_true (has_come arrived number)
    (λ here. let top : number ≤ highest arrived = highest-above arrived number here in absurd (omega arith))

-- the test of bit i of the mask
abbrev pub told : ℕ → List ℕ → ℕ → Bool
told reorder arrived i = nat_lt (i + 1) (highest arrived) && is_number_taken reorder arrived (highest arrived - 1 - i)

pub told-low : (reorder : ℕ) (arrived : List ℕ) (i : ℕ) → i + 1 < highest arrived → told reorder arrived i ≡ is_number_taken reorder arrived (highest arrived - 1 - i)
told-low reorder arrived i low = ap (λ b. b && is_number_taken reorder arrived (highest arrived - 1 - i)) (lt-ltb (i + 1) (highest arrived) low)

pub told-high : (reorder : ℕ) (arrived : List ℕ) (i : ℕ) → highest arrived ≤ i + 1 → told reorder arrived i ≡ false
told-high reorder arrived i high = ap (λ b. b && is_number_taken reorder arrived (highest arrived - 1 - i)) (le-ltb (i + 1) (highest arrived) high)

-- the bits of a window that stands for what arrived
pub bit_at-stands : (reorder span : ℕ) (window : Acknowledgement) (arrived : List ℕ) → StandsForArrivals reorder span window arrived →
    (i : ℕ) → i < span → bit_at window.mask i ≡ cond (told reorder arrived i) 1 0
bit_at-stands reorder span window arrived stands i within =
    ap (λ m. bit_at m i) stands.mask ∙ bit_at-bits_where (λ j. told reorder arrived j) span i within

pub well_formed-stands : (reorder span : ℕ) (window : Acknowledgement) (arrived : List ℕ) → StandsForArrivals reorder span window arrived →
    (i : ℕ) → window.high ≤ i + 1 → bit_at window.mask i ≡ 0
well_formed-stands reorder span window arrived stands i above =
    elim (cases_lt i span) [
      | inl within ↦
          bit_at-stands reorder span window arrived stands i within
          ∙ cond-false (told reorder arrived i) 1 0 (told-high reorder arrived i (let high = stands.high in omega arith))
      | inr past ↦
          ap (λ m. bit_at m i) stands.mask
          ∙ bit_at_above (mask_of reorder span arrived) span i (bits_where-lt (λ j. told reorder arrived j) span) past
    ]

-- the acknowledgement of a window fits the mask, and names only numbers from 1 on
pub fits-stands : (reorder span : ℕ) (window : Acknowledgement) (arrived : List ℕ) → StandsForArrivals reorder span window arrived → window.mask < 2 ^ span
fits-stands reorder span window arrived stands = subst (λ (m : ℕ). m < 2 ^ span) (sym stands.mask) (bits_where-lt (λ i. told reorder arrived i) span)

pub named-stands : (reorder span : ℕ) (window : Acknowledgement) (arrived : List ℕ) → StandsForArrivals reorder span window arrived →
    (i : ℕ) → IsBitSet window.mask i → i + 1 < window.high
named-stands reorder span window arrived stands i set =
    elim (cases_lt (i + 1) window.high) [
      | inl below ↦ below
      | inr above ↦ let one = bit_at-set window.mask i set in let none = well_formed-stands reorder span window arrived stands i above in absurd (omega arith)
    ]

-- nothing has arrived
pub stands-nothing : (reorder span : ℕ) → StandsForArrivals reorder span (record { high = 0; mask = 0 }) []
stands-nothing reorder span = record {
  high = refl;
  mask =
      bits_where-from_bits 0 (λ i. told reorder [] i) span (some-pow span)
      (λ i _. bit_at-zero i ∙ sym (cond-false (told reorder [] i) 1 0 (told-high reorder [] i (omega arith))));
}

-- a number above the highest slides the mask up
pub stands-above : (reorder span : ℕ) (window : Acknowledgement) (arrived : List ℕ) (number mask : ℕ) → StandsForArrivals reorder span window arrived →
    highest arrived < number → mask < 2 ^ span →
    ((i : ℕ) → i < span → bit_at mask i ≡ (if window.high == 0 then 0 else (if i + 1 == number - window.high then 1 else (if nat_lt i (number - window.high) then 0 else bit_at window.mask (i - (number - window.high)))))) →
    StandsForArrivals reorder span (record { high = number; mask = mask }) (number ∷ arrived)
stands-above reorder span window arrived number mask stands above fits bits =
    let top : highest (number ∷ arrived) ≡ number = omega arith in
    record {
      high = sym top;
      mask = bits_where-from_bits mask (λ i. told reorder (number ∷ arrived) i) span fits
          (λ i within. slid_bit reorder span window arrived number mask stands above bits i within);
    }
  where
    -- which number a bit stands for
    told-number : (reorder : ℕ) (arrived : List ℕ) (number i : ℕ) → highest arrived < number → i + 1 < number → told reorder (number ∷ arrived) i ≡ is_number_taken reorder arrived (number - 1 - i)
    told-number reorder arrived number i above low =
        let top : highest (number ∷ arrived) ≡ number = omega arith in
        told-low reorder (number ∷ arrived) i (omega arith)
        ∙ ap (λ h. is_number_taken reorder (number ∷ arrived) (h - 1 - i)) top
        ∙ is_taken-other reorder number arrived (number - 1 - i) (omega arith)

    slid_bit : (reorder span : ℕ) (window : Acknowledgement) (arrived : List ℕ) (number mask : ℕ) → StandsForArrivals reorder span window arrived →
        highest arrived < number →
        ((i : ℕ) → i < span → bit_at mask i ≡ (if window.high == 0 then 0 else (if i + 1 == number - window.high then 1 else (if nat_lt i (number - window.high) then 0 else bit_at window.mask (i - (number - window.high)))))) →
        (i : ℕ) → i < span → bit_at mask i ≡ cond (told reorder (number ∷ arrived) i) 1 0
    slid_bit reorder span window arrived number mask stands above bits i within =
        let high = stands.high in
        let ahead = number - window.high in
        elim (cases_lt (i + 1) number) [
          | inr past ↦
              let none : told reorder (number ∷ arrived) i ≡ false = told-high reorder (number ∷ arrived) i (omega arith) in
              bits i within
              ∙ elim (cases_eq window.high 0) [
                | inl nothing ↦ cond-true _ _ _ (eq-eqb window.high 0 nothing)
                | inr something ↦
                    cond-false _ _ _ (ne_eqb window.high 0 something)
                    ∙ cond-false _ _ _ (ne_eqb (i + 1) ahead (omega arith))
                    ∙ cond-false _ _ _ (le-ltb i ahead (omega arith))
                    ∙ well_formed-stands reorder span window arrived stands (i - ahead) (omega arith)
              ]
              ∙ sym (cond-false (told reorder (number ∷ arrived) i) 1 0 none)
          | inl low ↦
              let here : told reorder (number ∷ arrived) i ≡ is_number_taken reorder arrived (number - 1 - i) = told-number reorder arrived number i above low in
              let goal : ℕ → Type 0 = λ v. v ≡ cond (told reorder (number ∷ arrived) i) 1 0 in
              subst goal (sym (bits i within))
              (elim (cases_eq window.high 0) [
                | inl nothing ↦
                    cond-true _ _ _ (eq-eqb window.high 0 nothing)
                    ∙ sym (cond-false (told reorder (number ∷ arrived) i) 1 0 (here ∙ is_taken-above reorder arrived (number - 1 - i) (omega arith)))
                | inr something ↦
                    cond-false _ _ _ (ne_eqb window.high 0 something)
                    ∙ elim (cases_order (i + 1) ahead) [
                      | inl at_old_high ↦
                          let old : number - 1 - i ≡ highest arrived = omega arith in
                          cond-true _ _ _ (eq-eqb (i + 1) ahead at_old_high)
                          ∙ sym (cond-true (told reorder (number ∷ arrived) i) 1 0
                          (here ∙ ap (λ n. is_number_taken reorder arrived n) old
                          ∙ is_taken-came reorder arrived (highest arrived) (omega arith)
                          ∙ came-highest arrived (omega arith)))
                      | inr apart ↦
                          elim apart [
                            | inl between ↦
                                cond-false _ _ _ (ne_eqb (i + 1) ahead (omega arith))
                                ∙ cond-true _ _ _ (lt-ltb i ahead (omega arith))
                                ∙ sym (cond-false (told reorder (number ∷ arrived) i) 1 0 (here ∙ is_taken-above reorder arrived (number - 1 - i) (omega arith)))
                            | inr below ↦
                                let old : number - 1 - i ≡ highest arrived - 1 - (i - ahead) = omega arith in
                                cond-false _ _ _ (ne_eqb (i + 1) ahead (omega arith))
                                ∙ cond-false _ _ _ (le-ltb i ahead (omega arith))
                                ∙ bit_at-stands reorder span window arrived stands (i - ahead) (omega arith)
                                ∙ ap (λ b. cond b 1 0) (told-low reorder arrived (i - ahead) (omega arith) ∙ ap (λ n. is_number_taken reorder arrived n) (sym old) ∙ sym here)
                          ]
                    ]
              ])
        ]

-- a number below the highest sets its bit
pub stands-below : (reorder span : ℕ) (window : Acknowledgement) (arrived : List ℕ) (number mask : ℕ) → StandsForArrivals reorder span window arrived →
    1 ≤ number → number < highest arrived → receive_verdict reorder arrived number ≡ Fresh → mask < 2 ^ span →
    bit_at mask (window.high - 1 - number) ≡ 1 →
    ((i : ℕ) → i ≢ window.high - 1 - number → bit_at mask i ≡ bit_at window.mask i) →
    StandsForArrivals reorder span (record { high = window.high; mask = mask }) (number ∷ arrived)
stands-below reorder span window arrived number mask stands counted below fresh fits set others =
    let top : highest (number ∷ arrived) ≡ highest arrived = omega arith in
    record {
      high = stands.high ∙ sym top;
      mask = bits_where-from_bits mask (λ i. told reorder (number ∷ arrived) i) span fits (λ i within. set_bit i within);
    }
  where
    set_bit : (i : ℕ) → i < span → bit_at mask i ≡ cond (told reorder (number ∷ arrived) i) 1 0
    set_bit i within =
        let top : highest (number ∷ arrived) ≡ highest arrived = omega arith in
        elim (cases_lt (i + 1) (highest arrived)) [
          | inr past ↦
              let none : told reorder (number ∷ arrived) i ≡ false = told-high reorder (number ∷ arrived) i (omega arith) in
              let high = stands.high in
              others i (omega arith) ∙ well_formed-stands reorder span window arrived stands i (omega arith)
              ∙ sym (cond-false (told reorder (number ∷ arrived) i) 1 0 none)
          | inl low ↦
              let high = stands.high in
              let here : told reorder (number ∷ arrived) i ≡ is_number_taken reorder (number ∷ arrived) (highest arrived - 1 - i) =
              told-low reorder (number ∷ arrived) i (omega arith) ∙ ap (λ h. is_number_taken reorder (number ∷ arrived) (h - 1 - i)) top in
              elim (cases_eq i (window.high - 1 - number)) [
                | inl same ↦
                    let it : highest arrived - 1 - i ≡ number = omega arith in
                    ap (λ k. bit_at mask k) same ∙ set
                    ∙ sym (cond-true (told reorder (number ∷ arrived) i) 1 0 (here ∙ ap (λ n. is_number_taken reorder (number ∷ arrived) n) it ∙ is_taken-fresh reorder arrived number fresh))
                | inr other ↦
                    others i other ∙ bit_at-stands reorder span window arrived stands i within
                    ∙ ap (λ b. cond b 1 0) (told-low reorder arrived i low ∙ sym (here ∙ is_taken-other reorder number arrived (highest arrived - 1 - i) (omega arith)))
              ]
        ]

-- a number that isn't fresh leaves the window as it is
pub stands-stale : (reorder span : ℕ) (window : Acknowledgement) (arrived : List ℕ) (number : ℕ) → StandsForArrivals reorder span window arrived →
    number ≤ highest arrived → is_fresh (receive_verdict reorder arrived number) ≡ false →
    StandsForArrivals reorder span window (number ∷ arrived)
stands-stale reorder span window arrived number stands known stale =
    let top : highest (number ∷ arrived) ≡ highest arrived = omega arith in
    record {
      high = stands.high ∙ sym top;
      mask = bits_where-from_bits window.mask (λ i. told reorder (number ∷ arrived) i) span
          (subst (λ (m : ℕ). m < 2 ^ span) (sym stands.mask) (bits_where-lt (λ j. told reorder arrived j) span))
          (λ i within. bit_at-stands reorder span window arrived stands i within ∙ ap (λ b. cond b 1 0) (sym (same_told i)));
    }
  where
    same_told : (i : ℕ) → told reorder (number ∷ arrived) i ≡ told reorder arrived i
    same_told i =
        let top : highest (number ∷ arrived) ≡ highest arrived = omega arith in
        elim (cases_lt (i + 1) (highest arrived)) [
          | inl low ↦
              told-low reorder (number ∷ arrived) i (omega arith) ∙ ap (λ h. is_number_taken reorder (number ∷ arrived) (h - 1 - i)) top
              ∙ is_taken-stale reorder number arrived (highest arrived - 1 - i) stale ∙ sym (told-low reorder arrived i low)
          | inr past ↦ told-high reorder (number ∷ arrived) i (omega arith) ∙ sym (told-high reorder arrived i past)
        ]

-- near the highest, a bit says whether the number came
pub bit_at-came : (reorder span : ℕ) (window : Acknowledgement) (arrived : List ℕ) (number : ℕ) → StandsForArrivals reorder span window arrived →
    1 ≤ number → number < highest arrived → highest arrived ≤ number + reorder → window.high - 1 - number < span →
    bit_at window.mask (window.high - 1 - number) ≡ cond (has_come arrived number) 1 0
bit_at-came reorder span window arrived number stands counted below near within =
    let high = stands.high in
    let it : highest arrived - 1 - (window.high - 1 - number) ≡ number = omega arith in
    bit_at-stands reorder span window arrived stands (window.high - 1 - number) within
    ∙ ap (λ b. cond b 1 0)
    (told-low reorder arrived (window.high - 1 - number) (omega arith) ∙ ap (λ n. is_number_taken reorder arrived n) it ∙ is_taken-came reorder arrived number near)

pub came-by_bit : (here : Bool) (bit : ℕ) → bit ≡ cond here 1 0 → bit ≡ 1 → here ≡ true
came-by_bit true bit is one = refl
came-by_bit false bit is one = absurd (omega arith)

pub new-by_bit : (here : Bool) (bit : ℕ) → bit ≡ cond here 1 0 → bit ≡ 0 → here ≡ false
new-by_bit true bit is zero_bit = absurd (omega arith)
new-by_bit false bit is zero_bit = refl

-- below the highest and near it, the bit decides between a repeat and a fresh number
pub verdict-set : (reorder span : ℕ) (window : Acknowledgement) (arrived : List ℕ) (number : ℕ) → StandsForArrivals reorder span window arrived →
    1 ≤ number → number < window.high → window.high ≤ number + reorder → window.high - 1 - number < span →
    bit_at window.mask (window.high - 1 - number) ≡ 1 → receive_verdict reorder arrived number ≡ Repeat
verdict-set reorder span window arrived number stands counted below near within set =
    let high = stands.high in
    verdict-repeat reorder arrived number (omega arith)
    (came-by_bit (has_come arrived number) (bit_at window.mask (window.high - 1 - number))
    (bit_at-came reorder span window arrived number stands counted (omega arith) (omega arith) within) set)

pub verdict-clear : (reorder span : ℕ) (window : Acknowledgement) (arrived : List ℕ) (number : ℕ) → StandsForArrivals reorder span window arrived →
    1 ≤ number → number < window.high → window.high ≤ number + reorder → window.high - 1 - number < span →
    bit_at window.mask (window.high - 1 - number) ≡ 0 → receive_verdict reorder arrived number ≡ Fresh
verdict-clear reorder span window arrived number stands counted below near within clear =
    let high = stands.high in
    verdict-fresh reorder arrived number (omega arith)
    (new-by_bit (has_come arrived number) (bit_at window.mask (window.high - 1 - number))
    (bit_at-came reorder span window arrived number stands counted (omega arith) (omega arith) within) clear)

-- Lines that change one after the other, and what slots count.
use Rattle.std.proofs.Common.{◌≡◌, ◌≢◌, ℕ, Result, Ok, Err, OnOk, ◌+◌, ◌-◌, ◌<◌, ◌≤◌, true, false, cond, eqb, List, [], ◌∷◌, ◌++◌, length, max, take, drop, set, get_or, Some, slice_get, sym, ◌∙◌, ap, subst, refl, inl, inr, arith}
use Rattle.std.proofs.lemmas.Bool.{cases_eq, cases_Bool, cond-true, cond-false, eq-eqb, ne_eqb}
use Rattle.std.proofs.lemmas.List.{length-set, get_or-set_same, get_or-set_other, take-append-drop}
use Rattle.std.proofs.lemmas.Option.{slice_get_within, slice_get-get_or, get_or_from_slice_get}
use Rattle.std.proofs.Math.Numerals.{add-one}
use Rattle.std.proofs.Math.Seq.{take-suc}
use Rattle.std.proofs.lemmas.List.Sums.{sum_by-append}
use Rattle.fcp_framing.specs.declared.packet.Told.{Told}
use Rattle.fcp_framing.specs.declared.packet.Demand.{Demand}
use Rattle.flow_ledger.specs.FlowCount.{in_flight}
use Rattle.endpoint_history.specs.Confirmed.{total_named}
use Rattle.ack_window.specs.declared.send_window.Decided.{Decided}
use Rattle.arbiter_lane.specs.declared.line.LaneLine.{LaneLine}
use Rattle.endpoint_history.specs.Packets.{Telling, slots_to}
use Rattle.arbiter_lane.specs.State.{AreInFlight}
use Rattle.arbiter_lane.specs.Lines.{Become, LosesSlots, AcknowledgesSlots, DecidesSlots, RisesTo, slots_shown, slots_lost}

-- the lines below a place have changed so, and the others not at all
abbrev pub UpTo : (ℕ → LaneLine → LaneLine → Type 0) → ℕ → ℕ → LaneLine → LaneLine → Type 0
UpTo relation at dst old new = (dst < at → relation dst old new) × (at ≤ dst → new ≡ old)

-- ---- one line, and one change after another

pub Become-set : (relation : ℕ → LaneLine → LaneLine → Type 0) (lines : List LaneLine) (at : ℕ) (old new : LaneLine) → slice_get lines at ≡ Some old → relation at old new →
    ((dst : ℕ) (line : LaneLine) → dst ≢ at → relation dst line line) → Become relation lines (set lines at new)
Become-set relation lines at old new here changed others = record {
  as_many = length-set lines at new;
  each = λ dst a b before after. elim (cases_eq dst at) [
    | inl same ↦
        let a_is : a ≡ old = sym (get_or_from_slice_get lines dst a old before) ∙ (ap (λ i. get_or lines i old) same ∙ get_or_from_slice_get lines at old old here) in
        let b_is : b ≡ new = sym (get_or_from_slice_get (set lines at new) dst b new after) ∙ (ap (λ i. get_or (set lines at new) i new) same ∙ get_or-set_same lines at new new (slice_get_within lines at old here)) in
        subst (λ d. relation d a b) (sym same) (subst (λ x. relation at x b) (sym a_is) (subst (λ y. relation at old y) (sym b_is) changed))
    | inr other ↦
        let b_is : b ≡ a = sym (get_or_from_slice_get (set lines at new) dst b a after) ∙ (get_or-set_other lines at dst new a other ∙ get_or_from_slice_get lines dst a a before) in
        subst (λ y. relation dst a y) (sym b_is) (others dst a other)
  ];
}

-- the line of a destination in lists that are as long
pub line_between : (before after : List LaneLine) → length after ≡ length before → (dst : ℕ) (line : LaneLine) → slice_get before dst ≡ Some line → slice_get after dst ≡ Some (get_or after dst line)
line_between before after as_many dst line here =
    let within = slice_get_within before dst line here in
    slice_get-get_or after dst line (omega (arith, within, as_many))

pub Become-then : (first second both : ℕ → LaneLine → LaneLine → Type 0) (a b c : List LaneLine) → Become first a b → Become second b c →
    ((dst : ℕ) (x y z : LaneLine) → first dst x y → second dst y z → both dst x z) → Become both a c
Become-then first second both a b c one two joins = record {
  as_many = two.as_many ∙ one.as_many;
  each = λ dst x z before after.
      let between = line_between a b one.as_many dst x before in
      joins dst x (get_or b dst x) z (one.each dst x (get_or b dst x) before between) (two.each dst (get_or b dst x) z between after);
}

pub Become-none : (relation : ℕ → LaneLine → LaneLine → Type 0) (lines : List LaneLine) → ((dst : ℕ) (line : LaneLine) → relation dst line line) → Become relation lines lines
Become-none relation lines same = record {
  as_many = refl;
  each = λ dst a b before after.
      subst (λ y. relation dst a y) (sym (get_or_from_slice_get lines dst a a before) ∙ get_or_from_slice_get lines dst b a after) (same dst a);
}

pub Become-weaker : (first second : ℕ → LaneLine → LaneLine → Type 0) (a b : List LaneLine) → Become first a b → ((dst : ℕ) (x y : LaneLine) → first dst x y → second dst x y) → Become second a b
Become-weaker first second a b become weaker = record {
  as_many = become.as_many;
  each = λ dst x y before after. weaker dst x y (become.each dst x y before after);
}

-- ---- counts

pub LosesSlots-none : (line : LaneLine) (n : ℕ) → n ≡ 0 → LosesSlots n line line
LosesSlots-none line n none = record { opened = refl; entered = refl; count = record { demanded = refl; allocated = refl; acknowledged = refl; lost = omega (arith, none) } }

pub LosesSlots-then : (n m : ℕ) (x y z : LaneLine) → LosesSlots n x y → LosesSlots m y z → LosesSlots (n + m) x z
LosesSlots-then n m x y z one two = record {
  opened = two.opened ∙ one.opened;
  entered = two.entered ∙ one.entered;
  count = record {
    demanded = two.count.demanded ∙ one.count.demanded;
    allocated = two.count.allocated ∙ one.count.allocated;
    acknowledged = two.count.acknowledged ∙ one.count.acknowledged;
    lost = omega (arith, one.count.lost, two.count.lost);
  };
}

pub AcknowledgesSlots-none : (line : LaneLine) (n : ℕ) → n ≡ 0 → AcknowledgesSlots n line line
AcknowledgesSlots-none line n none = record { opened = refl; entered = refl; count = record { demanded = refl; allocated = refl; acknowledged = omega (arith, none); lost = refl } }

pub AcknowledgesSlots-then : (n m : ℕ) (x y z : LaneLine) → AcknowledgesSlots n x y → AcknowledgesSlots m y z → AcknowledgesSlots (n + m) x z
AcknowledgesSlots-then n m x y z one two = record {
  opened = two.opened ∙ one.opened;
  entered = two.entered ∙ one.entered;
  count = record {
    demanded = two.count.demanded ∙ one.count.demanded;
    allocated = two.count.allocated ∙ one.count.allocated;
    acknowledged = omega (arith, one.count.acknowledged, two.count.acknowledged);
    lost = two.count.lost ∙ one.count.lost;
  };
}

-- what is in flight falls by the slots that are decided
pub in_flight-lost : (n : ℕ) (x y : LaneLine) → LosesSlots n x y → in_flight y.count ≡ in_flight x.count - n
in_flight-lost n x y loses = omega (arith, loses.count.allocated, loses.count.acknowledged, loses.count.lost)

pub in_flight-shown : (n : ℕ) (x y : LaneLine) → AcknowledgesSlots n x y → in_flight y.count ≡ in_flight x.count - n
in_flight-shown n x y shows = omega (arith, shows.count.allocated, shows.count.acknowledged, shows.count.lost)

-- ---- slots to a destination

pub slots_to-append : (dst : ℕ) (xs ys : List Told) → slots_to dst (xs ++ ys) ≡ slots_to dst xs + slots_to dst ys
slots_to-append dst xs ys = sum_by-append (λ (slot : Told). cond {A = ℕ} (eqb slot.dst dst) 1 0) xs ys

pub slots_to-here : (slot : Told) → slots_to slot.dst (slot ∷ []) ≡ 1
slots_to-here slot = let one = cond-true {A = ℕ} (eqb slot.dst slot.dst) 1 0 (eq-eqb slot.dst slot.dst refl) in omega (arith, one)

pub slots_to-elsewhere : (dst : ℕ) (slot : Told) → dst ≢ slot.dst → slots_to dst (slot ∷ []) ≡ 0
slots_to-elsewhere dst slot other = let none = cond-false {A = ℕ} (eqb slot.dst dst) 1 0 (ne_eqb slot.dst dst (λ e. other (sym e))) in omega (arith, none)

-- the slots of a loop: those that it has gone over and the next one are some of all
pub slots_to-next : (dst : ℕ) (told : List Told) (at : ℕ) (slot : Told) → at < length told → slots_to dst (take (at + 1) told) ≡ slots_to dst (take at told) + slots_to dst (get_or told at slot ∷ [])
slots_to-next dst told at slot within = ap (λ n. slots_to dst (take n told)) (add-one at) ∙ (ap (slots_to dst) (take-suc told at slot within) ∙ slots_to-append dst (take at told) (get_or told at slot ∷ []))

pub slots_to-some : (dst : ℕ) (told : List Told) (at : ℕ) → slots_to dst (take at told) ≤ slots_to dst told
slots_to-some dst told at =
    let parts : slots_to dst told ≡ slots_to dst (take at told) + slots_to dst (drop at told) = ap (slots_to dst) (sym (take-append-drop at told)) ∙ slots_to-append dst (take at told) (drop at told) in
    omega (arith, parts)

-- the next slot of a loop is in flight, once so many of those before it were decided
pub still_in_flight : (relation : ℕ → LaneLine → LaneLine → Type 0) → ((n : ℕ) (x y : LaneLine) → relation n x y → in_flight y.count ≡ in_flight x.count - n) →
    (told : List Told) (at : ℕ) (slot : Told) (before lines : List LaneLine) → at < length told → AreInFlight (λ dst. slots_to dst told) before → Become (λ dst. relation (slots_to dst (take at told))) before lines →
    AreInFlight (λ dst. slots_to dst (get_or told at slot ∷ [])) lines
still_in_flight relation falls told at slot before lines within in_flight_before become dst line here =
    let there = line_between lines before (sym become.as_many) dst line here in
    let old = get_or before dst line in
    let fallen = falls (slots_to dst (take at told)) old line (become.each dst old line there here) in
    let all = in_flight_before dst old there in
    let next = slots_to-next dst told at slot within in
    let some = slots_to-some dst told (at + 1) in
    omega (arith, fallen, all, next, some)

-- ---- slots in numbers that are decided

pub slots_lost-append : (xs ys : List (Decided Telling)) (dst : ℕ) → slots_lost (xs ++ ys) dst ≡ slots_lost xs dst + slots_lost ys dst
slots_lost-append xs ys dst = sum_by-append (λ (number : Decided Telling). cond {A = ℕ} number.lost (slots_to dst number.content.told) 0) xs ys

pub slots_shown-append : (xs ys : List (Decided Telling)) (dst : ℕ) → slots_shown (xs ++ ys) dst ≡ slots_shown xs dst + slots_shown ys dst
slots_shown-append xs ys dst = sum_by-append (λ (number : Decided Telling). cond {A = ℕ} number.lost 0 (slots_to dst number.content.told)) xs ys

-- one number, which is lost or shown
pub record IsOneOf (number : Decided Telling) (dst more fewer : ℕ) : Type 0 where
  pub shown : slots_shown (number ∷ []) dst ≡ more
  pub lost : slots_lost (number ∷ []) dst ≡ fewer

pub one_lost : (number : Decided Telling) (dst : ℕ) → number.lost ≡ true → IsOneOf number dst 0 (slots_to dst number.content.told)
one_lost number dst is = record {
  shown = let h = cond-true {A = ℕ} number.lost 0 (slots_to dst number.content.told) is in omega (arith, h);
  lost = let h = cond-true {A = ℕ} number.lost (slots_to dst number.content.told) 0 is in omega (arith, h);
}

pub one_shown : (number : Decided Telling) (dst : ℕ) → number.lost ≡ false → IsOneOf number dst (slots_to dst number.content.told) 0
one_shown number dst is = record {
  shown = let h = cond-false {A = ℕ} number.lost 0 (slots_to dst number.content.told) is in omega (arith, h);
  lost = let h = cond-false {A = ℕ} number.lost (slots_to dst number.content.told) 0 is in omega (arith, h);
}

pub one_either : (number : Decided Telling) (dst : ℕ) → slots_shown (number ∷ []) dst + slots_lost (number ∷ []) dst ≡ slots_to dst number.content.told
one_either number dst =
    elim (cases_Bool number.lost) [
      | inl lost ↦ let one = one_lost number dst lost in let shown = one.shown in let lost = one.lost in omega (arith, shown, lost)
      | inr shown ↦ let one = one_shown number dst shown in let shown = one.shown in let lost = one.lost in omega (arith, shown, lost)
    ]

pub lost-next : (found : List (Decided Telling)) (at : ℕ) (number : Decided Telling) (dst : ℕ) → at < length found → slots_lost (take (at + 1) found) dst ≡ slots_lost (take at found) dst + slots_lost (get_or found at number ∷ []) dst
lost-next found at number dst within = ap (λ n. slots_lost (take n found) dst) (add-one at) ∙ (ap (λ xs. slots_lost xs dst) (take-suc found at number within) ∙ slots_lost-append (take at found) (get_or found at number ∷ []) dst)

pub shown-next : (found : List (Decided Telling)) (at : ℕ) (number : Decided Telling) (dst : ℕ) → at < length found → slots_shown (take (at + 1) found) dst ≡ slots_shown (take at found) dst + slots_shown (get_or found at number ∷ []) dst
shown-next found at number dst within = ap (λ n. slots_shown (take n found) dst) (add-one at) ∙ (ap (λ xs. slots_shown xs dst) (take-suc found at number within) ∙ slots_shown-append (take at found) (get_or found at number ∷ []) dst)

pub lost-some : (found : List (Decided Telling)) (at : ℕ) (dst : ℕ) → slots_lost (take at found) dst ≤ slots_lost found dst
lost-some found at dst =
    let parts : slots_lost found dst ≡ slots_lost (take at found) dst + slots_lost (drop at found) dst = ap (λ xs. slots_lost xs dst) (sym (take-append-drop at found)) ∙ slots_lost-append (take at found) (drop at found) dst in
    omega (arith, parts)

pub shown-some : (found : List (Decided Telling)) (at : ℕ) (dst : ℕ) → slots_shown (take at found) dst ≤ slots_shown found dst
shown-some found at dst =
    let parts : slots_shown found dst ≡ slots_shown (take at found) dst + slots_shown (drop at found) dst = ap (λ xs. slots_shown xs dst) (sym (take-append-drop at found)) ∙ slots_shown-append (take at found) (drop at found) dst in
    omega (arith, parts)

pub DecidesSlots-none : (line : LaneLine) → DecidesSlots 0 0 line line
DecidesSlots-none line = record { opened = refl; entered = refl; count = record { demanded = refl; allocated = refl; acknowledged = omega arith; lost = omega arith } }

pub DecidesSlots-then : (shown lost more fewer all_shown all_lost : ℕ) (x y z : LaneLine) → all_shown ≡ shown + more → all_lost ≡ lost + fewer → DecidesSlots shown lost x y → DecidesSlots more fewer y z → DecidesSlots all_shown all_lost x z
DecidesSlots-then shown lost more fewer all_shown all_lost x y z sum_shown sum_lost one two = record {
  opened = two.opened ∙ one.opened;
  entered = two.entered ∙ one.entered;
  count = record {
    demanded = two.count.demanded ∙ one.count.demanded;
    allocated = two.count.allocated ∙ one.count.allocated;
    acknowledged = omega (arith, one.count.acknowledged, two.count.acknowledged, sum_shown);
    lost = omega (arith, one.count.lost, two.count.lost, sum_lost);
  };
}

-- the slots of the next number are in flight, once those before it were decided
pub still_undecided : (found : List (Decided Telling)) (at : ℕ) (number : Decided Telling) (before lines : List LaneLine) → at < length found →
    AreInFlight (λ dst. slots_shown found dst + slots_lost found dst) before →
    Become (λ dst. DecidesSlots (slots_shown (take at found) dst) (slots_lost (take at found) dst)) before lines →
    AreInFlight (λ dst. slots_to dst (get_or found at number).content.told) lines
still_undecided found at number before lines within in_flight_before become dst line here =
    let there = line_between lines before (sym become.as_many) dst line here in
    let old = get_or before dst line in
    let changed = become.each dst old line there here in
    let all = in_flight_before dst old there in
    let next_lost = lost-next found at number dst within in
    let next_shown = shown-next found at number dst within in
    let some_lost = lost-some found (at + 1) dst in
    let some_shown = shown-some found (at + 1) dst in
    let either = one_either (get_or found at number) dst in
    omega (arith, changed.count.allocated, changed.count.acknowledged, changed.count.lost, all, next_lost, next_shown, some_lost, some_shown, either)

pub DecidesSlots-next : (found : List (Decided Telling)) (at : ℕ) (number : Decided Telling) (before lines after : List LaneLine) → at < length found →
    Become (λ dst. DecidesSlots (slots_shown (take at found) dst) (slots_lost (take at found) dst)) before lines →
    Become (λ dst. DecidesSlots (slots_shown (get_or found at number ∷ []) dst) (slots_lost (get_or found at number ∷ []) dst)) lines after →
    Become (λ dst. DecidesSlots (slots_shown (take (at + 1) found) dst) (slots_lost (take (at + 1) found) dst)) before after
DecidesSlots-next found at number before lines after within one two =
    Become-then (λ dst. DecidesSlots (slots_shown (take at found) dst) (slots_lost (take at found) dst))
    (λ dst. DecidesSlots (slots_shown (get_or found at number ∷ []) dst) (slots_lost (get_or found at number ∷ []) dst))
    (λ dst. DecidesSlots (slots_shown (take (at + 1) found) dst) (slots_lost (take (at + 1) found) dst)) before lines after one two
    (λ dst x y z first second.
    DecidesSlots-then (slots_shown (take at found) dst) (slots_lost (take at found) dst) (slots_shown (get_or found at number ∷ []) dst) (slots_lost (get_or found at number ∷ []) dst)
    (slots_shown (take (at + 1) found) dst) (slots_lost (take (at + 1) found) dst) x y z (shown-next found at number dst within) (lost-next found at number dst within) first second)

pub DecidesSlots-lost : (n shown lost : ℕ) (x y : LaneLine) → shown ≡ 0 → lost ≡ n → LosesSlots n x y → DecidesSlots shown lost x y
DecidesSlots-lost n shown lost x y none all loses = record {
  opened = loses.opened;
  entered = loses.entered;
  count = record {
    demanded = loses.count.demanded;
    allocated = loses.count.allocated;
    acknowledged = omega (arith, loses.count.acknowledged, none);
    lost = omega (arith, loses.count.lost, all);
  };
}

pub DecidesSlots-shown : (n shown lost : ℕ) (x y : LaneLine) → shown ≡ n → lost ≡ 0 → AcknowledgesSlots n x y → DecidesSlots shown lost x y
DecidesSlots-shown n shown lost x y all none shows = record {
  opened = shows.opened;
  entered = shows.entered;
  count = record {
    demanded = shows.count.demanded;
    allocated = shows.count.allocated;
    acknowledged = omega (arith, shows.count.acknowledged, all);
    lost = omega (arith, shows.count.lost, none);
  };
}

pub RisesTo-then : (first second : ℕ) (x y z : LaneLine) → RisesTo first x y → RisesTo second y z → RisesTo (max first second) x z
RisesTo-then first second x y z one two = record {
  opened = two.opened ∙ one.opened;
  entered = two.entered ∙ one.entered;
  count = record {
    demanded = omega (arith, one.count.demanded, two.count.demanded);
    allocated = two.count.allocated ∙ one.count.allocated;
    acknowledged = two.count.acknowledged ∙ one.count.acknowledged;
    lost = two.count.lost ∙ one.count.lost;
  };
}

-- ---- totals

pub total_named-append : (dst : ℕ) (xs ys : List Demand) → total_named dst (xs ++ ys) ≡ max (total_named dst xs) (total_named dst ys)
total_named-append dst [] ys = omega arith
total_named-append dst (demand ∷ xs) ys =
    let rest = total_named-append dst xs ys in
    elim (cases_Bool (eqb demand.dst dst)) [
      | inl same ↦ rw same (omega (arith, rest))
      | inr other ↦ rw other rest
    ]

pub total_named-next : (demands : List Demand) (at : ℕ) (demand : Demand) (dst : ℕ) → at < length demands →
    total_named dst (take (at + 1) demands) ≡ max (total_named dst (take at demands)) (total_named dst (get_or demands at demand ∷ []))
total_named-next demands at demand dst within = ap (λ n. total_named dst (take n demands)) (add-one at) ∙ (ap (total_named dst) (take-suc demands at demand within) ∙ total_named-append dst (take at demands) (get_or demands at demand ∷ []))

pub RisesTo-next : (demands : List Demand) (at : ℕ) (demand : Demand) (before lines after : List LaneLine) → at < length demands →
    Become (λ dst. RisesTo (total_named dst (take at demands))) before lines →
    Become (λ dst. RisesTo (total_named dst (get_or demands at demand ∷ []))) lines after →
    Become (λ dst. RisesTo (total_named dst (take (at + 1) demands))) before after
RisesTo-next demands at demand before lines after within one two =
    Become-then (λ dst. RisesTo (total_named dst (take at demands))) (λ dst. RisesTo (total_named dst (get_or demands at demand ∷ []))) (λ dst. RisesTo (total_named dst (take (at + 1) demands)))
    before lines after one two
    (λ dst x y z first second.
    subst (λ total. RisesTo total x z) (sym (total_named-next demands at demand dst within)) (RisesTo-then (total_named dst (take at demands)) (total_named dst (get_or demands at demand ∷ [])) x y z first second))

-- ---- answers

pub OnOk-from : {T F : Type 0} (P : Type 0) (r : Result T F) → P → OnOk r P
OnOk-from P (Ok value) p = p
OnOk-from P (Err error) p = tt

pub OnOk-then : {T F : Type 0} (P Q : Type 0) (r : Result T F) → OnOk r P → (P → Q) → OnOk r Q
OnOk-then P Q (Ok value) p then = then p
OnOk-then P Q (Err error) p then = tt

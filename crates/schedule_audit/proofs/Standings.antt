-- One record more.
use Rattle.std.proofs.Common.{◌≡◌, ◌<◌, ◌+◌, nat_lt, nat_le, ◌==◌, ◌&&◌, ◌||◌, not, ℕ, List, [], ◌∷◌, cond, Bool, true, false, Option, Some, None, is_some, refl, sym, ap, ◌∙◌, inl, inr, arith}
use Rattle.std.proofs.lemmas.Bool.{cases_Bool, cond-true, cond-false, or_from, or_parts, leb-false, or_right}
use Rattle.greedy_rules.specs.declared.flows.Flow.{Flow}
use Rattle.greedy_rules.specs.Flows.{same_flow}
use Rattle.greedy_rules.proofs.Facts.{same_flow-refl, same_flow-true}
use Rattle.greedy_rules.specs.Cells.{flow_of}
use Rattle.schedule_audit.specs.Lines.{Recorded, has_record}
use Rattle.schedule_audit.specs.Misplaced.{is_above, has_wrong_ends, says_nothing, clears_none, adds_too_much, added_since, is_bad_record, most_added}
use Rattle.schedule_audit.specs.Standing.{Sums, SumsStand, sum_of, last_record, is_above_last, sum_through, sum_with}

pub above-last : (earlier : List Recorded) (r : Recorded) → is_above_last (last_record earlier) r ≡ is_above earlier r
above-last [] r = refl
above-last (last ∷ earlier) r = refl

none-added : (flow : Flow) (rs : List Recorded) → has_record flow rs ≡ false → added_since flow rs ≡ 0
none-added flow [] none = refl
none-added flow (r ∷ rs) none =
    let parts = or_parts (same_flow r.flow flow) (has_record flow rs) none in
    cond-false (same_flow r.flow flow) (cond r.clear r.add (r.add + added_since flow rs)) (added_since flow rs) parts.0 ∙ none-added flow rs parts.1

sum-none : (earlier : List Recorded) (flow : Flow) → has_record flow earlier ≡ false → sum_through earlier flow ≡ None
sum-none earlier flow none = cond-false (has_record flow earlier) (Some (added_since flow earlier)) None none

sum-some : (earlier : List Recorded) (flow : Flow) → has_record flow earlier ≡ true → sum_through earlier flow ≡ Some (added_since flow earlier)
sum-some earlier flow some = cond-true (has_record flow earlier) (Some (added_since flow earlier)) None some

pub is_some-sum : (earlier : List Recorded) (flow : Flow) → is_some (sum_through earlier flow) ≡ has_record flow earlier
is_some-sum earlier flow = elim (cases_Bool (has_record flow earlier)) [
  | inl some ↦ ap (λ o. is_some o) (sum-some earlier flow some) ∙ sym some
  | inr none ↦ ap (λ o. is_some o) (sum-none earlier flow none) ∙ sym none
]

pub added-with : (earlier : List Recorded) (r : Recorded) → added_since r.flow (r ∷ earlier) ≡ sum_with (sum_through earlier r.flow) r
added-with earlier r =
    let own : added_since r.flow (r ∷ earlier) ≡ cond r.clear r.add (r.add + added_since r.flow earlier) =
    cond-true (same_flow r.flow r.flow) (cond r.clear r.add (r.add + added_since r.flow earlier)) (added_since r.flow earlier) (same_flow-refl r.flow) in
    elim (cases_Bool (has_record r.flow earlier)) [
      | inl some ↦ own ∙ sym (ap (λ o. sum_with o r) (sum-some earlier r.flow some))
      | inr none ↦ own ∙ (alone none ∙ sym (ap (λ o. sum_with o r) (sum-none earlier r.flow none)))
    ]
  where
    alone : has_record r.flow earlier ≡ false → cond r.clear r.add (r.add + added_since r.flow earlier) ≡ r.add
    alone none = elim (cases_Bool r.clear) [
      | inl clear ↦ cond-true r.clear r.add (r.add + added_since r.flow earlier) clear
      | inr adds ↦ cond-false r.clear r.add (r.add + added_since r.flow earlier) adds ∙ omega (arith, none-added r.flow earlier none)
    ]

pub sum-same : (earlier : List Recorded) (r : Recorded) (flow : Flow) → same_flow r.flow flow ≡ true → sum_through (r ∷ earlier) flow ≡ Some (sum_with (sum_through earlier r.flow) r)
sum-same earlier r flow same =
    let is : flow ≡ r.flow = sym (same_flow-true r.flow flow same) in
    let has : has_record r.flow (r ∷ earlier) ≡ true = ap (λ b. b || has_record r.flow earlier) (same_flow-refl r.flow) in
    ap (λ f. sum_through (r ∷ earlier) f) is ∙ (sum-some (r ∷ earlier) r.flow has ∙ ap (λ n. Some n) (added-with earlier r))

pub sum-other : (earlier : List Recorded) (r : Recorded) (flow : Flow) → same_flow r.flow flow ≡ false → sum_through (r ∷ earlier) flow ≡ sum_through earlier flow
sum-other earlier r flow other = rw other refl

-- ---- whether it is bad

last_two : (a b c d e : Bool) → (d || e) ≡ true → (a || (b || (c || (d || e)))) ≡ true
last_two true b c d e is = refl
last_two false true c d e is = refl
last_two false false true d e is = refl
last_two false false false d e is = is

pub bad-clear : (endpoints : ℕ) (earlier : List Recorded) (r : Recorded) → clears_none earlier r ≡ true → is_bad_record endpoints earlier r ≡ true
bad-clear endpoints earlier r is =
    last_two (not (is_above earlier r)) (has_wrong_ends endpoints r.flow) (says_nothing r) (clears_none earlier r) (adds_too_much earlier r) (ap (λ b. b || adds_too_much earlier r) is)

pub bad-sum : (endpoints : ℕ) (earlier : List Recorded) (r : Recorded) → adds_too_much earlier r ≡ true → is_bad_record endpoints earlier r ≡ true
bad-sum endpoints earlier r is =
    last_two (not (is_above earlier r)) (has_wrong_ends endpoints r.flow) (says_nothing r) (clears_none earlier r) (adds_too_much earlier r) (or_right (clears_none earlier r) (adds_too_much earlier r) is)

pub good-record : (endpoints : ℕ) (earlier : List Recorded) (r : Recorded) → is_above earlier r ≡ true → has_wrong_ends endpoints r.flow ≡ false → says_nothing r ≡ false → clears_none earlier r ≡ false
    → adds_too_much earlier r ≡ false → is_bad_record endpoints earlier r ≡ false
good-record endpoints earlier r above ends says clears adds =
    or_from (not (is_above earlier r)) (has_wrong_ends endpoints r.flow || (says_nothing r || (clears_none earlier r || adds_too_much earlier r))) (ap not above)
    (or_from (has_wrong_ends endpoints r.flow) (says_nothing r || (clears_none earlier r || adds_too_much earlier r)) ends
    (or_from (says_nothing r) (clears_none earlier r || adds_too_much earlier r) says (or_from (clears_none earlier r) (adds_too_much earlier r) clears adds)))

-- ---- what stands before it

pub below-ends : (endpoints : ℕ) (flow : Flow) → has_wrong_ends endpoints flow ≡ false → flow.dst < endpoints
below-ends endpoints flow right =
    let parts = or_parts (nat_le endpoints flow.src) (nat_le endpoints flow.dst || (flow.src == flow.dst)) right in
    let dst = or_parts (nat_le endpoints flow.dst) (flow.src == flow.dst) parts.1 in
    leb-false endpoints flow.dst dst.0

pub before-is : (last : Option Recorded) (sums : Sums) (earlier : List Recorded) (r : Recorded) (before : Option ℕ) → SumsStand last sums earlier → has_wrong_ends sums.endpoints r.flow ≡ false → before ≡ sum_of sums r.flow.src r.flow.dst
    → before ≡ sum_through earlier r.flow
before-is last sums earlier r before stands right is = is ∙ stands.each r.flow.src r.flow.dst (below-ends sums.endpoints r.flow right)

pub clears-none : (earlier : List Recorded) (r : Recorded) (before : Option ℕ) → before ≡ sum_through earlier r.flow → (r.clear && not (is_some before)) ≡ clears_none earlier r
clears-none earlier r before is = ap (λ b. r.clear && not b) (ap (λ o. is_some o) is ∙ is_some-sum earlier r.flow)

pub adds-too-much : (earlier : List Recorded) (r : Recorded) (before : Option ℕ) (sum : ℕ) → before ≡ sum_through earlier r.flow → sum ≡ sum_with before r → nat_lt most_added sum ≡ adds_too_much earlier r
adds-too-much earlier r before sum is summed = ap (λ n. nat_lt most_added n) (summed ∙ (ap (λ o. sum_with o r) is ∙ sym (added-with earlier r)))

pub stands-more : (last : Option Recorded) (sums new : Sums) (earlier : List Recorded) (r : Recorded) (before : Option ℕ) (sum : ℕ) → SumsStand last sums earlier → before ≡ sum_through earlier r.flow → sum ≡ sum_with before r
    → new.endpoints ≡ sums.endpoints
    → ((s d : ℕ) → d < sums.endpoints → sum_of new s d ≡ cond ((r.flow.src == s) && (r.flow.dst == d)) (Some sum) (sum_of sums s d)) → SumsStand (Some r) new (r ∷ earlier)
stands-more last sums new earlier r before sum stands is summed ends set = record { last_one = refl; each = each }
  where
    each : (src dst : ℕ) → dst < new.endpoints → sum_of new src dst ≡ sum_through (r ∷ earlier) (flow_of src dst)
    each src dst within =
        let flow = flow_of src dst in
        let below : dst < sums.endpoints = omega (arith, within, ends) in
        elim (cases_Bool (same_flow r.flow flow)) [
          | inl same ↦ set src dst below ∙ (cond-true (same_flow r.flow flow) (Some sum) (sum_of sums src dst) same ∙ (ap (λ n. Some n) (summed ∙ ap (λ o. sum_with o r) is) ∙ sym (sum-same earlier r flow same)))
          | inr other ↦ set src dst below ∙ (cond-false (same_flow r.flow flow) (Some sum) (sum_of sums src dst) other ∙ (stands.each src dst below ∙ sym (sum-other earlier r flow other)))
        ]

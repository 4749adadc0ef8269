-- A log of items with gaps: what is put back and appended.
use Rattle.std.proofs.Common.{◌≡◌, ◌≢◌, ◌<◌, ◌≤◌, ◌+◌, ◌-◌, ℕ, List, [], ◌∷◌, ◌++◌, length, take, drop, get_or, set, Bool, true, false, not, ◌||◌, ◌⊎◌, cond, All, refl, sym, ap, ◌∙◌, subst, arith, inl, inr}
use Rattle.std.proofs.lemmas.Bool.{cond-true, cond-false, cases_Bool, cases_eq, cases_lt, ne_eqb, or_right, both_ways, false_from_ne_true}
use Rattle.std.proofs.lemmas.Nat.{same_from_place}
use Rattle.std.proofs.lemmas.List.{append_assoc, drop-drop, take_at, take-append-drop, length-append, get_or-set_same, get_or-set_other, get_or_append_left, get_or-append_right, get_or_past}
use Rattle.std.proofs.lemmas.List.Elements.{All-nil, All-cons, All-head, All-tail, All-weaker, All-get_or, All-from_get_or, All-drop, filter-append, filter_passes}
use Rattle.list_facts.proofs.Lists.{filter_all, take_on, All-front, all_back}
use Rattle.list_facts.proofs.Pairs.{AllPairs-nil, AllPairs-head, AllPairs-tail, AllPairs-cons}
use Rattle.list_facts.specs.Bits.{names_place}
use Rattle.greedy_rules.specs.declared.flows.Item.{Item}
use Rattle.greedy_rules.specs.Demands.{HasEachFlowOnce, AreBelow}
use Rattle.greedy_rules.proofs.RoomLemmas.{same_ends}
use Rattle.slot_batches.specs.Woven.{picked, stays, weave, places_from}
use Rattle.window_allocation.specs.Needs.{place_of}
use Rattle.window_allocation.specs.Picked.{staying}
use Rattle.window_allocation.specs.Logged.{gap, is_gap, is_left, is_passed, standing, item_at, items_at, ArePlaced, IsPlaced, AreNew, IsLog}
use Rattle.slot_batches.proofs.WeaveLemmas.{is_set_aside}
use Rattle.window_allocation.proofs.Down.{further}
use Rattle.window_allocation.proofs.LogLemmas.{nothing_picked, each_standing}
use Rattle.window_allocation.proofs.Places.{IsStep, next_step, last_step, place_within}

abbrev pub stands : Item → Bool
stands item = not (is_gap item)

abbrev pub Other : Item → Item → Type 0
Other i j = i.flow ≢ j.flow

pub standing_once : (items : List Item) → standing (standing items) ≡ standing items
standing_once items = filter_all stands (standing items) (filter_passes stands items)

-- ---- what is put back

-- lists that are alike from a place on are so from every later one

-- so much is put back: up to a place the log is woven, and behind it stands what stood there
pub record IsPutBack (aside : Item → Bool) (i : ℕ) (places : List ℕ) (old now : List Item) (at : ℕ) (rest : List Item) : Type 0 where
  pub from : ℕ
  pub inside : from ≤ length old
  pub left : drop i places ≡ places_from aside from (drop from old)
  pub behind : drop from now ≡ drop from old
  pub woven : standing (take from now ++ weave aside (drop from old) (drop at rest)) ≡ standing (weave aside old rest)

pub put_begins : (aside : Item → Bool) (places : List ℕ) (old rest : List Item) → places ≡ places_from aside 0 old → IsPutBack aside 0 places old old 0 rest
put_begins aside places old rest are = record { from = 0; inside = omega arith; left = are; behind = refl; woven = refl }

pub next_put : (aside : Item → Bool) (i : ℕ) (places : List ℕ) (old now : List Item) (at : ℕ) (rest : List Item) → i < length places → (put : IsPutBack aside i places old now at rest)
    → IsStep aside 0 put.from i (get_or places i 0) places old (drop at rest)
next_put aside i places old now at rest more put =
    let here : put.from ≡ 0 + put.from = omega arith in
    let step = next_step aside 0 put.from i places old (drop at rest) put.inside more (put.left ∙ ap (λ (n : ℕ). places_from aside n (drop put.from old)) here) in
    let there : get_or places i 0 - 0 ≡ get_or places i 0 = omega arith in
    subst (λ (n : ℕ). IsStep aside 0 put.from i n places old (drop at rest)) there step.1

pub put_more : (aside : Item → Bool) (i : ℕ) (places : List ℕ) (old now new : List Item) (at kept : ℕ) (rest : List Item) → i < length places → length now ≡ length old
    → kept ≡ length (staying (drop (get_or places i 0) now) (drop at rest))
    → standing (take (get_or places i 0 + 1) new) ≡ standing (take (get_or places i 0) now) ++ standing (staying (drop (get_or places i 0) now) (drop at rest))
    → drop (get_or places i 0 + 1) new ≡ drop (get_or places i 0 + 1) now
    → IsPutBack aside i places old now at rest → IsPutBack aside (i + 1) places old new (at + kept) rest
put_more aside i places old now new at kept rest more size count front behind put =
    let to : ℕ = get_or places i 0 in
    let from : ℕ = put.from in
    let step = next_put aside i places old now at rest more put in
    let left : List Item = drop at rest in
    let run : List Item = take (to - from) (drop from old) in
    let stays : List Item = staying (drop to now) left in
    let stayed : List Item = staying (drop to old) left in
    let same : stays ≡ stayed = ap (λ (xs : List Item). staying xs left) (further now old from to step.above put.behind) in
    let then : List Item = weave aside (drop (to + 1) old) (drop (length stayed) left) in
    let next : drop (at + kept) rest ≡ drop (length stayed) left = ap (λ (k : ℕ). drop (at + k) rest) (count ∙ ap length same) ∙ sym (drop-drop (length stayed) at rest) in
    let part : from + (to - from) ≡ to = omega (arith, step.above) in
    let before : take to now ≡ take from now ++ run =
    ap (λ (k : ℕ). take k now) (sym part) ∙ (take_on from (to - from) now ∙ ap (λ (xs : List Item). take from now ++ take (to - from) xs) put.behind) in
    let parts : standing (take from now ++ ((run ++ stayed) ++ then)) ≡ ((standing (take from now) ++ standing run) ++ standing stayed) ++ standing then =
    filter-append stands (take from now) ((run ++ stayed) ++ then)
    ∙ (ap (λ (xs : List Item). standing (take from now) ++ xs) (filter-append stands (run ++ stayed) then ∙ ap (λ (xs : List Item). xs ++ standing then) (filter-append stands run stayed))
    ∙ (sym (append_assoc (standing (take from now)) (standing run ++ standing stayed) (standing then))
    ∙ ap (λ (xs : List Item). xs ++ standing then) (sym (append_assoc (standing (take from now)) (standing run) (standing stayed))))) in
    let up_to : standing (take (to + 1) new) ≡ (standing (take from now) ++ standing run) ++ standing stayed =
    front
    ∙ (ap (λ (xs : List Item). standing xs ++ standing stays) before
    ∙ (ap (λ (xs : List Item). xs ++ standing stays) (filter-append stands (take from now) run) ∙ ap (λ (xs : List Item). (standing (take from now) ++ standing run) ++ standing xs) same)) in
    record {
      from = to + 1;
      inside = omega (arith, step.within);
      left = step.left ∙ ap (λ (k : ℕ). places_from aside k (drop (to + 1) old)) (omega arith);
      behind = behind ∙ further now old from (to + 1) (omega (arith, step.above)) put.behind;
      woven = ap (λ (xs : List Item). standing (take (to + 1) new ++ weave aside (drop (to + 1) old) xs)) next
          ∙ (filter-append stands (take (to + 1) new) then
          ∙ (ap (λ (xs : List Item). xs ++ standing then) up_to
          ∙ (sym parts ∙ (ap (λ (xs : List Item). standing (take from now ++ xs)) (sym step.woven) ∙ put.woven))));
    }

pub put_ends : (aside : Item → Bool) (i : ℕ) (places : List ℕ) (old now : List Item) (at : ℕ) (rest : List Item) → length places ≤ i → IsPutBack aside i places old now at rest
    → standing (now ++ drop at rest) ≡ standing (weave aside old rest)
put_ends aside i places old now at rest ended put =
    let from : ℕ = put.from in
    let here : from ≡ 0 + from = omega arith in
    let end = last_step aside 0 from i places old (drop at rest) ended (put.left ∙ ap (λ (n : ℕ). places_from aside n (drop from old)) here) in
    ap (λ (xs : List Item). standing (xs ++ drop at rest)) (sym (take-append-drop from now))
    ∙ (ap standing (append_assoc (take from now) (drop from now) (drop at rest))
    ∙ (ap (λ (xs : List Item). standing (take from now ++ (xs ++ drop at rest))) put.behind ∙ (ap (λ (xs : List Item). standing (take from now ++ xs)) (sym end) ∙ put.woven)))

-- ---- what is appended

pub first_is_new : (items : List Item) (item : Item) (later : List Item) → AreNew items (item ∷ later) → AreNew items (item ∷ [])
first_is_new items item later new place there =
    let Differs : Item → Type 0 = λ x. x.flow ≢ (item_at items place).flow in
    All-cons Differs item [] (All-head Differs item later (new place there)) (All-nil Differs)

last_item : (items : List Item) (item : Item) → item_at (items ++ item ∷ []) (length items) ≡ item
last_item items item =
    let none : length items - length items ≡ 0 = omega arith in
    get_or-append_right items (item ∷ []) (length items) (length items) gap refl (omega arith) ∙ ap (item_at (item ∷ [])) none

pub others_are_new : (items : List Item) (item : Item) (later : List Item) → HasEachFlowOnce (item ∷ later) → AreNew items (item ∷ later) → AreNew (items ++ item ∷ []) later
others_are_new items item later once new place there = elim (cases_lt place (length items)) [
  | inl below ↦
      let same : item_at (items ++ item ∷ []) place ≡ item_at items place = get_or_append_left items (item ∷ []) gap place below in
      let Differs : Item → Type 0 = λ x. x.flow ≢ (item_at items place).flow in
      subst (λ (y : Item). All (λ x. x.flow ≢ y.flow) later) (sym same) (All-tail Differs item later (new place (ap is_gap (sym same) ∙ there)))
  | inr above ↦ elim (cases_eq place (length items)) [
    | inl at_end ↦
        let same : item_at (items ++ item ∷ []) place ≡ item = ap (item_at (items ++ item ∷ [])) at_end ∙ last_item items item in
        subst (λ (y : Item). All (λ x. x.flow ≢ y.flow) later) (sym same)
        (All-from_get_or (λ x. x.flow ≢ item.flow) later gap (λ i inside e. All-get_or (Other item) later i gap inside (AllPairs-head Other item later once) (sym e)))
    | inr past ↦
        let none : item_at (items ++ item ∷ []) place ≡ gap = get_or_past (items ++ item ∷ []) place gap (omega (arith, above, past, length-append items (item ∷ []))) in
        absurd (both_ways (is_gap (item_at (items ++ item ∷ []) place)) there (ap is_gap none))
  ]
]

-- the table says where each stands, once it does so of the one behind
pub placed_behind : (endpoints : ℕ) (table : List ℕ) (items : List Item) (item : Item) (at n : ℕ) → item.flow.src < endpoints → item.flow.dst < endpoints → AreNew items (item ∷ [])
    → at ≡ place_of endpoints item.flow.src item.flow.dst → at < length table → n ≡ length items → ArePlaced endpoints table items → ArePlaced endpoints (set table at n) (items ++ item ∷ [])
placed_behind endpoints table items item at n src dst new at_is inside n_is placed place there = elim (cases_lt place (length items)) [
  | inl below ↦
      let other : Item = item_at items place in
      let same : item_at (items ++ item ∷ []) place ≡ other = get_or_append_left items (item ∷ []) gap place below in
      let stood : is_gap other ≡ false = ap is_gap (sym same) ∙ there in
      let was = placed place stood in
      let differs : item.flow ≢ other.flow = All-head (λ x. x.flow ≢ other.flow) item [] (new place stood) in
      let apart : place_of endpoints other.flow.src other.flow.dst ≢ at = λ e.
      let one = same_from_place item.flow.src item.flow.dst other.flow.src other.flow.dst endpoints dst was.dst (sym (e ∙ at_is)) in
      differs (same_ends item.flow other.flow one.0 one.1) in
      subst (λ (x : Item). IsPlaced endpoints (set table at n) x.flow place) (sym same)
      (record { src = was.src; dst = was.dst; there = get_or-set_other table at (place_of endpoints other.flow.src other.flow.dst) n 0 apart ∙ was.there })
  | inr above ↦ elim (cases_eq place (length items)) [
    | inl at_end ↦
        let same : item_at (items ++ item ∷ []) place ≡ item = ap (item_at (items ++ item ∷ [])) at_end ∙ last_item items item in
        subst (λ (x : Item). IsPlaced endpoints (set table at n) x.flow place) (sym same)
        (record { src = src; dst = dst; there = ap (λ (k : ℕ). get_or (set table at n) k 0) (sym at_is) ∙ (get_or-set_same table at n 0 inside ∙ (n_is ∙ sym at_end)) })
    | inr past ↦
        let none : item_at (items ++ item ∷ []) place ≡ gap = get_or_past (items ++ item ∷ []) place gap (omega (arith, above, past, length-append items (item ∷ []))) in
        absurd (both_ways (is_gap (item_at (items ++ item ∷ []) place)) there (ap is_gap none))
  ]
]

-- ---- what is woven

-- an item that is picked stays as the first of the rest, or is gone
chosen_next : (aside : Item → Bool) (x : Item) (list rest : List Item) → aside x ≡ false
    → (weave aside (x ∷ list) rest ≡ weave aside list rest) ⊎ ((n : Item) × (ns : List Item) × (rest ≡ n ∷ ns) × (stays x n ≡ true) × (weave aside (x ∷ list) rest ≡ n ∷ weave aside list ns))
chosen_next aside x list [] out = inl (cond-false (aside x) (x ∷ weave aside list []) (weave aside list []) out)
chosen_next aside x list (n ∷ ns) out =
    let kept : List Item = n ∷ weave aside list ns in
    let gone : List Item = weave aside list (n ∷ ns) in
    let next : weave aside (x ∷ list) (n ∷ ns) ≡ cond (stays x n) kept gone = cond-false (aside x) (x ∷ gone) (cond (stays x n) kept gone) out in
    elim (cases_Bool (stays x n)) [
      | inl is ↦ inr (n, ns, refl, is, next ∙ cond-true (stays x n) kept gone is)
      | inr not_it ↦ inl (next ∙ cond-false (stays x n) kept gone not_it)
    ]

pub woven_length : (aside : Item → Bool) (list rest : List Item) → length (weave aside list rest) + length (picked aside list) ≡ length list + length rest
woven_length aside [] rest = omega arith
woven_length aside (x ∷ list) rest =
    let left : List Item = picked aside list in
    elim (cases_Bool (aside x)) [
      | inl is ↦ omega (arith, ap length (is_set_aside aside x list rest is), ap length (cond-false (not (aside x)) (x ∷ left) left (ap not is)), woven_length aside list rest)
      | inr out ↦
          let one : length (picked aside (x ∷ list)) ≡ length left + 1 = ap length (cond-true (not (aside x)) (x ∷ left) left (ap not out)) ∙ omega arith in
          elim (chosen_next aside x list rest out) [
            | inl gone ↦ omega (arith, ap length gone, one, woven_length aside list rest)
            | inr kept ↦ omega (arith, ap length kept.4, ap length kept.2, one, woven_length aside list kept.1)
          ]
    ]

pub all_woven : (P : Item → Type 0) (aside : Item → Bool) (list rest : List Item) → All P list → All P rest → All P (weave aside list rest)
all_woven P aside [] rest all all_rest = all_rest
all_woven P aside (x ∷ list) rest all all_rest =
    let more : (ys : List Item) → All P ys → All P (weave aside list ys) = λ ys. all_woven P aside list ys (All-tail P x list all) in
    elim (cases_Bool (aside x)) [
      | inl is ↦ subst (All P) (sym (is_set_aside aside x list rest is)) (All-cons P x (weave aside list rest) (All-head P x list all) (more rest all_rest))
      | inr out ↦ elim (chosen_next aside x list rest out) [
        | inl gone ↦ subst (All P) (sym gone) (more rest all_rest)
        | inr kept ↦
            let parts : All P (kept.0 ∷ kept.1) = subst (All P) kept.2 all_rest in
            subst (All P) (sym kept.4) (All-cons P kept.0 (weave aside list kept.1) (All-head P kept.0 kept.1 parts) (more kept.1 (All-tail P kept.0 kept.1 parts)))
      ]
    ]

pub all_of_rest : (P : Item → Type 0) (aside : Item → Bool) (list rest : List Item) → All P (weave aside list rest) → All P rest
all_of_rest P aside [] rest all = all
all_of_rest P aside (x ∷ list) rest all = elim (cases_Bool (aside x)) [
  | inl is ↦ all_of_rest P aside list rest (All-tail P x (weave aside list rest) (subst (All P) (is_set_aside aside x list rest is) all))
  | inr out ↦ elim (chosen_next aside x list rest out) [
    | inl gone ↦ all_of_rest P aside list rest (subst (All P) gone all)
    | inr kept ↦
        let parts : All P (kept.0 ∷ weave aside list kept.1) = subst (All P) kept.4 all in
        subst (All P) (sym kept.2) (All-cons P kept.0 kept.1 (All-head P kept.0 (weave aside list kept.1) parts) (all_of_rest P aside list kept.1 (All-tail P kept.0 (weave aside list kept.1) parts)))
  ]
]

pub weave_agrees : (a b : Item → Bool) (list rest : List Item) → All (λ x. a x ≡ b x) list → weave a list rest ≡ weave b list rest
weave_agrees a b [] rest same = refl
weave_agrees a b (x ∷ list) [] same =
    let Same : Item → Type 0 = λ y. a y ≡ b y in
    let more = weave_agrees a b list [] (All-tail Same x list same) in
    ap (λ (c : Bool). cond c (x ∷ weave a list []) (weave a list [])) (All-head Same x list same) ∙ ap (λ (ys : List Item). cond (b x) (x ∷ ys) ys) more
weave_agrees a b (x ∷ list) (n ∷ ns) same =
    let Same : Item → Type 0 = λ y. a y ≡ b y in
    let others = All-tail Same x list same in
    let more = weave_agrees a b list (n ∷ ns) others in
    ap (λ (c : Bool). cond c (x ∷ weave a list (n ∷ ns)) (cond (stays x n) (n ∷ weave a list ns) (weave a list (n ∷ ns)))) (All-head Same x list same)
    ∙ (ap (λ (ys : List Item). cond (b x) (x ∷ ys) (cond (stays x n) (n ∷ weave a list ns) ys)) more
    ∙ ap (λ (ys : List Item). cond (b x) (x ∷ weave b list (n ∷ ns)) (cond (stays x n) (n ∷ ys) (weave b list (n ∷ ns)))) (weave_agrees a b list ns others))

pub all_stand : (items : List Item) → All (λ x. is_gap x ≡ false) items → standing items ≡ items
all_stand items all = filter_all stands items (All-weaker (λ x. is_gap x ≡ false) (λ x. stands x ≡ true) (λ x there. ap not there) items all)

-- the gaps change nothing
pub standing_woven : (chosen items rest : List Item) → All (λ x. is_gap x ≡ false) rest → standing (weave (is_passed chosen) items rest) ≡ weave (is_left chosen) (standing items) rest
standing_woven chosen [] rest all = all_stand rest all
standing_woven chosen (x ∷ items) rest all =
    let passed : Item → Bool = is_passed chosen in
    let left : Item → Bool = is_left chosen in
    let list : List Item = standing items in
    let then : List Item = weave passed items rest in
    let now : List Item → List Item = λ xs. weave left xs rest in
    elim (cases_Bool (is_gap x)) [
      | inl is ↦
          ap standing (is_set_aside passed x items rest (ap (λ (b : Bool). b || left x) is))
          ∙ (cond-false (stands x) (x ∷ standing then) (standing then) (ap not is) ∙ (standing_woven chosen items rest all ∙ ap now (sym (cond-false (stands x) (x ∷ list) list (ap not is)))))
      | inr there ↦
          let here : standing (x ∷ items) ≡ x ∷ list = cond-true (stands x) (x ∷ list) list (ap not there) in
          elim (cases_Bool (left x)) [
            | inl is ↦
                ap standing (is_set_aside passed x items rest (or_right (is_gap x) (left x) is))
                ∙ (cond-true (stands x) (x ∷ standing then) (standing then) (ap not there)
                ∙ (ap (λ (xs : List Item). x ∷ xs) (standing_woven chosen items rest all) ∙ (sym (is_set_aside left x list rest is) ∙ ap now (sym here))))
            | inr out ↦ chosen_woven x items rest all (ap (λ (b : Bool). b || left x) there ∙ out) out (λ ys ys_all. standing_woven chosen items ys ys_all) ∙ ap now (sym here)
          ]
    ]
  where
    chosen_woven : (x : Item) (items rest : List Item) → All (λ y. is_gap y ≡ false) rest → is_passed chosen x ≡ false → is_left chosen x ≡ false
        → ((ys : List Item) → All (λ y. is_gap y ≡ false) ys → standing (weave (is_passed chosen) items ys) ≡ weave (is_left chosen) (standing items) ys)
        → standing (weave (is_passed chosen) (x ∷ items) rest) ≡ weave (is_left chosen) (x ∷ standing items) rest
    chosen_woven x items [] all passes out more =
        let then : List Item = weave (is_passed chosen) items [] in
        let now : List Item = weave (is_left chosen) (standing items) [] in
        ap standing (cond-false (is_passed chosen x) (x ∷ then) then passes) ∙ (more [] all ∙ sym (cond-false (is_left chosen x) (x ∷ now) now out))
    chosen_woven x items (n ∷ ns) all passes out more =
        let Stands : Item → Type 0 = λ y. is_gap y ≡ false in
        let gone : List Item = weave (is_passed chosen) items (n ∷ ns) in
        let kept : List Item = weave (is_passed chosen) items ns in
        let gone_now : List Item = weave (is_left chosen) (standing items) (n ∷ ns) in
        let kept_now : List Item = weave (is_left chosen) (standing items) ns in
        let first : weave (is_passed chosen) (x ∷ items) (n ∷ ns) ≡ cond (stays x n) (n ∷ kept) gone = cond-false (is_passed chosen x) (x ∷ gone) (cond (stays x n) (n ∷ kept) gone) passes in
        let second : weave (is_left chosen) (x ∷ standing items) (n ∷ ns) ≡ cond (stays x n) (n ∷ kept_now) gone_now = cond-false (is_left chosen x) (x ∷ gone_now) (cond (stays x n) (n ∷ kept_now) gone_now) out in
        elim (cases_Bool (stays x n)) [
          | inl is ↦
              ap standing (first ∙ cond-true (stays x n) (n ∷ kept) gone is)
              ∙ (cond-true (stands n) (n ∷ standing kept) (standing kept) (ap not (All-head Stands n ns all))
              ∙ (ap (λ (xs : List Item). n ∷ xs) (more ns (All-tail Stands n ns all)) ∙ sym (second ∙ cond-true (stays x n) (n ∷ kept_now) gone_now is)))
          | inr not_it ↦ ap standing (first ∙ cond-false (stays x n) (n ∷ kept) gone not_it) ∙ (more (n ∷ ns) all ∙ sym (second ∙ cond-false (stays x n) (n ∷ kept_now) gone_now not_it))
        ]

-- ---- the parts of a log

pub below_stand : (endpoints : ℕ) (items : List Item) → endpoints ≤ 256 → AreBelow endpoints items → All (λ x. is_gap x ≡ false) items
below_stand endpoints items few below =
    All-weaker (λ x. (x.flow.src < endpoints) × (x.flow.dst < endpoints)) (λ x. is_gap x ≡ false) (λ x within. ne_eqb x.flow.src 65535 (λ e. omega (arith, e, within.0, few))) items below

-- what a vector has once a slice of all of it is written
pub written : {X : Type 0} (new old : List X) (n : ℕ) → length new ≡ n → take n (new ++ drop (length new) old) ≡ new
written new old n long = take_at new (drop (length new) old) n long

pub no_places : (items : List Item) (places : List ℕ) → places ≡ [] → places ≡ places_from (is_passed (items_at items places)) 0 items
no_places items places none = subst (λ (ps : List ℕ). ps ≡ places_from (is_passed (items_at items ps)) 0 items) (sym none) (nothing_picked items)

-- so much is known once what stays was put back, and `behind` comes behind it
pub record IsWoven (endpoints : ℕ) (chosen old now behind rest : List Item) : Type 0 where
  pub parts : standing now ++ behind ≡ weave (is_left chosen) (standing old) rest
  pub apart : All (λ x. All (Other x) behind) (standing now)
  pub once : HasEachFlowOnce (standing now)
  pub once_behind : HasEachFlowOnce behind
  pub below : AreBelow endpoints (standing now)
  pub below_behind : AreBelow endpoints behind
  pub stands_behind : standing behind ≡ behind

pub new_behind : (items behind : List Item) → All (λ x. All (Other x) behind) (standing items) → AreNew items behind
new_behind items behind apart place there =
    All-weaker (λ x. (item_at items place).flow ≢ x.flow) (λ x. x.flow ≢ (item_at items place).flow) (λ x other e. other (sym e)) behind (each_standing (λ z. All (Other z) behind) items apart place there)

pub once_parts : (xs ys : List Item) → HasEachFlowOnce (xs ++ ys) → HasEachFlowOnce xs × HasEachFlowOnce ys × All (λ x. All (Other x) ys) xs
once_parts [] ys once = (AllPairs-nil Other, once, All-nil (λ x. All (Other x) ys))
once_parts (x ∷ xs) ys once =
    let more = once_parts xs ys (AllPairs-tail Other x (xs ++ ys) once) in
    let others = AllPairs-head Other x (xs ++ ys) once in (
      AllPairs-cons Other x xs (All-front (Other x) xs ys others) more.0,
      more.1,
      All-cons (λ z. All (Other z) ys) x xs (all_back (Other x) xs ys others) more.2,
    )

pub is_woven : (endpoints : ℕ) (chosen old now rest : List Item) (at : ℕ) → endpoints ≤ 256 → HasEachFlowOnce (weave (is_left chosen) (standing old) rest) → AreBelow endpoints (weave (is_left chosen) (standing old) rest)
    → standing (now ++ drop at rest) ≡ standing (weave (is_passed chosen) old rest) → IsWoven endpoints chosen old now (drop at rest) rest
is_woven endpoints chosen old now rest at few once below put =
    let behind : List Item = drop at rest in
    let Below : Item → Type 0 = λ x. (x.flow.src < endpoints) × (x.flow.dst < endpoints) in
    let all : All (λ x. is_gap x ≡ false) rest = below_stand endpoints rest few (all_of_rest Below (is_left chosen) (standing old) rest below) in
    let stand : standing behind ≡ behind = all_stand behind (All-drop (λ x. is_gap x ≡ false) at rest all) in
    let parts : standing now ++ behind ≡ weave (is_left chosen) (standing old) rest =
    ap (λ (xs : List Item). standing now ++ xs) (sym stand) ∙ (sym (filter-append stands now behind) ∙ (put ∙ standing_woven chosen old rest all)) in
    let apart = once_parts (standing now) behind (subst HasEachFlowOnce (sym parts) once) in
    let both : AreBelow endpoints (standing now ++ behind) = subst (AreBelow endpoints) (sym parts) below in
    record {
      parts = parts;
      apart = apart.2;
      once = apart.0;
      once_behind = apart.1;
      below = All-front Below (standing now) behind both;
      below_behind = all_back Below (standing now) behind both;
      stands_behind = stand;
    }

-- a log of which more places have their bits, and others are picked
pub with_bits : (endpoints count : ℕ) (items : List Item) (table busy places words then : List ℕ) → IsLog endpoints count items table busy places → length words ≡ length busy
    → ((place : ℕ) → names_place busy place ≡ true → names_place words place ≡ true) → then ≡ places_from (is_passed (items_at items then)) 0 items → IsLog endpoints count items table words then
with_bits endpoints count items table busy places words then log same more picked = record {
  few = log.few;
  long = log.long;
  words = same ∙ log.words;
  room = log.room;
  number = log.number;
  placed = log.placed;
  bits = λ place silent. log.bits place (false_from_ne_true (names_place busy place) (λ had. both_ways (names_place words place) silent (more place had)));
  picked = picked;
}

pub places_within : (items : List Item) (places : List ℕ) → places ≡ places_from (is_passed (items_at items places)) 0 items → All (λ place. place < length items) places
places_within items places are = All-from_get_or (λ place. place < length items) places 0 (λ i more. place_within (is_passed (items_at items places)) items places i are more)

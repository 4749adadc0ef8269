-- Tables of slots by flow, and the flows that are marked in them.
use Rattle.std.proofs.Common.{◌≡◌, ◌≢◌, ◌∷◌, [], ◌++◌, sum_by, ℕ, ◌+◌, ◌*◌, ◌/◌, ◌%◌, ◌<◌, ◌≤◌, ◌==◌, ◌&&◌, ◌||◌, ◌⊎◌, List, length, get_or, set, Bool, true, false, not, cond, nat_lt, inl, inr, refl, sym, ap, subst, ◌∙◌, arith}
use Rattle.std.proofs.lemmas.Bool.{cases_eq, cases_lt}
use Rattle.std.proofs.lemmas.Bool.Decides.{nat_tests}
use Rattle.std.proofs.lemmas.List.{get_or-set_same, get_or-set_other, set-get_or}
use Rattle.std.proofs.lemmas.List.Sums.{sum_by_push}
use Rattle.std.proofs.Math.Bool.{or-false, and-true, or-true, and-false}
use Rattle.line_marks.specs.Places.{Places, is_marked}
use Rattle.trace_text.specs.Asks.{slots_asked, IsAmong}
use Rattle.trace_text.specs.FlowSums.{flow_number, slots_for_round, unmarked}
use Rattle.trace_text.specs.declared.ask.Ask.{Ask}

-- each flow is marked where it has slots
abbrev pub AreMarked : List ℕ → List Places → Type 0
AreMarked slots rows = (flow : ℕ) → flow < 65536 → is_marked (get_or rows (flow / 256) unmarked) (flow % 256) ≡ nat_lt 0 (get_or slots flow 0)

abbrev pub AreAsking : List ℕ → Places → Type 0
AreAsking slots sources = (flow : ℕ) → flow < 65536 → 0 < get_or slots flow 0 → is_marked sources (flow / 256) ≡ true

-- a flow has other slots, and is marked so
pub marked-set : (slots : List ℕ) (rows : List Places) (at number : ℕ) (row : Places) → length slots ≡ 65536 → length rows ≡ 256 → at < 65536 → AreMarked slots rows
    → ((dst : ℕ) → dst ≢ at % 256 → is_marked row dst ≡ is_marked (get_or rows (at / 256) unmarked) dst) → is_marked row (at % 256) ≡ nat_lt 0 number
    → AreMarked (set slots at number) (set rows (at / 256) row)
marked-set slots rows at number row long many within marked others here flow low = elim (cases_eq flow at) [
  | inl same ↦
      subst (λ k. is_marked (get_or (set rows (at / 256) row) (k / 256) unmarked) (k % 256) ≡ nat_lt 0 (get_or (set slots at number) k 0)) (sym same)
      (ap (λ (r : Places). is_marked r (at % 256)) (get_or-set_same rows (at / 256) row unmarked (omega arith))
      ∙ here
      ∙ sym (ap (λ (n : ℕ). nat_lt 0 n) (get_or-set_same slots at number 0 (omega arith))))
  | inr apart ↦
      by (cases_eq (flow / 256) (at / 256)) apart
      ∙ marked flow low
      ∙ sym (ap (λ (n : ℕ). nat_lt 0 n) (get_or-set_other slots at flow number 0 apart))
]
  where
    by : (flow / 256 ≡ at / 256) ⊎ (flow / 256 ≢ at / 256) → flow ≢ at
        → is_marked (get_or (set rows (at / 256) row) (flow / 256) unmarked) (flow % 256) ≡ is_marked (get_or rows (flow / 256) unmarked) (flow % 256)
    by (inl beside) apart =
        subst (λ k. is_marked (get_or (set rows (at / 256) row) k unmarked) (flow % 256) ≡ is_marked (get_or rows k unmarked) (flow % 256)) (sym beside)
        (ap (λ (r : Places). is_marked r (flow % 256)) (get_or-set_same rows (at / 256) row unmarked (omega arith)) ∙ others (flow % 256) (λ e. apart (omega (arith, e, beside))))
    by (inr away) apart = ap (λ (r : Places). is_marked r (flow % 256)) (get_or-set_other rows (at / 256) (flow / 256) row unmarked away)

pub asking-set : (slots : List ℕ) (sources after : Places) (at number : ℕ) → length slots ≡ 65536 → at < 65536 → AreAsking slots sources
    → ((src : ℕ) → is_marked sources src ≡ true → is_marked after src ≡ true) → (0 < number → is_marked after (at / 256) ≡ true)
    → AreAsking (set slots at number) after
asking-set slots sources after at number long within asking more here flow low = elim (cases_eq flow at) [
  | inl same ↦
      subst (λ k. 0 < get_or (set slots at number) k 0 → is_marked after (k / 256) ≡ true) (sym same)
      (λ some. here (subst (λ n. 0 < n) (get_or-set_same slots at number 0 (omega arith)) some))
  | inr apart ↦ λ some. more (flow / 256) (asking flow low (subst (λ n. 0 < n) (get_or-set_other slots at flow number 0 apart) some))
]

pub above-none : (n : ℕ) → 0 < n → nat_lt 0 n ≡ true
above-none n some = grind (arith, nat_tests)

-- a flow that has slots has others
pub marked-more : (slots : List ℕ) (rows : List Places) (at number : ℕ) → length slots ≡ 65536 → at < 65536 → 0 < get_or slots at 0 → 0 < number → AreMarked slots rows → AreMarked (set slots at number) rows
marked-more slots rows at number long within some more marked flow low = elim (cases_eq flow at) [
  | inl same ↦
      subst (λ k. is_marked (get_or rows (k / 256) unmarked) (k % 256) ≡ nat_lt 0 (get_or (set slots at number) k 0)) (sym same)
      (marked at within ∙ above-none (get_or slots at 0) some ∙ sym (ap (λ (n : ℕ). nat_lt 0 n) (get_or-set_same slots at number 0 (omega arith)) ∙ above-none number more))
  | inr apart ↦ marked flow low ∙ sym (ap (λ (n : ℕ). nat_lt 0 n) (get_or-set_other slots at flow number 0 apart))
]

-- a place is marked, or its mark is taken
pub marks-more : (old new : Bool) (place at : ℕ) → place ≢ at → new ≡ (old || place == at) → new ≡ old
marks-more old new place at apart is =
    let other : (place == at) ≡ false = grind (arith, nat_tests) in
    is ∙ rw other (or-false old)

pub marks-less : (old new : Bool) (place at : ℕ) → place ≢ at → new ≡ (old && not (place == at)) → new ≡ old
marks-less old new place at apart is =
    let other : (place == at) ≡ false = grind (arith, nat_tests) in
    is ∙ rw other (and-true old)

pub marked-now : (old new : Bool) (at : ℕ) → new ≡ (old || at == at) → new ≡ true
marked-now old new at is =
    let same : (at == at) ≡ true = grind (arith, nat_tests) in
    is ∙ rw same (or-true old)

pub cleared-now : (old new : Bool) (at : ℕ) → new ≡ (old && not (at == at)) → new ≡ false
cleared-now old new at is =
    let same : (at == at) ≡ true = grind (arith, nat_tests) in
    is ∙ rw same (and-false old)

pub still-marked : (old new test : Bool) → new ≡ (old || test) → old ≡ true → new ≡ true
still-marked old new test is was = is ∙ rw was refl

-- what is not marked has no slots
pub none-of : (n : ℕ) (marked : Bool) → marked ≡ nat_lt 0 n → marked ≡ false → n ≡ 0
none-of n marked is not_marked = let none : nat_lt 0 n ≡ false = sym is ∙ not_marked in grind (arith, nat_tests)

pub some-of : (n : ℕ) (marked : Bool) → marked ≡ nat_lt 0 n → marked ≡ true → 0 < n
some-of n marked is is_marked = let some : nat_lt 0 n ≡ true = sym is ∙ is_marked in grind (arith, nat_tests)

pub none-above : {A : Type 0} (n : ℕ) → 0 < n → n ≡ 0 → A
none-above n some none = absurd (omega (arith, some, none))

-- ---- what a table holds of a flow of a round

pub held-same : (own round : ℕ) (slots other : List ℕ) (src dst : ℕ) → ((flow : ℕ) → flow < 65536 → get_or slots flow 0 ≡ get_or other flow 0) → slots_for_round own slots round src dst ≡ slots_for_round own other round src dst
held-same own round slots other src dst same = by (own == round) (nat_lt src 256) refl (nat_lt dst 256) refl
  where
    by : (a b : Bool) → nat_lt src 256 ≡ b → (c : Bool) → nat_lt dst 256 ≡ c → cond (a && b && c) (get_or slots (src * 256 + dst) 0) 0 ≡ cond (a && b && c) (get_or other (src * 256 + dst) 0) 0
    by true true e true f =
        let low : src < 256 = grind (arith, nat_tests) in
        let low2 : dst < 256 = grind (arith, nat_tests) in
        same (src * 256 + dst) (omega arith)
    by true true e false f = refl
    by true false e c f = refl
    by false b e c f = refl

pub held-none : (own : ℕ) (slots : List ℕ) (round src dst : ℕ) → ((flow : ℕ) → flow < 65536 → get_or slots flow 0 ≡ 0) → slots_for_round own slots round src dst ≡ 0
held-none own slots round src dst none = by (own == round) (nat_lt src 256) refl (nat_lt dst 256) refl
  where
    by : (a b : Bool) → nat_lt src 256 ≡ b → (c : Bool) → nat_lt dst 256 ≡ c → cond (a && b && c) (get_or slots (src * 256 + dst) 0) 0 ≡ 0
    by true true e true f =
        let low : src < 256 = grind (arith, nat_tests) in
        let low2 : dst < 256 = grind (arith, nat_tests) in
        none (src * 256 + dst) (omega arith)
    by true true e false f = refl
    by true false e c f = refl
    by false b e c f = refl

-- an ask's flow has its slots more
pub held-more : (ask : Ask) (slots : List ℕ) (least most : ℕ) (round src dst : ℕ) → ask.src < 256 → ask.dst < 256 → length slots ≡ 65536 → most ≡ least + ask.slots
    → slots_for_round ask.round (set slots (flow_number ask) most) round src dst ≡ slots_for_round ask.round (set slots (flow_number ask) least) round src dst + slots_asked round src dst ask
held-more ask slots least most round src dst low low2 long more =
    by (ask.round == round) (nat_lt src 256) refl (nat_lt dst 256) refl (ask.src == src) refl (ask.dst == dst) refl
  where
    at : ℕ
    at = flow_number ask

    by : (a b : Bool) → nat_lt src 256 ≡ b → (c : Bool) → nat_lt dst 256 ≡ c → (d : Bool) → (ask.src == src) ≡ d → (e : Bool) → (ask.dst == dst) ≡ e
        → cond (a && b && c) (get_or (set slots at most) (src * 256 + dst) 0) 0 ≡ cond (a && b && c) (get_or (set slots at least) (src * 256 + dst) 0) 0 + cond (a && d && e) ask.slots 0
    by false b p c q d r e s = refl
    by true false p c q false r e s = refl
    by true false p c q true r e s = let same : ask.src ≡ src = grind (arith, nat_tests) in let over : 256 ≤ src = grind (arith, nat_tests) in absurd (omega arith)
    by true true p false q false r e s = refl
    by true true p false q true r false s = refl
    by true true p false q true r true s = let same : ask.dst ≡ dst = grind (arith, nat_tests) in let over : 256 ≤ dst = grind (arith, nat_tests) in absurd (omega arith)
    by true true p true q false r e s =
        let other : ask.src ≢ src = grind (arith, nat_tests) in
        let small : dst < 256 = grind (arith, nat_tests) in
        let apart : src * 256 + dst ≢ at = (λ e. other (omega (arith, e))) in
        get_or-set_other slots at (src * 256 + dst) most 0 apart ∙ sym (get_or-set_other slots at (src * 256 + dst) least 0 apart) ∙ omega arith
    by true true p true q true r false s =
        let other : ask.dst ≢ dst = grind (arith, nat_tests) in
        let small : dst < 256 = grind (arith, nat_tests) in
        let apart : src * 256 + dst ≢ at = (λ e. other (omega (arith, e))) in
        get_or-set_other slots at (src * 256 + dst) most 0 apart ∙ sym (get_or-set_other slots at (src * 256 + dst) least 0 apart) ∙ omega arith
    by true true p true q true r true s =
        let same : ask.src ≡ src = grind (arith, nat_tests) in
        let same2 : ask.dst ≡ dst = grind (arith, nat_tests) in
        let here : src * 256 + dst ≡ at = omega arith in
        ap (λ k. get_or (set slots at most) k 0) here ∙ get_or-set_same slots at most 0 (omega arith) ∙ more
        ∙ sym (ap (λ k. k + ask.slots) (ap (λ k. get_or (set slots at least) k 0) here ∙ get_or-set_same slots at least 0 (omega arith)))

-- an ask comes into a table of its round
pub held-add : (ask : Ask) (slots : List ℕ) (round src dst : ℕ) → ask.src < 256 → ask.dst < 256 → length slots ≡ 65536
    → slots_for_round ask.round (set slots (flow_number ask) (get_or slots (flow_number ask) 0 + ask.slots)) round src dst ≡ slots_for_round ask.round slots round src dst + slots_asked round src dst ask
held-add ask slots round src dst low low2 long =
    held-more ask slots (get_or slots (flow_number ask) 0) _ round src dst low low2 long refl
    ∙ ap (λ (xs : List ℕ). slots_for_round ask.round xs round src dst + slots_asked round src dst ask) (set-get_or slots (flow_number ask) 0)

-- and all slots of a flow are taken out as an ask
pub held-taken : (own flow : ℕ) (slots : List ℕ) (round src dst : ℕ) → flow < 65536 → length slots ≡ 65536
    → slots_for_round own slots round src dst ≡ slots_for_round own (set slots flow 0) round src dst + slots_asked round src dst (record { round = own; src = flow / 256; dst = flow % 256; slots = get_or slots flow 0 })
held-taken own flow slots round src dst low long =
    let here : flow / 256 * 256 + flow % 256 ≡ flow = omega arith in
    sym
    (ap (λ (xs : List ℕ). slots_for_round own xs round src dst) (set-get_or slots flow 0))
    ∙ subst (λ k. slots_for_round own (set slots k (get_or slots flow 0)) round src dst ≡ slots_for_round own (set slots k 0) round src dst + slots_asked round src dst ask) here
    (held-more ask slots 0 (get_or slots flow 0) round src dst (omega arith) (omega arith) long (omega arith))
  where
    ask : Ask
    ask = record { round = own; src = flow / 256; dst = flow % 256; slots = get_or slots flow 0 }

-- a flow is handed out
pub handed-out : (own flow : ℕ) (slots : List ℕ) (asks : List Ask) (round src dst : ℕ) → flow < 65536 → length slots ≡ 65536
    → (own2 number : ℕ) (after : List ℕ) → own2 ≡ own → number ≡ get_or slots flow 0 → after ≡ set slots flow 0
    → sum_by (slots_asked round src dst) (asks ++ record { round = own2; src = flow / 256; dst = flow % 256; slots = number } ∷ []) + slots_for_round own2 after round src dst
    ≡ sum_by (slots_asked round src dst) asks + slots_for_round own slots round src dst
handed-out own flow slots asks round src dst low long own2 number after same is taken =
    rw (same, is, taken)
    (omega (
      arith,
      sum_by_push (slots_asked round src dst) asks (record { round = own; src = flow / 256; dst = flow % 256; slots = get_or slots flow 0 }),
      held-taken own flow slots round src dst low long,
    ))

pub done-more : (slots after : List ℕ) (flow next : ℕ) → length slots ≡ 65536 → flow < 65536 → after ≡ set slots flow 0
    → ((other : ℕ) → other < flow → get_or slots other 0 ≡ 0) → ((other : ℕ) → flow + 1 ≤ other → other < next → get_or after other 0 ≡ 0)
    → (other : ℕ) → other < next → get_or after other 0 ≡ 0
done-more slots after flow next long low taken done first other lt = elim (cases_eq other flow) [
  | inl same ↦ ap (λ (xs : List ℕ). get_or xs other 0) taken ∙ ap (λ k. get_or (set slots flow 0) k 0) same ∙ get_or-set_same slots flow 0 0 (omega arith)
  | inr apart ↦
      elim (cases_lt other flow) [
        | inl below ↦ ap (λ (xs : List ℕ). get_or xs other 0) taken ∙ get_or-set_other slots flow other 0 0 apart ∙ done other below
        | inr above ↦ first other (omega (arith, above, apart)) lt
      ]
]

-- what holds of the flows with slots holds of those that keep theirs
pub kept : (P : ℕ → Type 0) (slots after : List ℕ) (at : ℕ) → length slots ≡ 65536 → after ≡ set slots at 0
    → ((flow : ℕ) → flow < 65536 → 0 < get_or slots flow 0 → P flow) → (flow : ℕ) → flow < 65536 → 0 < get_or after flow 0 → P flow
kept P slots after at long taken each flow low some = elim (cases_eq flow at) [
  | inl same ↦
      none-above (get_or after flow 0) some
      (ap (λ (xs : List ℕ). get_or xs flow 0) taken ∙ ap (λ k. get_or (set slots at 0) k 0) same ∙ get_or-set_same slots at 0 0 (omega (arith, long, low, same)))
  | inr apart ↦ each flow low (subst (λ n. 0 < n) (ap (λ (xs : List ℕ). get_or xs flow 0) taken ∙ get_or-set_other slots at flow 0 0 apart) some)
]

pub kept-more : (P : ℕ → Type 0) (slots after : List ℕ) (at number : ℕ) → after ≡ set slots at number → P at
    → ((flow : ℕ) → flow < 65536 → 0 < get_or slots flow 0 → P flow) → (flow : ℕ) → flow < 65536 → 0 < get_or after flow 0 → P flow
kept-more P slots after at number is here each flow low some = elim (cases_eq flow at) [
  | inl same ↦ subst P (sym same) here
  | inr apart ↦ each flow low (subst (λ n. 0 < n) (ap (λ (xs : List ℕ). get_or xs flow 0) is ∙ get_or-set_other slots at flow number 0 apart) some)
]

-- what the flow of an ask has
pub held-own : (ask : Ask) (own : ℕ) (slots : List ℕ) → ask.src < 256 → ask.dst < 256 → own ≡ ask.round → slots_for_round own slots ask.round ask.src ask.dst ≡ get_or slots (flow_number ask) 0
held-own ask own slots low low2 same =
    let one : (own == ask.round) ≡ true = grind (arith, nat_tests) in
    let two : nat_lt ask.src 256 ≡ true = grind (arith, nat_tests) in
    let three : nat_lt ask.dst 256 ≡ true = grind (arith, nat_tests) in
    rw (one, two, three) refl

-- an ask of the round of a table comes into it
pub held-added : (ask : Ask) (own own2 : ℕ) (slots after : List ℕ) (round src dst : ℕ) → ask.src < 256 → ask.dst < 256 → length slots ≡ 65536 → own ≡ ask.round → own2 ≡ own
    → after ≡ set slots (flow_number ask) (get_or slots (flow_number ask) 0 + ask.slots) → slots_for_round own2 after round src dst ≡ slots_for_round own slots round src dst + slots_asked round src dst ask
held-added ask own own2 slots after round src dst low low2 long same same2 is = rw (same2, same, is) (held-add ask slots round src dst low low2 long)

pub added-among : (endpoints : ℕ) (ask : Ask) (slots after : List ℕ) (number : ℕ) → IsAmong 256 ask → IsAmong endpoints ask → after ≡ set slots (flow_number ask) number
    → ((flow : ℕ) → flow < 65536 → 0 < get_or slots flow 0 → (flow / 256 < endpoints) × (flow % 256 < endpoints) × (flow / 256 ≢ flow % 256))
    → (flow : ℕ) → flow < 65536 → 0 < get_or after flow 0 → (flow / 256 < endpoints) × (flow % 256 < endpoints) × (flow / 256 ≢ flow % 256)
added-among endpoints ask slots after number small among is each =
    let low = small.src in
    let low2 = small.dst in
    let src : flow_number ask / 256 ≡ ask.src = omega arith in
    let dst : flow_number ask % 256 ≡ ask.dst = omega arith in
    let below = among.src in
    let below2 = among.dst in
    kept-more (λ flow. (flow / 256 < endpoints) × (flow % 256 < endpoints) × (flow / 256 ≢ flow % 256)) slots after (flow_number ask) number is
    (omega arith, omega arith, λ e. among.other (sym src ∙ e ∙ dst)) each

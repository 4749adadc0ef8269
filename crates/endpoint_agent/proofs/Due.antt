-- The slots that are due at the end of a round, and those that wait.
use Rattle.std.proofs.Common.{◌≡◌, ◌≢◌, ◌⊎◌, ℕ, suc, get_or, ◌+◌, ◌*◌, ◌%◌, ◌<◌, ◌≤◌, Bool, true, false, cond, ◌&&◌, ◌==◌, ltb, leb, List, [], ◌∷◌, ◌++◌, map, filter, length, set, refl, sym, ◌∙◌, ap, subst, inl, inr, arith}
use Rattle.std.specs.List.{flat_map}
use Rattle.std.specs.List.Sorted.{IsStrictlyIncreasing}
use Rattle.std.proofs.lemmas.Bool.{cases_Bool, cases_lt, cases_eq, cond-true, cond-false, eq-eqb, ne_eqb, le-leb, lt-leb, le-ltb, and_from, and_left, and_right}
use Rattle.std.proofs.lemmas.List.{append-nil, get_or-set_same, get_or-set_other}
use Rattle.list_facts.specs.Order.{insert_by, sort_by}
use Rattle.fcp_framing.specs.declared.packet.Told.{Told}
use Rattle.endpoint_history.specs.Agent.{AgentHistory, TakenDown, taken, is_in_time}
use Rattle.endpoint_history.specs.Sending.{Slot, slots_of_telling, due}
use Rattle.endpoint_agent.specs.State.{batch_place, first_waiting, waits_of}

abbrev pub is_due : ℕ → ℕ → TakenDown → Bool
is_due g round t = is_in_time g t && round == t.packet.content.batch + 2 * g + 2

abbrev pub due_of : ℕ → ℕ → ℕ → List TakenDown → List Slot
due_of b g round ts = sort_by (λ (s : Slot). s.slot) (flat_map (λ (t : TakenDown). slots_of_telling b t.packet.content) (filter (is_due g round) ts))

-- ---- one packet more

abbrev sorted : ℕ → List TakenDown → List Slot
sorted b ts = sort_by (λ (s : Slot). s.slot) (flat_map (λ (t : TakenDown). slots_of_telling b t.packet.content) ts)

due-left : (b g round : ℕ) (t : TakenDown) (ts : List TakenDown) → is_due g round t ≡ false → due_of b g round (t ∷ ts) ≡ due_of b g round ts
due-left b g round t ts left = ap (sorted b) (cond-false (is_due g round t) (t ∷ filter (is_due g round) ts) (filter (is_due g round) ts) left)

due-empty : (b g round : ℕ) (t : TakenDown) (ts : List TakenDown) → t.packet.content.told ≡ [] → due_of b g round (t ∷ ts) ≡ due_of b g round ts
due-empty b g round t ts none = elim (cases_Bool (is_due g round t)) [
  | inr f ↦ due-left b g round t ts f
  | inl is ↦
      ap (sorted b) (cond-true (is_due g round t) (t ∷ filter (is_due g round) ts) (filter (is_due g round) ts) is)
      ∙ ap (λ (told : List Told). sort_by (λ (s : Slot). s.slot) (slots_of_telling b (record { batch = t.packet.content.batch; told = told }) ++ flat_map (λ (t' : TakenDown). slots_of_telling b t'.packet.content) (filter (is_due g round) ts))) none
]

insert-some : (s : Slot) (slots : List Slot) → insert_by (λ (x : Slot). x.slot) s slots ≡ [] → ⊥
insert-some s [] none = cc
insert-some s (y ∷ ys) none = elim (cases_Bool (ltb y.slot s.slot)) [
  | inl t ↦ let e = sym (cond-true (ltb y.slot s.slot) (y ∷ insert_by (λ (x : Slot). x.slot) s ys) (s ∷ (y ∷ ys)) t) ∙ none in cc
  | inr f ↦ let e = sym (cond-false (ltb y.slot s.slot) (y ∷ insert_by (λ (x : Slot). x.slot) s ys) (s ∷ (y ∷ ys)) f) ∙ none in cc
]

sort-none : (slots : List Slot) → sort_by (λ (x : Slot). x.slot) slots ≡ [] → slots ≡ []
sort-none [] none = refl
sort-none (s ∷ slots) none = absurd (insert-some s (sort_by (λ (x : Slot). x.slot) slots) none)

abbrev offsets : List Told → List ℕ
offsets told = map (λ (t : Told). t.offset) told

-- slots of a packet stand in order
sort-rising : (b batch : ℕ) (told : List Told) → IsStrictlyIncreasing (offsets told) →
    sort_by (λ (s : Slot). s.slot) (slots_of_telling b (record { batch = batch; told = told })) ≡ slots_of_telling b (record { batch = batch; told = told })
sort-rising b batch [] rising = refl
sort-rising b batch (t ∷ []) rising = refl
sort-rising b batch (t ∷ u ∷ told) rising =
    let first : Slot = record { slot = batch * b + 1 + t.offset; dst = t.dst } in
    let second : Slot = record { slot = batch * b + 1 + u.offset; dst = u.dst } in
    let rest = slots_of_telling b (record { batch = batch; told = told }) in
    let tail : IsStrictlyIncreasing (offsets (u ∷ told)) = λ k within.
    let e : suc k + 1 ≡ suc (k + 1) = omega arith in
    subst (λ (n : ℕ). get_or (offsets (u ∷ told)) k 0 < get_or (offsets (t ∷ u ∷ told)) n 0) e (rising (suc k) (omega (arith, within))) in
    let less : t.offset < u.offset = rising 0 (omega arith) in
    ap (insert_by (λ (s : Slot). s.slot) first) (sort-rising b batch (u ∷ told) tail)
    ∙ cond-false (ltb second.slot first.slot) (second ∷ insert_by (λ (s : Slot). s.slot) first rest) (first ∷ (second ∷ rest)) (le-ltb second.slot first.slot (omega (arith, less)))

due-first : (b g round : ℕ) (t : TakenDown) (ts : List TakenDown) → is_due g round t ≡ true → due_of b g round ts ≡ [] → IsStrictlyIncreasing (offsets t.packet.content.told)
    → due_of b g round (t ∷ ts) ≡ slots_of_telling b t.packet.content
due-first b g round t ts is none rising =
    let before = flat_map (λ (t' : TakenDown). slots_of_telling b t'.packet.content) (filter (is_due g round) ts) in
    let empty : before ≡ [] = sort-none before none in
    ap (sorted b) (cond-true (is_due g round t) (t ∷ filter (is_due g round) ts) (filter (is_due g round) ts) is)
    ∙ ap (λ (slots : List Slot). sort_by (λ (s : Slot). s.slot) (slots_of_telling b t.packet.content ++ slots)) empty
    ∙ ap (sort_by (λ (s : Slot). s.slot)) (append-nil (slots_of_telling b t.packet.content))
    ∙ sort-rising b t.packet.content.batch t.packet.content.told rising

-- ---- none are due in the first rounds

filter_none : (p : TakenDown → Bool) → ((t : TakenDown) → p t ≡ false) → (ts : List TakenDown) → filter p ts ≡ []
filter_none p none [] = refl
filter_none p none (t ∷ ts) = ap (λ (b : Bool). cond b (t ∷ filter p ts) (filter p ts)) (none t) ∙ filter_none p none ts

pub due-early : (b g : ℕ) (history : AgentHistory) (round : ℕ) → round < 2 * g + 2 → due b g history round ≡ []
due-early b g history round early =
    ap (sorted b)
    (filter_none (is_due g round) (λ t. and_right (is_in_time g t) (round == t.packet.content.batch + 2 * g + 2) (ne_eqb round (t.packet.content.batch + 2 * g + 2) (λ e. omega (arith, e, early)))) (taken history))

-- ---- what waits, once a packet is taken

abbrev pub Waits : ℕ → ℕ → ℕ → List (List Told) → List TakenDown → Type 0
Waits b g round waiting ts =
    (batch : ℕ) → first_waiting g round ≤ batch → slots_of_telling b (record { batch = batch; told = waits_of g round waiting batch }) ≡ due_of b g (batch + 2 * g + 2) ts

pub nil_or : (told : List Told) → (told ≡ []) ⊎ (told ≢ [])
nil_or [] = inl refl
nil_or (t ∷ told) = inr (λ e. absurd cc)

other_place : (first k batch : ℕ) → first ≤ k → k ≤ first + 2 → first ≤ batch → batch ≤ first + 2 → (batch ≡ k → ⊥) → batch % 3 ≢ k % 3
other_place first k batch a b c d apart = λ e. elim (cases_lt k batch) [
  | inl above ↦ omega (arith, a, b, c, d, e, above)
  | inr below ↦ elim (cases_lt batch k) [
    | inl less ↦ omega (arith, a, b, c, d, e, less)
    | inr same ↦ apart (omega (arith, below, same))
  ]
]

-- the batches that wait, with one place set
put-one : (b g round : ℕ) (waiting : List (List Told)) (k : ℕ) (told : List Told) (ts : List TakenDown) (t : TakenDown) → length waiting ≡ 3
    → t.round ≡ round → t.packet.content.batch ≡ k → t.packet.content.told ≡ told → k + 2 * g ≤ round → round ≤ k + 2 * g + 2 → batch_place waiting k ≡ [] → IsStrictlyIncreasing (offsets told)
    → Waits b g round waiting ts → Waits b g round (set waiting (k % 3) told) (t ∷ ts)
put-one b g round waiting k told ts t three in_round of_batch tells late in_time free rising waits batch from =
    let first = first_waiting g round in
    let low : first ≤ k = omega (arith, in_time) in
    let high : k ≤ first + 2 = omega (arith, late) in
    elim (cases_eq batch k) [
      | inl here ↦
          let put : waits_of g round (set waiting (k % 3) told) k ≡ told =
          ap (λ (c : Bool). cond c (batch_place (set waiting (k % 3) told) k) []) (le-leb k (first + 2) high)
          ∙ get_or-set_same waiting (k % 3) told [] (omega (arith, three)) in
          let was : waits_of g round waiting k ≡ [] = ap (λ (c : Bool). cond c (batch_place waiting k) []) (le-leb k (first + 2) high) ∙ free in
          let none : due_of b g (k + 2 * g + 2) ts ≡ [] = sym (waits k low) ∙ ap (λ (xs : List Told). slots_of_telling b (record { batch = k; told = xs })) was in
          let is : is_due g (k + 2 * g + 2) t ≡ true =
          and_from (is_in_time g t) (k + 2 * g + 2 == t.packet.content.batch + 2 * g + 2)
          (le-leb t.round (t.packet.content.batch + 2 * g + 2) (omega (arith, in_round, of_batch, in_time)))
          (eq-eqb (k + 2 * g + 2) (t.packet.content.batch + 2 * g + 2) (omega (arith, of_batch))) in
          ap (λ (n : ℕ). slots_of_telling b (record { batch = n; told = waits_of g round (set waiting (k % 3) told) n })) here
          ∙ ap (λ (xs : List Told). slots_of_telling b (record { batch = k; told = xs })) put
          ∙ ap (λ (n : ℕ). slots_of_telling b (record { batch = n; told = told })) (sym of_batch)
          ∙ ap (λ (xs : List Told). slots_of_telling b (record { batch = t.packet.content.batch; told = xs })) (sym tells)
          ∙ sym (due-first b g (k + 2 * g + 2) t ts is none (subst (λ (xs : List Told). IsStrictlyIncreasing (offsets xs)) (sym tells) rising))
          ∙ ap (λ (n : ℕ). due_of b g (n + 2 * g + 2) (t ∷ ts)) (sym here)
      | inr other ↦
          let left : is_due g (batch + 2 * g + 2) t ≡ false =
          and_right (is_in_time g t) (batch + 2 * g + 2 == t.packet.content.batch + 2 * g + 2)
          (ne_eqb (batch + 2 * g + 2) (t.packet.content.batch + 2 * g + 2) (λ e. other (omega (arith, e, of_batch)))) in
          let same : waits_of g round (set waiting (k % 3) told) batch ≡ waits_of g round waiting batch =
          elim (cases_lt (first + 2) batch) [
            | inl past ↦ rw (lt-leb batch (first + 2) past) refl
            | inr within ↦
                ap (λ (xs : List Told). cond (leb batch (first + 2)) xs [])
                (get_or-set_other waiting (k % 3) (batch % 3) told [] (other_place first k batch low high from within other))
          ] in
          ap (λ (xs : List Told). slots_of_telling b (record { batch = batch; told = xs })) same
          ∙ waits batch from ∙ sym (due-left b g (batch + 2 * g + 2) t ts left)
    ]

pub Waits-takes : (b g round : ℕ) (waiting waiting' : List (List Told)) (ts : List TakenDown) (t : TakenDown) → length waiting ≡ 3 → t.round ≡ round
    → (t.packet.content.told ≢ [] → t.packet.content.batch + 2 * g ≤ round)
    → (t.packet.content.told ≢ [] → round ≤ t.packet.content.batch + 2 * g + 2 → batch_place waiting t.packet.content.batch ≡ [])
    → IsStrictlyIncreasing (offsets t.packet.content.told)
    → (t.packet.content.told ≢ [] → round ≤ t.packet.content.batch + 2 * g + 2 → waiting' ≡ set waiting (t.packet.content.batch % 3) t.packet.content.told)
    → ((t.packet.content.told ≡ []) ⊎ (t.packet.content.batch + 2 * g + 2 < round) → waiting' ≡ waiting)
    → Waits b g round waiting ts → Waits b g round waiting' (t ∷ ts)
Waits-takes b g round waiting waiting' ts t three in_round late apart rising put kept waits =
    let k = t.packet.content.batch in
    elim (nil_or t.packet.content.told) [
      | inl none ↦
          subst (λ (w : List (List Told)). Waits b g round w (t ∷ ts)) (sym (kept (inl none)))
          (λ batch from. waits batch from ∙ sym (due-empty b g (batch + 2 * g + 2) t ts none))
      | inr some ↦ elim (cases_lt (k + 2 * g + 2) round) [
        | inl missed ↦
            subst (λ (w : List (List Told)). Waits b g round w (t ∷ ts)) (sym (kept (inr missed)))
            (λ batch from. waits batch from ∙ sym (due-left b g (batch + 2 * g + 2) t ts
            (and_left (is_in_time g t) (batch + 2 * g + 2 == k + 2 * g + 2) (lt-leb t.round (k + 2 * g + 2) (omega (arith, in_round, missed))))))
        | inr in_time ↦
            subst (λ (w : List (List Told)). Waits b g round w (t ∷ ts)) (sym (put some in_time))
            (put-one b g round waiting k t.packet.content.told ts t three in_round refl refl (late some) in_time (apart some in_time) rising waits)
      ]
    ]

-- ---- what waits, once a round has ended

pub Waits-early : (b g round : ℕ) (waiting : List (List Told)) (ts : List TakenDown) → round < 2 * g + 2 → Waits b g round waiting ts → Waits b g (round + 1) waiting ts
Waits-early b g round waiting ts early waits batch from =
    let same : first_waiting g (round + 1) ≡ first_waiting g round = omega (arith, early) in
    ap (λ (n : ℕ). slots_of_telling b (record { batch = batch; told = cond (leb batch (n + 2)) (batch_place waiting batch) [] })) same
    ∙ waits batch (omega (arith, from, same))

pub Waits-ends : (b g round used : ℕ) (waiting : List (List Told)) (ts : List TakenDown) → length waiting ≡ 3 → used + 2 * g + 2 ≡ round → Waits b g round waiting ts → Waits b g (round + 1) (set waiting (used % 3) []) ts
Waits-ends b g round used waiting ts three is waits batch from =
    let was : first_waiting g round ≡ used = omega (arith, is) in
    let now : first_waiting g (round + 1) ≡ used + 1 = omega (arith, is) in
    let same : waits_of g (round + 1) (set waiting (used % 3) []) batch ≡ waits_of g round waiting batch =
    elim (cases_lt (used + 2) batch) [
      | inr within ↦
          ap (λ (c : Bool). cond c (batch_place (set waiting (used % 3) []) batch) []) (le-leb batch (first_waiting g (round + 1) + 2) (omega (arith, now, within)))
          ∙ get_or-set_other waiting (used % 3) (batch % 3) [] [] (other_place used used batch (omega arith) (omega arith) (omega (arith, from, now)) within (λ e. omega (arith, e, from, now)))
          ∙ sym (ap (λ (c : Bool). cond c (batch_place waiting batch) []) (le-leb batch (first_waiting g round + 2) (omega (arith, was, within))))
      | inl past ↦
          elim (cases_lt (used + 3) batch) [
            | inl far ↦ ap (λ (c : Bool). cond c (batch_place (set waiting (used % 3) []) batch) []) (lt-leb batch (first_waiting g (round + 1) + 2) (omega (arith, now, far)))
            | inr next ↦
                let batch_is : batch % 3 ≡ used % 3 = omega (arith, past, next) in
                ap (λ (c : Bool). cond c (batch_place (set waiting (used % 3) []) batch) []) (le-leb batch (first_waiting g (round + 1) + 2) (omega (arith, now, next)))
                ∙ ap (λ (n : ℕ). get_or (set waiting (used % 3) []) n []) batch_is
                ∙ get_or-set_same waiting (used % 3) [] [] (omega (arith, three))
          ]
          ∙ sym (ap (λ (c : Bool). cond c (batch_place waiting batch) []) (lt-leb batch (first_waiting g round + 2) (omega (arith, was, past))))
    ] in
    ap (λ (xs : List Told). slots_of_telling b (record { batch = batch; told = xs })) same
    ∙ waits batch (omega (arith, from, was, now))

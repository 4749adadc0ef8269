-- Every slot in time is sent in.
use Rattle.std.proofs.Common.{◌≡◌, ℕ, ◌+◌, ◌-◌, ◌*◌, ◌≤◌, Bool, true, false, ◌&&◌, not, cond, nat_lt, ◌==◌, List, [], ◌∷◌, sym, ◌∙◌, ap, refl, inl, inr, arith}
use Rattle.std.specs.Prelude.{nat_le, sum_by, count_by, filter}
use Rattle.std.specs.List.{flat_map}
use Rattle.std.proofs.lemmas.Bool.{cases_eq, cases_Bool, cases_lt, lt-ltb, leb-true, le-leb, lt-leb, eq-eqb, ne_eqb}
use Rattle.std.proofs.lemmas.List.Sums.{sum_by-cons, sum_by-le-sum_by}
use Rattle.std.proofs.lemmas.List.Concat.{flat_map-cons}
use Rattle.list_facts.specs.Order.{insert_by, sort_by}
use Rattle.list_facts.proofs.Counting.{count-append}
use Rattle.fcp_framing.specs.declared.packet.Told.{Told}
use Rattle.endpoint_history.specs.Packets.{slots_to}
use Rattle.endpoint_history.specs.Agent as agent
use Rattle.endpoint_history.specs.Agent.{AgentHistory, Boots, Asks, TakesDown, MakesUp, SendsDue, TakenDown, taken, is_in_time, in_time, asked}
use Rattle.endpoint_history.specs.Sending.{Slot, slots_of_telling, sent_of, sent_now, sends, due, rounds_sent, SendsRise, is_over, in_time_before}
use Rattle.endpoint_history.specs.Steps.{agent_of}
use Rattle.endpoint_history.specs.SlotLaws.{SendsAndWaitingAreAsked, NoneIsPassedOver}
use Rattle.endpoint_history.specs.Windows.{Windows}
use Rattle.endpoint_history.proofs.Totals.{in_time_is_asked}

abbrev to : ℕ → Slot → Bool
to dst s = s.dst == dst

-- ---- counts of what is due

pub count_by-cons : {X : Type 0} (test : X → Bool) (x : X) (xs : List X) → count_by test (x ∷ xs) ≡ cond (test x) (1 + count_by test xs) (count_by test xs)
count_by-cons test x xs = sum_by-cons (λ y. cond (test y) 1 0) x xs ∙ add (test x) (count_by test xs)
  where
    add : (b : Bool) (n : ℕ) → cond b 1 0 + n ≡ cond b (1 + n) n
    add true n = refl
    add false n = omega arith

count-insert_by : (test : Slot → Bool) (s : Slot) (slots : List Slot) → count_by test (insert_by (λ x. x.slot) s slots) ≡ count_by test (s ∷ slots)
count-insert_by test s [] = refl
count-insert_by test s (x ∷ slots) =
    let here = count_by-cons test x slots in
    let pushed = count_by-cons test s slots in
    let both = count_by-cons test s (x ∷ slots) in
    let after = count_by-cons test x (insert_by (λ y. y.slot) s slots) in
    let rest = count-insert_by test s slots in
    elim (nat_lt x.slot s.slot) as (λ b. count_by test (cond b (x ∷ insert_by (λ y. y.slot) s slots) (s ∷ x ∷ slots)) ≡ count_by test (s ∷ x ∷ slots)) [
      | true ↦ after ∙ swap (test x) (test s) (count_by test (insert_by (λ y. y.slot) s slots)) (count_by test (s ∷ slots)) (count_by test slots) (count_by test (x ∷ slots)) rest pushed here ∙ sym both
      | false ↦ refl
    ]
  where
    swap : (bx bs : Bool) (inserted with_s none with_x : ℕ) → inserted ≡ with_s → with_s ≡ cond bs (1 + none) none → with_x ≡ cond bx (1 + none) none →
        cond bx (1 + inserted) inserted ≡ cond bs (1 + with_x) with_x
    swap true true inserted with_s none with_x a b c = omega arith
    swap true false inserted with_s none with_x a b c = omega arith
    swap false true inserted with_s none with_x a b c = omega arith
    swap false false inserted with_s none with_x a b c = omega arith

pub count-sort_by : (test : Slot → Bool) (slots : List Slot) → count_by test (sort_by (λ x. x.slot) slots) ≡ count_by test slots
count-sort_by test [] = refl
count-sort_by test (s ∷ slots) =
    let rest = count-sort_by test slots in
    count-insert_by test s (sort_by (λ x. x.slot) slots)
    ∙ count_by-cons test s (sort_by (λ x. x.slot) slots)
    ∙ ap (λ n. cond (test s) (1 + n) n) rest
    ∙ sym (count_by-cons test s slots)

count-slots_of : (b dst : ℕ) (batch : ℕ) (told : List Told) → count_by (to dst) (slots_of_telling b (record { batch = batch; told = told })) ≡ slots_to dst told
count-slots_of b dst batch [] = refl
count-slots_of b dst batch (t ∷ told) =
    count_by-cons (to dst) (record { slot = batch * b + 1 + t.offset; dst = t.dst }) (slots_of_telling b (record { batch = batch; told = told }))
    ∙ ap (λ n. cond (t.dst == dst) (1 + n) n) (count-slots_of b dst batch told)
    ∙ sym (count_by-cons (λ (x : Told). x.dst == dst) t told)

-- the slots due in a round are those that are used before the next and not before it
count-due : (b g round dst : ℕ) (ts : List TakenDown) →
    sum_by (λ (t : TakenDown). cond (is_in_time g t && is_over g round t) (slots_to dst t.packet.content.told) 0) ts
    + count_by (to dst) (flat_map (λ (t : TakenDown). slots_of_telling b t.packet.content) (filter (λ (t : TakenDown). is_in_time g t && round == t.packet.content.batch + 2 * g + 2) ts))
    ≡ sum_by (λ (t : TakenDown). cond (is_in_time g t && is_over g (round + 1) t) (slots_to dst t.packet.content.told) 0) ts
count-due b g round dst [] = refl
count-due b g round dst (t ∷ ts) =
    let f = λ (x : TakenDown). slots_of_telling b x.packet.content in
    let due_of = λ (xs : List TakenDown). filter (λ (x : TakenDown). is_in_time g x && round == x.packet.content.batch + 2 * g + 2) xs in
    let rest = count-due b g round dst ts in
    let before = sum_by-cons (λ (x : TakenDown). cond (is_in_time g x && is_over g round x) (slots_to dst x.packet.content.told) 0) t ts in
    let after = sum_by-cons (λ (x : TakenDown). cond (is_in_time g x && is_over g (round + 1) x) (slots_to dst x.packet.content.told) 0) t ts in
    let batch = t.packet.content.batch in
    let slots = slots_to dst t.packet.content.told in
    let with_it : count_by (to dst) (flat_map f (t ∷ due_of ts)) ≡ slots + count_by (to dst) (flat_map f (due_of ts)) =
    ap (λ xs. count_by (to dst) xs) (flat_map-cons f t (due_of ts)) ∙ count-append (to dst) (f t) (flat_map f (due_of ts)) ∙ ap (λ n. n + count_by (to dst) (flat_map f (due_of ts))) (count-slots_of b dst t.packet.content.batch t.packet.content.told) in
    let here : cond (is_in_time g t && is_over g round t) slots 0 + count_by (to dst) (flat_map f (cond (is_in_time g t && round == batch + 2 * g + 2) (t ∷ due_of ts) (due_of ts)))
    ≡ cond (is_in_time g t && is_over g (round + 1) t) slots 0 + count_by (to dst) (flat_map f (due_of ts)) =
    elim (is_in_time g t) as (λ timely. cond (timely && is_over g round t) slots 0 + count_by (to dst) (flat_map f (cond (timely && round == batch + 2 * g + 2) (t ∷ due_of ts) (due_of ts)))
    ≡ cond (timely && is_over g (round + 1) t) slots 0 + count_by (to dst) (flat_map f (due_of ts))) [
      | false ↦ refl
      | true ↦
          elim (cases_eq round (batch + 2 * g + 2)) [
            | inl now ↦
                rw (eq-eqb round (batch + 2 * g + 2) now, lt-leb (batch + 2 * g + 3) round (omega arith), le-leb (batch + 2 * g + 3) (round + 1) (omega arith)) (omega arith)
            | inr other ↦
                elim (cases_lt round (batch + 2 * g + 2)) [
                  | inl early ↦ rw (ne_eqb round (batch + 2 * g + 2) other, lt-leb (batch + 2 * g + 3) round (omega arith), lt-leb (batch + 2 * g + 3) (round + 1) (omega arith)) refl
                  | inr past ↦ rw (ne_eqb round (batch + 2 * g + 2) other, le-leb (batch + 2 * g + 3) round (omega arith), le-leb (batch + 2 * g + 3) (round + 1) (omega arith)) refl
                ]
          ]
    ] in
    omega arith

-- ---- the walk

pub walk-count : (test : Slot → Bool) (left : ℕ → ℕ) (slots : List Slot) → count_by test (sent_of left slots) ≤ count_by test slots
walk-count test left [] = omega arith
walk-count test left (s ∷ slots) =
    let less = λ (d : ℕ). left d - cond (d == s.dst) 1 0 in
    let whole = count_by-cons test s slots in
    elim (nat_lt 0 (left s.dst)) as (λ c. count_by test (cond c (s ∷ sent_of less slots) (sent_of left slots)) ≤ count_by test (s ∷ slots)) [
      | true ↦
          let rest = walk-count test less slots in
          let part = count_by-cons test s (sent_of less slots) in
          bound (test s) (count_by test (sent_of less slots)) (count_by test slots) (count_by test (s ∷ sent_of less slots)) (count_by test (s ∷ slots)) rest part whole
      | false ↦
          let rest = walk-count test left slots in
          skip (test s) (count_by test (sent_of left slots)) (count_by test slots) (count_by test (s ∷ slots)) rest whole
    ]
  where
    bound : (c : Bool) (m n x y : ℕ) → m ≤ n → x ≡ cond c (1 + m) m → y ≡ cond c (1 + n) n → x ≤ y
    bound true m n x y le p q = omega arith
    bound false m n x y le p q = omega arith

    skip : (c : Bool) (m n y : ℕ) → m ≤ n → y ≡ cond c (1 + n) n → m ≤ y
    skip true m n y le q = omega arith
    skip false m n y le q = omega arith

-- where enough is left of each flow, every slot is sent
sent_of-all : (left : ℕ → ℕ) (slots : List Slot) → ((dst : ℕ) → count_by (to dst) slots ≤ left dst) → sent_of left slots ≡ slots
sent_of-all left [] enough = refl
sent_of-all left (s ∷ slots) enough =
    let less = λ (d : ℕ). left d - cond (d == s.dst) 1 0 in
    let here = enough s.dst in
    let whole = count_by-cons (to s.dst) s slots ∙ ap (λ b. cond b (1 + count_by (to s.dst) slots) (count_by (to s.dst) slots)) (eq-eqb s.dst s.dst refl) in
    rw (lt-ltb 0 (left s.dst) (omega arith))
    (ap (λ xs. s ∷ xs) (sent_of-all less slots
    (λ dst.
    let all = enough dst in
    let each = count_by-cons (to dst) s slots in
    elim (cases_eq s.dst dst) [
      | inl same ↦
          let counted : count_by (to dst) (s ∷ slots) ≡ 1 + count_by (to dst) slots = each ∙ ap (λ b. cond b (1 + count_by (to dst) slots) (count_by (to dst) slots)) (eq-eqb s.dst dst same) in
          rw (eq-eqb dst s.dst (sym same)) (omega arith)
      | inr other ↦
          let counted : count_by (to dst) (s ∷ slots) ≡ count_by (to dst) slots = each ∙ ap (λ b. cond b (1 + count_by (to dst) slots) (count_by (to dst) slots)) (ne_eqb s.dst dst other) in
          rw (ne_eqb dst s.dst (λ h. other (sym h))) (omega arith)
    ])))

-- ---- sends

pub sent_now-is : (b g : ℕ) (history : AgentHistory) (so_far : ℕ → ℕ) (round : ℕ) → sent_now b g history so_far round ≡ sent_of (λ dst. asked history dst - so_far dst) (due b g history round)
unfolding sent_now
sent_now-is b g history so_far round = refl

counted-due : (b g : ℕ) (history : AgentHistory) (round dst : ℕ) → in_time_before g history round dst + count_by (to dst) (due b g history round) ≡ in_time_before g history (round + 1) dst
counted-due b g history round dst =
    ap (λ n. in_time_before g history round dst + n) (count-sort_by (to dst) (flat_map (λ (t : TakenDown). slots_of_telling b t.packet.content) (filter (λ (t : TakenDown). is_in_time g t && round == t.packet.content.batch + 2 * g + 2) (taken history))))
    ∙ count-due b g round dst (taken history)

before-grows : (g less more dst : ℕ) (ts : List TakenDown) → less ≤ more →
    sum_by (λ (t : TakenDown). cond (is_in_time g t && is_over g less t) (slots_to dst t.packet.content.told) 0) ts
    ≤ sum_by (λ (t : TakenDown). cond (is_in_time g t && is_over g more t) (slots_to dst t.packet.content.told) 0) ts
before-grows g less more dst ts le =
    sum_by-le-sum_by _ (λ (t : TakenDown). cond (is_in_time g t && is_over g more t) (slots_to dst t.packet.content.told) 0) ts
    (λ t. elim (is_in_time g t) as (λ b. cond (b && is_over g less t) (slots_to dst t.packet.content.told) 0 ≤ cond (b && is_over g more t) (slots_to dst t.packet.content.told) 0) [
      | false ↦ omega arith
      | true ↦ elim (cases_Bool (nat_le (t.packet.content.batch + 2 * g + 3) less)) [
        | inr waits ↦ rw waits (omega arith)
        | inl over ↦ let low = leb-true (t.packet.content.batch + 2 * g + 3) less over in rw (over, le-leb (t.packet.content.batch + 2 * g + 3) more (omega arith)) (omega arith)
      ]
    ])

-- what was sent was in time
sends-within : (b g : ℕ) (history : AgentHistory) → SendsRise history → (dst : ℕ) → sends b g history dst ≤ in_time_before g history (rounds_sent history) dst
sends-within b g [] rise dst = omega arith
sends-within b g (Boots version ∷ history) rise dst = omega arith
sends-within b g (Asks to_dst slots ∷ history) rise dst = sends-within b g history rise dst
sends-within b g (MakesUp ∷ history) rise dst = sends-within b g history rise dst
sends-within b g (TakesDown round packet ∷ history) rise dst =
    let before = sends-within b g history rise dst in
    elim (cases_Bool (agent.takes history packet)) [
      | inr left ↦ rw left before
      | inl takes ↦
          let push = sum_by-cons (λ (t : TakenDown). cond (is_in_time g t && is_over g (rounds_sent history) t) (slots_to dst t.packet.content.told) 0) (record { round = round; packet = packet }) (taken history) in
          rw takes (omega arith)
    ]
sends-within b g (SendsDue round ∷ history) rise dst =
    let before = sends-within b g history rise.1 dst in
    let grows = before-grows g (rounds_sent history) round dst (taken history) rise.0 in
    let due_now = counted-due b g history round dst in
    let so_far = λ (d : ℕ). sends b g history d in
    let part : count_by (to dst) (sent_now b g history so_far round) ≤ count_by (to dst) (due b g history round) =
    rw (sent_now-is b g history so_far round) (walk-count (to dst) (λ d. asked history d - so_far d) (due b g history round)) in
    omega arith

-- in time is before a round or from it on
in_time-parts : (g round dst : ℕ) (ts : List TakenDown) →
    sum_by (λ (t : TakenDown). cond (is_in_time g t && is_over g round t) (slots_to dst t.packet.content.told) 0) ts
    + sum_by (λ (t : TakenDown). cond (is_in_time g t && not (is_over g round t)) (slots_to dst t.packet.content.told) 0) ts
    ≡ sum_by (λ (t : TakenDown). cond (is_in_time g t) (slots_to dst t.packet.content.told) 0) ts
in_time-parts g round dst [] = refl
in_time-parts g round dst (t ∷ ts) =
    let rest = in_time-parts g round dst ts in
    let one = sum_by-cons (λ (x : TakenDown). cond (is_in_time g x && is_over g round x) (slots_to dst x.packet.content.told) 0) t ts in
    let two = sum_by-cons (λ (x : TakenDown). cond (is_in_time g x && not (is_over g round x)) (slots_to dst x.packet.content.told) 0) t ts in
    let all = sum_by-cons (λ (x : TakenDown). cond (is_in_time g x) (slots_to dst x.packet.content.told) 0) t ts in
    let here = parts (is_in_time g t) (is_over g round t) (slots_to dst t.packet.content.told) in
    omega arith
  where
    parts : (a b : Bool) (n : ℕ) → cond (a && b) n 0 + cond (a && not b) n 0 ≡ cond a n 0
    parts true true n = omega arith
    parts true false n = omega arith
    parts false b n = refl

pub sends_and_waiting_are_asked : (w : Windows) → SendsAndWaitingAreAsked
sends_and_waiting_are_asked w endpoints b g steps arrives rise owed dst =
    let history = agent_of steps in
    let within = sends-within b g history rise dst in
    let parts = in_time-parts g (rounds_sent history) dst (taken history) in
    let asks = in_time_is_asked w endpoints g steps arrives owed dst in
    omega arith

pub none_is_passed_over : (w : Windows) → NoneIsPassedOver
none_is_passed_over w endpoints b g steps round arrives rise owed now =
    let history = agent_of steps in
    sent_now-is b g history (λ d. sends b g history d) round
    ∙ sent_of-all (λ dst. asked history dst - sends b g history dst) (due b g history round)
    (λ dst.
    let within = sends-within b g history rise dst in
    let grows = before-grows g (rounds_sent history) round dst (taken history) now in
    let due_now = counted-due b g history round dst in
    let parts = in_time-parts g (round + 1) dst (taken history) in
    let asks = in_time_is_asked w endpoints g steps arrives owed dst in
    omega arith)

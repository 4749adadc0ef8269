-- Slots that are walked one after the other, and the lines that count them.
use Rattle.std.proofs.Common.{◌≡◌, ℕ, drop, get_or, ◌+◌, ◌-◌, ◌<◌, Bool, true, false, cond, ◌==◌, ltb, List, [], ◌∷◌, ◌++◌, length, set, refl, sym, ◌∙◌, ap, inl, inr, arith, append_assoc, All}
use Rattle.std.specs.Prelude.{count_by}
use Rattle.std.proofs.lemmas.Bool.{cases_Bool, cases_eq, cases_lt, eq-eqb, ne_eqb, lt-ltb, le-ltb}
use Rattle.std.proofs.lemmas.List.{map-append, drop_more, get_or-set_same, get_or-set_other}
use Rattle.std.proofs.lemmas.List.Elements.{All-head, All-tail}
use Rattle.std.proofs.lemmas.List.Sums.{sum_by-cons}
use Rattle.fcp_framing.specs.declared.packet.Told.{Told}
use Rattle.endpoint_history.specs.Sending.{Slot, sent_of}
use Rattle.endpoint_agent.specs.declared.lines.FlowLine.{FlowLine}
use Rattle.endpoint_agent.specs.declared.lines.Sent.{Sent}
use Rattle.endpoint_agent.specs.State.{line_at}
use Rattle.endpoint_agent.specs.Lines.{slots_sent, with_sent, slots_from_first, left_in}

abbrev pub no_line : FlowLine
no_line = record { asked = 0; sent = 0; missed = 0; carried_from = 0 }

abbrev pub no_told : Told
no_told = record { offset = 0; core = 0; dst = 0 }

abbrev pub told_at : List Told → ℕ → Told
told_at told i = get_or told i no_told

-- the slot of what is told, where a batch has this first slot
abbrev pub slot_at : ℕ → Told → Slot
slot_at first t = record { slot = first + t.offset; dst = t.dst }

abbrev pub to : ℕ → List Slot → ℕ
to dst slots = count_by (λ (s : Slot). s.dst == dst) slots

-- ---- one slot more

some-left : (asked sent : ℕ) → ltb 0 (asked - sent) ≡ ltb sent asked
some-left asked sent = elim (cases_lt sent asked) [
  | inl some ↦ lt-ltb 0 (asked - sent) (omega (arith, some)) ∙ sym (lt-ltb sent asked some)
  | inr none ↦ le-ltb 0 (asked - sent) (omega (arith, none)) ∙ sym (le-ltb sent asked none)
]

one-less : (test : Bool) (asked sent : ℕ) → asked - (sent + cond test 1 0) ≡ asked - sent - cond test 1 0
one-less true asked sent = omega arith
one-less false asked sent = omega arith

left-after : (lines : List FlowLine) (at : ℕ) (test : Bool) (line : FlowLine) → at < length lines → line ≡ with_sent (cond test 1 0) (line_at lines at)
    → (dst : ℕ) → left_in (set lines at line) dst ≡ left_in lines dst - cond (dst == at) (cond test 1 0) 0
left-after lines at test line within changed dst = elim (cases_eq dst at) [
  | inl here ↦
      ap (λ (k : ℕ). left_in (set lines at line) k) here
      ∙ ap (λ (l : FlowLine). l.asked - l.sent) (get_or-set_same lines at line no_line within ∙ changed)
      ∙ one-less test (line_at lines at).asked (line_at lines at).sent
      ∙ ap (λ (k : ℕ). left_in lines k - cond test 1 0) (sym here)
      ∙ sym (ap (λ (b : Bool). left_in lines dst - cond b (cond test 1 0) 0) (eq-eqb dst at here))
  | inr other ↦
      let none : left_in lines dst ≡ left_in lines dst - 0 = omega arith in
      ap (λ (l : FlowLine). l.asked - l.sent) (get_or-set_other lines at dst line no_line other)
      ∙ none ∙ sym (ap (λ (b : Bool). left_in lines dst - cond b (cond test 1 0) 0) (ne_eqb dst at other))
]

nothing-less : (b : Bool) (n : ℕ) → n ≡ n - cond b 0 0
nothing-less true n = omega arith
nothing-less false n = omega arith

pub sent_of-step : (lines : List FlowLine) (s : Slot) (rest : List Slot) (line : FlowLine) → s.dst < length lines
    → line ≡ with_sent (cond (ltb (line_at lines s.dst).sent (line_at lines s.dst).asked) 1 0) (line_at lines s.dst)
    → sent_of (left_in lines) (s ∷ rest) ≡ cond (ltb (line_at lines s.dst).sent (line_at lines s.dst).asked) (s ∷ []) [] ++ sent_of (left_in (set lines s.dst line)) rest
sent_of-step lines s rest line within changed =
    let test : Bool = ltb (line_at lines s.dst).sent (line_at lines s.dst).asked in
    let less : ℕ → ℕ = λ dst. left_in lines dst - cond (dst == s.dst) 1 0 in
    let is : ltb 0 (left_in lines s.dst) ≡ test = some-left (line_at lines s.dst).asked (line_at lines s.dst).sent in
    let after = left-after lines s.dst test line within changed in
    ap (λ (b : Bool). cond b (s ∷ sent_of less rest) (sent_of (left_in lines) rest)) is
    ∙ elim (cases_Bool test) [
      | inl t ↦
          let same : (dst : ℕ) → less dst ≡ left_in (set lines s.dst line) dst = λ dst. sym (after dst ∙ ap (λ (b : Bool). left_in lines dst - cond (dst == s.dst) (cond b 1 0) 0) t) in
          let whole : less ≡ left_in (set lines s.dst line) = λ i dst. same dst i in
          rw t (ap (λ (left : ℕ → ℕ). s ∷ sent_of left rest) whole)
      | inr f ↦
          let same : (dst : ℕ) → left_in lines dst ≡ left_in (set lines s.dst line) dst = λ dst.
          nothing-less (dst == s.dst) (left_in lines dst) ∙ sym (after dst ∙ ap (λ (b : Bool). left_in lines dst - cond (dst == s.dst) (cond b 1 0) 0) f) in
          let whole : left_in lines ≡ left_in (set lines s.dst line) = λ i dst. same dst i in
          rw f (ap (λ (left : ℕ → ℕ). sent_of left rest) whole)
    ]

with_sent-add : (m n k : ℕ) (line : FlowLine) → k ≡ n + m → with_sent m (with_sent n line) ≡ with_sent k line
with_sent-add m n k line same =
    let e : line.sent + n + m ≡ line.sent + k = omega (arith, same) in
    λ i. record { asked = line.asked; sent = e i; missed = line.missed; carried_from = line.carried_from }

to-cond : (test : Bool) (s : Slot) (rest : List Slot) (dst : ℕ) → to dst (cond test (s ∷ []) [] ++ rest) ≡ cond (s.dst == dst) (cond test 1 0) 0 + to dst rest
to-cond true s rest dst = sum_by-cons (λ (x : Slot). cond (x.dst == dst) 1 0) s rest
to-cond false s rest dst = elim (s.dst == dst) as (λ (b : Bool). to dst rest ≡ cond b 0 0 + to dst rest) [ true ↦ omega arith | false ↦ omega arith ]

pub counted-step : (lines : List FlowLine) (s : Slot) (rest : List Slot) (line : FlowLine) (dst : ℕ) → s.dst < length lines
    → line ≡ with_sent (cond (ltb (line_at lines s.dst).sent (line_at lines s.dst).asked) 1 0) (line_at lines s.dst)
    → with_sent (to dst (sent_of (left_in (set lines s.dst line)) rest)) (line_at (set lines s.dst line) dst)
    ≡ with_sent (to dst (sent_of (left_in lines) (s ∷ rest))) (line_at lines dst)
counted-step lines s rest line dst within changed =
    let test : Bool = ltb (line_at lines s.dst).sent (line_at lines s.dst).asked in
    let after = sent_of (left_in (set lines s.dst line)) rest in
    let counts : to dst (sent_of (left_in lines) (s ∷ rest)) ≡ cond (s.dst == dst) (cond test 1 0) 0 + to dst after =
    ap (to dst) (sent_of-step lines s rest line within changed) ∙ to-cond test s after dst in
    elim (cases_eq dst s.dst) [
      | inl here ↦
          let is : to dst (sent_of (left_in lines) (s ∷ rest)) ≡ cond test 1 0 + to dst after =
          counts ∙ ap (λ (b : Bool). cond b (cond test 1 0) 0 + to dst after) (eq-eqb s.dst dst (sym here)) in
          ap (λ (l : FlowLine). with_sent (to dst after) l) (ap (λ (k : ℕ). line_at (set lines s.dst line) k) here ∙ get_or-set_same lines s.dst line no_line within ∙ changed)
          ∙ with_sent-add (to dst after) (cond test 1 0) (to dst (sent_of (left_in lines) (s ∷ rest))) (line_at lines s.dst) is
          ∙ ap (λ (k : ℕ). with_sent (to dst (sent_of (left_in lines) (s ∷ rest))) (line_at lines k)) (sym here)
      | inr other ↦
          let plain : 0 + to dst after ≡ to dst after = omega arith in
          let is : to dst after ≡ to dst (sent_of (left_in lines) (s ∷ rest)) =
          sym (counts ∙ ap (λ (b : Bool). cond b (cond test 1 0) 0 + to dst after) (ne_eqb s.dst dst (λ e. other (sym e))) ∙ plain) in
          ap (λ (l : FlowLine). with_sent (to dst after) l) (get_or-set_other lines s.dst dst line no_line other)
          ∙ ap (λ (n : ℕ). with_sent n (line_at lines dst)) is
    ]

pub slots_after-next : (first i : ℕ) (told : List Told) → i < length told → slots_from_first first (drop i told) ≡ slot_at first (told_at told i) ∷ slots_from_first first (drop (i + 1) told)
slots_after-next first i told within = ap (slots_from_first first) (drop_more told i no_told within)

slots_sent-cond : (test : Bool) (slot dst : ℕ) → slots_sent (cond test (record { slot = slot; dst = dst } ∷ []) []) ≡ cond test (record { slot = slot; dst = dst } ∷ []) []
slots_sent-cond true slot dst = refl
slots_sent-cond false slot dst = refl

pub sent-step : (lines : List FlowLine) (items : List Sent) (slot dst : ℕ) (rest : List Slot) (line : FlowLine) → dst < length lines
    → line ≡ with_sent (cond (ltb (line_at lines dst).sent (line_at lines dst).asked) 1 0) (line_at lines dst)
    → slots_sent (items ++ cond (ltb (line_at lines dst).sent (line_at lines dst).asked) (record { slot = slot; dst = dst } ∷ []) []) ++ sent_of (left_in (set lines dst line)) rest
    ≡ slots_sent items ++ sent_of (left_in lines) (record { slot = slot; dst = dst } ∷ rest)
sent-step lines items slot dst rest line within changed =
    let test : Bool = ltb (line_at lines dst).sent (line_at lines dst).asked in
    let new : List Sent = cond test (record { slot = slot; dst = dst } ∷ []) [] in
    let s : Slot = record { slot = slot; dst = dst } in
    let after = sent_of (left_in (set lines dst line)) rest in
    ap (λ (xs : List Slot). xs ++ after) (map-append (λ (x : Sent). record { slot = x.slot; dst = x.dst }) items new
    ∙ ap (λ (xs : List Slot). slots_sent items ++ xs) (slots_sent-cond test slot dst))
    ∙ append_assoc (slots_sent items) (cond test (s ∷ []) []) after
    ∙ ap (λ (xs : List Slot). slots_sent items ++ xs) (sym (sent_of-step lines s rest line within changed))

-- ---- what is left at each destination alone decides

pub sent_of-agree : (left left' : ℕ → ℕ) (endpoints : ℕ) (slots : List Slot) → ((dst : ℕ) → dst < endpoints → left dst ≡ left' dst) → All (λ (s : Slot). s.dst < endpoints) slots
    → sent_of left slots ≡ sent_of left' slots
sent_of-agree left left' endpoints [] same below = refl
sent_of-agree left left' endpoints (s ∷ slots) same below =
    let less : ℕ → ℕ = λ dst. left dst - cond (dst == s.dst) 1 0 in
    let less' : ℕ → ℕ = λ dst. left' dst - cond (dst == s.dst) 1 0 in
    let here = same s.dst (All-head (λ (x : Slot). x.dst < endpoints) s slots below) in
    let tail = All-tail (λ (x : Slot). x.dst < endpoints) s slots below in
    ap (λ (n : ℕ). cond (ltb 0 n) (s ∷ sent_of less slots) (sent_of left slots)) here
    ∙ ap (λ (xs : List Slot). cond (ltb 0 (left' s.dst)) (s ∷ xs) (sent_of left slots))
    (sent_of-agree less less' endpoints slots (λ dst in_range. ap (λ (n : ℕ). n - cond (dst == s.dst) 1 0) (same dst in_range)) tail)
    ∙ ap (λ (xs : List Slot). cond (ltb 0 (left' s.dst)) (s ∷ sent_of less' slots) xs) (sent_of-agree left left' endpoints slots same tail)

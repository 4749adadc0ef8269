-- The flows that a request names, line by line.
use Rattle.std.proofs.Common.{◌≡◌, ℕ, zero, suc, ◌+◌, ◌-◌, ◌⊎◌, ◌<◌, ◌≤◌, Bool, true, false, cond, ltb, List, [], ◌∷◌, ◌++◌, map, filter, length, refl, sym, ◌∙◌, ap, inl, inr, arith, length-append, append-nil}
use Rattle.std.specs.List.{range_with_len}
use Rattle.std.proofs.lemmas.Bool.{cases_lt, cond-false, le-ltb, false≢true}
use Rattle.std.proofs.lemmas.List.{map-append, get_or_past}
use Rattle.std.proofs.lemmas.List.Elements.{filter-append}
use Rattle.list_facts.proofs.Lists.{next_number}
use Rattle.fcp_framing.specs.declared.packet.Demand.{Demand}
use Rattle.endpoint_agent.specs.declared.lines.FlowLine.{FlowLine}
use Rattle.endpoint_agent.specs.State.{line_at, UnconfirmedAreMarked}
use Rattle.endpoint_agent.specs.Lines.{demand_at, unconfirmed_in}
use Rattle.endpoint_agent.proofs.Walking.{no_line}
use Rattle.line_marks.specs.Places.{Places, is_marked}

one_named : (f : ℕ → Demand) (test : Bool) (n : ℕ) → map f (cond test (n ∷ []) []) ≡ cond test (f n ∷ []) []
one_named f true n = refl
one_named f false n = refl

pub unconfirmed_in-next : (acknowledged n : ℕ) (lines : List FlowLine) →
    unconfirmed_in acknowledged (n + 1) lines
    ≡ unconfirmed_in acknowledged n lines ++ cond (ltb acknowledged (line_at lines n).carried_from) (demand_at lines n ∷ []) []
unconfirmed_in-next acknowledged n lines =
    let test : ℕ → Bool = λ dst. ltb acknowledged (line_at lines dst).carried_from in
    let f : ℕ → Demand = demand_at lines in
    let so_far = range_with_len 0 n in
    let whole : range_with_len 0 (n + 1) ≡ so_far ++ n ∷ [] = let same : 0 + n ≡ n = omega arith in next_number 0 n ∙ ap (λ (k : ℕ). so_far ++ k ∷ []) same in
    ap (λ (xs : List ℕ). map f (filter test xs)) whole
    ∙ ap (map f) (filter-append test so_far (n ∷ []))
    ∙ map-append f (filter test so_far) (filter test (n ∷ []))
    ∙ ap (λ (ys : List Demand). map f (filter test so_far) ++ ys) (one_named f (test n) n)

at_most_one : (test : Bool) (demand : Demand) → length (cond test (demand ∷ []) []) ≤ 1
at_most_one true demand = omega arith
at_most_one false demand = omega arith

none_where_false : (test : Bool) (demand : Demand) → test ≡ false → length (cond test (demand ∷ []) []) ≡ 0
none_where_false true demand out = absurd (false≢true (sym out))
none_where_false false demand out = refl

never : (acknowledged : ℕ) → ltb acknowledged 0 ≡ false
never acknowledged = le-ltb acknowledged 0 (omega arith)

-- the own line is never named
pub record AreFew (me n named : ℕ) : Type 0 where
  pub all : named ≤ n
  pub but_own : me < n → named + 1 ≤ n

few_by : (acknowledged : ℕ) (lines : List FlowLine) (me : ℕ) → (line_at lines me).carried_from ≡ 0 → (n : ℕ) → AreFew me n (length (unconfirmed_in acknowledged n lines))
few_by acknowledged lines me own zero = record { all = omega arith; but_own = λ below. absurd (omega arith) }
few_by acknowledged lines me own (suc n) =
    let few = few_by acknowledged lines me own n in
    let test : Bool = ltb acknowledged (line_at lines n).carried_from in
    let next : suc n ≡ n + 1 = omega arith in
    let long : length (unconfirmed_in acknowledged (suc n) lines) ≡ length (unconfirmed_in acknowledged n lines) + length (cond test (demand_at lines n ∷ []) []) =
    ap (λ (k : ℕ). length (unconfirmed_in acknowledged k lines)) next ∙ ap length (unconfirmed_in-next acknowledged n lines)
    ∙ length-append (unconfirmed_in acknowledged n lines) (cond test (demand_at lines n ∷ []) []) in
    let one = at_most_one test (demand_at lines n) in
    record {
      all = omega (arith, few.all);
      but_own = λ below. elim (cases_lt me n) [
        | inl earlier ↦ let e = few.but_own earlier in omega arith
        | inr from ↦
            let same : me ≡ n = omega arith in
            let out : test ≡ false = ap (λ (k : ℕ). ltb acknowledged k) (ap (λ (k : ℕ). (line_at lines k).carried_from) (sym same) ∙ own) ∙ never acknowledged in
            let none = none_where_false test (demand_at lines n) out in
            omega (arith, few.all)
      ];
    }

pub room_for_one : (acknowledged : ℕ) (lines : List FlowLine) (me n : ℕ) → (line_at lines me).carried_from ≡ 0 → n < 256 → me < 256
    → acknowledged < (line_at lines n).carried_from → length (unconfirmed_in acknowledged n lines) < 255
room_for_one acknowledged lines me n own last own_last named =
    let few = few_by acknowledged lines me own n in
    elim (cases_lt me n) [
      | inl earlier ↦ let e = few.but_own earlier in omega arith
      | inr from ↦ elim (cases_lt n me) [
        | inl below ↦ omega (arith, few.all)
        | inr to ↦
            let same : me ≡ n = omega arith in
            let e : (line_at lines n).carried_from ≡ 0 = ap (λ (k : ℕ). (line_at lines k).carried_from) (sym same) ∙ own in
            absurd (omega arith)
      ]
    ]

-- flows that are confirmed are passed over
pub unconfirmed_in-skip : (acknowledged : ℕ) (lines : List FlowLine) (from more : ℕ) → ((dst : ℕ) → from ≤ dst → dst < from + more → (line_at lines dst).carried_from ≤ acknowledged) →
    unconfirmed_in acknowledged (from + more) lines ≡ unconfirmed_in acknowledged from lines
unconfirmed_in-skip acknowledged lines from zero confirmed = let same : from + zero ≡ from = omega arith in ap (λ (n : ℕ). unconfirmed_in acknowledged n lines) same
unconfirmed_in-skip acknowledged lines from (suc more) confirmed =
    let last : from + suc more ≡ from + more + 1 = omega arith in
    let test : Bool = ltb acknowledged (line_at lines (from + more)).carried_from in
    ap (λ (n : ℕ). unconfirmed_in acknowledged n lines) last
    ∙ unconfirmed_in-next acknowledged (from + more) lines
    ∙ ap (λ (xs : List Demand). unconfirmed_in acknowledged (from + more) lines ++ xs)
    (cond-false test (demand_at lines (from + more) ∷ []) [] (le-ltb acknowledged (line_at lines (from + more)).carried_from (confirmed (from + more) (omega arith) (omega arith))))
    ∙ append-nil (unconfirmed_in acknowledged (from + more) lines)
    ∙ unconfirmed_in-skip acknowledged lines from more (λ dst above below. confirmed dst above (omega (arith, below)))

pub unconfirmed_in-same : (acknowledged : ℕ) (lines : List FlowLine) (from to : ℕ) → from ≤ to → ((dst : ℕ) → from ≤ dst → dst < to → (line_at lines dst).carried_from ≤ acknowledged) →
    unconfirmed_in acknowledged to lines ≡ unconfirmed_in acknowledged from lines
unconfirmed_in-same acknowledged lines from to upward confirmed =
    let is : from + (to - from) ≡ to = omega (arith, upward) in
    sym (ap (λ (n : ℕ). unconfirmed_in acknowledged n lines) is) ∙ unconfirmed_in-skip acknowledged lines from (to - from) (λ dst above below. confirmed dst above (omega (arith, below, upward)))

-- past the lines none is named
pub past-lines : (acknowledged : ℕ) (lines : List FlowLine) (dst : ℕ) → length lines ≤ dst → (line_at lines dst).carried_from ≤ acknowledged
past-lines acknowledged lines dst past = let is = ap (λ (l : FlowLine). l.carried_from) (get_or_past lines dst no_line past) in omega (arith, is)

-- once a flow is named or has lost its mark, every flow that may be named is marked
pub marked-still : (acknowledged : ℕ) (old new : Places) (lines : List FlowLine) (at : ℕ) (line : FlowLine) → UnconfirmedAreMarked acknowledged old lines → line ≡ line_at lines at →
    ((place : ℕ) → is_marked new place ≡ false → (is_marked old place ≡ false) ⊎ ((place ≡ at) × (line.carried_from ≤ acknowledged))) → UnconfirmedAreMarked acknowledged new lines
marked-still acknowledged old new lines at line marked here moved = λ dst none. elim (moved dst none) [
  | inl was ↦ marked dst was
  | inr (same, low) ↦ let is = ap (λ (l : FlowLine). l.carried_from) here ∙ ap (λ (k : ℕ). (line_at lines k).carried_from) (sym same) in omega (arith, is, low)
]

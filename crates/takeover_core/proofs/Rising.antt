-- Entries that rise, and rows of them that go on.
use Rattle.std.proofs.Common.{◌≡◌, ◌+◌, ℕ, zero, suc, List, [], ◌∷◌, ◌++◌, Option, Some, None, IsTrue, refl, sym, ap, ◌∙◌, arith, add-one}
use Rattle.std.specs.Prelude.{filter_map}
use Rattle.std.specs.List.{range_with_len, cons_option, flat_map}
use Rattle.std.proofs.lemmas.List.{append-nil, append_assoc}
use Rattle.std.proofs.lemmas.Bool.Decides.{nat_tests}
use Rattle.std.proofs.lemmas.List.Elements.{All-head, All-tail, All-weaker}
use Rattle.greedy_rules.specs.declared.flows.Flow.{Flow}
use Rattle.greedy_rules.specs.declared.flows.Entry.{Entry}
use Rattle.greedy_rules.specs.Flows.{flow_below}
use Rattle.greedy_rules.specs.Batches.{IsAboveLast}
use Rattle.greedy_rules.specs.Cells.{flow_of}
use Rattle.takeover_core.specs.Entries.{AreBelowFlow}

pub above_last : (entries : List Entry) (src dst : ℕ) → AreBelowFlow entries src dst → IsAboveLast entries (flow_of src dst)
above_last [] src dst below = tt
above_last (e ∷ []) src dst below = All-head (λ (x : Entry). IsTrue (flow_below x.flow (flow_of src dst))) e [] below
above_last (e ∷ (f ∷ entries)) src dst below = above_last (f ∷ entries) src dst (All-tail (λ (x : Entry). IsTrue (flow_below x.flow (flow_of src dst))) e (f ∷ entries) below)

next_below : (flow : Flow) (src dst : ℕ) → IsTrue (flow_below flow (flow_of src dst)) → IsTrue (flow_below flow (flow_of src (dst + 1)))
next_below flow src dst below = grind (arith, nat_tests)

next_row : (flow : Flow) (src dst : ℕ) → IsTrue (flow_below flow (flow_of src dst)) → IsTrue (flow_below flow (flow_of (src + 1) 0))
next_row flow src dst below = grind (arith, nat_tests)

pub it_below : (src dst : ℕ) → IsTrue (flow_below (flow_of src dst) (flow_of src (dst + 1)))
it_below src dst = grind (arith, nat_tests)

pub below_next : (entries : List Entry) (src dst : ℕ) → AreBelowFlow entries src dst → AreBelowFlow entries src (dst + 1)
below_next entries src dst below =
    All-weaker (λ (e : Entry). IsTrue (flow_below e.flow (flow_of src dst))) (λ (e : Entry). IsTrue (flow_below e.flow (flow_of src (dst + 1)))) (λ e is. next_below e.flow src dst is) entries below

pub below_row : (entries : List Entry) (src dst : ℕ) → AreBelowFlow entries src dst → AreBelowFlow entries (src + 1) 0
below_row entries src dst below =
    All-weaker (λ (e : Entry). IsTrue (flow_below e.flow (flow_of src dst))) (λ (e : Entry). IsTrue (flow_below e.flow (flow_of (src + 1) 0))) (λ e is. next_row e.flow src dst is) entries below

cons_option-append : (o : Option Entry) (xs ys : List Entry) → cons_option o (xs ++ ys) ≡ cons_option o xs ++ ys
cons_option-append None xs ys = refl
cons_option-append (Some e) xs ys = refl

more : (f : ℕ → Option Entry) (a n : ℕ) → filter_map f (range_with_len a (suc n)) ≡ filter_map f (range_with_len a n) ++ cons_option (f (a + n)) []
more f a zero = ap (λ (k : ℕ). cons_option (f k) []) (omega arith)
more f a (suc n) =
    ap (cons_option (f a)) (more f (a + 1) n ∙ ap (λ (k : ℕ). filter_map f (range_with_len (a + 1) n) ++ cons_option (f k) []) (omega arith))
    ∙ cons_option-append (f a) (filter_map f (range_with_len (a + 1) n)) (cons_option (f (a + suc n)) [])

-- a row of one more
pub row_more : (f : ℕ → Option Entry) (n : ℕ) → filter_map f (range_with_len 0 (n + 1)) ≡ filter_map f (range_with_len 0 n) ++ cons_option (f n) []
row_more f n = ap (λ (k : ℕ). filter_map f (range_with_len 0 k)) (add-one n) ∙ (more f 0 n ∙ ap (λ (k : ℕ). filter_map f (range_with_len 0 n) ++ cons_option (f k) []) (omega arith))

flat : (f : ℕ → List Entry) (a n : ℕ) → flat_map f (range_with_len a (suc n)) ≡ flat_map f (range_with_len a n) ++ f (a + n)
flat f a zero = append-nil (f a) ∙ ap f (omega arith)
flat f a (suc n) =
    ap (λ (xs : List Entry). f a ++ xs) (flat f (a + 1) n ∙ ap (λ (k : ℕ). flat_map f (range_with_len (a + 1) n) ++ f k) (omega arith))
    ∙ sym (append_assoc (f a) (flat_map f (range_with_len (a + 1) n)) (f (a + suc n)))

-- and one row more
pub rows_more : (f : ℕ → List Entry) (n : ℕ) → flat_map f (range_with_len 0 (n + 1)) ≡ flat_map f (range_with_len 0 n) ++ f n
rows_more f n = ap (λ (k : ℕ). flat_map f (range_with_len 0 k)) (add-one n) ∙ (flat f 0 n ∙ ap (λ (k : ℕ). flat_map f (range_with_len 0 n) ++ f k) (omega arith))

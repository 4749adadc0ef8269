use Rattle.std.proofs.Common.{◌≡◌, ◌≤◌, ◌<◌, ◌-◌, ℕ, ◌==◌, false, List, [], ◌∷◌, length, get_or, map, take, drop, Bor, None, Some, refl, sym, ap, ◌∙◌, arith}
use Rattle.std.proofs.lemmas.Bool.{false≢true}
use Rattle.std.proofs.lemmas.List.{take_all}
use Rattle.fastpass_run.specs.declared.words.Options.{Options}
use Rattle.fastpass_run.specs.Words.{options_of, options_then, with_option}
use Rattle.fastpass_run.proofs.words.read_options.Goals as goal

one_pair : (rest : List (Bor (List ℕ))) (options next : Options) (d : Bor (List ℕ)) → 2 ≤ length rest → Some next ≡ with_option (get_or rest 0 d).now (get_or rest 1 d).now options
    → options_of (map (λ (word : Bor (List ℕ)). word.now) (take (length rest - 2) (drop 2 rest))) next ≡ options_of (map (λ (word : Bor (List ℕ)). word.now) rest) options
one_pair [] options next d some is = absurd (omega arith)
one_pair (name ∷ []) options next d some is = absurd (omega arith)
one_pair (name ∷ (value ∷ more)) options next d some is =
    ap (λ (words : List (Bor (List ℕ))). options_of (map (λ (word : Bor (List ℕ)). word.now) words) next) (take_all (length (name ∷ (value ∷ more)) - 2) more (omega arith))
    ∙ ap (options_then (options_of (map (λ (word : Bor (List ℕ)). word.now) more))) is

pub loop-rest-preserved : goal.loop-rest-preserved
loop-rest-preserved c = record {
  same = one_pair c.loop-rest.rest.now c.loop-rest.options c.in_ok-options.options _ c.in-len2-up.len_at_least c.in_ok-options.ensures.option ∙ c.loop-rest.invariant.same;
  within = c.in_ok-options.ensures.within;
}

-- a word alone is no pair
alone : (rest : List (Bor (List ℕ))) (options : Options) → (length rest == 0) ≡ false → length rest < 2 → None ≡ options_of (map (λ (word : Bor (List ℕ)). word.now) rest) options
alone [] options some few = absurd (false≢true (sym some))
alone (name ∷ []) options some few = refl
alone (name ∷ (value ∷ more)) options some few = absurd (omega (arith, few))

pub returns-in_default-clause-options : goal.returns-in_default-clause-options
returns-in_default-clause-options c = alone c.loop-rest.rest.now c.loop-rest.options (sym c.is_empty.ensures ∙ c.loop-rest-test.true) c.in_default.len_below ∙ c.loop-rest.invariant.same

use Rattle.std.proofs.Common.{[], ◌++◌, ℕ, List, refl, sym, ap, ◌∙◌}
use Rattle.text_output.proofs.output.Output.flush.Goals as goal

pub returns-in-Ok-clause-passes : goal.returns-in-Ok-clause-passes
returns-in-Ok-clause-passes g c =
    let text : List ℕ = c.text.result.now in
    rw (← c.self.view_is) (record {
      name = refl;
      later = c.write_all.ensures.later;
      all = (text, c.in-Ok.ensures.written, ap (λ (xs : List ℕ). xs ++ []) (sym c.text.ensures) ∙ ap (λ (xs : List ℕ). text ++ xs) (sym c.clear.ensures));
      front = tt;
      cause = tt;
    })

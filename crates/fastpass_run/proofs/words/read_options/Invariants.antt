use Rattle.std.proofs.Common.{◌≡◌, map, length}
use Rattle.fastpass_run.specs.Words.{options_of, no_options, OptionsAreWithin}
use Rattle.fastpass_run.proofs.words.read_options.Given as goal

abbrev pub invariant-loop-rest : goal.invariant-loop-rest
invariant-loop-rest l = record {
  same : options_of (map (λ word. word.now) l.rest) l.options ≡ options_of (map (λ word. word.now) l.pairs) no_options;
  within : OptionsAreWithin l.options;
}

abbrev pub decreases-loop-rest : goal.decreases-loop-rest
decreases-loop-rest l = length l.rest

-- Bounds.
use Rattle.endpoint_history.proofs.Few.{numbers_are_few, told_is_few, none_is_told_beyond, recorded_is_named}
use Rattle.endpoint_history.proofs.TakenFew.{taken_is_few}
use Rattle.endpoint_history.proofs.laws.counts_are_bounded.Goals as goal

pub returns : goal.returns
returns c = record {
  numbers = numbers_are_few;
  told = told_is_few c.windows_hold.ensures;
  beyond = none_is_told_beyond c.windows_hold.ensures;
  taken = taken_is_few c.windows_hold.ensures;
  recorded = recorded_is_named;
}

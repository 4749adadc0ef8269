use Rattle.text_output.proofs.OutputLemmas.{Passes-after, Passes-stopped, Passes-nothing, Passes-no_memory, Writes-whole, Writes-nothing}
use Rattle.text_output.proofs.laws.texts_follow.Goals as goal

pub returns : goal.returns
returns c = record {
  after = Passes-after;
  stopped = Passes-stopped;
  nothing = Passes-nothing _;
  no_memory = Passes-no_memory _ _ _;
  whole = Writes-whole _ _ _ _ _ _;
  unwritten = Writes-nothing _ _ _;
}

use Rattle.std.proofs.Common.{◌≡◌, ◌*◌, List, Bool}
use Rattle.greedy_rules.specs.declared.flows.Flow.{Flow}
use Rattle.window_allocation.specs.Reach.{AreAhead, ShowSlots, OpenAhead}
use Rattle.window_allocation.proofs.reach.note_opened.Given as goal

abbrev pub invariant-loop-batch : goal.invariant-loop-batch
invariant-loop-batch l = record {
  ahead : (all : List (List Flow)) (ahead : Flow → Bool) → ShowSlots l.slots.endpoints (l.count * l.b) all l.slots.words.items → AreAhead l.b all ahead l.fn.words → OpenAhead ahead l.batches
      → AreAhead l.b all ahead l.words;
  endpoints : l.words.endpoints ≡ l.fn.words.endpoints;
}

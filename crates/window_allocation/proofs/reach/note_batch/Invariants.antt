use Rattle.std.proofs.Common.{◌≡◌, ◌*◌, List, Bool, true, All}
use Rattle.greedy_rules.specs.declared.flows.Flow.{Flow}
use Rattle.window_allocation.specs.Reach.{AreAhead, ShowSlots}
use Rattle.window_allocation.proofs.reach.note_batch.Given as goal

abbrev pub invariant-loop-at : goal.invariant-loop-at
invariant-loop-at l = record {
  ahead : (all : List (List Flow)) (ahead : Flow → Bool) → ShowSlots l.slots.endpoints (l.count * l.b) all l.slots.words.items → AreAhead l.b all ahead l.fn.words
      → All (λ entry. entry.opens ≡ true → ahead entry.flow ≡ true) l.batch.entries → AreAhead l.b all ahead l.words;
  endpoints : l.words.endpoints ≡ l.fn.words.endpoints;
}

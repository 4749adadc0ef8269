use Rattle.std.proofs.Common.{◌*◌, ◌++◌, ℕ, List, get_or, sym, ap, ◌∙◌}
use Rattle.window_allocation.specs.Logged.{places_of_bits}
use Rattle.window_allocation.proofs.LogLemmas.{busy_step}
use Rattle.window_allocation.proofs.item_log.note_busy.Goals as goal

pub loop-at-preserved : goal.loop-at-preserved
loop-at-preserved c =
    let was = c.loop-at in
    let items = c.args.items.now in
    let words = c.args.words.now in
    record {
      noted = c.note_word.ensures.places c.if-not-note_word.false
          ∙ (ap (λ (ks : List ℕ). ks ++ places_of_bits items (was.at * 64) (get_or words was.at 0)) was.invariant.noted ∙ sym (busy_step items words was.at));
      capacity = c.note_word.ensures.capacity ∙ was.invariant.capacity;
    }

use Rattle.std.proofs.Common.{◌<◌, ◌-◌, ◌^◌, ◌++◌, ℕ, List, bit_and, sym, ap, ◌∙◌, rules}
use Rattle.std.proofs.lemmas.List.{append_assoc}
use Rattle.window_allocation.specs.Logged.{places_of_bits}
use Rattle.window_allocation.proofs.LogLemmas.{word_step}
use Rattle.window_allocation.proofs.item_log.note_word.Goals as goal

pub loop-rest-preserved : goal.loop-rest-preserved
loop-rest-preserved c =
    let was = c.loop-rest in
    let items = c.args.items.now in
    let fits : was.rest < 2 ^ 64 = search rules in
    let left : List ℕ = places_of_bits items c.args.from (bit_and was.rest (was.rest - 1)) in
    record {
      noted = ap (λ (ks : List ℕ). ks ++ left) (c.note_place.ensures.places c.if-not-note_place.false)
          ∙ (append_assoc was.places.items _ left ∙ (ap (λ (ks : List ℕ). was.places.items ++ ks) (sym (word_step items c.args.from was.rest fits c.loop-rest-test.true)) ∙ was.invariant.noted));
      capacity = c.note_place.ensures.capacity ∙ was.invariant.capacity;
    }

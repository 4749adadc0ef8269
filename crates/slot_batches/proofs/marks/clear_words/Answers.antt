use Rattle.std.proofs.Common.{rules, ◌≡◌, ◌≤◌, ◌+◌, ◌-◌, ◌++◌, ℕ, List, length, take, drop, replicate, ap, ◌∙◌, arith}
use Rattle.std.proofs.lemmas.List.{length-take, length-drop, length-append, length-replicate, replicate-append-replicate}
use Rattle.std.proofs.lemmas.Slice.{take-put_mid}
use borrow.Rule.Slice.PartMut.{put_mid}
use Rattle.slot_batches.proofs.marks.clear_words.Goals as goal

-- after a part more is cleared
one_more : (words part : List ℕ) (from few k : ℕ) → from ≤ length words → from + few ≤ length words → k ≡ few → take from words ≡ replicate from 0 → part ≡ replicate (length (take k (drop from words))) 0
    → (take (from + few) (put_mid from k words part) ≡ replicate (from + few) 0) × (length (put_mid from k words part) ≡ length words)
one_more words part from few k within more k_is before after =
    let size : length (take k (drop from words)) ≡ few = omega (arith, more, k_is, length-take k (drop from words), length-drop from words) in
    let part_is : part ≡ replicate few 0 = after ∙ ap (λ (n : ℕ). replicate n 0) size in
    let long : length part ≡ few = ap length part_is ∙ length-replicate few 0 in (
      take-put_mid from k words part (from + few) (omega (arith, long)) within
          ∙ (ap (λ (xs : List ℕ). xs ++ part) before ∙ (ap (λ (xs : List ℕ). replicate from 0 ++ xs) part_is ∙ replicate-append-replicate from few 0)),
      omega (arith, long, k_is, more, length-append (take from words) (part ++ drop k (drop from words)), length-append part (drop k (drop from words)), length-take from words, length-drop k (drop from words), length-drop from words),
    )

pub loop-from-preserved : goal.loop-from-preserved
loop-from-preserved c =
    let words = c.loop-from.words in
    let from : ℕ = c.loop-from.from in
    let few : ℕ = c.min-few.result in
    let so_far = c.loop-from.invariant in
    let more : from + few ≤ length words = omega (arith, so_far.within, c.min-few.ensures) in
    let next = one_more words c.fill.new.self from few (from + few - from) so_far.within more (omega arith) so_far.zero_before (c.fill.ensures.after (λ y cloned. search rules)) in
    record {
      within = omega (arith, more, next.1);
      zero_before = next.0;
      count = next.1 ∙ so_far.count;
    }

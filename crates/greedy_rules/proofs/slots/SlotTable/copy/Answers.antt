use Rattle.std.proofs.Common.{◌≡◌, ◌<◌, ◌+◌, ℕ, List, [], ◌∷◌, ◌++◌, length, set, take, drop, sym, ap, ◌∙◌, arith}
use Rattle.greedy_rules.specs.declared.flows.Flow.{Flow}
use Rattle.greedy_rules.specs.Schedule.{slot_in}
use Rattle.std.proofs.lemmas.List.{append_assoc, length-append, length-take, set_at, take_more, drop_more}
use Rattle.greedy_rules.proofs.slots.SlotTable.copy.Goals as goal

-- a slot more is copied
one_more : (to slot : ℕ) (old from : List (List Flow)) → slot < length from → to + slot < length old
    → set (take to old ++ (take slot from ++ drop (to + slot) old)) (to + slot) (slot_in from slot) ≡ take to old ++ (take (slot + 1) from ++ drop (to + (slot + 1)) old)
one_more to slot old from below within =
    let front : List (List Flow) = take to old ++ take slot from in
    let new : List Flow = slot_in from slot in
    let was : List Flow = slot_in old (to + slot) in
    let rest : List (List Flow) = drop (to + slot + 1) old in
    let next : to + slot + 1 ≡ to + (slot + 1) = omega arith in
    let here : length front ≡ to + slot = omega (arith, length-append (take to old) (take slot from), length-take to old, length-take slot from, below, within) in
    ap (λ (xs : List (List Flow)). set xs (to + slot) new) (sym (append_assoc (take to old) (take slot from) (drop (to + slot) old)))
    ∙ (ap (λ (xs : List (List Flow)). set (front ++ xs) (to + slot) new) (drop_more old (to + slot) [] (omega (arith, below, within)))
    ∙ (set_at front was rest new (to + slot) here
    ∙ (append_assoc (take to old) (take slot from) (new ∷ rest)
    ∙ (ap (λ (xs : List (List Flow)). take to old ++ xs) (sym (append_assoc (take slot from) (new ∷ []) rest))
    ∙ (ap (λ (xs : List (List Flow)). take to old ++ (xs ++ rest)) (sym (take_more from slot [] below))
    ∙ ap (λ (n : ℕ). take to old ++ (take (slot + 1) from ++ drop n old)) next)))))

pub overflow_add-to : goal.overflow_add-to
overflow_add-to c = omega (arith, c.requires.places, c.loop-slot-test.true, c.slots-slots.ensures.count, c.slots-slot-end.ensures.count)

pub loop-slot-preserved : goal.loop-slot-preserved
loop-slot-preserved c = record {
  slots = c.copy_slot.ensures.slots
      ∙ (ap (λ (xs : List (List Flow)). set xs (c.args.to + c.loop-slot.slot) (slot_in c.args.from.now.slots c.loop-slot.slot)) c.loop-slot.invariant.slots
      ∙ one_more c.args.to c.loop-slot.slot c.args.self.now.slots c.args.from.now.slots (omega (arith, c.loop-slot-test.true, c.slots-slot-end.ensures.count)) (omega (arith, c.loop-slot-test.true, c.slots-slot-end.ensures.count, c.requires.places)));
  endpoints = c.copy_slot.ensures.endpoints ∙ c.loop-slot.invariant.endpoints;
}

-- Slots to which a flow is added at some places: place by place, as a whole, and what they then hold.
use Rattle.std.proofs.Common.{◌≡◌, ◌≢◌, ◌<◌, ℕ, List, [], length, set, Bool, true, false, ◌&&◌, ◌||◌, cond, refl, sym, ap, ◌∙◌, arith, inl, inr}
use Rattle.std.specs.List.{list_any}
use Rattle.std.proofs.lemmas.Bool.{cases_eq}
use Rattle.std.proofs.lemmas.List.{get_or-set_same, get_or-set_other, length-set, ext_get_or}
use Rattle.greedy_rules.specs.declared.flows.Flow.{Flow}
use Rattle.greedy_rules.specs.Slot.{slot_with}
use Rattle.greedy_rules.specs.Schedule.{slot_in}
use Rattle.greedy_rules.proofs.Facts.{any-slot_with}
use Rattle.slot_batches.specs.FreePlaces.{HasAdded}

pub added-none : (flow : Flow) (places : ℕ → Bool) (slots : List (List Flow)) → ((place : ℕ) → places place ≡ false) → HasAdded flow places slots slots
added-none flow places slots none = record {
  count = refl;
  each = λ place within. sym (ap (λ (b : Bool). cond b (slot_with flow (slot_in slots place)) (slot_in slots place)) (none place));
}

pub added-same : (flow : Flow) (places places' : ℕ → Bool) (old new : List (List Flow)) → ((place : ℕ) → places place ≡ places' place) → HasAdded flow places old new → HasAdded flow places' old new
added-same flow places places' old new same added = record {
  count = added.count;
  each = λ place within. added.each place within ∙ ap (λ (b : Bool). cond b (slot_with flow (slot_in old place)) (slot_in old place)) (same place);
}

-- a place without the flow is as it was
pub added-not_yet : (flow : Flow) (places : ℕ → Bool) (old new : List (List Flow)) (place : ℕ) → HasAdded flow places old new → place < length old → places place ≡ false → slot_in new place ≡ slot_in old place
added-not_yet flow places old new place added within not_yet =
    added.each place within ∙ ap (λ (b : Bool). cond b (slot_with flow (slot_in old place)) (slot_in old place)) not_yet

-- one place more
pub added-one : (flow : Flow) (places more : ℕ → Bool) (old new : List (List Flow)) (place : ℕ) → HasAdded flow places old new → place < length old → places place ≡ false
    → more place ≡ true → ((other : ℕ) → other ≢ place → more other ≡ places other) → HasAdded flow more old (set new place (slot_with flow (slot_in new place)))
added-one flow places more old new place added within before now others = record {
  count = length-set new place (slot_with flow (slot_in new place)) ∙ added.count;
  each = λ at below.
      let then : (p : Bool) → List Flow = λ p. cond p (slot_with flow (slot_in old at)) (slot_in old at) in
      elim (cases_eq at place) [
        | inl here ↦
            let as_before : slot_in new place ≡ slot_in old place = added-not_yet flow places old new place added within before in
            ap (λ (n : ℕ). slot_in (set new place (slot_with flow (slot_in new place))) n) here
            ∙ (get_or-set_same new place (slot_with flow (slot_in new place)) [] (omega (arith, added.count))
            ∙ (ap (slot_with flow) (as_before ∙ ap (slot_in old) (sym here)) ∙ sym (ap then (ap more here ∙ now))))
        | inr other ↦
            get_or-set_other new place at (slot_with flow (slot_in new place)) [] other
            ∙ (added.each at below ∙ sym (ap then (others at other)))
      ];
}

-- they are known by their places
pub added-unique : (flow : Flow) (places : ℕ → Bool) (old new new' : List (List Flow)) → HasAdded flow places old new → HasAdded flow places old new' → new ≡ new'
added-unique flow places old new new' added added' =
    ext_get_or [] new new' (added.count ∙ sym added'.count)
    (λ place within. let below : place < length old = omega (arith, added.count) in added.each place below ∙ sym (added'.each place below))

any-then : (p : Flow → Bool) (flow : Flow) (here : Bool) (slot : List Flow) → list_any p (cond here (slot_with flow slot) slot) ≡ ((here && p flow) || list_any p slot)
any-then p flow true slot = any-slot_with p flow slot
any-then p flow false slot = refl

-- what a slot then holds
pub any-added : (p : Flow → Bool) (flow : Flow) (places : ℕ → Bool) (old new : List (List Flow)) (place : ℕ) → HasAdded flow places old new → place < length old
    → list_any p (slot_in new place) ≡ ((places place && p flow) || list_any p (slot_in old place))
any-added p flow places old new place added within = ap (list_any p) (added.each place within) ∙ any-then p flow (places place) (slot_in old place)

use Rattle.std.proofs.Common.{◌≡◌, ℕ, Vec, Global, List, [], length, drop, refl, sym, ap, ◌∙◌, subst, arith, inl}
use Rattle.std.specs.Vec.{with_items}
use Rattle.std.proofs.lemmas.List.{take_at}
use Rattle.greedy_rules.specs.Demands.{AreBelow, opened}
use Rattle.slot_batches.specs.Marks.{AreMarked}
use Rattle.slot_batches.specs.Parts.{fill_of}
use Rattle.slot_batches.specs.ArrayStands.{HasBeenFed, MayBeFed, array_endpoints}
use Rattle.slot_batches.proofs.StandsLemmas.{feeding_stands}
use Rattle.slot_batches.proofs.array_stage.ArrayStage.begin.Goals as goal

-- what is written back
written : (items : Vec ℕ Global) (new old : List ℕ) → old ≡ items.items → length new ≡ length old → (with_items items new).items ≡ new
written items new old old_is count = take_at new (drop (length new) items.items) items.len (omega (arith, count, ap length old_is, items.ok.0))

pub returns-clause-stands : goal.returns-clause-stands
returns-clause-stands c =
    let batch = c.args.batch.now in
    let new = c.begin.new.self in
    let same = c.begin.ensures.same in
    let may : MayBeFed batch.entries new.endpoints new.first_slot [] = record {
      in_order = λ i j d less within. absurd (omega (arith, within));
      once = λ i j d less within. absurd (omega (arith, within));
      in_range = λ k d within. absurd (omega (arith, within));
      below = λ k d within. absurd (omega (arith, within));
      others_open = λ k d within. absurd (omega (arith, within));
    } in
    let so_far : HasBeenFed batch [] (fill_of new) c.len-self-inside.result = record {
      positive = omega (arith, same.same_first, c.requires.first);
      small = c.begin.ensures.room.few_endpoints;
      rising = c.len-self-inside.ensures.rising;
      limits = same.same_limits ∙ c.limits.ensures.limits;
      opening = subst (λ (n : ℕ). AreBelow n (opened batch.entries)) (sym (same.same_endpoints ∙ ap array_endpoints c.self.view_is)) c.requires.in_range;
      may = may;
      taken = c.begin.ensures.empty;
      unopened_is = c.len-self-inside.ensures.entries;
    } in
    let marked : AreMarked batch.entries (with_items c.self.inside.marks c.mark_entries.new.words).items =
    subst (AreMarked batch.entries) (sym (written c.self.inside.marks c.mark_entries.new.words c.deref_mut.result.now c.deref_mut.ensures.value c.mark_entries.ensures.count)) c.mark_entries.ensures.marked in
    feeding_stands batch [] 0 _ so_far marked refl refl (inl refl)

use Rattle.std.proofs.Common.{◌<◌, ℕ, get_or, sym, ap, ◌∙◌, subst, arith, inl, inr}
use Rattle.std.proofs.lemmas.Bool.{cases_Bool, cases_eq, both_ways}
use Rattle.std.proofs.lemmas.List.{get_or_default}
use Rattle.greedy_rules.specs.declared.flows.Item.{Item}
use Rattle.endpoint_bitmaps.specs.Slots.{has_slot}
use Rattle.slot_batches.specs.Rests.{IsUndoubted}
use Rattle.slot_batches.proofs.DoubtLemmas.{bit_added, bit_kept, bit_joined}
use Rattle.slot_batches.proofs.doubts.doubts.Goals as goal

abbrev nothing : Item
nothing = record { flow = record { src = 0; dst = 0 }; need = 0; last = 0 }

pub loop-at-preserved : goal.loop-at-preserved
loop-at-preserved c =
    let items = c.args.items.now in
    let maps = c.args.filling.now.maps in
    let at : ℕ = c.loop-at.at in
    let old : ℕ = c.loop-at.doubted in
    let so_far = c.loop-at.invariant in
    let below : at < 64 = omega (arith, c.loop-at-test.true, c.requires.few) in
    let joined = bit_joined old at c.from.result c.is_doubted.result below c.from.ensures in
    elim (cases_Bool c.is_doubted.result) [
      | inl doubts ↦
          let is = joined.0 doubts in
          record {
            within = λ place has. elim (cases_eq place at) [
              | inl same ↦ omega (arith, same)
              | inr apart ↦ omega (arith, so_far.within place (sym (bit_kept old _ at place below is apart) ∙ has))
            ];
            others = λ entries marked place d before none. elim (cases_eq place at) [
              | inl same ↦ absurd (both_ways _ (ap (has_slot _) (sym same) ∙ none) (bit_added old _ at below is))
              | inr apart ↦ so_far.others entries marked place d (omega (arith, before, apart)) (sym (bit_kept old _ at place below is apart) ∙ none)
            ];
          }
      | inr rests ↦
          let is = joined.1 rests in
          record {
            within = λ place has. omega (arith, so_far.within place (ap (λ (n : ℕ). has_slot n place) (sym is) ∙ has));
            others = λ entries marked place d before none. elim (cases_eq place at) [
              | inl same ↦
                  subst (IsUndoubted entries maps) (get_or_default items at nothing d c.loop-at-test.true ∙ ap (λ (n : ℕ). get_or items n d) (sym same))
                  (c.is_doubted.ensures entries marked rests)
              | inr apart ↦ so_far.others entries marked place d (omega (arith, before, apart)) (ap (λ (n : ℕ). has_slot n place) (sym is) ∙ none)
            ];
          }
    ]

pub returns-clause-others : goal.returns-clause-others
returns-clause-others c = λ entries marked place d within none. c.loop-at.invariant.others entries marked place d (omega (arith, within, c.loop-at-test.false)) none

use Rattle.std.proofs.Common.{◌≡◌, ◌<◌, ◌==◌, ℕ, Bool, List, cond, length, sym, ap, subst, ◌∙◌, arith}
use Rattle.std.specs.Prelude.{is_some}
use Rattle.std.proofs.lemmas.List.{length-set}
use Rattle.greedy_rules.specs.declared.flows.Flow.{Flow}
use Rattle.greedy_rules.specs.Schedule.{slot_in}
use Rattle.greedy_rules.specs.SlotTable.{Slots, flows_from, destination_of, slots_of_rows}
use Rattle.greedy_rules.specs.Senders.{is_sender, HasSenderWords}
use Rattle.greedy_rules.proofs.SenderLemmas.{senders_of_set}
use Rattle.greedy_rules.proofs.slots.SlotTable.copy_slot.Goals as goal

pub invariant_of-self : goal.invariant_of-self
invariant_of-self c =
    let old = c.self.inside.rows in
    let from = c.from.inside.rows in
    let now = c.copy.new.self in
    let were : List (List Flow) = slots_of_rows old in
    let flows : List Flow = flows_from 0 c.row.result.now in
    let count : length (slots_of_rows now) ≡ length were = ap length c.copy.ensures.slots ∙ length-set were c.args.to flows in
    let below : c.args.to < length were = omega (arith, c.requires.to, ap (λ (t : Slots). length t.slots) c.self.view_is) in
    let inside_from : c.args.slot < length (slots_of_rows from) = omega (arith, c.requires.slot, ap (λ (t : Slots). length t.slots) c.from.view_is) in (
      c.copy.ensures.table,
      record {
        words = subst (λ (n : ℕ). HasSenderWords n now.endpoints c.copy-then-has_row.new.self) (sym count)
            (subst (λ (n : ℕ). HasSenderWords (length were) n c.copy-then-has_row.new.self) (sym c.copy.ensures.endpoints) (c.copy-then-has_row.ensures.words (length were) old.endpoints c.self.invariant.1.words));
        tell = λ at src inside.
            c.copy-then-has_row.ensures.copied at src
            ∙ (ap (λ (b : Bool). cond (at == c.args.to) (is_sender c.from.inside.senders c.args.slot src) b) (c.self.invariant.1.tell at src (subst (λ (n : ℕ). at < n) count inside))
            ∙ (ap (λ (b : Bool). cond (at == c.args.to) b (is_some (destination_of (slot_in were at) src)))
            (c.from.invariant.1.tell c.args.slot src inside_from ∙ ap (λ (f : List Flow). is_some (destination_of f src)) (sym c.row.ensures.flows))
            ∙ sym (ap (λ (xs : List (List Flow)). is_some (destination_of (slot_in xs at) src)) c.copy.ensures.slots ∙ senders_of_set were c.args.to flows at src below)));
      },
    )

use Rattle.std.proofs.Common.{◌≡◌, ◌<◌, ◌==◌, ℕ, Bool, List, None, cond, get_or, length, sym, ap, subst, ◌∙◌, arith}
use Rattle.std.specs.Prelude.{is_some}
use Rattle.std.proofs.lemmas.List.{length-set}
use Rattle.greedy_rules.specs.declared.flows.Flow.{Flow}
use Rattle.greedy_rules.specs.Schedule.{slot_in}
use Rattle.greedy_rules.specs.SlotTable.{Slots, flows_from, destination_of, slots_of_rows}
use Rattle.greedy_rules.specs.Senders.{HasSenderWords}
use Rattle.greedy_rules.proofs.RowLemmas.{destination-at}
use Rattle.greedy_rules.proofs.SenderLemmas.{senders_of_set}
use Rattle.greedy_rules.proofs.slots.SlotTable.write.Goals as goal

pub invariant_of-self : goal.invariant_of-self
invariant_of-self c =
    let old = c.self.inside.rows in
    let now = c.write.new.self in
    let row = c.args.row.now in
    let were : List (List Flow) = slots_of_rows old in
    let count : length (slots_of_rows now) ≡ length were = ap length c.write.ensures.slots ∙ length-set were c.args.slot (flows_from 0 row) in
    let below : c.args.slot < length were = omega (arith, c.requires.slot, ap (λ (t : Slots). length t.slots) c.self.view_is) in
    let held : (src : ℕ) → is_some (get_or row src None) ≡ is_some (destination_of (flows_from 0 row) src) = λ src. ap is_some (sym (destination-at 0 src src row (omega arith))) in (
      c.write.ensures.table,
      record {
        words = subst (λ (n : ℕ). HasSenderWords n now.endpoints c.note.new.self) (sym count)
            (subst (λ (n : ℕ). HasSenderWords (length were) n c.note.new.self) (sym c.write.ensures.endpoints) (c.note.ensures.words (length were) old.endpoints c.self.invariant.1.words));
        tell = λ at src inside.
            c.note.ensures.noted at src
            ∙ (ap (λ (b : Bool). cond (at == c.args.slot) (is_some (get_or row src None)) b) (c.self.invariant.1.tell at src (subst (λ (n : ℕ). at < n) count inside))
            ∙ (ap (λ (b : Bool). cond (at == c.args.slot) b (is_some (destination_of (slot_in were at) src))) (held src)
            ∙ sym (ap (λ (xs : List (List Flow)). is_some (destination_of (slot_in xs at) src)) c.write.ensures.slots ∙ senders_of_set were c.args.slot (flows_from 0 row) at src below)));
      },
    )

use Rattle.std.proofs.Common.{◌≡◌, ◌<◌, ◌==◌, ◌&&◌, ◌||◌, ℕ, Bool, List, length, sym, ap, subst, ◌∙◌, arith}
use Rattle.std.specs.Prelude.{is_some}
use Rattle.std.proofs.lemmas.List.{length-set}
use Rattle.greedy_rules.specs.declared.flows.Flow.{Flow}
use Rattle.greedy_rules.specs.Slot.{slot_with}
use Rattle.greedy_rules.specs.Schedule.{slot_in}
use Rattle.greedy_rules.specs.SlotTable.{Slots, destination_of, slots_of_rows}
use Rattle.greedy_rules.specs.Senders.{HasSenderWords}
use Rattle.greedy_rules.proofs.SenderLemmas.{senders_of_put}
use Rattle.greedy_rules.proofs.slots.SlotTable.put.Goals as goal

pub invariant_of-self : goal.invariant_of-self
invariant_of-self c =
    let old = c.self.inside.rows in
    let now = c.put.new.self in
    let were : List (List Flow) = slots_of_rows old in
    let flow : Flow = record { src = c.args.src; dst = c.args.dst } in
    let count : length (slots_of_rows now) ≡ length were = ap length c.put.ensures.slots ∙ length-set were c.args.slot (slot_with flow (slot_in were c.args.slot)) in
    let below : c.args.slot < length were = omega (arith, c.requires.slot_in_range, ap (λ (t : Slots). length t.slots) c.self.view_is) in (
      c.put.ensures.table,
      record {
        words = subst (λ (n : ℕ). HasSenderWords n now.endpoints c.set.new.self) (sym count)
            (subst (λ (n : ℕ). HasSenderWords (length were) n c.set.new.self) (sym c.put.ensures.endpoints) (c.set.ensures.words (length were) old.endpoints c.self.invariant.1.words));
        tell = λ at src inside.
            c.set.ensures.set at src
            ∙ (ap (λ (b : Bool). b || ((at == c.args.slot) && (src == c.args.src))) (c.self.invariant.1.tell at src (subst (λ (n : ℕ). at < n) count inside))
            ∙ sym (ap (λ (xs : List (List Flow)). is_some (destination_of (slot_in xs at) src)) c.put.ensures.slots ∙ senders_of_put were c.args.slot flow at src below));
      },
    )

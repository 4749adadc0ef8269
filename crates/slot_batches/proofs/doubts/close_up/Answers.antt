use Rattle.std.proofs.Common.{◌≡◌, ◌+◌, ◌==◌, ℕ, length, cond, get_or, drop, sym, ap, ◌∙◌, arith}
use Rattle.std.specs.Int.{bit_at}
use Rattle.std.proofs.lemmas.List.{length-set, drop-set-lt, drop-drop, take_all}
use Rattle.greedy_rules.specs.declared.flows.Item.{Item}
use Rattle.endpoint_bitmaps.specs.Slots.{has_slot}
use Rattle.endpoint_bitmaps.proofs.Facts.{has_slot-none}
use Rattle.slot_batches.proofs.BusyLemmas.{one_or_none}
use Rattle.slot_batches.proofs.FedByDoubts.{closed, fewer, all_left}
use Rattle.slot_batches.proofs.doubts.close_up.Goals as goal

abbrev nothing : Item
nothing = record { flow = record { src = 0; dst = 0 }; need = 0; last = 0 }

pub loop-at-preserved : goal.loop-at-preserved
loop-at-preserved c =
    let old = c.args.items.now in
    let items = c.loop-at.items in
    let at : ℕ = c.loop-at.at in
    let to : ℕ = c.loop-at.to in
    let so_far = c.loop-at.invariant in
    let here : Item = get_or items at nothing in
    let counts : c.from-to.result ≡ cond (bit_at c.args.gone at == 0) 1 0 = c.from-to.ensures ∙ one_or_none (bit_at c.args.gone at == 0) in
    record {
      before = fewer c.args.gone old items to at c.from-to.result nothing c.loop-at-test.true so_far.length so_far.before so_far.left so_far.to_come counts;
      length = length-set items to here ∙ so_far.length;
      left = closed c.args.gone old items to at c.from-to.result nothing c.loop-at-test.true so_far.length so_far.before so_far.left so_far.to_come counts;
      to_come = drop-set-lt (at + 1) items to here (omega (arith, so_far.before)) ∙ (sym (drop-drop 1 at items) ∙ (ap (drop 1) so_far.to_come ∙ drop-drop 1 at old));
    }

pub returns-then-gone-eq0-clause-left : goal.returns-then-gone-eq0-clause-left
returns-then-gone-eq0-clause-left c =
    let items = c.args.items.now in
    take_all (length items) items (omega arith)
    ∙ sym (all_left c.args.gone 0 items (λ k from. ap (λ (n : ℕ). has_slot n k) c.if-gone-eq0.true ∙ has_slot-none k))

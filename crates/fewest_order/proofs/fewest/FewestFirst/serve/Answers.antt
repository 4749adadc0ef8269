use Rattle.std.proofs.Common.{List, length, sym, ap, subst, arith}
use Rattle.std.specs.List.Sorted.{IsNonDecreasingBy}
use Rattle.greedy_rules.specs.declared.flows.Entry.{Entry}
use Rattle.greedy_rules.specs.Examples.{remaining}
use Rattle.slot_batches.specs.Filled.{MayBeTakenUp}
use Rattle.fewest_order.specs.FewestFirst.{Fewest, MayServe}
use Rattle.fewest_order.proofs.ServeLemmas.{length-applied}
use Rattle.fewest_order.proofs.PlaceLemmas.{need_of}
use Rattle.fewest_order.proofs.FewestLemmas.{fits_pairs, may_fill, applied_in_order}
use Rattle.fewest_order.proofs.fewest.FewestFirst.serve.Goals as goal

pub apply-requires-clause-items : goal.apply-requires-clause-items
apply-requires-clause-items c =
    let f = c.self.inside in
    let may : MayServe f.turns.endpoints f.turns.b c.args.first_slot c.args.batch.now.entries f.items.items =
    subst (λ (s : Fewest). MayServe s.endpoints s.b c.args.first_slot c.args.batch.now.entries s.items) (sym c.self.view_is) c.requires in
    omega (arith, fits_pairs f.turns.endpoints f.turns.b c.args.first_slot c.args.batch.now.entries f.items.items c.len-entries.ensures.rising may, c.self.invariant.0)

pub apply-requires-clause-kept : goal.apply-requires-clause-kept
apply-requires-clause-kept c =
    let f = c.self.inside in
    let may : MayServe f.turns.endpoints f.turns.b c.args.first_slot c.args.batch.now.entries f.items.items =
    subst (λ (s : Fewest). MayServe s.endpoints s.b c.args.first_slot c.args.batch.now.entries s.items) (sym c.self.view_is) c.requires in
    omega (arith, fits_pairs f.turns.endpoints f.turns.b c.args.first_slot c.args.batch.now.entries f.items.items c.len-entries.ensures.rising may, c.self.invariant.1)

pub apply-requires-clause-raised : goal.apply-requires-clause-raised
apply-requires-clause-raised c =
    let f = c.self.inside in
    let may : MayServe f.turns.endpoints f.turns.b c.args.first_slot c.args.batch.now.entries f.items.items =
    subst (λ (s : Fewest). MayServe s.endpoints s.b c.args.first_slot c.args.batch.now.entries s.items) (sym c.self.view_is) c.requires in
    omega (arith, fits_pairs f.turns.endpoints f.turns.b c.args.first_slot c.args.batch.now.entries f.items.items c.len-entries.ensures.rising may, c.self.invariant.2)

pub apply-requires-clause-lowered : goal.apply-requires-clause-lowered
apply-requires-clause-lowered c =
    let f = c.self.inside in
    let may : MayServe f.turns.endpoints f.turns.b c.args.first_slot c.args.batch.now.entries f.items.items =
    subst (λ (s : Fewest). MayServe s.endpoints s.b c.args.first_slot c.args.batch.now.entries s.items) (sym c.self.view_is) c.requires in
    omega (arith, fits_pairs f.turns.endpoints f.turns.b c.args.first_slot c.args.batch.now.entries f.items.items c.len-entries.ensures.rising may, c.self.invariant.3)

pub fill-requires-clause-order : goal.fill-requires-clause-order
fill-requires-clause-order c =
    subst (IsNonDecreasingBy need_of) (sym c.in_ok-apply.ensures.items) (applied_in_order c.args.batch.now.entries c.self.inside.items.items)

pub fill-requires-clause-may : goal.fill-requires-clause-may
fill-requires-clause-may c =
    let f = c.self.inside in
    let may : MayServe f.turns.endpoints f.turns.b c.args.first_slot c.args.batch.now.entries f.items.items =
    subst (λ (s : Fewest). MayServe s.endpoints s.b c.args.first_slot c.args.batch.now.entries s.items) (sym c.self.view_is) c.requires in
    subst (MayBeTakenUp f.turns.endpoints c.args.first_slot) (sym c.in_ok-apply.ensures.items)
    (may_fill f.turns.endpoints f.turns.b c.args.first_slot c.args.batch.now.entries f.items.items c.len-entries.ensures.rising may)

pub fill-requires-clause-room : goal.fill-requires-clause-room
fill-requires-clause-room c =
    let f = c.self.inside in
    let entries : List Entry = c.args.batch.now.entries in
    let may : MayServe f.turns.endpoints f.turns.b c.args.first_slot entries f.items.items =
    subst (λ (s : Fewest). MayServe s.endpoints s.b c.args.first_slot entries s.items) (sym c.self.view_is) c.requires in
    omega (
      arith,
      ap length c.in_ok-apply.ensures.items,
      length-applied remaining entries f.items.items,
      fits_pairs f.turns.endpoints f.turns.b c.args.first_slot entries f.items.items c.len-entries.ensures.rising may,
      c.apply.ensures.raised_room,
      c.self.invariant.2,
    )

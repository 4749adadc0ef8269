use Rattle.std.proofs.Common.{All, sym, subst, arith}
use Rattle.greedy_rules.specs.Limits.{is_barred}
use Rattle.slot_batches.specs.Feeding.{IsServedWithin}
use Rattle.slot_batches.proofs.FilledLemmas.{fits_waiting}
use Rattle.slot_batches.proofs.ServedSlots.{all_within}
use Rattle.slot_batches.proofs.filling.Filling.end.Goals as goal

pub append_served-requires-clause-room : goal.append_served-requires-clause-room
append_served-requires-clause-room c = omega (arith, fits_waiting c.requires.taken_up.0 c.args.self.now c.requires.room c.requires.taken_up.1, c.deref.ensures.len)

pub append_served-requires-clause-within : goal.append_served-requires-clause-within
append_served-requires-clause-within c =
    let f = c.args.self.now in
    let is = c.requires.taken_up.1 in
    subst (All (IsServedWithin f.first_slot f.b)) (sym c.deref.ensures.value)
    (all_within (is_barred f.maps.limits) f.first_slot f.b c.requires.taken_up.0 f.slots.slots f.waiting.items f.served.items is.stands is.may.below)

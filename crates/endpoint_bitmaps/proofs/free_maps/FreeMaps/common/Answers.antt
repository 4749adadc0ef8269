use Rattle.std.proofs.Common.{rules, ◌≡◌, ◌<◌, ℕ, true, false, ◌&&◌, length, sym, ap, ◌∙◌, arith}
use Rattle.endpoint_bitmaps.specs.Slots.{has_slot}
use Rattle.endpoint_bitmaps.proofs.WordLemmas.{has_slot-none}
use Rattle.std.specs.Prelude.{vec_len}
use Rattle.endpoint_bitmaps.specs.FreeSlots.{FreeSlots, is_free_to_send, may_receive, needs_links}
use Rattle.endpoint_bitmaps.proofs.MapLemmas.{none_common}
use Rattle.endpoint_bitmaps.proofs.RackLemmas.{rack_read, common_with}
use Rattle.endpoint_bitmaps.proofs.free_maps.FreeMaps.common.Goals as goal

pub returns : goal.returns
returns c = λ slot.
    let m = c.self.inside in
    let src_below : c.args.src < length m.senders.items = omega (arith, ap (λ (v : FreeSlots). v.endpoints) c.self.view_is, m.senders.ok, c.requires.src_in_range) in
    let dst_below : c.args.dst < length m.senders.items = omega (arith, ap (λ (v : FreeSlots). v.endpoints) c.self.view_is, m.senders.ok, c.requires.dst_in_range) in
    let needed : needs_links c.args.self.now c.args.src c.args.dst ≡ true = sym c.needs_links.ensures ∙ c.if-not-needs_links.false in
    rw (← c.self.view_is)
    (common_with (vec_len m.senders) m.limits m.senders.items m.receivers.items m.racks.items m.leaving.taken.items m.leaving.left.items m.entering.taken.items m.entering.left.items c.self.invariant.0
    c.args.src c.args.dst c.index-from.result.now c.index-to.result.now _ c.index.result.now c.index-2.result.now slot src_below dst_below (search rules)
    (rack_read (vec_len m.senders) m.limits m.senders.items m.receivers.items m.racks.items m.leaving.taken.items m.leaving.left.items m.entering.taken.items m.entering.left.items c.self.invariant.0
    c.args.src c.index-from.result.now src_below c.index-from.ensures)
    (rack_read (vec_len m.senders) m.limits m.senders.items m.receivers.items m.racks.items m.leaving.taken.items m.leaving.left.items m.entering.taken.items m.entering.left.items c.self.invariant.0
    c.args.dst c.index-to.result.now dst_below c.index-to.ensures)
    (ap (λ (v : FreeSlots). needs_links v c.args.src c.args.dst) c.self.view_is ∙ needed)
    c.index.ensures c.index-2.ensures
    (c.may_share-free.ensures slot ∙ ap (λ (v : FreeSlots). is_free_to_send v c.args.src slot && may_receive v c.args.dst slot) (sym c.self.view_is)))

pub returns-then-free-eq0 : goal.returns-then-free-eq0
returns-then-free-eq0 c = λ slot.
    let maps = c.args.self.now in
    let none : false ≡ (is_free_to_send maps c.args.src slot && may_receive maps c.args.dst slot) =
    sym (ap (λ (n : ℕ). has_slot n slot) c.if-free-eq0.true ∙ has_slot-none slot) ∙ c.may_share-free.ensures slot in
    has_slot-none slot ∙ none_common maps c.args.src c.args.dst slot none

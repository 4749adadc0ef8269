use Rattle.std.proofs.Common.{ℕ, get_or, sym, ap, ◌∙◌}
use Rattle.std.proofs.lemmas.Bool.{eqb-true, eq-eqb}
use Rattle.endpoint_bitmaps.specs.Slots.{has_slot}
use Rattle.endpoint_bitmaps.proofs.WordLemmas.{has_slot-none}
use Rattle.endpoint_bitmaps.proofs.NamingLemmas.{none_named, none_names, names_none}
use Rattle.endpoint_bitmaps.proofs.free_maps.FreeMaps.none_may_send.Goals as goal

pub returns : goal.returns
returns c =
    let m = c.self.inside in
    let words = m.senders.items in
    rw (← c.self.view_is) (
      (λ is. λ src slot. ap (λ (n : ℕ). has_slot n slot) (none_named words (sym c.self.invariant.1 ∙ eqb-true m.sending 0 is) src) ∙ has_slot-none slot),
      (λ none. eq-eqb m.sending 0 (c.self.invariant.1 ∙ none_names words (λ at below. names_none (get_or words at 0) (none at)))),
    )

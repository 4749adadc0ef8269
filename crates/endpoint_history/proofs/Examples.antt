-- The worked rounds, computed.
use Rattle.std.specs.Prelude.{◌≡◌, [], ◌∷◌, refl}
use Rattle.endpoint_history.specs.Examples.{entries_in, slots_sent_in, counts_after, closed_span, entry_opening, entry_adding, slot, Show, WorkedRounds}

closed-ends : counts_after closed_span ≡ record { demanded = 1; acknowledged = 1; lost = 1; sent = 1; missed = 0 }
unfolding counts_after
closed-ends = refl

closed-records : entries_in closed_span ≡ (1, entry_opening 1) ∷ (73, entry_adding 1) ∷ []
unfolding entries_in
closed-records = refl

closed-sends : slots_sent_in closed_span ≡ (77, slot 74) ∷ []
unfolding slots_sent_in
closed-sends = refl

closed_rounds : Show closed_span ((1, entry_opening 1) ∷ (73, entry_adding 1) ∷ []) ((77, slot 74) ∷ []) (record { demanded = 1; acknowledged = 1; lost = 1; sent = 1; missed = 0 })
closed_rounds = record { records = closed-records; sends = closed-sends; ends = closed-ends }

pub worked_rounds : WorkedRounds
unfolding entries_in slots_sent_in counts_after
worked_rounds = record {
  one = record { records = refl; sends = refl; ends = refl };
  lost = record { records = refl; sends = refl; ends = refl };
  in_time = record { records = refl; sends = refl; ends = refl };
  missed = record { records = refl; sends = refl; ends = refl };
  repeated = record { records = refl; sends = refl; ends = refl };
  old = record { records = refl; sends = refl; ends = refl };
  closed = closed_rounds;
  strays = record { records = refl; sends = refl; ends = refl };
  second = record { records = refl; sends = refl; ends = refl };
}

use Rattle.std.proofs.Common.{refl}
use Rattle.ack_window.specs.Arrivals.{bits_where}
use Rattle.ack_window.proofs.laws.small_connections.Goals as goal

pub returns-clause-first : goal.returns-clause-first
unfolding bits_where
returns-clause-first c = record {
  three_is_old = refl;
  four_is_fresh = refl;
  eight_is_a_repeat = refl;
  six_arrivals = refl;
  last_bit = refl;
  past_the_mask = refl;
  four_and_five_stay_open = refl;
  four_is_lost = refl;
  nothing_is_read_early = refl;
  one_is_left = refl;
  full_span = refl;
  first_acknowledged = refl;
}

pub returns-clause-second : goal.returns-clause-second
unfolding bits_where
returns-clause-second c = record {
  three_is_old = refl;
  four_is_fresh = refl;
  twenty_is_a_repeat = refl;
  six_arrivals = refl;
  last_bit = refl;
  past_the_mask = refl;
  two_are_lost = refl;
  three_are_lost = refl;
  one_is_left = refl;
  full_span = refl;
  first_acknowledged = refl;
}

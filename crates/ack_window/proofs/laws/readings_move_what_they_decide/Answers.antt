use Rattle.ack_window.proofs.Weights.{each_number_is_one_of_three, a_reading_moves_what_it_decides, weights_add_up}
use Rattle.ack_window.proofs.laws.readings_move_what_they_decide.Goals as goal

pub returns : goal.returns
returns g c = record {
  parts = each_number_is_one_of_three _;
  moved = a_reading_moves_what_it_decides _;
  sums = weights_add_up _;
}

-- The laws of the windows.
use Rattle.endpoint_history.proofs.laws.windows_hold.Goals as goal

pub returns : goal.returns
returns c = record {
  once = c.each_number_is_taken_once.ensures.once;
  come = c.each_number_is_taken_once.ensures.come;
  for_good = c.each_number_is_taken_once.ensures.for_good;
  up = c.both_ends_of_a_direction_agree.ensures.agreement;
  up_newest = c.each_number_keeps_its_content.ensures.newest;
  up_packets = c.both_ends_of_a_direction_agree.ensures.packets;
  down = c.both_ends_of_a_direction_agree-2.ensures.agreement;
  down_newest = c.each_number_keeps_its_content-2.ensures.newest;
  down_packets = c.both_ends_of_a_direction_agree-2.ensures.packets;
  sums = c.readings_move_what_they_decide.ensures.sums;
  moved = c.readings_move_what_they_decide.ensures.moved;
  parts = c.readings_move_what_they_decide.ensures.parts;
}

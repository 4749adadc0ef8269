-- A desk for two endpoints beside both of its seats; for tests alone. From this project's own profile.
use Rattle.std.specs.Prelude.{◌≡◌, List, [], ◌∷◌}
use Rattle.front_desk.specs.declared.progress.Progress.TheVariants.{Open}
use Rattle.front_desk.specs.State.{SeatState, LineState, IsSeatOf}

-- the first seat is endpoint 0's, the second endpoint 1's; each takes 4 packets, and neither was closed
pub record AreOpenForTwo (desk : List LineState) (first second : SeatState) : Type 0 where
  pub one : LineState
  pub other : LineState
  pub lines : desk ≡ one ∷ other ∷ []
  pub first_is : first.endpoint ≡ 0
  pub second_is : second.endpoint ≡ 1
  pub first_room : first.room ≡ 4
  pub second_room : second.room ≡ 4
  pub first_seat : IsSeatOf first one
  pub second_seat : IsSeatOf second other
  pub first_open : one.progress ≡ Open
  pub second_open : other.progress ≡ Open

-- An endpoint's rounds are calls of both ends, in order, whose packets come from the other end. From this project's own profile.
use Rattle.std.specs.Prelude.{◌≡◌, ℕ, List, ◌++◌, length}
use Rattle.endpoint_history.specs.Sending.{rounds_sent, SendsRise}
use Rattle.endpoint_history.specs.Entries.{rounds_recorded}
use Rattle.endpoint_history.specs.Steps.{Step, agent_of, lane_of, ArrivesFromOther, rounds_begun, ups_made, RoundsRise, TakesInRound, ArrivesFromLane}
use Rattle.endpoint_history.specs.Rounds.{Round, played, NamedByNoRaw}

-- where no raw row names the endpoint, no packet is forged
abbrev pub RoundsArriveFromOther : Type 0
RoundsArriveFromOther =
    (endpoints g : ℕ) (rounds : List Round) → NamedByNoRaw rounds → ArrivesFromOther endpoints g (played endpoints g rounds).steps

-- these steps go on from those
pub record GoesOn (earlier steps : List Step) : Type 0 where
  pub later : List Step
  pub parts : steps ≡ later ++ earlier

-- what was at the end of some round is an earlier moment of all that follow
abbrev pub RoundsGoOn : Type 0
RoundsGoOn =
    (endpoints g : ℕ) (later earlier : List Round) → GoesOn (played endpoints g earlier).steps (played endpoints g (later ++ earlier)).steps

-- in any case the agent hears what the lane made, and each round's calls are made once
pub record StepsAreInOrder (g : ℕ) (count : ℕ) (steps : List Step) : Type 0 where
  pub from_lane : ArrivesFromLane g steps
  pub rise : RoundsRise (lane_of steps)
  pub takes : TakesInRound (lane_of steps)
  pub sends : SendsRise (agent_of steps)
  pub recorded : rounds_recorded (lane_of steps) ≡ count
  pub sent : rounds_sent (agent_of steps) ≡ count
  pub begun : rounds_begun (lane_of steps) ≡ count
  pub made : ups_made (agent_of steps) ≡ count

abbrev pub RoundsAreInOrder : Type 0
RoundsAreInOrder = (endpoints g : ℕ) (rounds : List Round) → StepsAreInOrder g (length rounds) (played endpoints g rounds).steps

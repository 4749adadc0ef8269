-- What a desk keeps for an endpoint stands for the packets that were taken of its ring; for the parts of a desk alone. From this
-- project's own profile.
use Rattle.std.specs.Prelude.{◌≡◌, ◌≢◌, ◌≤◌, ℕ, List, [], Some, slice_get, vec_capacity}
use Rattle.rtrb.specs.Ring.{received, consumer_capacity}
use Rattle.arbiter_lane.specs.State.{LaneState}
use Rattle.arbiter_lane.specs.Standing as lanes
use Rattle.front_desk.specs.declared.line.Line.{Line}
use Rattle.front_desk.specs.declared.progress.Progress.TheVariants.{Recorded}
use Rattle.front_desk.specs.State.{LineState, ring_of_consumer}
use Rattle.front_desk.specs.Answers.{calls_of, answers_of}

abbrev pub state_of : Line → LineState
state_of line = record {
  ring = ring_of_consumer line.ring;
  room = consumer_capacity line.ring;
  b = line.lane.b;
  g = line.lane.g;
  taken = received line.ring;
  progress = line.progress;
}

-- a lane of this endpoint read these packets in round 0, and these are its answers
pub record HasRead (endpoint endpoints : ℕ) (lane : LaneState) (packets : List (List ℕ)) (answers : List ℕ) : Type 0 where
  pub endpoint_is : lane.endpoint ≡ endpoint
  pub endpoints_are : lane.endpoints ≡ endpoints
  pub round : lane.round ≡ 0
  pub stands : lanes.LaneStandsFor lane (calls_of endpoint endpoints packets) []
  pub answers_are : answers ≡ answers_of endpoint endpoints packets

-- the line of this endpoint: its answers are kept, with room for all; its lane has read the packets until its entries are recorded
pub record IsDeskLine (endpoint endpoints : ℕ) (line : Line) : Type 0 where
  pub room : consumer_capacity line.ring ≤ vec_capacity line.answers
  pub answers_are : line.answers.items ≡ answers_of endpoint endpoints (received line.ring)
  pub reads : line.progress ≢ Recorded → HasRead endpoint endpoints line.lane (received line.ring) line.answers.items

abbrev pub AreDeskLines : ℕ → List Line → Type 0
AreDeskLines endpoints lines = (endpoint : ℕ) (line : Line) → slice_get lines endpoint ≡ Some line → IsDeskLine endpoint endpoints line

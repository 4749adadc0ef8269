-- What the lane of an endpoint answers to packets that arrive one after the other in one round, and what the lanes record of them.
-- From this project's own profile.
use Rattle.std.specs.Prelude.{ℕ, ◌+◌, List, [], ◌∷◌, ◌++◌, Option, Some, None}
use Rattle.std.specs.List.{filter_map, range_with_len}
use Rattle.greedy_rules.specs.declared.flows.Entry.{Entry}
use Rattle.endpoint_history.specs.Lane.{LaneHistory, MakesDown}
use Rattle.endpoint_history.specs.Entries.{next_entry}
use Rattle.arbiter_lane.specs.declared.refusal.UpRefused.{UpRefused}
use Rattle.arbiter_lane.specs.Refusals.{up_refusal}
use Rattle.lane_rounds.specs.Refused.{up_refusal_number, with_arrival}
use Rattle.front_desk.specs.State.{LineState}

-- 0 where a packet is accepted, else the number of its refusal
abbrev pub answer_number : Option UpRefused → ℕ
answer_number None = 0
answer_number (Some refusal) = up_refusal_number refusal

module _ (endpoint endpoints : ℕ) where
  -- a lane's calls with these packets after them, all in round 0
  abbrev pub arrived_after : List (List ℕ) → LaneHistory → LaneHistory
  arrived_after [] history = history
  arrived_after (bytes ∷ packets) history = arrived_after packets (with_arrival endpoint endpoints 0 bytes history)

  -- what each of them is answered, by the lane as it then stands
  abbrev pub answers_after : List (List ℕ) → LaneHistory → List ℕ
  answers_after [] history = []
  answers_after (bytes ∷ packets) history =
      answer_number (up_refusal endpoint endpoints history bytes) ∷ answers_after packets (with_arrival endpoint endpoints 0 bytes history)

  -- a lane's calls in round 0 with these packets, once its own packet was made, which tells nothing
  abbrev pub calls_of : List (List ℕ) → LaneHistory
  calls_of packets = arrived_after packets (MakesDown 0 [] ∷ [])

  abbrev pub answers_of : List (List ℕ) → List ℕ
  answers_of packets = answers_after packets (MakesDown 0 [] ∷ [])

  -- the entries that the lane then records
  abbrev pub entries_of : ℕ → List (List ℕ) → List Entry
  entries_of g packets = filter_map (next_entry endpoint g (calls_of packets)) (range_with_len 0 endpoints)

-- those of all lines, by rising endpoint from this one on
abbrev pub desk_entries_from : ℕ → ℕ → List LineState → List Entry
desk_entries_from endpoints endpoint [] = []
desk_entries_from endpoints endpoint (line ∷ lines) = entries_of endpoint endpoints line.g line.taken ++ desk_entries_from endpoints (endpoint + 1) lines

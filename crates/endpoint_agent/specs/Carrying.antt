-- What is stored in place of the contents of all requests: which numbers may carry a flow's present total, and the greatest that
-- is acknowledged (this project's own profile).
use Rattle.std.specs.Prelude.{ℕ, ◌+◌, max, Bool, ◌==◌, List, [], ◌∷◌, map, if◌then◌else◌}
use Rattle.ack_window.specs.declared.send_window.Decided.{Decided}
use Rattle.ack_window.specs.declared.send_window.Unresolved.{Unresolved}
use Rattle.ack_window.specs.Acknowledgement.{is_acknowledged}
use Rattle.ack_window.specs.Sends.{Event, Sends, Reads, newest_of, numbers_sent, decision_of}
use Rattle.fcp_framing.specs.declared.packet.Demand.{Demand}
use Rattle.endpoint_history.specs.Agent.{AgentHistory, Boots, Asks, TakesDown, MakesUp, SendsDue, asked, missed, numbers}

-- a number without what its request names
abbrev pub bare : Event (List Demand) → Event (Unit {0})
bare (Sends demands) = Sends tt
bare (Reads ack) = Reads ack

abbrev pub bare_numbers : ℕ → ℕ → AgentHistory → List (Event (Unit {0}))
bare_numbers endpoints g history = map bare (numbers endpoints g history)

module _ {T : Type 0} where
  -- the greatest of the numbers of which this holds, 0 for none
  abbrev pub greatest_in : (ℕ → Bool) → List (Unresolved T) → ℕ
  greatest_in test [] = 0
  greatest_in test (s ∷ sent) = if test s.number then max s.number (greatest_in test sent) else greatest_in test sent

  -- the greatest number that is acknowledged
  abbrev pub greatest_acknowledged : ℕ → ℕ → List (Event T) → ℕ
  greatest_acknowledged reorder span sent = greatest_in (λ number. is_acknowledged (decision_of reorder span sent number)) (numbers_sent sent)

-- the greatest of a number and those that an acknowledgement newly shows
abbrev pub greatest_shown : ℕ → List (Decided (Unit {0})) → ℕ
greatest_shown so_far [] = so_far
greatest_shown so_far (d ∷ decided) = greatest_shown (if d.lost then so_far else max so_far d.number) decided

-- the first number that may carry a flow's present total: the one after the newest when the total changed, 0 where it is still 0
abbrev pub carried_from : ℕ → ℕ → AgentHistory → ℕ → ℕ
carried_from endpoints g [] dst = 0
carried_from endpoints g (Boots version ∷ earlier) dst = 0
carried_from endpoints g (Asks to slots ∷ earlier) dst =
    if asked (Asks to slots ∷ earlier) dst == asked earlier dst
    then carried_from endpoints g earlier dst
    else newest_of (numbers endpoints g earlier) + 1
carried_from endpoints g (TakesDown round packet ∷ earlier) dst =
    if missed g (TakesDown round packet ∷ earlier) dst == missed g earlier dst
    then carried_from endpoints g earlier dst
    else newest_of (numbers endpoints g earlier) + 1
carried_from endpoints g (MakesUp ∷ earlier) dst = carried_from endpoints g earlier dst
carried_from endpoints g (SendsDue round ∷ earlier) dst = carried_from endpoints g earlier dst

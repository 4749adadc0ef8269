-- When a total is confirmed, as an agent can know it: by the greatest total that acknowledged requests carried. From this project's own profile.
use Rattle.std.specs.Prelude.{ℕ, ◌==◌, Bool, max, List, [], ◌∷◌, if◌then◌else◌}
use Rattle.ack_window.specs.declared.send_window.Decided.{Decided}
use Rattle.ack_window.specs.declared.send_window.Unresolved.{Unresolved}
use Rattle.ack_window.specs.Acknowledgement.{is_acknowledged}
use Rattle.ack_window.specs.Sends.{Event, numbers_sent, decision_of}
use Rattle.fcp_framing.specs.declared.packet.Demand.{Demand}

-- the greatest total named to a destination, 0 for none
abbrev pub total_named : ℕ → List Demand → ℕ
total_named dst [] = 0
total_named dst (d ∷ demands) = if d.dst == dst then max d.total (total_named dst demands) else total_named dst demands

-- the greatest total to a destination in the requests of which this holds
abbrev pub carried_in : (ℕ → Bool) → ℕ → List (Unresolved (List Demand)) → ℕ
carried_in test dst [] = 0
carried_in test dst (s ∷ sent) = if test s.number then max (total_named dst s.content) (carried_in test dst sent) else carried_in test dst sent

-- in those that are acknowledged
abbrev pub carried : ℕ → ℕ → List (Event (List Demand)) → ℕ → ℕ
carried reorder span sent dst = carried_in (λ number. is_acknowledged (decision_of reorder span sent number)) dst (numbers_sent sent)

-- in those that an acknowledgement newly shows
abbrev pub carried_by : List (Decided (List Demand)) → ℕ → ℕ
carried_by [] dst = 0
carried_by (d ∷ decided) dst = if d.lost then carried_by decided dst else max (total_named dst d.content) (carried_by decided dst)

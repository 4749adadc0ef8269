-- What the parts of an agent's calls do to the lines of its flows (this project's own profile).
use Rattle.std.specs.Prelude.{ℕ, ◌+◌, ◌-◌, ◌==◌, nat_lt, List, map, filter, if◌then◌else◌}
use Rattle.std.specs.List.{range_with_len}
use Rattle.fcp_framing.specs.declared.packet.Demand.{Demand}
use Rattle.fcp_framing.specs.declared.packet.Told.{Told}
use Rattle.endpoint_history.specs.Sending.{Slot}
use Rattle.endpoint_agent.specs.declared.lines.FlowLine.{FlowLine}
use Rattle.endpoint_agent.specs.declared.lines.Sent.{Sent}
use Rattle.endpoint_agent.specs.State.{line_at}

-- the slots as a history speaks of them
abbrev pub slots_sent : List Sent → List Slot
slots_sent sent = map (λ (s : Sent). record { slot = s.slot; dst = s.dst }) sent

-- a line with so many more slots missed, where the next request is the first that may carry the total
abbrev pub with_missed : ℕ → ℕ → FlowLine → FlowLine
with_missed next n line = record {
  asked = line.asked;
  sent = line.sent;
  missed = line.missed + n;
  carried_from = if n == 0 then line.carried_from else next;
}

-- a line with so many more slots asked for, where the next request is the first that may carry the total
abbrev pub with_asked : ℕ → ℕ → FlowLine → FlowLine
with_asked next n line = record {
  asked = line.asked + n;
  sent = line.sent;
  missed = line.missed;
  carried_from = if n == 0 then line.carried_from else next;
}

-- a line with so many more slots sent in
abbrev pub with_sent : ℕ → FlowLine → FlowLine
with_sent n line = record {
  asked = line.asked;
  sent = line.sent + n;
  missed = line.missed;
  carried_from = line.carried_from;
}

-- a flow with the total of its line
abbrev pub demand_at : List FlowLine → ℕ → Demand
demand_at lines dst = record { dst = dst; total = (line_at lines dst).asked + (line_at lines dst).missed }

-- the flows whose total no request up to this number carries
abbrev pub unconfirmed_in : ℕ → ℕ → List FlowLine → List Demand
unconfirmed_in acknowledged endpoints lines =
    map (demand_at lines) (filter (λ dst. nat_lt acknowledged (line_at lines dst).carried_from) (range_with_len 0 endpoints))

-- the slots of a batch, from its first one on
abbrev pub slots_from_first : ℕ → List Told → List Slot
slots_from_first first told = map (λ (t : Told). record { slot = first + t.offset; dst = t.dst }) told

-- how many slots are left of each flow
abbrev pub left_in : List FlowLine → ℕ → ℕ
left_in lines dst = (line_at lines dst).asked - (line_at lines dst).sent

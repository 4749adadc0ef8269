-- Worked rounds of endpoint 0 of two, with batches of one slot and windows of one round. From this project's own profile.
use Rattle.std.specs.Prelude.{◌≡◌, ℕ, zero, suc, true, false, List, [], ◌∷◌, ◌++◌, map, length, Some, None}
use Rattle.greedy_rules.specs.declared.flows.Entry.{Entry}
use Rattle.loss_world.specs.declared.fate.Fate.TheVariants.{Lose, Hold, Twice}
use Rattle.ack_window.specs.Arrivals.{bits_where}
use Rattle.endpoint_history.specs.Agent as agent
use Rattle.endpoint_history.specs.Sending.{Slot, sent_now, sends}
use Rattle.endpoint_history.specs.Lane as lane
use Rattle.endpoint_history.specs.Counts.{slots_in, recorded, acknowledged, lost}
use Rattle.endpoint_history.specs.Steps.{agent_of, lane_of}
use Rattle.endpoint_history.specs.Rounds.{Round, played, entries_by, sent_by}

-- ---- what rounds show: entries and slots with their rounds, and the counts of the flow to endpoint 1 at the end

pub record Counts : Type 0 where
  pub demanded : ℕ
  pub acknowledged : ℕ
  pub lost : ℕ
  pub sent : ℕ
  pub missed : ℕ

unfoldable pub entries_in : List Round → List (ℕ × Entry)
unfolding agent.is_current agent.takes agent.total agent.unconfirmed agent.sends_new agent.packet_up lane.is_current lane.takes lane.may_send lane.packet_down slots_in bits_where
entries_in [] = []
entries_in (round ∷ earlier) = entries_in earlier ++ map (λ entry. (length earlier, entry)) (entries_by 0 2 1 (round ∷ earlier))

unfoldable pub slots_sent_in : List Round → List (ℕ × Slot)
unfolding agent.is_current agent.takes agent.total agent.unconfirmed agent.sends_new agent.packet_up sent_now lane.is_current lane.takes lane.may_send lane.packet_down slots_in bits_where
slots_sent_in [] = []
slots_sent_in (round ∷ earlier) = slots_sent_in earlier ++ map (λ slot. (length earlier, slot)) (sent_by 2 1 1 (round ∷ earlier))

unfoldable pub counts_after : List Round → Counts
unfolding agent.is_current agent.takes agent.total agent.unconfirmed agent.sends_new agent.packet_up sent_now lane.is_current lane.takes lane.may_send lane.packet_down slots_in bits_where
counts_after rounds = record {
  demanded = recorded (lane_of (played 2 1 rounds).steps) 1;
  acknowledged = acknowledged 1 (lane_of (played 2 1 rounds).steps) 1;
  lost = lost 1 (lane_of (played 2 1 rounds).steps) 1;
  sent = sends 1 1 (agent_of (played 2 1 rounds).steps) 1;
  missed = agent.missed 1 (agent_of (played 2 1 rounds).steps) 1;
}

-- the rounds show this
pub record Show (rounds : List Round) (entries : List (ℕ × Entry)) (slots : List (ℕ × Slot)) (counts : Counts) : Type 0 where
  pub records : entries_in rounds ≡ entries
  pub sends : slots_sent_in rounds ≡ slots
  pub ends : counts_after rounds ≡ counts

-- ---- rounds, the latest first

-- nothing comes from outside; slots are asked for; the slot of the batch two rounds before is told
abbrev quiet : Round
quiet = record { boots = []; asks = []; up = None; down = None; raw = []; told = [] }

abbrev asking : ℕ → Round
asking slots = record quiet { asks = (1, slots) ∷ [] }

abbrev telling : Round
telling = record quiet { told = record { offset = 0; core = 0; dst = 1 } ∷ [] }

-- so many of them after others
abbrev then : ℕ → Round → List Round → List Round
then zero round earlier = earlier
then (suc n) round earlier = round ∷ then n round earlier

-- an entry that opens the flow, one that adds to it, and a slot
abbrev pub entry_opening : ℕ → Entry
entry_opening add = record { flow = record { src = 0; dst = 1 }; opens = true; clear = false; add = add }

abbrev pub entry_adding : ℕ → Entry
entry_adding add = record { flow = record { src = 0; dst = 1 }; opens = false; clear = false; add = add }

abbrev clearing : Entry
clearing = record { flow = record { src = 0; dst = 1 }; opens = false; clear = true; add = 0 }

abbrev pub slot : ℕ → Slot
slot number = record { slot = number; dst = 1 }

-- one slot is asked for; the allocation of round 3 tells it, and this is that round
abbrev one_slot_told : Round → List Round
one_slot_told third = third ∷ then 2 quiet (asking 1 ∷ [])

-- the allocation is lost; what is found lost is told again in round 10
abbrev lost_allocation : List Round
lost_allocation = then 3 quiet (telling ∷ then 6 quiet (one_slot_told (record telling { down = Some Lose })))

-- it comes so many rounds late
abbrev late_allocation : ℕ → List Round
late_allocation rounds = one_slot_told (record telling { down = Some (Hold rounds) })

-- the first request and the allocation both come twice
abbrev repeated_packets : List Round
repeated_packets = then 3 quiet (record telling { down = Some Twice } ∷ quiet ∷ record quiet { up = Some Twice } ∷ asking 1 ∷ [])

-- every packet of the rounds 3 to 72 is lost, so both ends have no new number left; the slot is told again in round 75
abbrev pub closed_span : List Round
closed_span =
    then 14 quiet (telling ∷ then 2 quiet (then 69 (record quiet { up = Some Lose; down = Some Lose }) (one_slot_told (record telling { up = Some Lose; down = Some Lose }))))

-- the endpoint boots in round 4 with slots on the way; a request of its first boot is held until round 6
abbrev boot_with_strays : List Round
boot_with_strays =
    then 3 quiet (telling ∷ quiet ∷ telling ∷ record telling { boots = 1 ∷ []; asks = (1, 1) ∷ [] }
    ∷ record telling { up = Some (Hold 3) } ∷ then 2 quiet (asking 5 ∷ []))

-- in the second version the allocation of round 3 is found lost in round 20, and the slot told again in round 22
abbrev second_version : List Round
second_version =
    then 3 quiet (telling ∷ then 18 quiet (record telling { down = Some Lose } ∷ then 2 quiet (record (asking 1) { boots = 2 ∷ [] } ∷ [])))

-- ---- what they show

pub record WorkedRounds : Type 0 where
  pub one : Show (then 3 quiet (one_slot_told telling)) ((1, entry_opening 1) ∷ []) ((5, slot 2) ∷ []) (record { demanded = 1; acknowledged = 1; lost = 0; sent = 1; missed = 0 })
  pub lost : Show lost_allocation ((1, entry_opening 1) ∷ (8, entry_adding 1) ∷ []) ((12, slot 9) ∷ []) (record { demanded = 1; acknowledged = 1; lost = 1; sent = 1; missed = 0 })
  -- two rounds late is in time
  pub in_time : Show (then 3 quiet (late_allocation 2)) ((1, entry_opening 1) ∷ []) ((5, slot 2) ∷ []) (record { demanded = 1; acknowledged = 1; lost = 0; sent = 1; missed = 0 })
  -- three rounds late is not: the total becomes 2
  pub missed : Show (then 3 quiet (telling ∷ then 4 quiet (late_allocation 3))) ((1, entry_opening 1) ∷ (6, entry_adding 1) ∷ []) ((10, slot 7) ∷ []) (record { demanded = 2; acknowledged = 2; lost = 0; sent = 1; missed = 1 })
  pub repeated : Show repeated_packets ((1, entry_opening 1) ∷ []) ((5, slot 2) ∷ []) (record { demanded = 1; acknowledged = 1; lost = 0; sent = 1; missed = 0 })
  -- six rounds late it is old, as if it had been lost
  pub old : Show (then 3 quiet (telling ∷ then 6 quiet (late_allocation 6))) ((1, entry_opening 1) ∷ (8, entry_adding 1) ∷ []) ((12, slot 9) ∷ []) (record { demanded = 1; acknowledged = 1; lost = 1; sent = 1; missed = 0 })
  -- what is lost while no new number may be sent
  pub closed : Show closed_span ((1, entry_opening 1) ∷ (73, entry_adding 1) ∷ []) ((77, slot 74) ∷ []) (record { demanded = 1; acknowledged = 1; lost = 1; sent = 1; missed = 0 })
  -- the need that is left of the first boot is cleared
  pub strays : Show boot_with_strays ((1, entry_opening 5) ∷ (4, clearing) ∷ (5, entry_adding 1) ∷ []) ((9, slot 6) ∷ []) (record { demanded = 1; acknowledged = 1; lost = 0; sent = 1; missed = 0 })
  pub second : Show second_version ((1, entry_opening 1) ∷ (20, entry_adding 1) ∷ []) ((24, slot 21) ∷ []) (record { demanded = 1; acknowledged = 1; lost = 1; sent = 1; missed = 0 })

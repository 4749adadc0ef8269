-- The slots that an endpoint sends in: those that came in time and that were asked for. From this project's own profile.
use Rattle.std.specs.Prelude.{ℕ, ◌+◌, ◌*◌, ◌-◌, ◌≤◌, ◌==◌, ◌&&◌, Bool, not, nat_lt, nat_le, List, [], ◌∷◌, ◌++◌, map, filter, count_by, sum_by, if◌then◌else◌}
use Rattle.std.specs.List.{flat_map}
use Rattle.list_facts.specs.Order.{sort_by}
use Rattle.fcp_framing.specs.declared.packet.Told.{Told}
use Rattle.endpoint_history.specs.Packets.{Telling, slots_to}
use Rattle.endpoint_history.specs.Agent.{AgentHistory, Boots, SendsDue, TakenDown, taken, is_in_time, asked}

-- a slot by its number, and where it goes; batch k has the b slots from k * b + 1 on
pub record Slot : Type 0 where
  pub slot : ℕ
  pub dst : ℕ

abbrev pub slots_of_telling : ℕ → Telling → List Slot
slots_of_telling b telling = map (λ (t : Told). record { slot = telling.batch * b + 1 + t.offset; dst = t.dst }) telling.told

-- the slots in time that are used at the end of this round, rising
abbrev pub due : ℕ → ℕ → AgentHistory → ℕ → List Slot
due b g history round =
    sort_by (λ s. s.slot)
    (flat_map (λ t. slots_of_telling b t.packet.content)
    (filter (λ t. is_in_time g t && round == t.packet.content.batch + 2 * g + 2) (taken history)))

-- each is sent in where something is left of what may be sent to its destination
abbrev pub sent_of : (ℕ → ℕ) → List Slot → List Slot
sent_of left [] = []
sent_of left (s ∷ slots) =
    if nat_lt 0 (left s.dst)
    then s ∷ sent_of (λ dst. left dst - (if dst == s.dst then 1 else 0)) slots
    else sent_of left slots

-- the slots that are sent in at the end of this round, where so many were sent in before to each destination
unfoldable pub sent_now : ℕ → ℕ → AgentHistory → (ℕ → ℕ) → ℕ → List Slot
sent_now b g history so_far round = sent_of (λ dst. asked history dst - so_far dst) (due b g history round)

-- how many slots to a destination were sent in, in this boot
abbrev pub sends : ℕ → ℕ → AgentHistory → ℕ → ℕ
sends b g [] dst = 0
sends b g (Boots version ∷ earlier) dst = 0
sends b g (SendsDue round ∷ earlier) dst = sends b g earlier dst + count_by (λ (s : Slot). s.dst == dst) (sent_now b g earlier (λ d. sends b g earlier d) round)
sends b g (_ ∷ earlier) dst = sends b g earlier dst

-- the slots that are sent in at the end of this round: those due for which more was asked than was sent
abbrev pub sent_in : ℕ → ℕ → AgentHistory → ℕ → List Slot
sent_in b g history round = sent_now b g history (λ d. sends b g history d) round

-- every slot ever sent in, in all boots, in the order of sending
abbrev pub ever_sent : ℕ → ℕ → AgentHistory → List Slot
ever_sent b g [] = []
ever_sent b g (SendsDue round ∷ earlier) = ever_sent b g earlier ++ sent_in b g earlier round
ever_sent b g (_ ∷ earlier) = ever_sent b g earlier

-- ---- rounds

-- of how many rounds the slots were sent in
abbrev pub rounds_sent : AgentHistory → ℕ
rounds_sent [] = 0
rounds_sent (SendsDue round ∷ earlier) = round + 1
rounds_sent (_ ∷ earlier) = rounds_sent earlier

-- each round's slots are sent in once, round after round
abbrev pub SendsRise : AgentHistory → Type 0
SendsRise [] = Unit {0}
SendsRise (SendsDue round ∷ earlier) = (rounds_sent earlier ≤ round) × SendsRise earlier
SendsRise (_ ∷ earlier) = SendsRise earlier

-- a batch's slots are used in an earlier round than this
abbrev pub is_over : ℕ → ℕ → TakenDown → Bool
is_over g round t = nat_le (t.packet.content.batch + 2 * g + 3) round

-- the slots in time to a destination that are used before a round, and those that are used in it or later
abbrev pub in_time_before : ℕ → AgentHistory → ℕ → ℕ → ℕ
in_time_before g history round dst = sum_by (λ (t : TakenDown). if is_in_time g t && is_over g round t then slots_to dst t.packet.content.told else 0) (taken history)

abbrev pub in_time_from : ℕ → AgentHistory → ℕ → ℕ → ℕ
in_time_from g history round dst = sum_by (λ (t : TakenDown). if is_in_time g t && not (is_over g round t) then slots_to dst t.packet.content.told else 0) (taken history)

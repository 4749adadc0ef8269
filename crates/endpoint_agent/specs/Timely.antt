-- What an agent's caller keeps of the allocations that are taken, in the words of the calls (this project's own profile).
use Rattle.std.specs.Prelude.{◌≢◌, ◌≤◌, ℕ, ◌+◌, ◌*◌, List, [], ◌∷◌, length}
use Rattle.endpoint_history.specs.Packets.{DownPacket}
use Rattle.endpoint_history.specs.Agent.{AgentHistory, TakenDown, taken}
use Rattle.endpoint_history.specs.Tellings.{Among}

-- no two that tell slots tell them of one batch
abbrev pub BatchesAreApart : List TakenDown → Type 0
BatchesAreApart [] = Unit {0}
BatchesAreApart (t ∷ ts) = (t.packet.content.told ≢ [] → (u : TakenDown) → Among u ts → u.packet.content.told ≢ [] → u.packet.content.batch ≢ t.packet.content.batch) × BatchesAreApart ts

-- an allocation that is taken next tells slots two windows after their batch or later, and no two of this boot tell slots of one batch
pub record MayTake (g : ℕ) (history : AgentHistory) (round : ℕ) (packet : DownPacket) : Type 0 where
  pub late : packet.content.told ≢ [] → packet.content.batch + 2 * g ≤ round
  pub apart : BatchesAreApart (record { round = round; packet = packet } ∷ taken history)

-- each tells at most 64 slots, of a batch that is recorded by this round
abbrev pub AreTold : ℕ → List TakenDown → Type 0
AreTold round [] = Unit {0}
AreTold round (t ∷ ts) = (length t.packet.content.told ≤ 64) × (t.packet.content.told ≢ [] → t.packet.content.batch ≤ round) × AreTold round ts

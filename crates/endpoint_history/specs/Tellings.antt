-- Where the slots come from that an endpoint is told: the round and the number that told them, and their places in the batch. From this project's own profile.
use Rattle.std.specs.Prelude.{◌≡◌, ◌⊎◌, ℕ, ◌+◌, ◌<◌, ◌≤◌, ◌==◌, ◌&&◌, nat_lt, List, [], ◌∷◌, Option, Some, None, if◌then◌else◌, true, Bool}
use Rattle.ack_window.specs.declared.acknowledgement.Decision.TheVariants.{Lost}
use Rattle.ack_window.specs.Ends.{content_of}
use Rattle.ack_window.specs.Sends.{newest_of, decision_of}
use Rattle.ack_window.specs.Versions.{reorder_of, span_of}
pub use Rattle.fcp_framing.specs.declared.packet.Told.{Told}
use Rattle.endpoint_history.specs.Packets.{Telling}
use Rattle.endpoint_history.specs.Lane.{LaneHistory, MakesDown, epoch_of, version_of, numbers, untold, may_send, telling_in}

abbrev pub Among : {X : Type 0} → X → List X → Type 0
Among x [] = ⊥
Among x (y ∷ ys) = (y ≡ x) ⊎ Among x ys

-- a number with its epoch and what it tells
pub record Issue : Type 0 where
  pub epoch : ℕ
  pub number : ℕ
  pub content : Telling

-- the number that was new in a round, none where none was
abbrev pub issued : ℕ → LaneHistory → ℕ → Option Issue
issued g [] round = None
issued g (MakesDown made told ∷ earlier) round =
    if made == round
    then (if nat_lt 0 (epoch_of earlier) && may_send earlier (numbers g earlier)
    then Some (record { epoch = epoch_of earlier; number = newest_of (numbers g earlier) + 1; content = telling_in g earlier made told })
    else None)
    else issued g earlier round
issued g (_ ∷ earlier) round = issued g earlier round

-- at this moment these slots are in a number found lost, or untold
abbrev pub IsLost : ℕ → LaneHistory → Telling → Type 0
IsLost g history telling =
    ((number : ℕ) × (1 ≤ number) × (content_of (numbers g history) number ≡ Some telling)
    × (decision_of (reorder_of (version_of history)) (span_of (version_of history)) (numbers g history) number ≡ Some Lost))
    ⊎ Among telling (untold g history)

-- ---- places in the batch, and destinations

-- the slots lie in a batch of b
abbrev pub SlotsAreWithin : ℕ → List Told → Type 0
SlotsAreWithin b [] = Unit {0}
SlotsAreWithin b (t ∷ told) = (t.offset < b) × SlotsAreWithin b told

abbrev pub ToldWithin : ℕ → LaneHistory → Type 0
ToldWithin b [] = Unit {0}
ToldWithin b (MakesDown round told ∷ earlier) = SlotsAreWithin b told × ToldWithin b earlier
ToldWithin b (_ ∷ earlier) = ToldWithin b earlier

-- the slots are to endpoints below this number
abbrev pub AreTo : ℕ → List Told → Type 0
AreTo endpoints [] = Unit {0}
AreTo endpoints (t ∷ told) = (t.dst < endpoints) × AreTo endpoints told

abbrev pub ToldTo : ℕ → LaneHistory → Type 0
ToldTo endpoints [] = Unit {0}
ToldTo endpoints (MakesDown round told ∷ earlier) = AreTo endpoints told × ToldTo endpoints earlier
ToldTo endpoints (_ ∷ earlier) = ToldTo endpoints earlier

-- each slot is told once, and they rise
abbrev pub RisesFrom : ℕ → List Told → Type 0
RisesFrom low [] = Unit {0}
RisesFrom low (t ∷ told) = (low ≤ t.offset) × RisesFrom (t.offset + 1) told

abbrev pub ToldRises : LaneHistory → Type 0
ToldRises [] = Unit {0}
ToldRises (MakesDown round told ∷ earlier) = RisesFrom 0 told × ToldRises earlier
ToldRises (_ ∷ earlier) = ToldRises earlier

-- the slots that are to be told pass the test
abbrev pub EachToldPasses : (List Told → Bool) → LaneHistory → Type 0
EachToldPasses test [] = Unit {0}
EachToldPasses test (MakesDown round told ∷ earlier) = (test told ≡ true) × EachToldPasses test earlier
EachToldPasses test (_ ∷ earlier) = EachToldPasses test earlier

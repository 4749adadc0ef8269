-- What contracts see of a publisher: the window that it holds, batch after batch, slot after slot, with the core of every
-- packet. Timeslots and cores are those of the SIGCOMM 2014 Fastpass paper, windows of batches this project's own profile.
use Rattle.std.specs.Prelude.{◌≡◌, ◌<◌, ◌-◌, ◌*◌, ℕ, List, length, map, take, drop, Option, All, IfSome}
use Rattle.std.specs.List.{range_with_len}
use Rattle.greedy_rules.specs.declared.flows.Flow.{Flow}
use Rattle.greedy_rules.specs.Schedule.{slot_in}
use Rattle.path_workers.specs.CoreTable.{CoreSlots, core_of}

-- a packet of a slot: its flow, and the core that it goes by, if it goes by one
pub record RoutedFlow : Type 0 where
  pub flow : Flow
  pub core : Option ℕ

-- so many batches of b slots are held, from the first one on, and there is room for `batches`; the packets of a slot rise by source
pub record PublisherWindow : Type 0 where
  pub endpoints : ℕ
  pub batches : ℕ
  pub b : ℕ
  pub first_batch : ℕ
  pub count : ℕ
  pub slots : List (List RoutedFlow)

-- the flows of a slot, each with the core that is named for its source
abbrev pub with_cores : (ℕ → Option ℕ) → List Flow → List RoutedFlow
with_cores core_of_source slot = map (λ flow. record { flow = flow; core = core_of_source flow.src }) slot

-- the slots of a table with the cores of another
abbrev pub slots_with_cores : List (List Flow) → CoreSlots → List (List RoutedFlow)
slots_with_cores slots cores = map (λ at. with_cores (core_of cores at) (slot_in slots at)) (range_with_len 0 (length slots))

-- a core that is named for a packet of these slots is below 64
abbrev pub NamesCores : List (List Flow) → CoreSlots → Type 0
NamesCores slots cores = (at : ℕ) → at < length slots → All (λ flow. IfSome (core_of cores at flow.src) (λ core. core < 64)) (slot_in slots at)

-- the slots of a batch of the window
abbrev pub slots_of_batch : PublisherWindow → ℕ → List (List RoutedFlow)
slots_of_batch window batch = take window.b (drop ((batch - window.first_batch) * window.b) window.slots)

-- a window that holds these slots with their cores, from this batch on, in place of what it held
pub record HoldsSlots (old : PublisherWindow) (number : ℕ) (flows : List (List Flow)) (cores : CoreSlots) (new : PublisherWindow) : Type 0 where
  -- it serves as before
  pub endpoints : new.endpoints ≡ old.endpoints
  pub batches : new.batches ≡ old.batches
  pub b : new.b ≡ old.b
  -- its batches begin with this one, and have these slots
  pub first : new.first_batch ≡ number
  pub count : new.count * old.b ≡ length flows
  pub slots : new.slots ≡ slots_with_cores flows cores

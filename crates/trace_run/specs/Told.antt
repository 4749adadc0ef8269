-- What the lanes are handed in the run of a trace. From this project's own profile.
use Rattle.std.specs.Prelude.{◌≢◌, ◌<◌, ◌≤◌, ℕ, List, length, map, All}
use Rattle.std.specs.List.Sorted.{IsStrictlyIncreasing}
use Rattle.fcp_framing.specs.declared.packet.Told.{Told}
use Rattle.fcp_framing.specs.Spelling.{IsCore}
use Rattle.trace_run.specs.Run.{Setting, told_in, replayed}
use Rattle.trace_run.specs.Recorded.{KeepsTraceRules}

-- an endpoint's slots of one batch of b slots: rising, within the batch and the network, none to itself
pub record AreOfBatch (endpoints b endpoint : ℕ) (told : List Told) : Type 0 where
  pub few : length told ≤ b
  pub rising : IsStrictlyIncreasing (map (λ (slot : Told). slot.offset) told)
  pub offsets : All (λ (slot : Told). slot.offset < b) told
  pub cores : All (λ (slot : Told). IsCore slot.core) told
  pub destinations : All (λ (slot : Told). slot.dst < endpoints) told
  pub others : All (λ (slot : Told). slot.dst ≢ endpoint) told

-- what a lane is handed in any round is such, where the bytes that name cores are those of cores or 255
abbrev pub WhatIsToldIsOfABatch : Type 0
WhatIsToldIsOfABatch =
    (setting : Setting) (rounds all endpoint : ℕ) → rounds ≤ all → KeepsTraceRules setting all → ((slot source : ℕ) → IsCore (setting.cores slot source)) →
    AreOfBatch setting.endpoints setting.b endpoint (told_in setting (replayed setting rounds).batches rounds endpoint)

-- Small schedules in full (this project's own profile).
use Rattle.std.specs.Prelude.{◌≡◌, ℕ, true, false, List, [], ◌∷◌, ◌++◌, replicate}
use Rattle.greedy_rules.specs.declared.flows.Flow.{Flow}
use Rattle.greedy_rules.specs.declared.flows.Item.{Item}
use Rattle.greedy_rules.specs.declared.flows.Entry.{Entry}
use Rattle.greedy_rules.specs.Batches.{DemandBatch}
use Rattle.greedy_rules.specs.Demands.{Key}
use Rattle.greedy_rules.specs.Schedule.{schedule, rest, schedule_by, rest_by}

abbrev pub flow : ℕ → ℕ → Flow
flow src dst = record { src = src; dst = dst }

abbrev pub opening_entry : ℕ → ℕ → ℕ → Entry
opening_entry src dst add = record { flow = flow src dst; opens = true; clear = false; add = add }

abbrev pub waiting : ℕ → ℕ → ℕ → ℕ → Item
waiting src dst need last = record { flow = flow src dst; need = need; last = last }

-- a batch of racks with so many hosts, and so many cores
abbrev pub in_racks : ℕ → ℕ → List Entry → DemandBatch
in_racks hosts cores entries = record { entries = entries; limits = record { hosts = hosts; cores = cores } }

-- a batch of one rack of four hosts
abbrev pub in_one_rack : List Entry → DemandBatch
in_one_rack entries = in_racks 4 1 entries

-- Endpoint 0 can send to 1 or to 2 in a slot, and 3 can send to 1 beside the second.
abbrev pub ThreeFlowsFillTwoSlots : Type 0
ThreeFlowsFillTwoSlots =
    schedule 2 (in_one_rack (opening_entry 0 1 1 ∷ opening_entry 0 2 1 ∷ opening_entry 3 1 1 ∷ []) ∷ [])
    ≡ (flow 0 1 ∷ []) ∷ (flow 0 2 ∷ flow 3 1 ∷ []) ∷ []

-- Two flows of one source take turns, a batch each.
abbrev pub TwoFlowsOfOneSourceTakeTurns : Type 0
TwoFlowsOfOneSourceTakeTurns =
    schedule 2 (in_one_rack (opening_entry 0 1 4 ∷ opening_entry 0 2 4 ∷ []) ∷ in_one_rack [] ∷ in_one_rack [] ∷ in_one_rack [] ∷ [])
    ≡ (flow 0 1 ∷ []) ∷ (flow 0 1 ∷ []) ∷ (flow 0 2 ∷ []) ∷ (flow 0 2 ∷ [])
    ∷ (flow 0 1 ∷ []) ∷ (flow 0 1 ∷ []) ∷ (flow 0 2 ∷ []) ∷ (flow 0 2 ∷ []) ∷ []

-- A flow that was never served goes before one that was, and after one that has waited longer.
abbrev pub ALaterAskGoesFirst : Type 0
ALaterAskGoesFirst =
    schedule 2 (in_one_rack (opening_entry 0 1 4 ∷ opening_entry 0 2 4 ∷ []) ∷ in_one_rack (opening_entry 0 3 1 ∷ []) ∷ in_one_rack [] ∷ in_one_rack [] ∷ in_one_rack [] ∷ [])
    ≡ (flow 0 1 ∷ []) ∷ (flow 0 1 ∷ []) ∷ (flow 0 2 ∷ []) ∷ (flow 0 2 ∷ []) ∷ (flow 0 3 ∷ [])
    ∷ (flow 0 1 ∷ []) ∷ (flow 0 2 ∷ []) ∷ (flow 0 2 ∷ []) ∷ (flow 0 1 ∷ []) ∷ [] ∷ []

-- 65 asked: 64 slots in the first batch, and the one that is left in the next.
abbrev pub WhatABatchLeavesGoesIntoTheNext : Type 0
WhatABatchLeavesGoesIntoTheNext =
    (schedule 64 (in_one_rack (opening_entry 0 1 65 ∷ []) ∷ in_one_rack [] ∷ []) ≡ replicate 65 (flow 0 1 ∷ []) ++ replicate 63 [])
    × (rest 64 (in_one_rack (opening_entry 0 1 65 ∷ []) ∷ []) ≡ waiting 0 1 1 64 ∷ [])

-- By another key: the flow that needs least comes first, by what it needs as a batch begins.
abbrev pub remaining : Key
remaining need last = need

abbrev pub TheLeastNeedGoesFirst : Type 0
TheLeastNeedGoesFirst =
    schedule_by remaining 2 (in_one_rack (opening_entry 0 1 3 ∷ opening_entry 0 2 1 ∷ []) ∷ in_one_rack [] ∷ [])
    ≡ (flow 0 2 ∷ []) ∷ (flow 0 1 ∷ []) ∷ (flow 0 1 ∷ []) ∷ (flow 0 1 ∷ []) ∷ []

-- Of two that need the same, the one that stands first; once served it needs less.
abbrev pub OfTwoNeedsTheFirstGoesFirst : Type 0
OfTwoNeedsTheFirstGoesFirst =
    (schedule_by remaining 1 (in_one_rack (opening_entry 0 1 2 ∷ opening_entry 0 2 2 ∷ []) ∷ in_one_rack [] ∷ in_one_rack [] ∷ [])
    ≡ (flow 0 1 ∷ []) ∷ (flow 0 1 ∷ []) ∷ (flow 0 2 ∷ []) ∷ [])
    × (rest_by remaining 1 (in_one_rack (opening_entry 0 1 2 ∷ opening_entry 0 2 2 ∷ []) ∷ in_one_rack [] ∷ in_one_rack [] ∷ []) ≡ waiting 0 1 0 2 ∷ waiting 0 2 1 3 ∷ [])

-- Two racks of four hosts and two cores: two of four packets between the racks, and two more in the next slot.
abbrev pub TwoCoresCarryTwoPackets : Type 0
TwoCoresCarryTwoPackets =
    schedule 2 (in_racks 4 2 (opening_entry 0 4 1 ∷ opening_entry 1 5 1 ∷ opening_entry 2 6 1 ∷ opening_entry 3 7 1 ∷ []) ∷ [])
    ≡ (flow 0 4 ∷ flow 1 5 ∷ []) ∷ (flow 2 6 ∷ flow 3 7 ∷ []) ∷ []

-- A packet within a rack needs no core.
abbrev pub WithinARackNoCoreIsNeeded : Type 0
WithinARackNoCoreIsNeeded =
    schedule 2 (in_racks 4 2 (opening_entry 0 1 1 ∷ opening_entry 0 4 1 ∷ opening_entry 1 5 1 ∷ opening_entry 2 6 1 ∷ opening_entry 3 7 1 ∷ []) ∷ [])
    ≡ (flow 0 1 ∷ flow 1 5 ∷ flow 2 6 ∷ []) ∷ (flow 0 4 ∷ flow 3 7 ∷ []) ∷ []

-- Three racks of two hosts and one core: rack 0 sends one packet in a slot, also to two different racks.
abbrev pub ARackSendsOneForEachCore : Type 0
ARackSendsOneForEachCore =
    schedule 2 (in_racks 2 1 (opening_entry 0 2 1 ∷ opening_entry 1 4 1 ∷ opening_entry 3 5 1 ∷ []) ∷ [])
    ≡ (flow 0 2 ∷ flow 3 5 ∷ []) ∷ (flow 1 4 ∷ []) ∷ []

-- And rack 2 receives one packet in a slot, also from two different racks.
abbrev pub ARackReceivesOneForEachCore : Type 0
ARackReceivesOneForEachCore =
    schedule 2 (in_racks 2 1 (opening_entry 0 4 1 ∷ opening_entry 2 5 1 ∷ opening_entry 3 0 1 ∷ []) ∷ [])
    ≡ (flow 0 4 ∷ flow 3 0 ∷ []) ∷ (flow 2 5 ∷ []) ∷ []

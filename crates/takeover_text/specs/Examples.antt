-- Worked takeovers, as the lines that they show. From this project's own profile.
use Rattle.std.specs.Prelude.{◌≡◌, false, None, [], ◌∷◌}
use Rattle.report_text.specs.declared.line.Line.TheVariants as line
use Rattle.takeover_history.specs.declared.event.Event.TheVariants.{Ask, Request, Grant, Take, Tell, Publish, Hear, Crash}
use Rattle.takeover_history.specs.Events.{PairSetting}
use Rattle.takeover_text.specs.Lines.{shown}

-- two endpoints, batches of one slot, leases of two batches
abbrev pub small : PairSetting
small = record { endpoints = 2; b = 1; span = 2 }

-- node 1 takes over from node 0, which then publishes what is left of its lease
abbrev pub ANodeTakesOver : Type 0
ANodeTakesOver =
    shown small (
    Ask 0 1 3 ∷ Request 0 ∷ Grant 0 ∷ Take 0 1 ∷ Tell 0 0 ∷ Publish 0 ∷ Request 1 ∷ Grant 2 ∷ Take 1 3 ∷ Publish 0 ∷ Hear 0 0
    ∷ Tell 0 1 ∷ Hear 0 1 ∷ Publish 1 ∷ Hear 0 2 ∷ Publish 0 ∷ []
    )
    ≡ line.Granted 1 0 1 0 ∷ line.Published 0 0 ∷ line.Batch 0 0 1 false 3 ∷ line.Slot 1 0 1 None ∷ line.Granted 3 1 2 2 ∷ line.Published 0 1 ∷ line.Slot 2 0 1 None
    ∷ line.Sent 1 0 1 ∷ line.Declined 14 4 ∷ line.Published 1 2 ∷ line.Batch 2 0 1 false 2 ∷ line.Slot 3 0 1 None ∷ line.Sent 3 0 1 ∷ line.Declined 17 3
    ∷ line.Total 0 1 3 2 ∷ line.End 18 ∷ []

-- a grant of an earlier boot is not taken
abbrev pub AGrantOfAnEarlierBootIsRefused : Type 0
AGrantOfAnEarlierBootIsRefused =
    shown small (Ask 0 1 1 ∷ Request 0 ∷ Grant 0 ∷ Take 0 1 ∷ Crash 0 ∷ Take 0 1 ∷ Publish 0 ∷ [])
    ≡ line.Granted 1 0 1 0 ∷ line.Declined 7 1 ∷ line.Declined 8 3 ∷ line.Total 0 1 1 0 ∷ line.End 9 ∷ []

-- Worked audits (this project's own profile).
use Rattle.std.specs.Prelude.{◌≡◌, ℕ, false, List, [], ◌∷◌, ◌++◌, map, Option, Some, None}
use Rattle.clos_topology.specs.Network.{Network}
use Rattle.report_text.specs.declared.line.Line.{Line}
use Rattle.report_text.specs.declared.line.Line.TheVariants as line
use Rattle.schedule_audit.specs.Misplaced.{most_added}
use Rattle.schedule_audit.specs.BadLines.{first_bad_line}

abbrev pub all_read : List Line → List (Option Line)
all_read lines = map (λ l. Some l) lines

-- a plan of one rack of four hosts, with batches of two slots
abbrev one_rack : Network
one_rack = record { racks = 1; hosts = 4; cores = 1 }

abbrev front : List Line
front = line.Batch 0 0 1 false 1 ∷ line.Batch 0 0 2 false 1 ∷ line.Batch 0 3 1 false 1 ∷ line.Slot 1 0 1 None ∷ line.Slot 2 0 2 None ∷ []

abbrev lines_back : List Line
lines_back = line.Flow 0 1 1 1 0 ∷ line.Flow 0 2 1 1 0 ∷ line.Flow 3 1 1 1 0 ∷ line.End 1 ∷ []

unfoldable pub audit_of_a_plan : Option ℕ
unfolding most_added
audit_of_a_plan = first_bad_line one_rack 2 (all_read (front ++ line.Slot 2 3 1 None ∷ lines_back))

unfoldable pub audit_without_a_slot : Option ℕ
unfolding most_added
audit_without_a_slot = first_bad_line one_rack 2 (all_read (front ++ lines_back))

-- three racks of two hosts and two cores: the first two packets both leave rack 0 by core 0
unfoldable pub audit_of_a_shared_link : Option ℕ
unfolding most_added
audit_of_a_shared_link = first_bad_line (record { racks = 3; hosts = 2; cores = 2 }) 1 (all_read (
    line.Batch 0 0 2 false 1 ∷ line.Batch 0 1 4 false 1 ∷ line.Batch 0 2 0 false 1 ∷ line.Batch 0 3 5 false 1
    ∷ line.Slot 1 0 2 (Some 0) ∷ line.Slot 1 1 4 (Some 0) ∷ line.Slot 1 2 0 (Some 0) ∷ line.Slot 1 3 5 (Some 1)
    ∷ line.Flow 0 2 1 1 0 ∷ line.Flow 1 4 1 1 0 ∷ line.Flow 2 0 1 1 0 ∷ line.Flow 3 5 1 1 0 ∷ line.End 1 ∷ []
    ))

unfoldable pub audit_of_nothing : Option ℕ
unfolding most_added
audit_of_nothing = first_bad_line one_rack 2 []

-- a batch after the `end` line that the line's rounds are not above makes the `end` line bad
unfoldable pub audit_of_a_late_batch : Option ℕ
unfolding most_added
audit_of_a_late_batch = first_bad_line one_rack 2 (all_read (line.End 1 ∷ line.Batch 5 0 1 false 1 ∷ []))

pub record WorkedAudits : Type 0 where
  pub plan : audit_of_a_plan ≡ None
  pub without : audit_without_a_slot ≡ Some 9
  pub shared : audit_of_a_shared_link ≡ Some 6
  pub nothing : audit_of_nothing ≡ Some 1
  pub late : audit_of_a_late_batch ≡ Some 1

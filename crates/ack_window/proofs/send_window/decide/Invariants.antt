use Rattle.std.proofs.Common.{◌≡◌, ◌+◌, ◌-◌, ◌^◌, ◌≤◌, drop, vec_len, vec_capacity}
use Rattle.arrayvec.specs.ArrayVec.{array_vec_len}
use Rattle.ack_window.specs.Acknowledgement.{decision_by}
use Rattle.ack_window.specs.Kept.{RisesWithin}
use Rattle.ack_window.specs.Versions.{reorder_of, span_of}
use Rattle.ack_window.proofs.Sending.{HasJudged}
use Rattle.ack_window.proofs.send_window.decide.Given as goal

abbrev pub invariant-numbers : goal.invariant-numbers
invariant-numbers g l =
    HasJudged (decision_by (reorder_of l.version) (span_of l.version) l.ack) l.fn.found.items l.found.items l.fn.unresolved.items l.unresolved.items l.at
    × RisesWithin 0 (2 ^ 32) (drop l.at l.unresolved.items)
    × (array_vec_len l.found + vec_len l.unresolved ≤ 129)
    × (l.at ≤ vec_len l.unresolved)
    × (vec_capacity l.unresolved ≡ vec_capacity l.fn.unresolved)

abbrev pub decreases-numbers : goal.decreases-numbers
decreases-numbers g l = vec_len l.unresolved - l.at

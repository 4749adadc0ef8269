-- What the lines of a text say of each flow's demand: it is all accounted for, and what was lost was asked for again (this project's
-- own profile).
use Rattle.std.specs.Prelude.{◌≡◌, ⊤, ℕ, ◌+◌, ◌&&◌, nat_le, if◌then◌else◌, List, All, sum_by}
use Rattle.greedy_rules.specs.declared.flows.Flow.{Flow}
use Rattle.greedy_rules.specs.Flows.{same_flow}
use Rattle.endpoint_history.specs.Lane.{last_reset}
use Rattle.report_text.specs.declared.line.Line.{Line}
use Rattle.report_text.specs.declared.line.Line.TheVariants as line
use Rattle.trace_run.specs.Run.{Setting}
use Rattle.trace_run.specs.Histories.{lane_after}

-- in a `flow` line the demand is allocated or pending, in a `count` line acknowledged, in flight or pending
abbrev pub IsBalanced : Line → Type 0
IsBalanced (line.Flow src dst demanded allocated pending) = demanded ≡ allocated + pending
IsBalanced (line.Count src dst demanded acknowledged flight pending lost sent missed) = demanded ≡ acknowledged + flight + pending
IsBalanced _ = ⊤

-- what a line adds to a flow, if it is a `batch` line of this batch or a later one
abbrev pub added_by_line : ℕ → Flow → Line → ℕ
added_by_line first flow (line.Batch batch src dst clear add) = if nat_le first batch && same_flow (record { src = src; dst = dst }) flow then add else 0
added_by_line first flow _ = 0

-- the flow of a `count` line got all that the line says is demanded and lost, by the `batch` lines from its endpoint's last reset on
abbrev pub AddsUp : Setting → ℕ → List Line → Line → Type 0
AddsUp setting rounds lines (line.Count src dst demanded acknowledged flight pending lost sent missed) =
    sum_by (added_by_line (last_reset (lane_after setting rounds src)) (record { src = src; dst = dst })) lines ≡ demanded + lost
AddsUp setting rounds lines _ = ⊤

pub record LedgerIsKept (setting : Setting) (rounds : ℕ) (lines : List Line) : Type 0 where
  pub balanced : All IsBalanced lines
  pub added : All (AddsUp setting rounds lines) lines

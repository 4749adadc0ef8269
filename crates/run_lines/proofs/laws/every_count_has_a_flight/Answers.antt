use Rattle.std.proofs.Common.{◌≤◌, ◌+◌, Option, IfSome, sym, subst, inl, inr}
use Rattle.std.proofs.lemmas.Bool.{cond-true, cond-false, cases_Bool}
use Rattle.trace_run.specs.Entries.{had}
use Rattle.trace_run.specs.Histories.{lane_after}
use Rattle.window_engine.specs.declared.counts.Counts.{Counts}
use Rattle.run_lines.proofs.laws.every_count_has_a_flight.Goals as goal

abbrev Within : Option Counts → Type 0
Within counts = IfSome counts (λ c. c.acknowledged + c.lost ≤ c.allocated)

pub returns : goal.returns
returns c = λ setting rounds flow some src dst.
    let test = had setting.g (lane_after setting rounds flow.src) flow.dst in
    elim (cases_Bool test) [
      | inl holds ↦ subst Within (sym (cond-true test _ _ holds)) (c.every_flow_is_counted.ensures setting some rounds flow.src flow.dst src dst).within
      | inr other ↦ subst Within (sym (cond-false test _ _ other)) tt
    ]

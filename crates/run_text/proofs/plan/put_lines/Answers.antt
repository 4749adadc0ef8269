use Rattle.std.proofs.Common.{◌≡◌, ◌++◌, sym, ap, ◌∙◌, ℕ, List}
use Rattle.report_text.specs.declared.line.Line.TheVariants as line
use Rattle.run_lines.specs.Text.{line_text, text_of, flows_lines}
use Rattle.text_output.proofs.OutputLemmas.{Ends-stopped}
use Rattle.run_text.specs.PlanText.{plan_text}
use Rattle.run_text.proofs.PlanLemmas.{end_text, plan_parts}
use Rattle.run_text.proofs.plan.put_lines.Goals as goal

pub returns-in_err-plan : goal.returns-in_err-plan
returns-in_err-plan g c = (
  c.requires.cores.0,
  c.requires.cores.1,
  Ends-stopped _ (c.texts_follow.ensures.no_memory c.from_residual.ensures.1) c.from_residual.ensures.1,
)

pub returns-in_err-put_rounds : goal.returns-in_err-put_rounds
returns-in_err-put_rounds g c =
    let trace = c.args.trace.now in
    let b : ℕ = c.args.sizes.b in
    let (cores, scheduled, passes) = c.in_err-put_rounds.ensures.passes in (
      cores,
      scheduled,
      Ends-stopped _ (c.texts_follow.ensures.stopped _ passes c.from_residual-in_err-put_rounds.ensures.1 (sym (plan_parts cores trace b c.requires.accepted c.every_plan_has_its_slots.ensures)))
          c.from_residual-in_err-put_rounds.ensures.1,
    )

pub returns-in_err-put_flows : goal.returns-in_err-put_flows
returns-in_err-put_flows g c =
    let trace = c.args.trace.now in
    let b : ℕ = c.args.sizes.b in
    let told : List ℕ = text_of (flows_lines c.put_rounds.new.engine.b trace) in
    let same : told ≡ text_of (flows_lines b trace) = ap (λ (n : ℕ). text_of (flows_lines n trace)) c.in_ok-put_rounds.ensures.b in
    let later : List ℕ = text_of (flows_lines b trace) ++ end_text trace in
    let (cores, scheduled, passes) = c.in_ok-put_rounds.ensures.passes in (
      cores,
      scheduled,
      Ends-stopped _ (c.texts_follow.ensures.after {z = plan_text cores b trace} passes
          (c.texts_follow.ensures.stopped {z = later} (end_text trace) c.in_err-put_flows.ensures c.from_residual-in_err-put_flows.ensures.1 (sym (ap (λ (t : List ℕ). t ++ end_text trace) same)))
          (sym (plan_parts cores trace b c.requires.accepted c.every_plan_has_its_slots.ensures)))
          c.from_residual-in_err-put_flows.ensures.1,
    )

pub returns : goal.returns
returns g c =
    let trace = c.args.trace.now in
    let b : ℕ = c.args.sizes.b in
    let told : List ℕ = text_of (flows_lines c.put_rounds.new.engine.b trace) in
    let same : told ≡ text_of (flows_lines b trace) = ap (λ (n : ℕ). text_of (flows_lines n trace)) c.in_ok-put_rounds.ensures.b in
    let ended : List ℕ = line_text (line.End c.rounds.result) in
    let last : ended ≡ end_text trace = ap (λ (n : ℕ). line_text (line.End n)) c.rounds.ensures.number in
    let later : List ℕ = text_of (flows_lines b trace) ++ end_text trace in
    let (cores, scheduled, passes) = c.in_ok-put_rounds.ensures.passes in (
      cores,
      scheduled,
      record {
        passes = c.texts_follow.ensures.after passes
            (c.texts_follow.ensures.after {z = later} c.in_ok-put_flows.ensures c.put_last_line.ensures.passes (sym (ap (λ (t : List ℕ). t ++ ended) same ∙ ap (λ (t : List ℕ). text_of (flows_lines b trace) ++ t) last)))
            (sym (plan_parts cores trace b c.requires.accepted c.every_plan_has_its_slots.ensures));
        empty = c.put_last_line.ensures.empty;
      },
    )

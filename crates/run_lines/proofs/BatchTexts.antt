-- The text of one batch of a step.
use Rattle.std.proofs.Common.{◌≡◌, ◌+◌, ◌*◌, ℕ, List, ◌++◌, get_or, map, take, drop, sym, ap, ◌∙◌, arith}
use Rattle.std.proofs.lemmas.List.Concat.{flat_map-append}
use Rattle.list_facts.proofs.Numbers.{rows_on}
use Rattle.greedy_rules.specs.Batches.{DemandBatch}
use Rattle.greedy_rules.specs.SlotTable.{Slots}
use Rattle.greedy_rules.specs.Schedule.{first_slot}
use Rattle.path_workers.specs.CoreTable.{CoreSlots}
use Rattle.report_text.specs.declared.line.Line.{Line}
use Rattle.window_engine.specs.Scheduled.{cores_from}
use Rattle.window_engine.specs.Step.{StepContent}
use Rattle.run_lines.specs.Text.{line_text, text_of, no_batch, entry_line, slots_lines}
use Rattle.run_lines.specs.Steps.{cores_of_step, batch_of_step}

-- a batch of a step: its entries and then its slots
pub batch_text : (b at k base from : ℕ) (step : StepContent) (batch : DemandBatch) (table : Slots) (cores : CoreSlots) → k ≡ step.window.span.first + at → batch ≡ get_or step.played.batches at no_batch → base ≡ first_slot b step.window.span.first
    → from ≡ at * b → table ≡ step.window.slots → cores ≡ step.window.cores
    → text_of (map (entry_line k) batch.entries) ++ text_of (slots_lines (cores_from base cores) (base + from) (take b (drop from table.slots)))
    ≡ text_of (batch_of_step b step at)
batch_text b at k base from step batch table cores k_is batch_is base_is from_is table_is cores_are =
    let n : ℕ = step.window.span.first + at in
    let entries : List Line = map (entry_line n) (get_or step.played.batches at no_batch).entries in
    let number : base + from ≡ first_slot b n = omega (arith, rows_on step.window.span.first at b) in
    let Slots_of : ℕ → CoreSlots → ℕ → ℕ → Slots → List ℕ = λ f c m low t. text_of (slots_lines (cores_from f c) m (take b (drop low t.slots))) in
    ap (λ (m : ℕ). text_of (map (entry_line m) batch.entries) ++ Slots_of base cores (base + from) from table) k_is
    ∙ (ap (λ (x : DemandBatch). text_of (map (entry_line n) x.entries) ++ Slots_of base cores (base + from) from table) batch_is
    ∙ (ap (λ (m : ℕ). text_of entries ++ Slots_of base cores m from table) number
    ∙ (ap (λ (m : ℕ). text_of entries ++ Slots_of m cores (first_slot b n) from table) base_is
    ∙ (ap (λ (m : ℕ). text_of entries ++ Slots_of (first_slot b step.window.span.first) cores (first_slot b n) m table) from_is
    ∙ (ap (λ (t : Slots). text_of entries ++ Slots_of (first_slot b step.window.span.first) cores (first_slot b n) (at * b) t) table_is
    ∙ (ap (λ (c : CoreSlots). text_of entries ++ Slots_of (first_slot b step.window.span.first) c (first_slot b n) (at * b) step.window.slots) cores_are
    ∙ sym (flat_map-append line_text entries (slots_lines (cores_of_step b step) (first_slot b n) (take b (drop (at * b) step.window.slots.slots))))))))))

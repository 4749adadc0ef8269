-- The batch that was published last.
use Rattle.std.proofs.Common.{◌≡◌, ◌≤◌, ◌+◌, ◌*◌, ◌==◌, ℕ, List, ◌∷◌, ◌++◌, length, map, Some, find, sym, ap, ◌∙◌, arith}
use Rattle.std.proofs.Math.Nat.{mul-le-mul}
use Rattle.std.proofs.lemmas.Bool.{cond-true, eq-eqb}
use Rattle.greedy_rules.specs.declared.flows.Flow.{Flow}
use Rattle.greedy_rules.specs.Batches.{DemandBatch}
use Rattle.greedy_rules.specs.Schedule.{first_slot}
use Rattle.greedy_rules.specs.SlotTable.{Slots}
use Rattle.report_text.specs.declared.line.Line.{Line}
use Rattle.report_text.specs.declared.line.Line.TheVariants as line
use Rattle.text_output.specs.Text.{text_of, entry_line, slots_lines}
use Rattle.takeover_history.specs.Events.{PairSetting, BatchIssue, Log}
use Rattle.takeover_history.specs.Endpoints.{issues, issue_at}
use Rattle.takeover_history.specs.Fits.{HasFewOf}
use Rattle.takeover_core.specs.Standing.{IsPairSetting, last_batch}
use Rattle.takeover_text.specs.Lines.{no_cores}
use Rattle.takeover_text.specs.Progress.{latest_lines}
use Rattle.takeover_text.proofs.Showing.{IsIssued}

-- it is found by its number
found : (log : Log) (number : ℕ) (it : IsIssued log number) → issue_at log number ≡ Some it.issue
found log number it =
    ap (λ (l : Log). issue_at l number) it.is
    ∙ cond-true (it.issue.number == number) (Some it.issue) (find (λ (i : BatchIssue). i.number == number) (issues it.earlier)) (eq-eqb it.issue.number number it.named)

pub batch_is : (setting : PairSetting) (log : Log) (number : ℕ) (batch : DemandBatch) (it : IsIssued log number) → batch ≡ (last_batch setting (issues log)).batch → batch ≡ it.issue.batch
batch_is setting log number batch it is = is ∙ ap (λ (l : Log). (last_batch setting (issues l)).batch) it.is

pub slots_are : (setting : PairSetting) (log : Log) (number : ℕ) (slots : Slots) (it : IsIssued log number) → slots ≡ (last_batch setting (issues log)).slots → slots.slots ≡ it.issue.slots
slots_are setting log number slots it is = ap (λ (s : Slots). s.slots) (is ∙ ap (λ (l : Log). (last_batch setting (issues l)).slots) it.is)

-- its slots have small numbers
pub slots_fit : (setting : PairSetting) (log : Log) (number : ℕ) (slots : List (List Flow)) (it : IsIssued log number)
    → HasFewOf setting log → IsPairSetting setting → length log ≤ 10000 → slots ≡ it.issue.slots → first_slot (length slots) number + length slots ≤ 4294967296
slots_fit setting log number slots it few fits short are =
    let (named, numbers, count) = few.issued number it.issue (found log number it) in
    let long : length slots ≤ 64 = omega (arith, ap (λ (xs : List (List Flow)). length xs) are, count, fits.slots) in
    let most : setting.span * length log ≤ 100 * 10000 = mul-le-mul fits.batches short in
    let below : number ≤ 1000000 = omega (arith, numbers, most) in
    let last : number * length slots ≤ 1000000 * 64 = mul-le-mul below long in
    omega (arith, last, long)

-- what was written of it is what it shows
pub batch_text : (setting : PairSetting) (log : Log) (number node : ℕ) (batch : DemandBatch) (slots : List (List Flow)) (it : IsIssued log number)
    → HasFewOf setting log → node ≡ it.issue.lease.holder.node → batch ≡ it.issue.batch → slots ≡ it.issue.slots
    → text_of (line.Published node number ∷ (map (entry_line number) batch.entries ++ slots_lines no_cores (first_slot (length slots) number) slots)) ≡ text_of (latest_lines setting log)
batch_text setting log number node batch slots it few by same are =
    let (named, numbers, count) = few.issued number it.issue (found log number it) in
    let issue : BatchIssue = it.issue in
    let lines : ℕ → ℕ → DemandBatch → ℕ → List (List Flow) → List Line = λ n k b size xs. line.Published n k ∷ (map (entry_line k) b.entries ++ slots_lines no_cores (first_slot size k) xs) in
    ap (λ (n : ℕ). text_of (lines n number batch (length slots) slots)) by
    ∙ (ap (λ (b : DemandBatch). text_of (lines issue.lease.holder.node number b (length slots) slots)) same
    ∙ (ap (λ (xs : List (List Flow)). text_of (lines issue.lease.holder.node number issue.batch (length xs) xs)) are
    ∙ (ap (λ (n : ℕ). text_of (lines issue.lease.holder.node number issue.batch n issue.slots)) count
    ∙ (ap (λ (k : ℕ). text_of (lines issue.lease.holder.node k issue.batch setting.b issue.slots)) (sym it.named)
    ∙ ap (λ (l : Log). text_of (latest_lines setting l)) (sym it.is)))))

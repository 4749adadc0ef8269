use Rattle.std.proofs.Common.{◌≡◌, ◌==◌, ◌*◌, ◌∙◌, sym, false, ℕ, ap, inr, arith}
use Rattle.std.proofs.lemmas.List.Elements.{All-nil}
use Rattle.greedy_rules.specs.Batches.{DemandBatch, entry_of}
use Rattle.greedy_rules.specs.Balance.{clears}
use Rattle.schedule_audit.proofs.RoundSteps.{no-slots}
use Rattle.schedule_audit.proofs.ledger.Ledger.open.Goals as goal

pub returns-clause-stands : goal.returns-clause-stands
returns-clause-stands c = λ b. record {
  seen = λ flow. ap (λ (n : ℕ). n == 0) (c.in_ok-open.ensures.zero flow);
  added = λ flow. c.in_ok-open-2.ensures.zero flow;
  few = λ flow. let none = c.in_ok-open-2.ensures.zero flow in omega (arith, none);
  cleared = λ flow. (0, inr (All-nil (λ (batch : DemandBatch). clears (entry_of batch.entries flow) ≡ false)), c.in_ok-open-3.ensures.zero flow ∙ sym (no-slots flow (0 * b)));
}

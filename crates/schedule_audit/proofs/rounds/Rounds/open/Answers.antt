use Rattle.std.proofs.Common.{◌+◌, ◌*◌, ◌∙◌, ℕ, sym, subst, arith}
use Rattle.slot_batches.specs.NextList.{IsListBefore}
use Rattle.slot_batches.proofs.ReadLemmas.{empty_before}
use Rattle.schedule_audit.specs.Entered.{AreSized}
use Rattle.schedule_audit.proofs.rounds.Rounds.open.Goals as goal

pub returns : goal.returns
returns c = λ later recorded are.
    let number = c.endpoints-endpoints.ensures.number in
    record {
      recorded = recorded;
      within = omega arith;
      todo = are;
      ledger = c.in_ok-open.ensures.stands c.args.b;
      sized = subst (λ (n : ℕ). AreSized n c.in_ok-open.field-0) number c.in_ok-open.ensures.sized;
      list = c.in_ok-open-2.ensures.empty;
      before = subst (IsListBefore (0 * c.args.b + 1)) (sym c.in_ok-open-2.ensures.empty) (empty_before (0 * c.args.b + 1));
      slots = c.in_ok-open-2.ensures.b;
      endpoints = c.in_ok-open-2.ensures.endpoints ∙ number;
    }

use Rattle.std.proofs.Common.{◌≡◌, ◌≤◌, ◌==◌, ℕ, List, length, take, get_or, false, sym, ap, ◌∙◌, subst, arith}
use Rattle.std.proofs.lemmas.List.{take_all}
use Rattle.greedy_rules.specs.declared.flows.Entry.{Entry}
use Rattle.greedy_rules.specs.declared.limits.Limits.{Limits}
use Rattle.greedy_rules.specs.Batches.{DemandBatch, IsAboveLast}
use Rattle.schedule_audit.specs.Lines.{Recorded}
use Rattle.schedule_audit.proofs.ReadSteps.{not-past, above-so-far, one-more, reads-all, made_of}
use Rattle.schedule_audit.proofs.rounds.read_batch.Goals as goal
use Rattle.schedule_audit.proofs.rounds.read_batch.Goals.{then-loop-at-test+else-todo-at, else-loop-at-test}

abbrev zero_record : Recorded
zero_record = record { batch = 0; flow = record { src = 0; dst = 0 }; clear = false; add = 0 }

pub push-requires : goal.push-requires
push-requires c =
    let x = c.requires.begins in
    let at = c.loop-at.at in
    let todo = c.args.todo.now in
    let so_far = c.loop-at.invariant.read x.0 x.1 x.2 in
    let within = not-past c.args.round c.args.seen.now x.0 x.1 todo x.2 zero_record at so_far.0 c.loop-at-test.true c.if-todo-at.true in
    subst (λ (es : List Entry). IsAboveLast es (get_or todo at zero_record).flow) (sym so_far.1) (above-so-far c.args.round c.args.seen.now x.0 x.1 todo x.2 zero_record at (made_of c.args.seen.now zero_record) within)

pub loop-at-preserved : goal.loop-at-preserved
loop-at-preserved c = record {
  read = λ entries later begins.
      let at = c.loop-at.at in
      let todo = c.args.todo.now in
      let so_far = c.loop-at.invariant.read entries later begins in
      let within = not-past c.args.round c.args.seen.now entries later todo begins zero_record at so_far.0 c.loop-at-test.true c.if-todo-at.true in (
        omega (arith, within),
        one-more c.args.round c.args.seen.now entries later todo begins zero_record at c.loop-at.batch.entries c.push.new.self.entries _ within so_far.1
            (ap (λ (n : ℕ). record { flow = (get_or todo at zero_record).flow; opens = n == 0; clear = (get_or todo at zero_record).clear; add = (get_or todo at zero_record).add }) c.get.ensures) c.in_ok-push.ensures.ok,
      );
  limits = c.in_ok-push.ensures.limits ∙ c.loop-at.invariant.limits;
}

-- all entries of the round, and these limits
whole-batch : (batch : DemandBatch) (entries : List Entry) (limits : Limits) (at : ℕ) → batch.entries ≡ take at entries → length entries ≤ at → batch.limits ≡ limits → batch ≡ record { entries = entries; limits = limits }
whole-batch batch entries limits at so_far all same =
    ap (λ (es : List Entry). record { entries = es; limits = batch.limits }) (so_far ∙ take_all at entries all) ∙ ap (λ (l : Limits). record { entries = entries; limits = l }) same

pub returns : goal.returns
returns c = λ entries later begins.
    let at = c.loop-at.at in
    let todo = c.args.todo.now in
    let so_far = c.loop-at.invariant.read entries later begins in
    whole-batch c.loop-at.batch entries c.args.limits at so_far.1
    (reads-all c.args.round c.args.seen.now entries later todo begins zero_record at so_far.0 (elim c.loop-at-test.branch [
      | then-loop-at-test+else-todo-at w ↦ λ within. w.if-todo-at.false
      | else-loop-at-test w ↦ λ within. absurd (omega (arith, within, w.loop-at-test.false))
    ])) c.loop-at.invariant.limits

use Rattle.std.proofs.Common.{◌≡◌, ℕ, List, [], ◌∷◌, ◌++◌, length, slice_get, All, sym, ap, ◌∙◌, subst, arith, length-append}
use Rattle.std.proofs.lemmas.List.Elements.{All-push}
use Rattle.ring_core.specs.States.{WorkerState}
use Rattle.ring_core.specs.Cores.{IsCrewed}
use Rattle.ring_core.proofs.EdgeLemmas.{get_push}
use Rattle.ring_core.proofs.ring.open_crew.Goals as goal

pub loop-number-preserved : goal.loop-number-preserved
loop-number-preserved c =
    let was = c.loop-number.invariant in
    let old : List WorkerState = c.loop-number.crew.items in
    let new : WorkerState = c.in_ok-open.field-0 in
    let items : c.push.new.self.items ≡ old ++ new ∷ [] = c.in_ok-push.ensures.items in
    let told = c.in_ok-open.ensures in
    let this : IsCrewed c.args.workers c.args.endpoints c.args.batches c.args.b c.loop-number.number new =
    record { is_worker = told.worker; number_is = told.number; workers_is = told.workers; endpoints_is = told.endpoints; batches_is = told.batches; b_is = told.b } in
    record {
      count = omega (arith, ap length items, length-append old (new ∷ []), was.count);
      none = subst (All (λ worker. All (λ stage. stage.nodes ≡ 0) worker.stages)) (sym items) (All-push (λ worker. All (λ stage. stage.nodes ≡ 0) worker.stages) old new was.none told.none);
      each = λ number worker is.
          get_push (IsCrewed c.args.workers c.args.endpoints c.args.batches c.args.b) old new number worker
          (subst (λ (n : ℕ). IsCrewed c.args.workers c.args.endpoints c.args.batches c.args.b n new) (sym was.count) this) was.each (sym (ap (λ (ws : List WorkerState). slice_get ws number) items) ∙ is);
    }

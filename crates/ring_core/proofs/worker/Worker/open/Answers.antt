use Rattle.std.proofs.Common.{◌≡◌, ◌+◌, List, [], ◌∷◌, ◌++◌, length, All, sym, ap, ◌∙◌, subst, arith, length-append}
use Rattle.std.proofs.lemmas.List.Elements.{All-push}
use Rattle.slot_batches.specs.Stands.{stage_endpoints, batch_size_of, StageState}
use Rattle.greedy_rules.proofs.TableLemmas.{next_row}
use Rattle.ring_core.specs.Workers.{own_stage}
use Rattle.ring_core.proofs.worker.Worker.open.Goals as goal

pub loop-stage-preserved : goal.loop-stage-preserved
loop-stage-preserved c =
    let was = c.loop-stage.invariant in
    let old : List StageState = c.loop-stage.stages.items in
    let more : List StageState = old ++ c.in_ok-open.field-0 ∷ [] in
    let items : c.push.new.self.items ≡ more = c.in_ok-push.ensures.items in
    let count : length c.push.new.self.items ≡ length old + 1 = ap length items ∙ length-append old (c.in_ok-open.field-0 ∷ []) in
    let next : c.loop-stage.stage + c.from-in-loop-stage.result ≡ own_stage c.args.workers c.args.number (length old + 1) = omega (arith, was.stage, c.from-in-loop-stage.ensures, next_row (length old) c.args.workers) in
    record {
      stage = next ∙ ap (own_stage c.args.workers c.args.number) (sym count);
      endpoints = subst (All (λ stage. stage_endpoints stage ≡ c.args.endpoints)) (sym items) (All-push (λ stage. stage_endpoints stage ≡ c.args.endpoints) old c.in_ok-open.field-0 was.endpoints c.in_ok-open.ensures.endpoints);
      none = subst (All (λ stage. stage.nodes ≡ 0)) (sym items) (All-push (λ stage. stage.nodes ≡ 0) old c.in_ok-open.field-0 was.none c.in_ok-open.ensures.nodes);
      sizes = subst (All (λ stage. batch_size_of stage ≡ c.args.b)) (sym items) (All-push (λ stage. batch_size_of stage ≡ c.args.b) old c.in_ok-open.field-0 was.sizes c.in_ok-open.ensures.b);
    }

use Rattle.std.proofs.Common.{◌<◌, ◌++◌, List, ◌∷◌, [], length, take, sym, ◌∙◌, subst, arith}
use Rattle.greedy_rules.specs.declared.flows.Item.{Item}
use Rattle.greedy_rules.specs.Demands.{opened}
use Rattle.slot_batches.specs.Filled.{HasTakenUp}
use Rattle.slot_batches.specs.Parts.{fill_of}
use Rattle.slot_batches.proofs.StageLemmas.{may_open, may_there, opened_one_more}
use Rattle.slot_batches.proofs.opening.open_flows.Goals as goal

pub open_flow-requires-clause-may : goal.open_flow-requires-clause-may
open_flow-requires-clause-may c =
    let batch = c.args.batch.now.entries in
    let at = c.loop-at.at in
    let start = c.args.filling.now in
    let taken = c.requires.may.0 in
    let before : List Item = taken ++ opened (take at batch) in
    let below : at < length batch = omega (arith, c.loop-at-test.true, c.requires.entries) in (
      before,
      c.loop-at.invariant.taken_up taken c.requires.may.1 c.requires.may.2,
      may_there start.maps.limits start.endpoints start.b start.first_slot c.loop-at.filling (before ++ opened (c.entry.result ∷ [])) c.loop-at.invariant.same
          (may_open start.endpoints start.first_slot c.args.entries at batch c.entry.result taken c.loop-at-test.true below c.entry.ensures c.requires.may.2),
    )

pub loop-at-preserved : goal.loop-at-preserved
loop-at-preserved c =
    let batch = c.args.batch.now.entries in
    let at = c.loop-at.at in
    let start = c.args.filling.now in
    let so_far = c.loop-at.invariant in
    let kept = c.open_flow.ensures.same in
    let below : at < length batch = omega (arith, c.loop-at-test.true, c.requires.entries) in
    record {
      room = c.open_flow.ensures.room;
      same = record {
        same_limits = kept.same_limits ∙ so_far.same.same_limits;
        same_endpoints = kept.same_endpoints ∙ so_far.same.same_endpoints;
        same_b = kept.same_b ∙ so_far.same.same_b;
        same_first = kept.same_first ∙ so_far.same.same_first;
      };
      taken_up = λ taken is may.
          let before : List Item = taken ++ opened (take at batch) in
          subst (λ (xs : List Item). HasTakenUp xs (fill_of c.open_flow.new.filling)) (sym (opened_one_more at batch c.entry.result taken below c.entry.ensures))
          (c.open_flow.ensures.taken_up before (so_far.taken_up taken is may)
          (may_there start.maps.limits start.endpoints start.b start.first_slot c.loop-at.filling (before ++ opened (c.entry.result ∷ [])) so_far.same
          (may_open start.endpoints start.first_slot c.args.entries at batch c.entry.result taken c.loop-at-test.true below c.entry.ensures may)));
    }

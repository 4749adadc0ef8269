use Rattle.std.proofs.Common.{◌*◌, List, [], sym, ap, ◌∙◌, subst, inl, arith}
use Rattle.std.specs.Prelude.{drop}
use Rattle.greedy_rules.specs.Batches.{DemandBatch}
use Rattle.clos_topology.specs.Network.{Network}
use Rattle.trace_run.specs.Run.{replayed}
use Rattle.replay_rounds.specs.Setting.{setting_of}
use Rattle.window_allocation.specs.Standing.{HasAllocated}
use Rattle.window_engine.proofs.replay.Replay.open.Goals as goal

pub returns-clause-stands : goal.returns-clause-stands
returns-clause-stands c cores named =
    let lanes = c.in_ok-open.field-0 in
    let opened = c.in_ok-open.ensures in
    let half = c.in_ok-open-2.ensures in
    let trace = c.args.trace.now in
    let run = setting_of trace lanes.b lanes.g cores in
    record {
      rounds = c.rounds.ensures.number;
      lanes = opened.stands cores named;
      size = half.b ∙ sym opened.b;
      windows = record {
        within = omega (arith, opened.collected);
        behind = omega (arith, opened.published);
        published = omega (arith, opened.first, opened.published);
        one_window = omega (arith, opened.collected);
        full = λ more. inl opened.collected;
        next = λ more. omega (arith, opened.first, opened.published);
      };
      waiting = sym (ap (λ n. drop n (replayed run lanes.collected).batches) opened.published ∙ ap (λ n. (replayed run n).batches) opened.collected);
      allocated = subst (λ (batches : List DemandBatch). HasAllocated trace.net lanes.g batches c.in_ok-open-2.field-0) (sym (ap (λ n. (replayed run n).batches) opened.published))
          (subst (λ g. HasAllocated trace.net g [] c.in_ok-open-2.field-0) (sym opened.g) (subst (λ (net : Network). HasAllocated net c.args.setting.g [] c.in_ok-open-2.field-0) c.net.ensures.net half.stands));
      pending_room = sym c.in_ok-vec.field-0.ok.0 ∙ (c.in_ok-vec.ensures.len ∙ ap (λ n. n * n) c.endpoints-endpoints.ensures.number);
      counted = λ done. absurd (omega (arith, done, opened.published, c.rounds.ensures.sound.some_round));
      ended = λ done. absurd (omega (arith, done, opened.published, c.rounds.ensures.sound.some_round));
    }

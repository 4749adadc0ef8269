use Rattle.std.proofs.Common.{◌≡◌, ◌*◌, ◌++◌, ℕ, List, length, replicate, All, ap, ◌∙◌, arith}
use Rattle.std.proofs.lemmas.List.{length-replicate}
use Rattle.greedy_rules.specs.declared.flows.Item.{Item}
use Rattle.slot_batches.specs.Stands.{StageState}
use Rattle.ring_core.specs.States.{WorkerState}
use Rattle.ring_core.proofs.ListLemmas.{all_at}
use Rattle.alloc_pipeline.proofs.crew.Crew.open.Goals as goal

pub returns-clause-ready : goal.returns-clause-ready
returns-clause-ready c =
    let edges = c.in_ok-queues.ensures in
    let crew = c.in_ok-crew.ensures in
    let pairs = ap (λ (n : ℕ). c.args.endpoints * n) c.saturating_sub.ensures in
    let blank : Item = record { flow = record { src = 0; dst = 0 }; need = 0; last = 0 } in
    let filled : length c.fill.new.self ≡ length (replicate (c.args.endpoints * c.saturating_sub.result) blank) =
    ap length (c.in_ok-fill.ensures.filled ∙ ap (λ (xs : List Item). xs ++ replicate (c.args.endpoints * c.saturating_sub.result) blank) c.new-spare.ensures) in
    record {
      sizes = c.requires.sizes;
      queue_count = edges.queues;
      rooms = edges.rooms;
      pass_count = edges.passes;
      resting = edges.resting;
      worker_count = crew.count;
      workers = crew.each;
      none_held = λ number worker is. all_at (λ (w : WorkerState). All (λ (stage : StageState). stage.nodes ≡ 0) w.stages) c.in_ok-crew.crew.items crew.none number worker is;
      nodes = omega (arith, filled, length-replicate (c.args.endpoints * c.saturating_sub.result) blank, pairs);
      none_play = c.in_ok-with_capacity.ensures.items;
      room_passes = omega (arith, edges.passes, c.in_ok-queues.passes.ok.0, c.in_ok-queues.passes.ok.1);
      room_workers = omega (arith, crew.count, c.in_ok-crew.crew.ok.0, c.in_ok-crew.crew.ok.1);
      room_players = c.in_ok-with_capacity.ensures.capacity;
      room_window = c.in_ok-with_capacity-2.ensures.capacity;
    }

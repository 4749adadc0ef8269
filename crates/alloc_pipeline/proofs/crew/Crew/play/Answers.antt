use Rattle.std.proofs.Common.{◌≡◌, ◌%◌, ◌++◌, ℕ, List, length, map, vec_capacity, sym, ap, ◌∙◌, refl, arith}
use Rattle.greedy_rules.specs.declared.flows.Item.{Item}
use Rattle.greedy_rules.specs.Batches.{DemandBatch}
use Rattle.alloc_pipeline.specs.declared.crew.Crew.{Crew}
use Rattle.alloc_pipeline.specs.declared.parcel.EdgeWindow.{EdgeWindow}
use Rattle.alloc_pipeline.specs.Rings.{last_list}
use Rattle.alloc_pipeline.specs.Starts.{played_window}
use Rattle.alloc_pipeline.proofs.Crewing.{window_for, nodes_are, left_is, few_nodes, may_start, start_there, started_here, may_play_out, out_there, played_again, moved_again, crewed_again, none_again, played_out}
use Rattle.alloc_pipeline.proofs.crew.Crew.play.Goals as goal

pub start-requires-clause-may : goal.start-requires-clause-may
start-requires-clause-may g c =
    let crew : Crew = c.args.self.now in
    let first : ℕ = c.args.first_batch in
    let batches : List DemandBatch = c.args.batches.now in
    let list : List Item = c.args.list.now.items in
    let w : EdgeWindow = window_for crew first batches list in
    let named : EdgeWindow = record { list = list; batches = map (λ batch. batch.value) c.name_batches.new.window.items; first_batch = first; b = crew.b; workers = crew.count; worker = 0 } in
    let named_is : named ≡ w = λ i. record { list = list; batches = c.name_batches.ensures.batches i; first_batch = first; b = crew.b; workers = crew.count; worker = 0 } in
    start_there crew.queues.items c.deref.result.now w named batches crew.resting.workers.items crew.resting.passes.items (length crew.resting.spare) c.deref.ensures.value named_is
    (may_start crew first batches list c.requires.ready c.requires.may c.every_batch_leaves_a_list.ensures.flows c.flows_fit_pairs.ensures)

pub play_window-requires-clause-may : goal.play_window-requires-clause-may
play_window-requires-clause-may g c κs within =
    let crew : Crew = c.args.self.now in
    let first : ℕ = c.args.first_batch in
    let batches : List DemandBatch = c.args.batches.now in
    let list : List Item = c.args.list.now.items in
    let w : EdgeWindow = window_for crew first batches list in
    let named : EdgeWindow = record { list = list; batches = map (λ batch. batch.value) c.name_batches.new.window.items; first_batch = first; b = crew.b; workers = crew.count; worker = 0 } in
    let named_is : named ≡ w = λ i. record { list = list; batches = c.name_batches.ensures.batches i; first_batch = first; b = crew.b; workers = crew.count; worker = 0 } in
    let nodes = nodes_are crew first batches list c.requires.ready c.requires.may c.every_batch_leaves_a_list.ensures.flows c.flows_fit_pairs.ensures in
    let started = started_here crew.queues.items c.deref.result.now w named batches crew.resting.workers.items crew.resting.passes.items (length crew.resting.spare) (length c.start.new.resting.spare) c.start.new.players.items c.deref.ensures.value named_is c.start.ensures.started in
    let same : c.replace-players.result.items ≡ c.start.new.players.items = λ i. (c.replace-players.ensures.value i).items in
    let begun = may_play_out crew.queues.items c.deref-2.result.now c.deref-2.ensures.value w batches refl crew.resting.workers.items crew.resting.passes.items (length crew.resting.spare) (length c.start.new.resting.spare) c.start.new.players.items c.replace-players.result.items same started refl c.requires.ready.sizes.some_workers.0 c.requires.ready.worker_count in
    let left = left_is crew first batches list c.requires.ready c.requires.may in
    let few = few_nodes crew first batches list c.requires.ready c.requires.may in
    out_there c.deref-2.result.now w (played_window c.replace-players.result.items) batches c.replace-players.result.items (length batches % length c.deref-2.result.now) c.clear.new.self.spare (length c.start.new.resting.spare) begun.0
    (record {
      batches_are = refl;
      linked = begun.1;
      all = record {
        places = begun.2;
        queue_count = ap length c.deref-2.ensures.value ∙ c.requires.ready.queue_count;
        player_count = begun.3;
        some_workers = c.requires.ready.sizes.some_workers.0;
        few_workers = omega (arith, c.requires.ready.sizes.some_workers.1);
        last_is = ap (λ (n : ℕ). length batches % n) (sym (ap length c.deref-2.ensures.value ∙ c.requires.ready.queue_count));
        fits = omega (arith, ap length left, c.clear.ensures.spare, c.requires.room);
        counts = omega (arith, started.nodes, nodes.1, few, c.requires.ready.nodes);
      };
    })

pub returns-clause-ready : goal.returns-clause-ready
returns-clause-ready g c =
    let crew : Crew = c.args.self.now in
    let first : ℕ = c.args.first_batch in
    let batches : List DemandBatch = c.args.batches.now in
    let list : List Item = c.args.list.now.items in
    let w : EdgeWindow = window_for crew first batches list in
    let named : EdgeWindow = record { list = list; batches = map (λ batch. batch.value) c.name_batches.new.window.items; first_batch = first; b = crew.b; workers = crew.count; worker = 0 } in
    let named_is : named ≡ w = λ i. record { list = list; batches = c.name_batches.ensures.batches i; first_batch = first; b = crew.b; workers = crew.count; worker = 0 } in
    let nodes = nodes_are crew first batches list c.requires.ready c.requires.may c.every_batch_leaves_a_list.ensures.flows c.flows_fit_pairs.ensures in
    let started = started_here crew.queues.items c.deref.result.now w named batches crew.resting.workers.items crew.resting.passes.items (length crew.resting.spare) (length c.start.new.resting.spare) c.start.new.players.items c.deref.ensures.value named_is c.start.ensures.started in
    let same : c.replace-players.result.items ≡ c.start.new.players.items = λ i. (c.replace-players.ensures.value i).items in
    let begun = may_play_out crew.queues.items c.deref-2.result.now c.deref-2.ensures.value w batches refl crew.resting.workers.items crew.resting.passes.items (length crew.resting.spare) (length c.start.new.resting.spare) c.start.new.players.items c.replace-players.result.items same started refl c.requires.ready.sizes.some_workers.0 c.requires.ready.worker_count in
    let p = c.play_window.ensures.crew in
    let again = played_again crew.queues.items c.deref-2.result.now c.deref-2.ensures.value w batches refl crew.resting.workers.items crew.resting.passes.items (length crew.resting.spare) (length c.start.new.resting.spare) c.start.new.players.items c.replace-players.result.items same started p.0 c.play_window.new.resting.workers.items p.1 p.2 p.3 in
    let moved = moved_again crew.queues.items c.deref-2.result.now c.deref-2.ensures.value w batches refl crew.resting.workers.items crew.resting.passes.items (length crew.resting.spare) (length c.start.new.resting.spare) c.start.new.players.items c.replace-players.result.items same started (played_window c.replace-players.result.items) c.play_window.new.resting.passes.items begun.0 c.play_window.ensures.raised in
    let ready = c.requires.ready in
    let same_room : vec_capacity c.replace-players.result ≡ vec_capacity c.start.new.players = λ i. vec_capacity (c.replace-players.ensures.value i) in
    record {
      sizes = ready.sizes;
      queue_count = ready.queue_count;
      rooms = ready.rooms;
      pass_count = moved.1 ∙ ready.pass_count;
      resting = moved.0;
      worker_count = again.1 ∙ ready.worker_count;
      workers = crewed_again w batches crew.resting.workers.items c.play_window.new.resting.workers.items again.0 crew.count crew.endpoints crew.batches crew.b ready.workers;
      none_held = none_again w batches crew.resting.workers.items c.play_window.new.resting.workers.items again.0;
      nodes = omega (arith, c.play_window.ensures.nodes, ap (λ (v : EdgeWindow). length (last_list v)) begun.0, started.nodes, nodes.0, ready.nodes);
      none_play = c.play_window.ensures.none;
      room_passes = omega (arith, ready.room_passes, c.play_window.ensures.capacity_passes, c.start.ensures.passes.1);
      room_workers = omega (arith, ready.room_workers, c.play_window.ensures.capacity_crew, c.start.ensures.crew.1);
      room_players = omega (arith, ready.room_players, c.play_window.ensures.capacity_players, c.start.ensures.players, same_room);
      room_window = omega (arith, ready.room_window, c.name_batches.ensures.capacity);
    }

pub returns-clause-list : goal.returns-clause-list
returns-clause-list g c =
    let crew : Crew = c.args.self.now in
    let first : ℕ = c.args.first_batch in
    let batches : List DemandBatch = c.args.batches.now in
    let list : List Item = c.args.list.now.items in
    let w : EdgeWindow = window_for crew first batches list in
    let named : EdgeWindow = record { list = list; batches = map (λ batch. batch.value) c.name_batches.new.window.items; first_batch = first; b = crew.b; workers = crew.count; worker = 0 } in
    let named_is : named ≡ w = λ i. record { list = list; batches = c.name_batches.ensures.batches i; first_batch = first; b = crew.b; workers = crew.count; worker = 0 } in
    let nodes = nodes_are crew first batches list c.requires.ready c.requires.may c.every_batch_leaves_a_list.ensures.flows c.flows_fit_pairs.ensures in
    let started = started_here crew.queues.items c.deref.result.now w named batches crew.resting.workers.items crew.resting.passes.items (length crew.resting.spare) (length c.start.new.resting.spare) c.start.new.players.items c.deref.ensures.value named_is c.start.ensures.started in
    let same : c.replace-players.result.items ≡ c.start.new.players.items = λ i. (c.replace-players.ensures.value i).items in
    let begun = may_play_out crew.queues.items c.deref-2.result.now c.deref-2.ensures.value w batches refl crew.resting.workers.items crew.resting.passes.items (length crew.resting.spare) (length c.start.new.resting.spare) c.start.new.players.items c.replace-players.result.items same started refl c.requires.ready.sizes.some_workers.0 c.requires.ready.worker_count in
    c.play_window.ensures.list ∙ ((λ i. c.clear.ensures.empty i ++ last_list (begun.0 i)) ∙ left_is crew first batches list c.requires.ready c.requires.may)

pub returns-clause-moved : goal.returns-clause-moved
returns-clause-moved g c =
    let crew : Crew = c.args.self.now in
    let first : ℕ = c.args.first_batch in
    let batches : List DemandBatch = c.args.batches.now in
    let list : List Item = c.args.list.now.items in
    let w : EdgeWindow = window_for crew first batches list in
    let named : EdgeWindow = record { list = list; batches = map (λ batch. batch.value) c.name_batches.new.window.items; first_batch = first; b = crew.b; workers = crew.count; worker = 0 } in
    let named_is : named ≡ w = λ i. record { list = list; batches = c.name_batches.ensures.batches i; first_batch = first; b = crew.b; workers = crew.count; worker = 0 } in
    let nodes = nodes_are crew first batches list c.requires.ready c.requires.may c.every_batch_leaves_a_list.ensures.flows c.flows_fit_pairs.ensures in
    let started = started_here crew.queues.items c.deref.result.now w named batches crew.resting.workers.items crew.resting.passes.items (length crew.resting.spare) (length c.start.new.resting.spare) c.start.new.players.items c.deref.ensures.value named_is c.start.ensures.started in
    let same : c.replace-players.result.items ≡ c.start.new.players.items = λ i. (c.replace-players.ensures.value i).items in
    let begun = may_play_out crew.queues.items c.deref-2.result.now c.deref-2.ensures.value w batches refl crew.resting.workers.items crew.resting.passes.items (length crew.resting.spare) (length c.start.new.resting.spare) c.start.new.players.items c.replace-players.result.items same started refl c.requires.ready.sizes.some_workers.0 c.requires.ready.worker_count in
    let p = c.play_window.ensures.crew in
    let again = played_again crew.queues.items c.deref-2.result.now c.deref-2.ensures.value w batches refl crew.resting.workers.items crew.resting.passes.items (length crew.resting.spare) (length c.start.new.resting.spare) c.start.new.players.items c.replace-players.result.items same started p.0 c.play_window.new.resting.workers.items p.1 p.2 p.3 in
    let moved = moved_again crew.queues.items c.deref-2.result.now c.deref-2.ensures.value w batches refl crew.resting.workers.items crew.resting.passes.items (length crew.resting.spare) (length c.start.new.resting.spare) c.start.new.players.items c.replace-players.result.items same started (played_window c.replace-players.result.items) c.play_window.new.resting.passes.items begun.0 c.play_window.ensures.raised in
    moved.2

pub returns-clause-played : goal.returns-clause-played
returns-clause-played g c =
    let crew : Crew = c.args.self.now in
    let first : ℕ = c.args.first_batch in
    let batches : List DemandBatch = c.args.batches.now in
    let list : List Item = c.args.list.now.items in
    let w : EdgeWindow = window_for crew first batches list in
    let named : EdgeWindow = record { list = list; batches = map (λ batch. batch.value) c.name_batches.new.window.items; first_batch = first; b = crew.b; workers = crew.count; worker = 0 } in
    let named_is : named ≡ w = λ i. record { list = list; batches = c.name_batches.ensures.batches i; first_batch = first; b = crew.b; workers = crew.count; worker = 0 } in
    let nodes = nodes_are crew first batches list c.requires.ready c.requires.may c.every_batch_leaves_a_list.ensures.flows c.flows_fit_pairs.ensures in
    let started = started_here crew.queues.items c.deref.result.now w named batches crew.resting.workers.items crew.resting.passes.items (length crew.resting.spare) (length c.start.new.resting.spare) c.start.new.players.items c.deref.ensures.value named_is c.start.ensures.started in
    let same : c.replace-players.result.items ≡ c.start.new.players.items = λ i. (c.replace-players.ensures.value i).items in
    let begun = may_play_out crew.queues.items c.deref-2.result.now c.deref-2.ensures.value w batches refl crew.resting.workers.items crew.resting.passes.items (length crew.resting.spare) (length c.start.new.resting.spare) c.start.new.players.items c.replace-players.result.items same started refl c.requires.ready.sizes.some_workers.0 c.requires.ready.worker_count in
    let p = c.play_window.ensures.crew in
    let again = played_again crew.queues.items c.deref-2.result.now c.deref-2.ensures.value w batches refl crew.resting.workers.items crew.resting.passes.items (length crew.resting.spare) (length c.start.new.resting.spare) c.start.new.players.items c.replace-players.result.items same started p.0 c.play_window.new.resting.workers.items p.1 p.2 p.3 in
    let moved = moved_again crew.queues.items c.deref-2.result.now c.deref-2.ensures.value w batches refl crew.resting.workers.items crew.resting.passes.items (length crew.resting.spare) (length c.start.new.resting.spare) c.start.new.players.items c.replace-players.result.items same started (played_window c.replace-players.result.items) c.play_window.new.resting.passes.items begun.0 c.play_window.ensures.raised in
    played_out w batches crew.resting.workers.items c.play_window.new.resting.workers.items again.0 refl

use Rattle.std.proofs.Common.{◌≡◌, ◌<◌, ◌+◌, ◌*◌, ◌%◌, ℕ, suc, List, length, get_or, set, sym, ap, ◌∙◌, subst, arith}
use Rattle.greedy_rules.specs.declared.flows.Item.{Item}
use Rattle.slot_batches.specs.Pieces.{piece_count}
use Rattle.ring_core.specs.States.{EdgeState, WorkerState}
use Rattle.ring_core.specs.Windows.{Window, list_before_stage, turns_below}
use Rattle.ring_core.specs.Edges.{room_at, room_of}
use Rattle.ring_core.specs.Wholes.{StandsBefore}
use Rattle.ring_core.proofs.EdgeLemmas.{room_kept}
use Rattle.ring_core.proofs.RunLemmas.{few_here, few_next, turns_fit, edge_there, pass_fits, starts_from, stage_is, list_here, number_below, next_stands}
use Rattle.ring_core.proofs.ring.play_stages.Goals as goal

pub count_pieces-taken-requires : goal.count_pieces-taken-requires
count_pieces-taken-requires c =
    let batches = c.args.batches.now in
    let was = c.loop-stage.invariant in
    let stage : ℕ = c.loop-stage.stage in
    let crew : List WorkerState = c.loop-stage.crew in
    let edges : List EdgeState = c.loop-stage.edges in
    let list : List Item = c.loop-stage.whole.list.items in
    let endpoints : ℕ = c.requires.stands.0 in
    let most : ℕ = c.requires.stands.1 in
    let window : Window = c.requires.stands.2 in
    let stands = (was.stands endpoints most window c.requires.stands.3).0 in
    let below : stage < length batches = omega (arith, c.loop-stage-test.true, c.loop-stage.auto.stage-end) in
    let keeps = c.every_batch_leaves_a_list.ensures.flows in
    let pairs = c.flows_fit_pairs.ensures in
    omega (arith, ap length c.items.ensures, few_here endpoints most batches window stage crew edges list stands below keeps pairs)

pub pass-requires-clause-taken : goal.pass-requires-clause-taken
pass-requires-clause-taken c =
    let batches = c.args.batches.now in
    let was = c.loop-stage.invariant in
    let stage : ℕ = c.loop-stage.stage in
    let crew : List WorkerState = c.loop-stage.crew in
    let edges : List EdgeState = c.loop-stage.edges in
    let list : List Item = c.loop-stage.whole.list.items in
    let endpoints : ℕ = c.requires.stands.0 in
    let most : ℕ = c.requires.stands.1 in
    let window : Window = c.requires.stands.2 in
    let stands = (was.stands endpoints most window c.requires.stands.3).0 in
    let below : stage < length batches = omega (arith, c.loop-stage-test.true, c.loop-stage.auto.stage-end) in
    let keeps = c.every_batch_leaves_a_list.ensures.flows in
    let pairs = c.flows_fit_pairs.ensures in
    let e : EdgeState = get_or edges (stage % length crew) c.index-edges-number.result in
    let e_is : e ≡ get_or edges (stage % window.workers) e = ap (get_or edges (stage % length crew)) c.index-edges-number.is ∙ ap (λ (n : ℕ). get_or edges (stage % n) e) stands.worker_count in
    (pass_fits endpoints most batches window stage crew edges list stands below e e_is c.requires.stands.6 c.count_pieces-taken.result (c.count_pieces-taken.ensures ∙ ap piece_count c.items.ensures)).0

pub pass-requires-clause-sent : goal.pass-requires-clause-sent
pass-requires-clause-sent c =
    let batches = c.args.batches.now in
    let was = c.loop-stage.invariant in
    let stage : ℕ = c.loop-stage.stage in
    let crew : List WorkerState = c.loop-stage.crew in
    let edges : List EdgeState = c.loop-stage.edges in
    let list : List Item = c.loop-stage.whole.list.items in
    let endpoints : ℕ = c.requires.stands.0 in
    let most : ℕ = c.requires.stands.1 in
    let window : Window = c.requires.stands.2 in
    let stands = (was.stands endpoints most window c.requires.stands.3).0 in
    let below : stage < length batches = omega (arith, c.loop-stage-test.true, c.loop-stage.auto.stage-end) in
    let keeps = c.every_batch_leaves_a_list.ensures.flows in
    let pairs = c.flows_fit_pairs.ensures in
    let e : EdgeState = get_or edges (stage % length crew) c.index-edges-number.result in
    let e_is : e ≡ get_or edges (stage % window.workers) e = ap (get_or edges (stage % length crew)) c.index-edges-number.is ∙ ap (λ (n : ℕ). get_or edges (stage % n) e) stands.worker_count in
    (pass_fits endpoints most batches window stage crew edges list stands below e e_is c.requires.stands.6 c.count_pieces-taken.result (c.count_pieces-taken.ensures ∙ ap piece_count c.items.ensures)).1

pub serve-requires-clause-starts : goal.serve-requires-clause-starts
serve-requires-clause-starts c =
    let batches = c.args.batches.now in
    let was = c.loop-stage.invariant in
    let stage : ℕ = c.loop-stage.stage in
    let crew : List WorkerState = c.loop-stage.crew in
    let edges : List EdgeState = c.loop-stage.edges in
    let list : List Item = c.loop-stage.whole.list.items in
    let endpoints : ℕ = c.requires.stands.0 in
    let most : ℕ = c.requires.stands.1 in
    let window : Window = c.requires.stands.2 in
    let stands = (was.stands endpoints most window c.requires.stands.3).0 in
    let below : stage < length batches = omega (arith, c.loop-stage-test.true, c.loop-stage.auto.stage-end) in
    let keeps = c.every_batch_leaves_a_list.ensures.flows in
    let pairs = c.flows_fit_pairs.ensures in
    let e : EdgeState = get_or edges (stage % length crew) c.index-edges-number.result in
    let e_is : e ≡ get_or edges (stage % window.workers) e = ap (get_or edges (stage % length crew)) c.index-edges-number.is ∙ ap (λ (n : ℕ). get_or edges (stage % n) e) stands.worker_count in
    let w : WorkerState = get_or crew (stage % length crew) c.index-crew-number.result in
    let w_is : w ≡ get_or crew (stage % window.workers) w = ap (get_or crew (stage % length crew)) c.index-crew-number.is ∙ ap (λ (n : ℕ). get_or crew (stage % n) w) stands.worker_count in
    (window, (starts_from endpoints most batches window stage crew edges list stands below e e_is w w_is).starts, list_here endpoints most batches window stage crew edges list stands below e e_is w w_is)

pub serve-requires-clause-going : goal.serve-requires-clause-going
serve-requires-clause-going c =
    let batches = c.args.batches.now in
    let was = c.loop-stage.invariant in
    let stage : ℕ = c.loop-stage.stage in
    let crew : List WorkerState = c.loop-stage.crew in
    let edges : List EdgeState = c.loop-stage.edges in
    let list : List Item = c.loop-stage.whole.list.items in
    let endpoints : ℕ = c.requires.stands.0 in
    let most : ℕ = c.requires.stands.1 in
    let window : Window = c.requires.stands.2 in
    let stands = (was.stands endpoints most window c.requires.stands.3).0 in
    let below : stage < length batches = omega (arith, c.loop-stage-test.true, c.loop-stage.auto.stage-end) in
    let keeps = c.every_batch_leaves_a_list.ensures.flows in
    let pairs = c.flows_fit_pairs.ensures in
    let e : EdgeState = get_or edges (stage % length crew) c.index-edges-number.result in
    let e_is : e ≡ get_or edges (stage % window.workers) e = ap (get_or edges (stage % length crew)) c.index-edges-number.is ∙ ap (λ (n : ℕ). get_or edges (stage % n) e) stands.worker_count in
    let w : WorkerState = get_or crew (stage % length crew) c.index-crew-number.result in
    let w_is : w ≡ get_or crew (stage % window.workers) w = ap (get_or crew (stage % length crew)) c.index-crew-number.is ∙ ap (λ (n : ℕ). get_or crew (stage % n) w) stands.worker_count in
    omega (arith, below, stage_is endpoints most batches window stage crew edges list stands below e e_is w w_is)

pub serve-requires-clause-room : goal.serve-requires-clause-room
serve-requires-clause-room c =
    let batches = c.args.batches.now in
    let was = c.loop-stage.invariant in
    let stage : ℕ = c.loop-stage.stage in
    let crew : List WorkerState = c.loop-stage.crew in
    let edges : List EdgeState = c.loop-stage.edges in
    let list : List Item = c.loop-stage.whole.list.items in
    let endpoints : ℕ = c.requires.stands.0 in
    let most : ℕ = c.requires.stands.1 in
    let window : Window = c.requires.stands.2 in
    let stands = (was.stands endpoints most window c.requires.stands.3).0 in
    let below : stage < length batches = omega (arith, c.loop-stage-test.true, c.loop-stage.auto.stage-end) in
    let keeps = c.every_batch_leaves_a_list.ensures.flows in
    let pairs = c.flows_fit_pairs.ensures in
    let e : EdgeState = get_or edges (stage % length crew) c.index-edges-number.result in
    let e_is : e ≡ get_or edges (stage % window.workers) e = ap (get_or edges (stage % length crew)) c.index-edges-number.is ∙ ap (λ (n : ℕ). get_or edges (stage % n) e) stands.worker_count in
    let w : WorkerState = get_or crew (stage % length crew) c.index-crew-number.result in
    let w_is : w ≡ get_or crew (stage % window.workers) w = ap (get_or crew (stage % length crew)) c.index-crew-number.is ∙ ap (λ (n : ℕ). get_or crew (stage % n) w) stands.worker_count in
    let room = (was.list (endpoints * endpoints) c.requires.stands.4 c.requires.stands.5).1 in
    let same : w.endpoints * w.endpoints ≡ endpoints * endpoints = let is = (starts_from endpoints most batches window stage crew edges list stands below e e_is w w_is).crewed.endpoints_is in λ i. is i * is i in
    omega (arith, room, same)

pub count_pieces-sent-requires : goal.count_pieces-sent-requires
count_pieces-sent-requires c =
    let batches = c.args.batches.now in
    let was = c.loop-stage.invariant in
    let stage : ℕ = c.loop-stage.stage in
    let crew : List WorkerState = c.loop-stage.crew in
    let edges : List EdgeState = c.loop-stage.edges in
    let list : List Item = c.loop-stage.whole.list.items in
    let endpoints : ℕ = c.requires.stands.0 in
    let most : ℕ = c.requires.stands.1 in
    let window : Window = c.requires.stands.2 in
    let stands = (was.stands endpoints most window c.requires.stands.3).0 in
    let below : stage < length batches = omega (arith, c.loop-stage-test.true, c.loop-stage.auto.stage-end) in
    let keeps = c.every_batch_leaves_a_list.ensures.flows in
    let pairs = c.flows_fit_pairs.ensures in
    let e : EdgeState = get_or edges (stage % length crew) c.index-edges-number.result in
    let e_is : e ≡ get_or edges (stage % window.workers) e = ap (get_or edges (stage % length crew)) c.index-edges-number.is ∙ ap (λ (n : ℕ). get_or edges (stage % n) e) stands.worker_count in
    let w : WorkerState = get_or crew (stage % length crew) c.index-crew-number.result in
    let w_is : w ≡ get_or crew (stage % window.workers) w = ap (get_or crew (stage % length crew)) c.index-crew-number.is ∙ ap (λ (n : ℕ). get_or crew (stage % n) w) stands.worker_count in
    let starts = starts_from endpoints most batches window stage crew edges list stands below e e_is w w_is in
    let next = (c.serve.ensures.starts window starts.starts (list_here endpoints most batches window stage crew edges list stands below e e_is w w_is)).1 ∙ ap (λ (n : ℕ). list_before_stage window (n + 1)) (stage_is endpoints most batches window stage crew edges list stands below e e_is w w_is) in
    omega (arith, ap length c.items-in-loop-stage.ensures, few_next endpoints most batches window stage crew edges list stands below keeps pairs c.serve.new.self.list.items next)

pub overflow_add-turns-in-loop-stage : goal.overflow_add-turns-in-loop-stage
overflow_add-turns-in-loop-stage c =
    let batches = c.args.batches.now in
    let was = c.loop-stage.invariant in
    let stage : ℕ = c.loop-stage.stage in
    let crew : List WorkerState = c.loop-stage.crew in
    let edges : List EdgeState = c.loop-stage.edges in
    let list : List Item = c.loop-stage.whole.list.items in
    let endpoints : ℕ = c.requires.stands.0 in
    let most : ℕ = c.requires.stands.1 in
    let window : Window = c.requires.stands.2 in
    let stands = (was.stands endpoints most window c.requires.stands.3).0 in
    let below : stage < length batches = omega (arith, c.loop-stage-test.true, c.loop-stage.auto.stage-end) in
    let keeps = c.every_batch_leaves_a_list.ensures.flows in
    let pairs = c.flows_fit_pairs.ensures in
    let e : EdgeState = get_or edges (stage % length crew) c.index-edges-number.result in
    let e_is : e ≡ get_or edges (stage % window.workers) e = ap (get_or edges (stage % length crew)) c.index-edges-number.is ∙ ap (λ (n : ℕ). get_or edges (stage % n) e) stands.worker_count in
    let w : WorkerState = get_or crew (stage % length crew) c.index-crew-number.result in
    let w_is : w ≡ get_or crew (stage % window.workers) w = ap (get_or crew (stage % length crew)) c.index-crew-number.is ∙ ap (λ (n : ℕ). get_or crew (stage % n) w) stands.worker_count in
    let starts = starts_from endpoints most batches window stage crew edges list stands below e e_is w w_is in
    let next = (c.serve.ensures.starts window starts.starts (list_here endpoints most batches window stage crew edges list stands below e e_is w w_is)).1 ∙ ap (λ (n : ℕ). list_before_stage window (n + 1)) (stage_is endpoints most batches window stage crew edges list stands below e e_is w w_is) in
    let taken = c.from.ensures ∙ (c.count_pieces-taken.ensures ∙ ap piece_count (c.items.ensures ∙ stands.list_is)) in
    let sent = c.from-in-loop-stage.ensures ∙ (c.count_pieces-sent.ensures ∙ ap piece_count (c.items-in-loop-stage.ensures ∙ next)) in
    omega (arith, turns_fit endpoints most batches window stage crew edges list stands below keeps pairs, (was.stands endpoints most window c.requires.stands.3).1, taken, sent)

pub loop-stage-preserved : goal.loop-stage-preserved
loop-stage-preserved c =
    let batches = c.args.batches.now in
    let was = c.loop-stage.invariant in
    let stage : ℕ = c.loop-stage.stage in
    let crew : List WorkerState = c.loop-stage.crew in
    let edges : List EdgeState = c.loop-stage.edges in
    let list : List Item = c.loop-stage.whole.list.items in
    let below : stage < length batches = omega (arith, c.loop-stage-test.true, c.loop-stage.auto.stage-end) in
    let number : ℕ = stage % length crew in
    let e : EdgeState = get_or edges number c.index-edges-number.result in
    let w : WorkerState = get_or crew number c.index-crew-number.result in
    let first = (was.stands c.requires.stands.0 c.requires.stands.1 c.requires.stands.2 c.requires.stands.3).0 in
    let e_at : e ≡ get_or edges number e = ap (get_or edges number) c.index-edges-number.is in
    let workers : ℕ = c.requires.stands.2.workers in
    let inside : number < length edges = omega (arith, ap (λ (n : ℕ). stage % n) first.worker_count, number_below c.requires.stands.0 c.requires.stands.1 batches c.requires.stands.2 stage crew edges list first below, first.edge_count) in
    let there = edge_there c.requires.stands.0 c.requires.stands.1 batches c.requires.stands.2 stage crew edges list first below e (e_at ∙ ap (λ (n : ℕ). get_or edges (stage % n) e) first.worker_count) in
    let room : c.pass.new.self.room ≡ room_at edges number = c.pass.ensures.room ∙ sym (ap (λ (n : ℕ). room_at edges (stage % n)) first.worker_count ∙ ap room_of there) in
    record {
      within = omega (arith, below);
      stands = λ endpoints most window begun.
          let so_far = was.stands endpoints most window begun in
          let stands = so_far.0 in
          let e_is : e ≡ get_or edges (stage % window.workers) e = e_at ∙ ap (λ (n : ℕ). get_or edges (stage % n) e) stands.worker_count in
          let w_is : w ≡ get_or crew (stage % window.workers) w = ap (get_or crew number) c.index-crew-number.is ∙ ap (λ (n : ℕ). get_or crew (stage % n) w) stands.worker_count in
          let served = c.serve.ensures.starts window (starts_from endpoints most batches window stage crew edges list stands below e e_is w w_is).starts (list_here endpoints most batches window stage crew edges list stands below e e_is w w_is) in
          let next = served.1 ∙ ap (λ (n : ℕ). list_before_stage window (n + 1)) (stage_is endpoints most batches window stage crew edges list stands below e e_is w w_is) in
          let taken = c.from.ensures ∙ (c.count_pieces-taken.ensures ∙ ap piece_count (c.items.ensures ∙ stands.list_is)) in
          let sent = c.from-in-loop-stage.ensures ∙ (c.count_pieces-sent.ensures ∙ ap piece_count (c.items-in-loop-stage.ensures ∙ next)) in
          let on = ap (turns_below window) (let q : stage + 1 ≡ suc stage = omega arith in q) in
          let after = next_stands endpoints most batches window stage crew edges list stands below e e_is w w_is c.serve.new.worker c.pass.new.self c.serve.new.self.list.items c.count_pieces-taken.result served.0 c.serve.ensures.worker c.serve.ensures.stage served.1
          (c.count_pieces-taken.ensures ∙ ap piece_count c.items.ensures) c.pass.ensures.pieces c.pass.ensures.taken c.pass.ensures.sent in
          (subst (λ (n : ℕ). StandsBefore endpoints most batches window (stage + 1) (set crew (stage % n) c.serve.new.worker) (set edges (stage % n) c.pass.new.self) c.serve.new.self.list.items) (sym stands.worker_count) after, omega (arith, so_far.1, taken, sent, on));
      nodes = omega (arith, was.nodes, c.serve.ensures.nodes);
      rooms = λ k. room_kept edges number c.pass.new.self k room inside ∙ was.rooms k;
      list = λ pairs one other. let so_far = was.list pairs one other in (omega (arith, so_far.1, c.serve.ensures.list), omega (arith, so_far.0, c.serve.ensures.left));
    }

pub returns-clause-stands : goal.returns-clause-stands
returns-clause-stands c = λ endpoints most window begun.
    let was = c.loop-stage.invariant in
    let batches = c.args.batches.now in
    let so_far = was.stands endpoints most window begun in
    let all : c.loop-stage.stage ≡ length batches = omega (arith, was.within, c.loop-stage-test.false, c.loop-stage.auto.stage-end) in
    (subst (λ (n : ℕ). StandsBefore endpoints most batches window n c.loop-stage.crew c.loop-stage.edges c.loop-stage.whole.list.items) all so_far.0, so_far.1 ∙ ap (turns_below window) (all ∙ sym (ap length so_far.0.batches_are)))

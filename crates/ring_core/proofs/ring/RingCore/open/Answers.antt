use Rattle.std.proofs.Common.{◌≡◌, ◌*◌, ◌++◌, ℕ, List, [], length, replicate, Option, All, slice_get, sym, ap, ◌∙◌, arith}
use Rattle.std.proofs.lemmas.List.{length-replicate}
use Rattle.greedy_rules.specs.declared.flows.Item.{Item}
use Rattle.slot_batches.specs.Stands.{StageState}
use Rattle.ring_core.specs.States.{EdgeState, WorkerState}
use Rattle.ring_core.specs.Edges.{room_at, room_of}
use Rattle.ring_core.specs.Wholes.{with_list, whole_nodes}
use Rattle.ring_core.proofs.EndLemmas.{get_some}
use Rattle.ring_core.proofs.ListLemmas.{all_at}
use Rattle.ring_core.proofs.ring.RingCore.open.Goals as goal

pub returns-clause-rest : goal.returns-clause-rest
returns-clause-rest c =
    let whole = c.in_ok-whole.whole in
    let raw : List EdgeState = c.in_ok-edges.edges.items in
    let none = c.in_ok-whole.ensures.none in
    let edges : with_list whole.stage c.args.workers whole.list.items raw ≡ raw = ap (λ (o : Option ℕ). with_list o c.args.workers whole.list.items raw) none in
    let count = c.in_ok-edges.ensures.count in
    let pairs = ap (λ (n : ℕ). c.args.endpoints * n) c.saturating_sub.ensures in
    let blank : Item = record { flow = record { src = 0; dst = 0 }; need = 0; last = 0 } in
    let filled : length c.fill.new.self ≡ length (replicate (c.args.endpoints * c.saturating_sub.result) blank) =
    ap length (c.in_ok-fill.ensures.filled ∙ ap (λ (xs : List Item). xs ++ replicate (c.args.endpoints * c.saturating_sub.result) blank) c.new-spare.ensures) in
    let Empty : EdgeState → Type 0 = λ edge. (edge.pieces ≡ []) × (edge.taken ≡ 0) × (edge.sent ≡ 0) in
    record {
      ring = record {
        some_workers = c.requires.workers;
        few_workers = c.ranges.workers.fits;
        few_batches = c.ranges.batches.fits;
        edge_count = ap length edges ∙ count;
        worker_count = c.in_ok-crew.ensures.count;
        rooms = λ number within.
            let there = get_some raw number (omega (arith, count, within)) in
            ap (λ (es : List EdgeState). room_at es number) edges
            ∙ (ap room_of there.1 ∙ all_at (λ (edge : EdgeState). edge.room ≡ c.args.room) raw c.in_ok-edges.ensures.rooms number there.0 there.1);
        each = c.in_ok-crew.ensures.each;
      };
      nodes = omega (arith, filled, length-replicate (c.args.endpoints * c.saturating_sub.result) blank, pairs, ap (λ (o : Option ℕ). whole_nodes o whole.list.items) none);
      none_held = λ number worker is. all_at (λ (w : WorkerState). All (λ (stage : StageState). stage.nodes ≡ 0) w.stages) c.in_ok-crew.crew.items c.in_ok-crew.ensures.none number worker is;
      none_lies = λ number edge is. all_at Empty raw c.in_ok-edges.ensures.empty number edge (ap (λ (es : List EdgeState). slice_get es number) (sym edges) ∙ is);
    }

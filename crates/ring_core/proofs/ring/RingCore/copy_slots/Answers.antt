use Rattle.std.proofs.Common.{◌≡◌, ◌<◌, ◌≤◌, ◌+◌, ◌*◌, ◌%◌, ℕ, List, length, get_or, take, Some, slice_get, refl, sym, ap, ◌∙◌, arith}
use Rattle.std.proofs.lemmas.Nat.{mod_below, mul-le}
use Rattle.std.proofs.lemmas.Option.{slice_get_read}
use Rattle.greedy_rules.specs.Batches.{DemandBatch}
use Rattle.greedy_rules.proofs.TableLemmas.{next_row}
use Rattle.ring_core.specs.States.{RingState, WorkerState}
use Rattle.ring_core.specs.Cores.{IsRing, IsPlaying, ends_in}
use Rattle.ring_core.proofs.TakeLemmas.{ended_at, none_copied, stage_copied}
use Rattle.ring_core.proofs.ring.RingCore.copy_slots.Goals as goal

-- the worker that the code reads
worker_here : (core : RingState) (crew : List WorkerState) (len stage : ℕ) (w : WorkerState) → IsRing core → crew ≡ core.crew → len ≡ core.workers → w ≡ get_or crew (stage % len) w → slice_get core.crew (stage % core.workers) ≡ Some w
worker_here core crew len stage w ring same len_is is =
    ap (λ (ws : List WorkerState). slice_get ws (stage % core.workers)) (sym same)
    ∙ slice_get_read crew core.workers (stage % core.workers) w (sym (ap length same ∙ ring.worker_count)) (mod_below stage core.workers ring.some_workers) (is ∙ ap (λ (n : ℕ). get_or crew (stage % n) w) len_is)

pub slots-requires : goal.slots-requires
slots-requires c =
    let core : RingState = c.args.self.now in
    let batches = c.requires.playing.0 in
    let playing = c.requires.playing.1 in
    let stage : ℕ = c.loop-stage.stage in
    let w : WorkerState = c.index-worker.result.now in
    let crew = ap (λ (v : RingState). v.crew) c.self.view_is in
    let len : c.len.result ≡ core.workers = omega (arith, c.len.ensures, c.self.inside.crew.ok.0, ap length crew, playing.ring.worker_count) in
    let here = worker_here core c.self.inside.crew.items c.len.result stage w playing.ring crew len c.index-worker.ensures in
    let below : stage < core.stages = omega (arith, c.loop-stage-test.true, c.loop-stage.auto.stage-end, ap (λ (v : RingState). v.stages) c.self.view_is) in
    (batches, ends_in batches core (stage % core.workers), playing.plays (stage % core.workers) w here, ended_at batches core playing c.requires.finished stage w below here)

pub copy-requires-clause-endpoints : goal.copy-requires-clause-endpoints
copy-requires-clause-endpoints c =
    let core : RingState = c.args.self.now in
    let ring = c.requires.playing.1.ring in
    let stage : ℕ = c.loop-stage.stage in
    let w : WorkerState = c.index-worker.result.now in
    let crew = ap (λ (v : RingState). v.crew) c.self.view_is in
    let len : c.len.result ≡ core.workers = omega (arith, c.len.ensures, c.self.inside.crew.ok.0, ap length crew, ring.worker_count) in
    let here = worker_here core c.self.inside.crew.items c.len.result stage w ring crew len c.index-worker.ensures in
    omega (arith, c.slots.ensures.endpoints, (ring.each (stage % core.workers) w here).endpoints_is, c.requires.serves, c.loop-stage.invariant.endpoints)

pub copy-requires-clause-places : goal.copy-requires-clause-places
copy-requires-clause-places c =
    let core : RingState = c.args.self.now in
    let ring = c.requires.playing.1.ring in
    let stage : ℕ = c.loop-stage.stage in
    let w : WorkerState = c.index-worker.result.now in
    let crew = ap (λ (v : RingState). v.crew) c.self.view_is in
    let len : c.len.result ≡ core.workers = omega (arith, c.len.ensures, c.self.inside.crew.ok.0, ap length crew, ring.worker_count) in
    let here = worker_here core c.self.inside.crew.items c.len.result stage w ring crew len c.index-worker.ensures in
    let below : stage < core.stages = omega (arith, c.loop-stage-test.true, c.loop-stage.auto.stage-end, ap (λ (v : RingState). v.stages) c.self.view_is) in
    let place : ℕ = c.args.passed + stage in
    let to = ap (λ (v : RingState). place * v.b) c.self.view_is in
    let size = (ring.each (stage % core.workers) w here).b_is in
    let all = mul-le (place + 1) core.b (c.args.passed + core.stages) core.b (omega (arith, below)) (omega arith) in
    omega (arith, to, c.slots.ensures.count, size, next_row place core.b, all, c.requires.places, c.loop-stage.invariant.places)

pub loop-stage-init : goal.loop-stage-init
loop-stage-init c =
    let core : RingState = c.args.self.now in
    let passed : ℕ = c.args.passed in
    let fits : passed * core.b ≤ length c.args.out.now.slots = omega (arith, mul-le passed core.b (passed + core.stages) core.b (omega arith) (omega arith), c.requires.places) in
    let none = λ (batches : List DemandBatch). none_copied passed batches core c.args.out.now.slots fits c.requires.empty in
    record {
      slots = λ batches playing. (none batches).0;
      count = λ batches playing. (none batches).1;
      places = refl;
      endpoints = refl;
    }

pub loop-stage-preserved : goal.loop-stage-preserved
loop-stage-preserved c =
    let core : RingState = c.args.self.now in
    let ring = c.requires.playing.1.ring in
    let was = c.loop-stage.invariant in
    let stage : ℕ = c.loop-stage.stage in
    let w : WorkerState = c.index-worker.result.now in
    let crew = ap (λ (v : RingState). v.crew) c.self.view_is in
    let len : c.len.result ≡ core.workers = omega (arith, c.len.ensures, c.self.inside.crew.ok.0, ap length crew, ring.worker_count) in
    let here = worker_here core c.self.inside.crew.items c.len.result stage w ring crew len c.index-worker.ensures in
    let below : stage < core.stages = omega (arith, c.loop-stage-test.true, c.loop-stage.auto.stage-end, ap (λ (v : RingState). v.stages) c.self.view_is) in
    let passed : ℕ = c.args.passed in
    let to : (passed + stage) * c.self.inside.b ≡ (passed + stage) * core.b = ap (λ (v : RingState). (passed + stage) * v.b) c.self.view_is in
    let size = c.slots.ensures.count ∙ (ring.each (stage % core.workers) w here).b_is in
    let fits : (passed + stage + 1) * core.b ≤ length c.args.out.now.slots = omega (arith, mul-le (passed + stage + 1) core.b (passed + core.stages) core.b (omega (arith, below)) (omega arith), c.requires.places) in
    let copied = λ (batches : List DemandBatch) (playing : IsPlaying batches core).
    stage_copied (take (passed * core.b) c.args.out.now.slots) passed batches core stage c.slots.result.now.slots c.loop-stage.out.slots c.copy.new.self.slots ((passed + stage) * c.self.inside.b) (length c.args.out.now.slots) (omega (arith, below, playing.stages))
    (c.slots.ensures.slots batches (ends_in batches core (stage % core.workers)) (playing.plays (stage % core.workers) w here)) size to fits (was.slots batches playing) (was.count batches playing) c.copy.ensures.slots in
    record {
      slots = λ batches playing. (copied batches playing).0;
      count = λ batches playing. (copied batches playing).1;
      places = (copied c.requires.playing.0 c.requires.playing.1).2;
      endpoints = c.copy.ensures.endpoints ∙ was.endpoints;
    }

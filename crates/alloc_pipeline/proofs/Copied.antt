-- The slots of a window that was played, stage by stage.
use Rattle.std.proofs.Common.{◌≡◌, ℕ, ◌+◌, ◌*◌, ◌/◌, ◌%◌, ◌<◌, List, [], length, Some, slice_get, get_or, sym, ap, ◌∙◌, arith}
use Rattle.std.proofs.lemmas.Nat.{div-add-mod', mod_below}
use Rattle.std.proofs.lemmas.Option.{slice_get_read}
use Rattle.ring_core.specs.States.{RingState, WorkerState}
use Rattle.ring_core.specs.Windows.{Window}
use Rattle.ring_core.specs.Workers.{own_stage, IsEndedStage}
use Rattle.ring_core.proofs.BeginLemmas.{own_before}
use Rattle.alloc_pipeline.specs.Crews.{HasPlayedOut}

-- the window as the laws of a ring over lists see it
abbrev pub ring_of : Window → RingState
ring_of window = record { workers = window.workers; endpoints = 0; batches = 0; b = window.b; room = 0; list = window.list; first_batch = window.first_batch; stages = length window.batches; edges = []; crew = []; spare = 0 }

-- the worker that the code reads
pub worker_here : (workers len stage : ℕ) (crew : List WorkerState) (v : WorkerState) → 0 < workers → length crew ≡ workers → len ≡ workers → v ≡ get_or crew (stage % len) v → slice_get crew (stage % workers) ≡ Some v
worker_here workers len stage crew v some count len_is is =
    slice_get_read crew workers (stage % workers) v (sym count) (mod_below stage workers some) (is ∙ ap (λ (n : ℕ). get_or crew (stage % n) v) len_is)

pub ended_stage : (window : Window) (stage : ℕ) (v : WorkerState) → HasPlayedOut window v → stage < length window.batches → v.number ≡ stage % window.workers → v.workers ≡ window.workers → IsEndedStage v stage
ended_stage window stage v out below number_is workers_is =
    let played = out.plays.2 in
    let place : ℕ = stage / window.workers in
    let here : stage ≡ own_stage v.workers v.number place = sym (div-add-mod' stage window.workers) ∙ (λ i. place * sym workers_is i + sym number_is i) in
    (place, own_before v.workers v.number place v.place (omega (arith, sym here, played.stage, out.ended, below)), here)

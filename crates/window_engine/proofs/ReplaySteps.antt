-- A step of a replay: the batches that wait are the next of its run, and may be allocated.
use Rattle.std.proofs.Common.{◌≡◌, ◌≤◌, ◌+◌, ◌-◌, ◌^◌, ℕ, zero, suc, List, [], ◌∷◌, ◌++◌, length, map, drop, sym, ap, ◌∙◌, subst, arith}
use Rattle.std.specs.List.{range_with_len}
use Rattle.std.proofs.lemmas.Nat.{mul-le}
use Rattle.std.proofs.lemmas.List.{append-nil, append_assoc, length-drop, drop_at, take-append-drop}
use Rattle.greedy_rules.specs.declared.flows.Flow.{Flow}
use Rattle.greedy_rules.specs.declared.flows.Item.{Item}
use Rattle.greedy_rules.specs.Batches.{DemandBatch}
use Rattle.greedy_rules.specs.Schedule.{first_slot, schedule_from, rest}
use Rattle.clos_topology.specs.Network.{Network}
use Rattle.clos_topology.specs.NetSlots.{SlotCores}
use Rattle.trace_text.specs.Trace.{TraceContent}
use Rattle.trace_text.specs.Valid.{IsTrace}
use Rattle.trace_run.specs.Run.{Setting, replayed}
use Rattle.trace_run.specs.Fronts.{EveryRoundHasABatch}
use Rattle.trace_run.specs.Windows.{batch_at}
use Rattle.replay_rounds.specs.Standing.{slots_between}
use Rattle.window_allocation.specs.Nets.{AreOfNet}
use Rattle.window_engine.specs.Premises.{Replays}
use Rattle.window_engine.specs.Replay.{ReplayState, replay_run, ReplayStands}
use Rattle.window_allocation.specs.Standing.{Allocated, HasAllocated}
use Rattle.window_allocation.specs.declared.window.Span.{Span}
use Rattle.window_allocation.specs.Windows.{WindowContent, IsWindowOf}
use Rattle.window_allocation.proofs.WindowLemmas.{HasNext, Goes}
use Rattle.window_engine.proofs.Rings.{ring_holds}

-- ---- the batches that wait

-- those of the next rounds follow those of the first
more_batches : (s : Setting) (first count : ℕ) → (replayed s (first + count)).batches ≡ (replayed s first).batches ++ map (batch_at s) (range_with_len first count)
more_batches s first zero =
    let same : first + 0 ≡ first = omega arith in
    ap (λ (n : ℕ). (replayed s n).batches) same ∙ sym (append-nil (replayed s first).batches)
more_batches s first (suc count) =
    let on : first + suc count ≡ suc first + count = omega arith in
    let next : suc first ≡ first + 1 = omega arith in
    ap (λ (n : ℕ). (replayed s n).batches) on
    ∙ (more_batches s (suc first) count
    ∙ (append_assoc (replayed s first).batches (batch_at s first ∷ []) (map (batch_at s) (range_with_len (suc first) count))
    ∙ ap (λ (n : ℕ). (replayed s first).batches ++ batch_at s first ∷ map (batch_at s) (range_with_len n count)) next))

pub next_batches : (s : Setting) (first count : ℕ) → EveryRoundHasABatch → map (batch_at s) (range_with_len first count) ≡ drop first (replayed s (first + count)).batches
next_batches s first count batches =
    let front : List DemandBatch = (replayed s first).batches in
    let later : List DemandBatch = map (batch_at s) (range_with_len first count) in
    sym (ap (drop first) (more_batches s first count) ∙ drop_at front later first (batches s first))

-- what is known of those that wait
pub record AreNext (trace : TraceContent) (cores : SlotCores) (engine : ReplayState) : Type 0 where
  pub number : length engine.waiting ≡ engine.lanes.collected - engine.lanes.published
  pub done : engine.allocation.batches ≡ engine.lanes.published
  pub whole : (replayed (replay_run trace cores engine) engine.lanes.published).batches ++ engine.waiting ≡ (replayed (replay_run trace cores engine) engine.lanes.collected).batches
  pub recorded : AreOfNet trace.net ((replayed (replay_run trace cores engine) engine.lanes.published).batches ++ engine.waiting)
  pub slots : schedule_from engine.allocation.b engine.allocation.batches engine.allocation.list.items engine.waiting
      ≡ slots_between (replay_run trace cores engine) engine.lanes.published engine.lanes.collected

pub are_next : Replays → (trace : TraceContent) (cores : SlotCores) (engine : ReplayState) → IsTrace trace → ReplayStands trace cores engine → AreNext trace cores engine
are_next laws trace cores engine sound stands =
    let s : Setting = replay_run trace cores engine in
    let m : ℕ = engine.lanes.published in
    let r : ℕ = engine.lanes.collected in
    let b : ℕ = engine.lanes.b in
    let front : List DemandBatch = (replayed s m).batches in
    let all : List DemandBatch = (replayed s r).batches in
    let behind : m ≤ r = stands.windows.behind in
    let whole : front ++ engine.waiting ≡ all =
    ap (λ (bs : List DemandBatch). front ++ bs) stands.waiting ∙ (ap (λ (bs : List DemandBatch). bs ++ drop m all) (sym (laws.begins s m r behind)) ∙ take-append-drop m all) in
    let of_run = laws.recorded s r trace.rounds stands.windows.within (laws.setting trace b engine.lanes.g cores sound stands.lanes.batch.1 stands.lanes.rounds.0) in
    let done : engine.allocation.batches ≡ m = stands.allocated.number ∙ laws.batches s m in
    let list : engine.allocation.list.items ≡ rest b front = stands.allocated.left ∙ ap (λ (n : ℕ). rest n front) stands.size in
    record {
      number = ap length stands.waiting ∙ (length-drop m all ∙ ap (λ (n : ℕ). n - m) (laws.batches s r));
      done = done;
      whole = whole;
      recorded = subst (AreOfNet trace.net) (sym whole) of_run.batches;
      slots = ap (λ (n : ℕ). schedule_from n engine.allocation.batches engine.allocation.list.items engine.waiting) stands.size
          ∙ (ap (λ (k : ℕ). schedule_from b k engine.allocation.list.items engine.waiting) done
          ∙ (ap (λ (l : List Item). schedule_from b m l engine.waiting) list
          ∙ (ap (schedule_from b m (rest b front)) stands.waiting ∙ (laws.window s m r behind).slots)));
    }

-- ---- they may be allocated

most_is : (trace : TraceContent) (cores : SlotCores) (engine : ReplayState) → ReplayStands trace cores engine → engine.allocation.ring.batches ≡ engine.lanes.g
most_is trace cores engine stands = ring_holds _ _ _ _ stands.allocated

half_has : (trace : TraceContent) (cores : SlotCores) (engine : ReplayState) → ReplayStands trace cores engine
    → HasAllocated engine.allocation.paths.net engine.allocation.ring.batches (replayed (replay_run trace cores engine) engine.lanes.published).batches engine.allocation
half_has trace cores engine stands =
    let front : List DemandBatch = (replayed (replay_run trace cores engine) engine.lanes.published).batches in
    subst (λ (net : Network). HasAllocated net engine.allocation.ring.batches front engine.allocation) (sym stands.allocated.serves)
    (subst (λ (most : ℕ). HasAllocated trace.net most front engine.allocation) (sym (most_is trace cores engine stands)) stands.allocated)

half_next : Replays → (trace : TraceContent) (cores : SlotCores) (engine : ReplayState) → IsTrace trace → ReplayStands trace cores engine
    → AreOfNet engine.allocation.paths.net ((replayed (replay_run trace cores engine) engine.lanes.published).batches ++ engine.waiting)
half_next laws trace cores engine sound stands =
    subst (λ (net : Network). AreOfNet net ((replayed (replay_run trace cores engine) engine.lanes.published).batches ++ engine.waiting)) (sym stands.allocated.serves)
    (are_next laws trace cores engine sound stands).recorded

pub replay_next : Replays → (trace : TraceContent) (cores : SlotCores) (engine : ReplayState) → IsTrace trace → ReplayStands trace cores engine → HasNext engine.waiting engine.allocation
replay_next laws trace cores engine sound stands =
    ((replayed (replay_run trace cores engine) engine.lanes.published).batches, half_has trace cores engine stands, half_next laws trace cores engine sound stands)

pub few_wait : Replays → (trace : TraceContent) (cores : SlotCores) (engine : ReplayState) → IsTrace trace → ReplayStands trace cores engine
    → (length engine.waiting ≤ engine.allocation.ring.batches) × (first_slot engine.allocation.b (engine.allocation.batches + length engine.waiting) ≤ 2 ^ 32)
few_wait laws trace cores engine sound stands =
    let next = are_next laws trace cores engine sound stands in
    let all : ℕ = engine.allocation.batches + length engine.waiting in
    let few : all ≤ 100000 = omega (arith, next.number, next.done, stands.windows.behind, stands.windows.within, sound.few_rounds) in (
      omega (arith, next.number, stands.windows.one_window, most_is trace cores engine stands),
      omega (arith, mul-le all engine.allocation.b 100000 64 few (omega (arith, stands.size, stands.lanes.batch.1))),
    )

-- and then they are
pub replay_allocated : Replays → (trace : TraceContent) (cores : SlotCores) (engine : ReplayState) (new : Allocated) → IsTrace trace → ReplayStands trace cores engine → Goes engine.allocation engine.waiting new
    → HasAllocated trace.net engine.lanes.g (replayed (replay_run trace cores engine) engine.lanes.collected).batches new
replay_allocated laws trace cores engine new sound stands goes =
    let next = are_next laws trace cores engine sound stands in
    let all : List DemandBatch = (replayed (replay_run trace cores engine) engine.lanes.collected).batches in
    let front : List DemandBatch = (replayed (replay_run trace cores engine) engine.lanes.published).batches in
    let half : Allocated = engine.allocation in
    subst (λ (net : Network). HasAllocated net engine.lanes.g all new) stands.allocated.serves
    (subst (λ (most : ℕ). HasAllocated half.paths.net most all new) (most_is trace cores engine stands)
    (subst (λ (bs : List DemandBatch). HasAllocated half.paths.net half.ring.batches bs new) next.whole
    (goes front (half_has trace cores engine stands) (half_next laws trace cores engine sound stands))))

pub replay_window : Replays → (trace : TraceContent) (cores : SlotCores) (engine : ReplayState) (window : WindowContent) → IsTrace trace → ReplayStands trace cores engine
    → IsWindowOf engine.allocation.paths.net engine.allocation.b (schedule_from engine.allocation.b engine.allocation.batches engine.allocation.list.items engine.waiting) window
    → IsWindowOf trace.net engine.lanes.b (slots_between (replay_run trace cores engine) engine.lanes.published engine.lanes.collected) window
replay_window laws trace cores engine window sound stands shows =
    let half : Allocated = engine.allocation in
    let slots : List (List Flow) = slots_between (replay_run trace cores engine) engine.lanes.published engine.lanes.collected in
    subst (λ (net : Network). IsWindowOf net engine.lanes.b slots window) stands.allocated.serves
    (subst (λ (b : ℕ). IsWindowOf half.paths.net b slots window) stands.size
    (subst (λ (xs : List (List Flow)). IsWindowOf half.paths.net half.b xs window) (are_next laws trace cores engine sound stands).slots shows))

pub replay_span : Replays → (trace : TraceContent) (cores : SlotCores) (engine : ReplayState) (span : Span) → IsTrace trace → ReplayStands trace cores engine
    → span ≡ record { first = engine.allocation.batches; count = length engine.waiting } → span ≡ record { first = engine.lanes.published; count = engine.lanes.collected - engine.lanes.published }
replay_span laws trace cores engine span sound stands is =
    let next = are_next laws trace cores engine sound stands in
    is ∙ (ap (λ (n : ℕ). record { first = n; count = length engine.waiting }) next.done ∙ ap (λ (n : ℕ). record { first = engine.lanes.published; count = n }) next.number)

-- what stands still does where it is seen otherwise
pub here_too : (trace : TraceContent) (cores : SlotCores) (here now : ReplayState) → here ≡ now → ReplayStands trace cores now → ReplayStands trace cores here
here_too trace cores here now same stands = subst (ReplayStands trace cores) (sym same) stands

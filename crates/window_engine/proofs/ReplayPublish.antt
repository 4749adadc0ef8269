-- A step of a replay: the window that is allocated may be published with its cores, and what the replay stands for after it.
use Rattle.std.proofs.Common.{◌≡◌, ◌<◌, ◌≤◌, ◌+◌, ◌-◌, ◌*◌, min, ℕ, List, length, sym, ap, ◌∙◌, subst, IfSome, arith}
use Rattle.greedy_rules.specs.declared.flows.Flow.{Flow}
use Rattle.greedy_rules.specs.Batches.{DemandBatch}
use Rattle.greedy_rules.specs.Schedule.{first_slot, schedule_from, slot_in}
use Rattle.clos_topology.specs.Network.{Network, endpoints_of}
use Rattle.clos_topology.specs.Limits.{IsNetwork}
use Rattle.clos_topology.specs.Links.{IsClean}
use Rattle.clos_topology.specs.NetSlots.{SlotCores, AreSlotCores}
use Rattle.path_workers.specs.CoreTable.{core_of, CoreSlots}
use Rattle.replay_rounds.specs.State.{RoundsState}
use Rattle.replay_rounds.specs.Window.{PublisherWindow}
use Rattle.trace_text.specs.Trace.{TraceContent}
use Rattle.trace_text.specs.Valid.{IsTrace}
use Rattle.trace_run.specs.Run.{Setting, replayed}
use Rattle.trace_run.specs.Windows.{InWindows}
use Rattle.replay_rounds.specs.Played.{rounds_played}
use Rattle.replay_rounds.specs.Standing as lanes
use Rattle.replay_rounds.specs.Standing.{RoundsContent, slots_between, AreOfTable, IsNextWindow}
use Rattle.window_engine.specs.Premises.{Replays}
use Rattle.window_engine.specs.Replay.{ReplayState, replay_run, ReplayStands}
use Rattle.window_allocation.specs.Standing.{Allocated, HasAllocated}
use Rattle.window_allocation.specs.Needs.{Needs}
use Rattle.greedy_rules.specs.SlotTable.{Slots}
use Rattle.window_allocation.specs.declared.window.Span.{Span}
use Rattle.window_allocation.specs.Windows.{WindowContent, IsWindowOf}
use Rattle.window_allocation.proofs.WindowLemmas.{ring_endpoints}
use Rattle.replay_rounds.proofs.ReplayCores.{AgreeBelow, between-same, stands-with}
use Rattle.window_engine.proofs.ReplayTables.{clean_cores, with_table, table-before, table-there, table-named}
use Rattle.window_engine.proofs.ReplaySteps.{next_batches, replay_span, replay_window}

-- the rounds that the next window collects
abbrev pub window_of : TraceContent → ReplayState → ℕ
window_of trace engine = min engine.lanes.g (trace.rounds - engine.lanes.collected)

-- all endpoints' rounds once these are collected, and once the batches of those before are published, of which so many are counted
abbrev pub collected_more : RoundsContent → ℕ → List RoundsState → RoundsContent
collected_more all n states = record all { collected = all.collected + n; counted = all.published; lanes = states }

abbrev pub published_more : RoundsContent → ℕ → ℕ → List RoundsState → PublisherWindow → RoundsContent
published_more all n counted states window = record all { collected = all.collected + n; published = all.collected; counted = counted; lanes = states; window = window }

-- ---- the window may be published

-- the cores that a window names
window_names : (net : Network) (b : ℕ) (slots : List (List Flow)) (window : WindowContent) → IsNetwork net → IsWindowOf net b slots window
    → (at source : ℕ) → at < window.span.count * b → IfSome (core_of window.cores at source) (λ core. core < 64)
window_names net b slots window sizes shows at source within =
    let start : ℕ = first_slot b window.span.first in
    let place : start + at - start ≡ at = omega arith in
    let below : at < length slots = omega (arith, shows.number) in
    clean_cores net (slot_in slots at) (core_of window.cores at) sizes
    (subst (λ (k : ℕ). IsClean net.hosts net.cores (slot_in slots at) (core_of window.cores k)) place (shows.clean at below)) (shows.others at below) source

-- these cores are the window's
abbrev pub HasCores : ReplayState → WindowContent → SlotCores → Type 0
HasCores engine window cores = AreOfTable cores (first_slot engine.lanes.b window.span.first) (window.span.count * engine.lanes.b) window.cores

-- the window is the next of the run with these cores
abbrev pub IsNextOf : TraceContent → ReplayState → List RoundsState → WindowContent → SlotCores → Type 0
IsNextOf trace engine states window cores = IsNextWindow trace cores (collected_more engine.lanes (window_of trace engine) states) window.span.count window.slots window.cores

abbrev pub IsSpanOf : ReplayState → Span → Type 0
IsSpanOf engine span = span ≡ record { first = engine.lanes.published; count = engine.lanes.collected - engine.lanes.published }

next_with : (trace : TraceContent) (cores : SlotCores) (engine : ReplayState) (states : List RoundsState) (window : WindowContent) → engine.lanes.published ≤ engine.lanes.collected → IsSpanOf engine window.span
    → window.slots.slots ≡ slots_between (replay_run trace cores engine) engine.lanes.published engine.lanes.collected → HasCores engine window cores → IsNextOf trace engine states window cores
next_with trace cores engine states window behind span is named =
    let m : ℕ = engine.lanes.published in
    let count : window.span.count ≡ engine.lanes.collected - m = ap (λ (s : Span). s.count) span in
    let all : engine.lanes.collected ≡ m + window.span.count = omega arith in
    record {
      allocated = is ∙ ap (slots_between (replay_run trace cores engine) m) all;
      routed = subst (λ (k : ℕ). AreOfTable cores (first_slot engine.lanes.b k) (window.span.count * engine.lanes.b) window.cores) (ap (λ (s : Span). s.first) span) named;
    }

-- it is so with the cores for which the replay stands, where they are the window's
pub next_named : (trace : TraceContent) (cores : SlotCores) (engine : ReplayState) (states : List RoundsState) (window : WindowContent) → ReplayStands trace cores engine → IsSpanOf engine window.span
    → IsWindowOf trace.net engine.lanes.b (slots_between (replay_run trace cores engine) engine.lanes.published engine.lanes.collected) window → HasCores engine window cores → IsNextOf trace engine states window cores
next_named trace cores engine states window stands span shows named = next_with trace cores engine states window stands.windows.behind span shows.is named

-- a window by its parts
pub seen_as : (span : Span) (slots : Slots) (cores : CoreSlots) (window : WindowContent) → span ≡ window.span → slots ≡ window.slots → cores ≡ window.cores → record { span = span; slots = slots; cores = cores } ≡ window
seen_as span slots cores window span_is slots_are cores_are = λ i. record { span = span_is i; slots = slots_are i; cores = cores_are i }

-- there is a run for which all endpoints' rounds stand, and of which the window is the next
abbrev pub MayPublish : RoundsContent → WindowContent → Type 0
MayPublish all window = (t : TraceContent) × (named : SlotCores) × IsTrace t × lanes.AllRoundsStand t named all × IsNextWindow t named all window.span.count window.slots window.cores

-- and so there are cores for which all endpoints' rounds stand, and with which it is
pub may_publish : Replays → (trace : TraceContent) (cores : SlotCores) (engine : ReplayState) (states : List RoundsState) (window : WindowContent) → IsTrace trace → ReplayStands trace cores engine
    → lanes.AllRoundsStand trace cores (collected_more engine.lanes (window_of trace engine) states) → IsSpanOf engine window.span
    → IsWindowOf trace.net engine.lanes.b (slots_between (replay_run trace cores engine) engine.lanes.published engine.lanes.collected) window
    → MayPublish (collected_more engine.lanes (window_of trace engine) states) window
may_publish laws trace cores engine states window sound stands all span shows =
    let b : ℕ = engine.lanes.b in
    let g : ℕ = engine.lanes.g in
    let m : ℕ = engine.lanes.published in
    let r : ℕ = engine.lanes.collected in
    let start : ℕ = first_slot b window.span.first in
    let named : SlotCores = with_table cores start (window.span.count * b) window.cores in
    let first : window.span.first ≡ m = ap (λ (s : Span). s.first) span in
    let agree : AgreeBelow (first_slot b m) cores named = subst (λ (k : ℕ). AgreeBelow (first_slot b k) cores named) first (table-before cores start (window.span.count * b) window.cores) in
    let fine : AreSlotCores named = table-named cores start (window.span.count * b) window.cores stands.lanes.named
    (window_names trace.net b (slots_between (replay_run trace cores engine) m r) window sound.net shows) in
    let same = between-same trace b g m cores named m r agree (omega (arith, stands.windows.one_window)) in (
      trace,
      named,
      sound,
      stands-with trace cores named (collected_more engine.lanes (window_of trace engine) states) laws.batches laws.slots agree fine stands.windows.published (omega (arith, stands.windows.one_window)) all,
      next_with trace named engine states window stands.windows.behind span (shows.is ∙ same) (table-there cores start (window.span.count * b) window.cores),
    )

-- ---- after it

pub frames : (old mid new : RoundsContent) (n count : ℕ) → mid ≡ collected_more old n mid.lanes → new ≡ record mid { published = mid.published + count; counted = mid.published; lanes = new.lanes; window = new.window }
    → old.published + count ≡ old.collected → new ≡ published_more old n old.published new.lanes new.window
frames old mid new n count collects publishes all =
    publishes
    ∙ (ap (λ (x : RoundsContent). record x { published = x.published + count; counted = x.published; lanes = new.lanes; window = new.window }) collects
    ∙ ap (λ (k : ℕ). record old { collected = old.collected + n; published = k; counted = old.published; lanes = new.lanes; window = new.window }) all)

-- what a replay stands for whose parts are these
stands_parts : Replays → (trace : TraceContent) (cores : SlotCores) (engine : ReplayState) (counted : ℕ) (states : List RoundsState) (window : PublisherWindow) (new : ReplayState) → IsTrace trace → ReplayStands trace cores engine
    → new.lanes ≡ published_more engine.lanes (window_of trace engine) counted states window → window.first_batch ≡ engine.lanes.published → new.rounds ≡ engine.rounds → lanes.AllRoundsStand trace cores new.lanes
    → new.waiting ≡ (rounds_played (replay_run trace cores engine) trace engine.lanes.collected (window_of trace engine)).batches
    → HasAllocated trace.net engine.lanes.g (replayed (replay_run trace cores engine) engine.lanes.collected).batches new.allocation → new.allocation.b ≡ engine.allocation.b → length new.pending ≡ length engine.pending
    → (new.lanes.published ≡ new.rounds → Needs new.allocation.ring.endpoints new.allocation.list.items new.pending)
    → (new.lanes.published ≡ new.rounds → new.lanes.counted ≡ new.lanes.published)
    → ReplayStands trace cores (record new { lanes = published_more engine.lanes (window_of trace engine) counted states window })
stands_parts laws trace cores engine counted states window new sound stands lanes_are first rounds all waiting allocated size pending ended all_counted =
    let s : Setting = replay_run trace cores engine in
    let m : ℕ = engine.lanes.published in
    let r : ℕ = engine.lanes.collected in
    let n : ℕ = window_of trace engine in
    let serves : new.allocation.ring.endpoints ≡ endpoints_of trace.net = ring_endpoints _ _ _ _ allocated in
    record {
      rounds = rounds ∙ stands.rounds;
      lanes = subst (lanes.AllRoundsStand trace cores) lanes_are all;
      size = size ∙ stands.size;
      windows = subst (InWindows engine.lanes.g trace.rounds (r + n) r) (sym first) (laws.steps engine.lanes.g trace.rounds r m engine.lanes.window.first_batch stands.windows);
      waiting = waiting ∙ next_batches s r n laws.batches;
      allocated = allocated;
      pending_room = pending ∙ stands.pending_room;
      counted = λ done.
          sym (ap (λ (l : RoundsContent). l.counted) lanes_are)
          ∙ (all_counted (ap (λ (l : RoundsContent). l.published) lanes_are ∙ (done ∙ sym (rounds ∙ stands.rounds))) ∙ ap (λ (l : RoundsContent). l.published) lanes_are);
      ended = λ done.
          subst (λ (k : ℕ). Needs k new.allocation.list.items new.pending) serves (ended (ap (λ (l : RoundsContent). l.published) lanes_are ∙ (done ∙ sym (rounds ∙ stands.rounds))));
    }

pub stands_after : Replays → (trace : TraceContent) (cores : SlotCores) (engine new : ReplayState) → IsTrace trace → ReplayStands trace cores engine
    → new.lanes ≡ published_more engine.lanes (window_of trace engine) new.lanes.counted new.lanes.lanes new.lanes.window → new.lanes.window.first_batch ≡ engine.lanes.published → new.rounds ≡ engine.rounds → lanes.AllRoundsStand trace cores new.lanes
    → new.waiting ≡ (rounds_played (replay_run trace cores engine) trace engine.lanes.collected (window_of trace engine)).batches
    → HasAllocated trace.net engine.lanes.g (replayed (replay_run trace cores engine) engine.lanes.collected).batches new.allocation → new.allocation.b ≡ engine.allocation.b → length new.pending ≡ length engine.pending
    → (new.lanes.published ≡ new.rounds → Needs new.allocation.ring.endpoints new.allocation.list.items new.pending)
    → (new.lanes.published ≡ new.rounds → new.lanes.counted ≡ new.lanes.published) → ReplayStands trace cores new
stands_after laws trace cores engine new sound stands lanes_are first rounds all waiting allocated size pending ended all_counted =
    subst (λ (l : RoundsContent). ReplayStands trace cores (record new { lanes = l })) (sym lanes_are)
    (stands_parts laws trace cores engine new.lanes.counted new.lanes.lanes new.lanes.window new sound stands lanes_are first rounds all waiting allocated size pending ended all_counted)

-- ---- the same, as the code has it

-- what is known of all endpoints' rounds once the window is collected
pub record Collects (trace : TraceContent) (engine : ReplayState) (mid : RoundsContent) : Type 0 where
  pub frame : mid ≡ collected_more engine.lanes (window_of trace engine) mid.lanes
  pub stands : (cores : SlotCores) → lanes.AllRoundsStand trace cores engine.lanes → lanes.AllRoundsStand trace cores mid

pub collects_with : (trace : TraceContent) (engine : ReplayState) (mid : RoundsContent) → mid ≡ collected_more engine.lanes (window_of trace engine) mid.lanes
    → ((cores : SlotCores) → lanes.AllRoundsStand trace cores engine.lanes → lanes.AllRoundsStand trace cores mid) → Collects trace engine mid
collects_with trace engine mid frame stands = record { frame = frame; stands = stands }

-- a window of the run is the next to be published
pub record IsNextWhole (trace : TraceContent) (cores : SlotCores) (engine : ReplayState) (window : WindowContent) : Type 0 where
  pub span : IsSpanOf engine window.span
  pub shows : IsWindowOf trace.net engine.lanes.b (slots_between (replay_run trace cores engine) engine.lanes.published engine.lanes.collected) window

pub next_whole : Replays → (trace : TraceContent) (cores : SlotCores) (engine : ReplayState) (batches : List DemandBatch) (window : WindowContent) → IsTrace trace → ReplayStands trace cores engine → batches ≡ engine.waiting
    → window.span ≡ record { first = engine.allocation.batches; count = length batches }
    → IsWindowOf engine.allocation.paths.net engine.allocation.b (schedule_from engine.allocation.b engine.allocation.batches engine.allocation.list.items batches) window → IsNextWhole trace cores engine window
next_whole laws trace cores engine batches window sound stands are span shows =
    let half : Allocated = engine.allocation in
    record {
      span = replay_span laws trace cores engine window.span sound stands (subst (λ (bs : List DemandBatch). window.span ≡ record { first = half.batches; count = length bs }) are span);
      shows = replay_window laws trace cores engine window sound stands (subst (λ (bs : List DemandBatch). IsWindowOf half.paths.net half.b (schedule_from half.b half.batches half.list.items bs) window) are shows);
    }

pub publish_next : Replays → (trace : TraceContent) (cores : SlotCores) (engine : ReplayState) (mid : RoundsContent) (window : WindowContent) → IsTrace trace → ReplayStands trace cores engine → Collects trace engine mid
    → IsNextWhole trace cores engine window → MayPublish mid window
publish_next laws trace cores engine mid window sound stands collects next =
    subst (λ (all : RoundsContent). MayPublish all window) (sym collects.frame)
    (may_publish laws trace cores engine mid.lanes window sound stands (subst (lanes.AllRoundsStand trace cores) collects.frame (collects.stands cores stands.lanes)) next.span next.shows)

pub publish_fits : (trace : TraceContent) (cores : SlotCores) (engine : ReplayState) (mid : RoundsContent) (window : WindowContent) → ReplayStands trace cores engine → Collects trace engine mid → IsNextWhole trace cores engine window
    → (mid.published + window.span.count ≤ mid.collected) × (window.span.count ≤ mid.g)
publish_fits trace cores engine mid window stands collects next =
    let count : window.span.count ≡ engine.lanes.collected - engine.lanes.published = ap (λ (s : Span). s.count) next.span in
    let published : mid.published ≡ engine.lanes.published = ap (λ (all : RoundsContent). all.published) collects.frame in
    let collected : mid.collected ≡ engine.lanes.collected + window_of trace engine = ap (λ (all : RoundsContent). all.collected) collects.frame in
    let size : mid.g ≡ engine.lanes.g = ap (λ (all : RoundsContent). all.g) collects.frame in
    (omega (arith, stands.windows.behind), omega (arith, stands.windows.one_window))

-- and once the window is published
pub record Publishes (mid last : RoundsContent) (window : WindowContent) : Type 0 where
  pub frame : last ≡ record mid { published = mid.published + window.span.count; counted = mid.published; lanes = last.lanes; window = last.window }
  pub first : last.window.first_batch ≡ mid.published
  pub stands : (t : TraceContent) (named : SlotCores) → IsTrace t → lanes.AllRoundsStand t named mid → IsNextWindow t named mid window.span.count window.slots window.cores → lanes.AllRoundsStand t named last

pub publishes_with : (mid last : RoundsContent) (here window : WindowContent) → here ≡ window → last ≡ record mid { published = mid.published + here.span.count; counted = mid.published; lanes = last.lanes; window = last.window }
    → last.window.first_batch ≡ mid.published
    → ((t : TraceContent) (named : SlotCores) → IsTrace t → lanes.AllRoundsStand t named mid → IsNextWindow t named mid here.span.count here.slots here.cores → lanes.AllRoundsStand t named last) → Publishes mid last window
publishes_with mid last here window same frame first stands = subst (Publishes mid last) same (record { frame = frame; first = first; stands = stands })

pub lanes_after : (trace : TraceContent) (cores : SlotCores) (engine : ReplayState) (mid last : RoundsContent) (window : WindowContent) → ReplayStands trace cores engine → Collects trace engine mid
    → IsNextWhole trace cores engine window → Publishes mid last window → last ≡ published_more engine.lanes (window_of trace engine) engine.lanes.published last.lanes last.window
lanes_after trace cores engine mid last window stands collects next publishes =
    let count : window.span.count ≡ engine.lanes.collected - engine.lanes.published = ap (λ (s : Span). s.count) next.span in
    frames engine.lanes mid last (window_of trace engine) window.span.count collects.frame publishes.frame (omega (arith, stands.windows.behind))

pub stands_next : Replays → (trace : TraceContent) (cores : SlotCores) (engine : ReplayState) (mid last : RoundsContent) (window : WindowContent) (new : ReplayState) → IsTrace trace → ReplayStands trace cores engine
    → Collects trace engine mid → IsNextWhole trace cores engine window → Publishes mid last window → HasCores engine window cores → new.lanes ≡ record last { counted = new.lanes.counted; lanes = new.lanes.lanes }
    → (lanes.AllRoundsStand trace cores last → lanes.AllRoundsStand trace cores new.lanes) → new.rounds ≡ engine.rounds
    → new.waiting ≡ (rounds_played (replay_run trace cores engine) trace engine.lanes.collected (window_of trace engine)).batches
    → HasAllocated trace.net engine.lanes.g (replayed (replay_run trace cores engine) engine.lanes.collected).batches new.allocation → new.allocation.b ≡ engine.allocation.b → length new.pending ≡ length engine.pending
    → (new.lanes.published ≡ new.rounds → Needs new.allocation.ring.endpoints new.allocation.list.items new.pending)
    → (new.lanes.published ≡ new.rounds → new.lanes.counted ≡ new.lanes.published) → ReplayStands trace cores new
stands_next laws trace cores engine mid last window new sound stands collects next publishes named ends ends_so rounds waiting allocated size pending ended all_counted =
    let states : List RoundsState = mid.lanes in
    let all : lanes.AllRoundsStand trace cores mid = collects.stands cores stands.lanes in
    let is : IsNextWindow trace cores mid window.span.count window.slots window.cores =
    subst (λ (x : RoundsContent). IsNextWindow trace cores x window.span.count window.slots window.cores) (sym collects.frame) (next_named trace cores engine states window stands next.span next.shows named) in
    let after = lanes_after trace cores engine mid last window stands collects next publishes in
    let first : last.window.first_batch ≡ engine.lanes.published = publishes.first ∙ ap (λ (x : RoundsContent). x.published) collects.frame in
    let n : ℕ = window_of trace engine in
    let same : new.lanes.window ≡ last.window = ap (λ (x : RoundsContent). x.window) ends in
    let parts : new.lanes ≡ published_more engine.lanes n new.lanes.counted new.lanes.lanes new.lanes.window =
    ends
    ∙ (ap (λ (x : RoundsContent). record x { counted = new.lanes.counted; lanes = new.lanes.lanes }) after
    ∙ ap (published_more engine.lanes n new.lanes.counted new.lanes.lanes) (sym same)) in
    stands_after laws trace cores engine new sound stands parts (ap (λ (w : PublisherWindow). w.first_batch) same ∙ first) rounds (ends_so (publishes.stands trace cores sound all is)) waiting allocated size pending ended all_counted

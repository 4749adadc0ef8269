-- A round keeps what the caller of an endpoint's rounds keeps.
use Rattle.std.proofs.Common.{◌≡◌, ◌≢◌, ℕ, ◌+◌, ◌-◌, ◌*◌, ◌<◌, ◌≤◌, ◌^◌, Bool, true, false, cond, ◌==◌, ◌&&◌, List, [], ◌∷◌, length, replicate, sym, ◌∙◌, ap, subst, refl, inl, inr, arith}
use Rattle.std.specs.Prelude.{slice_get, Some, OnOk, Ok, Err}
use Rattle.std.specs.declared.result.Result.{Result}
use Rattle.no_memory.specs.declared.NoMemory.{NoMemory}
use Rattle.std.proofs.lemmas.Bool.{ne_eqb, eq-eqb, cases_eq}
use Rattle.std.proofs.lemmas.List.{length-replicate}
use Rattle.std.proofs.lemmas.List.Elements.{All-nil}
use Rattle.std.proofs.lemmas.List.Sums.{sum_by-cons}
use Rattle.fcp_framing.specs.declared.packet.Told.{Told}
use Rattle.fcp_framing.specs.Spelling.{IsCore}
use Rattle.endpoint_history.specs.Packets.{DownPacket, UpPacket, slots_to}
use Rattle.endpoint_history.specs.Agent.{AgentEvent, AgentHistory, Boots, Asks, TakesDown, MakesUp, epoch_of, asked}
use Rattle.endpoint_history.specs.Lane.{MakesDown, TakesUp, Records}
use Rattle.endpoint_history.specs.Counts.{Allocation, allocated, owed}
use Rattle.endpoint_history.specs.Conditions.{LaneCall, Happens, Allocates, history_of, allocations_of, allocated_in, MeetsConditions}
use Rattle.endpoint_history.specs.Entries.{rounds_recorded}
use Rattle.endpoint_history.specs.Rounds.{Round, PlayedEnds, arriving, then_each, begun, posted_down, heard, posted_up, read, after_round, played}
use Rattle.endpoint_history.specs.Steps.{Step, OfAgent, OfLane, agent_of, lane_of, rounds_begun}
use Rattle.endpoint_agent.specs.Standing as agents
use Rattle.arbiter_lane.specs.Laws.{ConditionsSuffice}
use Rattle.arbiter_lane.specs.Standing as lanes
use Rattle.arbiter_lane.specs.State.{AreSlots, AreAllocated}
use Rattle.arbiter_lane.specs.declared.line.LaneLine.{LaneLine}
use Rattle.flow_ledger.specs.FlowCount.{pending}
use Rattle.lane_rounds.specs.declared.events.Events.{Events}
use Rattle.lane_rounds.specs.Outside.{round_with}
use Rattle.lane_rounds.specs.State.{RoundsState, MayAsk, with_each}
use Rattle.lane_rounds.specs.Standing.{RoundsStandFor, played_by}
use Rattle.lane_rounds.specs.Rounds.{HasRoundMore}
use Rattle.both_ends_rows.specs.Callers.{told_of_one, HasPlayedRounds}

-- ---- the slot that is told

abbrev slot : ℕ → Told
slot dst = record { offset = 0; core = 0; dst = dst }

pub told-to : (dst other : ℕ) (one : Bool) → slots_to other (told_of_one dst one) ≡ cond one (cond (dst == other) 1 0) 0
told-to dst other true = omega (arith, sum_by-cons (λ (t : Told). cond {A = ℕ} (t.dst == other) 1 0) (slot dst) [])
told-to dst other false = refl

pub told-few : (dst other n : ℕ) (one : Bool) → (one ≡ true → dst ≡ other → 1 ≤ n) → slots_to other (told_of_one dst one) ≤ n
told-few dst other n false few = omega (arith, told-to dst other false)
told-few dst other n true few = elim (cases_eq dst other) [
  | inl same ↦ omega (arith, told-to dst other true, ap (λ (b : Bool). cond {A = ℕ} b 1 0) (eq-eqb dst other same), few refl same)
  | inr apart ↦ omega (arith, told-to dst other true, ap (λ (b : Bool). cond {A = ℕ} b 1 0) (ne_eqb dst other apart))
]

pub told-slots : (endpoints b endpoint dst : ℕ) (one : Bool) → 1 ≤ b → dst < endpoints → dst ≢ endpoint → AreSlots endpoints b endpoint (told_of_one dst one)
told-slots endpoints b endpoint dst false some within other = record {
  rising = λ k past. absurd (omega (arith, past));
  offsets = All-nil (λ (t : Told). t.offset < b);
  cores = All-nil (λ (t : Told). IsCore t.core);
  destinations = All-nil (λ (t : Told). t.dst < endpoints);
  others = All-nil (λ (t : Told). t.dst ≢ endpoint);
}
told-slots endpoints b endpoint dst true some within other = record {
  rising = λ k past. absurd (omega (arith, past));
  offsets = grind (arith, some);
  cores = grind arith;
  destinations = grind (arith, within);
  others = grind (arith, other);
}

-- ---- runs of like calls

then_keeps : {X : Type 0} (P : List Step → Type 0) (step : X → Step) (xs : List X) (steps : List Step) → ((x : X) (s : List Step) → P s → P (step x ∷ s)) → P steps → P (then_each step xs steps)
then_keeps P step [] steps keeps now = now
then_keeps P step (x ∷ xs) steps keeps now = then_keeps P step xs (step x ∷ steps) keeps (keeps x steps now)

-- what the agent counts, after a round in which it boots and asks

boots-count : (versions : List ℕ) (steps : List Step) → epoch_of (agent_of (then_each (λ version. OfAgent (Boots version)) versions steps)) ≡ length versions + epoch_of (agent_of steps)
boots-count [] steps = omega arith
boots-count (v ∷ versions) steps = omega (arith, boots-count versions (OfAgent (Boots v) ∷ steps))

module _ (endpoints g number : ℕ) (round : Round) (before : PlayedEnds) where
  begun-epoch : epoch_of (agent_of (begun endpoints g number round before)) ≡ length round.boots + epoch_of (agent_of before.steps)
  begun-epoch =
      then_keeps (λ s. epoch_of (agent_of s) ≡ length round.boots + epoch_of (agent_of before.steps)) (λ (a : ℕ × ℕ). OfAgent (Asks a.0 a.1)) round.asks (then_each (λ version. OfAgent (Boots version)) round.boots before.steps)
      (λ x s now. now) (boots-count round.boots before.steps)

  pub round-epoch : epoch_of (agent_of (after_round endpoints g number round before).steps) ≡ length round.boots + epoch_of (agent_of before.steps)
  round-epoch =
      let P = λ (s : List Step). epoch_of (agent_of s) ≡ length round.boots + epoch_of (agent_of before.steps) in
      let down = arriving (posted_down endpoints g number round before) number in
      let hears = then_keeps P (λ (p : DownPacket). OfAgent (TakesDown number p)) down (OfLane (MakesDown number round.told) ∷ begun endpoints g number round before) (λ x s now. now) begun-epoch in
      let up = arriving (posted_up endpoints g number round before) number in
      let reads = then_keeps P (λ (p : UpPacket). OfLane (TakesUp number p)) up (OfAgent MakesUp ∷ heard endpoints g number round before) (λ x s now. now) hears in
      then_keeps P (λ (p : UpPacket). OfLane (TakesUp number p)) round.raw (then_each (λ packet. OfLane (TakesUp number packet)) up (OfAgent MakesUp ∷ heard endpoints g number round before)) (λ x s now. now) reads

  pub round-asked : (dst n most : ℕ) → round.asks ≡ (dst, n) ∷ [] → asked (agent_of before.steps) dst ≤ most → asked (agent_of (after_round endpoints g number round before).steps) dst ≤ most + n
  round-asked dst n most asks within =
      let P = λ (s : List Step). asked (agent_of s) dst ≤ most + n in
      let boots = then_keeps (λ (s : List Step). asked (agent_of s) dst ≤ most) (λ (v : ℕ). OfAgent (Boots v)) round.boots before.steps (λ x s now. omega arith) within in
      let booted = then_each (λ version. OfAgent (Boots version)) round.boots before.steps in
      let once : asked (agent_of (OfAgent (Asks dst n) ∷ booted)) dst ≡ asked (agent_of booted) dst + n = ap (λ (b : Bool). cond b (asked (agent_of booted) dst + n) (asked (agent_of booted) dst)) (eq-eqb dst dst refl) in
      let begins : P (begun endpoints g number round before) =
      subst (λ (xs : List (ℕ × ℕ)). P (then_each (λ (a : ℕ × ℕ). OfAgent (Asks a.0 a.1)) xs booted)) (sym asks) (omega (arith, once, boots)) in
      let down = arriving (posted_down endpoints g number round before) number in
      let hears = then_keeps P (λ (p : DownPacket). OfAgent (TakesDown number p)) down (OfLane (MakesDown number round.told) ∷ begun endpoints g number round before) (λ x s now. now) begins in
      let up = arriving (posted_up endpoints g number round before) number in
      let reads = then_keeps P (λ (p : UpPacket). OfLane (TakesUp number p)) up (OfAgent MakesUp ∷ heard endpoints g number round before) (λ x s now. now) hears in
      then_keeps P (λ (p : UpPacket). OfLane (TakesUp number p)) round.raw (then_each (λ packet. OfLane (TakesUp number packet)) up (OfAgent MakesUp ∷ heard endpoints g number round before)) (λ x s now. now) reads

-- ---- what the lane's caller keeps

pub record HasCalls (g number started : ℕ) (allocations : List Allocation) (steps : List Step) : Type 0 where
  pub calls : List LaneCall
  pub history : history_of calls ≡ lane_of steps
  pub same : allocations_of calls ≡ allocations
  pub meets : MeetsConditions g calls
  pub begun : rounds_begun (history_of calls) ≡ started
  pub recorded : rounds_recorded (history_of calls) ≡ number

hears-keeps : (g number started : ℕ) (allocations : List Allocation) (event : AgentEvent) (steps : List Step) → HasCalls g number started allocations steps → HasCalls g number started allocations (OfAgent event ∷ steps)
hears-keeps g number started allocations event steps has = record { calls = has.calls; history = has.history; same = has.same; meets = has.meets; begun = has.begun; recorded = has.recorded }

takes-keeps : (g number started : ℕ) (allocations : List Allocation) (packet : UpPacket) (steps : List Step) → HasCalls g number started allocations steps → HasCalls g number started allocations (OfLane (TakesUp number packet) ∷ steps)
takes-keeps g number started allocations packet steps has = record {
  calls = Happens (TakesUp number packet) ∷ has.calls;
  history = ap (λ h. TakesUp number packet ∷ h) has.history;
  same = has.same;
  meets = (omega (arith, has.recorded), has.meets);
  begun = has.begun;
  recorded = has.recorded;
}

-- the slots that are told are counted as allocated
abbrev pub AreCounted : ℕ → ℕ → List Told → List Allocation → Type 0
AreCounted g number told allocations = 2 * g ≤ number → (dst : ℕ) → slots_to dst told ≤ allocated_in (number - 2 * g) allocations dst

pub round-calls : (endpoints g number : ℕ) (round : Round) (before : PlayedEnds) (allocations : List Allocation) → AreCounted g number round.told allocations →
    HasCalls g number number allocations before.steps → HasCalls g (number + 1) (number + 1) allocations (after_round endpoints g number round before).steps
round-calls endpoints g number round before allocations counted has =
    record {
      calls = Happens (Records number) ∷ all.calls;
      history = ap (λ h. Records number ∷ h) all.history;
      same = all.same;
      meets = all.meets;
      begun = all.begun;
      recorded = omega (arith, all.recorded);
    }
  where
    booted : HasCalls g number number allocations (then_each (λ version. OfAgent (Boots version)) round.boots before.steps)
    booted = then_keeps (HasCalls g number number allocations) (λ (v : ℕ). OfAgent (Boots v)) round.boots before.steps (λ x s now. hears-keeps g number number allocations (Boots x) s now) has

    begins : HasCalls g number number allocations (begun endpoints g number round before)
    begins = then_keeps (HasCalls g number number allocations) (λ (a : ℕ × ℕ). OfAgent (Asks a.0 a.1)) round.asks _ (λ x s now. hears-keeps g number number allocations (Asks x.0 x.1) s now) booted

    makes : HasCalls g number (number + 1) allocations (OfLane (MakesDown number round.told) ∷ begun endpoints g number round before)
    makes = record {
      calls = Happens (MakesDown number round.told) ∷ begins.calls;
      history = ap (λ h. MakesDown number round.told ∷ h) begins.history;
      same = begins.same;
      meets = (
        omega (arith, begins.begun),
        λ late reset dst. subst (λ (a : List Allocation). slots_to dst round.told ≤ allocated_in (number - 2 * g) a dst) (sym begins.same) (counted late dst),
        begins.meets,
      );
      begun = refl;
      recorded = begins.recorded;
    }

    down : List DownPacket
    down = arriving (posted_down endpoints g number round before) number

    hears : HasCalls g number (number + 1) allocations (heard endpoints g number round before)
    hears = then_keeps (HasCalls g number (number + 1) allocations) (λ (p : DownPacket). OfAgent (TakesDown number p)) down _ (λ x s now. hears-keeps g number (number + 1) allocations (TakesDown number x) s now) makes

    up : List UpPacket
    up = arriving (posted_up endpoints g number round before) number

    reads : HasCalls g number (number + 1) allocations (then_each (λ packet. OfLane (TakesUp number packet)) up (OfAgent MakesUp ∷ heard endpoints g number round before))
    reads = then_keeps (HasCalls g number (number + 1) allocations) (λ (p : UpPacket). OfLane (TakesUp number p)) up _ (λ x s now. takes-keeps g number (number + 1) allocations x s now)
        (hears-keeps g number (number + 1) allocations MakesUp (heard endpoints g number round before) hears)

    all : HasCalls g number (number + 1) allocations (read endpoints g number round before)
    all = then_keeps (HasCalls g number (number + 1) allocations) (λ (p : UpPacket). OfLane (TakesUp number p)) round.raw _ (λ x s now. takes-keeps g number (number + 1) allocations x s now) reads

-- ---- what the agent's caller keeps

with_keeps : {X Y : Type 0} (P : List Y → Type 0) (call : X → Y) (xs : List X) (calls : List Y) → ((x : X) (s : List Y) → P s → P (call x ∷ s)) → P calls → P (with_each call xs calls)
with_keeps P call [] calls keeps now = now
with_keeps P call (x ∷ xs) calls keeps now = with_keeps P call xs (call x ∷ calls) keeps (keeps x calls now)

one-ask : (me endpoints dst n most : ℕ) (versions : List ℕ) (calls : AgentHistory) (asks : List (ℕ × ℕ)) → asks ≡ (dst, n) ∷ [] → dst ≢ me → dst < endpoints → asked calls dst ≤ most → most + n ≤ 100000000 →
    MayAsk me endpoints (with_each Boots versions calls) asks
one-ask me endpoints dst n most versions calls asks is other within few limit =
    let boots = with_keeps (λ (h : AgentHistory). asked h dst ≤ most) Boots versions calls (λ x s now. omega arith) few in
    subst (λ (xs : List (ℕ × ℕ)). MayAsk me endpoints (with_each Boots versions calls) xs) (sym is) (other, within, omega (arith, boots, limit), tt)

-- ---- all that the caller keeps

pub opened : (state : RoundsState) (dst endpoint : ℕ) → state.lane.endpoint ≡ endpoint → state.lane.endpoints ≡ 2 → state.lane.b ≡ 1 → state.lane.g ≡ 1 → state.is_whole ≡ true →
    RoundsStandFor state [] [] → dst < 2 → dst ≢ endpoint → HasPlayedRounds state dst 0 0 false false
opened state dst endpoint own endpoints b g whole stands within other = record {
  whole = whole;
  endpoints = endpoints;
  b = b;
  g = g;
  at = stands.lane.round;
  within = within;
  other = λ same. other (same ∙ own);
  rounds = [];
  calls = [];
  stands = stands;
  count = refl;
  history = refl;
  meets = tt;
  begun = refl;
  boots = omega arith;
  asked = omega arith;
  counted_before = λ no. absurd (cc);
  counted_last = λ no. absurd (cc);
}

pub told-counted : (state : RoundsState) (dst number asks : ℕ) (before last : Bool) (is : HasPlayedRounds state dst number asks before last) →
    AreCounted state.lane.g number (told_of_one dst before) (allocations_of is.calls)
told-counted state dst number asks before last is late to =
    told-few dst to (allocated_in (number - 2 * state.lane.g) (allocations_of is.calls) to) before
    (λ on same. subst (λ (d : ℕ). 1 ≤ allocated_in (number - 2 * state.lane.g) (allocations_of is.calls) d) same
    (subst (λ (g : ℕ). 1 ≤ allocated_in (number - 2 * g) (allocations_of is.calls) dst) (sym is.g) (is.counted_before on)))

with_calls : (state : RoundsState) (dst number asks : ℕ) (before last : Bool) (is : HasPlayedRounds state dst number asks before last) →
    HasCalls state.lane.g number number (allocations_of is.calls) (played_by state is.rounds).steps
with_calls state dst number asks before last is = record {
  calls = is.calls;
  history = is.history;
  same = refl;
  meets = is.meets;
  begun = is.begun;
  recorded = ap rounds_recorded is.history ∙ sym is.stands.lane.round ∙ is.at;
}

telling-meets : (state : RoundsState) (dst number asks : ℕ) (before last : Bool) (is : HasPlayedRounds state dst number asks before last) →
    MeetsConditions state.lane.g (Happens (MakesDown number (told_of_one dst before)) ∷ is.calls)
telling-meets state dst number asks before last is =
    (omega (arith, is.begun), λ late reset to. told-counted state dst number asks before last is late to, is.meets)

round-played : (state new : RoundsState) (dst number asks n : ℕ) (before last : Bool) (events : Events) → HasPlayedRounds state dst number asks before last →
    events.asks ≡ (dst, n) ∷ [] → events.boots ≤ 1 →
    new.lane.endpoint ≡ state.lane.endpoint → new.lane.endpoints ≡ state.lane.endpoints → new.lane.b ≡ state.lane.b → new.lane.g ≡ state.lane.g → new.is_whole ≡ true → new.lane.round ≡ number + 1 →
    ((rounds : List Round) (allocations : List Allocation) → RoundsStandFor state rounds allocations →
    RoundsStandFor new (round_with state.lane.endpoint state.lane.endpoints events (told_of_one dst before) ∷ rounds) allocations) →
    HasPlayedRounds new dst (number + 1) (asks + n) last false
round-played state new dst number asks n before last events is asks_are boots same_endpoint same_endpoints same_b same_g whole at stands =
    record {
      whole = whole;
      endpoints = same_endpoints ∙ is.endpoints;
      b = same_b ∙ is.b;
      g = same_g ∙ is.g;
      at = at;
      within = is.within;
      other = λ same. is.other (same ∙ same_endpoint);
      rounds = round ∷ is.rounds;
      calls = all.calls;
      stands = subst (λ (a : List Allocation). RoundsStandFor new (round ∷ is.rounds) a) (sym all.same) (stands is.rounds (allocations_of is.calls) is.stands);
      count = omega (arith, is.count);
      history = all.history;
      meets = all.meets;
      begun = all.begun;
      boots = subst (λ (e : ℕ). epoch_of (agent_of (played e new.lane.g (round ∷ is.rounds)).steps) ≤ number + 1 + 1) (sym same_endpoints)
          (subst (λ (g : ℕ). epoch_of (agent_of (played state.lane.endpoints g (round ∷ is.rounds)).steps) ≤ number + 1 + 1) (sym same_g)
          (omega (arith, round-epoch state.lane.endpoints state.lane.g (length is.rounds) round before_it, length-replicate events.boots events.version, is.boots, boots)));
      asked = subst (λ (e : ℕ). asked (agent_of (played e new.lane.g (round ∷ is.rounds)).steps) dst ≤ asks + n) (sym same_endpoints)
          (subst (λ (g : ℕ). asked (agent_of (played state.lane.endpoints g (round ∷ is.rounds)).steps) dst ≤ asks + n) (sym same_g)
          (round-asked state.lane.endpoints state.lane.g (length is.rounds) round before_it dst n asks asks_are is.asked));
      counted_before = λ on. subst (λ (a : List Allocation). 1 ≤ allocated_in (number + 1 - 2) a dst) (sym all.same) (omega (arith, is.counted_last on, ap (λ (k : ℕ). allocated_in k (allocations_of is.calls) dst) shift));
      counted_last = λ no. absurd (cc);
    }
  where
    round : Round
    round = round_with state.lane.endpoint state.lane.endpoints events (told_of_one dst before)

    before_it : PlayedEnds
    before_it = played_by state is.rounds

    shift : number + 1 - 2 ≡ number - 1
    shift = omega arith

    counted : AreCounted state.lane.g (length is.rounds) (told_of_one dst before) (allocations_of is.calls)
    counted = subst (λ (k : ℕ). AreCounted state.lane.g k (told_of_one dst before) (allocations_of is.calls)) (sym is.count) (told-counted state dst number asks before last is)

    has : HasCalls state.lane.g (length is.rounds) (length is.rounds) (allocations_of is.calls) before_it.steps
    has = subst (λ (k : ℕ). HasCalls state.lane.g k k (allocations_of is.calls) before_it.steps) (sym is.count) (with_calls state dst number asks before last is)

    played_on : HasCalls state.lane.g (number + 1) (number + 1) (allocations_of is.calls) (played state.lane.endpoints state.lane.g (round ∷ is.rounds)).steps
    played_on = subst (λ (k : ℕ). HasCalls state.lane.g (k + 1) (k + 1) (allocations_of is.calls) (played state.lane.endpoints state.lane.g (round ∷ is.rounds)).steps) is.count
        (round-calls state.lane.endpoints state.lane.g (length is.rounds) round before_it (allocations_of is.calls) counted has)

    all : HasCalls new.lane.g (number + 1) (number + 1) (allocations_of is.calls) (played_by new (round ∷ is.rounds)).steps
    all = subst (λ (e : ℕ). HasCalls new.lane.g (number + 1) (number + 1) (allocations_of is.calls) (played e new.lane.g (round ∷ is.rounds)).steps) (sym same_endpoints)
        (subst (λ (g : ℕ). HasCalls g (number + 1) (number + 1) (allocations_of is.calls) (played state.lane.endpoints g (round ∷ is.rounds)).steps) (sym same_g) played_on)

-- ---- the slot of a batch

abbrev counted : ℕ → ℕ → Allocation → ℕ
counted dst batch x = cond {A = ℕ} (x.dst == dst && x.batch == batch) x.slots 0

pub counted-more : (dst batch : ℕ) (a : Allocation) (before : List Allocation) → 1 ≤ allocated_in batch before dst → 1 ≤ allocated_in batch (a ∷ before) dst
counted-more dst batch a before one = omega (arith, sum_by-cons (counted dst batch) a before, one)

pub counted-one : (dst batch : ℕ) (before : List Allocation) → 1 ≤ allocated_in batch (record { dst = dst; batch = batch; slots = 1 } ∷ before) dst
counted-one dst batch before =
    let a : Allocation = record { dst = dst; batch = batch; slots = 1 } in
    let one : counted dst batch a ≡ 1 = rw (eq-eqb dst dst refl, eq-eqb batch batch refl) refl in
    omega (arith, sum_by-cons (counted dst batch) a before, one)

-- the flow is owed one
abbrev pub IsOwed : RoundsState → ℕ → Type 0
IsOwed state dst =
    (rounds : List Round) (allocations : List Allocation) → RoundsStandFor state rounds allocations →
    allocated (lane_of (played_by state rounds).steps) allocations dst + 1 ≤ owed state.lane.g (lane_of (played_by state rounds).steps) dst

pub may-allocate : (state : RoundsState) (dst number asks : ℕ) (before last : Bool) → HasPlayedRounds state dst number asks before last → IsOwed state dst →
    (line : LaneLine) → slice_get state.lane.lines dst ≡ Some line → 1 ≤ pending line.count
may-allocate state dst number asks before last is owes line here =
    let flow = is.stands.lane.flows dst line here in
    let demanded = flow.demanded in
    let allocated_now = flow.allocated in
    let lost = flow.lost in
    omega (arith, owes is.rounds (allocations_of is.calls) is.stands, demanded, allocated_now, lost)

pub slot-allocated : (state new : RoundsState) (dst number asks : ℕ) (before : Bool) → HasPlayedRounds state dst (number + 1) asks before false → IsOwed state dst →
    new ≡ record state { lane = record state.lane { lines = new.lane.lines } } →
    ((rounds : List Round) (allocations : List Allocation) → RoundsStandFor state rounds allocations → RoundsStandFor new rounds (record { dst = dst; batch = number; slots = 1 } ∷ allocations)) →
    HasPlayedRounds new dst (number + 1) asks before true
slot-allocated state new dst number asks before is owes frame stands =
    let a : Allocation = record { dst = dst; batch = number; slots = 1 } in
    let A = allocations_of is.calls in
    let back : number + 1 - 1 ≡ number = omega arith in
    record {
      whole = ap (λ (s : RoundsState). s.is_whole) frame ∙ is.whole;
      endpoints = ap (λ (s : RoundsState). s.lane.endpoints) frame ∙ is.endpoints;
      b = ap (λ (s : RoundsState). s.lane.b) frame ∙ is.b;
      g = ap (λ (s : RoundsState). s.lane.g) frame ∙ is.g;
      at = ap (λ (s : RoundsState). s.lane.round) frame ∙ is.at;
      within = is.within;
      other = λ same. is.other (same ∙ ap (λ (s : RoundsState). s.lane.endpoint) frame);
      rounds = is.rounds;
      calls = Allocates a ∷ is.calls;
      stands = stands is.rounds A is.stands;
      count = is.count;
      history = subst (λ (s : RoundsState). history_of is.calls ≡ lane_of (played_by s is.rounds).steps) (sym frame) is.history;
      meets = subst (λ (s : RoundsState). MeetsConditions s.lane.g (Allocates a ∷ is.calls)) (sym frame) (
        omega (arith, ap rounds_recorded is.history, is.stands.lane.round, is.at),
        λ since. subst (λ h. allocated h A dst + 1 ≤ owed state.lane.g h dst) (sym is.history) (owes is.rounds A is.stands),
        is.meets,
      );
      begun = is.begun;
      boots = subst (λ (s : RoundsState). epoch_of (agent_of (played_by s is.rounds).steps) ≤ number + 1 + 1) (sym frame) is.boots;
      asked = subst (λ (s : RoundsState). asked (agent_of (played_by s is.rounds).steps) dst ≤ asks) (sym frame) is.asked;
      counted_before = λ on. counted-more dst (number + 1 - 2) a A (is.counted_before on);
      counted_last = λ on. subst (λ (k : ℕ). 1 ≤ allocated_in k (a ∷ A) dst) (sym back) (counted-one dst number A);
    }

-- ---- what a round asks

pub epochs-fit : (state : RoundsState) (dst number asks boots : ℕ) (before last : Bool) → HasPlayedRounds state dst number asks before last → number < 99999 → boots ≤ 1 → state.agent.epoch + boots < 2 ^ 32
epochs-fit state dst number asks boots before last is few most = omega (arith, is.stands.agent.epoch, is.boots, few, most)

pub asks-may : (state : RoundsState) (dst number asks n boots version : ℕ) (before last : Bool) (asked_now : List (ℕ × ℕ)) → HasPlayedRounds state dst number asks before last → asked_now ≡ (dst, n) ∷ [] → asks + n ≤ 100000000 →
    (calls : AgentHistory) × agents.AgentStandsFor state.agent calls × MayAsk state.lane.endpoint state.lane.endpoints (with_each Boots (replicate boots version) calls) asked_now
asks-may state dst number asks n boots version before last asked_now is asks_are most = (
  agent_of (played_by state is.rounds).steps,
  is.stands.agent,
  one-ask state.lane.endpoint state.lane.endpoints dst n asks (replicate boots version) (agent_of (played_by state is.rounds).steps) asked_now asks_are is.other (subst (λ (e : ℕ). dst < e) (sym is.endpoints) is.within) is.asked most,
)

pub slots-are : (state : RoundsState) (dst number asks : ℕ) (before last : Bool) → HasPlayedRounds state dst number asks before last → AreSlots state.lane.endpoints state.lane.b state.lane.endpoint (told_of_one dst before)
slots-are state dst number asks before last is =
    told-slots state.lane.endpoints state.lane.b state.lane.endpoint dst before (omega (arith, is.b)) (subst (λ (e : ℕ). dst < e) (sym is.endpoints) is.within) is.other

pub slots-allocated : ConditionsSuffice → (state : RoundsState) (dst number asks : ℕ) (before last : Bool) → HasPlayedRounds state dst number asks before last → AreAllocated state.lane number (told_of_one dst before)
slots-allocated suffice state dst number asks before last is =
    suffice.telling state.lane is.calls number (told_of_one dst before) (telling-meets state dst number asks before last is)
    (subst (λ h. lanes.LaneStandsFor state.lane h (allocations_of is.calls)) (sym is.history) is.stands.lane)

-- a round that ends well
pub round-ends : (state new : RoundsState) (dst number asks n : ℕ) (before last : Bool) (events : Events) (result : Result (Unit {0}) NoMemory) → HasPlayedRounds state dst number asks before last →
    events.asks ≡ (dst, n) ∷ [] → events.boots ≤ 1 →
    OnOk result (HasRoundMore state number (round_with state.lane.endpoint state.lane.endpoints events (told_of_one dst before)) new) →
    OnOk result (HasPlayedRounds new dst (number + 1) (asks + n) last false)
round-ends state new dst number asks n before last events (Ok one) is asks_are boots more =
    round-played state new dst number asks n before last events is asks_are boots more.endpoint more.endpoints more.b more.g more.whole more.round more.stands
round-ends state new dst number asks n before last events (Err want) is asks_are boots more = tt

-- No endpoint is told slots to itself, where no batch has a flow from an endpoint to itself.
use Rattle.std.proofs.Common.{◌≡◌, ◌≢◌, ◌<◌, ◌≤◌, ◌+◌, ◌-◌, ◌*◌, ◌==◌, ◌&&◌, ℕ, suc, List, [], ◌∷◌, length, drop, cond, Bool, true, false, not, IsTrue, All, refl, sym, ap, ◌∙◌, subst, inl, inr, arith}
use Rattle.std.specs.Prelude.{nat_le}
use Rattle.std.proofs.lemmas.Bool.{cases_Bool, eq-eqb, ne_eqb, eqb-true, and_parts}
use Rattle.std.proofs.lemmas.List.Elements.{All-take, All-drop, All-head, All-tail}
use Rattle.std.proofs.lemmas.List.Folds.{list_any_none}
use Rattle.std.proofs.lemmas.List.Sums.{sum_by-cons}
use Rattle.fcp_framing.specs.declared.packet.Told.{Told}
use Rattle.greedy_rules.specs.declared.flows.Flow.{Flow}
use Rattle.greedy_rules.specs.declared.flows.Entry.{Entry}
use Rattle.greedy_rules.specs.Batches.{DemandBatch}
use Rattle.greedy_rules.specs.Slot.{has_flow}
use Rattle.greedy_rules.specs.Matching.{EverySlotsFlowsAreOfEntries}
use Rattle.greedy_rules.specs.Allocation.{slots_of}
use Rattle.greedy_rules.specs.Schedule.{first_slot, schedule}
use Rattle.greedy_rules.specs.Cells.{flow_of}
use Rattle.endpoint_history.specs.Packets.{DownPacket, slots_to}
use Rattle.endpoint_history.specs.Agent.{Boots, Asks, TakesDown, MakesUp, SendsDue, TakenDown, taken, takes, slots_taken}
use Rattle.endpoint_history.specs.Lane.{LaneHistory, MakesDown, TakesUp}
use Rattle.endpoint_history.specs.Steps.{Step, OfAgent, OfLane, agent_of, lane_of, WasMadeDown, ArrivesFromLane, rounds_begun, RoundsRise}
use Rattle.endpoint_history.specs.Packets.{UpPacket}
use Rattle.endpoint_history.specs.Rounds.{Round, PlayedEnds, arriving, then_each, begun, posted_down, heard, posted_up, read}
use Rattle.endpoint_history.proofs.NeverTaken.{WasMadeDown-later}
use Rattle.endpoint_history.proofs.Rounds.{lane-agent}
use Rattle.trace_run.specs.Run.{Setting, slots_in_batch, told_of, told_in, replayed}
use Rattle.trace_run.specs.Histories.{played_after}
use Rattle.trace_run.specs.Premises.{Schedules, EndsLaws}
use Rattle.trace_run.proofs.Applicable.{round_after}
use Rattle.trace_run.proofs.Sends.{ToldAre, told_are_now, are-within, are-rising, issued-told}
use Rattle.trace_run.proofs.Through.{rounds_length}
use Rattle.trace_run.proofs.ToldOf.{slots_from-told, told_in-within, told_in-rises}

-- ---- slots

abbrev pub AreApart : List DemandBatch → Type 0
AreApart batches = All (λ (x : DemandBatch). All (λ (e : Entry). e.flow.src ≢ e.flow.dst) x.entries) batches

abbrev pub is_other : Flow → Bool
is_other flow = not (flow.src == flow.dst)

pub other_flows : EverySlotsFlowsAreOfEntries → (b : ℕ) (batches : List DemandBatch) → AreApart batches → All (All (λ (f : Flow). IsTrue (is_other f))) (schedule b batches)
other_flows flows b batches apart = flows is_other b batches (λ i d below k e within. ap not (ne_eqb _ _ (apart i d below k e within)))

not_both : (f : Flow) (endpoint : ℕ) → IsTrue (is_other f) → (f.src == endpoint) && (f.dst == endpoint) ≡ false
not_both f endpoint other = elim (cases_Bool ((f.src == endpoint) && (f.dst == endpoint))) [
  | inr never ↦ never
  | inl both ↦
      let parts = and_parts (f.src == endpoint) (f.dst == endpoint) both in
      let same : (f.src == f.dst) ≡ true = eq-eqb f.src f.dst (eqb-true f.src endpoint parts.0 ∙ sym (eqb-true f.dst endpoint parts.1)) in
      let is = rw same at other in
      absurd (cc)
]

none_to_itself : (endpoint : ℕ) (slots : List (List Flow)) → All (All (λ (f : Flow). IsTrue (is_other f))) slots → slots_of (flow_of endpoint endpoint) slots ≡ 0
none_to_itself endpoint [] other = refl
none_to_itself endpoint (slot ∷ slots) other =
    let P : List Flow → Type 0 = All (λ (f : Flow). IsTrue (is_other f)) in
    let here = All-head P slot slots other in
    let rest = none_to_itself endpoint slots (All-tail P slot slots other) in
    let push = sum_by-cons (λ (s : List Flow). cond (has_flow s (flow_of endpoint endpoint)) 1 0) slot slots in
    let none : has_flow slot (flow_of endpoint endpoint) ≡ false = list_any_none (λ (f : Flow). (f.src == endpoint) && (f.dst == endpoint)) slot (λ k d below. not_both _ endpoint (here k d below)) in
    let nothing : cond {A = ℕ} (has_flow slot (flow_of endpoint endpoint)) 1 0 ≡ 0 = ap (λ (c : Bool). cond {A = ℕ} c 1 0) none in
    omega arith

-- so no slots of the schedule, from any on, nor of a batch
pub none_from_slot : Schedules → (b slot endpoint : ℕ) (batches : List DemandBatch) → AreApart batches → slots_of (flow_of endpoint endpoint) (drop slot (schedule b batches)) ≡ 0
none_from_slot s b slot endpoint batches apart =
    none_to_itself endpoint (drop slot (schedule b batches)) (All-drop (All (λ (f : Flow). IsTrue (is_other f))) slot (schedule b batches) (other_flows s.flows b batches apart))

pub none_told : Schedules → (setting : Setting) (batches : List DemandBatch) (round endpoint : ℕ) → AreApart batches → slots_to endpoint (told_in setting batches round endpoint) ≡ 0
none_told s setting batches round endpoint apart =
    let k : ℕ = round - 2 * setting.g in
    let P : List Flow → Type 0 = All (λ (f : Flow). IsTrue (is_other f)) in
    let all : List (List Flow) = schedule setting.b batches in
    let none : slots_of (flow_of endpoint endpoint) (slots_in_batch setting.b k batches) ≡ 0 =
    none_to_itself endpoint (slots_in_batch setting.b k batches) (All-take P setting.b (drop (k * setting.b) all) (All-drop P (k * setting.b) all (other_flows s.flows setting.b batches apart))) in
    let its = slots_from-told (λ offset. setting.cores (first_slot setting.b k + offset) endpoint) endpoint endpoint 0 (slots_in_batch setting.b k batches) in
    let told : slots_to endpoint (told_of setting batches k endpoint) ≡ 0 = omega arith in
    elim (cases_Bool (nat_le (2 * setting.g) round)) [
      | inl late ↦ rw late told
      | inr early ↦ rw early refl
    ]

-- ---- what the agent has heard

none_taken : (g endpoint : ℕ) (steps : List Step) → ArrivesFromLane g steps → ((packet : DownPacket) → WasMadeDown g (lane_of steps) packet → slots_to endpoint packet.content.told ≡ 0) →
    slots_taken (agent_of steps) endpoint ≡ 0
none_taken g endpoint [] arrives none = refl
none_taken g endpoint (OfLane event ∷ steps) arrives none =
    none_taken g endpoint steps (of_lane event arrives) (λ packet made. none packet (WasMadeDown-later g event (lane_of steps) packet made))
  where
    of_lane : (event : _) → ArrivesFromLane g (OfLane event ∷ steps) → ArrivesFromLane g steps
    of_lane event arrives = arrives
none_taken g endpoint (OfAgent (Boots version) ∷ steps) arrives none = refl
none_taken g endpoint (OfAgent (Asks dst slots) ∷ steps) arrives none = none_taken g endpoint steps arrives none
none_taken g endpoint (OfAgent MakesUp ∷ steps) arrives none = none_taken g endpoint steps arrives none
none_taken g endpoint (OfAgent (SendsDue round) ∷ steps) arrives none = none_taken g endpoint steps arrives none
none_taken g endpoint (OfAgent (TakesDown round packet) ∷ steps) arrives none =
    let before = none_taken g endpoint steps arrives.2 none in
    let here = none packet arrives.0 in
    let push = sum_by-cons (λ (t : TakenDown). slots_to endpoint t.packet.content.told) (record { round = round; packet = packet }) (taken (agent_of steps)) in
    elim (cases_Bool (takes (agent_of steps) packet)) [
      | inr left ↦ rw left before
      | inl taken_in ↦ rw taken_in (omega arith)
    ]

-- what holds after upward packets were read and is not of them held before
before_reads : (P : List Step → Type 0) (number : ℕ) → ((packet : UpPacket) (steps : List Step) → P (OfLane (TakesUp number packet) ∷ steps) → P steps) →
    (packets : List UpPacket) (steps : List Step) → P (then_each (λ packet. OfLane (TakesUp number packet)) packets steps) → P steps
before_reads P number less [] steps holds = holds
before_reads P number less (p ∷ packets) steps holds = less p steps (before_reads P number less packets (OfLane (TakesUp number p) ∷ steps) holds)

-- the calls of an endpoint's round once its agent has heard what arrives
abbrev pub heard_after : Setting → ℕ → ℕ → List Step
heard_after setting rounds endpoint =
    heard setting.endpoints setting.g (length ((replayed setting rounds).rounds endpoint)) (round_after setting rounds endpoint) (played_after setting rounds endpoint)

abbrev told_by : Setting → ℕ → ℕ → ℕ → List Told
told_by setting rounds endpoint round = told_in setting (replayed setting rounds).batches round endpoint

record HasHeard (setting : Setting) (rounds endpoint : ℕ) (steps : List Step) : Type 0 where
  from_lane : ArrivesFromLane setting.g steps
  rise : RoundsRise (lane_of steps)
  told : ToldAre (told_by setting rounds endpoint) (lane_of steps)

has_heard : Schedules → EndsLaws → (setting : Setting) → 0 < setting.g → (rounds endpoint : ℕ) → HasHeard setting rounds endpoint (heard_after setting rounds endpoint)
has_heard s ends setting some rounds endpoint =
    let order = ends.order setting.endpoints setting.g ((replayed setting (suc rounds)).rounds endpoint) in
    let told = told_are_now s setting some rounds rounds endpoint (omega arith) in
    at_heard order.from_lane order.rise told
  where
    number : ℕ
    number = length ((replayed setting rounds).rounds endpoint)

    before : PlayedEnds
    before = played_after setting rounds endpoint

    round : Round
    round = round_after setting rounds endpoint

    ups : List UpPacket
    ups = arriving (posted_up setting.endpoints setting.g number round before) number

    at_heard : ArrivesFromLane setting.g (read setting.endpoints setting.g number round before) → RoundsRise (lane_of (read setting.endpoints setting.g number round before)) →
        ToldAre (told_by setting rounds endpoint) (lane_of (read setting.endpoints setting.g number round before)) → HasHeard setting rounds endpoint (heard_after setting rounds endpoint)
    at_heard from_lane rise told =
        let now : List Step = OfAgent MakesUp ∷ heard_after setting rounds endpoint in
        let then : List Step = then_each (λ packet. OfLane (TakesUp number packet)) ups now in
        record {
          from_lane = before_reads (ArrivesFromLane setting.g) number (λ p steps holds. holds) ups now (before_reads (ArrivesFromLane setting.g) number (λ p steps holds. holds) round.raw then from_lane);
          rise = before_reads (λ (steps : List Step). RoundsRise (lane_of steps)) number (λ p steps holds. holds) ups now
              (before_reads (λ (steps : List Step). RoundsRise (lane_of steps)) number (λ p steps holds. holds) round.raw then rise);
          told = before_reads (λ (steps : List Step). ToldAre (told_by setting rounds endpoint) (lane_of steps)) number (λ p steps holds. holds) ups now
              (before_reads (λ (steps : List Step). ToldAre (told_by setting rounds endpoint) (lane_of steps)) number (λ p steps holds. holds) round.raw then told);
        }

-- it has taken in no slots to itself
pub none_heard : Schedules → EndsLaws → (setting : Setting) → 0 < setting.g → (rounds endpoint : ℕ) → AreApart (replayed setting rounds).batches →
    slots_taken (agent_of (heard_after setting rounds endpoint)) endpoint ≡ 0
none_heard s ends setting some rounds endpoint apart =
    let h = has_heard s ends setting some rounds endpoint in
    none_taken setting.g endpoint (heard_after setting rounds endpoint) h.from_lane (λ packet made. none h.rise h.told packet made packet.content.told refl)
  where
    none : RoundsRise (lane_of (heard_after setting rounds endpoint)) → ToldAre (told_by setting rounds endpoint) (lane_of (heard_after setting rounds endpoint)) → (packet : DownPacket) →
        WasMadeDown setting.g (lane_of (heard_after setting rounds endpoint)) packet → (told : List Told) → packet.content.told ≡ told → slots_to endpoint told ≡ 0
    none rise are packet made [] is = refl
    none rise are packet made (t ∷ told) is =
        let named : packet.content.told ≢ [] = λ nothing. let long = ap length (sym is ∙ nothing) in absurd (omega arith) in
        let came = ends.issued setting.g (lane_of (heard_after setting rounds endpoint)) packet rise made named in
        let of : packet.content.told ≡ told_by setting rounds endpoint (packet.content.batch + 2 * setting.g) =
        issued-told (told_by setting rounds endpoint) setting.g (lane_of (heard_after setting rounds endpoint)) (packet.content.batch + 2 * setting.g)
        (record { epoch = packet.epoch; number = packet.seq; content = packet.content }) are came.0 named in
        ap (λ (xs : List Told). slots_to endpoint xs) (sym is ∙ of) ∙ none_told s setting (replayed setting rounds).batches (packet.content.batch + 2 * setting.g) endpoint apart

-- and no more to any than there were slots
pub few_heard : Schedules → EndsLaws → (setting : Setting) → 0 < setting.g → (rounds endpoint dst : ℕ) → slots_taken (agent_of (heard_after setting rounds endpoint)) dst ≤ (rounds + 1) * setting.b
few_heard s ends setting some rounds endpoint dst =
    let h = has_heard s ends setting some rounds endpoint in
    let batches : List DemandBatch = (replayed setting rounds).batches in
    let number : ℕ = length ((replayed setting rounds).rounds endpoint) in
    let round : Round = round_after setting rounds endpoint in
    let before : PlayedEnds = played_after setting rounds endpoint in
    let steps : List Step = heard_after setting rounds endpoint in
    let downs : List DownPacket = arriving (posted_down setting.endpoints setting.g number round before) number in
    let begun_is : rounds_begun (lane_of steps) ≡ rounds + 1 =
    ap (λ (l : LaneHistory). rounds_begun l) (lane-agent (λ packet. TakesDown number packet) downs (OfLane (MakesDown number round.told) ∷ begun setting.endpoints setting.g number round before))
    ∙ ap (λ (n : ℕ). n + 1) (rounds_length setting rounds endpoint) in
    subst (λ (n : ℕ). slots_taken (agent_of steps) dst ≤ n * setting.b) begun_is
    (ends.few setting.b setting.g steps h.from_lane h.rise
    (are-within setting.b (told_by setting rounds endpoint) (λ r. told_in-within setting batches r endpoint) (lane_of steps) h.told)
    (are-rising (told_by setting rounds endpoint) (λ r. told_in-rises setting batches r endpoint) (lane_of steps) h.told) dst)

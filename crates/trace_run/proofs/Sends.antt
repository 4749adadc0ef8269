-- What is sent was told, and what was told is of the schedule.
use Rattle.std.proofs.Common.{◌≡◌, ◌≢◌, ◌<◌, ◌≤◌, ◌+◌, ◌-◌, ◌*◌, ◌==◌, ◌&&◌, ℕ, zero, suc, List, [], ◌∷◌, ◌++◌, length, get_or, drop, cond, nat_lt, Bool, true, Some, refl, sym, ap, ◌∙◌, subst, inl, inr, arith}
use Rattle.std.specs.Prelude.{nat_le, count_by}
use Rattle.std.proofs.lemmas.Bool.{cases_Bool, cases_eq, eq-eqb, ne_eqb, le-leb}
use Rattle.std.proofs.lemmas.List.{get_or-take, get_or-drop, length-take}
use Rattle.fcp_framing.specs.declared.packet.Told.{Told}
use Rattle.greedy_rules.specs.declared.flows.Flow.{Flow}
use Rattle.greedy_rules.specs.Batches.{DemandBatch}
use Rattle.greedy_rules.specs.Slot.{has_flow}
use Rattle.greedy_rules.specs.Schedule.{schedule, slot_at}
use Rattle.greedy_rules.specs.Cells.{flow_of}
use Rattle.endpoint_history.specs.Packets.{Telling, DownPacket}
use Rattle.endpoint_history.specs.Agent.{AgentEvent, AgentHistory, Boots, Asks, TakesDown, MakesUp, SendsDue, TakenDown, ever_taken}
use Rattle.endpoint_history.specs.Agent as agent
use Rattle.endpoint_history.specs.Sending.{Slot, slots_of_telling, ever_sent}
use Rattle.endpoint_history.specs.Lane.{LaneHistory, MakesDown, TakesUp, Records, epoch_of, last_reset, telling_in, may_send, numbers}
use Rattle.endpoint_history.specs.Steps.{Step, OfAgent, OfLane, agent_of, lane_of, WasMadeDown, ArrivesFromLane}
use Rattle.endpoint_history.specs.Tellings.{Among, Issue, issued, SlotsAreWithin, ToldWithin, RisesFrom, ToldRises}
use Rattle.endpoint_history.specs.Rounds.{Round, PlayedEnds, arriving, then_each, begun, posted_down, played, sent_by, NamedByNoRaw}
use Rattle.endpoint_history.proofs.Once.{content_in}
use Rattle.endpoint_history.proofs.NeverSent.{some_told}
use Rattle.endpoint_history.proofs.NeverTaken.{WasMadeDown-later}
use Rattle.trace_run.specs.Run.{Setting, slots_in_batch, told_of, told_in, replayed}
use Rattle.trace_run.specs.Histories.{played_after, agent_after, lane_after}
use Rattle.trace_run.specs.Sends.{EverySendIsScheduled, NoSlotIsSentTwice, SentIsWhatEachRoundSends, NoPacketIsForged}
use Rattle.trace_run.specs.Premises.{Schedules, EndsLaws}
use Rattle.trace_run.proofs.Fronts.{told-whole}
use Rattle.trace_run.proofs.Applicable.{round_after, recording}
use Rattle.trace_run.proofs.Through.{agent-kept, agent_of-read, through, rounds_length}
use Rattle.trace_run.proofs.ToldOf.{IsIn, sends_flow, told_in-within, told_in-rises, told_of-among}

-- ---- what an agent ever sent

sent_is_round_after_round : (endpoints b g : ℕ) (round : Round) (earlier : List Round) →
    ever_sent b g (agent_of (played endpoints g (round ∷ earlier)).steps) ≡ ever_sent b g (agent_of (played endpoints g earlier).steps) ++ sent_by endpoints b g (round ∷ earlier)
sent_is_round_after_round endpoints b g round earlier =
    let before : PlayedEnds = played endpoints g earlier in
    let number : ℕ = length earlier in
    let booted : List Step = then_each (λ version. OfAgent (Boots version)) round.boots before.steps in
    let begun_steps : List Step = begun endpoints g number round before in
    let told_steps : List Step = OfLane (MakesDown number round.told) ∷ begun_steps in
    let downs : List DownPacket = arriving (posted_down endpoints g number round before) number in
    ap (λ (xs : List Slot). xs ++ sent_by endpoints b g (round ∷ earlier))
    (ap (λ (h : AgentHistory). ever_sent b g h) (agent_of-read endpoints g number round before)
    ∙ (agent-kept (λ (h : AgentHistory). ever_sent b g h) (λ packet. TakesDown number packet) (λ x h. refl) downs told_steps
    ∙ (agent-kept (λ (h : AgentHistory). ever_sent b g h) (λ (a : ℕ × ℕ). Asks a.0 a.1) (λ x h. refl) round.asks booted
    ∙ agent-kept (λ (h : AgentHistory). ever_sent b g h) (λ version. Boots version) (λ x h. refl) round.boots before.steps)))

-- ---- every packet ever taken was made, whatever is forged

pub ever_taken-made : (g : ℕ) (steps : List Step) (t : TakenDown) → ArrivesFromLane g steps → Among t (ever_taken (agent_of steps)) → WasMadeDown g (lane_of steps) t.packet
ever_taken-made g [] t arrives among = absurd among
ever_taken-made g (OfLane event ∷ steps) t arrives among = WasMadeDown-later g event (lane_of steps) t.packet (ever_taken-made g steps t arrives among)
ever_taken-made g (OfAgent (Boots version) ∷ steps) t arrives among = ever_taken-made g steps t arrives among
ever_taken-made g (OfAgent (Asks dst slots) ∷ steps) t arrives among = ever_taken-made g steps t arrives among
ever_taken-made g (OfAgent MakesUp ∷ steps) t arrives among = ever_taken-made g steps t arrives among
ever_taken-made g (OfAgent (SendsDue round) ∷ steps) t arrives among = ever_taken-made g steps t arrives among
ever_taken-made g (OfAgent (TakesDown round packet) ∷ steps) t arrives among =
    elim (cases_Bool (agent.takes (agent_of steps) packet)) [
      | inr left ↦ ever_taken-made g steps t arrives.2 (rw left at among)
      | inl takes ↦
          elim (rw takes at among) [
            | inl same ↦ subst (λ (x : TakenDown). WasMadeDown g (lane_of steps) x.packet) same arrives.0
            | inr before ↦ ever_taken-made g steps t arrives.2 before
          ]
    ]

-- ---- what the lane is told

-- in each round the lane is told this
abbrev pub ToldAre : (ℕ → List Told) → LaneHistory → Type 0
ToldAre of [] = Unit {0}
ToldAre of (MakesDown round told ∷ earlier) = (told ≡ of round) × ToldAre of earlier
ToldAre of (_ ∷ earlier) = ToldAre of earlier

told-again : (s : Schedules) (setting : Setting) → 0 < setting.g → (rounds all endpoint : ℕ) → rounds ≤ all →
    ToldAre (λ round. told_in setting (replayed setting all).batches round endpoint) (lane_after setting rounds endpoint) →
    ToldAre (λ round. told_in setting (replayed setting all).batches round endpoint) (recording setting rounds endpoint)
told-again s setting some rounds all endpoint within before =
    let of : ℕ → List Told = λ round. told_in setting (replayed setting all).batches round endpoint in
    let count = rounds_length setting rounds endpoint in
    let number : ℕ = length ((replayed setting rounds).rounds endpoint) in
    let told : told_in setting (replayed setting rounds).batches rounds endpoint ≡ of number =
    told-whole s setting some rounds all endpoint within ∙ ap of (sym count) in
    through (ToldAre of) (λ r p h holds. holds) setting.endpoints setting.g number (round_after setting rounds endpoint) (played_after setting rounds endpoint)
    (λ h same holds. (told, holds)) before

pub told_are : (s : Schedules) (setting : Setting) → 0 < setting.g → (rounds all endpoint : ℕ) → rounds ≤ all →
    ToldAre (λ round. told_in setting (replayed setting all).batches round endpoint) (lane_after setting rounds endpoint)
told_are s setting some zero all endpoint within = tt
told_are s setting some (suc rounds) all endpoint within = told-again s setting some rounds all endpoint (omega arith) (told_are s setting some rounds all endpoint (omega arith))

-- and while the round is recorded
pub told_are_now : (s : Schedules) (setting : Setting) → 0 < setting.g → (rounds all endpoint : ℕ) → rounds ≤ all →
    ToldAre (λ round. told_in setting (replayed setting all).batches round endpoint) (recording setting rounds endpoint)
told_are_now s setting some rounds all endpoint within = told-again s setting some rounds all endpoint within (told_are s setting some rounds all endpoint within)

pub are-within : (b : ℕ) (of : ℕ → List Told) → ((round : ℕ) → SlotsAreWithin b (of round)) → (h : LaneHistory) → ToldAre of h → ToldWithin b h
are-within b of each [] are = tt
are-within b of each (MakesDown round told ∷ h) are = (subst (SlotsAreWithin b) (sym are.0) (each round), are-within b of each h are.1)
are-within b of each (TakesUp round packet ∷ h) are = are-within b of each h are
are-within b of each (Records round ∷ h) are = are-within b of each h are

pub are-rising : (of : ℕ → List Told) → ((round : ℕ) → RisesFrom 0 (of round)) → (h : LaneHistory) → ToldAre of h → ToldRises h
are-rising of each [] are = tt
are-rising of each (MakesDown round told ∷ h) are = (subst (RisesFrom 0) (sym are.0) (each round), are-rising of each h are.1)
are-rising of each (TakesUp round packet ∷ h) are = are-rising of each h are
are-rising of each (Records round ∷ h) are = are-rising of each h are

-- a number that names slots names those of its round
telling-is : (g : ℕ) (h : LaneHistory) (round : ℕ) (told : List Told) → (telling_in g h round told).told ≢ [] → (telling_in g h round told).told ≡ told
telling-is g h round told some = elim (cases_Bool (nat_le (2 * g) round && nat_le (last_reset h) (round - 2 * g))) [
  | inl tells ↦ rw tells refl
  | inr none ↦ absurd (some (rw none refl))
]

pub issued-told : (of : ℕ → List Told) (g : ℕ) (h : LaneHistory) (round : ℕ) (issue : Issue) → ToldAre of h → issued g h round ≡ Some issue → issue.content.told ≢ [] → issue.content.told ≡ of round
issued-told of g [] round issue are is some = absurd (cc)
issued-told of g (TakesUp number up ∷ h) round issue are is some = issued-told of g h round issue are is some
issued-told of g (Records number ∷ h) round issue are is some = issued-told of g h round issue are is some
issued-told of g (MakesDown number told ∷ h) round issue are is some =
    elim (cases_eq number round) [
      | inr other ↦ issued-told of g h round issue are.1 (rw (ne_eqb number round other) at is) some
      | inl same ↦
          elim (cases_Bool (nat_lt 0 (epoch_of h) && may_send h (numbers g h))) [
            | inr none ↦ let it = rw (eq-eqb number round same, none) at is in absurd (cc)
            | inl new ↦
                let it = rw (eq-eqb number round same, new) at is in
                let content : telling_in g h number told ≡ issue.content = ap (λ o. content_in issue.content o) it in
                let whole : (telling_in g h number told).told ≡ told = telling-is g h number told (subst (λ (t : Telling). t.told ≢ []) (sym content) some) in
                ap (λ (t : Telling). t.told) (sym content) ∙ (whole ∙ (are.0 ∙ ap of same))
          ]
    ]

-- ---- sends

-- the slot of a batch at a place
slot-of_batch : (b k place : ℕ) (batches : List DemandBatch) → place < length (slots_in_batch b k batches) →
    get_or (slots_in_batch b k batches) place [] ≡ slot_at (schedule b batches) (k * b + 1 + (0 + place))
slot-of_batch b k place batches below =
    let all : List (List Flow) = schedule b batches in
    let none : List Flow = [] in
    let long = length-take b (drop (k * b) all) in
    let on : k * b + place ≡ k * b + 1 + (0 + place) - 1 = omega arith in
    get_or-take b (drop (k * b) all) place none (omega arith) ∙ (get_or-drop (k * b) all place none ∙ ap (λ (n : ℕ). get_or all n none) on)

-- the batch of its round
of_batch : (setting : Setting) (batches : List DemandBatch) (batch endpoint : ℕ) → told_in setting batches (batch + 2 * setting.g) endpoint ≡ told_of setting batches batch endpoint
of_batch setting batches batch endpoint =
    let back : batch + 2 * setting.g - 2 * setting.g ≡ batch = omega arith in
    ap (λ (c : Bool). cond c (told_of setting batches (batch + 2 * setting.g - 2 * setting.g) endpoint) []) (le-leb (2 * setting.g) (batch + 2 * setting.g) (omega arith))
    ∙ ap (λ (k : ℕ). told_of setting batches k endpoint) back

pub sent_is_what_each_round_sends : SentIsWhatEachRoundSends
sent_is_what_each_round_sends setting zero endpoint = refl
sent_is_what_each_round_sends setting (suc rounds) endpoint =
    let before : List Round = (replayed setting rounds).rounds endpoint in
    let round : Round = round_after setting rounds endpoint in
    sent_is_round_after_round setting.endpoints setting.b setting.g round before
    ∙ ap (λ (xs : List Slot). xs ++ sent_by setting.endpoints setting.b setting.g (round ∷ before)) (sent_is_what_each_round_sends setting rounds endpoint)

-- a slot of a batch in which the endpoint sends stands in the schedule
send_is : (b batch endpoint : ℕ) (batches : List DemandBatch) (s : Slot) → IsIn b batch 0 endpoint (slots_in_batch b batch batches) s →
    (0 < s.slot) × (has_flow (slot_at (schedule b batches) s.slot) (flow_of endpoint s.dst) ≡ true)
send_is b batch endpoint batches s i =
    let slot : get_or (slots_in_batch b batch batches) i.place [] ≡ slot_at (schedule b batches) s.slot =
    slot-of_batch b batch i.place batches i.below ∙ ap (slot_at (schedule b batches)) (sym i.is) in
    let number = i.is in
    (omega arith, ap (λ (xs : List Flow). has_flow xs (flow_of endpoint s.dst)) (sym slot) ∙ sends_flow (get_or (slots_in_batch b batch batches) i.place []) endpoint s.dst i.sends)

pub every_send_is_scheduled : Schedules → EndsLaws → EverySendIsScheduled
every_send_is_scheduled s ends setting some rounds all endpoint within sent among_sent =
    let b : ℕ = setting.b in
    let g : ℕ = setting.g in
    let among : Among sent (ever_sent b g (agent_after setting rounds endpoint)) =
    subst (λ (xs : List Slot). Among sent xs) (sym (sent_is_what_each_round_sends setting rounds endpoint)) among_sent in
    let batches : List DemandBatch = (replayed setting all).batches in
    let of : ℕ → List Told = λ round. told_in setting batches round endpoint in
    let steps : List Step = (played_after setting rounds endpoint).steps in
    let order = ends.order setting.endpoints g ((replayed setting rounds).rounds endpoint) in
    let was = ends.taken b g (agent_of steps) sent among in
    let t : TakenDown = was.0 in
    let made = ever_taken-made g steps t order.from_lane was.1 in
    let content : Telling = t.packet.content in
    let named = some_told b content sent was.2 in
    let came = ends.issued g (lane_of steps) t.packet order.rise made named in
    let told : content.told ≡ of (content.batch + 2 * g) =
    issued-told of g (lane_of steps) (content.batch + 2 * g) (record { epoch = t.packet.epoch; number = t.packet.seq; content = content }) (told_are s setting some rounds all endpoint within) came.0 named in
    let its = of_batch setting batches content.batch endpoint in
    let i = told_of-among setting batches content.batch endpoint sent
    (subst (λ (xs : List Told). Among sent (slots_of_telling b (record { batch = content.batch; told = xs }))) (told ∙ its) was.2) in
    send_is b content.batch endpoint batches sent i

pub no_slot_is_sent_twice : Schedules → EndsLaws → NoSlotIsSentTwice
no_slot_is_sent_twice s ends setting some rounds endpoint slot =
    let batches : List DemandBatch = (replayed setting rounds).batches in
    let of : ℕ → List Told = λ round. told_in setting batches round endpoint in
    let steps : List Step = (played_after setting rounds endpoint).steps in
    let order = ends.order setting.endpoints setting.g ((replayed setting rounds).rounds endpoint) in
    let are = told_are s setting some rounds rounds endpoint (omega arith) in
    subst (λ (xs : List Slot). count_by (λ (t : Slot). t.slot == slot) xs ≤ 1) (sent_is_what_each_round_sends setting rounds endpoint)
    (ends.once setting.b setting.g steps order.from_lane order.rise order.sends
    (are-within setting.b of (λ round. told_in-within setting batches round endpoint) (lane_of steps) are)
    (are-rising of (λ round. told_in-rises setting batches round endpoint) (lane_of steps) are) slot)

-- ---- where no raw row names the endpoint

pub none-named : (setting : Setting) (number endpoint : ℕ) → ((round : ℕ) → setting.outside.raw round endpoint ≡ []) → NamedByNoRaw ((replayed setting number).rounds endpoint)
none-named setting zero endpoint none = tt
none-named setting (suc number) endpoint none = (none number, none-named setting number endpoint none)

pub no_packet_is_forged : EndsLaws → NoPacketIsForged
no_packet_is_forged ends setting rounds endpoint none = ends.arrive setting.endpoints setting.g ((replayed setting rounds).rounds endpoint) (none-named setting rounds endpoint none)

-- What is lost is never taken in.
use Rattle.std.proofs.Common.{◌≡◌, ℕ, ◌+◌, ◌*◌, ◌<◌, ◌≤◌, true, false, List, [], ◌∷◌, ◌++◌, Some, None, sym, ◌∙◌, ap, subst, refl, inl, inr, arith, append_assoc}
use Rattle.std.proofs.lemmas.Bool.{cases_Bool, and_parts}
use Rattle.ack_window.specs.Arrivals.{highest, receive_verdict, is_fresh, is_number_taken}
use Rattle.ack_window.specs.Versions.{reorder_of}
use Rattle.endpoint_history.specs.Packets.{Telling, DownPacket}
use Rattle.endpoint_history.specs.Agent as agent
use Rattle.endpoint_history.specs.Agent.{AgentEvent, AgentHistory, Boots, Asks, TakesDown, MakesUp, SendsDue, TakenDown, until, ever_taken}
use Rattle.endpoint_history.specs.Lane as lane
use Rattle.endpoint_history.specs.Lane.{LaneEvent, LaneHistory, MakesDown, TakesUp, Records}
use Rattle.endpoint_history.specs.Steps.{Step, OfAgent, OfLane, agent_of, lane_of, WasMadeDown, ArrivesFromOther, rounds_begun, RoundsRise}
use Rattle.endpoint_history.specs.Tellings.{Among, Issue, issued}
use Rattle.endpoint_history.specs.NumberLaws.{LostNumbersAreNeverTaken}
use Rattle.endpoint_history.specs.Windows.{Windows}
use Rattle.endpoint_history.proofs.AgentEnd.{until-here, until-cases, epoch-grows, current-parts}
use Rattle.endpoint_history.proofs.BothEnds.{ends_agree}
use Rattle.endpoint_history.proofs.Slots.{fresh_is}
use Rattle.endpoint_history.proofs.Issues.{content-came, packet-came, untold-came, issued-later, begun-later, rise-before}

-- ---- a boot goes on

pub record Extends (old new : AgentHistory) : Type 0 where
  pub more : List ℕ
  pub arrived : agent.arrived new ≡ more ++ agent.arrived old
  pub version : agent.version_of new ≡ agent.version_of old

Extends-same : (old new : AgentHistory) → new ≡ old → Extends old new
Extends-same old new same = record { more = []; arrived = ap agent.arrived same; version = ap agent.version_of same }

Extends-call : (event : AgentEvent) (history : AgentHistory) → agent.epoch_of (event ∷ history) ≡ agent.epoch_of history → Extends history (event ∷ history)
Extends-call (Boots version) history stays = absurd (omega arith)
Extends-call (Asks dst slots) history stays = record { more = []; arrived = refl; version = refl }
Extends-call MakesUp history stays = record { more = []; arrived = refl; version = refl }
Extends-call (SendsDue round) history stays = record { more = []; arrived = refl; version = refl }
Extends-call (TakesDown round packet) history stays =
    elim (cases_Bool (agent.is_current history packet)) [
      | inl current ↦ record { more = packet.seq ∷ []; arrived = rw current refl; version = refl }
      | inr other ↦ record { more = []; arrived = rw other refl; version = refl }
    ]

Extends-event : (epoch : ℕ) (event : AgentEvent) (history : AgentHistory) → epoch ≤ agent.epoch_of history → Extends (until epoch history) (until epoch (event ∷ history))
Extends-event epoch event history begun =
    elim (until-cases epoch event history begun) [
      | inl same ↦ Extends-same (until epoch history) (until epoch (event ∷ history)) same
      | inr present ↦
          subst (λ (new : AgentHistory). Extends (until epoch history) new) (sym present.after)
          (subst (λ (old : AgentHistory). Extends old (event ∷ history)) (sym present.before) (Extends-call event history present.stays))
    ]

Extends-then : (a b c : AgentHistory) → Extends a b → Extends b c → Extends a c
Extends-then a b c one two = record {
  more = two.more ++ one.more;
  arrived = two.arrived ∙ ap (λ xs. two.more ++ xs) one.arrived ∙ sym (append_assoc two.more one.more (agent.arrived a));
  version = two.version ∙ one.version;
}

pub Extends-taken : (w : Windows) (a b : AgentHistory) (number : ℕ) → Extends a b → is_number_taken (reorder_of (agent.version_of a)) (agent.arrived a) number ≡ true → is_number_taken (reorder_of (agent.version_of b)) (agent.arrived b) number ≡ true
Extends-taken w a b number e taken = rw (e.arrived, e.version) (w.for_good.taken (reorder_of (agent.version_of a)) e.more (agent.arrived a) number taken)

pub Extends-steps : (epoch : ℕ) (later earlier : List Step) → epoch ≤ agent.epoch_of (agent_of earlier) → Extends (until epoch (agent_of earlier)) (until epoch (agent_of (later ++ earlier))) × (epoch ≤ agent.epoch_of (agent_of (later ++ earlier)))
Extends-steps epoch [] earlier begun = (Extends-same (until epoch (agent_of earlier)) (until epoch (agent_of earlier)) refl, begun)
Extends-steps epoch (OfLane event ∷ later) earlier begun = Extends-steps epoch later earlier begun
Extends-steps epoch (OfAgent event ∷ later) earlier begun =
    let before = Extends-steps epoch later earlier begun in
    let grows = epoch-grows event (agent_of (later ++ earlier)) in
    let known = before.1 in (
      Extends-then (until epoch (agent_of earlier)) (until epoch (agent_of (later ++ earlier))) (until epoch (event ∷ agent_of (later ++ earlier))) before.0
          (Extends-event epoch event (agent_of (later ++ earlier)) before.1),
      omega arith,
    )

-- ---- what was ever taken

abbrev pub WasTaken : AgentHistory → DownPacket → Type 0
WasTaken history packet = (packet.epoch ≤ agent.epoch_of history) × (is_number_taken (reorder_of (agent.version_of (until packet.epoch history))) (agent.arrived (until packet.epoch history)) packet.seq ≡ true)

WasTaken-later : (w : Windows) (event : AgentEvent) (history : AgentHistory) (packet : DownPacket) → WasTaken history packet → WasTaken (event ∷ history) packet
WasTaken-later w event history packet was =
    let grows = epoch-grows event history in
    let known = was.0 in
    (omega arith, Extends-taken w (until packet.epoch history) (until packet.epoch (event ∷ history)) packet.seq (Extends-event packet.epoch event history was.0) was.1)

takes-parts : (history : AgentHistory) (packet : DownPacket) → agent.takes history packet ≡ true →
    (agent.is_current history packet ≡ true) × (is_fresh (receive_verdict (reorder_of (agent.version_of history)) (agent.arrived history) packet.seq) ≡ true)
unfolding agent.takes
takes-parts history packet h = let parts = and_parts (agent.is_current history packet) _ h in (parts.0, parts.1)

WasTaken-now : (w : Windows) (round : ℕ) (history : AgentHistory) (packet : DownPacket) → agent.takes history packet ≡ true → WasTaken (TakesDown round packet ∷ history) packet
WasTaken-now w round history packet takes =
    let parts = takes-parts history packet takes in
    let current = current-parts history packet parts.0 in
    let epoch = current.0 in
    let current_is = parts.0 in (
      omega arith,
      rw (until-here packet.epoch (TakesDown round packet) history (sym epoch), current_is)
          (w.once.fresh (reorder_of (agent.version_of history)) (agent.arrived history) packet.seq (fresh_is _ parts.1)),
    )

pub ever_taken-was : (w : Windows) (history : AgentHistory) (t : TakenDown) → Among t (ever_taken history) → WasTaken history t.packet
ever_taken-was w [] t among = absurd among
ever_taken-was w (Boots version ∷ history) t among = WasTaken-later w (Boots version) history t.packet (ever_taken-was w history t among)
ever_taken-was w (Asks dst slots ∷ history) t among = WasTaken-later w (Asks dst slots) history t.packet (ever_taken-was w history t among)
ever_taken-was w (MakesUp ∷ history) t among = WasTaken-later w MakesUp history t.packet (ever_taken-was w history t among)
ever_taken-was w (SendsDue round ∷ history) t among = WasTaken-later w (SendsDue round) history t.packet (ever_taken-was w history t among)
ever_taken-was w (TakesDown round packet ∷ history) t among =
    elim (cases_Bool (agent.takes history packet)) [
      | inr left ↦ WasTaken-later w (TakesDown round packet) history t.packet (ever_taken-was w history t (rw left at among))
      | inl takes ↦
          elim (rw takes at among) [
            | inl same ↦ subst (λ (x : TakenDown). WasTaken (TakesDown round packet ∷ history) x.packet) same (WasTaken-now w round history packet takes)
            | inr before ↦ WasTaken-later w (TakesDown round packet) history t.packet (ever_taken-was w history t before)
          ]
    ]

pub WasMadeDown-later : (g : ℕ) (event : LaneEvent) (history : LaneHistory) (packet : DownPacket) → WasMadeDown g history packet → WasMadeDown g (event ∷ history) packet
WasMadeDown-later g (MakesDown round told) history packet made = inr made
WasMadeDown-later g (TakesUp round up) history packet made = made
WasMadeDown-later g (Records round) history packet made = made

pub ever_taken-made : (endpoints g : ℕ) (steps : List Step) (t : TakenDown) → ArrivesFromOther endpoints g steps → Among t (ever_taken (agent_of steps)) → WasMadeDown g (lane_of steps) t.packet
ever_taken-made endpoints g [] t arrives among = absurd among
ever_taken-made endpoints g (OfLane (MakesDown round told) ∷ steps) t arrives among = WasMadeDown-later g (MakesDown round told) (lane_of steps) t.packet (ever_taken-made endpoints g steps t arrives among)
ever_taken-made endpoints g (OfLane (TakesUp round up) ∷ steps) t arrives among = ever_taken-made endpoints g steps t arrives.1 among
ever_taken-made endpoints g (OfLane (Records round) ∷ steps) t arrives among = ever_taken-made endpoints g steps t arrives among
ever_taken-made endpoints g (OfAgent (Boots version) ∷ steps) t arrives among = ever_taken-made endpoints g steps t arrives among
ever_taken-made endpoints g (OfAgent (Asks dst slots) ∷ steps) t arrives among = ever_taken-made endpoints g steps t arrives among
ever_taken-made endpoints g (OfAgent MakesUp ∷ steps) t arrives among = ever_taken-made endpoints g steps t arrives among
ever_taken-made endpoints g (OfAgent (SendsDue round) ∷ steps) t arrives among = ever_taken-made endpoints g steps t arrives among
ever_taken-made endpoints g (OfAgent (TakesDown round packet) ∷ steps) t arrives among =
    elim (cases_Bool (agent.takes (agent_of steps) packet)) [
      | inr left ↦ ever_taken-made endpoints g steps t arrives.1 (rw left at among)
      | inl takes ↦
          elim (rw takes at among) [
            | inl same ↦ subst (λ (x : TakenDown). WasMadeDown g (lane_of steps) x.packet) same arrives.0
            | inr before ↦ ever_taken-made endpoints g steps t arrives.1 before
          ]
    ]

-- ---- earlier moments

pub arrives-before : (endpoints g : ℕ) (later earlier : List Step) → ArrivesFromOther endpoints g (later ++ earlier) → ArrivesFromOther endpoints g earlier
arrives-before endpoints g [] earlier arrives = arrives
arrives-before endpoints g (OfLane (MakesDown round told) ∷ later) earlier arrives = arrives-before endpoints g later earlier arrives
arrives-before endpoints g (OfLane (TakesUp round up) ∷ later) earlier arrives = arrives-before endpoints g later earlier arrives.1
arrives-before endpoints g (OfLane (Records round) ∷ later) earlier arrives = arrives-before endpoints g later earlier arrives
arrives-before endpoints g (OfAgent (Boots version) ∷ later) earlier arrives = arrives-before endpoints g later earlier arrives
arrives-before endpoints g (OfAgent (Asks dst slots) ∷ later) earlier arrives = arrives-before endpoints g later earlier arrives
arrives-before endpoints g (OfAgent MakesUp ∷ later) earlier arrives = arrives-before endpoints g later earlier arrives
arrives-before endpoints g (OfAgent (SendsDue round) ∷ later) earlier arrives = arrives-before endpoints g later earlier arrives
arrives-before endpoints g (OfAgent (TakesDown round packet) ∷ later) earlier arrives = arrives-before endpoints g later earlier arrives.1

pub issued-steps : (g : ℕ) (later earlier : List Step) (round : ℕ) → RoundsRise (lane_of (later ++ earlier)) → round < rounds_begun (lane_of earlier) →
    (issued g (lane_of (later ++ earlier)) round ≡ issued g (lane_of earlier) round) × (round < rounds_begun (lane_of (later ++ earlier))) × RoundsRise (lane_of earlier)
issued-steps g [] earlier round rise begun = (refl, begun, rise)
issued-steps g (OfAgent event ∷ later) earlier round rise begun = issued-steps g later earlier round rise begun
issued-steps g (OfLane event ∷ later) earlier round rise begun =
    let before = issued-steps g later earlier round (rise-before event (lane_of (later ++ earlier)) rise) begun in
    let grows = begun-later event (lane_of (later ++ earlier)) rise in
    let known = before.1 in
    (issued-later g event (lane_of (later ++ earlier)) round rise before.1 ∙ before.0, omega arith, before.2)

pub risen : (after before : List Step) → RoundsRise (lane_of (after ++ before)) → RoundsRise (lane_of before)
risen [] before r = r
risen (OfAgent event ∷ after) before r = risen after before r
risen (OfLane event ∷ after) before r = risen after before (rise-before event (lane_of (after ++ before)) r)

-- ---- the law

abbrev pub issue_of : ℕ → ℕ → Telling → Issue
issue_of epoch number content = record { epoch = epoch; number = number; content = content }

pub lost_is_never_taken_in : (w : Windows) → LostNumbersAreNeverTaken
lost_is_never_taken_in w endpoints g later earlier arrives rise lost is_lost some t among some_taken same =
    let steps = later ++ earlier in
    let made = ever_taken-made endpoints g steps t arrives among in
    let was = ever_taken-was w (agent_of steps) t among in
    let came = packet-came w g (lane_of steps) t.packet rise made some_taken in
    let here = came.issue in
    let j = ends_agree w endpoints g earlier (arrives-before endpoints g later earlier arrives) in
    let rose = risen later earlier rise in
    elim is_lost [
      | inr untold ↦
          let none = untold-came g (lane_of earlier) lost rose untold some in
          let moved = issued-steps g later earlier (lost.batch + 2 * g) rise none.1 in
          let that : issued g (lane_of steps) (t.packet.content.batch + 2 * g) ≡ None = ap (λ b. issued g (lane_of steps) (b + 2 * g)) same ∙ moved.0 ∙ none.0 in
          let clash : Some (issue_of t.packet.epoch t.packet.seq t.packet.content) ≡ None = sym here ∙ that in
          absurd (cc)
      | inl found ↦
          let from = content-came g (lane_of earlier) found.0 lost rose found.2 some in
          let moved = issued-steps g later earlier (lost.batch + 2 * g) rise from.begun in
          let that : issued g (lane_of steps) (t.packet.content.batch + 2 * g) ≡ Some (issue_of (lane.epoch_of (lane_of earlier)) found.0 lost) =
          ap (λ b. issued g (lane_of steps) (b + 2 * g)) same ∙ moved.0 ∙ from.issue in
          let both : Some (issue_of t.packet.epoch t.packet.seq t.packet.content) ≡ Some (issue_of (lane.epoch_of (lane_of earlier)) found.0 lost) = sym here ∙ that in
          let issues : issue_of t.packet.epoch t.packet.seq t.packet.content ≡ issue_of (lane.epoch_of (lane_of earlier)) found.0 lost = cc in
          let epoch : t.packet.epoch ≡ lane.epoch_of (lane_of earlier) = ap (λ (i : Issue). i.epoch) issues in
          let number : t.packet.seq ≡ found.0 = ap (λ (i : Issue). i.number) issues in
          let boot = until (lane.epoch_of (lane_of earlier)) (agent_of earlier) in
          let now = until (lane.epoch_of (lane_of earlier)) (agent_of steps) in
          let goes_on = (Extends-steps (lane.epoch_of (lane_of earlier)) later earlier j.epochs).0 in
          let v = agent.version_of boot in
          let missing : is_number_taken (reorder_of v) (agent.arrived boot) found.0 ≡ false = rw j.version at (j.down.lost found.0 found.1 found.3) in
          let far : found.0 + reorder_of v < highest (agent.arrived boot) = rw j.version at (j.down.for_good found.0 found.1 found.3) in
          let never : is_number_taken (reorder_of (agent.version_of now)) (agent.arrived now) found.0 ≡ false =
          rw (goes_on.arrived, goes_on.version) (w.for_good.never (reorder_of v) goes_on.more (agent.arrived boot) found.0 far missing) in
          let taken : is_number_taken (reorder_of (agent.version_of now)) (agent.arrived now) found.0 ≡ true =
          subst (λ (n : ℕ). is_number_taken (reorder_of (agent.version_of now)) (agent.arrived now) n ≡ true) number
          (subst (λ (e : ℕ). is_number_taken (reorder_of (agent.version_of (until e (agent_of steps)))) (agent.arrived (until e (agent_of steps))) t.packet.seq ≡ true) epoch was.1) in
          let clash : true ≡ false = sym taken ∙ never in
          absurd (cc)
    ]

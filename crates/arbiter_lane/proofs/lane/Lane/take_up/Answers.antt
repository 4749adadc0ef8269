use Rattle.std.proofs.Common.{◌≡◌, ◌≢◌, ◌<◌, ◌∷◌, ◌⊎◌, length, All, sym, ◌∙◌, ap, subst, inl, inr, arith}
use Rattle.std.specs.Result.{result_err}
use Rattle.std.specs.Vec.{with_items}
use Rattle.std.proofs.lemmas.List.Elements.{All-weaker}
use Rattle.ack_window.specs.declared.send_window.Unresolved.{Unresolved as UnresolvedNumber}
use Rattle.ack_window.specs.Windows.{Receiver}
use Rattle.fcp_framing.specs.declared.packet.Told.{Told as ToldSlot}
use Rattle.fcp_framing.specs.declared.packet.Up.{Up}
use Rattle.endpoint_history.specs.Packets.{Telling as TellingOf}
use Rattle.endpoint_history.specs.Packets.{Resets, Requests, up_packet}
use Rattle.endpoint_history.specs.Lane.{TakesUp, arrived, numbers}
use Rattle.arbiter_lane.specs.State.{LaneState, AreSlots}
use Rattle.arbiter_lane.specs.Standing.{LaneStandsFor}
use Rattle.arbiter_lane.specs.Refusals.{up_refusal}
use Rattle.arbiter_lane.specs.declared.refusal.UpRefused.TheVariants as refused
use Rattle.arbiter_lane.specs.contracts.lane.Lane.{the_view}
use Rattle.arbiter_lane.proofs.Held.{Become-written, open-told}
use Rattle.arbiter_lane.proofs.Hearing.{heard_lane, HearsRequest, HasHeardRequest, stands-heard, sound-heard, tells-heard}
use Rattle.arbiter_lane.proofs.Taking.{request_in, request-is, reset-is, version_rules, names_others, refusal-request, IfSome-then, stands-old_epoch, stands-version, stands-unsynced, stands-again}
use Rattle.arbiter_lane.proofs.Marking.{marked-written}
use Rattle.arbiter_lane.specs.Parts.{RisenAreMarked}
use Rattle.arbiter_lane.proofs.lane.Lane.take_up.Goals as goal

-- ---- what is refused, and a reset that comes again

pub returns-then-self-2-clause-stands : goal.returns-then-self-2-clause-stands
returns-then-self-2-clause-stands c = λ own history allocations stood.
    let was : LaneState = the_view c.self.inside in
    let stands = subst (λ (l : LaneState). LaneStandsFor l history allocations) (sym c.self.view_is) stood in
    subst (λ (up : Up). LaneStandsFor was (TakesUp c.args.round (up_packet up) ∷ history) allocations) c.in_default.ensures.read
    (stands-old_epoch c.lanes_count_slots.ensures.reading c.lanes_count_slots.ensures.resets was c.args.round c.decode_up.new.into history allocations c.if-self-2.true stands)

pub returns-then-not-self-clause-stands : goal.returns-then-not-self-clause-stands
returns-then-not-self-clause-stands c = λ own history allocations stood.
    let was : LaneState = the_view c.self.inside in
    let stands = subst (λ (l : LaneState). LaneStandsFor l history allocations) (sym c.self.view_is) stood in
    subst (λ (up : Up). LaneStandsFor was (TakesUp c.args.round (up_packet up) ∷ history) allocations) c.in_default.ensures.read
    (stands-unsynced c.lanes_count_slots.ensures.reading was c.args.round c.decode_up.new.into history allocations c.if-not-self.true c.if-self-3.true stands)

pub returns-then-self-4-clause-stands : goal.returns-then-self-4-clause-stands
returns-then-self-4-clause-stands c = λ own history allocations stood.
    let was : LaneState = the_view c.self.inside in
    let stands = subst (λ (l : LaneState). LaneStandsFor l history allocations) (sym c.self.view_is) stood in
    subst (λ (up : Up). LaneStandsFor was (TakesUp c.args.round (up_packet up) ∷ history) allocations) c.in_default.ensures.read
    (stands-version c.lanes_count_slots.ensures.reading c.lanes_count_slots.ensures.resets was c.args.round c.decode_up.new.into history allocations c.if-self-3.false c.if-self-4.true stands)

pub returns-then-self-5-clause-stands : goal.returns-then-self-5-clause-stands
returns-then-self-5-clause-stands c = λ own history allocations stood.
    let was : LaneState = the_view c.self.inside in
    let stands = subst (λ (l : LaneState). LaneStandsFor l history allocations) (sym c.self.view_is) stood in
    subst (λ (up : Up). LaneStandsFor was (TakesUp c.args.round (up_packet up) ∷ history) allocations) c.in_default.ensures.read
    (stands-again c.lanes_count_slots.ensures.resets was c.args.round c.decode_up.new.into history allocations c.if-self-5.true c.if-self-3.false stands)

-- ---- a reset

pub begin-requires-clause-epoch : goal.begin-requires-clause-epoch
begin-requires-clause-epoch c = c.if-self-3.true

pub begin-requires-clause-version : goal.begin-requires-clause-version
begin-requires-clause-version c = version_rules c.self.inside.endpoints c.args.bytes.now c.decode_up.new.into c.in_default.ensures.spelled

pub returns-then-self-3-clause-stands : goal.returns-then-self-3-clause-stands
returns-then-self-3-clause-stands c = λ own history allocations stood.
    let was : LaneState = the_view c.self.inside in
    let stands = subst (λ (l : LaneState). LaneStandsFor l history allocations) (sym c.self.view_is) stood in
    let now : was.round ≡ c.args.round = ap (λ (l : LaneState). l.round) c.self.view_is ∙ sym c.requires.round in
    subst (λ p. LaneStandsFor c.begin.new.self (TakesUp c.args.round p ∷ history) allocations) (sym (reset-is c.decode_up.new.into c.if-not-self.false) ∙ ap up_packet c.in_default.ensures.read)
    (subst (λ r. LaneStandsFor c.begin.new.self (TakesUp r (Resets c.decode_up.new.into.epoch c.decode_up.new.into.version) ∷ history) allocations) now (c.begin.ensures.stands history allocations stands))

-- ---- a request

pub take_request-requires-clause-stands : goal.take_request-requires-clause-stands
take_request-requires-clause-stands c = let before = c.self.invariant in (numbers c.self.inside.g before.1.0, before.1.2.sent)

pub take_request-requires-clause-destinations : goal.take_request-requires-clause-destinations
take_request-requires-clause-destinations c =
    let was : LaneState = the_view c.self.inside in
    let before = c.self.invariant in
    let lines = c.deref_mut.result.now in
    let long : was.endpoints ≡ length lines = sym before.0.as_many ∙ ap length (sym c.deref_mut.ensures.value) in
    open-told (λ (t : TellingOf). All (λ (slot : ToldSlot). slot.dst < length lines) t.told) was.sent (numbers was.g before.1.0) before.1.2.sent
    (All-weaker (λ (number : UnresolvedNumber TellingOf). AreSlots was.endpoints was.b was.endpoint number.content.told) (λ (number : UnresolvedNumber TellingOf). All (λ (slot : ToldSlot). slot.dst < length lines) number.content.told)
    (λ number slots. subst (λ n. All (λ (slot : ToldSlot). slot.dst < n) number.content.told) long slots.destinations) _ before.1.3)

pub invariant_of-self-2 : goal.invariant_of-self-2
invariant_of-self-2 c =
    let was : LaneState = the_view c.self.inside in
    let before = c.self.invariant in
    let up = c.decode_up.new.into in
    let heard_now = c.take_request.new.arrived in
    let sent = c.take_request.new.sent in
    let lines = (with_items c.self.inside.lines c.take_request.new.lines).items in
    let heard : HasHeardRequest was (request_in up) heard_now sent lines before.1.0 = record {
      epoch = omega (arith, c.if-self-2.false, c.if-self-3.false);
      version = c.if-self-4.false;
      heard_version = before.0.heard_version;
      sent_version = before.0.sent_version;
      arrived_version = c.take_request.ensures.arrived_version;
      now_version = c.take_request.ensures.version;
      heard = c.take_request.ensures.arrived (arrived before.1.0) before.1.2.arrived;
      done = c.take_request.ensures.sent (numbers was.g before.1.0) before.1.2.sent;
      change = Become-written (HearsRequest was before.1.0 (request_in up)) c.self.inside.lines c.deref_mut.result.now c.take_request.new.lines c.deref_mut.ensures.value
          (c.take_request.ensures.lines (arrived before.1.0) (numbers was.g before.1.0) before.1.2.arrived before.1.2.sent);
    } in
    let names = names_others was was.endpoints c.args.bytes.now up c.in_default.ensures.spelled c.if-self-5.false c.if-self.false in (
      sound-heard c.lanes_count_slots.ensures.reading c.lanes_count_slots.ensures.sums was c.args.round (request_in up) heard_now sent lines before.1.0 before.1.1 heard names
          c.take_request.ensures.newest before.1.2 before.1.3 before.0,
      (
        TakesUp c.args.round (Requests (request_in up)) ∷ before.1.0,
        before.1.1,
        stands-heard c.lanes_count_slots.ensures.reading was c.args.round (request_in up) heard_now sent lines before.1.0 before.1.1 heard before.1.2,
        tells-heard was c.args.round (request_in up) heard_now sent lines before.1.0 before.1.3,
      ),
      marked-written c.take_request.new.risen c.self.inside.lines c.deref_mut.result.now c.take_request.new.lines c.deref_mut.ensures.value
          (c.take_request.ensures.lines (arrived before.1.0) (numbers was.g before.1.0) before.1.2.arrived before.1.2.sent).as_many
          (c.take_request.ensures.marked (subst (RisenAreMarked c.self.inside.risen) (sym c.deref_mut.ensures.value) before.2)),
    )

pub returns-clause-answer : goal.returns-clause-answer
returns-clause-answer c = λ history allocations stood.
    let was : LaneState = the_view c.self.inside in
    let stands = subst (λ (l : LaneState). LaneStandsFor l history allocations) (sym c.self.view_is) stood in
    let up = c.decode_up.new.into in
    c.take_request.ensures.answer (arrived history) stands.arrived
    ∙ (sym (refusal-request was c.args.bytes.now up history allocations (sym c.in_default.ensures.refused) c.in_default.ensures.read c.if-self.false (omega (arith, c.if-self-2.false, c.if-self-3.false)) c.if-self-4.false c.if-self-5.false c.self.invariant.0.heard_version stands)
    ∙ ap (λ (l : LaneState). up_refusal l.endpoint l.endpoints history c.args.bytes.now) c.self.view_is)

pub returns-clause-unchanged : goal.returns-clause-unchanged
returns-clause-unchanged c =
    let was : LaneState = the_view c.self.inside in
    let lines = (with_items c.self.inside.lines c.take_request.new.lines).items in
    IfSome-then (λ refusal. (refusal ≡ refused.OldSeq) ⊎ (refusal ≡ refused.Repeat))
    (λ refusal. refusal ≢ refused.OldSeq → refusal ≢ refused.Repeat → heard_lane was c.take_request.new.arrived c.take_request.new.sent lines ≡ c.args.self.now) (result_err c.take_request.result) c.take_request.ensures.refused
    (λ refusal either old repeat. elim either [
      | inl is ↦ absurd (old is)
      | inr is ↦ absurd (repeat is)
    ])

pub returns-clause-kept : goal.returns-clause-kept
returns-clause-kept c =
    let was : LaneState = the_view c.self.inside in
    let sent = c.take_request.new.sent in
    let lines = (with_items c.self.inside.lines c.take_request.new.lines).items in
    IfSome-then (λ refusal. c.take_request.new.arrived ≡ was.arrived) (λ refusal. heard_lane was c.take_request.new.arrived sent lines ≡ record c.args.self.now { sent = sent; lines = lines }) (result_err c.take_request.result) c.take_request.ensures.unheard
    (λ refusal same. ap (λ (r : Receiver). heard_lane was r sent lines) same ∙ ap (λ (l : LaneState). record l { sent = sent; lines = lines }) c.self.view_is)

pub returns-clause-stands : goal.returns-clause-stands
returns-clause-stands c = λ own history allocations stood.
    let was : LaneState = the_view c.self.inside in
    let before = c.self.invariant in
    let stands = subst (λ (l : LaneState). LaneStandsFor l history allocations) (sym c.self.view_is) stood in
    let up = c.decode_up.new.into in
    let heard_now = c.take_request.new.arrived in
    let sent = c.take_request.new.sent in
    let lines = (with_items c.self.inside.lines c.take_request.new.lines).items in
    let heard : HasHeardRequest was (request_in up) heard_now sent lines history = record {
      epoch = omega (arith, c.if-self-2.false, c.if-self-3.false);
      version = c.if-self-4.false;
      heard_version = before.0.heard_version;
      sent_version = before.0.sent_version;
      arrived_version = c.take_request.ensures.arrived_version;
      now_version = c.take_request.ensures.version;
      heard = c.take_request.ensures.arrived (arrived history) stands.arrived;
      done = c.take_request.ensures.sent (numbers was.g history) stands.sent;
      change = Become-written (HearsRequest was history (request_in up)) c.self.inside.lines c.deref_mut.result.now c.take_request.new.lines c.deref_mut.ensures.value
          (c.take_request.ensures.lines (arrived history) (numbers was.g history) stands.arrived stands.sent);
    } in
    let stands_now = stands-heard c.lanes_count_slots.ensures.reading was c.args.round (request_in up) heard_now sent lines history allocations heard stands in
    subst (λ p. LaneStandsFor (heard_lane was heard_now sent lines) (TakesUp c.args.round p ∷ history) allocations) (sym (request-is up c.if-self-5.false) ∙ ap up_packet c.in_default.ensures.read) stands_now

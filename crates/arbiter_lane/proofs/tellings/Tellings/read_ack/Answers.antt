use Rattle.std.proofs.Common.{◌≡◌, ◌<◌, List, length, map, All, ◌∙◌, ap, sym, subst, refl, rules, arith, [], ◌∷◌}
use Rattle.fcp_framing.specs.declared.packet.Told.{Told as ToldSlot}
use Rattle.ack_window.specs.declared.acknowledgement.Acknowledgement.{Acknowledgement}
use Rattle.ack_window.specs.declared.send_window.Decided.{Decided as DecidedNumber}
use Rattle.ack_window.specs.Sends.{Event, decided_by}
use Rattle.ack_window.specs.Steps.{decided_for, SendersGoOnByStep}
use Rattle.ack_window.specs.Versions.{reorder_of, span_of}
use Rattle.ack_window.specs.Windows.{Sender, HasDone}
use Rattle.endpoint_history.specs.Packets.{Telling as TellingOf}
use Rattle.arbiter_lane.specs.Lines.{Become, DecidesSlots, slots_shown, slots_lost}
use Rattle.arbiter_lane.specs.Places.{TellingPlaces, decided_with, with_contents}
use Rattle.arbiter_lane.proofs.Carrying.{found-is, goes-on-read}
use Rattle.arbiter_lane.proofs.Reading.{decided-all, decided-in_flight, one-in_flight}
use Rattle.arbiter_lane.proofs.tellings.Tellings.read_ack.Goals as goal

-- what the numbers that are found have at their places is what clauses say that is decided
found-now : (law : SendersGoOnByStep TellingOf) (places read : TellingPlaces) (sent : Sender (Unit {0})) (now : Sender TellingOf) (ack : Acknowledgement) (found : List (DecidedNumber (Unit {0}))) (events : List (Event TellingOf)) →
    read ≡ places → found ≡ decided_for sent ack → with_contents places sent ≡ now → HasDone now events →
    map (decided_with read) found ≡ decided_by (reorder_of now.version) (span_of now.version) events ack
found-now law places read sent now ack found events is_read is_found is_now done =
    ap (λ xs. map (decided_with xs) found) is_read
    ∙ subst (λ (w : Sender TellingOf). map (decided_with places) found ≡ decided_by (reorder_of w.version) (span_of w.version) events ack) is_now
    (found-is law places sent ack found events is_found (subst (λ (w : Sender TellingOf). HasDone w events) (sym is_now) done))

pub decide-requires-clause-destinations : goal.decide-requires-clause-destinations
decide-requires-clause-destinations c =
    let stands = c.requires.stands in
    let a : Acknowledgement = record { high = c.args.high; mask = c.args.mask } in
    let kept : c.take_only.new.self ≡ c.self.inside.sent = search rules in
    decided-all (λ (t : TellingOf). All (λ (slot : ToldSlot). slot.dst < length c.args.lines.now) t.told) c.args.self.now stands.0 a _ stands.1
    (found-now c.senders_go_on_by_step.ensures c.self.inside.places c.self.inside.places c.take_only.new.self c.args.self.now a c.as_slice.result.now stands.0 refl (c.as_slice.ensures.value ∙ c.read_ack.ensures.found)
    (ap (with_contents c.self.inside.places) kept ∙ c.self.view_is) stands.1)
    c.requires.destinations

pub decide-requires-clause-in_flight : goal.decide-requires-clause-in_flight
decide-requires-clause-in_flight c =
    let stands = c.requires.stands in
    let a : Acknowledgement = record { high = c.args.high; mask = c.args.mask } in
    let kept : c.take_only.new.self ≡ c.self.inside.sent = search rules in
    decided-in_flight c.readings_move_what_they_decide.ensures.moved c.args.self.now stands.0 a _ c.args.lines.now stands.1
    (found-now c.senders_go_on_by_step.ensures c.self.inside.places c.self.inside.places c.take_only.new.self c.args.self.now a c.as_slice.result.now stands.0 refl (c.as_slice.ensures.value ∙ c.read_ack.ensures.found)
    (ap (with_contents c.self.inside.places) kept ∙ c.self.view_is) stands.1)
    c.requires.in_flight

pub returns-clause-lines : goal.returns-clause-lines
returns-clause-lines c = λ events done.
    let a : Acknowledgement = record { high = c.args.high; mask = c.args.mask } in
    let kept : c.take_only.new.self ≡ c.self.inside.sent = search rules in
    subst (λ (found : List (DecidedNumber TellingOf)). Become (λ dst. DecidesSlots (slots_shown found dst) (slots_lost found dst)) c.args.lines.now c.decide.new.lines)
    (found-now c.senders_go_on_by_step.ensures c.self.inside.places c.self.inside.places c.take_only.new.self c.args.self.now a c.as_slice.result.now events refl (c.as_slice.ensures.value ∙ c.read_ack.ensures.found)
    (ap (with_contents c.self.inside.places) kept ∙ c.self.view_is) done)
    c.decide.ensures.decided

pub returns-clause-sent : goal.returns-clause-sent
returns-clause-sent c = λ events done.
    let kept : c.take_only.new.self ≡ c.self.inside.sent = search rules in
    let before = subst (λ (w : Sender TellingOf). HasDone w events) (sym (ap (with_contents c.self.inside.places) kept ∙ c.self.view_is)) done in
    goes-on-read c.senders_go_on_by_step.ensures c.self.inside.places c.take_only.new.self c.read_ack.new.self (record { high = c.args.high; mask = c.args.mask }) events c.read_ack.ensures.step before

-- a number that is taken out alone
pub decide_one-requires-clause-destinations : goal.decide_one-requires-clause-destinations
decide_one-requires-clause-destinations c =
    let stands = c.requires.stands in
    let a : Acknowledgement = record { high = c.args.high; mask = c.args.mask } in
    let number = decided_with c.self.inside.places c.in-Some.number in
    decided-all (λ (t : TellingOf). All (λ (slot : ToldSlot). slot.dst < length c.args.lines.now) t.told) c.args.self.now stands.0 a (number ∷ []) stands.1
    (found-now c.senders_go_on_by_step.ensures c.self.inside.places c.self.inside.places c.self.inside.sent c.args.self.now a (c.in-Some.number ∷ []) stands.0 refl (c.in-Some.ensures.found c.args.mask) c.self.view_is stands.1)
    c.requires.destinations 0 number (omega arith)

pub decide_one-requires-clause-in_flight : goal.decide_one-requires-clause-in_flight
decide_one-requires-clause-in_flight c =
    let stands = c.requires.stands in
    let a : Acknowledgement = record { high = c.args.high; mask = c.args.mask } in
    let number = decided_with c.self.inside.places c.in-Some.number in
    one-in_flight number c.args.lines.now
    (decided-in_flight c.readings_move_what_they_decide.ensures.moved c.args.self.now stands.0 a (number ∷ []) c.args.lines.now stands.1
    (found-now c.senders_go_on_by_step.ensures c.self.inside.places c.self.inside.places c.self.inside.sent c.args.self.now a (c.in-Some.number ∷ []) stands.0 refl (c.in-Some.ensures.found c.args.mask) c.self.view_is stands.1)
    c.requires.in_flight)

pub returns-in-Some-clause-lines : goal.returns-in-Some-clause-lines
returns-in-Some-clause-lines c = λ events done.
    let a : Acknowledgement = record { high = c.args.high; mask = c.args.mask } in
    subst (λ (found : List (DecidedNumber TellingOf)). Become (λ dst. DecidesSlots (slots_shown found dst) (slots_lost found dst)) c.args.lines.now c.decide_one.new.lines)
    (found-now c.senders_go_on_by_step.ensures c.self.inside.places c.self.inside.places c.self.inside.sent c.args.self.now a (c.in-Some.number ∷ []) events refl (c.in-Some.ensures.found c.args.mask) c.self.view_is done)
    c.decide_one.ensures.decided

pub returns-in-Some-clause-sent : goal.returns-in-Some-clause-sent
returns-in-Some-clause-sent c = λ events done.
    let before = subst (λ (w : Sender TellingOf). HasDone w events) (sym c.self.view_is) done in
    goes-on-read c.senders_go_on_by_step.ensures c.self.inside.places c.self.inside.sent c.take_only.new.self (record { high = c.args.high; mask = c.args.mask }) events (c.in-Some.ensures.step c.args.mask) before

use Rattle.std.proofs.Common.{◌∙◌, sym, subst}
use Rattle.ack_window.specs.Windows.{Sender, HasDone, MaySend}
use Rattle.endpoint_history.specs.Packets.{Telling as TellingOf}
use Rattle.arbiter_lane.proofs.Carrying.{begun-with, goes-on-told}
use Rattle.arbiter_lane.proofs.tellings.Tellings.push.Goals as goal

pub returns-clause-stands : goal.returns-clause-stands
returns-clause-stands c = λ history stands.
    let sent = c.self.inside.sent in
    let new : TellingOf = record { batch = c.args.batch; told = c.args.told.now } in
    let begun = begun-with c.is_settled-is_settled.result c.self.inside.places c.choose_place.new.self sent c.choose_place.ensures.kept c.is_settled-is_settled.ensures.0 ∙ c.self.view_is in
    let before = subst (λ (w : Sender TellingOf). HasDone w history) (sym begun) stands in
    let may = subst (λ (w : Sender TellingOf). MaySend w) (sym begun) c.requires.may_send in
    goes-on-told c.senders_go_on_by_step.ensures c.choose_place.new.self c.put.new.self sent c.push-number.new.self c.push-number.result new history c.put.ensures.long c.push-number.ensures.number c.push-number.ensures.step c.put.ensures.written c.push-number.ensures.near may before

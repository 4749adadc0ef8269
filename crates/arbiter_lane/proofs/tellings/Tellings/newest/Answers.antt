use Rattle.std.proofs.Common.{Some, ◌∙◌, ap, sym, subst}
use Rattle.ack_window.specs.Windows.{Sender, HasDone, MaySend}
use Rattle.endpoint_history.specs.Packets.{Telling as TellingOf}
use Rattle.arbiter_lane.specs.Places.{telling_at}
use Rattle.arbiter_lane.proofs.Carrying.{newest-with}
use Rattle.arbiter_lane.proofs.tellings.Tellings.newest.Goals as goal

pub returns-clause-content : goal.returns-clause-content
returns-clause-content c = λ history stands.
    let places = c.self.inside.places in
    let before = subst (λ (w : Sender TellingOf). HasDone w history) (sym c.self.view_is) stands in
    let full = subst (λ (w : Sender TellingOf). ¬ MaySend w) (sym c.self.view_is) c.requires in
    newest-with c.senders_go_on_by_step.ensures places c.self.inside.sent history full c.newest-number.ensures.last before
    ∙ ap Some (ap (telling_at places) (sym c.newest-number.ensures.number) ∙ sym c.at.ensures)

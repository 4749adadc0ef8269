use Rattle.std.proofs.Common.{◌≡◌, ◌∷◌, sym, ◌∙◌, ap, subst, rules}
use Rattle.ack_window.specs.declared.acknowledgement.Acknowledgement.{Acknowledgement}
use Rattle.ack_window.specs.Sends.{Reads}
use Rattle.ack_window.specs.Windows.{Sender, HasDone}
use Rattle.endpoint_agent.specs.Carrying.{greatest_shown}
use Rattle.endpoint_agent.proofs.agent.read_ack.Goals as goal

pub returns-in-Some-clause-acknowledged : goal.returns-in-Some-clause-acknowledged
returns-in-Some-clause-acknowledged c = λ events done.
    let a : Acknowledgement = record { high = c.args.down.now.high; mask = c.args.down.now.mask } in
    c.greater_of.ensures
    ∙ ap (greatest_shown c.args.acknowledged) (c.in-Some.ensures.found c.args.down.now.mask ∙ sym (c.senders_go_on_by_step.ensures.decided c.args.sent.now a events done))

pub returns-in-Some-clause-stands : goal.returns-in-Some-clause-stands
returns-in-Some-clause-stands c = λ events done.
    let a : Acknowledgement = record { high = c.args.down.now.high; mask = c.args.down.now.mask } in
    subst (λ (w : Sender (Unit {0})). HasDone w (Reads a ∷ events)) (sym (c.in-Some.ensures.step c.args.down.now.mask)) (c.senders_go_on_by_step.ensures.reads c.args.sent.now a events done)

pub returns-clause-stands : goal.returns-clause-stands
returns-clause-stands c = λ events done.
    let kept : c.take_only.new.self ≡ c.args.sent.now = search rules in
    c.read_ack.ensures.stands events (subst (λ (w : Sender (Unit {0})). HasDone w events) (sym kept) done)

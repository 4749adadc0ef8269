use Rattle.std.proofs.Common.{ℕ, subst}
use Rattle.front_desk.specs.State.{AreOpened}
use Rattle.receive_text.proofs.Opening.{open_for}
use Rattle.receive_text.proofs.receive.open_for.Goals as goal

pub returns : goal.returns
returns c =
    let opened = subst (λ (n : ℕ). AreOpened n 8 8 c.most_put-room.result c.in_ok-desk.desk c.in_ok-desk.seats) c.endpoints.ensures.number c.in_ok-desk.ensures in
    open_for c.args.trace.now c.most_put-room.result c.most_put-room.ensures c.in_ok-desk.desk c.in_ok-desk.seats c.in_ok-to_fill.field-0.items opened c.in_ok-to_fill.ensures

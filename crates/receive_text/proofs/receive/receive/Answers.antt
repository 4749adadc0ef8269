use Rattle.std.proofs.Common.{◌≡◌, true, All, sym, ◌∙◌, subst}
use Rattle.front_desk.proofs.Polls.{polled-length}
use Rattle.receive_text.specs.declared.filling.Filling.{Filling}
use Rattle.receive_text.specs.Received.{HasReceived}
use Rattle.receive_text.proofs.Filled.{filled-seated, filled-put, polled-windows}
use Rattle.receive_text.proofs.Recording.{entries-received, recorded-received}
use Rattle.receive_text.proofs.receive.receive.Goals as goal

pub close_all-requires : goal.close_all-requires
close_all-requires g c =
    let enough : All (λ (filling : Filling). filling.enough ≡ true) c.fill_beside.new.fillings.items = rw c.deref.ensures.value at (c.are_enough.ensures.0 c.if-not-are_enough.false) in
    filled-seated c.in_ok-desk.desk c.fill_beside.new.desk c.fill_beside.ensures.polled c.args.trace.now c.in_ok-desk.fillings.items c.fill_beside.new.fillings.items c.fill_beside.ensures.filled enough c.in_ok-desk.ensures.seats

pub returns-clause-received : goal.returns-clause-received
returns-clause-received g c =
    let trace = c.args.trace.now in
    let enough : All (λ (filling : Filling). filling.enough ≡ true) c.fill_beside.new.fillings.items = rw c.deref.ensures.value at (c.are_enough.ensures.0 c.if-not-are_enough.false) in
    let put = filled-put c.in_ok-desk.desk c.fill_beside.new.desk c.fill_beside.ensures.polled trace c.in_ok-desk.fillings.items c.fill_beside.new.fillings.items c.fill_beside.ensures.filled enough in
    let windows = polled-windows c.in_ok-desk.desk c.fill_beside.new.desk c.fill_beside.ensures.polled c.in_ok-desk.ensures.windows in
    let endpoints = polled-length c.in_ok-desk.desk c.fill_beside.new.desk c.fill_beside.ensures.polled ∙ c.in_ok-desk.ensures.endpoints in
    subst (HasReceived trace) (sym c.in_ok-record.ensures.recorded) (recorded-received trace c.close_all.new.desk (c.close_all.ensures.received trace windows endpoints put))

pub returns-clause-recorded : goal.returns-clause-recorded
returns-clause-recorded g c =
    let trace = c.args.trace.now in
    let enough : All (λ (filling : Filling). filling.enough ≡ true) c.fill_beside.new.fillings.items = rw c.deref.ensures.value at (c.are_enough.ensures.0 c.if-not-are_enough.false) in
    let put = filled-put c.in_ok-desk.desk c.fill_beside.new.desk c.fill_beside.ensures.polled trace c.in_ok-desk.fillings.items c.fill_beside.new.fillings.items c.fill_beside.ensures.filled enough in
    let windows = polled-windows c.in_ok-desk.desk c.fill_beside.new.desk c.fill_beside.ensures.polled c.in_ok-desk.ensures.windows in
    let endpoints = polled-length c.in_ok-desk.desk c.fill_beside.new.desk c.fill_beside.ensures.polled ∙ c.in_ok-desk.ensures.endpoints in
    c.in_ok-record.ensures.entries ∙ entries-received trace c.close_all.new.desk (c.close_all.ensures.received trace windows endpoints put)

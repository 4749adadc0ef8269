use Rattle.front_desk.proofs.Twos.{opened}
use Rattle.front_desk.proofs.tests.open_for_two.Goals as goal

pub returns-clause-seats : goal.returns-clause-seats
returns-clause-seats g c =
    (opened c.in_ok-desk.desk c.in_ok-desk.seats c.pop-second.new.self c.pop-first.new.self c.in-Some-Some.first c.in-Some-Some.second c.pop-first.result c.pop-second.result c.in_ok-desk.ensures
    c.pop-second.ensures.seat c.pop-first.ensures.seat c.in-Some-Some.is-0 c.in-Some-Some.is-1).0

pub returns-clause-none : goal.returns-clause-none
returns-clause-none g c =
    let it = opened c.in_ok-desk.desk c.in_ok-desk.seats c.pop-second.new.self c.pop-first.new.self c.in-Some-Some.first c.in-Some-Some.second c.pop-first.result c.pop-second.result c.in_ok-desk.ensures
    c.pop-second.ensures.seat c.pop-first.ensures.seat c.in-Some-Some.is-0 c.in-Some-Some.is-1 in
    it.1

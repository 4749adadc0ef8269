use Rattle.std.proofs.Common.{length, ap, refl}
use Rattle.front_desk.proofs.Twos.{second-line, after-second, first-line, after-first, all-closed, closed_line}
use Rattle.front_desk.proofs.tests.close_both.Goals as goal

pub close-requires-clause-seat : goal.close-requires-clause-seat
close-requires-clause-seat c =
    let are = c.requires in
    (are.other, second-line c.args.desk.now c.args.first c.args.second are, are.second_seat, are.second_open)

pub close-requires-2-clause-seat : goal.close-requires-2-clause-seat
close-requires-2-clause-seat c =
    let are = c.requires in
    let lines = after-second c.args.desk.now c.close.new.self c.args.first c.args.second are (c.close.ensures are.other (second-line c.args.desk.now c.args.first c.args.second are)).1 in
    (are.one, first-line c.close.new.self c.args.first.endpoint are.one (closed_line are.other c.args.second) are.first_is lines, are.first_seat, are.first_open)

pub returns-clause-closed : goal.returns-clause-closed
returns-clause-closed c =
    let are = c.requires in
    let other = closed_line are.other c.args.second in
    let lines = after-second c.args.desk.now c.close.new.self c.args.first c.args.second are (c.close.ensures are.other (second-line c.args.desk.now c.args.first c.args.second are)).1 in
    let at = first-line c.close.new.self c.args.first.endpoint are.one other are.first_is lines in
    all-closed c.close-2.new.self (closed_line are.one c.args.first) other (after-first c.close.new.self c.close-2.new.self c.args.first.endpoint are.one other _ are.first_is lines (c.close-2.ensures are.one at).1) refl refl

pub returns-clause-two : goal.returns-clause-two
returns-clause-two c =
    let are = c.requires in
    let other = closed_line are.other c.args.second in
    let lines = after-second c.args.desk.now c.close.new.self c.args.first c.args.second are (c.close.ensures are.other (second-line c.args.desk.now c.args.first c.args.second are)).1 in
    let at = first-line c.close.new.self c.args.first.endpoint are.one other are.first_is lines in
    ap length (after-first c.close.new.self c.close-2.new.self c.args.first.endpoint are.one other _ are.first_is lines (c.close-2.ensures are.one at).1)

use Rattle.std.proofs.Common.{◌≡◌, ◌≤◌, ◌+◌, ◌*◌, length, get_or, arith}
use Rattle.schedule_audit.proofs.FrontLines.{ends_at, first_one, one_more}
use Rattle.schedule_audit.proofs.front.field_before.Goals as goal

pub returns-then-text-end : goal.returns-then-text-end
returns-then-text-end c =
    let text = c.args.text.now in
    let one = c.in_ok-one.one in
    let five : 5 ≤ length text = omega (arith, c.if-text-lt5.false) in
    let front = first_one text one (omega (arith, five)) c.in_ok-one.ensures.0 c.in_ok-one.ensures.1 in
    let end : get_or text 1 0 ≡ c.args.end = omega (arith, c.if-text-end.true) in
    (ends_at text c.behind.result.now 1 one c.args.end front end c.behind.ensures, omega (arith, c.in_ok-one.ensures.1, c.requires.four))

pub returns-then-text-end-2 : goal.returns-then-text-end-2
returns-then-text-end-2 c =
    let text = c.args.text.now in
    let one = c.in_ok-one.one in
    let more = c.in_ok-two.field-0 in
    let five : 5 ≤ length text = omega (arith, c.if-text-lt5.false) in
    let some : 1 ≤ one = omega (arith, c.if-one-eq0.false) in
    let first = first_one text one (omega (arith, five)) c.in_ok-one.ensures.0 c.in_ok-one.ensures.1 in
    let front = one_more text 1 one more (omega (arith, five)) first some (omega (arith, c.in_ok-one.ensures.1)) c.in_ok-two.ensures.1 c.in_ok-two.ensures.0 in
    let end : get_or text 2 0 ≡ c.args.end = omega (arith, c.if-text-end-2.true) in
    (ends_at text c.behind-then-text-end-2.result.now 2 (one * 10 + more) c.args.end front end c.behind-then-text-end-2.ensures, omega (arith, c.in_ok-one.ensures.1, c.in_ok-two.ensures.1, c.requires.four))

pub returns-then-text-end-3 : goal.returns-then-text-end-3
returns-then-text-end-3 c =
    let text = c.args.text.now in
    let one = c.in_ok-one.one in
    let more = c.in_ok-two.field-0 in
    let third = c.in_ok-three.field-0 in
    let two = one * 10 + more in
    let five : 5 ≤ length text = omega (arith, c.if-text-lt5.false) in
    let some : 1 ≤ one = omega (arith, c.if-one-eq0.false) in
    let few : two ≤ 99 = omega (arith, c.in_ok-one.ensures.1, c.in_ok-two.ensures.1) in
    let first = first_one text one (omega (arith, five)) c.in_ok-one.ensures.0 c.in_ok-one.ensures.1 in
    let second = one_more text 1 one more (omega (arith, five)) first some (omega (arith, c.in_ok-one.ensures.1)) c.in_ok-two.ensures.1 c.in_ok-two.ensures.0 in
    let front = one_more text 2 two third (omega (arith, five)) second (omega (arith, some)) (omega (arith, few)) c.in_ok-three.ensures.1 c.in_ok-three.ensures.0 in
    let end : get_or text 3 0 ≡ c.args.end = omega (arith, c.if-text-end-3.true) in
    (ends_at text c.behind-then-text-end-3.result.now 3 (two * 10 + third) c.args.end front end c.behind-then-text-end-3.ensures, omega (arith, few, c.in_ok-three.ensures.1, c.requires.four))

pub returns-then-text-end-4 : goal.returns-then-text-end-4
returns-then-text-end-4 c =
    let text = c.args.text.now in
    let one = c.in_ok-one.one in
    let more = c.in_ok-two.field-0 in
    let third = c.in_ok-three.field-0 in
    let last = c.in_ok-four.field-0 in
    let two = one * 10 + more in
    let three = two * 10 + third in
    let five : 5 ≤ length text = omega (arith, c.if-text-lt5.false) in
    let some : 1 ≤ one = omega (arith, c.if-one-eq0.false) in
    let few : two ≤ 99 = omega (arith, c.in_ok-one.ensures.1, c.in_ok-two.ensures.1) in
    let fewer : three ≤ 999 = omega (arith, few, c.in_ok-three.ensures.1) in
    let first = first_one text one (omega (arith, five)) c.in_ok-one.ensures.0 c.in_ok-one.ensures.1 in
    let second = one_more text 1 one more (omega (arith, five)) first some (omega (arith, c.in_ok-one.ensures.1)) c.in_ok-two.ensures.1 c.in_ok-two.ensures.0 in
    let fore = one_more text 2 two third (omega (arith, five)) second (omega (arith, some)) (omega (arith, few)) c.in_ok-three.ensures.1 c.in_ok-three.ensures.0 in
    let front = one_more text 3 three last (omega (arith, five)) fore (omega (arith, some)) (omega (arith, fewer)) c.in_ok-four.ensures.1 c.in_ok-four.ensures.0 in
    let end : get_or text 4 0 ≡ c.args.end = omega (arith, c.if-text-end-4.true) in
    (ends_at text c.behind-then-text-end-4.result.now 4 (three * 10 + last) c.args.end front end c.behind-then-text-end-4.ensures, omega (arith, fewer, c.in_ok-four.ensures.1, c.requires.four))

use Rattle.std.proofs.Common.{◌<◌, ◌∙◌, length, rules}
use Rattle.fastpass_run.proofs.PlainNumbers.{BeginsPlain, no_number, some_number, number_bounds}
use Rattle.fastpass_run.proofs.words.plain_number.Goals as goal

pub returns-in_default-clause-number : goal.returns-in_default-clause-number
returns-in_default-clause-number c =
    let word = c.args.word.now in
    let plain : BeginsPlain word = (rw (← c.as_bytes-bytes.ensures.value) c.if-bytes-lt49.false, rw (← c.as_bytes-bytes.ensures.value) c.if-bytes-gt57.false) in
    let some : 0 < length word = search rules in
    no_number c.args.most word c.in_default.field-0 plain some c.ranges.most.fits c.in_default.ensures.value.0

pub returns-clause-number : goal.returns-clause-number
returns-clause-number c =
    let word = c.args.word.now in
    let plain : BeginsPlain word = (rw (← c.as_bytes-bytes.ensures.value) c.if-bytes-lt49.false, rw (← c.as_bytes-bytes.ensures.value) c.if-bytes-gt57.false) in
    c.then_some.ensures ∙ some_number c.args.most c.in-Ok.n word plain c.in-Ok.ensures.value.0

pub returns-clause-within : goal.returns-clause-within
returns-clause-within c =
    let word = c.args.word.now in
    let plain : BeginsPlain word = (rw (← c.as_bytes-bytes.ensures.value) c.if-bytes-lt49.false, rw (← c.as_bytes-bytes.ensures.value) c.if-bytes-gt57.false) in
    rw c.then_some.ensures (number_bounds c.args.most c.in-Ok.n word plain c.in-Ok.ensures.value.0)

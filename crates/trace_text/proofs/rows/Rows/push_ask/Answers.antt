use Rattle.trace_text.proofs.rows.Rows.push_ask.Goals as goal

pub add_ask-requires-clause-stands : goal.add_ask-requires-clause-stands
add_ask-requires-clause-stands c = (c.requires.stands.0, c.in_ok-turn_to.ensures.stands c.requires.stands.0 c.requires.stands.1)

pub add_ask-requires-clause-allowed : goal.add_ask-requires-clause-allowed
add_ask-requires-clause-allowed c =
    let (net, round, count, totals) = c.in_ok-turn_to.ensures.same in
    rw (net, round, totals) c.requires.allowed

pub returns : goal.returns
returns c = λ before s. c.add_ask.ensures.rows before (c.in_ok-turn_to.ensures.stands before s)

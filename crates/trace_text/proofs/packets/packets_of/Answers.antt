use Rattle.std.proofs.Common.{◌≡◌, ℕ, ◌+◌, ◌*◌, filter, ap, ◌∙◌, arith}
use Rattle.list_facts.proofs.Lists.{filter-few}
use Rattle.trace_text.specs.Events.{packet_rank}
use Rattle.trace_text.specs.Ranks.{has_rank_in}
use Rattle.trace_text.proofs.EventFacts.{packets-of}
use Rattle.trace_text.proofs.packets.packets_of.Goals as goal

pub returns-clause-packets : goal.returns-clause-packets
returns-clause-packets c =
    let (keys, are, low) = c.requires.starts in
    let key = c.args.key in
    let from : key * 1 ≡ key = omega arith in
    let to : (key + 1) * 1 ≡ key + 1 = omega arith in
    c.of_round.ensures.part 1 keys are low
    ∙ (ap (λ (from : ℕ). filter (has_rank_in packet_rank from ((key + 1) * 1)) c.args.packets.now) from
    ∙ (ap (λ (to : ℕ). filter (has_rank_in packet_rank key to) c.args.packets.now) to ∙ packets-of c.args.packets.now key))

pub returns-clause-few : goal.returns-clause-few
returns-clause-few c =
    let (keys, are, low) = c.requires.starts in
    rw (c.of_round.ensures.part 1 keys are low) (filter-few (has_rank_in packet_rank (c.args.key * 1) ((c.args.key + 1) * 1)) c.args.packets.now)

use Rattle.std.proofs.Common.{length, ap, arith}
use Rattle.std.proofs.lemmas.List.{length-replicate}
use Rattle.greedy_rules.proofs.TableLemmas.{nobody}
use Rattle.greedy_rules.proofs.NamedCells.{named_within, emptied}
use Rattle.greedy_rules.proofs.rows.empty_row.Goals as goal

pub write_named-requires-clause-within : goal.write_named-requires-clause-within
write_named-requires-clause-within c = λ place named.
    let row = c.args.row.now in
    let within = named_within row c.args.senders.now place c.requires.senders named in
    (within, omega (arith, within, ap length c.requires.idle, length-replicate (length row) nobody))

pub returns-then-are_few : goal.returns-then-are_few
returns-then-are_few c = emptied c.args.senders.now c.args.row.now c.args.idle.now c.write_named.new.into c.requires.senders c.requires.idle c.write_named.auto.into c.write_named.ensures

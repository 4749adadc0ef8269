use Rattle.std.proofs.Common.{◌≡◌, ◌≤◌, length, true, false, sym, ◌∙◌, arith}
use Rattle.std.specs.Prelude.{◌||◌, nat_lt, is_some}
use Rattle.trace_text.specs.Fields.{bytes_of}
use Rattle.trace_text.specs.Earlier.{end_of, greatest_round}
use Rattle.trace_text.proofs.HexFacts.{hex-bytes}
use Rattle.trace_text.proofs.ReadFacts.{raw-late, raw-taken}
use Rattle.trace_text.proofs.rows.Rows.raw_fault.Goals as goal

pub returns-then-is_past-clause-fault : goal.returns-then-is_past-clause-fault
returns-then-is_past-clause-fault c = λ before s.
    let hex = (hex-bytes c.args.packet.now c.requires.packet.0).1 in
    let short : length (bytes_of c.args.packet.now) ≤ 2048 = omega (arith, hex, c.requires.packet.1) in
    let late : (is_some (end_of before) || nat_lt c.args.round (greatest_round before)) ≡ true = rw (s.ended, s.round) at (sym c.is_past.ensures ∙ c.if-is_past.true) in
    raw-late before c.args.round (bytes_of c.args.packet.now) (omega arith) short late

pub returns-clause-fault : goal.returns-clause-fault
returns-clause-fault c = λ before s.
    let hex = (hex-bytes c.args.packet.now c.requires.packet.0).1 in
    let short : length (bytes_of c.args.packet.now) ≤ 2048 = omega (arith, hex, c.requires.packet.1) in
    let late : (is_some (end_of before) || nat_lt c.args.round (greatest_round before)) ≡ false = rw (s.ended, s.round) at (sym c.is_past.ensures ∙ c.if-is_past.false) in
    raw-taken before c.args.round (bytes_of c.args.packet.now) (omega arith) short late

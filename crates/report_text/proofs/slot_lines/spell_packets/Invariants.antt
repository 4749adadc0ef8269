use Rattle.std.proofs.Common.{◌≡◌, ◌≤◌, ◌+◌, ◌*◌, ◌++◌, length, take}
use Rattle.list_facts.proofs.Bits.{kept, IsWithin}
use Rattle.report_text.specs.SlotLines.{row_text}
use Rattle.report_text.proofs.RowText.{count_held}
use Rattle.report_text.proofs.slot_lines.spell_packets.Given as goal

abbrev pub invariant-loop-rest : goal.invariant-loop-rest
invariant-loop-rest l = record {
  within : IsWithin l.row l.rest;
  fits : l.end + 64 * count_held (kept l.rest l.row) ≤ l.at + 64 * length l.row;
  written : take l.end l.buf ++ row_text l.slot l.cores l.from (kept l.rest l.row) ≡ take l.at l.initial.buf ++ row_text l.slot l.cores l.from l.row;
  count : length l.buf ≡ length l.initial.buf;
}

abbrev pub decreases-loop-rest : goal.decreases-loop-rest
decreases-loop-rest l = l.rest

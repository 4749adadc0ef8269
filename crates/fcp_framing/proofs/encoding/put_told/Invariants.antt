use Rattle.std.proofs.Common.{◌≡◌, ◌+◌, ◌*◌, take, length}
use Rattle.std.specs.List.{flat_map}
use Rattle.fcp_framing.specs.Spelling.{told_bytes}
use Rattle.fcp_framing.specs.Writing.{with_bytes}
use Rattle.fcp_framing.proofs.encoding.put_told.Given as goal

abbrev pub invariant-loop-slot : goal.invariant-loop-slot
invariant-loop-slot l = record {
  place : l.end ≡ l.start + 4 * l.slot-index;
  whole : length l.buf ≡ 2048;
  list : l.buf ≡ with_bytes l.start (flat_map told_bytes (take l.slot-index l.told)) l.initial.buf;
}

use Rattle.std.proofs.Common.{◌≡◌, ℕ, length, map, take, drop, ap, ◌∙◌, arith, ◌+◌, ◌-◌, ◌*◌, ◌/◌}
use Rattle.std.specs.Simd.{first_chunks}
use Rattle.std.proofs.lemmas.List.{length-take, length-drop}
use Rattle.fcp_framing.specs.Fields.{told_in_bytes, allocation_count}
use Rattle.fcp_framing.proofs.Chunks.{first_chunks-part}
use Rattle.fcp_framing.proofs.told_slots.entries_of.Goals as goal

pub returns-clause-lines : goal.returns-clause-lines
returns-clause-lines c =
    let bytes = c.args.bytes.now in
    let header = c.header-header.result in
    let list = drop header bytes in
    let end = header + 4 * c.count.result - header in
    let count : length (take end list) / 4 ≡ allocation_count bytes = omega (arith, c.count.ensures, length-take end list, length-drop header bytes) in
    ap (map told_in_bytes) (c.as_chunks.ensures.front ∙ first_chunks-part 4 (allocation_count bytes) end (length (take end list) / 4) list count (omega (arith, c.count.ensures))
    ∙ ap (λ (start : ℕ). first_chunks 4 (allocation_count bytes) (drop start bytes)) c.header-header.ensures)

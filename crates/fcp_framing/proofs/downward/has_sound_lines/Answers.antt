use Rattle.std.proofs.Common.{◌≡◌, ◌<◌, ◌≤◌, true, map, ap, sym, ◌∙◌, arith}
use Rattle.fcp_framing.specs.Fields.{endpoint_in, told_in_bytes, told_slots_in, allocation_count}
use Rattle.fcp_framing.specs.Refusals.{lines_are_sound}
use Rattle.fcp_framing.proofs.SoundLines.{sound_lines_pass}
use Rattle.fcp_framing.proofs.downward.has_sound_lines.Goals as goal

pub returns : goal.returns
returns c = λ sound.
    let bytes = c.args.bytes.now in
    let dst = c.u16_at-dst.ensures in
    let lines = c.entries_of-entries.ensures.lines in
    let whole : lines_are_sound c.args.endpoints (endpoint_in bytes) c.args.slots (told_slots_in bytes) ≡ true =
    ap (λ ls. lines_are_sound c.args.endpoints (endpoint_in bytes) c.args.slots ls) (sym lines)
    ∙ ap (λ d. lines_are_sound c.args.endpoints d c.args.slots (map told_in_bytes c.entries_of-entries.result.now)) (sym dst)
    ∙ sym c.are_sound.ensures ∙ sound in
    let few : allocation_count bytes ≤ 64 = omega (arith, c.entries_of-entries.ensures.len, c.if-entries-gt64.false) in
    let here = c.if-dst-endpoints.false in
    sound_lines_pass c.args.endpoints c.args.slots bytes (omega (arith, dst, here)) few whole

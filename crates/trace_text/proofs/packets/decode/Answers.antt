use Rattle.std.proofs.Common.{◌∙◌, ◌≡◌, Ok, arith}
use Rattle.hex.specs.Hex.{decode_sized}
use Rattle.hex.proofs.HexLemmas.{decode_sized-twice}
use Rattle.std.specs.Prelude.{length}
use Rattle.trace_text.specs.Fields.{bytes_of}
use Rattle.trace_text.proofs.HexFacts.{hex-bytes}
use Rattle.trace_text.proofs.packets.decode.Goals as goal

pub returns : goal.returns
returns c =
    let hex = hex-bytes c.args.text.now c.requires.hex in
    let decoded : decode_sized c.args.text.now (length c.args.out.now) ≡ Ok (bytes_of c.args.text.now) =
    decode_sized-twice c.args.text.now (length c.args.out.now) (omega (arith, hex.1, c.requires.size)) ∙ hex.0 in
    (rw decoded at c.decode_to_slice-decoded.ensures.value).1

use Rattle.std.proofs.Common.{◌≡◌, ℕ, ◌/◌, [], ◌∷◌, ◌++◌, length, ap, ◌∙◌, arith}
use Rattle.std.proofs.lemmas.Result.{on_ok_weaker}
use Rattle.trace_text.specs.Events.{packet_from}
use Rattle.trace_text.specs.Fields.{bytes_of}
use Rattle.trace_text.specs.declared.packets.KeptPacket.{KeptPacket}
use Rattle.trace_text.proofs.HexFacts.{hex-bytes}
use Rattle.trace_text.proofs.packets.push_packet.Goals as goal

pub returns-clause-packets : goal.returns-clause-packets
returns-clause-packets c =
    let packets = c.args.packets.now.items in
    let packet = bytes_of c.args.text.now in
    let start = length c.args.bytes.now.items in
    let hex = (hex-bytes c.args.text.now c.requires.hex).1 in
    let from : c.len.result ≡ start = omega (arith, c.len.ensures, c.args.bytes.now.ok.0) in
    let size : length c.args.text.now / 2 ≡ length packet = omega (arith, hex) in
    on_ok_weaker c.append.result
    (λ _. c.in_ok-push.ensures.items
    ∙ (ap (λ (one : KeptPacket). packets ++ one ∷ []) c.new.ensures
    ∙ (ap (λ (from : ℕ). packets ++ packet_from c.args.key from (length c.args.text.now / 2) ∷ []) from
    ∙ ap (λ (many : ℕ). packets ++ packet_from c.args.key start many ∷ []) size)))
    c.append.ensures

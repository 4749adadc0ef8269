use Rattle.std.proofs.Common.{◌≡◌, ◌<◌, ◌≤◌, length, true, false, sym, ◌∙◌, arith}
use Rattle.std.specs.Prelude.{is_some}
use Rattle.clos_topology.specs.Network.{endpoints_of}
use Rattle.trace_text.specs.Fields.{bytes_of}
use Rattle.trace_text.specs.Earlier.{end_of, net_of}
use Rattle.trace_text.proofs.HexFacts.{hex-bytes}
use Rattle.trace_text.proofs.PutFacts.{below-net}
use Rattle.trace_text.proofs.ReadFacts.{put-late, put-many, put-taken}
use Rattle.trace_text.proofs.rows.Rows.put_fault.Goals as goal

pub returns-then-is_some-clause-fault : goal.returns-then-is_some-clause-fault
returns-then-is_some-clause-fault c = λ before s.
    let packet = bytes_of c.args.packet.now in
    let hex = (hex-bytes c.args.packet.now c.requires.packet.0).1 in
    let short : length packet ≤ 2048 = omega (arith, hex, c.requires.packet.1) in
    let low : c.args.endpoint < endpoints_of (net_of before) = below-net before c.args.self.now.net c.args.endpoint s.net (omega (arith, c.endpoints.ensures.number, c.if-endpoint-endpoints.false)) in
    let late : is_some (end_of before) ≡ true = rw s.ended at (sym c.is_some.ensures ∙ c.if-is_some.true) in
    put-late before c.args.endpoint packet low short late

pub returns-then-put_count-ge-MOST_PUT-clause-fault :
    goal.returns-then-put_count-ge-MOST_PUT-clause-fault
returns-then-put_count-ge-MOST_PUT-clause-fault c = λ before s.
    let packet = bytes_of c.args.packet.now in
    let hex = (hex-bytes c.args.packet.now c.requires.packet.0).1 in
    let short : length packet ≤ 2048 = omega (arith, hex, c.requires.packet.1) in
    let low : c.args.endpoint < endpoints_of (net_of before) = below-net before c.args.self.now.net c.args.endpoint s.net (omega (arith, c.endpoints.ensures.number, c.if-endpoint-endpoints.false)) in
    let late : is_some (end_of before) ≡ false = rw s.ended at (sym c.is_some.ensures ∙ c.if-is_some.false) in
    put-many before c.args.endpoint packet low short late (omega (arith, c.put_count.ensures.rows before s, c.if-put_count-ge-MOST_PUT.true))

pub returns-clause-fault : goal.returns-clause-fault
returns-clause-fault c = λ before s.
    let packet = bytes_of c.args.packet.now in
    let hex = (hex-bytes c.args.packet.now c.requires.packet.0).1 in
    let short : length packet ≤ 2048 = omega (arith, hex, c.requires.packet.1) in
    let low : c.args.endpoint < endpoints_of (net_of before) = below-net before c.args.self.now.net c.args.endpoint s.net (omega (arith, c.endpoints.ensures.number, c.if-endpoint-endpoints.false)) in
    let late : is_some (end_of before) ≡ false = rw s.ended at (sym c.is_some.ensures ∙ c.if-is_some.false) in
    put-taken before c.args.endpoint packet low short late (omega (arith, c.put_count.ensures.rows before s, c.if-put_count-ge-MOST_PUT.false))

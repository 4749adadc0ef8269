use Rattle.std.proofs.Common.{◌≡◌, Bool, true, false, cond, Some, None, take, sym, ◌∙◌, ap, subst}
use Rattle.std.specs.Option.{option_map}
use Rattle.fcp_framing.specs.declared.packet.Down.{Down}
use Rattle.fcp_framing.specs.Spelling.{SpellsDown, down_bytes}
use Rattle.endpoint_history.specs.Packets.{DownPacket, framed_down}
use Rattle.endpoint_history.specs.Lane.{packet_down}
use Rattle.arbiter_lane.specs.State.{LaneState}
use Rattle.arbiter_lane.proofs.Making.{bytes-made, none-made, true-of, true-of_none}
use Rattle.arbiter_lane.proofs.lane.Lane.make_down.Goals as goal

-- ---- there is one

pub encode_alloc-requires : goal.encode_alloc-requires
encode_alloc-requires c =
    let now : LaneState = c.args.self.now in
    let spells = c.fill_down.ensures.spelled c.if-fill_down.true in
    (now.endpoints, now.b, spells.rules)

pub returns-then-fill_down-clause-packet : goal.returns-then-fill_down-clause-packet
returns-then-fill_down-clause-packet c = λ history allocations stands.
    let now : LaneState = c.args.self.now in
    let down : Down = c.fill_down.new.down in
    let packet = packet_down now.g history c.args.round c.args.told.now.items in
    let made = subst (λ (b : Bool). option_map (framed_down now.endpoint) packet ≡ cond b (Some down) None) c.if-fill_down.true (c.fill_down.ensures.packet history allocations stands) in
    ap Some c.encode_alloc.ensures.bytes ∙ sym (bytes-made (framed_down now.endpoint) packet down made)

pub returns-then-fill_down-clause-spelled : goal.returns-then-fill_down-clause-spelled
returns-then-fill_down-clause-spelled c = λ history allocations stands.
    let now : LaneState = c.args.self.now in
    let down : Down = c.fill_down.new.down in
    let packet = packet_down now.g history c.args.round c.args.told.now.items in
    let made = subst (λ (b : Bool). option_map (framed_down now.endpoint) packet ≡ cond b (Some down) None) c.if-fill_down.true (c.fill_down.ensures.packet history allocations stands) in
    let spells = c.fill_down.ensures.spelled c.if-fill_down.true in
    let bytes = take c.encode_alloc.result c.encode_alloc.new.buf in
    true-of (SpellsDown now.endpoints now.b bytes) (framed_down now.endpoint) packet down made (c.encode_alloc.ensures.spelled now.endpoints now.b spells.rules)

-- ---- there is none

pub returns-clause-packet : goal.returns-clause-packet
returns-clause-packet c = λ history allocations stands.
    let now : LaneState = c.args.self.now in
    let down : Down = c.fill_down.new.down in
    let packet = packet_down now.g history c.args.round c.args.told.now.items in
    let made = subst (λ (b : Bool). option_map (framed_down now.endpoint) packet ≡ cond b (Some down) None) c.if-fill_down.false (c.fill_down.ensures.packet history allocations stands) in
    sym (ap (option_map (λ (p : DownPacket). down_bytes (framed_down now.endpoint p))) (none-made (framed_down now.endpoint) packet made))

pub returns-clause-spelled : goal.returns-clause-spelled
returns-clause-spelled c = λ history allocations stands.
    let now : LaneState = c.args.self.now in
    let down : Down = c.fill_down.new.down in
    let packet = packet_down now.g history c.args.round c.args.told.now.items in
    let made = subst (λ (b : Bool). option_map (framed_down now.endpoint) packet ≡ cond b (Some down) None) c.if-fill_down.false (c.fill_down.ensures.packet history allocations stands) in
    true-of_none (λ p. SpellsDown now.endpoints now.b (take 0 c.args.buf.now) (framed_down now.endpoint p)) packet (none-made (framed_down now.endpoint) packet made)

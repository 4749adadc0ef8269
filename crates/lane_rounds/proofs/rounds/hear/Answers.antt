use Rattle.std.proofs.Common.{◌≡◌, ℕ, Bool, true, false, List, ◌∷◌, map, sym, ◌∙◌, ap, subst}
use Rattle.std.specs.Prelude.{slice_get}
use Rattle.loss_world.specs.InTransit.{Held, with_packet, due_in}
use Rattle.fcp_framing.specs.declared.packet.Down.{Down}
use Rattle.fcp_framing.specs.Fields.{down_of}
use Rattle.fcp_framing.specs.Spelling.{down_bytes, SpellsDown}
use Rattle.fcp_framing.specs.Laws.{AreReadBack}
use Rattle.endpoint_history.specs.Packets.{DownPacket, down_packet}
use Rattle.endpoint_history.specs.Agent.{AgentHistory, TakesDown, takes}
use Rattle.endpoint_agent.specs.State.{AgentState}
use Rattle.endpoint_agent.specs.Timely.{MayTake}
use Rattle.endpoint_agent.specs.Standing as agents
use Rattle.lane_rounds.specs.Standing.{HasCarried, spell_down}
use Rattle.lane_rounds.specs.Parts.{IsReadDown, Each, MayHear, hearing, with_packet_at_hand}
use Rattle.lane_rounds.proofs.Arriving.{with_each-more, first-of, at_hand-comes}
use Rattle.lane_rounds.proofs.Hearing.{carried-at_hand}
use Rattle.lane_rounds.proofs.rounds.hear.Goals as goal

-- what is not spelled would be read back
back-of : (back : AreReadBack) (endpoints b : ℕ) (packet : Down) → SpellsDown endpoints b (down_bytes packet) packet → down_of (down_bytes packet) ≡ packet
back-of back endpoints b packet spelled = (back.down endpoints b packet spelled.rules spelled.fits).1

same-packet : (back : AreReadBack) (me endpoints b : ℕ) (packet : Down) (p : DownPacket) → SpellsDown endpoints b (down_bytes packet) packet →
    down_bytes packet ≡ spell_down me p → IsReadDown me endpoints b p → down_packet packet ≡ p
same-packet back me endpoints b packet p spelled is read =
    ap down_packet (sym (back-of back endpoints b packet spelled)) ∙ (ap (λ bs. down_packet (down_of bs)) is ∙ read.back)

same-endpoint : (back : AreReadBack) (me endpoints b : ℕ) (packet : Down) (p : DownPacket) → SpellsDown endpoints b (down_bytes packet) packet →
    down_bytes packet ≡ spell_down me p → IsReadDown me endpoints b p → packet.dst ≡ me
same-endpoint back me endpoints b packet p spelled is read =
    ap (λ (d : Down). d.dst) (sym (back-of back endpoints b packet spelled)) ∙ (ap (λ bs. (down_of bs).dst) is ∙ read.own.destination)

-- ---- what is at hand

pub take_allocation-requires-clause-rules : goal.take_allocation-requires-clause-rules
take_allocation-requires-clause-rules c = (c.requires.rules c.if-at_hand.true).rules

pub take_allocation-requires-clause-own : goal.take_allocation-requires-clause-own
take_allocation-requires-clause-own c =
    let agent : AgentState = c.args.agent.now in
    let world : Held = c.args.world.now in
    let round = c.args.round in
    let packet : Down = c.args.packet.now in
    let bytes = down_bytes packet in
    let one = c.packets_pass_at_once.ensures.due world round bytes (c.requires.alone c.if-at_hand.true) in
    let (calls, packets, stands, due, each, may) = c.requires.may_hear in
    let due' = subst (λ (b : Bool). due_in (with_packet_at_hand round b packet world).flights round ≡ map (spell_down agent.me) packets) c.if-at_hand.true due in
    let f = first-of (spell_down agent.me) bytes (due_in (with_packet round bytes world).flights round) packets due' (sym (ap (λ (d : List (List ℕ)). slice_get d 0) one)) in
    let read = subst (Each (IsReadDown agent.me agent.endpoints agent.b)) f.parts each in
    same-endpoint c.what_is_encoded_is_read_back.ensures agent.me agent.endpoints agent.b packet f.first (c.requires.rules c.if-at_hand.true) f.bytes_of read.0

pub take_allocation-requires-clause-may_take : goal.take_allocation-requires-clause-may_take
take_allocation-requires-clause-may_take c =
    let agent : AgentState = c.args.agent.now in
    let world : Held = c.args.world.now in
    let round = c.args.round in
    let packet : Down = c.args.packet.now in
    let bytes = down_bytes packet in
    let one = c.packets_pass_at_once.ensures.due world round bytes (c.requires.alone c.if-at_hand.true) in
    let (calls, packets, stands, due, each, may) = c.requires.may_hear in
    let due' = subst (λ (b : Bool). due_in (with_packet_at_hand round b packet world).flights round ≡ map (spell_down agent.me) packets) c.if-at_hand.true due in
    let f = first-of (spell_down agent.me) bytes (due_in (with_packet round bytes world).flights round) packets due' (sym (ap (λ (d : List (List ℕ)). slice_get d 0) one)) in
    let read = subst (Each (IsReadDown agent.me agent.endpoints agent.b)) f.parts each in
    let may' = subst (MayHear agent.g round calls) f.parts may in
    let is : down_packet packet ≡ f.first = same-packet c.what_is_encoded_is_read_back.ensures agent.me agent.endpoints agent.b packet f.first (c.requires.rules c.if-at_hand.true) f.bytes_of read.0 in (
      calls,
      stands,
      λ it. subst (MayTake agent.g calls round) (sym is) (may'.0 (subst (λ (p : DownPacket). takes calls p ≡ true) is it)),
    )

pub returns-then-at_hand-clause-stands : goal.returns-then-at_hand-clause-stands
returns-then-at_hand-clause-stands c = λ calls packets stood due each.
    let agent : AgentState = c.args.agent.now in
    let new : AgentState = c.take_allocation.new.self in
    let world : Held = c.args.world.now in
    let round = c.args.round in
    let packet : Down = c.args.packet.now in
    let bytes = down_bytes packet in
    let spelled = c.requires.rules c.if-at_hand.true in
    at_hand-comes (spell_down agent.me) (IsReadDown agent.me agent.endpoints agent.b) (λ heard. agents.AgentStandsFor agent (hearing round heard calls)) (λ heard. agents.AgentStandsFor new (hearing round heard calls))
    (due_in (with_packet round bytes world).flights round) packets bytes (c.packets_pass_at_once.ensures.due world round bytes (c.requires.alone c.if-at_hand.true))
    (λ heard p q b stood. subst (λ (h : AgentHistory). agents.AgentStandsFor new h) (sym (with_each-more (TakesDown round) heard p calls))
    (subst (λ (r : DownPacket). agents.AgentStandsFor new (TakesDown round r ∷ hearing round heard calls)) (same-packet c.what_is_encoded_is_read_back.ensures agent.me agent.endpoints agent.b packet p spelled b q)
    (c.take_allocation.ensures.stands (hearing round heard calls) stood)))
    (subst (λ (b : Bool). due_in (with_packet_at_hand round b packet world).flights round ≡ map (spell_down agent.me) packets) c.if-at_hand.true due)
    each stood

pub returns-then-at_hand-clause-carried : goal.returns-then-at_hand-clause-carried
returns-then-at_hand-clause-carried c = λ departures it.
    let world : Held = c.args.world.now in
    let round = c.args.round in
    let packet : Down = c.args.packet.now in
    carried-at_hand c.packets_pass_at_once.ensures world round (down_bytes packet) departures (c.requires.alone c.if-at_hand.true)
    (subst (λ (b : Bool). HasCarried (with_packet_at_hand round b packet world) round departures) c.if-at_hand.true it)

-- ---- what the world has

pub hear_all-requires-clause-may_hear : goal.hear_all-requires-clause-may_hear
hear_all-requires-clause-may_hear c =
    let agent : AgentState = c.args.agent.now in
    let world : Held = c.args.world.now in
    let packet : Down = c.args.packet.now in
    let (calls, packets, stands, due, each, may) = c.requires.may_hear in
    (calls, packets, stands, subst (λ (b : Bool). due_in (with_packet_at_hand c.args.round b packet world).flights c.args.round ≡ map (spell_down agent.me) packets) c.if-at_hand.false due, each, may)

pub returns-clause-stands : goal.returns-clause-stands
returns-clause-stands c = λ calls packets stood due each.
    let agent : AgentState = c.args.agent.now in
    let world : Held = c.args.world.now in
    let packet : Down = c.args.packet.now in
    c.hear_all.ensures.stands calls packets stood
    (subst (λ (b : Bool). due_in (with_packet_at_hand c.args.round b packet world).flights c.args.round ≡ map (spell_down agent.me) packets) c.if-at_hand.false due) each

pub returns-clause-carried : goal.returns-clause-carried
returns-clause-carried c = λ departures it.
    let world : Held = c.args.world.now in
    let packet : Down = c.args.packet.now in
    c.hear_all.ensures.carried departures (subst (λ (b : Bool). HasCarried (with_packet_at_hand c.args.round b packet world) c.args.round departures) c.if-at_hand.false it)

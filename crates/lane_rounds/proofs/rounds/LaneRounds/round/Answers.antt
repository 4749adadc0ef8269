use Rattle.std.proofs.Common.{◌≡◌, ◌≤◌, ◌++◌, ℕ, true, List, ◌∷◌, map, replicate, Some, refl, sym, ◌∙◌, ap, subst}
use Rattle.std.specs.List.{filter_map, range_with_len}
use Rattle.loss_world.specs.Arrivals.{Departure}
use Rattle.loss_world.specs.InTransit.{Held, due_in}
use Rattle.fcp_framing.specs.declared.packet.Down.{Down}
use Rattle.fcp_framing.specs.Spelling.{SpellsDown, down_bytes}
use Rattle.endpoint_history.specs.Packets.{DownPacket, UpPacket}
use Rattle.endpoint_history.specs.Agent.{AgentHistory, Boots, Asks, MakesUp, packet_up}
use Rattle.endpoint_history.specs.Counts.{Allocation}
use Rattle.endpoint_history.specs.Entries.{next_entry}
use Rattle.endpoint_history.specs.Lane.{LaneHistory}
use Rattle.endpoint_history.specs.Rounds.{Round}
use Rattle.endpoint_history.specs.Sending.{sent_in}
use Rattle.endpoint_agent.specs.Lines.{slots_sent}
use Rattle.endpoint_agent.specs.State.{AgentState}
use Rattle.endpoint_agent.specs.Standing as agents
use Rattle.arbiter_lane.specs.State.{LaneState, AreSlots}
use Rattle.arbiter_lane.specs.Standing as lanes
use Rattle.lane_rounds.specs.Raw.{Raw}
use Rattle.lane_rounds.specs.Outside.{round_with}
use Rattle.lane_rounds.specs.Refused.{with_raw, refused_in}
use Rattle.lane_rounds.specs.Standing.{RoundsStandFor, HasCarried, IsUpOf, spell_down, spell_up, played_by}
use Rattle.lane_rounds.specs.Rounds.{HasRoundMore, GivesRound}
use Rattle.lane_rounds.specs.State.{RoundsState, with_each, MayAsk}
use Rattle.lane_rounds.specs.Parts.{Each, IsReadDown, IsReadUp, hearing, reading, handed, with_at_hand, with_packet_at_hand}
use Rattle.lane_rounds.specs.contracts.rounds.LaneRounds.{the_view}
use Rattle.lane_rounds.proofs.Coming.{Laws}
use Rattle.lane_rounds.proofs.Playing.{heard_calls, read_calls}
use Rattle.lane_rounds.proofs.Whole.{HasSizes, LaneSizes, WorldLaws, Run, by_sizes, to_sizes, lane_sizes, sizes-after, lane-after, round_in, number-is, went-down, may-hear-now, ran, stands-next, entries-are, sends-are, refused-are, told-is-owed}
use Rattle.lane_rounds.proofs.rounds.LaneRounds.round.Goals as goal

-- ---- what the parts ask

pub ask_all-requires : goal.ask_all-requires
ask_all-requires c =
    let was : RoundsState = the_view c.self.inside in
    let is = c.self.view_is in
    let e = was.lane.endpoint in
    let n = was.lane.endpoints in
    let b = was.lane.b in
    let g = was.lane.g in
    let number = c.args.round in
    let events = c.args.events.now in
    let told = c.args.told.now.items in
    let whole : c.self.inside.is_whole ≡ true = ap (λ (s : RoundsState). s.is_whole) is ∙ c.requires.may.whole in
    let (one, has) = c.self.invariant whole in
    let number_is : number ≡ was.lane.round = c.requires.may.round ∙ sym (ap (λ (s : RoundsState). s.lane.round) is) in
    let first : HasSizes was.agent e n b g = record { me = one.endpoint; endpoints = one.endpoints; b = one.b; g = one.g } in
    let sizes = sizes-after was.agent c.boot_all.new.agent e n b g c.boot_all.ensures.same first in
    let asks = subst (λ (s : RoundsState). (calls : AgentHistory) × agents.AgentStandsFor s.agent calls × MayAsk s.lane.endpoint s.lane.endpoints (with_each Boots (replicate events.boots events.version) calls) events.asks) (sym is) c.requires.may.asks in
    let (calls, stands, may) = asks in
    record {
      may_ask = subst (λ (xs : List (ℕ × ℕ)). (calls : AgentHistory) × agents.AgentStandsFor c.boot_all.new.agent calls × MayAsk c.boot_all.new.agent.me c.boot_all.new.agent.endpoints calls xs) (sym c.as_slice.ensures) (
        with_each Boots (replicate events.boots events.version) calls,
        c.boot_all.ensures.stands calls stands,
        to_sizes c.boot_all.new.agent e n b g sizes (λ x y z w. MayAsk x y (with_each Boots (replicate events.boots events.version) calls) events.asks) may,
      );
    }

pub hear-requires-clause-may_hear : goal.hear-requires-clause-may_hear
hear-requires-clause-may_hear c =
    let was : RoundsState = the_view c.self.inside in
    let below : Held = with_packet_at_hand c.args.round c.in_ok-down.down c.post_down.new.packet c.post_down.new.world in
    let is = c.self.view_is in
    let e = was.lane.endpoint in
    let n = was.lane.endpoints in
    let b = was.lane.b in
    let g = was.lane.g in
    let number = c.args.round in
    let events = c.args.events.now in
    let told = c.args.told.now.items in
    let whole : c.self.inside.is_whole ≡ true = ap (λ (s : RoundsState). s.is_whole) is ∙ c.requires.may.whole in
    let (one, has) = c.self.invariant whole in
    let number_is : number ≡ was.lane.round = c.requires.may.round ∙ sym (ap (λ (s : RoundsState). s.lane.round) is) in
    let asked : AgentState = c.ask_all.new.agent in
    let first : HasSizes was.agent e n b g = record { me = one.endpoint; endpoints = one.endpoints; b = one.b; g = one.g } in
    let asked_sizes = sizes-after c.boot_all.new.agent asked e n b g c.ask_all.ensures.same (sizes-after was.agent c.boot_all.new.agent e n b g c.boot_all.ensures.same first) in
    let asks : (calls : AgentHistory) → agents.AgentStandsFor was.agent calls → agents.AgentStandsFor asked (with_each (λ (a : ℕ × ℕ). Asks a.0 a.1) events.asks (with_each Boots (replicate events.boots events.version) calls)) = λ calls stood.
    subst (λ (xs : List (ℕ × ℕ)). agents.AgentStandsFor asked (with_each (λ (a : ℕ × ℕ). Asks a.0 a.1) xs (with_each Boots (replicate events.boots events.version) calls))) c.as_slice.ensures
    (c.ask_all.ensures.stands (with_each Boots (replicate events.boots events.version) calls) (c.boot_all.ensures.stands calls stood)) in
    let laws : WorldLaws = record { alike = c.rounds_are_read_in_order.ensures.alike; framed = c.packets_are_framed_alike.ensures; back = c.what_is_encoded_is_read_back.ensures; one = c.arrivals_are_given_in_order.ensures.one_by_one } in
    let order = c.rounds_are_calls.ensures.order in
    let heard_laws : Laws = record {
      late = c.allocations_are_in_order.ensures.late;
      one = c.allocations_are_in_order.ensures.one;
      once = c.each_number_is_taken_once.ensures.once;
      good = c.each_number_is_taken_once.ensures.for_good;
    } in
    let len = number-is order was number has.rounds has.allocations number_is has.stands in
    let down = went-down laws was number (round_in was events told) below has.rounds has.allocations len c.post_down.ensures.spelled c.in_ok-down.ensures.carried has.stands in
    may-hear-now laws heard_laws order was number events told asked below has.rounds has.allocations len has.stands down asks asked_sizes

pub hear-requires-clause-rules : goal.hear-requires-clause-rules
hear-requires-clause-rules c = λ at_hand.
    let was : RoundsState = the_view c.self.inside in
    let is = c.self.view_is in
    let e = was.lane.endpoint in
    let n = was.lane.endpoints in
    let b = was.lane.b in
    let g = was.lane.g in
    let whole : c.self.inside.is_whole ≡ true = ap (λ (s : RoundsState). s.is_whole) is ∙ c.requires.may.whole in
    let (one, has) = c.self.invariant whole in
    let asked : AgentState = c.ask_all.new.agent in
    let first : HasSizes was.agent e n b g = record { me = one.endpoint; endpoints = one.endpoints; b = one.b; g = one.g } in
    let asked_sizes = sizes-after c.boot_all.new.agent asked e n b g c.ask_all.ensures.same (sizes-after was.agent c.boot_all.new.agent e n b g c.boot_all.ensures.same first) in
    let packet : Down = c.post_down.new.packet in
    to_sizes asked e n b g asked_sizes (λ x y z w. SpellsDown y z (down_bytes packet) packet) (c.in_ok-down.ensures.rules at_hand)

-- ---- what the round leaves

pub invariant_of-self-2 : goal.invariant_of-self-2
invariant_of-self-2 c = λ done_whole.
    let was : RoundsState = the_view c.self.inside in
    let below : Held = with_packet_at_hand c.args.round c.in_ok-down.down c.post_down.new.packet c.post_down.new.world in
    let above : Held = with_at_hand c.args.round c.in_ok-up.up c.post_up.new.buf c.post_up.new.world in
    let is = c.self.view_is in
    let e = was.lane.endpoint in
    let n = was.lane.endpoints in
    let b = was.lane.b in
    let g = was.lane.g in
    let number = c.args.round in
    let events = c.args.events.now in
    let told = c.args.told.now.items in
    let whole : c.self.inside.is_whole ≡ true = ap (λ (s : RoundsState). s.is_whole) is ∙ c.requires.may.whole in
    let (one, has) = c.self.invariant whole in
    let number_is : number ≡ was.lane.round = c.requires.may.round ∙ sym (ap (λ (s : RoundsState). s.lane.round) is) in
    let asked : AgentState = c.ask_all.new.agent in
    let first : HasSizes was.agent e n b g = record { me = one.endpoint; endpoints = one.endpoints; b = one.b; g = one.g } in
    let asked_sizes = sizes-after c.boot_all.new.agent asked e n b g c.ask_all.ensures.same (sizes-after was.agent c.boot_all.new.agent e n b g c.boot_all.ensures.same first) in
    let asks : (calls : AgentHistory) → agents.AgentStandsFor was.agent calls → agents.AgentStandsFor asked (with_each (λ (a : ℕ × ℕ). Asks a.0 a.1) events.asks (with_each Boots (replicate events.boots events.version) calls)) = λ calls stood.
    subst (λ (xs : List (ℕ × ℕ)). agents.AgentStandsFor asked (with_each (λ (a : ℕ × ℕ). Asks a.0 a.1) xs (with_each Boots (replicate events.boots events.version) calls))) c.as_slice.ensures
    (c.ask_all.ensures.stands (with_each Boots (replicate events.boots events.version) calls) (c.boot_all.ensures.stands calls stood)) in
    let laws : WorldLaws = record { alike = c.rounds_are_read_in_order.ensures.alike; framed = c.packets_are_framed_alike.ensures; back = c.what_is_encoded_is_read_back.ensures; one = c.arrivals_are_given_in_order.ensures.one_by_one } in
    let order = c.rounds_are_calls.ensures.order in
    let slots : AreSlots n b e told = subst (λ (s : RoundsState). AreSlots s.lane.endpoints s.lane.b s.lane.endpoint told) (sym is) c.requires.may.slots in
    let heard : AgentState = c.hear.new.agent in
    let made : AgentState = c.post_up.new.agent in
    let ended : AgentState = c.send_due.new.self in
    let told_to : LaneState = c.post_down.new.lane in
    let read_by : LaneState = c.read.new.lane in
    let raw_by : LaneState = c.read_raw.new.lane in
    let done : LaneState = c.record.new.self in
    let heard_sizes = sizes-after asked heard e n b g c.hear.ensures.same asked_sizes in
    let up_frame = c.post_up.ensures.frame in
    let made_sizes : HasSizes made e n b g = record {
      me = ap (λ (a : AgentState). a.me) up_frame ∙ heard_sizes.me;
      endpoints = ap (λ (a : AgentState). a.endpoints) up_frame ∙ heard_sizes.endpoints;
      b = ap (λ (a : AgentState). a.b) up_frame ∙ heard_sizes.b;
      g = ap (λ (a : AgentState). a.g) up_frame ∙ heard_sizes.g;
    } in
    let down_frame = c.post_down.ensures.frame in
    let told_sizes : LaneSizes told_to e n b g = record {
      endpoint = ap (λ (l : LaneState). l.endpoint) down_frame;
      endpoints = ap (λ (l : LaneState). l.endpoints) down_frame;
      b = ap (λ (l : LaneState). l.b) down_frame;
      g = ap (λ (l : LaneState). l.g) down_frame;
    } in
    let read_sizes = lane-after told_to read_by e n b g c.read.ensures.same told_sizes in
    let raw_sizes = lane-after read_by raw_by e n b g c.read_raw.ensures.same read_sizes in
    let record_frame = c.in_ok-record.ensures.frame in
    let done_sizes : LaneSizes done e n b g = record {
      endpoint = ap (λ (l : LaneState). l.endpoint) record_frame ∙ raw_sizes.endpoint;
      endpoints = ap (λ (l : LaneState). l.endpoints) record_frame ∙ raw_sizes.endpoints;
      b = ap (λ (l : LaneState). l.b) record_frame ∙ raw_sizes.b;
      g = ap (λ (l : LaneState). l.g) record_frame ∙ raw_sizes.g;
    } in
    let run : Run was number events told asked heard made ended told_to read_by raw_by done below c.hear.new.world above c.read.new.world = record {
      slots = slots;
      number_is = number_is;
      asks = asks;
      makes_down = c.in_ok-down.ensures.stands;
      spells_down = c.post_down.ensures.spelled;
      carries_down = c.in_ok-down.ensures.carried;
      hears = by_sizes asked e n b g asked_sizes (λ x y z w. (calls : AgentHistory) (packets : List DownPacket) → agents.AgentStandsFor asked calls → due_in below.flights number ≡ map (spell_down x) packets → Each (IsReadDown x y z) packets → agents.AgentStandsFor heard (hearing number packets calls)) c.hear.ensures.stands;
      goes_down = c.hear.ensures.carried;
      makes_up = c.post_up.ensures.stands;
      spells_up = by_sizes heard e n b g heard_sizes (λ x y z w. (calls : AgentHistory) → agents.AgentStandsFor heard calls → IsUpOf x y (packet_up y w calls)) c.post_up.ensures.spelled;
      carries_up = by_sizes heard e n b g heard_sizes (λ x y z w. (calls : AgentHistory) (departures : List Departure) → agents.AgentStandsFor heard calls → HasCarried was.up number departures → HasCarried above number (departures ++ handed (spell_up x) number events.up (Some (packet_up y w calls)))) c.in_ok-up.ensures.carried;
      reads = lane_sizes told_to e n b g told_sizes (λ x y z w. (history : LaneHistory) (allocations : List Allocation) (packets : List UpPacket) → lanes.LaneStandsFor told_to history allocations → due_in above.flights number ≡ map (spell_up x) packets → Each (IsReadUp x y) packets → lanes.LaneStandsFor read_by (reading number packets history) allocations) c.read.ensures.stands;
      goes_up = c.read.ensures.carried;
      reads_raw = subst (λ (raw : List Raw). (history : LaneHistory) (allocations : List Allocation) → lanes.LaneStandsFor read_by history allocations → lanes.LaneStandsFor raw_by (with_raw e n number raw history) allocations) c.as_slice-2.ensures
          (lane_sizes read_by e n b g read_sizes (λ x y z w. (history : LaneHistory) (allocations : List Allocation) → lanes.LaneStandsFor read_by history allocations → lanes.LaneStandsFor raw_by (with_raw x y number c.as_slice-2.result.now history) allocations) c.in_ok-read_raw.ensures.stands);
      records = c.in_ok-record.ensures.stands;
      sends = c.send_due.ensures.stands;
      last = done_sizes;
    } in
    let all = ran laws order was number events told asked heard made ended told_to read_by raw_by done below c.hear.new.world above c.read.new.world run in
    let it = all has.rounds has.allocations has.stands in
    let send_frame = c.send_due.ensures.frame in (
      record {
        endpoint = ap (λ (a : AgentState). a.me) send_frame ∙ made_sizes.me ∙ sym done_sizes.endpoint;
        endpoints = ap (λ (a : AgentState). a.endpoints) send_frame ∙ made_sizes.endpoints ∙ sym done_sizes.endpoints;
        b = ap (λ (a : AgentState). a.b) send_frame ∙ made_sizes.b ∙ sym done_sizes.b;
        g = ap (λ (a : AgentState). a.g) send_frame ∙ made_sizes.g ∙ sym done_sizes.g;
        slots = subst (λ (m : ℕ). m ≤ 64) (sym done_sizes.b) one.slots;
        round = ap (λ (a : AgentState). a.round) send_frame ∙ sym (ap (λ (l : LaneState). l.round) record_frame);
        up = ap (λ (a : AgentState). a.is_made) send_frame;
        down = ap (λ (l : LaneState). l.is_made) record_frame;
      },
      record {
        rounds = round_in was events told ∷ has.rounds;
        allocations = has.allocations;
        stands = stands-next e n b g number ended done c.hear.new.world c.read.new.world true (round_in was events told) has.rounds has.allocations done_sizes it.number_is it.all;
      },
    )

pub returns-clause-played : goal.returns-clause-played
returns-clause-played c =
    let was : RoundsState = the_view c.self.inside in
    let below : Held = with_packet_at_hand c.args.round c.in_ok-down.down c.post_down.new.packet c.post_down.new.world in
    let above : Held = with_at_hand c.args.round c.in_ok-up.up c.post_up.new.buf c.post_up.new.world in
    let is = c.self.view_is in
    let e = was.lane.endpoint in
    let n = was.lane.endpoints in
    let b = was.lane.b in
    let g = was.lane.g in
    let number = c.args.round in
    let events = c.args.events.now in
    let told = c.args.told.now.items in
    let whole : c.self.inside.is_whole ≡ true = ap (λ (s : RoundsState). s.is_whole) is ∙ c.requires.may.whole in
    let (one, has) = c.self.invariant whole in
    let number_is : number ≡ was.lane.round = c.requires.may.round ∙ sym (ap (λ (s : RoundsState). s.lane.round) is) in
    let asked : AgentState = c.ask_all.new.agent in
    let first : HasSizes was.agent e n b g = record { me = one.endpoint; endpoints = one.endpoints; b = one.b; g = one.g } in
    let asked_sizes = sizes-after c.boot_all.new.agent asked e n b g c.ask_all.ensures.same (sizes-after was.agent c.boot_all.new.agent e n b g c.boot_all.ensures.same first) in
    let asks : (calls : AgentHistory) → agents.AgentStandsFor was.agent calls → agents.AgentStandsFor asked (with_each (λ (a : ℕ × ℕ). Asks a.0 a.1) events.asks (with_each Boots (replicate events.boots events.version) calls)) = λ calls stood.
    subst (λ (xs : List (ℕ × ℕ)). agents.AgentStandsFor asked (with_each (λ (a : ℕ × ℕ). Asks a.0 a.1) xs (with_each Boots (replicate events.boots events.version) calls))) c.as_slice.ensures
    (c.ask_all.ensures.stands (with_each Boots (replicate events.boots events.version) calls) (c.boot_all.ensures.stands calls stood)) in
    let laws : WorldLaws = record { alike = c.rounds_are_read_in_order.ensures.alike; framed = c.packets_are_framed_alike.ensures; back = c.what_is_encoded_is_read_back.ensures; one = c.arrivals_are_given_in_order.ensures.one_by_one } in
    let order = c.rounds_are_calls.ensures.order in
    let slots : AreSlots n b e told = subst (λ (s : RoundsState). AreSlots s.lane.endpoints s.lane.b s.lane.endpoint told) (sym is) c.requires.may.slots in
    let heard : AgentState = c.hear.new.agent in
    let made : AgentState = c.post_up.new.agent in
    let ended : AgentState = c.send_due.new.self in
    let told_to : LaneState = c.post_down.new.lane in
    let read_by : LaneState = c.read.new.lane in
    let raw_by : LaneState = c.read_raw.new.lane in
    let done : LaneState = c.record.new.self in
    let heard_sizes = sizes-after asked heard e n b g c.hear.ensures.same asked_sizes in
    let up_frame = c.post_up.ensures.frame in
    let made_sizes : HasSizes made e n b g = record {
      me = ap (λ (a : AgentState). a.me) up_frame ∙ heard_sizes.me;
      endpoints = ap (λ (a : AgentState). a.endpoints) up_frame ∙ heard_sizes.endpoints;
      b = ap (λ (a : AgentState). a.b) up_frame ∙ heard_sizes.b;
      g = ap (λ (a : AgentState). a.g) up_frame ∙ heard_sizes.g;
    } in
    let down_frame = c.post_down.ensures.frame in
    let told_sizes : LaneSizes told_to e n b g = record {
      endpoint = ap (λ (l : LaneState). l.endpoint) down_frame;
      endpoints = ap (λ (l : LaneState). l.endpoints) down_frame;
      b = ap (λ (l : LaneState). l.b) down_frame;
      g = ap (λ (l : LaneState). l.g) down_frame;
    } in
    let read_sizes = lane-after told_to read_by e n b g c.read.ensures.same told_sizes in
    let raw_sizes = lane-after read_by raw_by e n b g c.read_raw.ensures.same read_sizes in
    let record_frame = c.in_ok-record.ensures.frame in
    let done_sizes : LaneSizes done e n b g = record {
      endpoint = ap (λ (l : LaneState). l.endpoint) record_frame ∙ raw_sizes.endpoint;
      endpoints = ap (λ (l : LaneState). l.endpoints) record_frame ∙ raw_sizes.endpoints;
      b = ap (λ (l : LaneState). l.b) record_frame ∙ raw_sizes.b;
      g = ap (λ (l : LaneState). l.g) record_frame ∙ raw_sizes.g;
    } in
    let run : Run was number events told asked heard made ended told_to read_by raw_by done below c.hear.new.world above c.read.new.world = record {
      slots = slots;
      number_is = number_is;
      asks = asks;
      makes_down = c.in_ok-down.ensures.stands;
      spells_down = c.post_down.ensures.spelled;
      carries_down = c.in_ok-down.ensures.carried;
      hears = by_sizes asked e n b g asked_sizes (λ x y z w. (calls : AgentHistory) (packets : List DownPacket) → agents.AgentStandsFor asked calls → due_in below.flights number ≡ map (spell_down x) packets → Each (IsReadDown x y z) packets → agents.AgentStandsFor heard (hearing number packets calls)) c.hear.ensures.stands;
      goes_down = c.hear.ensures.carried;
      makes_up = c.post_up.ensures.stands;
      spells_up = by_sizes heard e n b g heard_sizes (λ x y z w. (calls : AgentHistory) → agents.AgentStandsFor heard calls → IsUpOf x y (packet_up y w calls)) c.post_up.ensures.spelled;
      carries_up = by_sizes heard e n b g heard_sizes (λ x y z w. (calls : AgentHistory) (departures : List Departure) → agents.AgentStandsFor heard calls → HasCarried was.up number departures → HasCarried above number (departures ++ handed (spell_up x) number events.up (Some (packet_up y w calls)))) c.in_ok-up.ensures.carried;
      reads = lane_sizes told_to e n b g told_sizes (λ x y z w. (history : LaneHistory) (allocations : List Allocation) (packets : List UpPacket) → lanes.LaneStandsFor told_to history allocations → due_in above.flights number ≡ map (spell_up x) packets → Each (IsReadUp x y) packets → lanes.LaneStandsFor read_by (reading number packets history) allocations) c.read.ensures.stands;
      goes_up = c.read.ensures.carried;
      reads_raw = subst (λ (raw : List Raw). (history : LaneHistory) (allocations : List Allocation) → lanes.LaneStandsFor read_by history allocations → lanes.LaneStandsFor raw_by (with_raw e n number raw history) allocations) c.as_slice-2.ensures
          (lane_sizes read_by e n b g read_sizes (λ x y z w. (history : LaneHistory) (allocations : List Allocation) → lanes.LaneStandsFor read_by history allocations → lanes.LaneStandsFor raw_by (with_raw x y number c.as_slice-2.result.now history) allocations) c.in_ok-read_raw.ensures.stands);
      records = c.in_ok-record.ensures.stands;
      sends = c.send_due.ensures.stands;
      last = done_sizes;
    } in
    let all = ran laws order was number events told asked heard made ended told_to read_by raw_by done below c.hear.new.world above c.read.new.world run in
    let new : RoundsState = record { agent = ended; lane = done; down = c.hear.new.world; up = c.read.new.world; is_whole = true } in
    let next : Round = round_in was events told in
    let stands : (rounds : List Round) (allocations : List Allocation) → RoundsStandFor was rounds allocations → RoundsStandFor new (next ∷ rounds) allocations = λ rounds allocations stood.
    let it = all rounds allocations stood in
    stands-next e n b g number ended done c.hear.new.world c.read.new.world true next rounds allocations done_sizes it.number_is it.all in
    subst (λ (s : RoundsState). HasRoundMore s number (round_with s.lane.endpoint s.lane.endpoints events told) new) is
    (record {
      endpoint = done_sizes.endpoint;
      endpoints = done_sizes.endpoints;
      b = done_sizes.b;
      g = done_sizes.g;
      whole = refl;
      round = ap (λ (l : LaneState). l.round) record_frame;
      stands = stands;
      unharmed = λ rounds allocations stood none.
          let now = stands rounds allocations stood in
          c.no_loss_or_boot_harms.ensures _ _ _ _ none now.within (told-is-owed c.counts_are_bounded.ensures.beyond _ _ _ _ _ _ _ _ allocations now c.in_ok-record.ensures.told);
    })

pub returns-clause-gives : goal.returns-clause-gives
returns-clause-gives c =
    let was : RoundsState = the_view c.self.inside in
    let below : Held = with_packet_at_hand c.args.round c.in_ok-down.down c.post_down.new.packet c.post_down.new.world in
    let above : Held = with_at_hand c.args.round c.in_ok-up.up c.post_up.new.buf c.post_up.new.world in
    let is = c.self.view_is in
    let e = was.lane.endpoint in
    let n = was.lane.endpoints in
    let b = was.lane.b in
    let g = was.lane.g in
    let number = c.args.round in
    let events = c.args.events.now in
    let told = c.args.told.now.items in
    let whole : c.self.inside.is_whole ≡ true = ap (λ (s : RoundsState). s.is_whole) is ∙ c.requires.may.whole in
    let (one, has) = c.self.invariant whole in
    let number_is : number ≡ was.lane.round = c.requires.may.round ∙ sym (ap (λ (s : RoundsState). s.lane.round) is) in
    let asked : AgentState = c.ask_all.new.agent in
    let first : HasSizes was.agent e n b g = record { me = one.endpoint; endpoints = one.endpoints; b = one.b; g = one.g } in
    let asked_sizes = sizes-after c.boot_all.new.agent asked e n b g c.ask_all.ensures.same (sizes-after was.agent c.boot_all.new.agent e n b g c.boot_all.ensures.same first) in
    let asks : (calls : AgentHistory) → agents.AgentStandsFor was.agent calls → agents.AgentStandsFor asked (with_each (λ (a : ℕ × ℕ). Asks a.0 a.1) events.asks (with_each Boots (replicate events.boots events.version) calls)) = λ calls stood.
    subst (λ (xs : List (ℕ × ℕ)). agents.AgentStandsFor asked (with_each (λ (a : ℕ × ℕ). Asks a.0 a.1) xs (with_each Boots (replicate events.boots events.version) calls))) c.as_slice.ensures
    (c.ask_all.ensures.stands (with_each Boots (replicate events.boots events.version) calls) (c.boot_all.ensures.stands calls stood)) in
    let laws : WorldLaws = record { alike = c.rounds_are_read_in_order.ensures.alike; framed = c.packets_are_framed_alike.ensures; back = c.what_is_encoded_is_read_back.ensures; one = c.arrivals_are_given_in_order.ensures.one_by_one } in
    let order = c.rounds_are_calls.ensures.order in
    let slots : AreSlots n b e told = subst (λ (s : RoundsState). AreSlots s.lane.endpoints s.lane.b s.lane.endpoint told) (sym is) c.requires.may.slots in
    let heard : AgentState = c.hear.new.agent in
    let made : AgentState = c.post_up.new.agent in
    let ended : AgentState = c.send_due.new.self in
    let told_to : LaneState = c.post_down.new.lane in
    let read_by : LaneState = c.read.new.lane in
    let raw_by : LaneState = c.read_raw.new.lane in
    let done : LaneState = c.record.new.self in
    let heard_sizes = sizes-after asked heard e n b g c.hear.ensures.same asked_sizes in
    let up_frame = c.post_up.ensures.frame in
    let made_sizes : HasSizes made e n b g = record {
      me = ap (λ (a : AgentState). a.me) up_frame ∙ heard_sizes.me;
      endpoints = ap (λ (a : AgentState). a.endpoints) up_frame ∙ heard_sizes.endpoints;
      b = ap (λ (a : AgentState). a.b) up_frame ∙ heard_sizes.b;
      g = ap (λ (a : AgentState). a.g) up_frame ∙ heard_sizes.g;
    } in
    let down_frame = c.post_down.ensures.frame in
    let told_sizes : LaneSizes told_to e n b g = record {
      endpoint = ap (λ (l : LaneState). l.endpoint) down_frame;
      endpoints = ap (λ (l : LaneState). l.endpoints) down_frame;
      b = ap (λ (l : LaneState). l.b) down_frame;
      g = ap (λ (l : LaneState). l.g) down_frame;
    } in
    let read_sizes = lane-after told_to read_by e n b g c.read.ensures.same told_sizes in
    let raw_sizes = lane-after read_by raw_by e n b g c.read_raw.ensures.same read_sizes in
    let record_frame = c.in_ok-record.ensures.frame in
    let done_sizes : LaneSizes done e n b g = record {
      endpoint = ap (λ (l : LaneState). l.endpoint) record_frame ∙ raw_sizes.endpoint;
      endpoints = ap (λ (l : LaneState). l.endpoints) record_frame ∙ raw_sizes.endpoints;
      b = ap (λ (l : LaneState). l.b) record_frame ∙ raw_sizes.b;
      g = ap (λ (l : LaneState). l.g) record_frame ∙ raw_sizes.g;
    } in
    let run : Run was number events told asked heard made ended told_to read_by raw_by done below c.hear.new.world above c.read.new.world = record {
      slots = slots;
      number_is = number_is;
      asks = asks;
      makes_down = c.in_ok-down.ensures.stands;
      spells_down = c.post_down.ensures.spelled;
      carries_down = c.in_ok-down.ensures.carried;
      hears = by_sizes asked e n b g asked_sizes (λ x y z w. (calls : AgentHistory) (packets : List DownPacket) → agents.AgentStandsFor asked calls → due_in below.flights number ≡ map (spell_down x) packets → Each (IsReadDown x y z) packets → agents.AgentStandsFor heard (hearing number packets calls)) c.hear.ensures.stands;
      goes_down = c.hear.ensures.carried;
      makes_up = c.post_up.ensures.stands;
      spells_up = by_sizes heard e n b g heard_sizes (λ x y z w. (calls : AgentHistory) → agents.AgentStandsFor heard calls → IsUpOf x y (packet_up y w calls)) c.post_up.ensures.spelled;
      carries_up = by_sizes heard e n b g heard_sizes (λ x y z w. (calls : AgentHistory) (departures : List Departure) → agents.AgentStandsFor heard calls → HasCarried was.up number departures → HasCarried above number (departures ++ handed (spell_up x) number events.up (Some (packet_up y w calls)))) c.in_ok-up.ensures.carried;
      reads = lane_sizes told_to e n b g told_sizes (λ x y z w. (history : LaneHistory) (allocations : List Allocation) (packets : List UpPacket) → lanes.LaneStandsFor told_to history allocations → due_in above.flights number ≡ map (spell_up x) packets → Each (IsReadUp x y) packets → lanes.LaneStandsFor read_by (reading number packets history) allocations) c.read.ensures.stands;
      goes_up = c.read.ensures.carried;
      reads_raw = subst (λ (raw : List Raw). (history : LaneHistory) (allocations : List Allocation) → lanes.LaneStandsFor read_by history allocations → lanes.LaneStandsFor raw_by (with_raw e n number raw history) allocations) c.as_slice-2.ensures
          (lane_sizes read_by e n b g read_sizes (λ x y z w. (history : LaneHistory) (allocations : List Allocation) → lanes.LaneStandsFor read_by history allocations → lanes.LaneStandsFor raw_by (with_raw x y number c.as_slice-2.result.now history) allocations) c.in_ok-read_raw.ensures.stands);
      records = c.in_ok-record.ensures.stands;
      sends = c.send_due.ensures.stands;
      last = done_sizes;
    } in
    let all = ran laws order was number events told asked heard made ended told_to read_by raw_by done below c.hear.new.world above c.read.new.world run in
    subst (λ (s : RoundsState). GivesRound s events told c.args.batch.now.entries c.record.new.batch.entries (slots_sent c.send_due.new.into.items) c.args.refused.now c.read_raw.new.refused) is
    (record {
      entries = λ rounds allocations stood.
          let it = all rounds allocations stood in
          let round = round_in was events told in
          let calls = reading number round.raw (read_calls n g number round (played_by was rounds)) in
          entries-are e n g number round rounds c.args.batch.now.entries c.record.new.batch.entries it.number_is
          (lane_sizes raw_by e n b g raw_sizes (λ x y z w. c.record.new.batch.entries ≡ c.args.batch.now.entries ++ filter_map (next_entry x w calls) (range_with_len 0 y)) (c.in_ok-record.ensures.entries calls allocations it.raw));
      sends = λ rounds allocations stood.
          let it = all rounds allocations stood in
          let round = round_in was events told in
          sends-are n b g number round rounds (slots_sent c.send_due.new.into.items) it.number_is
          (by_sizes made e n b g made_sizes (λ x y z w. slots_sent c.send_due.new.into.items ≡ sent_in z w (MakesUp ∷ heard_calls n g number round (played_by was rounds)) number) (c.send_due.ensures.sends (MakesUp ∷ heard_calls n g number round (played_by was rounds)) it.agent));
      refused = λ rounds allocations stood.
          let it = all rounds allocations stood in
          let calls = read_calls n g number (round_in was events told) (played_by was rounds) in
          refused-are e n g number events told rounds c.args.refused.now c.read_raw.new.refused it.number_is
          (subst (λ (raw : List Raw). c.read_raw.new.refused ≡ c.args.refused.now ++ refused_in e n number raw calls) c.as_slice-2.ensures
          (lane_sizes read_by e n b g read_sizes (λ x y z w. c.read_raw.new.refused ≡ c.args.refused.now ++ refused_in x y number c.as_slice-2.result.now calls) (c.in_ok-read_raw.ensures.refused calls allocations it.read)));
    })

use Rattle.std.proofs.Common.{◌≤◌, ◌∷◌, List, Option, sym, subst, refl}
use Rattle.std.specs.Bool.{IsTrue}
use Rattle.loss_world.specs.declared.fate.Fate.{Fate}
use Rattle.loss_world.specs.History.{WorldCall, Departs, asked_of, WorldStandsFor}
use Rattle.loss_world.specs.InTransit.{with_packet}
use Rattle.fcp_framing.specs.Spelling.{down_bytes}
use Rattle.endpoint_history.specs.Lane.{packet_down}
use Rattle.arbiter_lane.specs.State.{LaneState}
use Rattle.lane_rounds.proofs.Posting.{filled-spells, filled-carried}
use Rattle.lane_rounds.proofs.rounds.post_down.Goals as goal

pub returns-then-passes_at_once-clause-spelled : goal.returns-then-passes_at_once-clause-spelled
returns-then-passes_at_once-clause-spelled c = λ history allocations stood.
    let lane : LaneState = c.args.lane.now in
    filled-spells lane.endpoint lane.endpoints lane.b (packet_down lane.g history c.args.round c.args.told.now.items) c.fill_down.result c.fill_down.new.down
    (c.fill_down.ensures.packet history allocations stood) c.fill_down.ensures.spelled

pub returns-then-passes_at_once-clause-alone : goal.returns-then-passes_at_once-clause-alone
returns-then-passes_at_once-clause-alone c = λ at_hand.
    let passes = c.passes_at_once.ensures.0 (subst IsTrue (sym c.if-passes_at_once.true) refl) in
    passes.1

pub returns-then-passes_at_once-clause-carried : goal.returns-then-passes_at_once-clause-carried
returns-then-passes_at_once-clause-carried c = λ history allocations departures stood it.
    let lane : LaneState = c.args.lane.now in
    let world = c.args.world.now in
    let round = c.args.round in
    let bytes = down_bytes c.fill_down.new.down in
    let passes = c.passes_at_once.ensures.0 (subst IsTrue (sym c.if-passes_at_once.true) refl) in
    let sends : (history : List WorldCall) → WorldStandsFor world history → asked_of history ≤ round → WorldStandsFor (with_packet round bytes world) (Departs (record { round = round; fate = c.args.fate; bytes = bytes }) ∷ history) = λ history stands order.
    subst (λ (fate : Option Fate). WorldStandsFor (with_packet round bytes world) (Departs (record { round = round; fate = fate; bytes = bytes }) ∷ history)) (sym passes.0)
    (c.packets_pass_at_once.ensures.sent world history round bytes stands order) in
    filled-carried c.rounds_are_read_in_order.ensures.next lane.endpoint world round c.args.fate (packet_down lane.g history round c.args.told.now.items) c.fill_down.result c.fill_down.new.down departures
    (c.fill_down.ensures.packet history allocations stood) sends it

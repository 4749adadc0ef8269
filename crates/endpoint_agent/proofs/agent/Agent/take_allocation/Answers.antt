use Rattle.std.proofs.Common.{◌≡◌, ◌≢◌, ◌⊎◌, ℕ, ◌+◌, ◌*◌, ◌%◌, ◌<◌, ◌≤◌, true, false, cond, ◌==◌, leb, List, [], ◌∷◌, length, set, All, sym, ◌∙◌, ap, subst, arith}
use Rattle.std.proofs.lemmas.Bool.{ne_eqb, and_left, and_right}
use Rattle.std.proofs.lemmas.List.{with_items_is}
use Rattle.std.specs.Global.{Vec}
use Rattle.std.specs.Vec.{with_items}
use Rattle.ack_window.specs.declared.take_window.Taken.TheVariants.{Fresh, Repeat, Old}
use Rattle.ack_window.specs.Arrivals.{receive_verdict}
use Rattle.ack_window.specs.Versions.{reorder_of}
use Rattle.fcp_framing.specs.declared.packet.Down.{Down}
use Rattle.fcp_framing.specs.declared.packet.Told.{Told}
use Rattle.fcp_framing.specs.Spelling.{IsAllocation}
use Rattle.endpoint_history.specs.Packets.{down_packet, slots_to}
use Rattle.endpoint_history.specs.Agent.{AgentHistory, TakesDown, takes, epoch_of, version_of, arrived}
use Rattle.endpoint_agent.specs.declared.lines.FlowLine.{FlowLine}
use Rattle.endpoint_agent.specs.contracts.agent.Agent.{the_view}
use Rattle.endpoint_agent.specs.Carrying.{bare_numbers}
use Rattle.endpoint_agent.specs.Lines.{with_missed}
use Rattle.endpoint_agent.specs.Standing.{AgentStandsFor}
use Rattle.endpoint_agent.specs.State.{AgentState, line_at, IsSound}
use Rattle.endpoint_agent.specs.Timely.{MayTake}
use Rattle.endpoint_agent.proofs.Calls.{StandsFor-passed, Read, acknowledges-more}
use Rattle.endpoint_agent.proofs.Taking.{IsMine, takes-it, reads, AreTaken, takes-slots, Sound-slots}
use Rattle.endpoint_agent.proofs.Timely.{HasRoom, has-room}
use Rattle.endpoint_agent.proofs.Sound.{All-lines, Sound-reads, Kept-makes, Kept-takes}
use Rattle.endpoint_agent.proofs.agent.Agent.take_allocation.Goals as goal

-- ---- of another epoch or version

pub returns-then-down-self-clause-stands : goal.returns-then-down-self-clause-stands
returns-then-down-self-clause-stands c = λ history stood.
    let stands = subst (λ (a : AgentState). AgentStandsFor a history) (sym c.self.view_is) stood in
    let down : Down = c.args.down.now in
    let epoch : c.self.inside.epoch ≡ epoch_of history = stands.epoch in
    StandsFor-passed c.args.self.now history c.args.round (down_packet down) stood
    (and_left (down.epoch == epoch_of history) (down.version == version_of history) (ne_eqb down.epoch (epoch_of history) (λ e. c.if-down-self.true (e ∙ sym epoch))))

pub returns-then-down-self-2-clause-stands : goal.returns-then-down-self-2-clause-stands
returns-then-down-self-2-clause-stands c = λ history stood.
    let stands = subst (λ (a : AgentState). AgentStandsFor a history) (sym c.self.view_is) stood in
    let down : Down = c.args.down.now in
    let version : c.self.inside.version ≡ version_of history = stands.version in
    StandsFor-passed c.args.self.now history c.args.round (down_packet down) stood
    (and_right (down.epoch == epoch_of history) (down.version == version_of history) (ne_eqb down.version (version_of history) (λ e. c.if-down-self-2.true (e ∙ sym version))))

-- ---- a fresh number

mine-by : (agent now : AgentState) (down : Down) → agent ≡ now → IsAllocation now.endpoints now.b down → down.dst ≡ now.me → down.epoch ≡ agent.epoch → down.version ≡ agent.version → IsMine agent down
mine-by agent now down view rules own epoch version = record {
  rules = subst (λ (a : AgentState). IsAllocation a.endpoints a.b down) (sym view) rules;
  destination = own ∙ sym (ap (λ (a : AgentState). a.me) view);
  epoch = epoch;
  version = version;
}

may_take : (agent now : AgentState) (round : ℕ) (down : Down) → agent ≡ now → IsSound agent → IsMine agent down → round ≡ now.round → round < 100000
    → ((history : AgentHistory) → AgentStandsFor agent history → Fresh ≡ receive_verdict (reorder_of agent.arrived.version) (arrived history) down.seq)
    → (history : AgentHistory) × AgentStandsFor now history × (takes history (down_packet down) ≡ true → MayTake now.g history round (down_packet down))
    → HasRoom agent round (down_packet down)
may_take agent now round down view sound mine at rounds fresh (history, stands, may) =
    let stands_here = subst (λ (a : AgentState). AgentStandsFor a history) (sym view) stands in
    let here : round ≡ agent.round = at ∙ sym (ap (λ (a : AgentState). a.round) view) in
    let it = takes-it agent history down stands_here sound mine (fresh history stands_here) in
    let may_here : MayTake agent.g history agent.round (down_packet down) =
    subst (λ (r : ℕ). MayTake agent.g history r (down_packet down)) here
    (subst (λ (a : AgentState). MayTake a.g history round (down_packet down)) (sym view) (may it)) in
    subst (λ (r : ℕ). HasRoom agent r (down_packet down)) (sym here) (has-room agent history (down_packet down) stands_here (omega (arith, here, rounds)) mine.rules.count may_here)

slots-by : (agent : AgentState) (round : ℕ) (down : Down) (vec : Vec FlowLine) (old new : List FlowLine) (waiting waiting' : List (List Told)) (seq : ℕ)
    → old ≡ vec.items → length old ≡ vec.len → seq ≡ agent.sent.outstanding.newest → vec.items ≡ agent.lines → waiting ≡ agent.waiting
    → length new ≡ length old
    → ((dst : ℕ) → line_at new dst ≡ with_missed (seq + 1) (cond (leb round (down.batch + 2 * agent.g + 2)) 0 (slots_to dst down.told.items)) (line_at old dst))
    → (down.told.items ≢ [] → round ≤ down.batch + 2 * agent.g + 2 → waiting' ≡ set waiting (down.batch % 3) down.told.items)
    → ((down.told.items ≡ []) ⊎ (down.batch + 2 * agent.g + 2 < round) → waiting' ≡ waiting)
    → AreTaken agent round down (with_items vec new).items waiting'
slots-by agent round down vec old new waiting waiting' seq value long same lines places as_long counted put kept =
    let whole = with_items_is vec new (as_long ∙ long) in
    record {
      long = ap (λ (ls : List FlowLine). length ls) whole ∙ as_long ∙ ap (λ (ls : List FlowLine). length ls) (value ∙ lines);
      counted = λ dst.
          let n = cond (leb round (down.batch + 2 * agent.g + 2)) 0 (slots_to dst down.told.items) in
          ap (λ (ls : List FlowLine). line_at ls dst) whole ∙ counted dst
          ∙ ap (λ (ls : List FlowLine). with_missed (seq + 1) n (line_at ls dst)) (value ∙ lines)
          ∙ ap (λ (k : ℕ). with_missed (k + 1) n (line_at agent.lines dst)) same;
      put = λ some in_time. put some in_time ∙ ap (λ (ws : List (List Told)). set ws (down.batch % 3) down.told.items) places;
      kept = λ why. kept why ∙ places;
    }

pub take_slots-requires-clause-late : goal.take_slots-requires-clause-late
take_slots-requires-clause-late c = λ some.
    let agent : AgentState = the_view c.self.inside in
    let (sound, calls, same) = c.self.invariant in
    let down : Down = c.args.down.now in
    let mine = mine-by agent c.args.self.now down c.self.view_is c.requires.rules c.requires.own c.if-down-self.false c.if-down-self-2.false in
    let fresh : (history : AgentHistory) → AgentStandsFor agent history → Fresh ≡ receive_verdict (reorder_of agent.arrived.version) (arrived history) down.seq = λ history stands.
    sym c.in-Fresh.is ∙ c.take.ensures.verdict (arrived history) stands.arrived in
    let may = may_take agent c.args.self.now c.args.round down c.self.view_is sound mine c.requires.round c.requires.rounds fresh c.requires.may_take in
    let late = may.late some in
    omega (arith, late)

pub take_slots-requires-clause-room : goal.take_slots-requires-clause-room
take_slots-requires-clause-room c =
    let agent : AgentState = the_view c.self.inside in
    let (sound, calls, same) = c.self.invariant in
    let down : Down = c.args.down.now in
    let mine = mine-by agent c.args.self.now down c.self.view_is c.requires.rules c.requires.own c.if-down-self.false c.if-down-self-2.false in
    subst (λ (ls : List FlowLine). All (λ (line : FlowLine). line.missed + length down.told.items < 4294967296) ls) (sym c.deref_mut.ensures.value)
    (All-lines agent.lines (λ (line : FlowLine). line.missed + length down.told.items < 4294967296) (λ dst. omega (arith, (sound.lines dst).missed, mine.rules.count)))

pub invariant_of-self : goal.invariant_of-self
invariant_of-self c =
    let agent : AgentState = the_view c.self.inside in
    let (sound, calls, same) = c.self.invariant in
    let down : Down = c.args.down.now in
    let mine = mine-by agent c.args.self.now down c.self.view_is c.requires.rules c.requires.own c.if-down-self.false c.if-down-self-2.false in
    let (history, stands) = calls in
    let fresh : (history : AgentHistory) → AgentStandsFor agent history → Fresh ≡ receive_verdict (reorder_of agent.arrived.version) (arrived history) down.seq = λ history stands.
    sym c.in-Fresh.is ∙ c.take.ensures.verdict (arrived history) stands.arrived in
    let may = may_take agent c.args.self.now c.args.round down c.self.view_is sound mine c.requires.round c.requires.rounds fresh c.requires.may_take in
    let slots = slots-by agent c.args.round down c.self.inside.lines c.deref_mut.result.now c.take_slots.new.lines c.self.inside.waiting c.take_slots.new.waiting c.self.inside.request.seq
    c.deref_mut.ensures.value c.deref_mut.ensures.len same.number (λ i. agent.lines) (λ i. agent.waiting) c.take_slots.ensures.length c.take_slots.ensures.lines c.take_slots.ensures.waiting c.take_slots.ensures.others in
    let read : (history : AgentHistory) → AgentStandsFor agent history → Read agent history (down_packet down) c.take.new.self c.read_ack-self-inside.new.sent c.read_ack-self-inside.result = λ history stands. (
      c.take.ensures.stands (arrived history) stands.arrived,
      c.read_ack-self-inside.ensures.stands (bare_numbers agent.endpoints agent.g history) stands.sent,
      c.read_ack-self-inside.ensures.acknowledged (bare_numbers agent.endpoints agent.g history) stands.sent,
    ) in
    let lines = (with_items c.self.inside.lines c.take_slots.new.lines).items in
    let waiting = c.take_slots.new.waiting in
    let now : c.args.round ≡ agent.round = c.requires.round ∙ sym (ap (λ (a : AgentState). a.round) c.self.view_is) in (
      Sound-slots agent c.args.round down c.take.new.self c.read_ack-self-inside.new.sent c.read_ack-self-inside.result lines waiting sound mine may c.take.ensures.version c.read_ack-self-inside.ensures.version c.read_ack-self-inside.ensures.newest slots,
      (
        TakesDown c.args.round (down_packet down) ∷ history,
        takes-slots c.agents_count_slots.ensures.taking agent history c.args.round down c.take.new.self c.read_ack-self-inside.new.sent c.read_ack-self-inside.result lines waiting stands sound mine now may
            (fresh history stands) (read history stands) slots,
      ),
      Kept-takes agent _ c.self.inside.request.seq c.self.inside.unconfirmed c.take_slots.new.unconfirmed
          (λ dst. cond (leb c.args.round (down.batch + 2 * agent.g + 2)) 0 (slots_to dst down.told.items)) same c.read_ack-self-inside.ensures.newest (acknowledges-more agent history (down_packet down) c.take.new.self c.read_ack-self-inside.new.sent c.read_ack-self-inside.result (read history stands)) slots.counted
          c.take_slots.ensures.marked,
    )

pub returns-in-Fresh-clause-stands : goal.returns-in-Fresh-clause-stands
returns-in-Fresh-clause-stands c = λ history stands.
    let agent : AgentState = the_view c.self.inside in
    let (sound, calls, same) = c.self.invariant in
    let down : Down = c.args.down.now in
    let mine = mine-by agent c.args.self.now down c.self.view_is c.requires.rules c.requires.own c.if-down-self.false c.if-down-self-2.false in
    let here = subst (λ (a : AgentState). AgentStandsFor a history) (sym c.self.view_is) stands in
    let fresh : (history : AgentHistory) → AgentStandsFor agent history → Fresh ≡ receive_verdict (reorder_of agent.arrived.version) (arrived history) down.seq = λ history stands.
    sym c.in-Fresh.is ∙ c.take.ensures.verdict (arrived history) stands.arrived in
    let may = may_take agent c.args.self.now c.args.round down c.self.view_is sound mine c.requires.round c.requires.rounds fresh c.requires.may_take in
    let slots = slots-by agent c.args.round down c.self.inside.lines c.deref_mut.result.now c.take_slots.new.lines c.self.inside.waiting c.take_slots.new.waiting c.self.inside.request.seq
    c.deref_mut.ensures.value c.deref_mut.ensures.len same.number (λ i. agent.lines) (λ i. agent.waiting) c.take_slots.ensures.length c.take_slots.ensures.lines c.take_slots.ensures.waiting c.take_slots.ensures.others in
    let read : (history : AgentHistory) → AgentStandsFor agent history → Read agent history (down_packet down) c.take.new.self c.read_ack-self-inside.new.sent c.read_ack-self-inside.result = λ history stands. (
      c.take.ensures.stands (arrived history) stands.arrived,
      c.read_ack-self-inside.ensures.stands (bare_numbers agent.endpoints agent.g history) stands.sent,
      c.read_ack-self-inside.ensures.acknowledged (bare_numbers agent.endpoints agent.g history) stands.sent,
    ) in
    let lines = (with_items c.self.inside.lines c.take_slots.new.lines).items in
    let waiting = c.take_slots.new.waiting in
    let now : c.args.round ≡ agent.round = c.requires.round ∙ sym (ap (λ (a : AgentState). a.round) c.self.view_is) in
    takes-slots c.agents_count_slots.ensures.taking agent history c.args.round down c.take.new.self c.read_ack-self-inside.new.sent c.read_ack-self-inside.result lines waiting here sound mine now may
    (fresh history here) (read history here) slots

-- ---- a number that is old or came before

pub invariant_of-self-in-Old : goal.invariant_of-self-in-Old
invariant_of-self-in-Old c =
    let agent : AgentState = the_view c.self.inside in
    let (sound, calls, same) = c.self.invariant in
    let down : Down = c.args.down.now in
    let mine = mine-by agent c.args.self.now down c.self.view_is c.requires.rules c.requires.own c.if-down-self.false c.if-down-self-2.false in
    let (history, stands) = calls in
    let read : (history : AgentHistory) → AgentStandsFor agent history → Read agent history (down_packet down) c.take.new.self c.read_ack-self-inside.new.sent c.read_ack-self-inside.result = λ history stands. (
      c.take.ensures.stands (arrived history) stands.arrived,
      c.read_ack-self-inside.ensures.stands (bare_numbers agent.endpoints agent.g history) stands.sent,
      c.read_ack-self-inside.ensures.acknowledged (bare_numbers agent.endpoints agent.g history) stands.sent,
    ) in (
      Sound-reads agent c.take.new.self c.read_ack-self-inside.new.sent c.read_ack-self-inside.result sound c.take.ensures.version c.read_ack-self-inside.ensures.version c.read_ack-self-inside.ensures.newest,
      (
        TakesDown c.args.round (down_packet down) ∷ history,
        reads agent history c.args.round down c.take.new.self c.read_ack-self-inside.new.sent c.read_ack-self-inside.result Old stands sound mine
            (sym c.in-Old.is ∙ c.take.ensures.verdict (arrived history) stands.arrived) (λ i. false) (read history stands),
      ),
      Kept-makes agent _ c.self.inside.request.seq c.self.inside.unconfirmed same.marked (λ i. agent.lines) (acknowledges-more agent history (down_packet down) c.take.new.self c.read_ack-self-inside.new.sent c.read_ack-self-inside.result (read history stands))
          (same.number ∙ sym c.read_ack-self-inside.ensures.newest),
    )

pub returns-in-Old-clause-stands : goal.returns-in-Old-clause-stands
returns-in-Old-clause-stands c = λ history stands.
    let agent : AgentState = the_view c.self.inside in
    let (sound, calls, same) = c.self.invariant in
    let down : Down = c.args.down.now in
    let mine = mine-by agent c.args.self.now down c.self.view_is c.requires.rules c.requires.own c.if-down-self.false c.if-down-self-2.false in
    let here = subst (λ (a : AgentState). AgentStandsFor a history) (sym c.self.view_is) stands in
    let read : (history : AgentHistory) → AgentStandsFor agent history → Read agent history (down_packet down) c.take.new.self c.read_ack-self-inside.new.sent c.read_ack-self-inside.result = λ history stands. (
      c.take.ensures.stands (arrived history) stands.arrived,
      c.read_ack-self-inside.ensures.stands (bare_numbers agent.endpoints agent.g history) stands.sent,
      c.read_ack-self-inside.ensures.acknowledged (bare_numbers agent.endpoints agent.g history) stands.sent,
    ) in
    reads agent history c.args.round down c.take.new.self c.read_ack-self-inside.new.sent c.read_ack-self-inside.result Old here sound mine
    (sym c.in-Old.is ∙ c.take.ensures.verdict (arrived history) here.arrived) (λ i. false) (read history here)

pub invariant_of-self-in-Repeat : goal.invariant_of-self-in-Repeat
invariant_of-self-in-Repeat c =
    let agent : AgentState = the_view c.self.inside in
    let (sound, calls, same) = c.self.invariant in
    let down : Down = c.args.down.now in
    let mine = mine-by agent c.args.self.now down c.self.view_is c.requires.rules c.requires.own c.if-down-self.false c.if-down-self-2.false in
    let (history, stands) = calls in
    let read : (history : AgentHistory) → AgentStandsFor agent history → Read agent history (down_packet down) c.take.new.self c.read_ack-self-inside.new.sent c.read_ack-self-inside.result = λ history stands. (
      c.take.ensures.stands (arrived history) stands.arrived,
      c.read_ack-self-inside.ensures.stands (bare_numbers agent.endpoints agent.g history) stands.sent,
      c.read_ack-self-inside.ensures.acknowledged (bare_numbers agent.endpoints agent.g history) stands.sent,
    ) in (
      Sound-reads agent c.take.new.self c.read_ack-self-inside.new.sent c.read_ack-self-inside.result sound c.take.ensures.version c.read_ack-self-inside.ensures.version c.read_ack-self-inside.ensures.newest,
      (
        TakesDown c.args.round (down_packet down) ∷ history,
        reads agent history c.args.round down c.take.new.self c.read_ack-self-inside.new.sent c.read_ack-self-inside.result Repeat stands sound mine
            (sym c.in-Repeat.is ∙ c.take.ensures.verdict (arrived history) stands.arrived) (λ i. false) (read history stands),
      ),
      Kept-makes agent _ c.self.inside.request.seq c.self.inside.unconfirmed same.marked (λ i. agent.lines) (acknowledges-more agent history (down_packet down) c.take.new.self c.read_ack-self-inside.new.sent c.read_ack-self-inside.result (read history stands))
          (same.number ∙ sym c.read_ack-self-inside.ensures.newest),
    )

pub returns-in-Repeat-clause-stands : goal.returns-in-Repeat-clause-stands
returns-in-Repeat-clause-stands c = λ history stands.
    let agent : AgentState = the_view c.self.inside in
    let (sound, calls, same) = c.self.invariant in
    let down : Down = c.args.down.now in
    let mine = mine-by agent c.args.self.now down c.self.view_is c.requires.rules c.requires.own c.if-down-self.false c.if-down-self-2.false in
    let here = subst (λ (a : AgentState). AgentStandsFor a history) (sym c.self.view_is) stands in
    let read : (history : AgentHistory) → AgentStandsFor agent history → Read agent history (down_packet down) c.take.new.self c.read_ack-self-inside.new.sent c.read_ack-self-inside.result = λ history stands. (
      c.take.ensures.stands (arrived history) stands.arrived,
      c.read_ack-self-inside.ensures.stands (bare_numbers agent.endpoints agent.g history) stands.sent,
      c.read_ack-self-inside.ensures.acknowledged (bare_numbers agent.endpoints agent.g history) stands.sent,
    ) in
    reads agent history c.args.round down c.take.new.self c.read_ack-self-inside.new.sent c.read_ack-self-inside.result Repeat here sound mine
    (sym c.in-Repeat.is ∙ c.take.ensures.verdict (arrived history) here.arrived) (λ i. false) (read history here)

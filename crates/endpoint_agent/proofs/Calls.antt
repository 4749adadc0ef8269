-- What an agent stands for after each of its calls.
use Rattle.std.proofs.Common.{◌≡◌, ◌≢◌, ℕ, zero, suc, get_or, leb, ◌%◌, ◌+◌, ◌-◌, ◌<◌, ◌≤◌, max, Bool, true, false, cond, ◌&&◌, ◌==◌, not, List, [], ◌∷◌, map, length, set, unwrap_or, refl, sym, ◌∙◌, ap, subst, inl, inr, arith}
use Rattle.std.specs.Prelude.{sum_by}
use Rattle.std.proofs.lemmas.Bool.{cases_Bool, cases_eq, cond-true, cond-false, eq-eqb, ne_eqb}
use Rattle.std.proofs.lemmas.List.{get_or-set_same, get_or-set_other}
use Rattle.ack_window.specs.declared.send_window.Decided.{Decided}
use Rattle.ack_window.specs.Arrivals.{receive_verdict, is_fresh}
use Rattle.ack_window.specs.Outstanding.{may_send_new}
use Rattle.ack_window.specs.Sends.{Event, Sends, Reads, newest_of, newest_content, open_numbers, decided_by}
use Rattle.ack_window.specs.Versions.{reorder_of, span_of}
use Rattle.ack_window.specs.Windows.{Receiver, Sender, HasHeard, HasDone}
use Rattle.fcp_framing.specs.declared.packet.Demand.{Demand}
use Rattle.fcp_framing.specs.declared.packet.Told.{Told}
use Rattle.endpoint_history.specs.Packets.{DownPacket, slots_to}
use Rattle.endpoint_history.specs.Agent.{AgentHistory, Boots, Asks, TakesDown, MakesUp, SendsDue, TakenDown, version_of, epoch_of, is_current, takes, arrived, taken, is_none_taken, is_in_time, asked, missed, sends_new, unconfirmed, numbers}
use Rattle.endpoint_history.specs.AgentLaws.{TakingBringsSlots}
use Rattle.endpoint_history.specs.Sending.{slots_of_telling, due, sent_of, sent_now, sends, sent_in}
use Rattle.endpoint_agent.specs.declared.lines.FlowLine.{FlowLine}
use Rattle.endpoint_agent.specs.Carrying.{bare, bare_numbers, greatest_acknowledged, greatest_shown, carried_from}
use Rattle.endpoint_agent.specs.Lines.{with_asked, with_missed, with_sent}
use Rattle.endpoint_agent.specs.Standing.{line_of, AgentStandsFor}
use Rattle.endpoint_agent.specs.Timely.{AreTold}
use Rattle.endpoint_agent.specs.State.{AgentState, line_at, first_waiting, waits_of}
use Rattle.endpoint_agent.proofs.Bare.{bare-newest, bare-may_send, greatest-sends, greatest-reads}
use Rattle.endpoint_agent.proofs.Due.{Waits}
use Rattle.endpoint_agent.proofs.Sound.{opened}
use Rattle.endpoint_agent.proofs.Walking.{no_line, to}

-- the number of the next request
pub next-number : (agent : AgentState) (history : AgentHistory) → AgentStandsFor agent history → agent.sent.outstanding.newest + 1 ≡ newest_of (numbers agent.endpoints agent.g history) + 1
next-number agent history stands = ap (λ (n : ℕ). n + 1) (stands.sent.newest ∙ bare-newest (numbers agent.endpoints agent.g history))

-- ---- asking

same_asked : (a n : ℕ) → (a + n == a) ≡ (n == 0)
same_asked a n = elim (cases_eq n 0) [
  | inl none ↦ eq-eqb (a + n) a (omega (arith, none)) ∙ sym (eq-eqb n 0 none)
  | inr some ↦ ne_eqb (a + n) a (λ e. some (omega (arith, e))) ∙ sym (ne_eqb n 0 some)
]

line-asks : (endpoints b g : ℕ) (history : AgentHistory) (dst n other next : ℕ) (line : FlowLine) → line ≡ line_of endpoints b g history other → next ≡ newest_of (numbers endpoints g history) + 1
    → cond (dst == other) (with_asked next n line) line ≡ line_of endpoints b g (Asks dst n ∷ history) other
line-asks endpoints b g history dst n other next line was is = elim (cases_Bool (dst == other)) [
  | inl t ↦ rw (t, was, is, same_asked (asked history other) n) refl
  | inr f ↦ rw (f, was, eq-eqb (asked history other) (asked history other) refl) refl
]

pub line_at-asks : (lines : List FlowLine) (dst n next : ℕ) (line : FlowLine) → dst < length lines → line ≡ with_asked next n (line_at lines dst)
    → (other : ℕ) → line_at (set lines dst line) other ≡ cond (dst == other) (with_asked next n (line_at lines other)) (line_at lines other)
line_at-asks lines dst n next line within changed other = elim (cases_eq dst other) [
  | inl here ↦
      ap (λ (k : ℕ). line_at (set lines dst line) k) (sym here) ∙ get_or-set_same lines dst line no_line within ∙ changed ∙ ap (λ (k : ℕ). with_asked next n (line_at lines k)) here
      ∙ sym (cond-true (dst == other) (with_asked next n (line_at lines other)) (line_at lines other) (eq-eqb dst other here))
  | inr away ↦
      get_or-set_other lines dst other line no_line (λ e. away (sym e))
      ∙ sym (cond-false (dst == other) (with_asked next n (line_at lines other)) (line_at lines other) (ne_eqb dst other away))
]

pub StandsFor-asks : (agent : AgentState) (history : AgentHistory) (dst n : ℕ) (lines : List FlowLine) → AgentStandsFor agent history
    → ((other : ℕ) → line_at lines other ≡ cond (dst == other) (with_asked (agent.sent.outstanding.newest + 1) n (line_at agent.lines other)) (line_at agent.lines other))
    → AgentStandsFor (record agent { lines = lines }) (Asks dst n ∷ history)
StandsFor-asks agent history dst n lines stands asks = record {
  epoch = stands.epoch;
  version = stands.version;
  arrived = stands.arrived;
  sent = stands.sent;
  has_begun = stands.has_begun;
  acknowledged = stands.acknowledged;
  named = stands.named;
  lines = λ other below. asks other
      ∙ line-asks agent.endpoints agent.b agent.g history dst n other (agent.sent.outstanding.newest + 1) (line_at agent.lines other) (stands.lines other below) (next-number agent history stands);
  waiting = stands.waiting;
  round = stands.round;
  told = stands.told;
}

-- ---- a boot

abbrev nothing : List Told
nothing = []

no-place : (n : ℕ) → get_or (nothing ∷ nothing ∷ nothing ∷ []) n nothing ≡ nothing
no-place zero = refl
no-place (suc zero) = refl
no-place (suc (suc zero)) = refl
no-place (suc (suc (suc n))) = refl

no-either : (b : Bool) → cond b nothing nothing ≡ nothing
no-either true = refl
no-either false = refl

no-waits : (b g round batch : ℕ) → slots_of_telling b (record { batch = batch; told = waits_of g round (nothing ∷ nothing ∷ nothing ∷ []) batch }) ≡ []
no-waits b g round batch =
    ap (λ (told : List Told). slots_of_telling b (record { batch = batch; told = told }))
    (ap (λ (told : List Told). cond (leb batch (first_waiting g round + 2)) told nothing) (no-place (batch % 3)) ∙ no-either (leb batch (first_waiting g round + 2)))

pub StandsFor-boots : (agent : AgentState) (history : AgentHistory) (version : ℕ) (heard : Receiver) (sent : Sender (Unit {0})) (lines : List FlowLine) → AgentStandsFor agent history
    → heard.version ≡ version → sent.version ≡ version → HasHeard heard [] → HasDone sent [] → ((dst : ℕ) → line_at lines dst ≡ no_line)
    → AgentStandsFor (record agent { epoch = agent.epoch + 1; version = version; arrived = heard; sent = sent; has_begun = false; acknowledged = 0; named = []; lines = lines; waiting = [] ∷ [] ∷ [] ∷ [] }) (Boots version ∷ history)
StandsFor-boots agent history version heard sent lines stands heard_version sent_version hears does none = record {
  epoch = ap (λ (n : ℕ). n + 1) stands.epoch;
  version = refl;
  arrived = hears;
  sent = does;
  has_begun = refl;
  acknowledged = refl;
  named = refl;
  lines = λ dst below. none dst;
  waiting = λ batch from. no-waits agent.b agent.g agent.round batch;
  round = stands.round;
  told = tt;
}

pub StandsFor-opens : (me endpoints b g : ℕ) (heard : Receiver) (sent : Sender (Unit {0})) (lines : List FlowLine) → HasHeard heard [] → HasDone sent [] → ((dst : ℕ) → line_at lines dst ≡ no_line)
    → AgentStandsFor (opened me endpoints b g heard sent lines) []
StandsFor-opens me endpoints b g heard sent lines hears does none = record {
  epoch = refl;
  version = refl;
  arrived = hears;
  sent = does;
  has_begun = refl;
  acknowledged = refl;
  named = refl;
  lines = λ dst below. none dst;
  waiting = λ batch from. no-waits b g 0 batch;
  round = refl;
  told = tt;
}

-- ---- the end of a round

pub sent_in-is : (b g : ℕ) (history : AgentHistory) (round : ℕ) → sent_in b g history round ≡ sent_of (λ dst. asked history dst - sends b g history dst) (due b g history round)
unfolding sent_now
sent_in-is b g history round = refl

AreTold-later : (round : ℕ) (ts : List TakenDown) → AreTold round ts → AreTold (round + 1) ts
AreTold-later round [] told = tt
AreTold-later round (t ∷ ts) told = (told.0, λ some. let low = told.1 some in omega arith, AreTold-later round ts told.2)

pub StandsFor-ends : (agent : AgentState) (history : AgentHistory) (round : ℕ) (lines : List FlowLine) (waiting : List (List Told)) → AgentStandsFor agent history → round ≡ agent.round
    → ((dst : ℕ) → dst < agent.endpoints → line_at lines dst ≡ with_sent (to dst (sent_in agent.b agent.g history round)) (line_at agent.lines dst))
    → Waits agent.b agent.g (round + 1) waiting (taken history)
    → AgentStandsFor (record agent { lines = lines; waiting = waiting; round = round + 1; is_made = false }) (SendsDue round ∷ history)
StandsFor-ends agent history round lines waiting stands now counted waits = record {
  epoch = stands.epoch;
  version = stands.version;
  arrived = stands.arrived;
  sent = stands.sent;
  has_begun = stands.has_begun;
  acknowledged = stands.acknowledged;
  named = stands.named;
  lines = λ dst below. counted dst below ∙ ap (with_sent (to dst (sent_in agent.b agent.g history round))) (stands.lines dst below);
  waiting = waits;
  round = refl;
  told = AreTold-later round (taken history) (subst (λ (n : ℕ). AreTold n (taken history)) (sym now) stands.told);
}

-- ---- a packet is made

sends_new-is : (history : AgentHistory) (sent : List (Event (List Demand))) →
    sends_new history sent
    ≡ (not (is_none_taken (taken history)) && may_send_new (span_of (version_of history)) (newest_of sent) (open_numbers (reorder_of (version_of history)) (span_of (version_of history)) sent))
unfolding sends_new
sends_new-is history sent = refl

abbrev pub may_of : Sender (Unit {0}) → Bool
may_of sent = may_send_new (span_of sent.version) sent.outstanding.newest sent.outstanding.unresolved

pub may-is : (agent : AgentState) (history : AgentHistory) → AgentStandsFor agent history → agent.sent.version ≡ agent.version →
    may_of agent.sent
    ≡ may_send_new (span_of (version_of history)) (newest_of (numbers agent.endpoints agent.g history)) (open_numbers (reorder_of (version_of history)) (span_of (version_of history)) (numbers agent.endpoints agent.g history))
may-is agent history stands same =
    let sent = bare_numbers agent.endpoints agent.g history in
    let is = same ∙ stands.version in
    ap (λ (n : ℕ). may_send_new (span_of agent.sent.version) n agent.sent.outstanding.unresolved) stands.sent.newest
    ∙ ap (λ (xs : List _). may_send_new (span_of agent.sent.version) (newest_of sent) xs) stands.sent.unresolved
    ∙ ap (λ (v : ℕ). may_send_new (span_of v) (newest_of sent) (open_numbers (reorder_of v) (span_of v) sent)) is
    ∙ bare-may_send (reorder_of (version_of history)) (span_of (version_of history)) (numbers agent.endpoints agent.g history)

pub sends_new-by : (agent : AgentState) (history : AgentHistory) → AgentStandsFor agent history → agent.sent.version ≡ agent.version →
    sends_new history (numbers agent.endpoints agent.g history) ≡ (agent.has_begun && may_of agent.sent)
sends_new-by agent history stands same =
    sends_new-is history (numbers agent.endpoints agent.g history)
    ∙ ap (λ (b : Bool). b && may_send_new (span_of (version_of history)) (newest_of (numbers agent.endpoints agent.g history)) (open_numbers (reorder_of (version_of history)) (span_of (version_of history)) (numbers agent.endpoints agent.g history))) (sym stands.has_begun)
    ∙ ap (λ (b : Bool). agent.has_begun && b) (sym (may-is agent history stands same))

numbers-new : (endpoints g : ℕ) (history : AgentHistory) → sends_new history (numbers endpoints g history) ≡ true → numbers endpoints g (MakesUp ∷ history) ≡ Sends (unconfirmed endpoints g history (numbers endpoints g history)) ∷ numbers endpoints g history
numbers-new endpoints g history new =
    cond-true (sends_new history (numbers endpoints g history)) (Sends (unconfirmed endpoints g history (numbers endpoints g history)) ∷ numbers endpoints g history) (numbers endpoints g history) new

numbers-again : (endpoints g : ℕ) (history : AgentHistory) → sends_new history (numbers endpoints g history) ≡ false → numbers endpoints g (MakesUp ∷ history) ≡ numbers endpoints g history
numbers-again endpoints g history again =
    cond-false (sends_new history (numbers endpoints g history)) (Sends (unconfirmed endpoints g history (numbers endpoints g history)) ∷ numbers endpoints g history) (numbers endpoints g history) again

pub StandsFor-again : (agent : AgentState) (history : AgentHistory) → AgentStandsFor agent history → sends_new history (numbers agent.endpoints agent.g history) ≡ false → AgentStandsFor (record agent { is_made = true }) (MakesUp ∷ history)
StandsFor-again agent history stands again =
    let is = sym (numbers-again agent.endpoints agent.g history again) in
    record {
      epoch = stands.epoch;
      version = stands.version;
      arrived = stands.arrived;
      sent = subst (λ (ns : List (Event (List Demand))). HasDone agent.sent (map bare ns)) is stands.sent;
      has_begun = stands.has_begun;
      acknowledged = subst (λ (ns : List (Event (List Demand))). agent.acknowledged ≡ greatest_acknowledged (reorder_of agent.version) (span_of agent.version) (map bare ns)) is stands.acknowledged;
      named = subst (λ (ns : List (Event (List Demand))). agent.named ≡ unwrap_or (newest_content ns) []) is stands.named;
      lines = stands.lines;
      waiting = stands.waiting;
      round = stands.round;
      told = stands.told;
    }

pub StandsFor-new : (agent : AgentState) (history : AgentHistory) (sent : Sender (Unit {0})) (named : List Demand) → AgentStandsFor agent history → sends_new history (numbers agent.endpoints agent.g history) ≡ true
    → HasDone sent (Sends tt ∷ bare_numbers agent.endpoints agent.g history) → named ≡ unconfirmed agent.endpoints agent.g history (numbers agent.endpoints agent.g history)
    → AgentStandsFor (record agent { sent = sent; named = named; is_made = true }) (MakesUp ∷ history)
StandsFor-new agent history sent named stands new done names =
    let is = sym (numbers-new agent.endpoints agent.g history new) in
    record {
      epoch = stands.epoch;
      version = stands.version;
      arrived = stands.arrived;
      sent = subst (λ (ns : List (Event (List Demand))). HasDone sent (map bare ns)) is done;
      has_begun = stands.has_begun;
      acknowledged = subst (λ (ns : List (Event (List Demand))). agent.acknowledged ≡ greatest_acknowledged (reorder_of agent.version) (span_of agent.version) (map bare ns)) is
          (stands.acknowledged ∙ sym (greatest-sends (reorder_of agent.version) (span_of agent.version) tt (bare_numbers agent.endpoints agent.g history)));
      named = subst (λ (ns : List (Event (List Demand))). named ≡ unwrap_or (newest_content ns) []) is names;
      lines = stands.lines;
      waiting = stands.waiting;
      round = stands.round;
      told = stands.told;
    }

-- ---- parts of a history after a packet

taken-left : (history : AgentHistory) (round : ℕ) (packet : DownPacket) → takes history packet ≡ false → taken (TakesDown round packet ∷ history) ≡ taken history
taken-left history round packet left = cond-false (takes history packet) (record { round = round; packet = packet } ∷ taken history) (taken history) left

taken-takes : (history : AgentHistory) (round : ℕ) (packet : DownPacket) → takes history packet ≡ true → taken (TakesDown round packet ∷ history) ≡ record { round = round; packet = packet } ∷ taken history
taken-takes history round packet takes_it = cond-true (takes history packet) (record { round = round; packet = packet } ∷ taken history) (taken history) takes_it

-- the line of a flow where so many of its slots are missed
abbrev line_with : ℕ → ℕ → ℕ → AgentHistory → ℕ → ℕ → FlowLine
line_with endpoints b g history dst n = record {
  asked = asked history dst;
  sent = sends b g history dst;
  missed = n;
  carried_from = cond (n == missed g history dst) (carried_from endpoints g history dst) (newest_of (numbers endpoints g history) + 1);
}

line-left : (endpoints b g : ℕ) (history : AgentHistory) (round : ℕ) (packet : DownPacket) (dst : ℕ) → takes history packet ≡ false
    → line_of endpoints b g history dst ≡ line_of endpoints b g (TakesDown round packet ∷ history) dst
line-left endpoints b g history round packet dst left =
    let before = missed g history dst in
    let same : missed g (TakesDown round packet ∷ history) dst ≡ before = ap (λ (ts : List TakenDown). sum_by (λ (t : TakenDown). cond (is_in_time g t) 0 (slots_to dst t.packet.content.told)) ts) (taken-left history round packet left) in
    ap (λ (b' : Bool). record { asked = asked history dst; sent = sends b g history dst; missed = before; carried_from = cond b' (carried_from endpoints g history dst) (newest_of (numbers endpoints g history) + 1) }) (sym (eq-eqb before before refl))
    ∙ ap (line_with endpoints b g history dst) (sym same)

line-takes : (taking : TakingBringsSlots) (endpoints b g : ℕ) (history : AgentHistory) (round : ℕ) (packet : DownPacket) (dst next : ℕ) (line : FlowLine) → takes history packet ≡ true
    → line ≡ line_of endpoints b g history dst → next ≡ newest_of (numbers endpoints g history) + 1
    → with_missed next (cond (is_in_time g (record { round = round; packet = packet })) 0 (slots_to dst packet.content.told)) line ≡ line_of endpoints b g (TakesDown round packet ∷ history) dst
line-takes taking endpoints b g history round packet dst next line takes_it was is =
    let more = cond (is_in_time g (record { round = round; packet = packet })) 0 (slots_to dst packet.content.told) in
    let before = missed g history dst in
    let after : missed g (TakesDown round packet ∷ history) dst ≡ before + more = taking.late g round packet history dst takes_it in
    ap (λ (l : FlowLine). with_missed next more l) was
    ∙ ap (λ (n : ℕ). with_missed n more (line_of endpoints b g history dst)) is
    ∙ ap (λ (b' : Bool). record { asked = asked history dst; sent = sends b g history dst; missed = before + more; carried_from = cond b' (carried_from endpoints g history dst) (newest_of (numbers endpoints g history) + 1) }) (sym (same_asked before more))
    ∙ ap (line_with endpoints b g history dst) (sym after)

-- ---- a packet is taken or refused

current-is : (history : AgentHistory) (packet : DownPacket) → is_current history packet ≡ (packet.epoch == epoch_of history && packet.version == version_of history)
unfolding is_current
current-is history packet = refl

takes-is : (history : AgentHistory) (packet : DownPacket) → takes history packet ≡ (is_current history packet && is_fresh (receive_verdict (reorder_of (version_of history)) (arrived history) packet.seq))
unfolding takes
takes-is history packet = refl

-- of another epoch or version
pub StandsFor-passed : (agent : AgentState) (history : AgentHistory) (round : ℕ) (packet : DownPacket) → AgentStandsFor agent history → (packet.epoch == epoch_of history && packet.version == version_of history) ≡ false
    → AgentStandsFor agent (TakesDown round packet ∷ history)
StandsFor-passed agent history round packet stands other =
    let past = current-is history packet ∙ other in
    let left : takes history packet ≡ false = takes-is history packet ∙ ap (λ (b : Bool). b && is_fresh (receive_verdict (reorder_of (version_of history)) (arrived history) packet.seq)) past in
    let numbered = numbers agent.endpoints agent.g history in
    let is_same : numbers agent.endpoints agent.g (TakesDown round packet ∷ history) ≡ numbered = cond-false (is_current history packet) (Reads packet.ack ∷ numbered) numbered past in
    record {
      epoch = stands.epoch;
      version = stands.version;
      arrived = subst (HasHeard agent.arrived) (sym (cond-false (is_current history packet) (packet.seq ∷ arrived history) (arrived history) past)) stands.arrived;
      sent = subst (λ (ns : List (Event (List Demand))). HasDone agent.sent (map bare ns)) (sym is_same) stands.sent;
      has_begun = stands.has_begun ∙ ap (λ (ts : List TakenDown). not (is_none_taken ts)) (sym (taken-left history round packet left));
      acknowledged = stands.acknowledged ∙ ap (λ (ns : List (Event (List Demand))). greatest_acknowledged (reorder_of agent.version) (span_of agent.version) (map bare ns)) (sym is_same);
      named = stands.named ∙ ap (λ (ns : List (Event (List Demand))). unwrap_or (newest_content ns) []) (sym is_same);
      lines = λ dst below. stands.lines dst below ∙ line-left agent.endpoints agent.b agent.g history round packet dst left;
      waiting = subst (λ (ts : List TakenDown). Waits agent.b agent.g agent.round agent.waiting ts) (sym (taken-left history round packet left)) stands.waiting;
      round = stands.round;
      told = subst (AreTold agent.round) (sym (taken-left history round packet left)) stands.told;
    }

-- of this epoch and version: its acknowledgement is read
abbrev pub Read : AgentState → AgentHistory → DownPacket → Receiver → Sender (Unit {0}) → ℕ → Type 0
Read agent history packet heard sent acknowledged =
    HasHeard heard (packet.seq ∷ arrived history)
    × HasDone sent (Reads packet.ack ∷ bare_numbers agent.endpoints agent.g history)
    × (acknowledged ≡ greatest_shown agent.acknowledged (decided_by (reorder_of agent.sent.version) (span_of agent.sent.version) (bare_numbers agent.endpoints agent.g history) packet.ack))

at_least : (so_far : ℕ) (found : List (Decided (Unit {0}))) → so_far ≤ greatest_shown so_far found
at_least so_far [] = omega arith
at_least so_far (d ∷ found) = elim d.lost as (λ (b : Bool). so_far ≤ greatest_shown (cond b so_far (max so_far d.number)) found) [
  | true ↦ at_least so_far found
  | false ↦ let later = at_least (max so_far d.number) found in omega (arith, later)
]

pub acknowledges-more : (agent : AgentState) (history : AgentHistory) (packet : DownPacket) (heard : Receiver) (sent : Sender (Unit {0})) (acknowledged : ℕ) → Read agent history packet heard sent acknowledged → agent.acknowledged ≤ acknowledged
acknowledges-more agent history packet heard sent acknowledged read =
    let least = at_least agent.acknowledged (decided_by (reorder_of agent.sent.version) (span_of agent.sent.version) (bare_numbers agent.endpoints agent.g history) packet.ack) in
    omega (arith, read.2, least)

read-acknowledged : (agent : AgentState) (history : AgentHistory) (packet : DownPacket) (acknowledged : ℕ) → AgentStandsFor agent history → agent.sent.version ≡ agent.version
    → acknowledged ≡ greatest_shown agent.acknowledged (decided_by (reorder_of agent.sent.version) (span_of agent.sent.version) (bare_numbers agent.endpoints agent.g history) packet.ack)
    → acknowledged ≡ greatest_acknowledged (reorder_of agent.version) (span_of agent.version) (Reads packet.ack ∷ bare_numbers agent.endpoints agent.g history)
read-acknowledged agent history packet acknowledged stands same is =
    let sent = bare_numbers agent.endpoints agent.g history in
    is ∙ ap (λ (v : ℕ). greatest_shown agent.acknowledged (decided_by (reorder_of v) (span_of v) sent packet.ack)) same
    ∙ ap (λ (n : ℕ). greatest_shown n (decided_by (reorder_of agent.version) (span_of agent.version) sent packet.ack)) stands.acknowledged
    ∙ sym (greatest-reads (reorder_of agent.version) (span_of agent.version) sent packet.ack)

numbers-read : (endpoints g : ℕ) (history : AgentHistory) (round : ℕ) (packet : DownPacket) → is_current history packet ≡ true → numbers endpoints g (TakesDown round packet ∷ history) ≡ Reads packet.ack ∷ numbers endpoints g history
numbers-read endpoints g history round packet current = cond-true (is_current history packet) (Reads packet.ack ∷ numbers endpoints g history) (numbers endpoints g history) current

arrived-read : (history : AgentHistory) (round : ℕ) (packet : DownPacket) → is_current history packet ≡ true → arrived (TakesDown round packet ∷ history) ≡ packet.seq ∷ arrived history
arrived-read history round packet current = cond-true (is_current history packet) (packet.seq ∷ arrived history) (arrived history) current

abbrev pub Current : AgentHistory → DownPacket → Type 0
Current history packet = (packet.epoch ≡ epoch_of history) × (packet.version ≡ version_of history)

current-from : (history : AgentHistory) (packet : DownPacket) → Current history packet → is_current history packet ≡ true
current-from history packet (epoch, version) =
    current-is history packet ∙ ap (λ (b : Bool). b && packet.version == version_of history) (eq-eqb packet.epoch (epoch_of history) epoch) ∙ eq-eqb packet.version (version_of history) version

pub takes-by : (history : AgentHistory) (packet : DownPacket) (fresh : Bool) → Current history packet → is_fresh (receive_verdict (reorder_of (version_of history)) (arrived history) packet.seq) ≡ fresh → takes history packet ≡ fresh
takes-by history packet fresh current verdict =
    takes-is history packet ∙ ap (λ (b : Bool). b && is_fresh (receive_verdict (reorder_of (version_of history)) (arrived history) packet.seq)) (current-from history packet current) ∙ verdict

-- its number is old, or came before
pub StandsFor-read : (agent : AgentState) (history : AgentHistory) (round : ℕ) (packet : DownPacket) (heard : Receiver) (sent : Sender (Unit {0})) (acknowledged : ℕ) → AgentStandsFor agent history → agent.sent.version ≡ agent.version
    → Current history packet → is_fresh (receive_verdict (reorder_of (version_of history)) (arrived history) packet.seq) ≡ false → Read agent history packet heard sent acknowledged
    → AgentStandsFor (record agent { arrived = heard; sent = sent; acknowledged = acknowledged }) (TakesDown round packet ∷ history)
StandsFor-read agent history round packet heard sent acknowledged stands same current verdict (hears, does, shows) =
    let is_now = current-from history packet current in
    let left = takes-by history packet false current verdict in
    let read = sym (numbers-read agent.endpoints agent.g history round packet is_now) in
    record {
      epoch = stands.epoch;
      version = stands.version;
      arrived = subst (HasHeard heard) (sym (arrived-read history round packet is_now)) hears;
      sent = subst (λ (ns : List (Event (List Demand))). HasDone sent (map bare ns)) read does;
      has_begun = stands.has_begun ∙ ap (λ (ts : List TakenDown). not (is_none_taken ts)) (sym (taken-left history round packet left));
      acknowledged = subst (λ (ns : List (Event (List Demand))). acknowledged ≡ greatest_acknowledged (reorder_of agent.version) (span_of agent.version) (map bare ns)) read
          (read-acknowledged agent history packet acknowledged stands same shows);
      named = stands.named ∙ ap (λ (ns : List (Event (List Demand))). unwrap_or (newest_content ns) []) read;
      lines = λ dst below. stands.lines dst below ∙ line-left agent.endpoints agent.b agent.g history round packet dst left;
      waiting = subst (λ (ts : List TakenDown). Waits agent.b agent.g agent.round agent.waiting ts) (sym (taken-left history round packet left)) stands.waiting;
      round = stands.round;
      told = subst (AreTold agent.round) (sym (taken-left history round packet left)) stands.told;
    }

-- its number is fresh
pub StandsFor-takes : (taking : TakingBringsSlots) (agent : AgentState) (history : AgentHistory) (round : ℕ) (packet : DownPacket) (heard : Receiver) (sent : Sender (Unit {0})) (acknowledged : ℕ) (lines : List FlowLine) (waiting : List (List Told))
    → AgentStandsFor agent history → agent.sent.version ≡ agent.version
    → Current history packet → is_fresh (receive_verdict (reorder_of (version_of history)) (arrived history) packet.seq) ≡ true → Read agent history packet heard sent acknowledged
    → ((dst : ℕ) → line_at lines dst
    ≡ with_missed (agent.sent.outstanding.newest + 1) (cond (is_in_time agent.g (record { round = round; packet = packet })) 0 (slots_to dst packet.content.told)) (line_at agent.lines dst))
    → Waits agent.b agent.g agent.round waiting (record { round = round; packet = packet } ∷ taken history)
    → length packet.content.told ≤ 64 → (packet.content.told ≢ [] → packet.content.batch ≤ agent.round)
    → AgentStandsFor (record agent { arrived = heard; sent = sent; has_begun = true; acknowledged = acknowledged; lines = lines; waiting = waiting }) (TakesDown round packet ∷ history)
StandsFor-takes taking agent history round packet heard sent acknowledged lines waiting stands same current verdict (hears, does, shows) counted waits few late =
    let is_now = current-from history packet current in
    let takes_it = takes-by history packet true current verdict in
    let read = sym (numbers-read agent.endpoints agent.g history round packet is_now) in
    let is_taken = sym (taken-takes history round packet takes_it) in
    record {
      epoch = stands.epoch;
      version = stands.version;
      arrived = subst (HasHeard heard) (sym (arrived-read history round packet is_now)) hears;
      sent = subst (λ (ns : List (Event (List Demand))). HasDone sent (map bare ns)) read does;
      has_begun = ap (λ (ts : List TakenDown). not (is_none_taken ts)) is_taken;
      acknowledged = subst (λ (ns : List (Event (List Demand))). acknowledged ≡ greatest_acknowledged (reorder_of agent.version) (span_of agent.version) (map bare ns)) read
          (read-acknowledged agent history packet acknowledged stands same shows);
      named = stands.named ∙ ap (λ (ns : List (Event (List Demand))). unwrap_or (newest_content ns) []) read;
      lines = λ dst below. counted dst
          ∙ line-takes taking agent.endpoints agent.b agent.g history round packet dst (agent.sent.outstanding.newest + 1) (line_at agent.lines dst) takes_it (stands.lines dst below) (next-number agent history stands);
      waiting = subst (λ (ts : List TakenDown). Waits agent.b agent.g agent.round waiting ts) is_taken waits;
      round = stands.round;
      told = subst (AreTold agent.round) is_taken (few, late, stands.told);
    }

-- What the numbers of an agent keep to after each of its calls.
use Rattle.std.proofs.Common.{◌≡◌, ◌≢◌, ℕ, zero, suc, get_or, ◌+◌, ◌<◌, ◌≤◌, Bool, true, false, cond, ◌==◌, ◌||◌, List, [], ◌∷◌, length, set, replicate, All, refl, sym, ◌∙◌, ap, subst, inl, inr, arith}
use Rattle.std.proofs.lemmas.Bool.{cases_eq, cases_lt, cond-false, eq-eqb, ne_eqb, eqb-true, false≢true, or_parts}
use Rattle.std.proofs.lemmas.List.{get_or-set_same, get_or-set_other, get_or-replicate, get_or_past, length-replicate}
use Rattle.std.proofs.lemmas.List.Elements.{All-nil, All-from_get_or}
use Rattle.ack_window.specs.Windows.{Receiver, Sender}
use Rattle.fcp_framing.specs.declared.packet.Demand.{Demand}
use Rattle.fcp_framing.specs.declared.packet.Told.{Told}
use Rattle.fcp_framing.specs.Versions.{IsVersion}
use Rattle.line_marks.specs.Places.{Places, is_marked}
use Rattle.endpoint_agent.specs.declared.lines.FlowLine.{FlowLine}
use Rattle.endpoint_agent.specs.Lines.{with_asked, with_missed, with_sent}
use Rattle.endpoint_agent.specs.State.{AgentState, line_at, IsFlowLine, IsSound, UnconfirmedAreMarked, AgentIsKept}
use Rattle.endpoint_agent.proofs.Walking.{no_line}

-- ---- lines

IsLine-asks : (b : Bool) (next n : ℕ) (line : FlowLine) → IsFlowLine line → (b ≡ true → line.asked + n ≤ 100000000) → IsFlowLine (cond b (with_asked next n line) line)
IsLine-asks true next n line sound most = record { asked = most refl; missed = sound.missed }
IsLine-asks false next n line sound most = sound

pub All-lines : (lines : List FlowLine) (P : FlowLine → Type 0) → ((dst : ℕ) → P (line_at lines dst)) → All P lines
All-lines lines P each = All-from_get_or P lines no_line (λ k within. each k)

-- ---- places

abbrev pub Below : ℕ → List (List Told) → Type 0
Below endpoints waiting = (place : ℕ) → All (λ (t : Told). t.dst < endpoints) (get_or waiting place [])

pub Below-set : (endpoints : ℕ) (waiting : List (List Told)) (place : ℕ) (told : List Told) → place < length waiting → Below endpoints waiting → All (λ (t : Told). t.dst < endpoints) told → Below endpoints (set waiting place told)
Below-set endpoints waiting place told within below new other = elim (cases_eq other place) [
  | inl here ↦
      subst (λ (xs : List Told). All (λ (t : Told). t.dst < endpoints) xs)
      (sym (ap (λ (k : ℕ). get_or (set waiting place told) k []) here ∙ get_or-set_same waiting place told [] within)) new
  | inr away ↦ subst (λ (xs : List Told). All (λ (t : Told). t.dst < endpoints) xs) (sym (get_or-set_other waiting place other told [] away)) (below other)
]

pub Below-none : (endpoints : ℕ) → Below endpoints ([] ∷ [] ∷ [] ∷ [])
Below-none endpoints zero = All-nil (λ (t : Told). t.dst < endpoints)
Below-none endpoints (suc zero) = All-nil (λ (t : Told). t.dst < endpoints)
Below-none endpoints (suc (suc zero)) = All-nil (λ (t : Told). t.dst < endpoints)
Below-none endpoints (suc (suc (suc place))) = All-nil (λ (t : Told). t.dst < endpoints)

-- ---- calls

pub Sound-asks : (agent : AgentState) (dst n next : ℕ) (lines : List FlowLine) → IsSound agent → dst ≢ agent.me → (line_at agent.lines dst).asked + n ≤ 100000000 → length lines ≡ length agent.lines
    → ((other : ℕ) → line_at lines other ≡ cond (dst == other) (with_asked next n (line_at agent.lines other)) (line_at agent.lines other))
    → IsSound (record agent { lines = lines })
Sound-asks agent dst n next lines sound other most long asks = record {
  own = sound.own;
  endpoints = sound.endpoints;
  epoch = sound.epoch;
  version = sound.version;
  heard_version = sound.heard_version;
  sent_version = sound.sent_version;
  rounds = sound.rounds;
  numbers = sound.numbers;
  as_many = long ∙ sound.as_many;
  lines = λ to. subst IsFlowLine (sym (asks to))
      (IsLine-asks (dst == to) next n (line_at agent.lines to) (sound.lines to)
      (λ is. subst (λ (k : ℕ). (line_at agent.lines k).asked + n ≤ 100000000) (eqb-true dst to is) most));
  own_line = ap (λ (l : FlowLine). l.carried_from)
      (asks agent.me ∙ cond-false (dst == agent.me) (with_asked next n (line_at agent.lines agent.me)) (line_at agent.lines agent.me) (ne_eqb dst agent.me other))
      ∙ sound.own_line;
  three = sound.three;
  waiting = sound.waiting;
}

pub Sound-boots : (agent : AgentState) (version : ℕ) (heard : Receiver) (sent : Sender (Unit {0})) (lines : List FlowLine) → IsSound agent → IsVersion version
    → heard.version ≡ version → sent.version ≡ version → sent.outstanding.newest ≡ 0 → length lines ≡ length agent.lines → ((dst : ℕ) → line_at lines dst ≡ no_line)
    → IsSound (record agent { epoch = agent.epoch + 1; version = version; arrived = heard; sent = sent; has_begun = false; acknowledged = 0; named = []; lines = lines; waiting = [] ∷ [] ∷ [] ∷ [] })
Sound-boots agent version heard sent lines sound is heard_version sent_version none long blank = record {
  own = sound.own;
  endpoints = sound.endpoints;
  epoch = omega arith;
  version = is;
  heard_version = heard_version;
  sent_version = sent_version;
  rounds = sound.rounds;
  numbers = omega (arith, none);
  as_many = long ∙ sound.as_many;
  lines = λ dst. subst IsFlowLine (sym (blank dst)) (record { asked = omega arith; missed = omega arith });
  own_line = ap (λ (l : FlowLine). l.carried_from) (blank agent.me);
  three = refl;
  waiting = Below-none agent.endpoints;
}

pub Sound-ends : (agent : AgentState) (round : ℕ) (lines : List FlowLine) (waiting : List (List Told)) (n : ℕ → ℕ) → IsSound agent → round ≡ agent.round → round < 100000 → length lines ≡ length agent.lines
    → ((dst : ℕ) → line_at lines dst ≡ with_sent (n dst) (line_at agent.lines dst)) → length waiting ≡ 3 → Below agent.endpoints waiting
    → IsSound (record agent { lines = lines; waiting = waiting; round = round + 1; is_made = false })
Sound-ends agent round lines waiting n sound now few long counted three below = record {
  own = sound.own;
  endpoints = sound.endpoints;
  epoch = sound.epoch;
  version = sound.version;
  heard_version = sound.heard_version;
  sent_version = sound.sent_version;
  rounds = omega (arith, few);
  numbers = at_end agent.is_made agent.round agent.sent.outstanding.newest round now sound.numbers;
  as_many = long ∙ sound.as_many;
  lines = λ dst. subst IsFlowLine (sym (counted dst)) (record { asked = (sound.lines dst).asked; missed = (sound.lines dst).missed });
  own_line = ap (λ (l : FlowLine). l.carried_from) (counted agent.me) ∙ sound.own_line;
  three = three;
  waiting = below;
}
  where
    at_end : (made : Bool) (before newest after : ℕ) → after ≡ before → newest ≤ before + cond made 1 0 → newest ≤ after + 1 + 0
    at_end true before newest after same most = omega (arith, same, most)
    at_end false before newest after same most = omega (arith, same, most)

pub Sound-makes : (agent : AgentState) (sent : Sender (Unit {0})) (named : List Demand) → IsSound agent → sent.version ≡ agent.sent.version → sent.outstanding.newest ≤ agent.round + 1
    → IsSound (record agent { sent = sent; named = named; is_made = true })
Sound-makes agent sent named sound same few = record {
  own = sound.own;
  endpoints = sound.endpoints;
  epoch = sound.epoch;
  version = sound.version;
  heard_version = sound.heard_version;
  sent_version = same ∙ sound.sent_version;
  rounds = sound.rounds;
  numbers = few;
  as_many = sound.as_many;
  lines = sound.lines;
  own_line = sound.own_line;
  three = sound.three;
  waiting = sound.waiting;
}

-- an acknowledgement is read, and a number judged
pub Sound-reads : (agent : AgentState) (heard : Receiver) (sent : Sender (Unit {0})) (acknowledged : ℕ) → IsSound agent → heard.version ≡ agent.arrived.version → sent.version ≡ agent.sent.version
    → sent.outstanding.newest ≡ agent.sent.outstanding.newest → IsSound (record agent { arrived = heard; sent = sent; acknowledged = acknowledged })
Sound-reads agent heard sent acknowledged sound heard_same sent_same newest_same = record {
  own = sound.own;
  endpoints = sound.endpoints;
  epoch = sound.epoch;
  version = sound.version;
  heard_version = heard_same ∙ sound.heard_version;
  sent_version = sent_same ∙ sound.sent_version;
  rounds = sound.rounds;
  numbers = subst (λ (n : ℕ). n ≤ agent.round + cond agent.is_made 1 0) (sym newest_same) sound.numbers;
  as_many = sound.as_many;
  lines = sound.lines;
  own_line = sound.own_line;
  three = sound.three;
  waiting = sound.waiting;
}

missed-line : (next n : ℕ) (line : FlowLine) → IsFlowLine line → line.missed + n ≤ 100000000 → IsFlowLine (with_missed next n line)
missed-line next n line sound most = record { asked = sound.asked; missed = most }

pub Sound-takes : (agent : AgentState) (lines : List FlowLine) (waiting : List (List Told)) (next : ℕ) (n : ℕ → ℕ) → IsSound agent → length lines ≡ length agent.lines
    → ((dst : ℕ) → line_at lines dst ≡ with_missed next (n dst) (line_at agent.lines dst)) → n agent.me ≡ 0 → ((dst : ℕ) → (line_at agent.lines dst).missed + n dst ≤ 100000000)
    → length waiting ≡ 3 → Below agent.endpoints waiting
    → IsSound (record agent { has_begun = true; lines = lines; waiting = waiting })
Sound-takes agent lines waiting next n sound long counted none few three below = record {
  own = sound.own;
  endpoints = sound.endpoints;
  epoch = sound.epoch;
  version = sound.version;
  heard_version = sound.heard_version;
  sent_version = sound.sent_version;
  rounds = sound.rounds;
  numbers = sound.numbers;
  as_many = long ∙ sound.as_many;
  lines = λ dst. subst IsFlowLine (sym (counted dst)) (missed-line next (n dst) (line_at agent.lines dst) (sound.lines dst) (few dst));
  own_line = ap (λ (l : FlowLine). l.carried_from) (counted agent.me ∙ ap (λ (k : ℕ). with_missed next k (line_at agent.lines agent.me)) none) ∙ sound.own_line;
  three = three;
  waiting = below;
}

-- ---- a new agent

pub blank-lines : (n : ℕ) (line : FlowLine) (lines : List FlowLine) → line ≡ no_line → lines ≡ replicate n line → (dst : ℕ) → line_at lines dst ≡ no_line
blank-lines n line lines blank same dst =
    ap (λ (ls : List FlowLine). line_at ls dst) same
    ∙ elim (cases_lt dst n) [
      | inl within ↦ get_or-replicate n dst line no_line within ∙ blank
      | inr past ↦ get_or_past (replicate n line) dst no_line (let long = length-replicate n line in omega (arith, long, past))
    ]

abbrev pub opened : (me endpoints b g : ℕ) → Receiver → Sender (Unit {0}) → List FlowLine → AgentState
opened me endpoints b g heard sent lines = record {
  me = me;
  endpoints = endpoints;
  b = b;
  g = g;
  epoch = 1;
  version = 1;
  arrived = heard;
  sent = sent;
  has_begun = false;
  acknowledged = 0;
  named = [];
  lines = lines;
  waiting = [] ∷ [] ∷ [] ∷ [];
  round = 0;
  is_made = false;
}

pub Sound-opens : (me endpoints b g : ℕ) (heard : Receiver) (sent : Sender (Unit {0})) (lines : List FlowLine) → me < endpoints → endpoints ≤ 256
    → heard.version ≡ 1 → sent.version ≡ 1 → sent.outstanding.newest ≡ 0 → length lines ≡ endpoints → ((dst : ℕ) → line_at lines dst ≡ no_line)
    → IsSound (opened me endpoints b g heard sent lines)
Sound-opens me endpoints b g heard sent lines own most heard_version sent_version none long blank = record {
  own = own;
  endpoints = most;
  epoch = omega arith;
  version = inl refl;
  heard_version = heard_version;
  sent_version = sent_version;
  rounds = omega arith;
  numbers = omega (arith, none);
  as_many = long;
  lines = λ dst. subst IsFlowLine (sym (blank dst)) (record { asked = omega arith; missed = omega arith });
  own_line = ap (λ (l : FlowLine). l.carried_from) (blank me);
  three = refl;
  waiting = Below-none endpoints;
}

-- ---- marked flows

pub Kept-asks : (agent : AgentState) (seq dst n : ℕ) (marks marks' : Places) (lines : List FlowLine) → AgentIsKept seq marks agent
    → ((place : ℕ) → is_marked marks' place ≡ (is_marked marks place || place == dst))
    → ((other : ℕ) → line_at lines other ≡ cond (dst == other) (with_asked (agent.sent.outstanding.newest + 1) n (line_at agent.lines other)) (line_at agent.lines other))
    → AgentIsKept seq marks' (record agent { lines = lines })
Kept-asks agent seq dst n marks marks' lines kept set asks = record {
  number = kept.number;
  marked = λ other none.
      let (was, apart) = or_parts (is_marked marks other) (other == dst) (sym (set other) ∙ none) in
      let old = line_at agent.lines other in
      let away : (dst == other) ≡ false = ne_eqb dst other (λ e. false≢true (sym apart ∙ eq-eqb other dst (sym e))) in
      let is = ap (λ (l : FlowLine). l.carried_from) (asks other ∙ cond-false (dst == other) (with_asked (agent.sent.outstanding.newest + 1) n old) old away) in
      let low = kept.marked other was in
      omega (arith, is, low);
}

pub Kept-ends : (agent after : AgentState) (seq : ℕ) (marks : Places) (n : ℕ → ℕ) → AgentIsKept seq marks agent → after.sent ≡ agent.sent → after.acknowledged ≡ agent.acknowledged
    → ((dst : ℕ) → line_at after.lines dst ≡ with_sent (n dst) (line_at agent.lines dst)) → AgentIsKept seq marks after
Kept-ends agent after seq marks n kept same known counted =
    let newest = ap (λ (s : Sender (Unit {0})). s.outstanding.newest) same in
    record {
      number = kept.number ∙ sym newest;
      marked = λ dst none.
          let is = ap (λ (l : FlowLine). l.carried_from) (counted dst) in
          let low = kept.marked dst none in
          omega (arith, is, low, known);
    }

-- no line changes
pub Kept-makes : (agent after : AgentState) (seq : ℕ) (marks : Places) → UnconfirmedAreMarked agent.acknowledged marks agent.lines → after.lines ≡ agent.lines → agent.acknowledged ≤ after.acknowledged
    → seq ≡ after.sent.outstanding.newest → AgentIsKept seq marks after
Kept-makes agent after seq marks marked same later number = record {
  number = number;
  marked = λ dst none.
      let is = ap (λ (ls : List FlowLine). (line_at ls dst).carried_from) same in
      let low = marked dst none in
      omega (arith, is, low, later);
}

-- slots are taken: the flows of those that are missed are marked
pub Kept-takes : (agent after : AgentState) (seq : ℕ) (marks marks' : Places) (n : ℕ → ℕ) → AgentIsKept seq marks agent → after.sent.outstanding.newest ≡ agent.sent.outstanding.newest → agent.acknowledged ≤ after.acknowledged
    → ((dst : ℕ) → line_at after.lines dst ≡ with_missed (agent.sent.outstanding.newest + 1) (n dst) (line_at agent.lines dst))
    → ((dst : ℕ) → is_marked marks' dst ≡ false → (is_marked marks dst ≡ false) × (n dst ≡ 0)) → AgentIsKept seq marks' after
Kept-takes agent after seq marks marks' n kept newest later counted missed =
    let next = agent.sent.outstanding.newest + 1 in
    record {
      number = kept.number ∙ sym newest;
      marked = λ dst none.
          let (was, zero_missed) = missed dst none in
          let old = line_at agent.lines dst in
          let is = ap (λ (l : FlowLine). l.carried_from) (counted dst) ∙ ap (λ (k : ℕ). cond (k == 0) old.carried_from next) zero_missed in
          let low = kept.marked dst was in
          omega (arith, is, low, later);
    }

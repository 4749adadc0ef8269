-- A packet is taken, whole.
use Rattle.std.proofs.Common.{◌≡◌, ◌≢◌, ◌⊎◌, ℕ, ◌+◌, ◌*◌, ◌%◌, ◌<◌, ◌≤◌, Bool, true, false, cond, ◌==◌, leb, List, [], ◌∷◌, length, set, All, refl, sym, ◌∙◌, ap, subst, inl, inr, arith, length-set}
use Rattle.std.proofs.lemmas.Bool.{cases_lt, le-leb, false≢true}
use Rattle.std.proofs.lemmas.List.{get_or_past}
use Rattle.std.proofs.lemmas.List.Sums.{count_by-le-length}
use Rattle.ack_window.specs.declared.take_window.Taken.{Taken}
use Rattle.ack_window.specs.declared.take_window.Taken.TheVariants.{Fresh}
use Rattle.ack_window.specs.Arrivals.{receive_verdict, is_fresh}
use Rattle.ack_window.specs.Versions.{reorder_of}
use Rattle.ack_window.specs.Windows.{Receiver, Sender}
use Rattle.fcp_framing.specs.declared.packet.Told.{Told}
use Rattle.fcp_framing.specs.declared.packet.Down.{Down}
use Rattle.fcp_framing.specs.Spelling.{IsAllocation}
use Rattle.endpoint_history.specs.Packets.{slots_to, down_packet}
use Rattle.endpoint_history.specs.Agent.{AgentHistory, TakesDown, takes, taken, version_of, arrived}
use Rattle.endpoint_history.specs.AgentLaws.{TakingBringsSlots}
use Rattle.endpoint_history.proofs.Named.{slots_to-own}
use Rattle.endpoint_agent.specs.declared.lines.FlowLine.{FlowLine}
use Rattle.endpoint_agent.specs.Lines.{with_missed}
use Rattle.endpoint_agent.specs.Standing.{AgentStandsFor}
use Rattle.endpoint_agent.specs.State.{AgentState, line_at, IsSound}
use Rattle.endpoint_agent.proofs.Calls.{Current, Read, takes-by, StandsFor-read, StandsFor-takes}
use Rattle.endpoint_agent.proofs.Due.{nil_or, Waits-takes}
use Rattle.endpoint_agent.proofs.Timely.{HasRoom}
use Rattle.endpoint_agent.proofs.Walking.{no_line}
use Rattle.endpoint_agent.proofs.Sound.{Below, Below-set, Sound-reads, Sound-takes}

-- a packet of the agent's connection
pub record IsMine (agent : AgentState) (down : Down) : Type 0 where
  pub rules : IsAllocation agent.endpoints agent.b down
  pub destination : down.dst ≡ agent.me
  pub epoch : down.epoch ≡ agent.epoch
  pub version : down.version ≡ agent.version

pub current-of : (agent : AgentState) (history : AgentHistory) (down : Down) → AgentStandsFor agent history → IsMine agent down → Current history (down_packet down)
current-of agent history down stands mine = (mine.epoch ∙ stands.epoch, mine.version ∙ stands.version)

verdict-of : (agent : AgentState) (history : AgentHistory) (down : Down) (verdict : Taken) → AgentStandsFor agent history → IsSound agent
    → verdict ≡ receive_verdict (reorder_of agent.arrived.version) (arrived history) down.seq
    → is_fresh (receive_verdict (reorder_of (version_of history)) (arrived history) down.seq) ≡ is_fresh verdict
verdict-of agent history down verdict stands sound is =
    sym (ap is_fresh (is ∙ ap (λ (v : ℕ). receive_verdict (reorder_of v) (arrived history) down.seq) (sound.heard_version ∙ stands.version)))

pub takes-it : (agent : AgentState) (history : AgentHistory) (down : Down) → AgentStandsFor agent history → IsSound agent → IsMine agent down
    → Fresh ≡ receive_verdict (reorder_of agent.arrived.version) (arrived history) down.seq → takes history (down_packet down) ≡ true
takes-it agent history down stands sound mine is =
    takes-by history (down_packet down) true (current-of agent history down stands mine) (verdict-of agent history down Fresh stands sound is)

-- ---- a number that is old or came before

pub reads : (agent : AgentState) (history : AgentHistory) (round : ℕ) (down : Down) (heard : Receiver) (sent : Sender (Unit {0})) (acknowledged : ℕ) (verdict : Taken) → AgentStandsFor agent history → IsSound agent → IsMine agent down
    → verdict ≡ receive_verdict (reorder_of agent.arrived.version) (arrived history) down.seq → is_fresh verdict ≡ false → Read agent history (down_packet down) heard sent acknowledged
    → AgentStandsFor (record agent { arrived = heard; sent = sent; acknowledged = acknowledged }) (TakesDown round (down_packet down) ∷ history)
reads agent history round down heard sent acknowledged verdict stands sound mine is stale read =
    StandsFor-read agent history round (down_packet down) heard sent acknowledged stands sound.sent_version (current-of agent history down stands mine)
    (verdict-of agent history down verdict stands sound is ∙ stale) read

-- ---- a fresh number

-- what becomes of the slots
pub record AreTaken (agent : AgentState) (round : ℕ) (down : Down) (lines : List FlowLine) (waiting : List (List Told)) : Type 0 where
  pub long : length lines ≡ length agent.lines
  pub counted : (dst : ℕ) → line_at lines dst
      ≡ with_missed (agent.sent.outstanding.newest + 1) (cond (leb round (down.batch + 2 * agent.g + 2)) 0 (slots_to dst down.told.items)) (line_at agent.lines dst)
  pub put : down.told.items ≢ [] → round ≤ down.batch + 2 * agent.g + 2 → waiting ≡ set agent.waiting (down.batch % 3) down.told.items
  pub kept : (down.told.items ≡ []) ⊎ (down.batch + 2 * agent.g + 2 < round) → waiting ≡ agent.waiting

pub takes-slots : (taking : TakingBringsSlots) (agent : AgentState) (history : AgentHistory) (round : ℕ) (down : Down) (heard : Receiver) (sent : Sender (Unit {0})) (acknowledged : ℕ) (lines : List FlowLine) (waiting : List (List Told))
    → AgentStandsFor agent history → IsSound agent → IsMine agent down → round ≡ agent.round → HasRoom agent round (down_packet down)
    → Fresh ≡ receive_verdict (reorder_of agent.arrived.version) (arrived history) down.seq → Read agent history (down_packet down) heard sent acknowledged → AreTaken agent round down lines waiting
    → AgentStandsFor (record agent { arrived = heard; sent = sent; has_begun = true; acknowledged = acknowledged; lines = lines; waiting = waiting }) (TakesDown round (down_packet down) ∷ history)
takes-slots taking agent history round down heard sent acknowledged lines waiting stands sound mine now may is read slots =
    StandsFor-takes taking agent history round (down_packet down) heard sent acknowledged lines waiting stands sound.sent_version (current-of agent history down stands mine)
    (verdict-of agent history down Fresh stands sound is) read slots.counted
    (Waits-takes agent.b agent.g agent.round agent.waiting waiting (taken history) (record { round = round; packet = down_packet down }) sound.three now
    (λ some. let e = may.late some in omega (arith, e, now))
    (λ some in_time. may.apart some (omega (arith, in_time, now)))
    mine.rules.rising
    (λ some in_time. slots.put some (omega (arith, in_time, now)))
    (λ why. slots.kept (elim why [ inl none ↦ inl none | inr late ↦ inr (omega (arith, late, now)) ]))
    stands.waiting)
    mine.rules.count (λ some. let e = may.late some in omega (arith, e, now))

missed-few : (b : Bool) (missed more most : ℕ) → missed ≤ most → (b ≡ false → missed + more ≤ most) → missed + cond b 0 more ≤ most
missed-few true missed more most low few = omega (arith, low)
missed-few false missed more most low few = few refl

pub either-none : (b : Bool) (n : ℕ) → n ≡ 0 → cond b 0 n ≡ 0
either-none true n none = refl
either-none false n none = none

pub Sound-slots : (agent : AgentState) (round : ℕ) (down : Down) (heard : Receiver) (sent : Sender (Unit {0})) (acknowledged : ℕ) (lines : List FlowLine) (waiting : List (List Told))
    → IsSound agent → IsMine agent down → HasRoom agent round (down_packet down)
    → heard.version ≡ agent.arrived.version → sent.version ≡ agent.sent.version → sent.outstanding.newest ≡ agent.sent.outstanding.newest → AreTaken agent round down lines waiting
    → IsSound (record agent { arrived = heard; sent = sent; has_begun = true; acknowledged = acknowledged; lines = lines; waiting = waiting })
Sound-slots agent round down heard sent acknowledged lines waiting sound mine may heard_same sent_same newest_same slots =
    let k = down.batch in
    let told = down.told.items in
    let in_time : Bool = leb round (k + 2 * agent.g + 2) in
    let others : All (λ (t : Told). t.dst ≢ agent.me) told = subst (λ (me : ℕ). All (λ (t : Told). t.dst ≢ me) told) mine.destination mine.rules.others in
    let few : (dst : ℕ) → (line_at agent.lines dst).missed + cond in_time 0 (slots_to dst told) ≤ 100000000 = λ dst.
    missed-few in_time (line_at agent.lines dst).missed (slots_to dst told) 100000000 (sound.lines dst).missed
    (λ late.
    elim (cases_lt (k + 2 * agent.g + 2) round) [
      | inr before ↦ absurd (false≢true (sym late ∙ le-leb round (k + 2 * agent.g + 2) before))
      | inl after ↦ elim (nil_or told) [
        | inl none ↦
            let nothing : slots_to dst told ≡ 0 = ap (slots_to dst) none in
            omega (arith, nothing, (sound.lines dst).missed)
        | inr some ↦ elim (cases_lt dst agent.endpoints) [
          | inl within ↦ may.fits some after dst within
          | inr past ↦
              let blank : (line_at agent.lines dst).missed ≡ 0 = ap (λ (l : FlowLine). l.missed) (get_or_past agent.lines dst no_line (omega (arith, sound.as_many, past))) in
              omega (arith, blank, count_by-le-length (λ (t : Told). t.dst == dst) told, mine.rules.count)
        ]
      ]
    ]) in
    let places : (length waiting ≡ 3) × Below agent.endpoints waiting =
    elim (nil_or told) [
      | inl none ↦
          subst (λ (w : List (List Told)). (length w ≡ 3) × Below agent.endpoints w) (sym (slots.kept (inl none))) (sound.three, sound.waiting)
      | inr some ↦ elim (cases_lt (k + 2 * agent.g + 2) round) [
        | inl after ↦ subst (λ (w : List (List Told)). (length w ≡ 3) × Below agent.endpoints w) (sym (slots.kept (inr after))) (sound.three, sound.waiting)
        | inr before ↦
            subst (λ (w : List (List Told)). (length w ≡ 3) × Below agent.endpoints w) (sym (slots.put some before)) (
              length-set agent.waiting (k % 3) told ∙ sound.three,
              Below-set agent.endpoints agent.waiting (k % 3) told (omega (arith, sound.three)) sound.waiting mine.rules.destinations,
            )
      ]
    ] in
    Sound-takes (record agent { arrived = heard; sent = sent; acknowledged = acknowledged }) lines waiting (agent.sent.outstanding.newest + 1) (λ dst. cond in_time 0 (slots_to dst told))
    (Sound-reads agent heard sent acknowledged sound heard_same sent_same newest_same) slots.long slots.counted
    (either-none in_time (slots_to agent.me told) (slots_to-own agent.me told others)) few places.0 places.1

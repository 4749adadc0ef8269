use Rattle.std.proofs.Common.{◌≡◌, ℕ, ◌+◌, ◌^◌, ◌<◌, true, false, List, ◌∷◌, length, take, sym, ◌∙◌, ap, subst, inl, inr, arith}
use Rattle.std.specs.Int.{IsBitSet}
use Rattle.std.proofs.lemmas.Bool.{cases_Bool, false≢true}
use Rattle.ack_window.specs.Sends.{Event, Sends}
use Rattle.ack_window.specs.Versions.{span_of}
use Rattle.ack_window.specs.Windows.{Sender, HasDone, MaySend}
use Rattle.fcp_framing.specs.declared.packet.Up.{Up}
use Rattle.fcp_framing.specs.Spelling.{up_bytes, SpellsUp, IsRequest, IsMask}
use Rattle.endpoint_history.specs.Packets.{framed_up}
use Rattle.endpoint_history.specs.Agent.{AgentHistory, MakesUp, packet_up}
use Rattle.endpoint_agent.specs.declared.lines.FlowLine.{FlowLine}
use Rattle.endpoint_agent.specs.contracts.agent.Agent.{the_view}
use Rattle.endpoint_agent.specs.Lines.{unconfirmed_in}
use Rattle.endpoint_agent.specs.Standing.{AgentStandsFor}
use Rattle.endpoint_agent.specs.State.{AgentState, UnconfirmedAreMarked}
use Rattle.endpoint_agent.proofs.Calls.{may_of}
use Rattle.endpoint_agent.proofs.Making.{resets, IsRenewed, made, Sound-resets}
use Rattle.endpoint_agent.proofs.Packets.{reset-is, reset-ok, request_in, request-is, request-ok}
use Rattle.endpoint_agent.proofs.Sound.{Kept-makes}
use Rattle.endpoint_agent.proofs.agent.Agent.make_up.Goals as goal

abbrev Spells : AgentHistory → List ℕ → AgentState → Type 0
Spells history bytes agent = SpellsUp agent.endpoints bytes (framed_up agent.me (packet_up agent.endpoints agent.g history))

abbrev Bytes : AgentHistory → List ℕ → AgentState → Type 0
Bytes history bytes agent = bytes ≡ up_bytes (framed_up agent.me (packet_up agent.endpoints agent.g history))

-- ---- a reset

pub invariant_of-self : goal.invariant_of-self
invariant_of-self c =
    let agent : AgentState = the_view c.self.inside in
    let (sound, calls, same) = c.self.invariant in
    let (history, stands) = calls in
    let once : agent.is_made ≡ false = ap (λ (a : AgentState). a.is_made) c.self.view_is ∙ c.requires.once in (
      Sound-resets agent sound once,
      (MakesUp ∷ history, resets agent history sound stands c.if-not-self.true),
      Kept-makes agent _ c.self.inside.request.seq c.self.inside.unconfirmed same.marked (λ i. agent.lines) (omega arith) same.number,
    )

pub returns-then-not-self-clause-packet : goal.returns-then-not-self-clause-packet
returns-then-not-self-clause-packet c = λ history stands.
    let agent : AgentState = the_view c.self.inside in
    let begun : agent.has_begun ≡ false = c.if-not-self.true in
    subst (Bytes history (take c.encode_reset.result c.encode_reset.new.buf)) c.self.view_is
    (c.encode_reset.ensures.bytes ∙ ap up_bytes (reset-is agent history (subst (λ (a : AgentState). AgentStandsFor a history) (sym c.self.view_is) stands) begun))

pub returns-then-not-self-clause-spelled : goal.returns-then-not-self-clause-spelled
returns-then-not-self-clause-spelled c = λ history stands.
    let agent : AgentState = the_view c.self.inside in
    let (sound, calls, same) = c.self.invariant in
    let begun : agent.has_begun ≡ false = c.if-not-self.true in
    let bytes = take c.encode_reset.result c.encode_reset.new.buf in
    subst (Spells history bytes) c.self.view_is
    (subst (λ (up : Up). SpellsUp agent.endpoints bytes up) (reset-is agent history (subst (λ (a : AgentState). AgentStandsFor a history) (sym c.self.view_is) stands) begun)
    (c.encode_reset.ensures.spelled agent.endpoints (reset-ok agent sound)))

pub returns-then-not-self-clause-stands : goal.returns-then-not-self-clause-stands
returns-then-not-self-clause-stands c = λ history stands.
    let agent : AgentState = the_view c.self.inside in
    let (sound, calls, same) = c.self.invariant in
    resets agent history sound (subst (λ (a : AgentState). AgentStandsFor a history) (sym c.self.view_is) stands) c.if-not-self.true

-- ---- a request

-- where no new number may be sent, and where one may
abbrev Again : AgentState → Sender (Unit {0}) → Up → Up → Type 0
Again agent sent old new = ¬ MaySend agent.sent → (sent ≡ agent.sent) × (new ≡ old)

abbrev Counts : AgentState → Sender (Unit {0}) → Up → Type 0
Counts agent sent new = MaySend agent.sent → (new.seq ≡ agent.sent.outstanding.newest + 1) × (sent.outstanding.newest ≡ agent.sent.outstanding.newest + 1)

renewed-by : (agent : AgentState) (sent : Sender (Unit {0})) (old new : Up) (lines : List FlowLine) → lines ≡ agent.lines → old.demands.items ≡ agent.named → Again agent sent old new → Counts agent sent new
    → (MaySend agent.sent → new.demands.items ≡ unconfirmed_in agent.acknowledged (length lines) lines)
    → (MaySend agent.sent → (events : List (Event (Unit {0}))) → HasDone agent.sent events → HasDone sent (Sends tt ∷ events))
    → sent.version ≡ agent.sent.version → IsRenewed agent sent new.demands.items
renewed-by agent sent old new lines value named again counts names stands version = record {
  again = λ closed. let (same, kept) = again (λ may. false≢true (sym closed ∙ may)) in (same, ap (λ (up : Up). up.demands.items) kept ∙ named);
  number = λ may. (counts may).1;
  named_now = λ may. names may ∙ ap (λ (ls : List FlowLine). unconfirmed_in agent.acknowledged (length ls) ls) value;
  stands = stands;
  version = version;
}

seq-by : (agent : AgentState) (sent : Sender (Unit {0})) (old new : Up) → old.seq ≡ agent.sent.outstanding.newest → Again agent sent old new → Counts agent sent new → new.seq ≡ sent.outstanding.newest
seq-by agent sent old new same again counts = elim (cases_Bool (may_of agent.sent)) [
  | inl may ↦ (counts may).0 ∙ sym (counts may).1
  | inr closed ↦
      let (sent_same, kept) = again (λ may. false≢true (sym closed ∙ may)) in
      ap (λ (up : Up). up.seq) kept ∙ same ∙ sym (ap (λ (s : Sender (Unit {0})). s.outstanding.newest) sent_same)
]

-- the packet is the one that the agent's parts make
packet-by : (after : AgentState) (new : Up) (high mask : ℕ) → new.demands.items ≡ after.named → new.seq ≡ after.sent.outstanding.newest → high ≡ after.arrived.told.high → mask ≡ after.arrived.told.mask →
    record { version = after.version; reset = false; src = after.me; epoch = after.epoch; seq = new.seq; high = high; mask = mask; demands = record { items = new.demands.items } } ≡ request_in after
packet-by after new high mask named seq high_is mask_is = λ i. record {
  version = after.version;
  reset = false;
  src = after.me;
  epoch = after.epoch;
  seq = seq i;
  high = high_is i;
  mask = mask_is i;
  demands = record { items = named i };
}

mask-by : (agent : AgentState) (high mask : ℕ) → high ≡ agent.arrived.told.high → mask ≡ agent.arrived.told.mask → IsMask high mask → IsMask agent.arrived.told.high agent.arrived.told.mask
mask-by agent high mask high_is mask_is numbers = λ i set.
    let low = numbers i (subst (λ (m : ℕ). IsBitSet m i) (sym mask_is) set) in
    omega (arith, low, high_is)

pub renew-requires-clause-marked : goal.renew-requires-clause-marked
renew-requires-clause-marked c =
    let agent : AgentState = the_view c.self.inside in
    let (sound, calls, same) = c.self.invariant in
    subst (UnconfirmedAreMarked agent.acknowledged c.self.inside.unconfirmed) (sym c.deref.ensures.value) same.marked

pub encode_req-requires : goal.encode_req-requires
encode_req-requires c =
    let agent : AgentState = the_view c.self.inside in
    let (sound, calls, same) = c.self.invariant in
    let (history, stands) = calls in
    let sent = c.renew.new.sent in
    let new : Up = c.renew.new.request in
    let r = c.renew.ensures in
    let after : AgentState = record agent { sent = sent; named = new.demands.items; is_made = true } in
    let once : agent.is_made ≡ false = ap (λ (a : AgentState). a.is_made) c.self.view_is ∙ c.requires.once in
    let renewal = renewed-by agent sent c.self.inside.request new c.deref.result.now c.deref.ensures.value (λ i. agent.named) r.again r.number r.named r.stands r.version in
    let is = made c.agents_count_slots.ensures.taking agent history sent new.demands.items sound once stands c.if-not-self.false renewal in
    let seq = seq-by agent sent c.self.inside.request new same.number r.again r.number in
    let ack = c.ack-high.ensures in (
      agent.endpoints,
      subst (λ (up : Up). IsRequest agent.endpoints up) (sym (packet-by after new c.ack-high.result.0 c.ack-high.result.1 (λ i. new.demands.items) seq ack.high ack.mask))
          (request-ok c.requests_name_unconfirmed_totals.ensures.named c.agents_count_slots.ensures.taking after (MakesUp ∷ history) is.stands is.sound is.counted
          (mask-by agent c.ack-high.result.0 c.ack-high.result.1 ack.high ack.mask ack.numbers) (subst (λ (m : ℕ). m < 2 ^ span_of agent.arrived.version) ack.mask ack.fits)),
    )

pub invariant_of-self-2 : goal.invariant_of-self-2
invariant_of-self-2 c =
    let agent : AgentState = the_view c.self.inside in
    let (sound, calls, same) = c.self.invariant in
    let (history, stands) = calls in
    let sent = c.renew.new.sent in
    let new : Up = c.renew.new.request in
    let r = c.renew.ensures in
    let once : agent.is_made ≡ false = ap (λ (a : AgentState). a.is_made) c.self.view_is ∙ c.requires.once in
    let renewal = renewed-by agent sent c.self.inside.request new c.deref.result.now c.deref.ensures.value (λ i. agent.named) r.again r.number r.named r.stands r.version in
    let is = made c.agents_count_slots.ensures.taking agent history sent new.demands.items sound once stands c.if-not-self.false renewal in (
      is.sound,
      (MakesUp ∷ history, is.stands),
      Kept-makes agent _ new.seq c.renew.new.unconfirmed (subst (UnconfirmedAreMarked agent.acknowledged c.renew.new.unconfirmed) c.deref.ensures.value r.marked) (λ i. agent.lines) (omega arith)
          (seq-by agent sent c.self.inside.request new same.number r.again r.number),
    )

pub returns-clause-packet : goal.returns-clause-packet
returns-clause-packet c = λ history stands.
    let agent : AgentState = the_view c.self.inside in
    let (sound, calls, same) = c.self.invariant in
    let sent = c.renew.new.sent in
    let new : Up = c.renew.new.request in
    let r = c.renew.ensures in
    let after : AgentState = record agent { sent = sent; named = new.demands.items; is_made = true } in
    let once : agent.is_made ≡ false = ap (λ (a : AgentState). a.is_made) c.self.view_is ∙ c.requires.once in
    let renewal = renewed-by agent sent c.self.inside.request new c.deref.result.now c.deref.ensures.value (λ i. agent.named) r.again r.number r.named r.stands r.version in
    let here = subst (λ (a : AgentState). AgentStandsFor a history) (sym c.self.view_is) stands in
    let is = made c.agents_count_slots.ensures.taking agent history sent new.demands.items sound once here c.if-not-self.false renewal in
    let seq = seq-by agent sent c.self.inside.request new same.number r.again r.number in
    let ack = c.ack-high.ensures in
    subst (Bytes history (take c.encode_req.result c.encode_req.new.buf)) c.self.view_is
    (c.encode_req.ensures.bytes
    ∙ ap up_bytes (packet-by after new c.ack-high.result.0 c.ack-high.result.1 (λ i. new.demands.items) seq ack.high ack.mask ∙ request-is after history is.stands c.if-not-self.false sound.heard_version))

pub returns-clause-spelled : goal.returns-clause-spelled
returns-clause-spelled c = λ history stands.
    let agent : AgentState = the_view c.self.inside in
    let (sound, calls, same) = c.self.invariant in
    let sent = c.renew.new.sent in
    let new : Up = c.renew.new.request in
    let r = c.renew.ensures in
    let after : AgentState = record agent { sent = sent; named = new.demands.items; is_made = true } in
    let once : agent.is_made ≡ false = ap (λ (a : AgentState). a.is_made) c.self.view_is ∙ c.requires.once in
    let renewal = renewed-by agent sent c.self.inside.request new c.deref.result.now c.deref.ensures.value (λ i. agent.named) r.again r.number r.named r.stands r.version in
    let here = subst (λ (a : AgentState). AgentStandsFor a history) (sym c.self.view_is) stands in
    let is = made c.agents_count_slots.ensures.taking agent history sent new.demands.items sound once here c.if-not-self.false renewal in
    let seq = seq-by agent sent c.self.inside.request new same.number r.again r.number in
    let ack = c.ack-high.ensures in
    let bytes = take c.encode_req.result c.encode_req.new.buf in
    let packet = packet-by after new c.ack-high.result.0 c.ack-high.result.1 (λ i. new.demands.items) seq ack.high ack.mask in
    let ok = request-ok c.requests_name_unconfirmed_totals.ensures.named c.agents_count_slots.ensures.taking after (MakesUp ∷ history) is.stands is.sound is.counted
    (mask-by agent c.ack-high.result.0 c.ack-high.result.1 ack.high ack.mask ack.numbers) (subst (λ (m : ℕ). m < 2 ^ span_of agent.arrived.version) ack.mask ack.fits) in
    subst (Spells history bytes) c.self.view_is
    (subst (λ (up : Up). SpellsUp agent.endpoints bytes up) (packet ∙ request-is after history is.stands c.if-not-self.false sound.heard_version)
    (c.encode_req.ensures.spelled agent.endpoints (subst (λ (up : Up). IsRequest agent.endpoints up) (sym packet) ok)))

pub returns-clause-stands : goal.returns-clause-stands
returns-clause-stands c = λ history stands.
    let agent : AgentState = the_view c.self.inside in
    let (sound, calls, same) = c.self.invariant in
    let sent = c.renew.new.sent in
    let new : Up = c.renew.new.request in
    let r = c.renew.ensures in
    let once : agent.is_made ≡ false = ap (λ (a : AgentState). a.is_made) c.self.view_is ∙ c.requires.once in
    let renewal = renewed-by agent sent c.self.inside.request new c.deref.result.now c.deref.ensures.value (λ i. agent.named) r.again r.number r.named r.stands r.version in
    let here = subst (λ (a : AgentState). AgentStandsFor a history) (sym c.self.view_is) stands in
    (made c.agents_count_slots.ensures.taking agent history sent new.demands.items sound once here c.if-not-self.false renewal).stands

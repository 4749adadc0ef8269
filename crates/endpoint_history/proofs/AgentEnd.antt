-- What the agent's calls keep of its end, and that each request that it made is of the end of its boot.
use Rattle.std.proofs.Common.{◌≡◌, ◌≢◌, ℕ, ◌≤◌, true, false, ◌&&◌, not, cond, ◌==◌, List, [], ◌∷◌, sym, ◌∙◌, ap, subst, refl, inl, inr, arith}
use Rattle.std.specs.Prelude.{◌⊎◌, unwrap_or}
use Rattle.std.proofs.lemmas.Bool.{cases_eq, cases_Bool, eq-eqb, eqb-true, ne_eqb, cond-true, cond-false, and_parts}
use Rattle.ack_window.specs.Arrivals.{acknowledgement}
use Rattle.ack_window.specs.Ends.{Numbered, IsOf}
use Rattle.ack_window.specs.Outstanding.{may_send_new}
use Rattle.ack_window.specs.Sends.{Event, Sends, Reads, newest_of, newest_content, open_numbers}
use Rattle.ack_window.specs.Versions.{reorder_of, span_of}
use Rattle.fcp_framing.specs.declared.packet.Demand.{Demand}
use Rattle.endpoint_history.specs.Packets.{DownPacket, UpPacket, Resets, Requests}
use Rattle.endpoint_history.specs.Agent.{AgentEvent, AgentHistory, Boots, Asks, TakesDown, MakesUp, SendsDue, epoch_of, version_of, until, is_current, arrived, takes, taken, is_none_taken, sends_new, unconfirmed, numbers, packet_up}
use Rattle.endpoint_history.specs.Steps.{WasMadeUp}
use Rattle.endpoint_history.specs.Windows.{Windows}

-- ---- boots

pub until-here : (epoch : ℕ) (event : AgentEvent) (history : AgentHistory) → epoch_of (event ∷ history) ≡ epoch → until epoch (event ∷ history) ≡ event ∷ history
until-here epoch event history is = cond-true (epoch_of (event ∷ history) == epoch) (event ∷ history) (until epoch history) (eq-eqb (epoch_of (event ∷ history)) epoch is)

pub until-before : (epoch : ℕ) (event : AgentEvent) (history : AgentHistory) → epoch_of (event ∷ history) ≢ epoch → until epoch (event ∷ history) ≡ until epoch history
until-before epoch event history is = cond-false (epoch_of (event ∷ history) == epoch) (event ∷ history) (until epoch history) (ne_eqb (epoch_of (event ∷ history)) epoch is)

pub until-now : (history : AgentHistory) → until (epoch_of history) history ≡ history
until-now [] = refl
until-now (event ∷ history) = until-here (epoch_of (event ∷ history)) event history refl

pub epoch-grows : (event : AgentEvent) (history : AgentHistory) → epoch_of history ≤ epoch_of (event ∷ history)
epoch-grows (Boots version) history = omega arith
epoch-grows (Asks dst slots) history = omega arith
epoch-grows (TakesDown round packet) history = omega arith
epoch-grows MakesUp history = omega arith
epoch-grows (SendsDue round) history = omega arith

-- a call changes the boot of an epoch that has begun only where it is the present one
pub record IsPresent (epoch : ℕ) (event : AgentEvent) (history : AgentHistory) : Type 0 where
  pub here : epoch_of history ≡ epoch
  pub stays : epoch_of (event ∷ history) ≡ epoch_of history
  pub before : until epoch history ≡ history
  pub after : until epoch (event ∷ history) ≡ event ∷ history

pub until-cases : (epoch : ℕ) (event : AgentEvent) (history : AgentHistory) → epoch ≤ epoch_of history →
    (until epoch (event ∷ history) ≡ until epoch history) ⊎ IsPresent epoch event history
until-cases epoch event history begun =
    elim (cases_eq (epoch_of (event ∷ history)) epoch) [
      | inr other ↦ inl (until-before epoch event history other)
      | inl same ↦
          let grows = epoch-grows event history in
          let here : epoch_of history ≡ epoch = omega arith in
          inr (record {
            here = here;
            stays = same ∙ sym here;
            before = subst (λ (e : ℕ). until e history ≡ history) here (until-now history);
            after = until-here epoch event history same;
          })
    ]

-- ---- what a call makes of the present boot's end

pub current-parts : (history : AgentHistory) (packet : DownPacket) → is_current history packet ≡ true → (packet.epoch ≡ epoch_of history) × (packet.version ≡ version_of history)
unfolding is_current
current-parts history packet h =
    let parts = and_parts (packet.epoch == epoch_of history) (packet.version == version_of history) h in
    (eqb-true packet.epoch (epoch_of history) parts.0, eqb-true packet.version (version_of history) parts.1)

pub not_current : (history : AgentHistory) (packet : DownPacket) → packet.epoch ≢ epoch_of history → is_current history packet ≡ false
unfolding is_current
not_current history packet other = ap (λ b. b && packet.version == version_of history) (ne_eqb packet.epoch (epoch_of history) other)

pub takes-current : (history : AgentHistory) (packet : DownPacket) → is_current history packet ≡ false → takes history packet ≡ false
unfolding takes
takes-current history packet h = rw h refl

pub may-sends_new : (history : AgentHistory) (sent : List (Event (List Demand))) → sends_new history sent ≡ true →
    may_send_new (span_of (version_of history)) (newest_of sent) (open_numbers (reorder_of (version_of history)) (span_of (version_of history)) sent) ≡ true
unfolding sends_new
may-sends_new history sent h = (and_parts (not (is_none_taken (taken history))) _ h).1

pub none-sends_new : (history : AgentHistory) (sent : List (Event (List Demand))) → taken history ≡ [] → sends_new history sent ≡ false
unfolding sends_new
none-sends_new history sent h = rw h refl

pub stopped-sends_new : (history : AgentHistory) (sent : List (Event (List Demand))) → is_none_taken (taken history) ≡ false → sends_new history sent ≡ false →
    may_send_new (span_of (version_of history)) (newest_of sent) (open_numbers (reorder_of (version_of history)) (span_of (version_of history)) sent) ≡ false
unfolding sends_new
stopped-sends_new history sent some h = sym (ap (λ b. not b && may_send_new (span_of (version_of history)) (newest_of sent) (open_numbers (reorder_of (version_of history)) (span_of (version_of history)) sent)) some) ∙ h

-- ---- the packets that it made

abbrev IsOfBoot : ℕ → ℕ → AgentHistory → Numbered (List Demand) → Type 0
IsOfBoot endpoints g history packet = IsOf (reorder_of (version_of history)) (span_of (version_of history)) (numbers endpoints g history) (arrived history) packet

-- a later call of the boot keeps it
IsOfBoot-later : (w : Windows) (endpoints g : ℕ) (event : AgentEvent) (history : AgentHistory) (packet : Numbered (List Demand)) → epoch_of (event ∷ history) ≡ epoch_of history →
    IsOfBoot endpoints g history packet → IsOfBoot endpoints g (event ∷ history) packet
IsOfBoot-later w endpoints g (Boots version) history packet stays is = absurd (omega arith)
IsOfBoot-later w endpoints g (Asks dst slots) history packet stays is = is
IsOfBoot-later w endpoints g (SendsDue round) history packet stays is = is
IsOfBoot-later w endpoints g MakesUp history packet stays is =
    elim (sends_new history (numbers endpoints g history))
    as (λ b. IsOf (reorder_of (version_of history)) (span_of (version_of history)) (cond b (Sends (unconfirmed endpoints g history (numbers endpoints g history)) ∷ numbers endpoints g history) (numbers endpoints g history)) (arrived history) packet) [
      | true ↦ w.up_packets.sends (reorder_of (version_of history)) (span_of (version_of history)) (numbers endpoints g history) (arrived history) _ packet is
      | false ↦ is
    ]
IsOfBoot-later w endpoints g (TakesDown round down) history packet stays is =
    elim (is_current history down)
    as (λ b. IsOf (reorder_of (version_of history)) (span_of (version_of history)) (cond b (Reads down.ack ∷ numbers endpoints g history) (numbers endpoints g history)) (cond b (down.seq ∷ arrived history) (arrived history)) packet) [
      | true ↦
          w.up_packets.reads (reorder_of (version_of history)) (span_of (version_of history)) (numbers endpoints g history) (down.seq ∷ arrived history) down.ack packet
          (w.up_packets.arrives (reorder_of (version_of history)) (span_of (version_of history)) (numbers endpoints g history) (arrived history) down.seq packet is)
      | false ↦ is
    ]

-- what an upward packet says of the agent: it is of the boot of its epoch
abbrev pub IsOfAgent : ℕ → ℕ → AgentHistory → UpPacket → Type 0
IsOfAgent endpoints g history (Resets epoch version) = (epoch ≤ epoch_of history) × (version ≡ version_of (until epoch history))
IsOfAgent endpoints g history (Requests packet) =
    (packet.epoch ≤ epoch_of history) × (packet.version ≡ version_of (until packet.epoch history)) × IsOfBoot endpoints g (until packet.epoch history) packet

version-stays : (event : AgentEvent) (history : AgentHistory) → epoch_of (event ∷ history) ≡ epoch_of history → version_of (event ∷ history) ≡ version_of history
version-stays (Boots version) history stays = absurd (omega arith)
version-stays (Asks dst slots) history stays = refl
version-stays (TakesDown round packet) history stays = refl
version-stays MakesUp history stays = refl
version-stays (SendsDue round) history stays = refl

IsOfAgent-later : (w : Windows) (endpoints g : ℕ) (event : AgentEvent) (history : AgentHistory) (up : UpPacket) → IsOfAgent endpoints g history up → IsOfAgent endpoints g (event ∷ history) up
IsOfAgent-later w endpoints g event history (Resets epoch version) is =
    let grows = epoch-grows event history in
    let begun = is.0 in (
      omega arith,
      is.1 ∙ elim (until-cases epoch event history is.0) [
        | inl same ↦ ap version_of (sym same)
        | inr present ↦ ap version_of present.before ∙ sym (version-stays event history present.stays) ∙ ap version_of (sym present.after)
      ],
    )
IsOfAgent-later w endpoints g event history (Requests packet) is =
    let grows = epoch-grows event history in
    let begun = is.0 in (
      omega arith,
      is.1 ∙ elim (until-cases packet.epoch event history is.0) [
        | inl same ↦ ap version_of (sym same)
        | inr present ↦ ap version_of present.before ∙ sym (version-stays event history present.stays) ∙ ap version_of (sym present.after)
      ],
      elim (until-cases packet.epoch event history is.0) [
        | inl same ↦ subst (λ (h : AgentHistory). IsOfBoot endpoints g h packet) (sym same) is.2
        | inr present ↦
            subst (λ (h : AgentHistory). IsOfBoot endpoints g h packet) (sym present.after)
            (IsOfBoot-later w endpoints g event history packet present.stays
            (subst (λ (h : AgentHistory). IsOfBoot endpoints g h packet) present.before is.2))
      ],
    )

-- the request that is made is of the boot
abbrev request_made : ℕ → ℕ → AgentHistory → Numbered (List Demand)
request_made endpoints g history = record {
  epoch = epoch_of history;
  version = version_of history;
  seq = newest_of (numbers endpoints g (MakesUp ∷ history));
  ack = acknowledgement (reorder_of (version_of history)) (span_of (version_of history)) (arrived history);
  content = unwrap_or (newest_content (numbers endpoints g (MakesUp ∷ history))) [];
}

new_request : (w : Windows) (endpoints g : ℕ) (history : AgentHistory) → is_none_taken (taken history) ≡ false →
    IsOfBoot endpoints g (MakesUp ∷ history) (request_made endpoints g history)
new_request w endpoints g history some =
    record {
      counted = counted;
      known = omega arith;
      content = w.up_newest.content (numbers endpoints g (MakesUp ∷ history)) [] counted;
      reads = record { later = []; earlier = arrived history; parts = refl; told = refl };
    }
  where
    counted : 1 ≤ newest_of (numbers endpoints g (MakesUp ∷ history))
    counted = elim (cases_Bool (sends_new history (numbers endpoints g history))) [
      | inl new ↦ rw new (omega arith)
      | inr again ↦
          rw again
          (w.up_newest.counted (reorder_of (version_of history)) (span_of (version_of history)) (numbers endpoints g history)
          (stopped-sends_new history (numbers endpoints g history) some again))
    ]

packet-is_of : (w : Windows) (endpoints g : ℕ) (history : AgentHistory) → IsOfAgent endpoints g (MakesUp ∷ history) (packet_up endpoints g history)
unfolding packet_up
packet-is_of w endpoints g history =
    let now = until-here (epoch_of history) MakesUp history refl in
    elim (cases_Bool (is_none_taken (taken history))) [
      | inl none ↦ rw none (omega arith, ap version_of (sym now))
      | inr some ↦
          rw some (
            omega arith,
            ap version_of (sym now),
            subst (λ (h : AgentHistory). IsOfBoot endpoints g h (request_made endpoints g history)) (sym now) (new_request w endpoints g history some),
          )
    ]

-- each packet that was made is
pub made-is_of : (w : Windows) (endpoints g : ℕ) (history : AgentHistory) (up : UpPacket) → WasMadeUp endpoints g history up → IsOfAgent endpoints g history up
made-is_of w endpoints g [] up made = absurd made
made-is_of w endpoints g (MakesUp ∷ history) up made =
    elim made [
      | inl now ↦ subst (λ (u : UpPacket). IsOfAgent endpoints g (MakesUp ∷ history) u) now (packet-is_of w endpoints g history)
      | inr before ↦ IsOfAgent-later w endpoints g MakesUp history up (made-is_of w endpoints g history up before)
    ]
made-is_of w endpoints g (Boots version ∷ history) up made = IsOfAgent-later w endpoints g (Boots version) history up (made-is_of w endpoints g history up made)
made-is_of w endpoints g (Asks dst slots ∷ history) up made = IsOfAgent-later w endpoints g (Asks dst slots) history up (made-is_of w endpoints g history up made)
made-is_of w endpoints g (TakesDown round packet ∷ history) up made = IsOfAgent-later w endpoints g (TakesDown round packet) history up (made-is_of w endpoints g history up made)
made-is_of w endpoints g (SendsDue round ∷ history) up made = IsOfAgent-later w endpoints g (SendsDue round) history up (made-is_of w endpoints g history up made)

-- What the upward packets that arrive name, forged or not.
use Rattle.std.proofs.Common.{◌≡◌, ◌≢◌, ◌<◌, ◌≤◌, ◌+◌, ℕ, List, [], ◌∷◌, filter, Option, Some, None, All, refl, sym, ap, ◌∙◌, subst, inl, inr, arith}
use Rattle.std.specs.Prelude.{unwrap_or}
use Rattle.std.proofs.lemmas.Bool.{cases_Bool, eq-eqb}
use Rattle.std.proofs.lemmas.List.Elements.{All-push, All-head, All-tail, All-map, All-filter, All-weaker}
use Rattle.ack_window.specs.Ends.{content_of}
use Rattle.ack_window.specs.Sends.{Event, Sends, Reads, newest_of, newest_content}
use Rattle.loss_world.specs.Arrivals.{arrives_in}
use Rattle.fcp_framing.specs.declared.packet.Demand.{Demand}
use Rattle.fcp_framing.specs.declared.packet.Up.{Up}
use Rattle.fcp_framing.specs.Spelling.{IsUp}
use Rattle.endpoint_history.specs.Packets.{UpPacket, Resets, Requests, DownPacket, framed_up}
use Rattle.endpoint_history.specs.Agent.{AgentHistory, Boots, Asks, TakesDown, MakesUp, taken, is_none_taken, total, numbers, packet_up}
use Rattle.endpoint_history.specs.AgentLaws.{NamesTotals, RequestsNameTotals}
use Rattle.endpoint_history.specs.Bounds.{NamesAtMost}
use Rattle.endpoint_history.specs.Confirmed.{total_named}
use Rattle.endpoint_history.specs.Counts.{recorded}
use Rattle.endpoint_history.specs.Lane.{LaneHistory, MakesDown, TakesUp, Records, restarts, takes}
use Rattle.endpoint_history.specs.Steps.{Step, OfAgent, OfLane, agent_of, lane_of}
use Rattle.endpoint_history.specs.Rounds.{Round, Posted, PlayedEnds, arriving, then_each, begun, posted_down, heard, posted_up, read}
use Rattle.endpoint_history.proofs.Rounds.{lane-agent}
use Rattle.endpoint_history.proofs.Named.{total_named-own, total_named-most}

-- ---- what a request names

-- nothing to its own endpoint, and no total above this
pub record NamesOthers (endpoint most : ℕ) (demands : List Demand) : Type 0 where
  pub none : total_named endpoint demands ≡ 0
  pub few : (dst : ℕ) → total_named dst demands ≤ most

abbrev pub IsFair : ℕ → ℕ → UpPacket → Type 0
IsFair endpoint most (Resets epoch version) = Unit {0}
IsFair endpoint most (Requests packet) = NamesOthers endpoint most packet.content

-- a packet of a raw row keeps the rules
pub raw-fair : (endpoints endpoint : ℕ) (packet : UpPacket) → IsUp endpoints (framed_up endpoint packet) → IsFair endpoint 200000000 packet
raw-fair endpoints endpoint (Resets epoch version) is = tt
raw-fair endpoints endpoint (Requests packet) is = elim is [
  | inl reset ↦ let blank = ap (λ (u : Up). u.reset) reset.blank in absurd (cc)
  | inr request ↦ record {
    none = total_named-own endpoint packet.content request.others;
    few = λ dst. total_named-most 200000000 dst packet.content request.totals;
  }
]

-- ---- what an agent names

newest-has : (sent : List (Event (List Demand))) (content : List Demand) → newest_content sent ≡ Some content → content_of sent (newest_of sent) ≡ Some content
newest-has [] content is = absurd (cc)
newest-has (Sends x ∷ sent) content is = rw (eq-eqb (newest_of sent + 1) (newest_of sent + 1) refl) is
newest-has (Reads ack ∷ sent) content is = newest-has sent content is

totals-named : (endpoints g endpoint most : ℕ) (history : AgentHistory) (demands : List Demand) → NamesTotals endpoints g history demands →
    total g history endpoint ≡ 0 → ((dst : ℕ) → total g history dst ≤ most) → NamesOthers endpoint most demands
totals-named endpoints g endpoint most history demands names none few =
    record {
      none = total_named-own endpoint demands (All-weaker (λ (d : Demand). (0 < d.total) × (d.total ≤ total g history d.dst)) (λ (d : Demand). d.dst ≢ endpoint)
          (λ d named same. let is = ap (λ (n : ℕ). total g history n) same in let some = named.0 in let within = named.1 in absurd (omega arith)) demands names.totals);
      few = λ dst. total_named-most most dst demands (All-weaker (λ (d : Demand). (0 < d.total) × (d.total ≤ total g history d.dst)) (λ (d : Demand). d.total ≤ most)
          (λ d named. let within = named.1 in let bound = few d.dst in omega arith) demands names.totals);
    }

pub packet-fair : (named : RequestsNameTotals) (endpoints g endpoint most : ℕ) (history : AgentHistory) →
    total g history endpoint ≡ 0 → ((dst : ℕ) → total g history dst ≤ most) → IsFair endpoint most (packet_up endpoints g history)
unfolding packet_up total
packet-fair named endpoints g endpoint most history none few =
    elim (cases_Bool (is_none_taken (taken history))) [
      | inl first ↦ rw first tt
      | inr later ↦ rw later (newest (newest_content (numbers endpoints g (MakesUp ∷ history))) refl)
    ]
  where
    newest : (o : Option (List Demand)) → newest_content (numbers endpoints g (MakesUp ∷ history)) ≡ o → NamesOthers endpoint most (unwrap_or o [])
    newest None is = record { none = refl; few = λ dst. omega arith }
    newest (Some content) is =
        totals-named endpoints g endpoint most (MakesUp ∷ history) content
        (named endpoints g (MakesUp ∷ history) (newest_of (numbers endpoints g (MakesUp ∷ history))) content (newest-has (numbers endpoints g (MakesUp ∷ history)) content is))
        none few

-- ---- what arrives

module _ (P : UpPacket → Type 0) where
  abbrev pub EachTaken : LaneHistory → Type 0
  EachTaken [] = Unit {0}
  EachTaken (TakesUp round packet ∷ earlier) = P packet × EachTaken earlier
  EachTaken (_ ∷ earlier) = EachTaken earlier

  pub record IsSound (played : PlayedEnds) : Type 0 where
    pub posted : All (λ (p : Posted UpPacket). P p.packet) played.up
    pub taken : EachTaken (lane_of played.steps)

  each-read : (number : ℕ) (packets : List UpPacket) (steps : List Step) → All P packets → EachTaken (lane_of steps) → EachTaken (lane_of (then_each (λ packet. OfLane (TakesUp number packet)) packets steps))
  each-read number [] steps all before = before
  each-read number (p ∷ packets) steps all before = each-read number packets (OfLane (TakesUp number p) ∷ steps) (All-tail P p packets all) (All-head P p packets all, before)

  each-arriving : (posted : List (Posted UpPacket)) (number : ℕ) → All (λ (p : Posted UpPacket). P p.packet) posted → All P (arriving posted number)
  each-arriving posted number all =
      All-map P (λ (p : Posted UpPacket). p.packet) (filter (λ (p : Posted UpPacket). arrives_in p.fate p.round number) posted)
      (All-filter (λ (p : Posted UpPacket). arrives_in p.fate p.round number) (λ (p : Posted UpPacket). P p.packet) posted all)

  -- where the packet that is made and the raw ones are so, a round stays so
  pub sound-read : (endpoints g number : ℕ) (round : Round) (before : PlayedEnds) → IsSound before → P (packet_up endpoints g (agent_of (heard endpoints g number round before))) → All P round.raw →
      All (λ (p : Posted UpPacket). P p.packet) (posted_up endpoints g number round before) × EachTaken (lane_of (read endpoints g number round before))
  sound-read endpoints g number round before sound made raw =
      let booted : List Step = then_each (λ version. OfAgent (Boots version)) round.boots before.steps in
      let told_steps : List Step = OfLane (MakesDown number round.told) ∷ begun endpoints g number round before in
      let heard_steps : List Step = heard endpoints g number round before in
      let downs : List DownPacket = arriving (posted_down endpoints g number round before) number in
      let posted : All (λ (p : Posted UpPacket). P p.packet) (posted_up endpoints g number round before) =
      All-push (λ (p : Posted UpPacket). P p.packet) before.up (record { round = number; fate = round.up; packet = packet_up endpoints g (agent_of heard_steps) }) sound.posted made in
      let same : lane_of (begun endpoints g number round before) ≡ lane_of before.steps = lane-agent (λ (a : ℕ × ℕ). Asks a.0 a.1) round.asks booted ∙ lane-agent (λ version. Boots version) round.boots before.steps in
      let told : EachTaken (lane_of told_steps) = subst EachTaken (sym same) sound.taken in
      let heard_taken : EachTaken (lane_of heard_steps) = subst EachTaken (sym (lane-agent (λ packet. TakesDown number packet) downs told_steps)) told in (
        posted,
        each-read number round.raw (then_each (λ packet. OfLane (TakesUp number packet)) (arriving (posted_up endpoints g number round before) number) (OfAgent MakesUp ∷ heard_steps)) raw
            (each-read number (arriving (posted_up endpoints g number round before) number) (OfAgent MakesUp ∷ heard_steps) (each-arriving (posted_up endpoints g number round before) number posted) heard_taken),
      )

-- ---- what is recorded

pub fair-few : (endpoint most : ℕ) (h : LaneHistory) → EachTaken (IsFair endpoint most) h → NamesAtMost most h
fair-few endpoint most [] each = tt
fair-few endpoint most (MakesDown round told ∷ h) each = fair-few endpoint most h each
fair-few endpoint most (Records round ∷ h) each = fair-few endpoint most h each
fair-few endpoint most (TakesUp round (Resets epoch version) ∷ h) each = fair-few endpoint most h each.1
fair-few endpoint most (TakesUp round (Requests packet) ∷ h) each = (each.0.few, fair-few endpoint most h each.1)

pub none-recorded : (endpoint most : ℕ) (h : LaneHistory) → EachTaken (IsFair endpoint most) h → recorded h endpoint ≡ 0
none-recorded endpoint most [] each = refl
none-recorded endpoint most (MakesDown round told ∷ h) each = none-recorded endpoint most h each
none-recorded endpoint most (Records round ∷ h) each = none-recorded endpoint most h each
none-recorded endpoint most (TakesUp round (Resets epoch version) ∷ h) each =
    elim (cases_Bool (restarts h epoch)) [
      | inl new ↦ rw new refl
      | inr old ↦ rw old (none-recorded endpoint most h each.1)
    ]
none-recorded endpoint most (TakesUp round (Requests packet) ∷ h) each =
    let before = none-recorded endpoint most h each.1 in
    let now = each.0.none in
    elim (cases_Bool (takes h packet)) [
      | inl taken_in ↦ rw taken_in (omega arith)
      | inr left ↦ rw left before
    ]

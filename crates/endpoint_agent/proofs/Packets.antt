-- The upward packet that an agent makes.
use Rattle.std.proofs.Common.{◌≡◌, ◌≢◌, ℕ, zero, suc, get_or, ◌+◌, ◌-◌, ◌^◌, ◌<◌, ◌≤◌, true, false, List, [], ◌∷◌, map, length, All, unwrap_or, refl, sym, ◌∙◌, ap, subst, inl, inr, arith}
use Rattle.std.specs.List.Sorted.{IsStrictlyIncreasing}
use Rattle.std.proofs.lemmas.Bool.{cases_lt, cond-true, cond-false, not-true, not-false}
use Rattle.std.proofs.lemmas.List.{length-map}
use Rattle.std.proofs.lemmas.List.Elements.{All-map}
use Rattle.ack_window.specs.Arrivals.{acknowledgement, mask_of}
use Rattle.ack_window.specs.Sends.{newest_of, newest_content}
use Rattle.ack_window.specs.Versions.{reorder_of, span_of}
use Rattle.fcp_framing.specs.declared.packet.Demand.{Demand}
use Rattle.fcp_framing.specs.declared.packet.Up.{Up}
use Rattle.fcp_framing.specs.Spelling.{IsMask, IsReset, IsRequest, reset_of}
use Rattle.endpoint_history.specs.Packets.{UpPacket, Resets, Requests, framed_up}
use Rattle.endpoint_history.specs.Agent.{AgentHistory, MakesUp, epoch_of, version_of, arrived, taken, is_none_taken, total, numbers, packet_up}
use Rattle.endpoint_history.specs.AgentLaws.{TakingBringsSlots, NamesTotals, RequestsNameTotals}
use Rattle.endpoint_history.proofs.Totals.{total-is}
use Rattle.endpoint_agent.specs.declared.lines.FlowLine.{FlowLine}
use Rattle.endpoint_agent.specs.Standing.{AgentStandsFor}
use Rattle.endpoint_agent.specs.State.{AgentState, IsSound}
use Rattle.endpoint_agent.proofs.Bare.{bare-newest, newest-content}
use Rattle.endpoint_agent.proofs.Totals.{carrying_of}

-- ---- a reset

packet_up-resets : (endpoints g : ℕ) (history : AgentHistory) → is_none_taken (taken history) ≡ true → packet_up endpoints g history ≡ Resets (epoch_of history) (version_of history)
unfolding packet_up
packet_up-resets endpoints g history none = cond-true (is_none_taken (taken history)) (Resets (epoch_of history) (version_of history)) _ none

pub reset-is : (agent : AgentState) (history : AgentHistory) → AgentStandsFor agent history → agent.has_begun ≡ false →
    reset_of agent.version agent.me agent.epoch ≡ framed_up agent.me (packet_up agent.endpoints agent.g history)
reset-is agent history stands begun =
    let none : is_none_taken (taken history) ≡ true = not-false (is_none_taken (taken history)) (sym stands.has_begun ∙ begun) in
    ap (λ (v : ℕ). reset_of v agent.me agent.epoch) stands.version
    ∙ ap (λ (e : ℕ). reset_of (version_of history) agent.me e) stands.epoch
    ∙ ap (framed_up agent.me) (sym (packet_up-resets agent.endpoints agent.g history none))

pub reset-ok : (agent : AgentState) → IsSound agent → IsReset agent.endpoints (reset_of agent.version agent.me agent.epoch)
reset-ok agent sound = record { network = sound.endpoints; version = sound.version; source = sound.own; epoch = sound.epoch; blank = refl }

-- ---- a request

abbrev pub request_in : AgentState → Up
request_in agent = record {
  version = agent.version;
  reset = false;
  src = agent.me;
  epoch = agent.epoch;
  seq = agent.sent.outstanding.newest;
  high = agent.arrived.told.high;
  mask = agent.arrived.told.mask;
  demands = record { items = agent.named };
}

abbrev request_after : ℕ → ℕ → AgentHistory → UpPacket
request_after endpoints g history = Requests (record {
  epoch = epoch_of history;
  version = version_of history;
  seq = newest_of (numbers endpoints g (MakesUp ∷ history));
  ack = acknowledgement (reorder_of (version_of history)) (span_of (version_of history)) (arrived history);
  content = unwrap_or (newest_content (numbers endpoints g (MakesUp ∷ history))) [];
})

packet_up-requests : (endpoints g : ℕ) (history : AgentHistory) → is_none_taken (taken history) ≡ false → packet_up endpoints g history ≡ request_after endpoints g history
unfolding packet_up
packet_up-requests endpoints g history some = cond-false (is_none_taken (taken history)) (Resets (epoch_of history) (version_of history)) (request_after endpoints g history) some

pub request-is : (agent : AgentState) (history : AgentHistory) → AgentStandsFor agent (MakesUp ∷ history) → agent.has_begun ≡ true → agent.arrived.version ≡ agent.version →
    request_in agent ≡ framed_up agent.me (packet_up agent.endpoints agent.g history)
request-is agent history stands begun heard =
    let some : is_none_taken (taken history) ≡ false = not-true (is_none_taken (taken history)) (sym stands.has_begun ∙ begun) in
    let seq = stands.sent.newest ∙ bare-newest (numbers agent.endpoints agent.g (MakesUp ∷ history)) in
    let mask = stands.arrived.mask ∙ ap (λ (v : ℕ). mask_of (reorder_of v) (span_of v) (arrived history)) (heard ∙ stands.version) in
    let same : request_in agent ≡ framed_up agent.me (request_after agent.endpoints agent.g history) = λ i. record {
      version = stands.version i;
      reset = false;
      src = agent.me;
      epoch = stands.epoch i;
      seq = seq i;
      high = stands.arrived.high i;
      mask = mask i;
      demands = record { items = stands.named i };
    } in
    same ∙ ap (framed_up agent.me) (sym (packet_up-requests agent.endpoints agent.g history some))

-- ---- it keeps the rules

climbs : (xs : List ℕ) → IsStrictlyIncreasing xs → (k j : ℕ) → k + j < length xs → get_or xs k 0 + j ≤ get_or xs (k + j) 0
climbs xs rising k zero within =
    let same : get_or xs (k + zero) 0 ≡ get_or xs k 0 = let e : k + zero ≡ k = omega arith in ap (λ (n : ℕ). get_or xs n 0) e in
    omega (arith, same)
climbs xs rising k (suc j) within =
    let before = climbs xs rising k j (omega (arith, within)) in
    let step = rising (k + j) (omega (arith, within)) in
    let same : get_or xs (k + suc j) 0 ≡ get_or xs (k + j + 1) 0 = let e : k + suc j ≡ k + j + 1 = omega arith in ap (λ (n : ℕ). get_or xs n 0) e in
    omega (arith, before, step, same)

-- numbers below n that rise are less than n of them where one is left out
few : (xs : List ℕ) (n me : ℕ) → IsStrictlyIncreasing xs → All (λ (x : ℕ). x < n) xs → All (λ (x : ℕ). x ≢ me) xs → me < n → length xs < n
few xs n me rising below others within = elim (cases_lt (length xs) n) [
  | inl less ↦ less
  | inr long ↦
      let last = n - 1 - me in
      let from_start = climbs xs rising 0 me (omega (arith, within, long)) in
      let start : get_or xs (0 + me) 0 ≡ get_or xs me 0 = let e : 0 + me ≡ me = omega arith in ap (λ (k : ℕ). get_or xs k 0) e in
      let to_end = climbs xs rising me last (omega (arith, within, long)) in
      let end = below (me + last) 0 (omega (arith, within, long)) in
      absurd (others me 0 (omega (arith, within, long)) (omega (arith, from_start, start, to_end, end, within)))
]

pub request-ok : (names : RequestsNameTotals) (taking : TakingBringsSlots) (agent : AgentState) (history : AgentHistory) → AgentStandsFor agent history → IsSound agent → 1 ≤ agent.sent.outstanding.newest
    → IsMask agent.arrived.told.high agent.arrived.told.mask → agent.arrived.told.mask < 2 ^ span_of agent.arrived.version → IsRequest agent.endpoints (request_in agent)
request-ok names taking agent history stands sound some is_mask fits =
    let endpoints = agent.endpoints in
    let g = agent.g in
    let me = agent.me in
    let sent = numbers endpoints g history in
    let newest = stands.sent.newest ∙ bare-newest sent in
    let named : NamesTotals endpoints g history agent.named =
    subst (λ (demands : List Demand). NamesTotals endpoints g history demands) (sym stands.named)
    (names endpoints g history (newest_of sent) (unwrap_or (newest_content sent) []) (newest-content sent (omega (arith, some, newest)))) in
    let none : total g history me ≡ 0 =
    let from = ap (λ (l : FlowLine). l.carried_from) (stands.lines me sound.own) in
    total-is g history me ∙ (carrying_of taking endpoints g history me sound.own).grown (sym from ∙ sound.own_line) in
    let most : (dst : ℕ) → dst < endpoints → total g history dst ≤ 200000000 = λ dst below.
    let is = total-is g history dst in
    let asked = ap (λ (l : FlowLine). l.asked) (stands.lines dst below) in
    let missed = ap (λ (l : FlowLine). l.missed) (stands.lines dst below) in
    omega (arith, is, asked, missed, (sound.lines dst).asked, (sound.lines dst).missed) in
    let others : All (λ (d : Demand). d.dst ≢ me) agent.named = λ k d within same.
    let (above, low) = named.totals k d within in
    let is = ap (total g history) same ∙ none in
    omega (arith, above, low, is) in
    record {
      network = sound.endpoints;
      version = sound.version;
      kind = refl;
      source = sound.own;
      epoch = sound.epoch;
      seq = some;
      mask = is_mask;
      width = subst (λ (v : ℕ). agent.arrived.told.mask < 2 ^ span_of v) sound.heard_version fits;
      count =
          let long = length-map agent.named (λ (d : Demand). d.dst) in
          let less = few (map (λ (d : Demand). d.dst) agent.named) endpoints me named.rising
          (All-map (λ (x : ℕ). x < endpoints) (λ (d : Demand). d.dst) agent.named named.within) (All-map (λ (x : ℕ). x ≢ me) (λ (d : Demand). d.dst) agent.named others) sound.own in
          omega (arith, long, less);
      destinations = named.within;
      rising = named.rising;
      others = others;
      totals = λ k d within.
          let (above, low) = named.totals k d within in
          let top = most (get_or agent.named k d).dst (named.within k d within) in
          omega (arith, low, top);
    }

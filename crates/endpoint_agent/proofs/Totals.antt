-- The totals of a flow through a history, and what the requests carry of them.
use Rattle.std.proofs.Common.{◌≡◌, ℕ, zero, suc, ◌+◌, ◌<◌, ◌≤◌, Bool, true, false, cond, ◌&&◌, ◌==◌, not, eqb, leb, ltb, List, [], ◌∷◌, map, filter, refl, sym, ◌∙◌, ap, subst, inl, inr, arith}
use Rattle.std.specs.List.{range_with_len}
use Rattle.std.proofs.lemmas.Bool.{cases_Bool, cases_eq, cases_lt, eq-eqb, ne_eqb, eqb-true, eqb-false, and_from, and_parts, le-ltb, lt-ltb, le-leb, lt-leb}
use Rattle.ack_window.specs.Sends.{Sends, Reads}
use Rattle.ack_window.specs.Versions.{reorder_of, span_of}
use Rattle.fcp_framing.specs.declared.packet.Demand.{Demand}
use Rattle.endpoint_history.specs.Packets.{DownPacket}
use Rattle.endpoint_history.specs.Agent.{AgentHistory, Boots, Asks, TakesDown, MakesUp, SendsDue, version_of, is_current, takes, asked, missed, total, was_carried, sends_new, unconfirmed, numbers}
use Rattle.endpoint_history.specs.AgentLaws.{TakingBringsSlots}
use Rattle.endpoint_history.proofs.Totals.{total-is}
use Rattle.endpoint_agent.specs.Carrying.{carried_from, greatest_acknowledged}
use Rattle.endpoint_agent.proofs.Members.{Has-filter, Has-filtered, Has-map, Has-mapped, Has-range, any_from, any_to}
use Rattle.endpoint_agent.proofs.Confirmed.{Requests, demand_of, carries, Carrying, Carrying-none, Carrying-grows, Carrying-reads, Carrying-sends, confirmed_by_number}

-- ---- what a request names

abbrev is_named : ℕ → ℕ → Requests → Demand → Bool
is_named reorder span sent d = not (d.total == 0) && not (was_carried reorder span sent d)

abbrev present : ℕ → AgentHistory → ℕ → Demand
present g history dst = record { dst = dst; total = total g history dst }

unconfirmed-is : (endpoints g : ℕ) (history : AgentHistory) (sent : Requests) →
    unconfirmed endpoints g history sent
    ≡ filter (is_named (reorder_of (version_of history)) (span_of (version_of history)) sent) (map (present g history) (range_with_len 0 endpoints))
unfolding unconfirmed
unconfirmed-is endpoints g history sent = refl

abbrev names : ℕ → ℕ → Demand → Bool
names dst other d = d.dst == dst && d.total == other

carries-only : (endpoints g : ℕ) (history : AgentHistory) (sent : Requests) (dst other : ℕ) → carries dst other (unconfirmed endpoints g history sent) ≡ true → other ≡ total g history dst
carries-only endpoints g history sent dst other carried =
    let test = is_named (reorder_of (version_of history)) (span_of (version_of history)) sent in
    let all = map (present g history) (range_with_len 0 endpoints) in
    let (demand, here, passes) = any_to (names dst other) (filter test all) (subst (λ (ds : List Demand). carries dst other ds ≡ true) (unconfirmed-is endpoints g history sent) carried) in
    let (there, named) = Has-filtered test all demand here in
    let (k, in_range, same) = Has-mapped (present g history) (range_with_len 0 endpoints) demand there in
    let (to, is) = and_parts (eqb demand.dst dst) (eqb demand.total other) passes in
    let is_dst : k ≡ dst = ap (λ (d : Demand). d.dst) same ∙ eqb-true demand.dst dst to in
    sym (ap (total g history) (sym is_dst) ∙ ap (λ (d : Demand). d.total) same ∙ eqb-true demand.total other is)

carries-named : (endpoints g : ℕ) (history : AgentHistory) (sent : Requests) (dst : ℕ) → dst < endpoints → 0 < total g history dst
    → was_carried (reorder_of (version_of history)) (span_of (version_of history)) sent (demand_of dst (total g history dst)) ≡ false
    → carries dst (total g history dst) (unconfirmed endpoints g history sent) ≡ true
carries-named endpoints g history sent dst below some not_yet =
    let test = is_named (reorder_of (version_of history)) (span_of (version_of history)) sent in
    let all = map (present g history) (range_with_len 0 endpoints) in
    let most = total g history dst in
    let there = Has-map (present g history) (range_with_len 0 endpoints) dst (Has-range 0 endpoints dst (omega arith) (omega (arith, below))) in
    let passes : test (present g history dst) ≡ true =
    and_from (not (most == 0)) (not (was_carried (reorder_of (version_of history)) (span_of (version_of history)) sent (demand_of dst most)))
    (ap not (ne_eqb most 0 (λ none. omega (arith, none, some)))) (ap not not_yet) in
    subst (λ (ds : List Demand). carries dst most ds ≡ true) (sym (unconfirmed-is endpoints g history sent))
    (any_from (names dst most) (filter test all) (present g history dst) (Has-filter test all (present g history dst) there passes)
    (and_from (eqb dst dst) (eqb most most) (eq-eqb dst dst refl) (eq-eqb most most refl)))

-- ---- through a history

-- both parts of a total
abbrev pub sum_of : ℕ → AgentHistory → ℕ → ℕ
sum_of g history dst = asked history dst + missed g history dst

Carrying-makes : (endpoints g : ℕ) (history : AgentHistory) (sent : Requests) (dst from : ℕ) (new : Bool) → dst < endpoints
    → Carrying (reorder_of (version_of history)) (span_of (version_of history)) sent dst (sum_of g history dst) from
    → Carrying (reorder_of (version_of history)) (span_of (version_of history)) (cond new (Sends (unconfirmed endpoints g history sent) ∷ sent) sent) dst (sum_of g history dst) from
Carrying-makes endpoints g history sent dst from false below carrying = carrying
Carrying-makes endpoints g history sent dst from true below carrying =
    let reorder = reorder_of (version_of history) in
    let span = span_of (version_of history) in
    let is = total-is g history dst in
    Carrying-sends reorder span sent dst (sum_of g history dst) from (unconfirmed endpoints g history sent) carrying
    (λ other carried. carries-only endpoints g history sent dst other carried ∙ is)
    (λ some not_yet. subst (λ (n : ℕ). carries dst n (unconfirmed endpoints g history sent) ≡ true) is
    (carries-named endpoints g history sent dst below (omega (arith, some, is))
    (subst (λ (n : ℕ). was_carried reorder span sent (demand_of dst n) ≡ false) (sym is) not_yet)))

asked-more : (history : AgentHistory) (to slots dst : ℕ) → asked history dst ≤ asked (Asks to slots ∷ history) dst
asked-more history to slots dst = elim (to == dst) as (λ (b : Bool). asked history dst ≤ cond b (asked history dst + slots) (asked history dst)) [ true ↦ omega arith | false ↦ omega arith ]

missed-more : (taking : TakingBringsSlots) (g round : ℕ) (packet : DownPacket) (history : AgentHistory) (dst : ℕ) → missed g history dst ≤ missed g (TakesDown round packet ∷ history) dst
missed-more taking g round packet history dst = elim (cases_Bool (takes history packet)) [
  | inl t ↦ let e = taking.late g round packet history dst t in omega (arith, e)
  | inr f ↦ let e = (taking.refused g round packet history dst f).1 in omega (arith, e)
]

grew : (old new : ℕ) → old ≤ new → (new == old) ≡ false → old < new
grew old new more other = let e = eqb-false new old other in omega (arith, more, e)

pub carrying_of : (taking : TakingBringsSlots) (endpoints g : ℕ) (history : AgentHistory) (dst : ℕ) → dst < endpoints
    → Carrying (reorder_of (version_of history)) (span_of (version_of history)) (numbers endpoints g history) dst (sum_of g history dst) (carried_from endpoints g history dst)
carrying_of taking endpoints g [] dst below = Carrying-none (reorder_of 1) (span_of 1) dst
carrying_of taking endpoints g (Boots version ∷ earlier) dst below = Carrying-none (reorder_of version) (span_of version) dst
carrying_of taking endpoints g (Asks to slots ∷ earlier) dst below =
    let more = asked-more earlier to slots dst in
    let before = asked earlier dst in
    let after = asked (Asks to slots ∷ earlier) dst in
    Carrying-grows (reorder_of (version_of earlier)) (span_of (version_of earlier)) (numbers endpoints g earlier) dst (sum_of g earlier dst) (carried_from endpoints g earlier dst)
    (sum_of g (Asks to slots ∷ earlier) dst) (after == before) (carrying_of taking endpoints g earlier dst below)
    (λ same. let e = eqb-true after before same in omega (arith, e))
    (λ other. let e = grew before after more other in omega (arith, e))
carrying_of taking endpoints g (TakesDown round packet ∷ earlier) dst below =
    let reorder = reorder_of (version_of earlier) in
    let span = span_of (version_of earlier) in
    let more = missed-more taking g round packet earlier dst in
    let before = missed g earlier dst in
    let after = missed g (TakesDown round packet ∷ earlier) dst in
    let sent = numbers endpoints g earlier in
    let from = carried_from endpoints g (TakesDown round packet ∷ earlier) dst in
    let most = sum_of g (TakesDown round packet ∷ earlier) dst in
    let grown = Carrying-grows reorder span sent dst (sum_of g earlier dst) (carried_from endpoints g earlier dst) most (after == before) (carrying_of taking endpoints g earlier dst below)
    (λ same. let e = eqb-true after before same in omega (arith, e))
    (λ other. let e = grew before after more other in omega (arith, e)) in
    elim (is_current earlier packet) as (λ (b : Bool). Carrying reorder span (cond b (Reads packet.ack ∷ sent) sent) dst most from) [
      | true ↦ Carrying-reads reorder span sent dst most from packet.ack grown
      | false ↦ grown
    ]
carrying_of taking endpoints g (MakesUp ∷ earlier) dst below =
    Carrying-makes endpoints g earlier (numbers endpoints g earlier) dst (carried_from endpoints g earlier dst) (sends_new earlier (numbers endpoints g earlier)) below (carrying_of taking endpoints g earlier dst below)
carrying_of taking endpoints g (SendsDue round ∷ earlier) dst below = carrying_of taking endpoints g earlier dst below

-- ---- a new request, line by line

-- it names a flow exactly where no number from the one on that may carry the total is acknowledged
named-by_number : (taking : TakingBringsSlots) (endpoints g : ℕ) (history : AgentHistory) (dst : ℕ) → dst < endpoints
    → is_named (reorder_of (version_of history)) (span_of (version_of history)) (numbers endpoints g history) (present g history dst)
    ≡ ltb (greatest_acknowledged (reorder_of (version_of history)) (span_of (version_of history)) (numbers endpoints g history)) (carried_from endpoints g history dst)
named-by_number taking endpoints g history dst below =
    let reorder = reorder_of (version_of history) in
    let span = span_of (version_of history) in
    let sent = numbers endpoints g history in
    let carrying = carrying_of taking endpoints g history dst below in
    let from = carried_from endpoints g history dst in
    let greatest = greatest_acknowledged reorder span sent in
    let is = total-is g history dst in
    let most = total g history dst in
    elim (cases_eq most 0) [
      | inl none ↦
          let e = carrying.starts (omega (arith, is, none)) in
          ap (λ (b : Bool). not b && not (was_carried reorder span sent (present g history dst))) (eq-eqb most 0 none)
          ∙ sym (le-ltb greatest from (omega (arith, e)))
      | inr some ↦
          let test : was_carried reorder span sent (demand_of dst most) ≡ leb from greatest =
          ap (λ (n : ℕ). was_carried reorder span sent (demand_of dst n)) is ∙ confirmed_by_number reorder span sent dst (sum_of g history dst) from carrying (omega (arith, is, some)) in
          ap (λ (b : Bool). not b && not (was_carried reorder span sent (demand_of dst most))) (ne_eqb most 0 some)
          ∙ ap not test
          ∙ elim (cases_lt greatest from) [
            | inl later ↦ ap not (lt-leb from greatest later) ∙ sym (lt-ltb greatest from later)
            | inr reached ↦ ap not (le-leb from greatest reached) ∙ sym (le-ltb greatest from reached)
          ]
    ]

filtered-alike : (test : Demand → Bool) (test' : ℕ → Bool) (f f' : ℕ → Demand) (a n most : ℕ) → a + n ≤ most
    → ((k : ℕ) → k < most → test (f k) ≡ test' k) → ((k : ℕ) → k < most → f k ≡ f' k)
    → filter test (map f (range_with_len a n)) ≡ map f' (filter test' (range_with_len a n))
filtered-alike test test' f f' a zero most within tests values = refl
filtered-alike test test' f f' a (suc n) most within tests values =
    let rest = filtered-alike test test' f f' (a + 1) n most (omega (arith, within)) tests values in
    let below : a < most = omega (arith, within) in
    let same = tests a below in
    elim (cases_Bool (test' a)) [
      | inl t ↦ rw (same, t) (ap (λ (d : Demand). d ∷ filter test (map f (range_with_len (a + 1) n))) (values a below) ∙ ap (λ (ds : List Demand). f' a ∷ ds) rest)
      | inr f ↦ rw (same, f) rest
    ]

pub unconfirmed-by_number : (taking : TakingBringsSlots) (endpoints g : ℕ) (history : AgentHistory) (acknowledged : ℕ) (from : ℕ → ℕ) (value : ℕ → Demand)
    → acknowledged ≡ greatest_acknowledged (reorder_of (version_of history)) (span_of (version_of history)) (numbers endpoints g history)
    → ((k : ℕ) → k < endpoints → from k ≡ carried_from endpoints g history k)
    → ((k : ℕ) → k < endpoints → value k ≡ demand_of k (sum_of g history k))
    → unconfirmed endpoints g history (numbers endpoints g history) ≡ map value (filter (λ k. ltb acknowledged (from k)) (range_with_len 0 endpoints))
unconfirmed-by_number taking endpoints g history acknowledged from value is froms values =
    unconfirmed-is endpoints g history (numbers endpoints g history)
    ∙ filtered-alike (is_named (reorder_of (version_of history)) (span_of (version_of history)) (numbers endpoints g history)) (λ k. ltb acknowledged (from k)) (present g history) value 0 endpoints endpoints (omega arith)
    (λ k below. named-by_number taking endpoints g history k below
    ∙ ap (λ (n : ℕ). ltb n (carried_from endpoints g history k)) (sym is) ∙ ap (λ (n : ℕ). ltb acknowledged n) (sym (froms k below)))
    (λ k below. ap (demand_of k) (total-is g history k) ∙ sym (values k below))

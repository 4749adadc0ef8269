-- How large numbers and losses can become.
use Rattle.std.proofs.Common.{◌≡◌, ℕ, ◌+◌, ◌-◌, ◌*◌, ◌≤◌, true, false, ◌&&◌, cond, nat_lt, ◌==◌, refl, List, [], ◌∷◌, ap, inl, inr, arith}
use Rattle.std.specs.Prelude.{nat_le}
use Rattle.std.proofs.lemmas.Bool.{cases_Bool, cases_lt, ne_eqb}
use Rattle.ack_window.specs.Sends.{newest_of}
use Rattle.fcp_framing.specs.declared.packet.Told.{Told}
use Rattle.endpoint_history.specs.Packets.{Resets, Requests, slots_to}
use Rattle.endpoint_history.specs.Agent as agent
use Rattle.endpoint_history.specs.Agent.{AgentHistory, Boots, Asks, TakesDown, MakesUp, SendsDue}
use Rattle.endpoint_history.specs.Lane as lane
use Rattle.endpoint_history.specs.Lane.{LaneHistory, MakesDown, TakesUp, Records, telling_in}
use Rattle.endpoint_history.specs.Steps.{ups_made, downs_made, rounds_begun, RoundsRise}
use Rattle.endpoint_history.specs.Tellings.{SlotsAreWithin, RisesFrom, AreTo}
use Rattle.endpoint_history.specs.Bounds.{NumbersAreFew, ToldIsFew, NoneIsToldBeyond, RecordedIsNamed}
use Rattle.endpoint_history.specs.Windows.{Windows}
use Rattle.endpoint_history.proofs.CallCounts.{making_tells, reading_decides, resets_count_anew}
use Rattle.endpoint_history.proofs.Ledger.{told-nothing}
use Rattle.endpoint_history.proofs.Sending.{count_by-cons}

-- ---- numbers

few-up : (endpoints g : ℕ) (history : AgentHistory) → newest_of (agent.numbers endpoints g history) ≤ ups_made history
few-up endpoints g [] = omega arith
few-up endpoints g (Boots version ∷ history) = omega arith
few-up endpoints g (Asks dst slots ∷ history) = few-up endpoints g history
few-up endpoints g (SendsDue round ∷ history) = few-up endpoints g history
few-up endpoints g (TakesDown round packet ∷ history) =
    let before = few-up endpoints g history in
    elim (cases_Bool (agent.is_current history packet)) [ inl current ↦ rw current before | inr other ↦ rw other before ]
few-up endpoints g (MakesUp ∷ history) =
    let before = few-up endpoints g history in
    elim (cases_Bool (agent.sends_new history (agent.numbers endpoints g history))) [ inl new ↦ rw new (omega arith) | inr again ↦ rw again (omega arith) ]

few-down : (g : ℕ) (history : LaneHistory) → newest_of (lane.numbers g history) ≤ downs_made history
few-down g [] = omega arith
few-down g (Records round ∷ history) = few-down g history
few-down g (TakesUp round (Requests packet) ∷ history) =
    let before = few-down g history in
    elim (cases_Bool (lane.is_current history packet)) [ inl current ↦ rw current before | inr other ↦ rw other before ]
few-down g (TakesUp round (Resets epoch version) ∷ history) =
    let before = few-down g history in
    elim (cases_Bool (lane.restarts history epoch)) [ inl new ↦ rw new (omega arith) | inr old ↦ rw old before ]
few-down g (MakesDown round slots ∷ history) =
    let before = few-down g history in
    elim (cases_Bool (nat_lt 0 (lane.epoch_of history) && lane.may_send history (lane.numbers g history))) [ inl new ↦ rw new (omega arith) | inr again ↦ rw again (omega arith) ]

few-rounds : (history : LaneHistory) → RoundsRise history → downs_made history ≤ rounds_begun history
few-rounds [] rise = omega arith
few-rounds (Records round ∷ history) rise = few-rounds history rise
few-rounds (TakesUp round packet ∷ history) rise = few-rounds history rise
few-rounds (MakesDown round slots ∷ history) rise = let before = few-rounds history rise.1 in let above = rise.0 in omega arith

pub numbers_are_few : NumbersAreFew
numbers_are_few = record { up = λ endpoints g history. few-up endpoints g history; down = λ g history. few-down g history; rounds = λ history rise. few-rounds history rise }

-- ---- slots

-- slots that rise within a batch
slots-few : (b dst low : ℕ) (slots : List Told) → SlotsAreWithin b slots → RisesFrom low slots → low ≤ b → slots_to dst slots + low ≤ b
slots-few b dst low [] within rises under = omega arith
slots-few b dst low (t ∷ slots) within rises under =
    let below = within.0 in
    let above = rises.0 in
    let rest = slots-few b dst (t.offset + 1) slots within.1 rises.1 (omega arith) in
    let push = count_by-cons (λ (x : Told). x.dst == dst) t slots in
    elim (cases_Bool (t.dst == dst)) [
      | inl same ↦ let it = ap (λ c. cond c (1 + slots_to dst slots) (slots_to dst slots)) same in omega arith
      | inr other ↦ let it = ap (λ c. cond c (1 + slots_to dst slots) (slots_to dst slots)) other in omega arith
    ]

telling-few : (b g round : ℕ) (slots : List Told) (history : LaneHistory) (dst : ℕ) → SlotsAreWithin b slots → RisesFrom 0 slots → slots_to dst (telling_in g history round slots).told ≤ b
telling-few b g round slots history dst within rises =
    let few = slots-few b dst 0 slots within rises (omega arith) in
    elim (nat_le (2 * g) round && nat_le (lane.last_reset history) (round - 2 * g)) as (λ t. slots_to dst (cond t slots []) ≤ b) [ true ↦ omega arith | false ↦ omega arith ]

pub told_is_few : (w : Windows) → ToldIsFew
told_is_few w b g [] dst within rises = let none = told-nothing w g dst in omega arith
told_is_few w b g (Records round ∷ history) dst within rises = told_is_few w b g history dst within rises
told_is_few w b g (TakesUp round (Requests packet) ∷ history) dst within rises =
    let before = told_is_few w b g history dst within rises in
    let same = (reading_decides w).tells_none g round packet history dst in
    omega arith
told_is_few w b g (TakesUp round (Resets epoch version) ∷ history) dst within rises =
    let before = told_is_few w b g history dst within rises in
    elim (cases_Bool (lane.restarts history epoch)) [
      | inl new ↦ let none = (resets_count_anew.anew g round epoch version history dst new).1 in omega arith
      | inr old ↦ let same = (resets_count_anew.as_before g round epoch version history dst old).1 in omega arith
    ]
told_is_few w b g (MakesDown round slots ∷ history) dst within rises =
    let before = told_is_few w b g history dst within.1 rises.1 in
    let few = telling-few b g round slots history dst within.0 rises.0 in
    elim (cases_lt 0 (lane.epoch_of history)) [
      | inl begun ↦ let grown = (making_tells w).tells g round slots history dst begun in omega arith
      | inr none ↦ let same = ((making_tells w).before g round slots history dst (omega arith)).0 in omega arith
    ]

-- slots to endpoints below a number are none to those that are not
slots-beyond : (endpoints dst : ℕ) (slots : List Told) → AreTo endpoints slots → endpoints ≤ dst → slots_to dst slots ≡ 0
slots-beyond endpoints dst [] to beyond = refl
slots-beyond endpoints dst (t ∷ slots) to beyond =
    let below = to.0 in
    let rest = slots-beyond endpoints dst slots to.1 beyond in
    let push = count_by-cons (λ (x : Told). x.dst == dst) t slots in
    let other : (t.dst == dst) ≡ false = ne_eqb _ _ (λ same. omega (arith, same, below, beyond)) in
    let it = ap (λ c. cond c (1 + slots_to dst slots) (slots_to dst slots)) other in
    omega arith

telling-beyond : (endpoints g round : ℕ) (slots : List Told) (history : LaneHistory) (dst : ℕ) → AreTo endpoints slots → endpoints ≤ dst → slots_to dst (telling_in g history round slots).told ≡ 0
telling-beyond endpoints g round slots history dst to beyond =
    let none = slots-beyond endpoints dst slots to beyond in
    elim (nat_le (2 * g) round && nat_le (lane.last_reset history) (round - 2 * g)) as (λ t. slots_to dst (cond t slots []) ≡ 0) [ true ↦ none | false ↦ refl ]

pub none_is_told_beyond : (w : Windows) → NoneIsToldBeyond
none_is_told_beyond w endpoints g [] dst to beyond = told-nothing w g dst
none_is_told_beyond w endpoints g (Records round ∷ history) dst to beyond = none_is_told_beyond w endpoints g history dst to beyond
none_is_told_beyond w endpoints g (TakesUp round (Requests packet) ∷ history) dst to beyond =
    let before = none_is_told_beyond w endpoints g history dst to beyond in
    let same = (reading_decides w).tells_none g round packet history dst in
    omega arith
none_is_told_beyond w endpoints g (TakesUp round (Resets epoch version) ∷ history) dst to beyond =
    let before = none_is_told_beyond w endpoints g history dst to beyond in
    elim (cases_Bool (lane.restarts history epoch)) [
      | inl new ↦ let none = (resets_count_anew.anew g round epoch version history dst new).1 in omega arith
      | inr old ↦ let same = (resets_count_anew.as_before g round epoch version history dst old).1 in omega arith
    ]
none_is_told_beyond w endpoints g (MakesDown round slots ∷ history) dst to beyond =
    let before = none_is_told_beyond w endpoints g history dst to.1 beyond in
    let none = telling-beyond endpoints g round slots history dst to.0 beyond in
    elim (cases_lt 0 (lane.epoch_of history)) [
      | inl begun ↦ let grown = (making_tells w).tells g round slots history dst begun in omega arith
      | inr none_yet ↦ let same = ((making_tells w).before g round slots history dst (omega arith)).0 in omega arith
    ]

pub recorded_is_named : RecordedIsNamed
recorded_is_named most [] dst names = omega arith
recorded_is_named most (Records round ∷ history) dst names = recorded_is_named most history dst names
recorded_is_named most (MakesDown round slots ∷ history) dst names = recorded_is_named most history dst names
recorded_is_named most (TakesUp round (Requests packet) ∷ history) dst names =
    let before = recorded_is_named most history dst names.1 in
    let here = names.0 dst in
    elim (cases_Bool (lane.takes history packet)) [ inl takes ↦ rw takes (omega arith) | inr left ↦ rw left before ]
recorded_is_named most (TakesUp round (Resets epoch version) ∷ history) dst names =
    let before = recorded_is_named most history dst names in
    elim (cases_Bool (lane.restarts history epoch)) [ inl new ↦ rw new (omega arith) | inr old ↦ rw old before ]

-- What a lane stands for once its round is recorded, and the entries of the round.
use Rattle.std.proofs.Common.{◌≡◌, ℕ, ◌+◌, ◌<◌, ◌≤◌, zero, suc, Bool, false, ◌&&◌, ◌||◌, cond, List, ◌∷◌, ◌++◌, ◌-◌, inl, inr, not, length, option_to_list, Option, Some, None, ap, ◌∙◌, sym, refl, arith}
use Rattle.std.specs.Prelude.{nat_lt}
use Rattle.std.specs.List.{filter_map, range_with_len, cons_option}
use Rattle.std.specs.Option.{option_and_then}
use Rattle.std.proofs.lemmas.Bool.{le-ltb}
use Rattle.std.proofs.lemmas.List.{append-nil}
use Rattle.std.proofs.lemmas.Option.{slice_get_cases, slice_get_within}
use Rattle.std.proofs.lemmas.List.Elements.{All-weaker}
use Rattle.list_facts.proofs.Bools.{at_most_one}
use Rattle.greedy_rules.specs.declared.flows.Entry.{Entry}
use Rattle.greedy_rules.specs.declared.flows.Flow.{Flow}
use Rattle.endpoint_history.specs.Lane.{LaneHistory, Records}
use Rattle.endpoint_history.specs.Counts.{Allocation}
use Rattle.endpoint_history.specs.Entries.{is_reset, added, entry_with, next_entry, had}
use Rattle.line_marks.specs.Places.{Places, is_marked}
use Rattle.arbiter_lane.specs.declared.line.LaneLine.{LaneLine}
use Rattle.arbiter_lane.specs.State.{LaneState, IsFlow, IsSoundLane}
use Rattle.arbiter_lane.specs.Standing.{StandsForFlow, LaneStandsFor}
use Rattle.arbiter_lane.specs.Lines.{Become, IsEntered, add_on, entry_on, has_entry}
use Rattle.arbiter_lane.specs.Parts.{CanRise, RisenAreMarked, HaveEntriesMarked, entry_of_line, entries_on}
use Rattle.arbiter_lane.proofs.Entering.{filter_map-more}
use Rattle.arbiter_lane.proofs.Held.{each_line, line_here}

-- ---- entries

filter_map-same : {Y : Type 0} (f e : ℕ → Option Y) (first n : ℕ) → ((k : ℕ) → first ≤ k → k < first + n → f k ≡ e k) → filter_map f (range_with_len first n) ≡ filter_map e (range_with_len first n)
filter_map-same f e first zero same = refl
filter_map-same f e first (suc n) same =
    ap (λ o. cons_option o (filter_map f (range_with_len (first + 1) n))) (same first (omega arith) (omega arith))
    ∙ ap (λ l. cons_option (e first) l) (filter_map-same f e (first + 1) n (λ k low high. same k (omega (arith, low)) (omega (arith, high))))

add-is : (g : ℕ) (history : LaneHistory) (allocations : List Allocation) (dst : ℕ) (line : LaneLine) → StandsForFlow g history allocations dst line → add_on line ≡ added g history dst
add-is g history allocations dst line flow = omega (arith, flow.demanded, flow.lost, flow.entered)

entry-is : (endpoint g : ℕ) (history : LaneHistory) (allocations : List Allocation) (dst : ℕ) (line : LaneLine) (resets : Bool) → resets ≡ is_reset history → StandsForFlow g history allocations dst line →
    entry_on line (record { src = endpoint; dst = dst }) resets ≡ next_entry endpoint g history dst
entry-is endpoint g history allocations dst line resets reset flow =
    ap (λ a. entry_with endpoint dst line.opened (resets && line.opened) a) (add-is g history allocations dst line flow)
    ∙ (ap (λ o. entry_with endpoint dst o (resets && o) (added g history dst)) flow.opened
    ∙ ap (λ r. entry_with endpoint dst (had g history dst) (r && had g history dst) (added g history dst)) reset)

abbrev entry_for : ℕ → Bool → ℕ → Option LaneLine → Option Entry
entry_for endpoint resets dst = option_and_then (λ (line : LaneLine). entry_on line (record { src = endpoint; dst = dst }) resets)

-- the entries of all lines are those of the round
pub entries-are : (lane : LaneState) (history : LaneHistory) (allocations : List Allocation) → length lane.lines ≡ lane.endpoints → LaneStandsFor lane history allocations →
    entries_on lane.lines lane.endpoint lane.is_reset ≡ filter_map (next_entry lane.endpoint lane.g history) (range_with_len 0 lane.endpoints)
entries-are lane history allocations as_many stands =
    ap (λ n. filter_map (entry_of_line lane.lines lane.endpoint lane.is_reset) (range_with_len 0 n)) as_many
    ∙ filter_map-same (entry_of_line lane.lines lane.endpoint lane.is_reset) (next_entry lane.endpoint lane.g history) 0 lane.endpoints
    (λ dst low high.
    let here = line_here lane.lines dst (omega (arith, high, as_many)) in
    ap (entry_for lane.endpoint lane.is_reset dst) here.1
    ∙ entry-is lane.endpoint lane.g history allocations dst here.0 lane.is_reset stands.is_reset (stands.flows dst here.0 here.1))

-- ---- only marked lines have an entry

unrisen-none : (line : LaneLine) → line.count.demanded + line.count.lost ≡ line.entered → has_entry false line ≡ false
unrisen-none line same = rw (le-ltb 0 (add_on line) (omega (arith, same))) refl

-- where no reset was taken these are the lines that have risen
pub entries-risen : (marks : Places) (lines : List LaneLine) → RisenAreMarked marks lines → HaveEntriesMarked marks false lines
entries-risen marks lines marked dst line here none = unrisen-none line (marked dst line here none)

no_entry : (line : LaneLine) (flow : Flow) (resets : Bool) → has_entry resets line ≡ false → entry_on line flow resets ≡ None
no_entry line flow resets none =
    ap (λ (b : Bool). cond b (Some (record { flow = flow; opens = nat_lt 0 (add_on line) && not line.opened; clear = resets && line.opened; add = add_on line })) None) none

pub entry-unmarked : (marks : Places) (lines : List LaneLine) (endpoint : ℕ) (resets : Bool) (dst : ℕ) → HaveEntriesMarked marks resets lines → is_marked marks dst ≡ false → entry_of_line lines endpoint resets dst ≡ None
entry-unmarked marks lines endpoint resets dst all none = elim (slice_get_cases lines dst).1 [
  | inl line ↦ ap (entry_for endpoint resets dst) line.2 ∙ no_entry line.0 (record { src = endpoint; dst = dst }) resets (all dst line.0 line.2 none)
  | inr past ↦ ap (entry_for endpoint resets dst) past.1
]

entry-past : (lines : List LaneLine) (endpoint : ℕ) (resets : Bool) (dst : ℕ) → length lines ≤ dst → entry_of_line lines endpoint resets dst ≡ None
entry-past lines endpoint resets dst past = elim (slice_get_cases lines dst).1 [
  | inl line ↦ let within = slice_get_within lines dst line.0 line.2 in absurd (omega (arith, within, past))
  | inr none ↦ ap (entry_for endpoint resets dst) none.1
]

more-none : {Y : Type 0} (f : ℕ → Option Y) (n m : ℕ) → ((k : ℕ) → n ≤ k → k < n + m → f k ≡ None) → filter_map f (range_with_len 0 (n + m)) ≡ filter_map f (range_with_len 0 n)
more-none f n zero none = let same : n + 0 ≡ n = omega arith in ap (λ (k : ℕ). filter_map f (range_with_len 0 k)) same
more-none f n (suc m) none =
    let rest = more-none f n m (λ k low high. none k low (omega (arith, high))) in
    let last : f (n + m) ≡ None = none (n + m) (omega arith) (omega arith) in
    let next : n + suc m ≡ (n + m) + 1 = omega arith in
    ap (λ (k : ℕ). filter_map f (range_with_len 0 k)) next
    ∙ (sym (filter_map-more f (n + m))
    ∙ (ap (λ o. filter_map f (range_with_len 0 (n + m)) ++ option_to_list o) last ∙ (append-nil (filter_map f (range_with_len 0 (n + m))) ∙ rest)))

-- lines that are passed over add no entry
pub entries-same : (lines : List LaneLine) (endpoint : ℕ) (resets : Bool) (from to : ℕ) → from ≤ to → ((dst : ℕ) → from ≤ dst → dst < to → entry_of_line lines endpoint resets dst ≡ None) →
    filter_map (entry_of_line lines endpoint resets) (range_with_len 0 to) ≡ filter_map (entry_of_line lines endpoint resets) (range_with_len 0 from)
entries-same lines endpoint resets from to upward none =
    let whole : to ≡ from + (to - from) = omega (arith, upward) in
    ap (λ (n : ℕ). filter_map (entry_of_line lines endpoint resets) (range_with_len 0 n)) whole
    ∙ more-none (entry_of_line lines endpoint resets) from (to - from) (λ k low high. none k low (omega (arith, high, upward)))

-- past the lines there is none
pub entries-end : (lines : List LaneLine) (endpoint : ℕ) (resets : Bool) (at : ℕ) → length lines ≤ at →
    filter_map (entry_of_line lines endpoint resets) (range_with_len 0 at) ≡ entries_on lines endpoint resets
entries-end lines endpoint resets at past = entries-same lines endpoint resets (length lines) at past (λ dst low high. entry-past lines endpoint resets dst low)

-- a line that has not risen is entered as it is
pub IsEntered-already : (line : LaneLine) → line.count.demanded + line.count.lost ≡ line.entered → IsEntered line line
IsEntered-already line same = record {
  opened = rw (le-ltb 0 (add_on line) (omega (arith, same))) refl;
  entered = sym same;
  count = record { demanded = refl; allocated = refl; acknowledged = refl; lost = refl };
}

-- ---- the lane

abbrev pub recorded_lane : LaneState → ℕ → List LaneLine → LaneState
recorded_lane was round lines = record {
  endpoint = was.endpoint;
  endpoints = was.endpoints;
  b = was.b;
  g = was.g;
  epoch = was.epoch;
  version = was.version;
  last_reset = was.last_reset;
  arrived = was.arrived;
  sent = was.sent;
  lines = lines;
  round = round + 1;
  is_made = false;
  is_reset = false;
}

flow-recorded : (g round : ℕ) (history : LaneHistory) (allocations : List Allocation) (dst : ℕ) (old new : LaneLine) → IsEntered old new → StandsForFlow g history allocations dst old →
    StandsForFlow g (Records round ∷ history) allocations dst new
flow-recorded g round history allocations dst old new entered flow = record {
  demanded = entered.count.demanded ∙ flow.demanded;
  allocated = entered.count.allocated ∙ flow.allocated;
  acknowledged = entered.count.acknowledged ∙ flow.acknowledged;
  lost = entered.count.lost ∙ flow.lost;
  entered = omega (arith, entered.entered, flow.demanded, flow.lost);
  opened = entered.opened ∙ (ap (λ a. nat_lt 0 a || old.opened) (add-is g history allocations dst old flow) ∙ ap (λ o. nat_lt 0 (added g history dst) || o) flow.opened);
}

pub stands-recorded : (was : LaneState) (round : ℕ) (lines : List LaneLine) (history : LaneHistory) (allocations : List Allocation) → was.round ≡ round → LaneStandsFor was history allocations → Become (λ dst. IsEntered) was.lines lines →
    LaneStandsFor (recorded_lane was round lines) (Records round ∷ history) allocations
stands-recorded was round lines history allocations now stands become = record {
  epoch = stands.epoch;
  version = stands.version;
  last_reset = stands.last_reset;
  arrived = stands.arrived;
  sent = stands.sent;
  sent_version = stands.sent_version;
  flows = each_line (λ dst. IsEntered) (StandsForFlow was.g history allocations) (StandsForFlow was.g (Records round ∷ history) allocations) was.lines lines become stands.flows
      (λ dst old new. flow-recorded was.g round history allocations dst old new);
  round = ap (λ n. n + 1) (sym now ∙ stands.round);
  is_reset = refl;
  recorded = All-weaker (λ (a : Allocation). a.batch < was.round) (λ (a : Allocation). a.batch < round + 1) (λ a h. omega (arith, h, now)) allocations stands.recorded;
}

sound-flow : (was : LaneState) (round : ℕ) (lines : List LaneLine) (dst : ℕ) (old new : LaneLine) → was.round ≡ round → IsEntered old new → IsFlow was dst old → IsFlow (recorded_lane was round lines) dst new
sound-flow was round lines dst old new now entered flow =
    let made : cond was.is_made 1 0 ≤ 1 = at_most_one was.is_made in
    let demanded = entered.count.demanded in
    let allocated = entered.count.allocated in
    let acknowledged = entered.count.acknowledged in
    let lost = entered.count.lost in
    record {
      demanded = omega (arith, demanded, flow.demanded);
      told = omega (arith, acknowledged, lost, flow.told, made, now);
      entered = omega (arith, entered.entered, demanded, lost);
      open_slots = omega (arith, allocated, acknowledged, lost, flow.open_slots);
      own = λ is.
          let none = flow.own is in
          let add : add_on old ≡ 0 = omega (arith, none.0) in
          (omega (arith, demanded, lost, none.0), entered.opened ∙ (ap (λ a. nat_lt 0 a || old.opened) add ∙ none.1));
    }

pub sound-recorded : (was : LaneState) (round : ℕ) (lines : List LaneLine) → was.round ≡ round → IsSoundLane was → round < 100000 → Become (λ dst. IsEntered) was.lines lines → IsSoundLane (recorded_lane was round lines)
sound-recorded was round lines now sound rounds become = record {
  endpoint = sound.endpoint;
  endpoints = sound.endpoints;
  b = sound.b;
  as_many = become.as_many ∙ sound.as_many;
  rounds = omega (arith, rounds);
  within = omega (arith, rounds);
  version = sound.version;
  heard_version = sound.heard_version;
  sent_version = sound.sent_version;
  numbers = let made : cond was.is_made 1 0 ≤ 1 = at_most_one was.is_made in omega (arith, sound.numbers, made, now);
  flows = each_line (λ dst. IsEntered) (IsFlow was) (IsFlow (recorded_lane was round lines)) was.lines lines become sound.flows (λ dst old new. sound-flow was round lines dst old new now);
}

-- the lines of a lane can rise
pub can_rise : (lane : LaneState) → IsSoundLane lane → CanRise lane.lines
can_rise lane sound = record {
  fits = λ dst line here.
      let flow = sound.flows dst line here in
      let demanded = flow.demanded in
      let told = flow.told in
      let within = sound.within in
      omega (arith, demanded, told, within);
  entered = λ dst line here. (sound.flows dst line here).entered;
}

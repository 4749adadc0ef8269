-- How a lane counts the slots of a run's schedule, one after the other.
use Rattle.std.proofs.Common.{◌≡◌, ◌<◌, ◌≤◌, ◌+◌, ◌-◌, ◌*◌, ◌/◌, ℕ, List, [], ◌++◌, length, take, drop, cond, Bool, Option, Some, None, IfSome, slice_get, All, refl, sym, ap, ◌∙◌, subst, inl, inr, arith, mul-le-mul_right}
use Rattle.std.proofs.Math.Nat.{div-mul-le_self}
use Rattle.std.proofs.lemmas.Nat.{div_below}
use Rattle.std.proofs.lemmas.Bool.{cases_lt, eq-eqb, le-ltb}
use Rattle.std.proofs.lemmas.List.{take-append-drop, length-drop, get_or-drop}
use Rattle.std.proofs.lemmas.List.Sums.{sum_by_more}
use Rattle.lane_rounds.specs.FlowCount.{pending}
use Rattle.greedy_rules.specs.declared.flows.Flow.{Flow}
use Rattle.greedy_rules.specs.Batches.{DemandBatch}
use Rattle.greedy_rules.specs.Slot.{has_flow}
use Rattle.greedy_rules.specs.SlotTable.{IsSlotOf, destination_of}
use Rattle.greedy_rules.specs.Allocation.{slots_of}
use Rattle.greedy_rules.specs.Schedule.{slot_in, schedule}
use Rattle.greedy_rules.specs.Cells.{flow_of}
use Rattle.endpoint_history.specs.Lane.{LaneHistory, last_reset}
use Rattle.endpoint_history.specs.Counts.{Allocation, recorded, lost, allocated}
use Rattle.endpoint_history.specs.Rounds.{Round, played}
use Rattle.endpoint_history.specs.Steps.{lane_of}
use Rattle.arbiter_lane.specs.declared.line.LaneLine.{LaneLine}
use Rattle.lane_rounds.specs.State.{RoundsState}
use Rattle.lane_rounds.specs.Standing.{RoundsStandFor}
use Rattle.trace_run.specs.Run.{Setting, replayed}
use Rattle.trace_run.specs.Histories.{lane_after}
use Rattle.trace_run.specs.Rest.{allocated_from}
use Rattle.trace_run.specs.Allocations.{since}
use Rattle.replay_rounds.specs.Standing.{LaneStands, slots_between}
use Rattle.replay_rounds.specs.Publishing.{CountingLaws, with_slot}
use Rattle.replay_rounds.specs.Counting.{schedule_of, among_first, HasCounted, IsPlace}
use Rattle.replay_rounds.proofs.SlotSums.{goes_to, flow_goes, front_grows, between, sent_within, since_more, batch_reached, batch_ahead}

pub schedule_length : (laws : CountingLaws) (setting : Setting) (rounds : ℕ) → length (schedule_of setting rounds) ≡ rounds * setting.b
schedule_length laws setting rounds =
    laws.count setting.b 0 [] (replayed setting rounds).batches ∙ ap (λ (n : ℕ). n * setting.b) (laws.batches setting rounds)

-- the slots from a batch on
pub between_length : (laws : CountingLaws) (setting : Setting) (first rounds : ℕ) → length (slots_between setting first rounds) ≡ rounds * setting.b - first * setting.b
between_length laws setting first rounds =
    length-drop (first * setting.b) (schedule_of setting rounds) ∙ ap (λ (n : ℕ). n - first * setting.b) (schedule_length laws setting rounds)

-- a schedule begins with that of fewer rounds
pub schedule_begins : (laws : CountingLaws) (setting : Setting) (rounds all : ℕ) → rounds ≤ all → take (rounds * setting.b) (schedule_of setting all) ≡ schedule_of setting rounds
schedule_begins laws setting rounds all within =
    let b : ℕ = setting.b in
    let whole : List DemandBatch = (replayed setting all).batches in
    let first : List DemandBatch = (replayed setting rounds).batches in
    let later : List DemandBatch = drop rounds whole in
    let parts : first ++ later ≡ whole = ap (λ (xs : List DemandBatch). xs ++ later) (sym (laws.begins setting rounds all within)) ∙ take-append-drop rounds whole in
    ap (λ (xs : List DemandBatch). take (rounds * b) (schedule b xs)) (sym parts)
    ∙ (ap (λ (n : ℕ). take (n * b) (schedule b (first ++ later))) (sym (laws.batches setting rounds))
    ∙ (laws.fronts b first later).2)

-- what is allocated in the first batches, from one on, is what stands among the first slots
pub allocated_is : (laws : CountingLaws) (setting : Setting) (rounds all from src dst : ℕ) → rounds ≤ all →
    allocated_from setting rounds from src dst ≡ among_first setting all (rounds * setting.b) src dst - among_first setting all (from * setting.b) src dst
allocated_is laws setting rounds all from src dst within =
    ap (λ (slots : List (List Flow)). slots_of (flow_of src dst) (drop (from * setting.b) slots)) (sym (schedule_begins laws setting rounds all within))
    ∙ between (λ (slot : List Flow). cond (has_flow slot (flow_of src dst)) 1 0) (schedule_of setting all) (from * setting.b) (rounds * setting.b)

-- ---- a lane

pub counting_begins : (laws : CountingLaws) (setting : Setting) (collected published all src : ℕ) (lane : RoundsState) → published ≤ all →
    LaneStands setting collected published src lane → HasCounted setting collected all (published * setting.b) src lane
counting_begins laws setting collected published all src lane within stood = record {
  own = stood.own;
  endpoints = stood.endpoints;
  b = stood.b;
  g = stood.g;
  whole = stood.whole;
  round = stood.round;
  allocations = stood.allocations;
  counted = λ from dst low.
      stood.counted from dst low
      ∙ (ap (λ (c : Bool). allocated_from setting (cond c (published + 1) published) from src dst) (le-ltb dst 0 (omega arith))
      ∙ allocated_is laws setting published all from src dst within);
  stands = stood.stands;
}

pub counting_ends : (laws : CountingLaws) (setting : Setting) (collected all src : ℕ) (lane : RoundsState) →
    HasCounted setting collected all (all * setting.b) src lane → LaneStands setting collected all src lane
counting_ends laws setting collected all src lane has = record {
  own = has.own;
  endpoints = has.endpoints;
  b = has.b;
  g = has.g;
  whole = has.whole;
  round = has.round;
  allocations = has.allocations;
  counted = λ from dst low.
      has.counted from dst low
      ∙ (sym (allocated_is laws setting all all from src dst (omega arith))
      ∙ sym (ap (λ (c : Bool). allocated_from setting (cond c (all + 1) all) from src dst) (le-ltb dst 0 (omega arith))));
  stands = has.stands;
}

-- ---- one slot

pub among_more : (laws : CountingLaws) (setting : Setting) (all place src dst : ℕ) (to : Option ℕ) → IsPlace setting all place src to →
    among_first setting all (place + 1) src dst ≡ among_first setting all place src dst + cond (goes_to to dst) 1 0
among_more laws setting all place src dst to is =
    let slots : List (List Flow) = schedule_of setting all in
    let slot : List Flow = slot_in slots place in
    let goes : has_flow slot (flow_of src dst) ≡ goes_to to dst = flow_goes slot src dst is.one.rising ∙ ap (λ (o : Option ℕ). goes_to o dst) (sym is.goes) in
    sum_by_more (λ (s : List Flow). cond (has_flow s (flow_of src dst)) 1 0) slots place [] (omega (arith, is.within, schedule_length laws setting all))
    ∙ ap (λ (c : Bool). among_first setting all place src dst + cond {A = ℕ} c 1 0) goes

grows : (setting : Setting) (all k n src dst : ℕ) → k ≤ n → among_first setting all k src dst ≤ among_first setting all n src dst
grows setting all k n src dst le = front_grows (λ (s : List Flow). cond (has_flow s (flow_of src dst)) 1 0) (schedule_of setting all) k n le

-- a slot more is counted
pub count_more : (laws : CountingLaws) (setting : Setting) (all place src : ℕ) (to : Option ℕ) (allocations : List Allocation) → IsPlace setting all place src to →
    ((from dst : ℕ) → dst < setting.endpoints → since from allocations dst ≡ among_first setting all place src dst - among_first setting all (from * setting.b) src dst) →
    (from dst : ℕ) → dst < setting.endpoints →
    since from (with_slot (place / setting.b) to allocations) dst ≡ among_first setting all (place + 1) src dst - among_first setting all (from * setting.b) src dst
count_more laws setting all place src to allocations is counted from dst low =
    let before = counted from dst low in
    let more = since_more (place / setting.b) from dst to allocations in
    let next = among_more laws setting all place src dst to is in
    elim (cases_lt place (from * setting.b)) [
      | inl ahead ↦
          let nothing : since from (with_slot (place / setting.b) to allocations) dst ≡ since from allocations dst + 0 =
          more ∙ ap (λ (c : Bool). since from allocations dst + cond {A = ℕ} c (cond (goes_to to dst) 1 0) 0) (batch_ahead from setting.b place is.some ahead) in
          let far = grows setting all (place + 1) (from * setting.b) src dst (omega arith) in
          omega arith
      | inr reached ↦
          let counts : since from (with_slot (place / setting.b) to allocations) dst ≡ since from allocations dst + cond (goes_to to dst) 1 0 =
          more ∙ ap (λ (c : Bool). since from allocations dst + cond {A = ℕ} c (cond (goes_to to dst) 1 0) 0) (batch_reached from setting.b place is.some reached) in
          let near = grows setting all (from * setting.b) place src dst reached in
          omega arith
    ]

-- a lane of which only the lines changed
pub lane_more : (laws : CountingLaws) (setting : Setting) (collected all place src : ℕ) (to : Option ℕ) (lane new : RoundsState) → IsPlace setting all place src to →
    new ≡ record lane { lane = record lane.lane { lines = new.lane.lines } } →
    ((rounds : List Round) (allocations : List Allocation) → RoundsStandFor lane rounds allocations → RoundsStandFor new rounds (with_slot (place / setting.b) to allocations)) →
    HasCounted setting collected all place src lane → HasCounted setting collected all (place + 1) src new
lane_more laws setting collected all place src to lane new is frame stands has = record {
  own = ap (λ (s : RoundsState). s.lane.endpoint) frame ∙ has.own;
  endpoints = ap (λ (s : RoundsState). s.lane.endpoints) frame ∙ has.endpoints;
  b = ap (λ (s : RoundsState). s.lane.b) frame ∙ has.b;
  g = ap (λ (s : RoundsState). s.lane.g) frame ∙ has.g;
  whole = ap (λ (s : RoundsState). s.is_whole) frame ∙ has.whole;
  round = ap (λ (s : RoundsState). s.lane.round) frame ∙ has.round;
  allocations = with_slot (place / setting.b) to has.allocations;
  counted = count_more laws setting all place src to has.allocations is has.counted;
  stands = stands ((replayed setting collected).rounds src) has.allocations has.stands;
}

-- ---- what a lane still owes

-- its calls are those of the run
pub calls_are : (setting : Setting) (collected all places src : ℕ) (lane : RoundsState) → HasCounted setting collected all places src lane →
    lane_of (played lane.lane.endpoints lane.lane.g ((replayed setting collected).rounds src)).steps ≡ lane_after setting collected src
calls_are setting collected all places src lane has =
    ap (λ (n : ℕ). lane_of (played n lane.lane.g ((replayed setting collected).rounds src)).steps) has.endpoints
    ∙ ap (λ (g : ℕ). lane_of (played setting.endpoints g ((replayed setting collected).rounds src)).steps) has.g

-- the flow's slot is pending
pub slot_is_pending : (laws : CountingLaws) (setting : Setting) (collected all place src dst : ℕ) (lane : RoundsState) (line : LaneLine) → all ≤ collected → src < setting.endpoints → dst < setting.endpoints →
    IsPlace setting all place src (Some dst) → HasCounted setting collected all place src lane →
    lane.lane.last_reset ≤ place / setting.b → slice_get lane.lane.lines dst ≡ Some line → 1 ≤ pending line.count
slot_is_pending laws setting collected all place src dst lane line within low high is has kept at =
    let calls : LaneHistory = lane_of (played lane.lane.endpoints lane.lane.g ((replayed setting collected).rounds src)).steps in
    let history : LaneHistory = lane_after setting collected src in
    let same : calls ≡ history = calls_are setting collected all place src lane has in
    let flow = has.stands.lane.flows dst line at in
    let demanded : line.count.demanded ≡ recorded history dst = flow.demanded ∙ ap (λ (h : LaneHistory). recorded h dst) same in
    let lost_is : line.count.lost ≡ lost setting.g history dst = flow.lost ∙ (ap (λ (g : ℕ). lost g calls dst) has.g ∙ ap (λ (h : LaneHistory). lost setting.g h dst) same) in
    let reset : ℕ = last_reset history in
    let allocated_so : line.count.allocated ≡ since reset has.allocations dst = flow.allocated ∙ ap (λ (h : LaneHistory). allocated h has.allocations dst) same in
    let counted = has.counted reset dst high in
    let more : among_first setting all (place + 1) src dst ≡ among_first setting all place src dst + 1 =
    among_more laws setting all place src dst (Some dst) is ∙ ap (λ (c : Bool). among_first setting all place src dst + cond {A = ℕ} c 1 0) (eq-eqb dst dst refl) in
    let since_when : reset ≡ lane.lane.last_reset = sym (has.stands.lane.last_reset ∙ ap last_reset same) in
    let begun : reset * setting.b ≤ place / setting.b * setting.b = mul-le-mul_right setting.b (omega arith) in
    let before = grows setting all (reset * setting.b) place src dst (omega (arith, div-mul-le_self place setting.b)) in
    let after = grows setting all (place + 1) (all * setting.b) src dst (omega (arith, is.within)) in
    let all_of = allocated_is laws setting all all reset src dst (omega arith) in
    let owing = laws.owed setting all collected src dst within low high in
    omega arith

-- ---- the slots of a window

-- a slot from a batch on is at its place of the schedule
pub place_is : (laws : CountingLaws) (setting : Setting) (first rounds slot src : ℕ) (to : Option ℕ) → 0 < setting.b →
    slot < length (slots_between setting first rounds) → All (IsSlotOf setting.endpoints) (slots_between setting first rounds) →
    to ≡ destination_of (slot_in (slots_between setting first rounds) slot) src → IsPlace setting rounds (first * setting.b + slot) src to
place_is laws setting first rounds slot src to some below each goes =
    let all : List (List Flow) = schedule_of setting rounds in
    let from : ℕ = first * setting.b in
    let there : slot_in (slots_between setting first rounds) slot ≡ slot_in all (from + slot) = get_or-drop from all slot [] in
    let as_many : length (slots_between setting first rounds) ≡ rounds * setting.b - from = between_length laws setting first rounds in
    record {
      within = omega arith;
      some = some;
      one = subst (IsSlotOf setting.endpoints) there (each slot [] below);
      goes = goes ∙ ap (λ (s : List Flow). destination_of s src) there;
    }

pub batch_below : (setting : Setting) (all place src : ℕ) (to : Option ℕ) → IsPlace setting all place src to → place / setting.b < all
batch_below setting all place src to is = div_below place setting.b all is.some is.within

-- where a slot has a destination, it may be counted
pub destination_within : (setting : Setting) (all place src dst : ℕ) → IsPlace setting all place src (Some dst) → dst < setting.endpoints
destination_within setting all place src dst is = sent_within setting.endpoints (slot_in (schedule_of setting all) place) src dst is.one.in_range (sym is.goes)

pub may_count : (laws : CountingLaws) (setting : Setting) (collected all place src batch : ℕ) (to : Option ℕ) (lane : RoundsState) → all ≤ collected → src < setting.endpoints → batch ≡ place / setting.b →
    IsPlace setting all place src to → HasCounted setting collected all place src lane →
    IfSome to (λ dst. dst < lane.lane.endpoints) × IfSome to (λ dst. lane.lane.last_reset ≤ batch → (line : LaneLine) → slice_get lane.lane.lines dst ≡ Some line → 1 ≤ pending line.count)
may_count laws setting collected all place src batch None lane within low here is has = (tt, tt)
may_count laws setting collected all place src batch (Some dst) lane within low here is has =
    let high = destination_within setting all place src dst is in (
      omega (arith, has.endpoints),
      λ kept line at. slot_is_pending laws setting collected all place src dst lane line within low high is has (omega arith) at,
    )

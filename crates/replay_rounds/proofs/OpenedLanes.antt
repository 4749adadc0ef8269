-- Lanes before the first round.
use Rattle.std.proofs.Common.{◌≡◌, ◌<◌, ◌≤◌, ◌-◌, ◌*◌, ℕ, List, [], ◌∷◌, ◌++◌, length, get_or, Bool, true, cond, Some, slice_get, All, sym, ap, ◌∙◌, subst, inl, inr, arith}
use Rattle.std.proofs.lemmas.Bool.{cases_lt, le-ltb}
use Rattle.std.proofs.lemmas.List.{drop_all, length-append, get_or_append_left, get_or-append_right}
use Rattle.std.proofs.lemmas.List.Elements.{All-nil}
use Rattle.std.proofs.lemmas.Option.{get_or_from_slice_get, slice_get-get_or, slice_get_within}
use Rattle.greedy_rules.specs.Allocation.{slots_of}
use Rattle.greedy_rules.specs.SlotTable.{IsSlotOf}
use Rattle.greedy_rules.specs.Schedule.{first_slot}
use Rattle.clos_topology.specs.Network.{endpoints_of}
use Rattle.clos_topology.specs.NetSlots.{SlotCores, AreSlotCores}
use Rattle.slot_publisher.specs.Window.{PublisherWindow}
use Rattle.lane_rounds.specs.State.{RoundsState}
use Rattle.lane_rounds.specs.Standing.{RoundsStandFor}
use Rattle.trace_text.specs.Trace.{TraceContent}
use Rattle.trace_run.specs.Run.{Setting}
use Rattle.trace_run.specs.Rest.{allocated_from}
use Rattle.replay_rounds.specs.Standing.{RoundsContent, AllRoundsStand, LaneStands, routed_from, setting_with, slots_between}

pub record IsOpened (all size window endpoint : ℕ) (lane : RoundsState) : Type 0 where
  pub own : lane.lane.endpoint ≡ endpoint
  pub endpoints : lane.lane.endpoints ≡ all
  pub b : lane.lane.b ≡ size
  pub g : lane.lane.g ≡ window
  pub whole : lane.is_whole ≡ true
  pub stands : RoundsStandFor lane [] []

abbrev pub AreOpened : ℕ → ℕ → ℕ → List RoundsState → Type 0
AreOpened all size window lanes = (place : ℕ) (lane : RoundsState) → slice_get lanes place ≡ Some lane → IsOpened all size window place lane

pub opened_more : (all size window : ℕ) (lanes : List RoundsState) (place : ℕ) (new : RoundsState) → length lanes ≡ place → IsOpened all size window place new → AreOpened all size window lanes → AreOpened all size window (lanes ++ new ∷ [])
opened_more all size window lanes place new long here before at lane is =
    let inside = slice_get_within (lanes ++ new ∷ []) at lane is in
    let read : get_or (lanes ++ new ∷ []) at lane ≡ lane = get_or_from_slice_get (lanes ++ new ∷ []) at lane lane is in
    elim (cases_lt at (length lanes)) [
      | inl low ↦ before at lane (slice_get-get_or lanes at lane low ∙ ap (λ (l : RoundsState). Some l) (sym (get_or_append_left lanes (new ∷ []) lane at low) ∙ read))
      | inr last ↦
          let same : place ≡ at = omega (arith, length-append lanes (new ∷ [])) in
          let first : at - place ≡ 0 = omega arith in
          let new_is : new ≡ lane = sym (get_or-append_right lanes (new ∷ []) place at lane long (omega arith) ∙ ap (λ (n : ℕ). get_or (new ∷ []) n lane) first) ∙ read in
          subst (λ (n : ℕ). IsOpened all size window n lane) same (subst (IsOpened all size window place) new_is here)
    ]

pub none_opened : (all size window : ℕ) (lanes : List RoundsState) → lanes ≡ [] → AreOpened all size window lanes
none_opened all size window lanes none place lane is = absurd (omega (arith, slice_get_within lanes place lane is, ap length none))

pub lane_opened : (setting : Setting) (endpoint : ℕ) (lane : RoundsState) → IsOpened setting.endpoints setting.b setting.g endpoint lane → LaneStands setting 0 0 endpoint lane
lane_opened setting endpoint lane is = record {
  own = is.own;
  endpoints = is.endpoints;
  b = is.b;
  g = is.g;
  whole = is.whole;
  round = is.stands.lane.round;
  allocations = [];
  counted = λ batch dst low.
      sym (ap (λ (c : Bool). allocated_from setting (cond c 1 0) batch endpoint dst) (le-ltb dst 0 (omega arith))
      ∙ ap (slots_of (record { src = endpoint; dst = dst })) (drop_all (batch * setting.b) [] (omega arith)));
  stands = is.stands;
}

pub stands_opened : (trace : TraceContent) (cores : SlotCores) (b g endpoints : ℕ) (lanes : List RoundsState) (window : PublisherWindow) → AreSlotCores cores → (0 < b) × (b ≤ 64) → (0 < g) × (g ≤ 16) →
    endpoints ≡ endpoints_of trace.net → length lanes ≡ endpoints → AreOpened endpoints b g lanes →
    window.endpoints ≡ endpoints → window.batches ≡ g → window.b ≡ b → window.first_batch ≡ 0 → window.count ≡ 0 → window.slots ≡ [] →
    AllRoundsStand trace cores (record { endpoints = endpoints; b = b; g = g; collected = 0; published = 0; counted = 0; lanes = lanes; window = window })
stands_opened trace cores b g endpoints lanes window named batch rounds all long opened served room size first count slots =
    let is : RoundsContent = record { endpoints = endpoints; b = b; g = g; collected = 0; published = 0; counted = 0; lanes = lanes; window = window } in
    let setting : Setting = setting_with trace cores is in
    let none : slots_between setting window.first_batch 0 ≡ [] = drop_all (window.first_batch * b) [] (omega arith) in
    record {
      named = named;
      batch = batch;
      rounds = rounds;
      endpoints = all;
      within = omega arith;
      behind = omega arith;
      counted = (omega arith, omega arith);
      wide = long;
      lanes = λ endpoint lane at. lane_opened setting endpoint lane (subst (λ (n : ℕ). IsOpened n b g endpoint lane) all (opened endpoint lane at));
      served = served;
      room = room;
      size = size;
      held = omega arith;
      slots = slots ∙ sym (ap (routed_from cores (first_slot b window.first_batch)) none);
      in_range = subst (All (IsSlotOf endpoints)) (sym none) (All-nil (IsSlotOf endpoints));
    }

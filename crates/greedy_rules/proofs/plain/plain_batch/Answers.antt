use Rattle.std.proofs.Common.{◌≡◌, ◌<◌, ◌+◌, ◌-◌, length, set, replicate, [], List, ℕ, ap, sym, ◌∙◌, subst, arith, length-set}
use Rattle.std.proofs.lemmas.List.{length-replicate, length-map}
use Rattle.greedy_rules.specs.declared.flows.Flow.{Flow}
use Rattle.greedy_rules.specs.declared.flows.Item.{Item}
use Rattle.greedy_rules.specs.Demands.{HasEachFlowOnce, AreBelow, after_batch, is_listed, item_of, need_in}
use Rattle.greedy_rules.specs.Slot.{Bar, greedy_slot}
use Rattle.greedy_rules.specs.declared.limits.Limits.{Limits}
use Rattle.greedy_rules.specs.Limits.{is_barred}
use Rattle.greedy_rules.specs.Walk.{HavePlaces}
use Rattle.greedy_rules.specs.Allocation.{served, after_slot, batch_slots, list_through, list_after_slots, slots_of}
use Rattle.greedy_rules.proofs.BatchSlots.{slots_more, list_more, empty_more, all_taken}
use Rattle.greedy_rules.proofs.NeedLemmas.{once-after_slots, below-after_slots, listed-after_slots, listed-after_batch, balance}
use Rattle.greedy_rules.proofs.OnceLemmas.{once-after_batch, below-after_batch, once-after_slot, below-after_slot}
use Rattle.greedy_rules.proofs.plain.plain_batch.Goals as goal

pub loop-offset-init : goal.loop-offset-init
loop-offset-init c =
    let first : c.args.first_slot + 0 ≡ c.args.first_slot = omega arith in
    let all : c.args.b - 0 ≡ c.args.b = omega arith in
    let places : length c.args.out.now.slots - 0 ≡ length c.args.out.now.slots = omega arith in
    let list = c.apply.new.list.items in
    let none : List Flow = [] in
    record {
      slots = ap (λ (n : ℕ). batch_slots (is_barred c.args.batch.now.limits) n (c.args.b - 0) list) first ∙ ap (λ (n : ℕ). batch_slots (is_barred c.args.batch.now.limits) c.args.first_slot n list) all;
      empty = c.clear.ensures.slots ∙ ap (λ (n : ℕ). replicate n none) (sym places);
      list = ap (λ (n : ℕ). list_through (is_barred c.args.batch.now.limits) n (c.args.b - 0) list) first ∙ ap (λ (n : ℕ). list_through (is_barred c.args.batch.now.limits) c.args.first_slot n list) all;
      places = ap length c.clear.ensures.slots ∙ length-replicate (length c.args.out.now.slots) none;
      endpoints = c.clear.ensures.endpoints;
      limits = c.in_ok-marks.ensures.limits ∙ c.limits.ensures.limits;
      marked = subst (λ (n : ℕ). HavePlaces n c.in_ok-marks.marks) (c.endpoints.ensures ∙ c.clear.ensures.endpoints) c.in_ok-marks.ensures.places;
      spare = c.in_ok-apply.ensures.spare;
      once = c.in_ok-apply.ensures.once;
      below = subst (AreBelow c.args.out.now.endpoints) (sym c.in_ok-apply.ensures.items)
          (below-after_batch c.args.out.now.endpoints c.args.batch.now.entries c.args.list.now.items c.requires.endpoints);
      row = omega (arith, c.in_ok-sends.ensures.len, c.endpoints-2.ensures, c.clear.ensures.endpoints);
    }

pub loop-offset-preserved : goal.loop-offset-preserved
loop-offset-preserved c =
    let bar : Bar = is_barred c.args.batch.now.limits in
    let limits = c.loop-offset.invariant.limits in
    let offset = c.loop-offset.offset in
    let out = c.loop-offset.out.slots in
    let list = c.loop-offset.list.items in
    let within : offset < length out = omega arith in
    let chosen : List Flow = greedy_slot bar list in
    let number : c.args.first_slot + c.from-in-loop-offset.result ≡ c.args.first_slot + offset = omega (arith, c.from-in-loop-offset.ensures) in
    let place : c.from.result ≡ offset = omega (arith, c.from.ensures) in
    let slots : c.fill_place.new.out.slots ≡ set out offset chosen =
    c.fill_place.ensures.slots
    ∙ (ap (λ (l : Limits). set out c.from.result (greedy_slot (is_barred l) list)) limits ∙ ap (λ (n : ℕ). set out n chosen) place) in
    let items : c.fill_place.new.list.items ≡ after_slot bar (c.args.first_slot + offset) list =
    c.fill_place.ensures.items
    ∙ (ap (λ (l : Limits). after_slot (is_barred l) (c.args.first_slot + c.from-in-loop-offset.result) list) limits ∙ ap (λ (n : ℕ). after_slot bar n list) number) in
    record {
      slots = rw (slots, items) (slots_more bar c.args.first_slot offset c.args.b out list (omega arith) within ∙ c.loop-offset.invariant.slots);
      empty = rw slots (empty_more offset (length c.args.out.now.slots) out chosen within (omega arith) c.loop-offset.invariant.empty).1;
      list = rw items (list_more bar c.args.first_slot offset c.args.b list (omega arith) ∙ c.loop-offset.invariant.list);
      places = ap length slots ∙ (length-set out offset chosen ∙ c.loop-offset.invariant.places);
      endpoints = c.fill_place.ensures.endpoints ∙ c.loop-offset.invariant.endpoints;
      limits = c.fill_place.ensures.limits ∙ c.loop-offset.invariant.limits;
      marked = subst (λ (n : ℕ). HavePlaces n c.fill_place.new.marks) c.loop-offset.invariant.endpoints c.fill_place.ensures.marked;
      spare = omega (arith, ap length items, length-map list (served (c.args.first_slot + offset) chosen), c.fill_place.ensures.spare, c.loop-offset.invariant.spare);
      once = rw items (once-after_slot bar (c.args.first_slot + offset) list c.loop-offset.invariant.once);
      below = rw items (below-after_slot c.args.out.now.endpoints bar (c.args.first_slot + offset) list c.loop-offset.invariant.below);
      row = c.loop-offset.invariant.row;
    }

-- the list that the sort leaves
left : (c : goal.After-drop-marks-4) → c.sort.new.self.items ≡ list_after_slots (is_barred c.args.batch.now.limits) c.args.first_slot c.args.b (after_batch c.args.batch.now.entries c.args.list.now.items)
left c =
    c.in_ok-sort.ensures.sorted
    ∙ all_taken (is_barred c.args.batch.now.limits) c.args.first_slot c.loop-offset.offset c.args.b c.loop-offset.list.items c.apply.new.list.items (after_batch c.args.batch.now.entries c.args.list.now.items)
    (omega arith) c.loop-offset.invariant.list c.in_ok-apply.ensures.items

pub returns-clause-once_more : goal.returns-clause-once_more
returns-clause-once_more c =
    let batch = c.args.batch.now.entries in
    let list = c.args.list.now.items in
    subst HasEachFlowOnce (sym (left c))
    (once-after_slots (is_barred c.args.batch.now.limits) c.args.first_slot c.args.b (after_batch batch list) (once-after_batch batch list c.in_ok-apply.ensures.rising c.requires.opens c.requires.once))

pub returns-clause-in_range : goal.returns-clause-in_range
returns-clause-in_range c =
    let batch = c.args.batch.now.entries in
    let list = c.args.list.now.items in
    subst (AreBelow c.args.out.now.endpoints) (sym (left c))
    (below-after_slots (is_barred c.args.batch.now.limits) c.args.out.now.endpoints c.args.first_slot c.args.b (after_batch batch list) (below-after_batch c.args.out.now.endpoints batch list c.requires.endpoints))

pub returns-clause-listed : goal.returns-clause-listed
returns-clause-listed c = λ flow.
    let batch = c.args.batch.now.entries in
    let list = c.args.list.now.items in
    ap (λ (xs : List Item). is_listed xs flow) (left c)
    ∙ (listed-after_slots (is_barred c.args.batch.now.limits) c.args.first_slot c.args.b (after_batch batch list) flow ∙ listed-after_batch batch list flow c.in_ok-apply.ensures.rising c.requires.opens)

pub returns-clause-balance : goal.returns-clause-balance
returns-clause-balance c = λ flow.
    let batch = c.args.batch.now.entries in
    let list = c.args.list.now.items in
    let slots : List (List Flow) = batch_slots (is_barred c.args.batch.now.limits) c.args.first_slot c.args.b (after_batch batch list) in
    ap (λ (xs : List Item). need_in (item_of xs flow) + slots_of flow slots) (left c)
    ∙ balance (is_barred c.args.batch.now.limits) c.args.first_slot c.args.b batch list flow c.in_ok-apply.ensures.rising c.requires.opens c.requires.once

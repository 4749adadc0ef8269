use Rattle.std.proofs.Common.{◌≡◌, ◌<◌, ◌≤◌, ◌+◌, ◌-◌, ◌*◌, ◌^◌, ◌++◌, [], ℕ, List, length, take, drop, not, sym, ap, ◌∙◌, subst, rules, arith}
use Rattle.std.proofs.lemmas.Nat.{mul-le}
use Rattle.std.proofs.lemmas.List.{length-map}
use Rattle.list_facts.proofs.Lists.{filter-few}
use Rattle.greedy_rules.specs.declared.flows.Item.{Item}
use Rattle.greedy_rules.specs.Demands.{HasEachFlowOnce, AreBelow}
use Rattle.slot_batches.specs.Woven.{weave, places_from}
use Rattle.window_allocation.specs.Logged.{Logged, IsLog, standing, item_at, items_at, is_left, is_passed}
use Rattle.window_allocation.proofs.LogLemmas.{items_picked}
use Rattle.window_allocation.proofs.LogWeaving.{written, no_places, woven_length}
use Rattle.window_allocation.proofs.item_log.ItemLog.weave.Goals as goal

pub overflow_sub-kept : goal.overflow_sub-kept
overflow_sub-kept c =
    let inside = c.self.inside in
    let items = inside.items.items in
    let places = inside.places.items in
    let log = c.self.invariant.0 in
    omega (
      arith,
      c.len.ensures,
      inside.places.ok.0,
      ap length (items_picked items places log.picked),
      length-map places (item_at items),
      filter-few (λ (x : Item). not (is_left (items_at items places) x)) (standing items),
      log.number,
    )

pub overflow_add-self : goal.overflow_add-self
overflow_add-self c =
    let inside = c.self.inside in
    let old = inside.items.items in
    let rest = c.args.rest.now in
    let before = c.self.invariant.0 in
    let chosen : List Item = items_at old inside.places.items in
    let few : length (weave (is_left chosen) (standing old) rest) ≤ inside.endpoints * inside.endpoints =
    subst (λ (l : Logged). length (weave (is_left l.picked) l.items rest) ≤ l.endpoints * l.endpoints) (sym c.self.view_is) c.requires.few in
    let pairs : inside.endpoints * inside.endpoints ≤ 256 * 256 = mul-le inside.endpoints inside.endpoints 256 256 before.few before.few in
    let small : inside.count - c.len.result + length rest < 2 ^ 63 =
    omega (
      arith,
      c.len.ensures,
      inside.places.ok.0,
      woven_length (is_left chosen) (standing old) rest,
      ap length (items_picked old inside.places.items before.picked),
      length-map inside.places.items (item_at old),
      filter-few (λ (x : Item). not (is_left chosen x)) (standing old),
      before.number,
      few,
      pairs,
    ) in
    search rules

pub put_rest-requires-clause-picked : goal.put_rest-requires-clause-picked
put_rest-requires-clause-picked c =
    let items = c.self.inside.items.items in
    subst (λ (ps : List ℕ). ps ≡ places_from (is_passed (items_at items ps)) 0 items) (sym c.deref.ensures.value) c.self.invariant.0.picked

pub put_rest-requires-clause-once : goal.put_rest-requires-clause-once
put_rest-requires-clause-once c =
    let items = c.self.inside.items.items in
    let rest = c.args.rest.now in
    subst (λ (ps : List ℕ). HasEachFlowOnce (weave (is_left (items_at items ps)) (standing items) rest)) (sym c.deref.ensures.value)
    (subst (λ (l : Logged). HasEachFlowOnce (weave (is_left l.picked) l.items rest)) (sym c.self.view_is) c.requires.once)

pub put_rest-requires-clause-below : goal.put_rest-requires-clause-below
put_rest-requires-clause-below c =
    let inside = c.self.inside in
    let items = inside.items.items in
    let rest = c.args.rest.now in
    subst (λ (ps : List ℕ). AreBelow inside.endpoints (weave (is_left (items_at items ps)) (standing items) rest)) (sym c.deref.ensures.value)
    (subst (λ (l : Logged). AreBelow l.endpoints (weave (is_left l.picked) l.items rest)) (sym c.self.view_is) c.requires.below)

pub put_rest-requires-clause-most : goal.put_rest-requires-clause-most
put_rest-requires-clause-most c =
    let inside = c.self.inside in
    let items = inside.items.items in
    let rest = c.args.rest.now in
    subst (λ (ps : List ℕ). length (weave (is_left (items_at items ps)) (standing items) rest) ≤ inside.endpoints * inside.endpoints) (sym c.deref.ensures.value)
    (subst (λ (l : Logged). length (weave (is_left l.picked) l.items rest) ≤ l.endpoints * l.endpoints) (sym c.self.view_is) c.requires.few)

pub invariant_of-self : goal.invariant_of-self
invariant_of-self c =
    let inside = c.self.inside in
    let endpoints : ℕ = inside.endpoints in
    let before = c.self.invariant.0 in
    let old = inside.items.items in
    let rest = c.args.rest.now in
    let chosen : List Item = items_at old inside.places.items in
    let items = c.put_rest.new.items in
    let at = c.put_rest.new.at in
    let words = c.put_rest.new.words in
    let places = c.clear.new.self.items in
    let count : ℕ = inside.count - c.len.result + length rest in
    let woven : standing items.items ≡ weave (is_left chosen) (standing old) rest =
    c.put_rest.ensures.items ∙ ap (λ (ps : List ℕ). weave (is_left (items_at old ps)) (standing old) rest) c.deref.ensures.value in
    let log : IsLog endpoints count items.items at words places = record {
      few = before.few;
      long = c.put_rest.ensures.table ∙ (c.deref_mut.ensures.len ∙ (inside.at.ok.0 ∙ before.long));
      words = c.put_rest.ensures.words ∙ (c.deref_mut-2.ensures.len ∙ (inside.busy.ok.0 ∙ before.words));
      room = omega (arith, c.put_rest.ensures.length, items.ok.0);
      number = omega (
        arith,
        c.len.ensures,
        inside.places.ok.0,
        ap length woven,
        woven_length (is_left chosen) (standing old) rest,
        ap length (items_picked old inside.places.items before.picked),
        length-map inside.places.items (item_at old),
        filter-few (λ (x : Item). not (is_left chosen x)) (standing old),
        before.number,
      );
      placed = c.put_rest.ensures.placed;
      bits = c.put_rest.ensures.bits;
      picked = no_places items.items places c.clear.ensures.items;
    } in
    let at_is = written at inside.at.items inside.at.len (c.put_rest.ensures.table ∙ c.deref_mut.ensures.len) in
    let words_are = written words inside.busy.items inside.busy.len (c.put_rest.ensures.words ∙ c.deref_mut-2.ensures.len) in
    let with_words = subst (λ (ws : List ℕ). IsLog endpoints count items.items at ws places) (sym words_are) log in (
      subst (λ (table : List ℕ). IsLog endpoints count items.items table (take inside.busy.len (words ++ drop (length words) inside.busy.items)) places) (sym at_is) with_words,
      omega (arith, c.put_rest.ensures.capacity, c.self.invariant.1),
      omega (arith, c.put_rest.ensures.spare, c.self.invariant.2),
    )

pub returns : goal.returns
returns c =
    let inside = c.self.inside in
    let endpoints : ℕ = inside.endpoints in
    let old = inside.items.items in
    let rest = c.args.rest.now in
    let items = c.put_rest.new.items.items in
    let places = c.clear.new.self.items in
    let now : List Item = weave (is_left (items_at old inside.places.items)) (standing old) rest in
    let woven : standing items ≡ now = c.put_rest.ensures.items ∙ ap (λ (ps : List ℕ). weave (is_left (items_at old ps)) (standing old) rest) c.deref.ensures.value in
    ap (λ (xs : List Item). record { endpoints = endpoints; items = xs; picked = items_at items places }) woven
    ∙ (ap (λ (ps : List ℕ). record { endpoints = endpoints; items = now; picked = items_at items ps }) c.clear.ensures.items
    ∙ ap (λ (l : Logged). record { endpoints = l.endpoints; items = weave (is_left l.picked) l.items rest; picked = [] }) c.self.view_is)

use Rattle.std.proofs.Common.{◌≡◌, ◌≤◌, ◌*◌, ◌++◌, ℕ, List, length, take, drop, sym, ap, ◌∙◌, subst, arith}
use Rattle.greedy_rules.specs.declared.flows.Item.{Item}
use Rattle.greedy_rules.specs.Demands.{AreBelow}
use Rattle.window_allocation.specs.Logged.{Logged, IsLog, standing, items_at}
use Rattle.window_allocation.proofs.LogWeaving.{all_stand, below_stand, written, no_places}
use Rattle.window_allocation.proofs.item_log.ItemLog.fill.Goals as goal

pub invariant_of-self : goal.invariant_of-self
invariant_of-self c =
    let inside = c.self.inside in
    let endpoints : ℕ = inside.endpoints in
    let before = c.self.invariant.0 in
    let list = c.args.list.now in
    let items = c.append_items.new.items in
    let at = c.append_items.new.at in
    let words = c.append_items.new.words in
    let places = c.clear.new.self.items in
    let below : AreBelow endpoints list = subst (λ (l : Logged). AreBelow l.endpoints list) (sym c.self.view_is) c.requires.below in
    let few : length list ≤ endpoints * endpoints = subst (λ (l : Logged). length list ≤ l.endpoints * l.endpoints) (sym c.self.view_is) c.requires.few in
    let are : items.items ≡ list = c.append_items.ensures.items ∙ ap (λ (xs : List Item). xs ++ list) c.clear-2.ensures.items in
    let log : IsLog endpoints (length list) items.items at words places = record {
      few = before.few;
      long = c.append_items.ensures.table ∙ (c.deref_mut-2.ensures.len ∙ (inside.at.ok.0 ∙ before.long));
      words = c.append_items.ensures.words ∙ (c.deref_mut-3.ensures.len ∙ (inside.busy.ok.0 ∙ before.words));
      room = omega (arith, ap length are, few);
      number = ap length (sym (all_stand list (below_stand endpoints list before.few below)) ∙ ap standing (sym are));
      placed = c.append_items.ensures.placed;
      bits = c.append_items.ensures.bits;
      picked = no_places items.items places c.clear.ensures.items;
    } in
    let cleared : List ℕ = take inside.busy.len (c.clear_words.new.words ++ drop (length c.clear_words.new.words) inside.busy.items) in
    let at_is = written at inside.at.items inside.at.len (c.append_items.ensures.table ∙ c.deref_mut-2.ensures.len) in
    let words_are = written words cleared inside.busy.len (c.append_items.ensures.words ∙ c.deref_mut-3.ensures.len) in
    let with_words = subst (λ (ws : List ℕ). IsLog endpoints (length list) items.items at ws places) (sym words_are) log in (
      subst (λ (table : List ℕ). IsLog endpoints (length list) items.items table (take inside.busy.len (words ++ drop (length words) cleared)) places) (sym at_is) with_words,
      omega (arith, c.append_items.ensures.capacity, c.clear-2.ensures.capacity, c.self.invariant.1),
      c.self.invariant.2,
    )

pub returns : goal.returns
returns c =
    let endpoints : ℕ = c.self.inside.endpoints in
    let list = c.args.list.now in
    let items = c.append_items.new.items.items in
    let places = c.clear.new.self.items in
    let below : AreBelow endpoints list = subst (λ (l : Logged). AreBelow l.endpoints list) (sym c.self.view_is) c.requires.below in
    let are : items ≡ list = c.append_items.ensures.items ∙ ap (λ (xs : List Item). xs ++ list) c.clear-2.ensures.items in
    let stand : standing items ≡ list = ap standing are ∙ all_stand list (below_stand endpoints list c.self.invariant.0.few below) in
    ap (λ (n : ℕ). record { endpoints = n; items = standing items; picked = items_at items places }) (ap (λ (l : Logged). l.endpoints) c.self.view_is)
    ∙ (ap (λ (xs : List Item). record { endpoints = c.args.self.now.endpoints; items = xs; picked = items_at items places }) stand
    ∙ ap (λ (ps : List ℕ). record { endpoints = c.args.self.now.endpoints; items = list; picked = items_at items ps }) c.clear.ensures.items)

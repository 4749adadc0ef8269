use Rattle.std.proofs.Common.{◌≡◌, ◌++◌, ℕ, List, [], All, true, length, take, drop, sym, ap, ◌∙◌, arith}
use Rattle.std.proofs.lemmas.Bool.{eqb-true}
use Rattle.std.proofs.lemmas.List.{length-append, nil_from_length}
use Rattle.greedy_rules.specs.declared.flows.Item.{Item}
use Rattle.slot_batches.specs.Woven.{never_served, once_served}
use Rattle.window_allocation.proofs.Weaving.{rest_follows}
use Rattle.window_allocation.proofs.Places.{none_next}
use Rattle.window_allocation.proofs.picked.Picked.weave_into.Goals as goal

pub append-requires : goal.append-requires
append-requires c =
    let aside = c.requires.room.0 in
    let list = c.args.list.now.items in
    let rest = c.args.self.now.items.items in
    let no_places : c.args.self.now.places.items ≡ [] = nil_from_length c.args.self.now.places.items (omega (arith, eqb-true _ _ (sym c.is_empty.ensures ∙ c.if-is_empty.true), c.args.self.now.places.ok.0)) in
    let all : All (λ item. aside item ≡ true) list = none_next aside 0 list (sym no_places ∙ c.requires.room.1) in
    let zero : c.first_served.result ≡ 0 = c.if-first_served-eq0.true in
    let never : take 0 rest ≡ never_served rest = ap (λ (n : ℕ). take n rest) (sym zero) ∙ (ap (take c.first_served.result) (sym c.items.ensures) ∙ (c.first_served.ensures.never ∙ ap never_served c.items.ensures)) in
    let once : drop 0 rest ≡ once_served rest = ap (λ (n : ℕ). drop n rest) (sym zero) ∙ (ap (drop c.first_served.result) (sym c.items.ensures) ∙ (c.first_served.ensures.once ∙ ap once_served c.items.ensures)) in
    omega (arith, c.requires.room.2, ap length (rest_follows aside list rest all c.requires.list_order never once), length-append list rest, ap length c.items-then-first_served-eq0.ensures)

pub returns-then-first_served-eq0-clause-items : goal.returns-then-first_served-eq0-clause-items
returns-then-first_served-eq0-clause-items c = λ aside are.
    let list = c.args.list.now.items in
    let rest = c.args.self.now.items.items in
    let no_places : c.args.self.now.places.items ≡ [] = nil_from_length c.args.self.now.places.items (omega (arith, eqb-true _ _ (sym c.is_empty.ensures ∙ c.if-is_empty.true), c.args.self.now.places.ok.0)) in
    let all : All (λ item. aside item ≡ true) list = none_next aside 0 list (sym no_places ∙ are) in
    let zero : c.first_served.result ≡ 0 = c.if-first_served-eq0.true in
    let never : take 0 rest ≡ never_served rest = ap (λ (n : ℕ). take n rest) (sym zero) ∙ (ap (take c.first_served.result) (sym c.items.ensures) ∙ (c.first_served.ensures.never ∙ ap never_served c.items.ensures)) in
    let once : drop 0 rest ≡ once_served rest = ap (λ (n : ℕ). drop n rest) (sym zero) ∙ (ap (drop c.first_served.result) (sym c.items.ensures) ∙ (c.first_served.ensures.once ∙ ap once_served c.items.ensures)) in
    c.append.ensures.items ∙ (ap (λ (xs : List Item). list ++ xs) c.items-then-first_served-eq0.ensures ∙ rest_follows aside list rest all c.requires.list_order never once)

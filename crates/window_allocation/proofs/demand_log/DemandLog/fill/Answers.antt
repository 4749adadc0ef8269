use Rattle.std.proofs.Common.{◌≡◌, ◌≤◌, ◌*◌, ◌++◌, ℕ, List, length, ◌-◌, take, drop, sym, ap, ◌∙◌, subst}
use Rattle.std.proofs.lemmas.List.{take-append-drop, take_rest}
use Rattle.greedy_rules.specs.declared.flows.Item.{Item}
use Rattle.greedy_rules.specs.Demands.{HasEachFlowOnce, AreBelow}
use Rattle.window_allocation.specs.Logged.{Logged, MayBeLogged, AreParts}
use Rattle.window_allocation.proofs.LogParts.{filled, AreFilled, are_filled, parts_of}
use Rattle.window_allocation.proofs.demand_log.DemandLog.fill.Goals as goal

pub fill-requires-clause-once : goal.fill-requires-clause-once
fill-requires-clause-once c =
    let list = c.args.list.now in
    let n : ℕ = c.first_served-served.result in
    let never = c.self.inside.never in
    let served = c.self.inside.served in
    let first : List Item = take n list in
    let then : List Item = drop n list in
    let whole : first ++ then ≡ list = take-append-drop n list in
    let may : MayBeLogged never.endpoints list = subst (λ (l : Logged). MayBeLogged l.endpoints list) (sym c.self.view_is) c.requires in
    let owed : AreFilled never.endpoints first then = are_filled never.endpoints first then (subst (MayBeLogged never.endpoints) (sym whole) may) in
    owed.once.0

pub fill-requires-clause-below : goal.fill-requires-clause-below
fill-requires-clause-below c =
    let list = c.args.list.now in
    let n : ℕ = c.first_served-served.result in
    let never = c.self.inside.never in
    let served = c.self.inside.served in
    let first : List Item = take n list in
    let then : List Item = drop n list in
    let whole : first ++ then ≡ list = take-append-drop n list in
    let may : MayBeLogged never.endpoints list = subst (λ (l : Logged). MayBeLogged l.endpoints list) (sym c.self.view_is) c.requires in
    let owed : AreFilled never.endpoints first then = are_filled never.endpoints first then (subst (MayBeLogged never.endpoints) (sym whole) may) in
    owed.below.0

pub fill-requires-clause-few : goal.fill-requires-clause-few
fill-requires-clause-few c =
    let list = c.args.list.now in
    let n : ℕ = c.first_served-served.result in
    let never = c.self.inside.never in
    let served = c.self.inside.served in
    let first : List Item = take n list in
    let then : List Item = drop n list in
    let whole : first ++ then ≡ list = take-append-drop n list in
    let may : MayBeLogged never.endpoints list = subst (λ (l : Logged). MayBeLogged l.endpoints list) (sym c.self.view_is) c.requires in
    let owed : AreFilled never.endpoints first then = are_filled never.endpoints first then (subst (MayBeLogged never.endpoints) (sym whole) may) in
    owed.few.0

pub fill-requires-2-clause-once : goal.fill-requires-2-clause-once
fill-requires-2-clause-once c =
    let list = c.args.list.now in
    let n : ℕ = c.first_served-served.result in
    let never = c.self.inside.never in
    let served = c.self.inside.served in
    let first : List Item = take n list in
    let then : List Item = drop n list in
    let whole : first ++ then ≡ list = take-append-drop n list in
    let may : MayBeLogged never.endpoints list = subst (λ (l : Logged). MayBeLogged l.endpoints list) (sym c.self.view_is) c.requires in
    let owed : AreFilled never.endpoints first then = are_filled never.endpoints first then (subst (MayBeLogged never.endpoints) (sym whole) may) in
    subst HasEachFlowOnce (sym (take_rest list n)) owed.once.1

pub fill-requires-2-clause-below : goal.fill-requires-2-clause-below
fill-requires-2-clause-below c =
    let list = c.args.list.now in
    let n : ℕ = c.first_served-served.result in
    let never = c.self.inside.never in
    let served = c.self.inside.served in
    let first : List Item = take n list in
    let then : List Item = drop n list in
    let whole : first ++ then ≡ list = take-append-drop n list in
    let may : MayBeLogged never.endpoints list = subst (λ (l : Logged). MayBeLogged l.endpoints list) (sym c.self.view_is) c.requires in
    let owed : AreFilled never.endpoints first then = are_filled never.endpoints first then (subst (MayBeLogged never.endpoints) (sym whole) may) in
    subst (λ (m : ℕ). AreBelow m (take (length list - n) then)) (sym c.self.invariant.same) (subst (AreBelow never.endpoints) (sym (take_rest list n)) owed.below.1)

pub fill-requires-2-clause-few : goal.fill-requires-2-clause-few
fill-requires-2-clause-few c =
    let list = c.args.list.now in
    let n : ℕ = c.first_served-served.result in
    let never = c.self.inside.never in
    let served = c.self.inside.served in
    let first : List Item = take n list in
    let then : List Item = drop n list in
    let whole : first ++ then ≡ list = take-append-drop n list in
    let may : MayBeLogged never.endpoints list = subst (λ (l : Logged). MayBeLogged l.endpoints list) (sym c.self.view_is) c.requires in
    let owed : AreFilled never.endpoints first then = are_filled never.endpoints first then (subst (MayBeLogged never.endpoints) (sym whole) may) in
    subst (λ (m : ℕ). length (take (length list - n) then) ≤ m * m) (sym c.self.invariant.same) (subst (λ (xs : List Item). length xs ≤ never.endpoints * never.endpoints) (sym (take_rest list n)) owed.few.1)

pub invariant_of-self : goal.invariant_of-self
invariant_of-self c =
    let list = c.args.list.now in
    let n : ℕ = c.first_served-served.result in
    let never = c.self.inside.never in
    let served = c.self.inside.served in
    let first : List Item = take n list in
    let then : List Item = drop n list in
    let whole : first ++ then ≡ list = take-append-drop n list in
    let may : MayBeLogged never.endpoints list = subst (λ (l : Logged). MayBeLogged l.endpoints list) (sym c.self.view_is) c.requires in
    let owed : AreFilled never.endpoints first then = are_filled never.endpoints first then (subst (MayBeLogged never.endpoints) (sym whole) may) in
    let parts : AreParts (filled never.endpoints first) (filled never.endpoints then) = parts_of never.endpoints list first then c.self.invariant.few may whole c.first_served-served.ensures.never c.first_served-served.ensures.once in
    let other : c.fill-2.new.self ≡ filled never.endpoints then =
    c.fill-2.ensures ∙ (ap (λ (m : ℕ). filled m (take (length list - n) then)) c.self.invariant.same ∙ ap (filled never.endpoints) (take_rest list n)) in
    subst (λ (l : Logged). AreParts l c.fill-2.new.self) (sym c.fill.ensures) (subst (AreParts (filled never.endpoints first)) (sym other) parts)

pub returns : goal.returns
returns c =
    let list = c.args.list.now in
    let n : ℕ = c.first_served-served.result in
    let never = c.self.inside.never in
    let served = c.self.inside.served in
    let first : List Item = take n list in
    let then : List Item = drop n list in
    let whole : first ++ then ≡ list = take-append-drop n list in
    let may : MayBeLogged never.endpoints list = subst (λ (l : Logged). MayBeLogged l.endpoints list) (sym c.self.view_is) c.requires in
    let owed : AreFilled never.endpoints first then = are_filled never.endpoints first then (subst (MayBeLogged never.endpoints) (sym whole) may) in
    let other : c.fill-2.new.self ≡ filled served.endpoints then = c.fill-2.ensures ∙ ap (filled served.endpoints) (take_rest list n) in
    let join : Logged → Logged → Logged = λ a b. record { endpoints = a.endpoints; items = a.items ++ b.items; picked = a.picked ++ b.picked } in
    ap (λ (l : Logged). join l c.fill-2.new.self) c.fill.ensures
    ∙ (ap (join (filled never.endpoints first)) other
    ∙ (ap (filled never.endpoints) whole ∙ ap (λ (l : Logged). filled l.endpoints list) c.self.view_is))

use Rattle.std.proofs.Common.{◌≡◌, ◌≤◌, ◌*◌, ◌++◌, ℕ, List, length, ◌-◌, take, drop, sym, ap, ◌∙◌, subst}
use Rattle.std.proofs.lemmas.List.{take_rest}
use Rattle.greedy_rules.specs.declared.flows.Item.{Item}
use Rattle.greedy_rules.specs.Demands.{HasEachFlowOnce, AreBelow}
use Rattle.slot_batches.specs.Woven.{weave, woven}
use Rattle.window_allocation.specs.Logged.{Logged, MayBeLogged, AreParts, is_left}
use Rattle.window_allocation.proofs.LogParts.{filled, AreFilled, are_filled, woven_of_both, parts_woven}
use Rattle.window_allocation.proofs.demand_log.DemandLog.weave.Goals as goal

pub weave-requires-clause-once : goal.weave-requires-clause-once
weave-requires-clause-once c =
    let rest = c.args.rest.now in
    let n : ℕ = c.first_served-served.result in
    let never = c.self.inside.never in
    let served = c.self.inside.served in
    let first : List Item = take n rest in
    let then : List Item = drop n rest in
    let may : MayBeLogged never.endpoints (woven (is_left (never.picked ++ served.picked)) (never.items ++ served.items) rest) =
    subst (λ (l : Logged). MayBeLogged l.endpoints (woven (is_left l.picked) l.items rest)) (sym c.self.view_is) c.requires.may in
    let whole = woven_of_both never served rest first then c.self.invariant c.first_served-served.ensures.never c.first_served-served.ensures.once in
    let first_now : List Item = weave (is_left never.picked) never.items first in
    let then_now : List Item = weave (is_left served.picked) served.items then in
    let owed : AreFilled never.endpoints first_now then_now = are_filled never.endpoints first_now then_now (subst (MayBeLogged never.endpoints) whole may) in
    let after : List Item → List Item = λ xs. weave (is_left served.picked) served.items xs in
    owed.once.0

pub weave-requires-clause-below : goal.weave-requires-clause-below
weave-requires-clause-below c =
    let rest = c.args.rest.now in
    let n : ℕ = c.first_served-served.result in
    let never = c.self.inside.never in
    let served = c.self.inside.served in
    let first : List Item = take n rest in
    let then : List Item = drop n rest in
    let may : MayBeLogged never.endpoints (woven (is_left (never.picked ++ served.picked)) (never.items ++ served.items) rest) =
    subst (λ (l : Logged). MayBeLogged l.endpoints (woven (is_left l.picked) l.items rest)) (sym c.self.view_is) c.requires.may in
    let whole = woven_of_both never served rest first then c.self.invariant c.first_served-served.ensures.never c.first_served-served.ensures.once in
    let first_now : List Item = weave (is_left never.picked) never.items first in
    let then_now : List Item = weave (is_left served.picked) served.items then in
    let owed : AreFilled never.endpoints first_now then_now = are_filled never.endpoints first_now then_now (subst (MayBeLogged never.endpoints) whole may) in
    let after : List Item → List Item = λ xs. weave (is_left served.picked) served.items xs in
    owed.below.0

pub weave-requires-clause-few : goal.weave-requires-clause-few
weave-requires-clause-few c =
    let rest = c.args.rest.now in
    let n : ℕ = c.first_served-served.result in
    let never = c.self.inside.never in
    let served = c.self.inside.served in
    let first : List Item = take n rest in
    let then : List Item = drop n rest in
    let may : MayBeLogged never.endpoints (woven (is_left (never.picked ++ served.picked)) (never.items ++ served.items) rest) =
    subst (λ (l : Logged). MayBeLogged l.endpoints (woven (is_left l.picked) l.items rest)) (sym c.self.view_is) c.requires.may in
    let whole = woven_of_both never served rest first then c.self.invariant c.first_served-served.ensures.never c.first_served-served.ensures.once in
    let first_now : List Item = weave (is_left never.picked) never.items first in
    let then_now : List Item = weave (is_left served.picked) served.items then in
    let owed : AreFilled never.endpoints first_now then_now = are_filled never.endpoints first_now then_now (subst (MayBeLogged never.endpoints) whole may) in
    let after : List Item → List Item = λ xs. weave (is_left served.picked) served.items xs in
    owed.few.0

pub weave-requires-2-clause-once : goal.weave-requires-2-clause-once
weave-requires-2-clause-once c =
    let rest = c.args.rest.now in
    let n : ℕ = c.first_served-served.result in
    let never = c.self.inside.never in
    let served = c.self.inside.served in
    let first : List Item = take n rest in
    let then : List Item = drop n rest in
    let may : MayBeLogged never.endpoints (woven (is_left (never.picked ++ served.picked)) (never.items ++ served.items) rest) =
    subst (λ (l : Logged). MayBeLogged l.endpoints (woven (is_left l.picked) l.items rest)) (sym c.self.view_is) c.requires.may in
    let whole = woven_of_both never served rest first then c.self.invariant c.first_served-served.ensures.never c.first_served-served.ensures.once in
    let first_now : List Item = weave (is_left never.picked) never.items first in
    let then_now : List Item = weave (is_left served.picked) served.items then in
    let owed : AreFilled never.endpoints first_now then_now = are_filled never.endpoints first_now then_now (subst (MayBeLogged never.endpoints) whole may) in
    let after : List Item → List Item = λ xs. weave (is_left served.picked) served.items xs in
    subst (λ (xs : List Item). HasEachFlowOnce (after xs)) (sym (take_rest rest n)) owed.once.1

pub weave-requires-2-clause-below : goal.weave-requires-2-clause-below
weave-requires-2-clause-below c =
    let rest = c.args.rest.now in
    let n : ℕ = c.first_served-served.result in
    let never = c.self.inside.never in
    let served = c.self.inside.served in
    let first : List Item = take n rest in
    let then : List Item = drop n rest in
    let may : MayBeLogged never.endpoints (woven (is_left (never.picked ++ served.picked)) (never.items ++ served.items) rest) =
    subst (λ (l : Logged). MayBeLogged l.endpoints (woven (is_left l.picked) l.items rest)) (sym c.self.view_is) c.requires.may in
    let whole = woven_of_both never served rest first then c.self.invariant c.first_served-served.ensures.never c.first_served-served.ensures.once in
    let first_now : List Item = weave (is_left never.picked) never.items first in
    let then_now : List Item = weave (is_left served.picked) served.items then in
    let owed : AreFilled never.endpoints first_now then_now = are_filled never.endpoints first_now then_now (subst (MayBeLogged never.endpoints) whole may) in
    let after : List Item → List Item = λ xs. weave (is_left served.picked) served.items xs in
    subst (λ (m : ℕ). AreBelow m (after (take (length rest - n) then))) (sym c.self.invariant.same) (subst (λ (xs : List Item). AreBelow never.endpoints (after xs)) (sym (take_rest rest n)) owed.below.1)

pub weave-requires-2-clause-few : goal.weave-requires-2-clause-few
weave-requires-2-clause-few c =
    let rest = c.args.rest.now in
    let n : ℕ = c.first_served-served.result in
    let never = c.self.inside.never in
    let served = c.self.inside.served in
    let first : List Item = take n rest in
    let then : List Item = drop n rest in
    let may : MayBeLogged never.endpoints (woven (is_left (never.picked ++ served.picked)) (never.items ++ served.items) rest) =
    subst (λ (l : Logged). MayBeLogged l.endpoints (woven (is_left l.picked) l.items rest)) (sym c.self.view_is) c.requires.may in
    let whole = woven_of_both never served rest first then c.self.invariant c.first_served-served.ensures.never c.first_served-served.ensures.once in
    let first_now : List Item = weave (is_left never.picked) never.items first in
    let then_now : List Item = weave (is_left served.picked) served.items then in
    let owed : AreFilled never.endpoints first_now then_now = are_filled never.endpoints first_now then_now (subst (MayBeLogged never.endpoints) whole may) in
    let after : List Item → List Item = λ xs. weave (is_left served.picked) served.items xs in
    subst (λ (m : ℕ). length (after (take (length rest - n) then)) ≤ m * m) (sym c.self.invariant.same) (subst (λ (xs : List Item). length (after xs) ≤ never.endpoints * never.endpoints) (sym (take_rest rest n)) owed.few.1)

pub invariant_of-self : goal.invariant_of-self
invariant_of-self c =
    let rest = c.args.rest.now in
    let n : ℕ = c.first_served-served.result in
    let never = c.self.inside.never in
    let served = c.self.inside.served in
    let first : List Item = take n rest in
    let then : List Item = drop n rest in
    let may : MayBeLogged never.endpoints (woven (is_left (never.picked ++ served.picked)) (never.items ++ served.items) rest) =
    subst (λ (l : Logged). MayBeLogged l.endpoints (woven (is_left l.picked) l.items rest)) (sym c.self.view_is) c.requires.may in
    let whole = woven_of_both never served rest first then c.self.invariant c.first_served-served.ensures.never c.first_served-served.ensures.once in
    let first_now : List Item = weave (is_left never.picked) never.items first in
    let then_now : List Item = weave (is_left served.picked) served.items then in
    let owed : AreFilled never.endpoints first_now then_now = are_filled never.endpoints first_now then_now (subst (MayBeLogged never.endpoints) whole may) in
    let after : List Item → List Item = λ xs. weave (is_left served.picked) served.items xs in
    let parts = parts_woven never served rest first then c.self.invariant c.first_served-served.ensures.never c.first_served-served.ensures.once may in
    let other : c.weave-2.new.self ≡ filled served.endpoints then_now = c.weave-2.ensures ∙ ap (λ (xs : List Item). filled served.endpoints (after xs)) (take_rest rest n) in
    subst (λ (l : Logged). AreParts l c.weave-2.new.self) (sym c.weave.ensures) (subst (AreParts (filled never.endpoints first_now)) (sym other) parts)

pub returns : goal.returns
returns c =
    let rest = c.args.rest.now in
    let n : ℕ = c.first_served-served.result in
    let never = c.self.inside.never in
    let served = c.self.inside.served in
    let first : List Item = take n rest in
    let then : List Item = drop n rest in
    let may : MayBeLogged never.endpoints (woven (is_left (never.picked ++ served.picked)) (never.items ++ served.items) rest) =
    subst (λ (l : Logged). MayBeLogged l.endpoints (woven (is_left l.picked) l.items rest)) (sym c.self.view_is) c.requires.may in
    let whole = woven_of_both never served rest first then c.self.invariant c.first_served-served.ensures.never c.first_served-served.ensures.once in
    let first_now : List Item = weave (is_left never.picked) never.items first in
    let then_now : List Item = weave (is_left served.picked) served.items then in
    let owed : AreFilled never.endpoints first_now then_now = are_filled never.endpoints first_now then_now (subst (MayBeLogged never.endpoints) whole may) in
    let after : List Item → List Item = λ xs. weave (is_left served.picked) served.items xs in
    let other : c.weave-2.new.self ≡ filled served.endpoints then_now = c.weave-2.ensures ∙ ap (λ (xs : List Item). filled served.endpoints (after xs)) (take_rest rest n) in
    let join : Logged → Logged → Logged = λ a b. record { endpoints = a.endpoints; items = a.items ++ b.items; picked = a.picked ++ b.picked } in
    ap (λ (l : Logged). join l c.weave-2.new.self) c.weave.ensures
    ∙ (ap (join (filled never.endpoints first_now)) other
    ∙ (ap (filled never.endpoints) (sym whole) ∙ ap (λ (l : Logged). filled l.endpoints (woven (is_left l.picked) l.items rest)) c.self.view_is))

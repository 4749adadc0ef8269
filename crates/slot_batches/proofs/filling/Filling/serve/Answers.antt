use Rattle.std.proofs.Common.{◌≡◌, ◌<◌, ◌++◌, ◌∷◌, [], Bool, Vec, Global, List, cond, sym, ap, ◌∙◌, subst}
use Rattle.std.specs.Prelude.{vec_len, vec_capacity}
use Rattle.std.proofs.lemmas.List.{append-nil}
use Rattle.greedy_rules.specs.declared.flows.Item.{Item}
use Rattle.slot_batches.specs.Filled.{HasTakenUp}
use Rattle.slot_batches.specs.Parts.{fill_of, with_waiting}
use Rattle.slot_batches.proofs.TakeUpLemmas.{waiting_has_room}
use Rattle.slot_batches.proofs.filling.Filling.serve.Goals as goal

pub serve_apart-requires-clause-may : goal.serve_apart-requires-clause-may
serve_apart-requires-clause-may c = (c.requires.may.0, c.args.self.now.waiting.items, c.requires.may.1, c.requires.may.2)

pub push_reserved-requires : goal.push_reserved-requires
push_reserved-requires c =
    subst (λ (v : Vec Item Global). vec_len v < vec_capacity v) (sym c.serve_apart.ensures.waiting)
    (waiting_has_room c.requires.may.0 c.args.self.now c.args.item c.requires.room c.requires.may.1 c.requires.may.2)

pub returns-then-not-serve_apart-clause-taken_up : goal.returns-then-not-serve_apart-clause-taken_up
returns-then-not-serve_apart-clause-taken_up c = λ taken is may.
    let old = c.args.self.now in
    let item = c.args.item in
    let new = c.serve_apart.new.self in
    let waits : old.waiting.items ++ cond c.serve_apart.result [] (item ∷ []) ≡ c.push_reserved.new.self.items =
    ap (λ (b : Bool). old.waiting.items ++ cond b [] (item ∷ [])) c.if-not-serve_apart.true
    ∙ (ap (λ (v : Vec Item Global). v.items ++ item ∷ []) (sym c.serve_apart.ensures.waiting) ∙ sym c.push_reserved.ensures.items) in
    subst (λ (xs : List Item). HasTakenUp (taken ++ item ∷ []) (with_waiting xs (fill_of new))) waits (c.serve_apart.ensures.taken_up taken old.waiting.items is may)

pub returns-else-not-serve_apart-clause-taken_up : goal.returns-else-not-serve_apart-clause-taken_up
returns-else-not-serve_apart-clause-taken_up c = λ taken is may.
    let old = c.args.self.now in
    let item = c.args.item in
    let new = c.serve_apart.new.self in
    let waits : old.waiting.items ++ cond c.serve_apart.result [] (item ∷ []) ≡ new.waiting.items =
    ap (λ (b : Bool). old.waiting.items ++ cond b [] (item ∷ [])) c.if-not-serve_apart.false
    ∙ (append-nil old.waiting.items ∙ ap (λ (v : Vec Item Global). v.items) (sym c.serve_apart.ensures.waiting)) in
    subst (λ (xs : List Item). HasTakenUp (taken ++ item ∷ []) (with_waiting xs (fill_of new))) waits (c.serve_apart.ensures.taken_up taken old.waiting.items is may)

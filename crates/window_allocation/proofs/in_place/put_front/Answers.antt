use Rattle.std.proofs.Common.{◌≡◌, ◌+◌, ◌-◌, ◌++◌, ℕ, List, length, drop, refl, ap, ◌∙◌, arith}
use Rattle.std.proofs.lemmas.List.{with_items_is, length-append, length-drop}
use Rattle.std.proofs.lemmas.List.Edits.{paste_all}
use Rattle.std.proofs.lemmas.Slice.{put_mid-paste}
use borrow.Rule.Slice.PartMut.{put_mid}
use Rattle.greedy_rules.specs.declared.flows.Item.{Item}
use Rattle.window_allocation.proofs.in_place.put_front.Goals as goal

pub returns-clause-items : goal.returns-clause-items
returns-clause-items c =
    let items = c.args.items.now in
    let list = c.args.list.now in
    let held = c.deref_mut.result.now in
    let new = c.copy_from_slice.new.self in
    let n : ℕ = length items in
    let none : 0 + n ≡ n = omega arith in
    let put : put_mid 0 (n - 0) held new ≡ items ++ drop n list.items =
    put_mid-paste 0 (n - 0) held new items n c.copy_from_slice.ensures.after (omega arith) refl
    ∙ (paste_all held 0 items n refl ∙ (ap (λ (k : ℕ). items ++ drop k held) none ∙ ap (λ (xs : List Item). items ++ drop n xs) c.deref_mut.ensures.value)) in
    let kept : length (put_mid 0 (n - 0) held new) ≡ list.len = omega (arith, ap length put, length-append items (drop n list.items), length-drop n list.items, list.ok.0, c.requires) in
    with_items_is list (put_mid 0 (n - 0) held new) kept ∙ put

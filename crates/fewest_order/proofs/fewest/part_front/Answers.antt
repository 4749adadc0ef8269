use Rattle.std.proofs.Common.{◌≡◌, ◌≤◌, ◌<◌, ◌+◌, ◌++◌, ◌∷◌, [], ℕ, List, length, take, get_or, sym, ap, ◌∙◌, arith, append_assoc}
use Rattle.std.specs.Prelude.{vec_len, vec_capacity}
use Rattle.std.proofs.lemmas.Bool.{cond-true}
use Rattle.std.proofs.lemmas.List.{append-nil, length-take-le, take_more}
use Rattle.greedy_rules.specs.declared.flows.Item.{Item}
use Rattle.greedy_rules.specs.declared.flows.Entry.{Entry}
use Rattle.fewest_order.specs.FewestFirst.{kept_items, raised_of, lowered_of}
use Rattle.fewest_order.proofs.FewestLemmas.{stay_parts, kept_of-append, raised_of-append, lowered_of-append}
use Rattle.fewest_order.proofs.fewest.part_front.Goals as goal

abbrev nothing : Item
nothing = record { flow = record { src = 0; dst = 0 }; need = 0; last = 0 }

pub returns-then-stay-items-clause-kept : goal.returns-then-stay-items-clause-kept
returns-then-stay-items-clause-kept c =
    let entries : List Entry = c.args.batch.now.entries in
    let items : List Item = c.args.items.now in
    let stay : ℕ = c.staying_front-stay.result in
    let front : List Item = take stay items in
    let same = stay_parts entries front c.staying_front-stay.ensures.stay in
    let room : vec_len c.args.kept.now + length front ≤ vec_capacity c.args.kept.now =
    omega (arith, c.requires.kept, c.staying_front-stay.ensures.within, length-take-le stay items c.staying_front-stay.ensures.within) in
    let copied : c.extend_from_slice.new.self.items ≡ c.args.kept.now.items ++ front =
    c.extend_from_slice.ensures.items ∙ cond-true _ (c.args.kept.now.items ++ front) c.args.kept.now.items (c.extend_from_slice.ensures.succeeds room) in
    copied ∙ ap (λ (xs : List Item). c.args.kept.now.items ++ xs) (sym same.kept)

pub returns-then-stay-items-clause-raised : goal.returns-then-stay-items-clause-raised
returns-then-stay-items-clause-raised c =
    let entries : List Entry = c.args.batch.now.entries in
    let items : List Item = c.args.items.now in
    let stay : ℕ = c.staying_front-stay.result in
    let front : List Item = take stay items in
    let same = stay_parts entries front c.staying_front-stay.ensures.stay in
    sym (append-nil c.args.raised.now.items) ∙ ap (λ (xs : List Item). c.args.raised.now.items ++ xs) (sym same.raised)

pub returns-then-stay-items-clause-lowered : goal.returns-then-stay-items-clause-lowered
returns-then-stay-items-clause-lowered c =
    let entries : List Entry = c.args.batch.now.entries in
    let items : List Item = c.args.items.now in
    let stay : ℕ = c.staying_front-stay.result in
    let front : List Item = take stay items in
    let same = stay_parts entries front c.staying_front-stay.ensures.stay in
    sym (append-nil c.args.lowered.now.items) ∙ ap (λ (xs : List Item). c.args.lowered.now.items ++ xs) (sym same.lowered)

pub returns-clause-kept : goal.returns-clause-kept
returns-clause-kept c =
    let entries : List Entry = c.args.batch.now.entries in
    let items : List Item = c.args.items.now in
    let stay : ℕ = c.staying_front-stay.result in
    let front : List Item = take stay items in
    let same = stay_parts entries front c.staying_front-stay.ensures.stay in
    let room : vec_len c.args.kept.now + length front ≤ vec_capacity c.args.kept.now =
    omega (arith, c.requires.kept, c.staying_front-stay.ensures.within, length-take-le stay items c.staying_front-stay.ensures.within) in
    let copied : c.extend_from_slice.new.self.items ≡ c.args.kept.now.items ++ front =
    c.extend_from_slice.ensures.items ∙ cond-true _ (c.args.kept.now.items ++ front) c.args.kept.now.items (c.extend_from_slice.ensures.succeeds room) in
    let below : stay < length items = omega (arith, c.staying_front-stay.ensures.within, c.if-stay-items.false) in
    let one : List Item = get_or items stay nothing ∷ [] in
    let more : front ++ one ≡ take (stay + 1) items = sym (take_more items stay nothing below) in
    c.part.ensures.kept entries c.with_entry-item.ensures
    ∙ (ap (λ (xs : List Item). xs ++ kept_items entries one) copied
    ∙ (append_assoc c.args.kept.now.items front (kept_items entries one)
    ∙ ap (λ (xs : List Item). c.args.kept.now.items ++ xs)
    (ap (λ (xs : List Item). xs ++ kept_items entries one) (sym same.kept) ∙ (sym (kept_of-append entries front one) ∙ ap (kept_items entries) more))))

pub returns-clause-raised : goal.returns-clause-raised
returns-clause-raised c =
    let entries : List Entry = c.args.batch.now.entries in
    let items : List Item = c.args.items.now in
    let stay : ℕ = c.staying_front-stay.result in
    let front : List Item = take stay items in
    let same = stay_parts entries front c.staying_front-stay.ensures.stay in
    let below : stay < length items = omega (arith, c.staying_front-stay.ensures.within, c.if-stay-items.false) in
    let one : List Item = get_or items stay nothing ∷ [] in
    let more : front ++ one ≡ take (stay + 1) items = sym (take_more items stay nothing below) in
    c.part.ensures.raised entries c.with_entry-item.ensures
    ∙ ap (λ (xs : List Item). c.args.raised.now.items ++ xs)
    (ap (λ (xs : List Item). xs ++ raised_of entries one) (sym same.raised) ∙ (sym (raised_of-append entries front one) ∙ ap (raised_of entries) more))

pub returns-clause-lowered : goal.returns-clause-lowered
returns-clause-lowered c =
    let entries : List Entry = c.args.batch.now.entries in
    let items : List Item = c.args.items.now in
    let stay : ℕ = c.staying_front-stay.result in
    let front : List Item = take stay items in
    let same = stay_parts entries front c.staying_front-stay.ensures.stay in
    let below : stay < length items = omega (arith, c.staying_front-stay.ensures.within, c.if-stay-items.false) in
    let one : List Item = get_or items stay nothing ∷ [] in
    let more : front ++ one ≡ take (stay + 1) items = sym (take_more items stay nothing below) in
    c.part.ensures.lowered entries c.with_entry-item.ensures
    ∙ ap (λ (xs : List Item). c.args.lowered.now.items ++ xs)
    (ap (λ (xs : List Item). xs ++ lowered_of entries one) (sym same.lowered) ∙ (sym (lowered_of-append entries front one) ∙ ap (lowered_of entries) more))

use Rattle.std.proofs.Common.{◌≡◌, ◌+◌, ◌-◌, ◌++◌, ℕ, List, length, take, drop, sym, ap, ◌∙◌, arith, append_assoc, length-append}
use Rattle.std.proofs.Math.Seq.{take-add}
use Rattle.std.proofs.lemmas.List.{length-drop, length-take-le, take_rest}
use Rattle.greedy_rules.specs.declared.flows.Item.{Item}
use Rattle.greedy_rules.specs.declared.flows.Entry.{Entry}
use Rattle.fewest_order.specs.FewestFirst.{kept_items, raised_of, lowered_of}
use Rattle.fewest_order.proofs.FewestLemmas.{parts_length, kept_of-append, raised_of-append, lowered_of-append}
use Rattle.fewest_order.proofs.fewest.part_all.Goals as goal

-- a part of a list of which so many items more are parted
more : (part : List Item → List Item) (items : List Item) (from n : ℕ) (before mid now : List Item) → ((xs ys : List Item) → part (xs ++ ys) ≡ part xs ++ part ys)
    → mid ≡ before ++ part (take from items) → now ≡ mid ++ part (take n (take (length items - from) (drop from items))) → now ≡ before ++ part (take (from + n) items)
more part items from n before mid now appends so_far here =
    let front : List Item = take from items in
    let run : List Item = take n (drop from items) in
    here
    ∙ (ap (λ (xs : List Item). xs ++ part (take n (take (length items - from) (drop from items)))) so_far
    ∙ (ap (λ (xs : List Item). (before ++ part front) ++ part (take n xs)) (take_rest items from)
    ∙ (append_assoc before (part front) (part run)
    ∙ ap (λ (xs : List Item). before ++ xs) (sym (appends front run) ∙ ap part (sym (take-add from n items))))))

pub loop-from-preserved : goal.loop-from-preserved
loop-from-preserved c =
    let entries : List Entry = c.args.batch.now.entries in
    let items : List Item = c.args.items.now in
    let was = c.loop-from in
    let n : ℕ = c.part_front-from.result in
    let now = c.part_front-from.new in
    let facts = c.part_front-from.ensures in
    let rest : List Item = take (length items - was.from) (drop was.from items) in
    let long = length-take-le n rest facts.within in
    let parts = parts_length entries (take n rest) in
    record {
      within = omega (arith, facts.within, ap length (take_rest items was.from), length-drop was.from items, was.invariant.within);
      kept = more (kept_items entries) items was.from n c.args.kept.now.items was.kept.items now.kept.items (kept_of-append entries) was.invariant.kept facts.kept;
      raised = more (raised_of entries) items was.from n c.args.raised.now.items was.raised.items now.raised.items (raised_of-append entries) was.invariant.raised facts.raised;
      lowered = more (lowered_of entries) items was.from n c.args.lowered.now.items was.lowered.items now.lowered.items (lowered_of-append entries) was.invariant.lowered facts.lowered;
      kept_len = omega (arith, ap length facts.kept, length-append was.kept.items (kept_items entries (take n rest)), long, parts, was.invariant.kept_len, now.kept.ok.0, was.kept.ok.0);
      raised_len = omega (arith, ap length facts.raised, length-append was.raised.items (raised_of entries (take n rest)), long, parts, was.invariant.raised_len, now.raised.ok.0, was.raised.ok.0);
      lowered_len = omega (arith, ap length facts.lowered, length-append was.lowered.items (lowered_of entries (take n rest)), long, parts, was.invariant.lowered_len, now.lowered.ok.0, was.lowered.ok.0);
      kept_room = omega (arith, facts.kept_room, was.invariant.kept_room);
      raised_room = facts.raised_room ∙ was.invariant.raised_room;
      lowered_room = facts.lowered_room ∙ was.invariant.lowered_room;
    }

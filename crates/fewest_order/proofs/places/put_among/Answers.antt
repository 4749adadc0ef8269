use Rattle.std.proofs.Common.{◌≡◌, ◌≤◌, ◌+◌, ◌-◌, ◌∷◌, ◌++◌, [], ℕ, List, All, true, false, length, take, drop, get_or, sym, ap, ◌∙◌, subst, arith, append_assoc, length-append}
use Rattle.std.specs.Prelude.{vec_len, vec_capacity}
use Rattle.std.proofs.lemmas.Bool.{cond-true}
use Rattle.std.proofs.lemmas.List.{drop-drop, drop_more, drop_all, length-drop, length-take-le, take-append-drop, take_rest}
use Rattle.list_facts.specs.Order.{sort_by}
use Rattle.list_facts.proofs.StableSort.{Rises, rises_from}
use Rattle.greedy_rules.specs.declared.flows.Item.{Item}
use Rattle.fewest_order.specs.Places.{goes_before, joined}
use Rattle.fewest_order.proofs.PlaceLemmas.{need_of, rises-take, rises-drop, next_put, none_left}
use Rattle.fewest_order.proofs.places.put_among.Goals as goal

abbrev nothing : Item
nothing = record { flow = record { src = 0; dst = 0 }; need = 0; last = 0 }

pub loop-item-preserved : goal.loop-item-preserved
loop-item-preserved c =
    let was = c.loop-item in
    let side = c.args.side in
    let standing : List Item = c.args.standing.now in
    let others : List Item = c.args.others.now in
    let i : ℕ = was.item-index in
    let count : ℕ = c.place-count.result in
    let rest : List Item = drop was.from standing in
    let item : Item = get_or others i nothing in
    let before : List Item = take count rest in
    let behind : List Item = drop count rest in
    let later : List Item = drop (i + 1) others in
    let then : List Item = sort_by need_of (joined side behind later) in
    let all : take (length standing - was.from) rest ≡ rest = take_rest standing was.from in
    let left : drop i others ≡ item ∷ later = drop_more others i nothing c.loop-item-test.true in
    let less : was.from + count - was.from ≡ count = omega arith in
    let within : count ≤ length rest = omega (arith, c.place-count.ensures.within, ap length all) in
    let up : Rises need_of (item ∷ later) = subst (Rises need_of) left (rises-drop need_of i others (rises_from need_of others c.requires.others)) in
    let rises : Rises need_of before = rises-take need_of count rest (rises-drop need_of was.from standing (rises_from need_of standing c.requires.standing)) in
    let low : All (λ x. goes_before side x.need item.need ≡ true) before =
    subst (λ (xs : List Item). All (λ x. goes_before side x.need item.need ≡ true) (take count xs)) all c.place-count.ensures.before in
    let high : All (λ x. goes_before side x.need item.need ≡ false) behind =
    subst (λ (xs : List Item). All (λ x. goes_before side x.need item.need ≡ false) (drop count xs)) all c.place-count.ensures.behind in
    let put : c.put_next.new.items.items ≡ was.items.items ++ (before ++ item ∷ []) =
    c.put_next.ensures.items ∙ ap (λ (n : ℕ). was.items.items ++ (take n rest ++ item ∷ [])) less in
    record {
      within = omega (arith, within, length-drop was.from standing, was.invariant.within);
      sorted = ap (λ (xs : List Item). c.put_next.new.items.items ++ sort_by need_of (joined side xs later)) (sym (drop-drop count was.from standing))
          ∙ (ap (λ (xs : List Item). xs ++ then) put
          ∙ (append_assoc was.items.items (before ++ item ∷ []) then
          ∙ (ap (λ (xs : List Item). was.items.items ++ xs) (append_assoc before (item ∷ []) then ∙ sym (next_put side before behind item later rises up low high))
          ∙ (ap (λ (xs : List Item). was.items.items ++ sort_by need_of (joined side xs (item ∷ later))) (take-append-drop count rest)
          ∙ (ap (λ (xs : List Item). was.items.items ++ sort_by need_of (joined side rest xs)) (sym left) ∙ was.invariant.sorted)))));
      count = omega (
        arith,
        ap length put,
        length-append was.items.items (before ++ item ∷ []),
        length-append before (item ∷ []),
        length-take-le count rest within,
        was.invariant.count,
        c.put_next.new.items.ok.0,
        was.items.ok.0,
      );
      capacity = omega (arith, c.put_next.ensures.capacity, was.invariant.capacity);
    }

pub returns-clause-items : goal.returns-clause-items
returns-clause-items c =
    let was = c.loop-item in
    let side = c.args.side in
    let standing : List Item = c.args.standing.now in
    let others : List Item = c.args.others.now in
    let rest : List Item = drop was.from standing in
    let all : take (length standing - was.from) rest ≡ rest = take_rest standing was.from in
    let ended : length others ≤ was.item-index = omega (arith, c.loop-item-test.false) in
    let rises : Rises need_of rest = rises-drop need_of was.from standing (rises_from need_of standing c.requires.standing) in
    let room : vec_len was.items + length (take (length standing - was.from) rest) ≤ vec_capacity was.items =
    omega (arith, c.requires.room, ap length all, length-drop was.from standing, was.invariant.within, was.invariant.count, was.invariant.capacity, was.auto.item-index-end) in
    c.extend_from_slice.ensures.items
    ∙ (cond-true _ (was.items.items ++ take (length standing - was.from) rest) was.items.items (c.extend_from_slice.ensures.succeeds room)
    ∙ (ap (λ (xs : List Item). was.items.items ++ xs) (all ∙ sym (none_left side rest rises))
    ∙ (ap (λ (xs : List Item). was.items.items ++ sort_by need_of (joined side rest xs)) (sym (drop_all was.item-index others ended)) ∙ was.invariant.sorted)))

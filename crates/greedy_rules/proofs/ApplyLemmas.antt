-- Applying a batch: the flows that open.
use Rattle.std.proofs.Common.{◌≡◌, ◌<◌, ◌≤◌, ◌+◌, ℕ, List, [], ◌∷◌, ◌++◌, length, take, drop, map, filter, Some, slice_get, sym, ap, ◌∙◌, arith, length-append}
use Rattle.std.proofs.lemmas.List.{take_more, map-append, take-append-drop}
use Rattle.std.proofs.lemmas.List.Elements.{filter-append}
use Rattle.std.proofs.lemmas.Option.{get_or_from_slice_get}
use Rattle.greedy_rules.specs.declared.flows.Entry.{Entry}
use Rattle.greedy_rules.specs.Demands.{opened}

pub opened-append : (xs ys : List Entry) → opened (xs ++ ys) ≡ opened xs ++ opened ys
opened-append xs ys =
    ap (map (λ (entry : Entry). record { flow = entry.flow; need = entry.add; last = 0 })) (filter-append (λ entry. entry.opens) xs ys)
    ∙ map-append (λ (entry : Entry). record { flow = entry.flow; need = entry.add; last = 0 }) (filter (λ entry. entry.opens) xs) (filter (λ entry. entry.opens) ys)

pub opened_more : (batch : List Entry) (at : ℕ) (entry : Entry) → at < length batch → slice_get batch at ≡ Some entry → opened (take (at + 1) batch) ≡ opened (take at batch) ++ opened (entry ∷ [])
opened_more batch at entry below is =
    ap opened (take_more batch at entry below ∙ ap (λ (e : Entry). take at batch ++ e ∷ []) (get_or_from_slice_get batch at entry entry is))
    ∙ opened-append (take at batch) (entry ∷ [])

-- the flows opened so far leave room for the next
pub opened_fits : (batch : List Entry) (at : ℕ) → length (opened (take at batch)) ≤ length (opened batch)
opened_fits batch at =
    let whole : opened (take at batch) ++ opened (drop at batch) ≡ opened batch = sym (opened-append (take at batch) (drop at batch)) ∙ ap opened (take-append-drop at batch) in
    omega (arith, ap length whole, length-append (opened (take at batch)) (opened (drop at batch)))

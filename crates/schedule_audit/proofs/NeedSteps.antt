-- What each flow of a list needs, item after item.
use Rattle.std.proofs.Common.{◌≡◌, ◌<◌, ◌+◌, ℕ, zero, suc, List, [], ◌∷◌, ◌++◌, length, take, drop, get_or, cond, Bool, false, Some, None, All, refl, sym, ap, ◌∙◌, inl, inr, arith}
use Rattle.std.specs.Option.{option_or}
use Rattle.std.proofs.lemmas.Bool.{cases_Bool, cond-true, cond-false}
use Rattle.std.proofs.lemmas.List.{take_more}
use Rattle.std.proofs.lemmas.List.Elements.{All-head, All-tail}
use Rattle.std.proofs.lemmas.List.Folds.{find-append}
use Rattle.list_facts.proofs.Pairs.{AllPairs-head, AllPairs-tail}
use Rattle.list_facts.proofs.Options.{option_or-none}
use Rattle.greedy_rules.specs.declared.flows.Flow.{Flow}
use Rattle.greedy_rules.specs.declared.flows.Item.{Item}
use Rattle.greedy_rules.specs.Flows.{same_flow}
use Rattle.greedy_rules.specs.Demands.{HasEachFlowOnce, item_of, need_in}
use Rattle.greedy_rules.proofs.Facts.{same_flow-true}
use Rattle.greedy_rules.proofs.OnceLemmas.{Other}
use Rattle.schedule_audit.specs.FlowNumbers.{Numbers, flow_number_of}
use Rattle.schedule_audit.specs.Numbered.{Numbered}
use Rattle.schedule_audit.specs.Totals.{Total, first_total}

-- no item before one has its flow
none-before : (items : List Item) (at : ℕ) (d : Item) → HasEachFlowOnce items → at < length items → item_of (take at items) (get_or items at d).flow ≡ None
none-before [] at d once within = absurd (omega arith)
none-before (x ∷ items) zero d once within = refl
none-before (x ∷ items) (suc at) d once within = elim (cases_Bool (same_flow x.flow (get_or items at d).flow)) [
  | inl same ↦ absurd (differ items at (omega arith) (AllPairs-head Other x items once) (same_flow-true x.flow (get_or items at d).flow same))
  | inr other ↦
      cond-false (same_flow x.flow (get_or items at d).flow) (Some x) (item_of (take at items) (get_or items at d).flow) other ∙ none-before items at d (AllPairs-tail Other x items once) (omega arith)
]
  where
    differ : (ys : List Item) (i : ℕ) → i < length ys → All (Other x) ys → x.flow ≡ (get_or ys i d).flow → ⊥
    differ [] i less all same = absurd (omega arith)
    differ (y ∷ ys) zero less all same = All-head (Other x) y ys all same
    differ (y ∷ ys) (suc i) less all same = differ ys i (omega arith) (All-tail (Other x) y ys all) same

pub needs-more : (items : List Item) (at : ℕ) (item : Item) (old new : Numbers) → HasEachFlowOnce items → at < length items → item ≡ get_or items at item → ((flow : Flow) → flow_number_of old flow ≡ need_in (item_of (take at items) flow))
    → ((other : Flow) → flow_number_of new other ≡ cond (same_flow item.flow other) item.need (flow_number_of old other)) → (flow : Flow) → flow_number_of new flow ≡ need_in (item_of (take (at + 1) items) flow)
needs-more items at item old new once within is so_far set flow = elim (cases_Bool (same_flow item.flow flow)) [
  | inl same ↦
      set flow ∙ (cond-true (same_flow item.flow flow) item.need (flow_number_of old flow) same
      ∙ sym (ap need_in (more
      ∙ (ap (λ o. option_or o (item_of (item ∷ []) flow)) (ap (λ f. item_of (take at items) f) (sym (same_flow-true item.flow flow same)) ∙ none)
      ∙ cond-true (same_flow item.flow flow) (Some item) None same))))
  | inr other ↦
      set flow ∙ (cond-false (same_flow item.flow flow) item.need (flow_number_of old flow) other
      ∙ (so_far flow ∙ sym (ap need_in (more ∙ (ap (λ o. option_or (item_of (take at items) flow) o) (cond-false (same_flow item.flow flow) (Some item) None other) ∙ option_or-none (item_of (take at items) flow))))))
]
  where
    none : item_of (take at items) item.flow ≡ None
    none = ap (λ (i : Item). item_of (take at items) i.flow) is ∙ none-before items at item once within

    more : item_of (take (at + 1) items) flow ≡ option_or (item_of (take at items) flow) (item_of (item ∷ []) flow)
    more = ap (λ xs. item_of xs flow) (take_more items at item within ∙ ap (λ i. take at items ++ i ∷ []) (sym is)) ∙ find-append (λ (i : Item). same_flow i.flow flow) (take at items) (item ∷ [])

-- ---- totals

pub total-step : (wrong : Total → Bool) (totals : List (Numbered Total)) (i : ℕ) (d : Numbered Total) → i < length totals → wrong (get_or totals i d).said ≡ false → first_total wrong (drop i totals) ≡ first_total wrong (drop (i + 1) totals)
total-step wrong [] i d within right = absurd (omega arith)
total-step wrong (t ∷ totals) zero d within right = cond-false (wrong t.said) (Some t.line) (first_total wrong totals) right
total-step wrong (t ∷ totals) (suc i) d within right = total-step wrong totals i d (omega arith) right ∙ ap (λ n. first_total wrong (drop n (t ∷ totals))) (let next : suc (i + 1) ≡ suc i + 1 = omega arith in next)

-- A row of destinations: the flow of a place, the flows within a network, and the flow of the lowest bit of a word of senders.
use Rattle.std.proofs.Common.{◌≡◌, ◌≢◌, ◌<◌, ◌≤◌, ◌+◌, ◌-◌, ◌^◌, ℕ, zero, suc, List, [], ◌∷◌, ◌++◌, length, min, get_or, take, drop, replicate, Option, Some, None, option_map, All, true, bit_and, w64, refl, sym, ap, ◌∙◌, subst, arith, inl, inr}
use Rattle.std.specs.Prelude.{is_some}
use Rattle.std.specs.Int.{trailing_zeros}
use Rattle.std.specs.List.{cons_option}
use Rattle.std.proofs.lemmas.Bool.{cases_lt}
use Rattle.std.proofs.lemmas.Option.{same_Some, none-some}
use Rattle.std.proofs.lemmas.List.{take_all, append_assoc, length-take, take-append-drop}
use Rattle.std.proofs.lemmas.List.Elements.{All-head, All-tail}
use Rattle.list_facts.proofs.Lists.{take_on, all_back, All-front}
use Rattle.list_facts.proofs.Bits.{kept, kept_from, IsWithin, lowest_is_kept}
use Rattle.greedy_rules.specs.declared.flows.Flow.{Flow}
use Rattle.greedy_rules.specs.SlotTable.{flows_from}
use Rattle.greedy_rules.proofs.RowLemmas.{flows_from-append}
use Rattle.clos_topology.specs.declared.graph.Edge.{Edge}
use Rattle.clos_topology.specs.Network.{Network, endpoints_of}
use Rattle.clos_topology.specs.RackGraph.{rack_edges}
use Rattle.clos_topology.proofs.GraphLemmas.{InNet, rack_edges-append}

-- what holds of each flow holds of that of a place, where the row begins with a source
pub flow_of_place : (P : Flow → Type 0) (src at dst : ℕ) (row : List (Option ℕ)) → All P (flows_from src row) → at < length row → get_or row at None ≡ Some dst → P (record { src = src + at; dst = dst })
flow_of_place P src at dst [] all below is = absurd (omega (arith, below))
flow_of_place P src zero dst (None ∷ row) all below is = absurd (none-some dst is)
flow_of_place P src zero dst (Some to ∷ row) all below is =
    let here : P (record { src = src; dst = to }) = All-head P (record { src = src; dst = to }) (flows_from (src + 1) row) all in
    subst (λ (n : ℕ). P (record { src = src + 0; dst = n })) (same_Some to dst is) (subst (λ (n : ℕ). P (record { src = n; dst = to })) (omega arith) here)
flow_of_place P src (suc at) dst (None ∷ row) all below is =
    subst (λ (n : ℕ). P (record { src = n; dst = dst })) (omega arith) (flow_of_place P (src + 1) at dst row all (omega (arith, below)) is)
flow_of_place P src (suc at) dst (Some to ∷ row) all below is =
    let rest : All P (flows_from (src + 1) row) = All-tail P (record { src = src; dst = to }) (flows_from (src + 1) row) all in
    subst (λ (n : ℕ). P (record { src = n; dst = dst })) (omega arith) (flow_of_place P (src + 1) at dst row rest (omega (arith, below)) is)

-- the places past the endpoints hold no flow
pub row_within : (net : Network) (sources src : ℕ) (row : List (Option ℕ)) → endpoints_of net ≤ src + sources → All (InNet net) (flows_from src row) → flows_from src (take sources row) ≡ flows_from src row
row_within net zero src [] enough all = refl
row_within net (suc sources) src [] enough all = refl
row_within net zero src (None ∷ row) enough all = row_within net zero (src + 1) row (omega (arith, enough)) all
row_within net zero src (Some dst ∷ row) enough all =
    let here = All-head (InNet net) (record { src = src; dst = dst }) (flows_from (src + 1) row) all in
    absurd (omega (arith, enough, here.0))
row_within net (suc sources) src (None ∷ row) enough all = row_within net sources (src + 1) row (omega (arith, enough)) all
row_within net (suc sources) src (Some dst ∷ row) enough all =
    let flow : Flow = record { src = src; dst = dst } in
    ap (λ (flows : List Flow). flow ∷ flows) (row_within net sources (src + 1) row (omega (arith, enough)) (All-tail (InNet net) flow (flows_from (src + 1) row) all))

row_of_net : (net : Network) (sources : ℕ) (row : List (Option ℕ)) → sources ≡ min (length row) (endpoints_of net) → All (InNet net) (flows_from 0 row) → flows_from 0 (take sources row) ≡ flows_from 0 row
row_of_net net sources row is all = elim (cases_lt (endpoints_of net) (length row)) [
  | inl more ↦ row_within net sources 0 row (omega (arith, is, more)) all
  | inr whole ↦ ap (flows_from 0) (take_all sources row (omega (arith, is, whole)))
]

-- a slot's row without the places past the endpoints has its flows
pub row_of_slot : (net : Network) (sources : ℕ) (row : List (Option ℕ)) (slot : List Flow) → sources ≡ min (length row) (endpoints_of net) → flows_from 0 row ≡ slot → All (InNet net) slot → flows_from 0 (take sources row) ≡ slot
row_of_slot net sources row slot is has all = row_of_net net sources row is (subst (All (InNet net)) (sym has) all) ∙ has

pub few_flows : (src : ℕ) (row : List (Option ℕ)) → length (flows_from src row) ≤ length row
few_flows src [] = omega arith
few_flows src (None ∷ row) = omega (arith, few_flows (src + 1) row)
few_flows src (Some dst ∷ row) = omega (arith, few_flows (src + 1) row)

-- places that hold nothing have no flows
passed : (src count : ℕ) (row : List (Option ℕ)) → flows_from src (replicate count None ++ row) ≡ flows_from (src + count) row
passed src zero row = let here : src ≡ src + 0 = omega arith in ap (λ (n : ℕ). flows_from n row) here
passed src (suc count) row = let next : src + 1 + count ≡ src + suc count = omega arith in passed (src + 1) count row ∙ ap (λ (n : ℕ). flows_from n row) next

held : (to : Option ℕ) → is_some to ≡ true → (dst : ℕ) × (to ≡ Some dst)
held None is = absurd (cc)
held (Some dst) is = (dst, refl)

-- the flow at the place of a word's lowest bit, and those of its other bits, where the row begins with a source
pub record LowestFlow (src : ℕ) (row : List (Option ℕ)) (word place : ℕ) : Type 0 where
  pub dst : ℕ
  pub below : place < length row
  pub sends : get_or row place None ≡ Some dst
  pub first : flows_from src (kept word row) ≡ record { src = src + place; dst = dst } ∷ flows_from src (kept (bit_and word (word - 1)) row)
  pub within : IsWithin row (bit_and word (word - 1))

pub lowest_flow : (src : ℕ) (row : List (Option ℕ)) (word : ℕ) → word < 2 ^ 64 → word ≢ 0 → IsWithin row word → LowestFlow src row word (trailing_zeros w64 word)
lowest_flow src row word fits some within =
    let place : ℕ = trailing_zeros w64 word in
    let lowest = lowest_is_kept row word fits some within in
    let one = held (get_or row place None) lowest.held in
    let rest : List (Option ℕ) = kept_from (place + 1) word (drop (suc place) row) in
    record {
      dst = one.0;
      below = lowest.below;
      sends = one.1;
      first = ap (flows_from src) lowest.now
          ∙ (ap (λ (to : Option ℕ). flows_from src (replicate place None ++ (to ∷ rest))) one.1
          ∙ (passed src place (Some one.0 ∷ rest)
          ∙ ap (λ (flows : List Flow). record { src = src + place; dst = one.0 } ∷ flows) (sym (ap (flows_from src) lowest.then ∙ passed src place (None ∷ rest)))));
      within = lowest.within;
    }

-- its edge behind others, and those of the other bits behind it
pub edge_more : (hosts src : ℕ) (row : List (Option ℕ)) (word place : ℕ) (edges : List Edge) → LowestFlow src row word place
    → (edges ++ rack_edges hosts (cons_option (option_map (λ to. record { src = src + place; dst = to }) (get_or row place None)) [])) ++ rack_edges hosts (flows_from src (kept (bit_and word (word - 1)) row))
    ≡ edges ++ rack_edges hosts (flows_from src (kept word row))
edge_more hosts src row word place edges lowest =
    let flow : Flow = record { src = src + place; dst = lowest.dst } in
    let rest : List Flow = flows_from src (kept (bit_and word (word - 1)) row) in
    ap (λ (to : Option ℕ). (edges ++ rack_edges hosts (cons_option (option_map (λ d. record { src = src + place; dst = d }) to) [])) ++ rack_edges hosts rest) lowest.sends
    ∙ (append_assoc edges (rack_edges hosts (flow ∷ [])) (rack_edges hosts rest)
    ∙ ap (λ (es : List Edge). edges ++ es) (sym (rack_edges-append hosts (flow ∷ []) rest) ∙ ap (rack_edges hosts) (sym lowest.first)))

-- the flows before a place, and those from there on
flows_split : (row : List (Option ℕ)) (from : ℕ) → from ≤ length row → flows_from 0 row ≡ flows_from 0 (take from row) ++ flows_from from (drop from row)
flows_split row from within =
    let here : 0 + length (take from row) ≡ from = omega (arith, length-take from row, within) in
    ap (flows_from 0) (sym (take-append-drop from row))
    ∙ (flows_from-append 0 (take from row) (drop from row) ∙ ap (λ (n : ℕ). flows_from 0 (take from row) ++ flows_from n (drop from row)) here)

-- those of a word behind them
pub word_more : (row : List (Option ℕ)) (from : ℕ) → from ≤ length row → flows_from 0 (take (from + 64) row) ≡ flows_from 0 (take from row) ++ flows_from from (take 64 (drop from row))
word_more row from within =
    let here : 0 + length (take from row) ≡ from = omega (arith, length-take from row, within) in
    ap (flows_from 0) (take_on from 64 row)
    ∙ (flows_from-append 0 (take from row) (take 64 (drop from row)) ∙ ap (λ (n : ℕ). flows_from 0 (take from row) ++ flows_from n (take 64 (drop from row))) here)

-- what holds of each flow holds of those of a word
pub flows_of_word : (P : Flow → Type 0) (row : List (Option ℕ)) (from : ℕ) → from ≤ length row → All P (flows_from 0 row) → All P (flows_from from (take 64 (drop from row)))
flows_of_word P row from within all =
    let rest : List (Option ℕ) = drop from row in
    let behind : All P (flows_from from rest) = all_back P (flows_from 0 (take from row)) (flows_from from rest) (subst (All P) (flows_split row from within) all) in
    All-front P (flows_from from (take 64 rest)) (flows_from (from + length (take 64 rest)) (drop 64 rest))
    (subst (All P) (ap (flows_from from) (sym (take-append-drop 64 rest)) ∙ flows_from-append from (take 64 rest) (drop 64 rest)) behind)

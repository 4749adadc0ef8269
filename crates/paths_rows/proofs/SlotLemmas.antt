-- A packet whose source and destination are free in a slot leaves it a matching.
use Rattle.std.proofs.Common.{◌≡◌, ◌≢◌, ◌<◌, ℕ, List, [], ◌∷◌, length, get_or, set, Some, None, All, refl, sym, ap, ◌∙◌, arith}
use Rattle.std.proofs.lemmas.Bool.{eq-eqb, ne_eqb}
use Rattle.std.proofs.lemmas.List.Elements.{All-nil, All-cons, All-set}
use Rattle.greedy_rules.specs.declared.flows.Flow.{Flow}
use Rattle.greedy_rules.specs.Matching.{IsMatching}
use Rattle.greedy_rules.specs.Schedule.{slot_in}
use Rattle.greedy_rules.specs.Slot.{slot_with}
use Rattle.greedy_rules.specs.SlotTable.{destination_of, IsSlotOf}
use Rattle.list_facts.proofs.Pairs.{AllPairs-head, AllPairs-tail}
use Rattle.greedy_rules.proofs.Facts.{IsMatching-slot_with}
use Rattle.clos_topology.specs.Network.{Network, endpoints_of}
use Rattle.greedy_rules.proofs.Facts.{this_source, other_source}
use Rattle.greedy_rules.proofs.SlotLemmas.{Apart}
use Rattle.path_workers.specs.Coloured.{IsFlowOf}

-- each flow's source sends to its destination
sends : (slot : List Flow) → IsMatching slot → All (λ flow. destination_of slot flow.src ≡ Some flow.dst) slot
sends [] matching = All-nil (λ (flow : Flow). destination_of [] flow.src ≡ Some flow.dst)
sends (flow ∷ slot) matching =
    let rest : All (λ g. destination_of slot g.src ≡ Some g.dst) slot = sends slot (AllPairs-tail Apart flow slot matching) in
    let apart : All (Apart flow) slot = AllPairs-head Apart flow slot matching in
    All-cons (λ g. destination_of (flow ∷ slot) g.src ≡ Some g.dst) flow slot (this_source flow.src flow slot (eq-eqb flow.src flow.src refl))
    (λ k d below. other_source (get_or slot k d).src flow slot (ne_eqb _ _ (apart k d below).0) ∙ rest k d below)

pub put_matching : (slots : List (List Flow)) (slot endpoints src dst : ℕ) → slot < length slots → All IsMatching slots → All (IsSlotOf endpoints) slots → destination_of (slot_in slots slot) src ≡ None
    → ((other : ℕ) → other < endpoints → destination_of (slot_in slots slot) other ≢ Some dst)
    → All IsMatching (set slots slot (slot_with (record { src = src; dst = dst }) (slot_in slots slot)))
put_matching slots slot endpoints src dst below matchings each source destination =
    let flows : List Flow = slot_in slots slot in
    let matching : IsMatching flows = matchings slot [] below in
    let within : IsSlotOf endpoints flows = each slot [] below in
    let sent : All (λ flow. destination_of flows flow.src ≡ Some flow.dst) flows = sends flows matching in
    let flow : Flow = record { src = src; dst = dst } in
    All-set IsMatching slots slot (slot_with flow flows)
    (IsMatching-slot_with flow flows (λ k d inside. (
      λ same. let was : None ≡ Some (get_or flows k d).dst = sym source ∙ (ap (destination_of flows) (sym same) ∙ sent k d inside) in absurd (cc),
      λ same. destination (get_or flows k d).src (within.in_range k d inside).0 (sent k d inside ∙ ap (λ (n : ℕ). Some n) same),
    )) matching)
    matchings

pub slots_of_net : (net : Network) (endpoints : ℕ) (slots : List (List Flow)) → endpoints ≡ endpoints_of net → All (IsSlotOf endpoints) slots → All (All (IsFlowOf net)) slots
slots_of_net net endpoints slots same each = λ k d below i e inside. let here = (each k d below).in_range i e inside in (omega (arith, here.0, same), omega (arith, here.1, same))

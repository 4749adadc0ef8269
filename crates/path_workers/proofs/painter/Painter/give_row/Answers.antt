use Rattle.std.proofs.Common.{◌≡◌, ◌+◌, ◌-◌, ◌*◌, ℕ, List, Option, length, true, false, vec_len, sym, ap, ◌∙◌, subst, arith, inl, inr}
use Rattle.std.proofs.lemmas.Bool.{eq-eqb}
use Rattle.greedy_rules.specs.Schedule.{slot_in}
use Rattle.clos_topology.specs.Network.{endpoints_of}
use Rattle.edge_colouring.specs.Cores.{core_in}
use Rattle.path_workers.specs.CoreTable.{NamesNone, core_of}
use Rattle.path_workers.specs.Coloured.{HasItsCores}
use Rattle.path_workers.specs.Painters.{row_at}
use Rattle.path_workers.proofs.RowLemmas.{cores_below, cores_from}
use Rattle.path_workers.proofs.FirstCores.{first_row_names}
use Rattle.path_workers.proofs.PainterLemmas.{both_none, idle_none, found_row, slice_is_row}
use Rattle.path_workers.proofs.painter.Painter.give_row.Goals as goal

pub set_first-requires-clause-src_in_range : goal.set_first-requires-clause-src_in_range
set_first-requires-clause-src_in_range c =
    let may = c.requires.may in
    omega (arith, (found_row may.0 c.args.self.now c.args.slot c.in-Some.place c.index.result.now may.1 may.2 c.index.ensures c.in-Some.is).within, c.requires.endpoint_room, c.if-place-ge-FIRST.true)

-- a row that is there is right
pub returns-then-not-is_empty-clause-row : goal.returns-then-not-is_empty-clause-row
returns-then-not-is_empty-clause-row c slots may rows below has = elim (rows.each c.args.slot below) [
  | inl right ↦ right
  | inr none ↦
      let zero : length c.row.result.now ≡ 0 = ap (λ (row : List (Option ℕ)). length row) (c.row.ensures ∙ none) in
      let no : false ≡ true = sym c.if-not-is_empty.true ∙ (c.is_empty.ensures ∙ eq-eqb (length c.row.result.now) 0 zero) in
      absurd (cc)
]

pub returns-then-place-ge-FIRST-clause-row : goal.returns-then-place-ge-FIRST-clause-row
returns-then-place-ge-FIRST-clause-row c slots may rows below has =
    let painter = c.args.self.now in
    let place : ℕ = c.in-Some.place in
    subst (HasItsCores painter.net (slot_in slots c.args.slot))
    (cores_from (endpoints_of painter.net) place painter.rows.items (omega (arith, c.if-place-ge-FIRST.true)) ∙ (sym (first_row_names c.args.out.now.endpoints (place - 1025)) ∙ ap core_in (sym c.set_first.ensures.own)))
    (found_row slots painter c.args.slot place c.index.result.now may below c.index.ensures c.in-Some.is).cores

pub returns-then-place-len-clause-row : goal.returns-then-place-len-clause-row
returns-then-place-len-clause-row c slots may rows below has =
    let painter = c.args.self.now in
    let place : ℕ = c.in-Some.place in
    let none : NamesNone (row_at painter place) = idle_none painter.net (vec_len painter.places) painter place (omega (arith, c.if-place-len.true, c.len.ensures)) (omega (arith, c.if-place-ge-FIRST.false)) may.painted.sized in
    elim (rows.each c.args.slot below) [
      | inl right ↦ right
      | inr empty ↦
          subst (HasItsCores painter.net (slot_in slots c.args.slot)) (both_none (row_at painter place) (core_of c.args.out.now c.args.slot) none (λ source. ap (λ (row : List (Option ℕ)). core_in row source) empty))
          (found_row slots painter c.args.slot place c.index.result.now may below c.index.ensures c.in-Some.is).cores
    ]

pub returns-clause-row : goal.returns-clause-row
returns-clause-row c slots may rows below has =
    let painter = c.args.self.now in
    let count : ℕ = c.endpoints-endpoints.result in
    let place : ℕ = c.in-Some.place in
    let size : ℕ = place * count + count - place * count in
    let same = slice_is_row (endpoints_of painter.net) count place size painter.rows.items c.deref.result.now c.endpoints-endpoints.ensures.number (omega arith) c.deref.ensures.value in
    subst (HasItsCores painter.net (slot_in slots c.args.slot))
    (cores_below (endpoints_of painter.net) place painter.rows.items (omega (arith, c.if-place-ge-FIRST.false)) ∙ (ap core_in (sym same) ∙ ap core_in (sym c.set.ensures.own)))
    (found_row slots painter c.args.slot place c.index.result.now may below c.index.ensures c.in-Some.is).cores

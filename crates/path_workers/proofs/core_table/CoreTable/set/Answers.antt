use Rattle.std.proofs.Common.{◌≡◌, ◌<◌, ◌≤◌, ◌+◌, ℕ, List, Option, All, length, set, take, count_by, vec_len, sym, ap, ◌∙◌, subst, arith}
use Rattle.std.proofs.lemmas.List.{length-map, length-append}
use Rattle.std.proofs.lemmas.List.Elements.{All-set}
use Rattle.std.proofs.lemmas.Nat.{row_fits}
use Rattle.path_workers.specs.declared.core_table.Place.{Place}
use Rattle.path_workers.specs.CoreTable.{CoreSlots}
use Rattle.path_workers.specs.CoreRows.{row_there, rows_at_places, is_filled, band_len, band}
use Rattle.path_workers.proofs.TableLemmas.{IsWithin, front_stays, rows_with, filled_few, filled_cores, has_set, slot_place, empty_place}
use Rattle.path_workers.proofs.core_table.CoreTable.set.Goals as goal

-- a slot is left without a row, so there is room for one
pub add_row-requires : goal.add_row-requires
add_row-requires c =
    let t = c.self.inside in
    let d : Place = record { from = 0; len = 0 } in
    let below = slot_place t c.args.self.now c.args.slot c.self.view_is c.self.invariant c.requires.slot_in_range in
    let empty = empty_place t c.args.self.now c.args.slot d c.self.view_is c.self.invariant c.requires.slot_in_range c.requires.empty in
    let few : count_by is_filled t.places.items < t.slots = omega (arith, filled_few t.places.items c.args.slot d below empty, c.self.invariant.places, t.places.ok.0) in
    omega (arith, c.self.invariant.few, c.requires.endpoint_room, ap (λ (s : CoreSlots). s.endpoints) c.self.view_is, row_fits (count_by is_filled t.places.items) t.endpoints t.slots t.endpoints few (omega arith), c.self.invariant.core_room)

pub invariant_of-self : goal.invariant_of-self
invariant_of-self c =
    let t = c.self.inside in
    let d : Place = record { from = 0; len = 0 } in
    let place : Place = record { from = c.len.result; len = length c.args.row.now } in
    let below = slot_place t c.args.self.now c.args.slot c.self.view_is c.self.invariant c.requires.slot_in_range in
    let empty = empty_place t c.args.self.now c.args.slot d c.self.view_is c.self.invariant c.requires.slot_in_range c.requires.empty in
    let fits : place.len ≤ t.endpoints = omega (arith, c.requires.endpoint_room, ap (λ (s : CoreSlots). s.endpoints) c.self.view_is) in
    let len : vec_len c.add_row.new.cores ≡ vec_len t.cores + length c.args.row.now = omega (arith, ap (λ (xs : List (Option ℕ)). length xs) c.add_row.ensures.items, length-append t.cores.items c.args.row.now, t.cores.ok.0, c.add_row.new.cores.ok.0) in
    record {
      places = c.self.invariant.places;
      within = All-set (IsWithin (vec_len c.add_row.new.cores)) t.places.items c.args.slot place (omega (arith, len, c.len.ensures)) (λ k e under. omega (arith, len, c.self.invariant.within k e under));
      front = subst (λ (xs : List (Option ℕ)). take (band_len t.endpoints) xs ≡ band t.endpoints) (sym c.add_row.ensures.items) (front_stays t.endpoints t.cores.items c.args.row.now c.self.invariant.front);
      few = omega (arith, len, filled_cores t.places.items c.args.slot place d (band_len t.endpoints) (vec_len t.cores) t.endpoints below empty fits c.self.invariant.few);
      core_room = omega (arith, c.add_row.ensures.capacity, c.self.invariant.core_room);
    }

pub returns : goal.returns
returns c =
    let t = c.self.inside in
    let row : List (Option ℕ) = c.args.row.now in
    let place : Place = record { from = c.len.result; len = length row } in
    let within : All (IsWithin (length t.cores.items)) t.places.items = λ k d under. omega (arith, t.cores.ok.0, c.self.invariant.within k d under) in
    let rows : rows_at_places c.add_row.new.cores.items (set t.places.items c.args.slot place) ≡ set (rows_at_places t.cores.items t.places.items) c.args.slot row =
    ap (λ (xs : List (Option ℕ)). rows_at_places xs (set t.places.items c.args.slot place)) c.add_row.ensures.items
    ∙ rows_with t.cores.items row t.places.items c.args.slot place within (omega (arith, c.len.ensures, t.cores.ok.0)) (omega arith) in
    let Shows : List (List (Option ℕ)) → CoreSlots = λ xs. record { slots = t.slots; endpoints = t.endpoints; rows = xs } in
    let Sets : CoreSlots → CoreSlots = λ s. record s { rows = set s.rows c.args.slot row } in
    has_set c.args.self.now _ c.args.slot row (ap Shows rows ∙ ap Sets c.self.view_is)
    (omega (arith, slot_place t c.args.self.now c.args.slot c.self.view_is c.self.invariant c.requires.slot_in_range, length-map t.places.items (row_there t.cores.items), ap (λ (s : CoreSlots). length s.rows) c.self.view_is))

use Rattle.std.proofs.Common.{◌≡◌, ℕ, List, Option, length, set, vec_len, ap, ◌∙◌, arith}
use Rattle.std.proofs.lemmas.List.{length-map}
use Rattle.std.proofs.lemmas.List.Elements.{All-set}
use Rattle.path_workers.specs.declared.core_table.Place.{Place}
use Rattle.path_workers.specs.CoreTable.{CoreSlots}
use Rattle.path_workers.specs.CoreRows.{first_row, row_there, rows_at_places, band_len}
use Rattle.path_workers.proofs.TableLemmas.{IsWithin, front_fits, rows_with_first, filled_cores, has_set, slot_place, empty_place}
use Rattle.path_workers.proofs.core_table.CoreTable.set_first.Goals as goal

pub invariant_of-self : goal.invariant_of-self
invariant_of-self c =
    let t = c.self.inside in
    let d : Place = record { from = 0; len = 0 } in
    let place : Place = record { from = c.from.result; len = t.endpoints } in
    let below = slot_place t c.args.self.now c.args.slot c.self.view_is c.self.invariant c.requires.slot_in_range in
    let empty = empty_place t c.args.self.now c.args.slot d c.self.view_is c.self.invariant c.requires.slot_in_range c.requires.empty in
    record {
      places = c.self.invariant.places;
      within = All-set (IsWithin (vec_len t.cores)) t.places.items c.args.slot place (omega (arith, c.requires.src_in_range, ap (λ (s : CoreSlots). s.endpoints) c.self.view_is, c.from.ensures, front_fits t.endpoints t.cores.items c.self.invariant.front, t.cores.ok.0)) c.self.invariant.within;
      front = c.self.invariant.front;
      few = omega (arith, filled_cores t.places.items c.args.slot place d (band_len t.endpoints) (vec_len t.cores) t.endpoints below empty (omega arith) c.self.invariant.few);
      core_room = c.self.invariant.core_room;
    }

pub returns : goal.returns
returns c =
    let t = c.self.inside in
    let Stand : ℕ → List (List (Option ℕ)) = λ n. rows_at_places t.cores.items (set t.places.items c.args.slot (record { from = n; len = t.endpoints })) in
    let rows : Stand c.from.result ≡ set (rows_at_places t.cores.items t.places.items) c.args.slot (first_row t.endpoints c.args.src) =
    ap Stand c.from.ensures ∙ rows_with_first t.endpoints c.args.src t.cores.items t.places.items c.args.slot (omega (arith, c.requires.src_in_range, ap (λ (s : CoreSlots). s.endpoints) c.self.view_is)) c.self.invariant.front in
    let Shows : List (List (Option ℕ)) → CoreSlots = λ xs. record { slots = t.slots; endpoints = t.endpoints; rows = xs } in
    let Sets : CoreSlots → CoreSlots = λ s. record s { rows = set s.rows c.args.slot (first_row s.endpoints c.args.src) } in
    has_set c.args.self.now _ c.args.slot (first_row c.args.self.now.endpoints c.args.src) (ap Shows rows ∙ ap Sets c.self.view_is)
    (omega (arith, slot_place t c.args.self.now c.args.slot c.self.view_is c.self.invariant c.requires.slot_in_range, length-map t.places.items (row_there t.cores.items), ap (λ (s : CoreSlots). length s.rows) c.self.view_is))

-- Rows that stand in one list: one more is added behind the others, or is a part of the band in front; the others stay. And how
-- many of them there are.
use Rattle.std.proofs.Common.{◌≡◌, ◌<◌, ◌≤◌, ◌+◌, ◌-◌, ◌*◌, ℕ, zero, suc, List, [], ◌∷◌, ◌++◌, length, get_or, set, take, drop, replicate, count_by, Bool, not, cond, Option, Some, None, All, refl, sym, ap, ◌∙◌, arith, inl, inr}
use Rattle.std.proofs.Math.ListN.{get_or-map}
use Rattle.std.proofs.Math.Seq.{drop-append_seam, take-append-add}
use Rattle.std.proofs.lemmas.Bool.{cases_eq, cases_lt, ne_eqb}
use Rattle.std.proofs.lemmas.List.Sums.{count_by-le-length, sum_by-set}
use Rattle.std.proofs.lemmas.List.{map-set, get_or_past, get_or-replicate, get_or-set_same, get_or-set_other, get_or_default, length-set, length-map, take_all, take-append-le, take-append-drop, take-replicate, drop-append-le, drop-replicate, length-append, length-take, length-drop, length-replicate}
use Rattle.std.proofs.lemmas.List.Elements.{All-head, All-tail}
use Rattle.path_workers.specs.declared.core_table.Place.{Place}
use Rattle.list_facts.proofs.Counting.{one_of}
use Rattle.path_workers.specs.declared.core_table.CoreTable.TheInside.{Inside}
use Rattle.path_workers.specs.CoreTable.{CoreSlots, HasSet, row_of}
use Rattle.path_workers.specs.CoreRows.{AreCoreRows, first_row, row_there, rows_at_places, is_filled, band_len, band}

abbrev pub IsWithin : ℕ → Place → Type 0
IsWithin count place = place.from + place.len ≤ count

-- a row stays where cores are added
row_stays : (cores more : List (Option ℕ)) (place : Place) → IsWithin (length cores) place → row_there (cores ++ more) place ≡ row_there cores place
row_stays cores more place within =
    ap (take place.len) (drop-append-le place.from cores more (omega (arith, within)))
    ∙ take-append-le place.len (drop place.from cores) more (omega (arith, within, length-drop place.from cores))

rows_stay : (cores more : List (Option ℕ)) (places : List Place) → All (IsWithin (length cores)) places → rows_at_places (cores ++ more) places ≡ rows_at_places cores places
rows_stay cores more [] within = refl
rows_stay cores more (place ∷ places) within =
    ap (λ (row : List (Option ℕ)). row ∷ rows_at_places (cores ++ more) places) (row_stays cores more place (All-head (IsWithin (length cores)) place places within))
    ∙ ap (λ (rows : List (List (Option ℕ))). row_there cores place ∷ rows) (rows_stay cores more places (All-tail (IsWithin (length cores)) place places within))

-- the row that is added
row_added : (cores row : List (Option ℕ)) (place : Place) → place.from ≡ length cores → place.len ≡ length row → row_there (cores ++ row) place ≡ row
row_added cores row place from len =
    ap (λ (n : ℕ). take place.len (drop n (cores ++ row))) from
    ∙ (ap (take place.len) (drop-append_seam cores row) ∙ take_all place.len row (omega (arith, len)))

pub rows_with : (cores row : List (Option ℕ)) (places : List Place) (slot : ℕ) (place : Place) → All (IsWithin (length cores)) places → place.from ≡ length cores → place.len ≡ length row
    → rows_at_places (cores ++ row) (set places slot place) ≡ set (rows_at_places cores places) slot row
rows_with cores row places slot place within from len =
    map-set (row_there (cores ++ row)) places slot place
    ∙ (ap (λ (rows : List (List (Option ℕ))). set rows slot (row_there (cores ++ row) place)) (rows_stay cores row places within)
    ∙ ap (set (rows_at_places cores places) slot) (row_added cores row place from len))

-- where each place is empty, no row stands
no_rows : (cores : List (Option ℕ)) (place : Place) (count : ℕ) → place.len ≡ 0 → rows_at_places cores (replicate count place) ≡ replicate count []
no_rows cores place zero empty = refl
no_rows cores place (suc count) empty = λ i. ap (λ (n : ℕ). take n (drop place.from cores)) empty i ∷ no_rows cores place count empty i

none_there : (count slot : ℕ) → get_or {A = List (Option ℕ)} (replicate count []) slot [] ≡ []
none_there count slot = elim (cases_lt slot count) [
  | inl below ↦ get_or-replicate count slot [] [] below
  | inr above ↦ get_or_past (replicate count []) slot [] (omega (arith, above, length-replicate {A = List (Option ℕ)} count []))
]

pub all_empty : (cores : List (Option ℕ)) (places : List Place) (place : Place) (count slot : ℕ) → place.len ≡ 0 → places ≡ replicate count place → get_or (rows_at_places cores places) slot [] ≡ []
all_empty cores places place count slot empty is =
    ap (λ (all : List Place). get_or (rows_at_places cores all) slot []) is ∙ (ap (λ (rows : List (List (Option ℕ))). get_or rows slot []) (no_rows cores place count empty) ∙ none_there count slot)

-- the row of a slot
same_row : (cores : List (Option ℕ)) (places : List Place) (slot : ℕ) (d : Place) → slot < length places → get_or (rows_at_places cores places) slot [] ≡ row_there cores (get_or places slot d)
same_row cores places slot d below =
    get_or_default (rows_at_places cores places) slot [] (row_there cores d) (omega (arith, below, length-map places (row_there cores))) ∙ get_or-map (row_there cores) places slot d

-- where no row stands, its place is empty
empty_there : (cores : List (Option ℕ)) (places : List Place) (slot : ℕ) (d : Place) → All (IsWithin (length cores)) places → slot < length places → get_or (rows_at_places cores places) slot [] ≡ [] → (get_or places slot d).len ≡ 0
empty_there cores places slot d within below empty =
    let place : Place = get_or places slot d in
    let there : row_there cores place ≡ [] = sym (same_row cores places slot d below) ∙ empty in
    omega (arith, within slot d below, ap (λ (xs : List (Option ℕ)). length xs) there, length-take place.len (drop place.from cores), length-drop place.from cores)

-- one more is filled there, so there is room for its row, and all of them have the cores that they need
filled_with : (places : List Place) (slot : ℕ) (place d : Place) → slot < length places → (get_or places slot d).len ≡ 0 → count_by is_filled (set places slot place) ≡ count_by is_filled places + one_of is_filled place
filled_with places slot place d below empty =
    let none : one_of is_filled (get_or places slot d) ≡ 0 = ap (λ (n : ℕ). one_of is_filled (record { from = 0; len = n })) empty in
    omega (arith, sum_by-set (one_of is_filled) places slot place d below, none)

pub filled_few : (places : List Place) (slot : ℕ) (d : Place) → slot < length places → (get_or places slot d).len ≡ 0 → count_by is_filled places < length places
filled_few places slot d below empty =
    let place : Place = record { from = 0; len = 1 } in
    omega (arith, filled_with places slot place d below empty, count_by-le-length is_filled (set places slot place), length-set places slot place)

pub filled_cores : (places : List Place) (slot : ℕ) (place d : Place) (front cores endpoints : ℕ) → slot < length places → (get_or places slot d).len ≡ 0 → place.len ≤ endpoints → cores ≤ front + count_by is_filled places * endpoints
    → cores + place.len ≤ front + count_by is_filled (set places slot place) * endpoints
filled_cores places slot place d front cores endpoints below empty fits few =
    let more = filled_with places slot place d below empty in
    elim (cases_eq place.len 0) [
      | inl none ↦
          let same : one_of is_filled place ≡ 0 = ap (λ (n : ℕ). one_of is_filled (record { from = 0; len = n })) none in
          let count : count_by is_filled (set places slot place) ≡ count_by is_filled places = omega (arith, more, same) in
          omega (arith, few, none, ap (λ (n : ℕ). n * endpoints) count)
      | inr some ↦
          let one : one_of is_filled place ≡ 1 = ap (λ (b : Bool). cond (not b) 1 0) (ne_eqb place.len 0 some) in
          let count : count_by is_filled (set places slot place) ≡ count_by is_filled places + 1 = omega (arith, more, one) in
          omega (arith, few, fits, ap (λ (n : ℕ). n * endpoints) count)
    ]

-- how long the band is, and the cores that begin with it
length_band : (endpoints : ℕ) → length (band endpoints) ≡ band_len endpoints
length_band endpoints =
    let others : List (Option ℕ) = replicate (endpoints - 1) None in
    omega (arith, length-append others (Some 0 ∷ others), length-replicate {A = Option ℕ} (endpoints - 1) None)

pub front_fits : (endpoints : ℕ) (cores : List (Option ℕ)) → take (band_len endpoints) cores ≡ band endpoints → band_len endpoints ≤ length cores
front_fits endpoints cores front = omega (arith, ap (λ (xs : List (Option ℕ)). length xs) front, length_band endpoints, length-take (band_len endpoints) cores)

-- the band stays in front where cores are added
pub front_stays : (endpoints : ℕ) (cores more : List (Option ℕ)) → take (band_len endpoints) cores ≡ band endpoints → take (band_len endpoints) (cores ++ more) ≡ band endpoints
front_stays endpoints cores more front = take-append-le (band_len endpoints) cores more (front_fits endpoints cores front) ∙ front

-- the part of the band that names the first core for one source alone
band_row : (endpoints source : ℕ) → source < endpoints → take endpoints (drop (endpoints - 1 - source) (band endpoints)) ≡ first_row endpoints source
band_row endpoints source lt =
    let after : ℕ = endpoints - 1 - source in
    let others : List (Option ℕ) = replicate (endpoints - 1) None in
    let before : List (Option ℕ) = replicate source None in
    let left : endpoints - 1 - after ≡ source = omega (arith, lt) in
    let count : endpoints ≡ length before + suc after = omega (arith, lt, length-replicate {A = Option ℕ} source None) in
    ap (take endpoints) (drop-append-le after others (Some 0 ∷ others) (omega (arith, length-replicate {A = Option ℕ} (endpoints - 1) None)))
    ∙ (ap (λ (xs : List (Option ℕ)). take endpoints (xs ++ Some 0 ∷ others)) (drop-replicate after (endpoints - 1) None)
    ∙ (ap (λ (n : ℕ). take endpoints (replicate n None ++ Some 0 ∷ others)) left
    ∙ (ap (λ (n : ℕ). take n (before ++ Some 0 ∷ others)) count
    ∙ (take-append-add before (Some 0 ∷ others) (suc after)
    ∙ ap (λ (xs : List (Option ℕ)). before ++ Some 0 ∷ xs) (take-replicate after (endpoints - 1) None (omega arith))))))

-- a row that is added as a part of the band
first_there : (endpoints source : ℕ) (cores : List (Option ℕ)) → source < endpoints → take (band_len endpoints) cores ≡ band endpoints → row_there cores (record { from = endpoints - 1 - source; len = endpoints }) ≡ first_row endpoints source
first_there endpoints source cores lt front =
    let place : Place = record { from = endpoints - 1 - source; len = endpoints } in
    let whole_band : List (Option ℕ) = band endpoints in
    let rest : List (Option ℕ) = drop (band_len endpoints) cores in
    let whole : cores ≡ whole_band ++ rest = sym (take-append-drop (band_len endpoints) cores) ∙ ap (λ (xs : List (Option ℕ)). xs ++ rest) front in
    ap (λ (xs : List (Option ℕ)). row_there xs place) whole
    ∙ (row_stays whole_band rest place (omega (arith, lt, length_band endpoints)) ∙ band_row endpoints source lt)

pub rows_with_first : (endpoints source : ℕ) (cores : List (Option ℕ)) (places : List Place) (slot : ℕ) → source < endpoints → take (band_len endpoints) cores ≡ band endpoints
    → rows_at_places cores (set places slot (record { from = endpoints - 1 - source; len = endpoints })) ≡ set (rows_at_places cores places) slot (first_row endpoints source)
rows_with_first endpoints source cores places slot lt front =
    map-set (row_there cores) places slot (record { from = endpoints - 1 - source; len = endpoints })
    ∙ ap (set (rows_at_places cores places) slot) (first_there endpoints source cores lt front)

-- what contracts see of a table in which one slot has got a row
pub has_set : (old new : CoreSlots) (slot : ℕ) (row : List (Option ℕ)) → new ≡ record old { rows = set old.rows slot row } → slot < length old.rows → HasSet slot row old new
has_set old new slot row is below = record {
  room = record { slots = ap (λ (t : CoreSlots). t.slots) is; endpoints = ap (λ (t : CoreSlots). t.endpoints) is };
  own = ap (λ (t : CoreSlots). row_of t slot) is ∙ get_or-set_same old.rows slot row [] below;
  others = λ other apart. ap (λ (t : CoreSlots). row_of t other) is ∙ get_or-set_other old.rows slot other row [] apart;
}

-- a slot's place, which is empty where the slot has no row
pub slot_place : (t : Inside) (s : CoreSlots) (slot : ℕ) → record { slots = t.slots; endpoints = t.endpoints; rows = rows_at_places t.cores.items t.places.items } ≡ s → AreCoreRows t → slot < s.slots → slot < length t.places.items
slot_place t s slot is rows below = omega (arith, below, ap (λ (v : CoreSlots). v.slots) is, rows.places, t.places.ok.0)

pub empty_place : (t : Inside) (s : CoreSlots) (slot : ℕ) (d : Place) → record { slots = t.slots; endpoints = t.endpoints; rows = rows_at_places t.cores.items t.places.items } ≡ s → AreCoreRows t → slot < s.slots → row_of s slot ≡ [] → (get_or t.places.items slot d).len ≡ 0
empty_place t s slot d is rows below empty =
    empty_there t.cores.items t.places.items slot d (λ k e under. omega (arith, t.cores.ok.0, rows.within k e under)) (slot_place t s slot is rows below) (ap (λ (v : CoreSlots). row_of v slot) is ∙ empty)

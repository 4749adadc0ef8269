-- The rows of a slot table, and the slots that contracts see.
use Rattle.std.proofs.Common.{◌≡◌, ◌≢◌, ◌<◌, ◌≤◌, ◌+◌, ◌-◌, ◌*◌, ◌==◌, ◌&&◌, cond, false, ℕ, zero, suc, List, [], ◌∷◌, ◌++◌, length, get_or, set, replicate, Option, Some, None, IfSome, take, drop, All, refl, sym, ap, ◌∙◌, subst, arith, inl, inr, length-set}
use Rattle.std.specs.Prelude.{filter, is_some, vec_len}
use Rattle.std.specs.List.{slice_get}
use Rattle.std.proofs.lemmas.List.{length-map, get_or-map, length-append, length-replicate, get_or-replicate, ext_get_or, length_push, drop-take, get_or-take, get_or-drop, get_or_past, length-take, length-drop, get_or_default, get_or-set_same, get_or-set_other, same_lists}
use Rattle.std.proofs.lemmas.List.Elements.{All-nil, All-take, All-drop, All-append, All-replicate, All-set}
use Rattle.std.proofs.lemmas.Bool.{cases_eq, cases_lt, cases_order, cases_Bool, cond-true, cond-false, and_parts, and_from, eqb-true, eq-eqb, false≢true}
use Rattle.std.proofs.lemmas.Option.{none-some, same_Some, slice_get_within}
use Rattle.std.proofs.lemmas.Nat.{row_fits, same_from_place, mul-add-lt}
use Rattle.std.proofs.lemmas.Slice.{take-put_mid_below, drop-put_mid, between-put_mid}
use borrow.Rule.Slice.PartMut.{put_mid, set_mid_at}
use Rattle.list_facts.proofs.Lists.{filter-few}
use Rattle.list_facts.proofs.Pairs.{AllPairs-nil}
use Rattle.greedy_rules.specs.declared.flows.Flow.{Flow}
use Rattle.greedy_rules.specs.Slot.{slot_with}
use Rattle.greedy_rules.specs.Schedule.{slot_in}
use Rattle.greedy_rules.specs.declared.rows.Rows.{Rows}
use Rattle.greedy_rules.specs.SlotTable.{flows_from, row_of, flows_at, table_slots, place_at, destination_of, IsSlotOf, AreCells, AreRows, IsTable, slots_of_rows}
use Rattle.greedy_rules.proofs.RowLemmas.{destination-at, flows_from-set, flows_from-idle, slot_of_row}

abbrev pub IsCell : ℕ → Option ℕ → Type 0
IsCell endpoints cell = IfSome cell (λ dst. dst < endpoints)

-- a slot of a table is what its row holds
pub slot_at : (endpoints : ℕ) (cells places : List (Option ℕ)) (slot : ℕ) (d : List Flow) → slot < length places → get_or (table_slots endpoints cells places) slot d ≡ flows_at endpoints cells (place_at places slot)
slot_at endpoints cells places slot d below = get_or-map (flows_at endpoints cells) places slot None d below

-- a place that is read is the one that stands there
pub place_read : (places : List (Option ℕ)) (slot : ℕ) (place : Option ℕ) → slot < length places → place ≡ get_or places slot place → place_at places slot ≡ place
place_read places slot place below is = sym (is ∙ get_or_default places slot place None below)

flows_of_place : (endpoints : ℕ) (cells : List (Option ℕ)) (place : Option ℕ) → AreCells endpoints cells → IsSlotOf endpoints (flows_at endpoints cells place)
flows_of_place endpoints cells None are = record { rising = AllPairs-nil (λ f g. f.src < g.src); in_range = All-nil (λ flow. (flow.src < endpoints) × (flow.dst < endpoints)) }
flows_of_place endpoints cells (Some row) are =
    slot_of_row endpoints (row_of endpoints cells row) (omega (arith, length-take endpoints (drop (row * endpoints) cells)))
    (All-take (IsCell endpoints) endpoints (drop (row * endpoints) cells) (All-drop (IsCell endpoints) (row * endpoints) cells are))

pub slots_of_cells : (endpoints : ℕ) (cells places : List (Option ℕ)) → AreCells endpoints cells → All (IsSlotOf endpoints) (table_slots endpoints cells places)
slots_of_cells endpoints cells places are = λ k d below.
    subst (IsSlotOf endpoints) (sym (slot_at endpoints cells places k d (omega (arith, below, length-map places (flows_at endpoints cells))))) (flows_of_place endpoints cells (place_at places k) are)

-- every row is whole
pub fits : (endpoints count row : ℕ) → row < count → row * endpoints + endpoints ≤ count * endpoints
fits endpoints count row below = row_fits row endpoints count endpoints below (omega arith)

pub length-row : (endpoints count : ℕ) (cells : List (Option ℕ)) (row : ℕ) → row < count → length cells ≡ count * endpoints → length (row_of endpoints cells row) ≡ endpoints
length-row endpoints count cells row below full = omega (arith, length-take endpoints (drop (row * endpoints) cells), length-drop (row * endpoints) cells, fits endpoints count row below)

-- a table that sends nothing
pub empty_table : (endpoints count : ℕ) (cells : List (Option ℕ)) → table_slots endpoints cells (replicate count None) ≡ replicate count []
empty_table endpoints zero cells = refl
empty_table endpoints (suc count) cells = ap (λ (slots : List (List Flow)). [] ∷ slots) (empty_table endpoints count cells)

abbrev pub nobody : Option ℕ
nobody = None

none_counted : (count : ℕ) → length (filter is_some (replicate count nobody)) ≡ 0
none_counted zero = refl
none_counted (suc count) = none_counted count

pub none_placed : (count slot : ℕ) → place_at (replicate count None) slot ≡ None
none_placed zero slot = refl
none_placed (suc count) zero = refl
none_placed (suc count) (suc slot) = none_placed count slot

pub no_rows : (endpoints count cells : ℕ) → cells ≡ count * endpoints → AreRows endpoints (replicate cells None) (replicate count None) []
no_rows endpoints count cells is = record {
  whole = length-replicate cells nobody ∙ (is ∙ ap (λ (n : ℕ). n * endpoints) (sym (length-replicate count nobody)));
  counted = none_counted count;
  owned = λ slot row at. absurd (none-some row (sym (none_placed count slot) ∙ at));
  placed = λ slot row at. absurd (none-some slot at);
  clean = λ at past. none_placed cells at;
  cells_are = All-replicate (IsCell endpoints) cells None tt;
}

-- who has a row is a slot
pub placed_below : (places : List (Option ℕ)) (slot row : ℕ) → place_at places slot ≡ Some row → slot < length places
placed_below [] slot row is = absurd (none-some row is)
placed_below (place ∷ places) zero row is = omega arith
placed_below (place ∷ places) (suc slot) row is = omega (arith, placed_below places slot row is)

-- a row that a slot has is one of those that are given, and there are no more of them than slots
pub row_given : (endpoints slot row : ℕ) (cells places : List (Option ℕ)) (owners : List ℕ) → AreRows endpoints cells places owners → place_at places slot ≡ Some row → (row < length owners) × (length owners ≤ length places)
row_given endpoints slot row cells places owners are is = (slice_get_within owners row slot (are.owned slot row is), omega (arith, are.counted, filter-few is_some places))

-- a slot's row ends within the cells
pub row_ends : (rows : Rows) (slot row : ℕ) → IsTable rows → place_at rows.places.items slot ≡ Some row → row * rows.endpoints + rows.endpoints ≤ vec_len rows.cells
row_ends rows slot row table is =
    let given = row_given rows.endpoints slot row rows.cells.items rows.places.items rows.owners.items table.rows_are is in
    omega (arith, fits rows.endpoints (length rows.places.items) row (omega (arith, given.0, given.1)), table.rows_are.whole, rows.cells.ok.0)

-- a slot without a row leaves room for one
pub one_less : (places : List (Option ℕ)) (slot : ℕ) → slot < length places → place_at places slot ≡ None → length (filter is_some places) < length places
one_less [] slot below none = absurd (omega arith)
one_less (None ∷ places) zero below none = omega (arith, most places)
  where
    most : (xs : List (Option ℕ)) → length (filter is_some xs) ≤ length xs
    most [] = omega arith
    most (None ∷ xs) = omega (arith, most xs)
    most (Some x ∷ xs) = omega (arith, most xs)
one_less (Some row ∷ places) zero below none = absurd (cc)
one_less (None ∷ places) (suc slot) below none = omega (arith, one_less places slot (omega arith) none)
one_less (Some row ∷ places) (suc slot) below none = omega (arith, one_less places slot (omega arith) none)

counted_more : (places : List (Option ℕ)) (slot row : ℕ) → slot < length places → place_at places slot ≡ None → length (filter is_some (set places slot (Some row))) ≡ length (filter is_some places) + 1
counted_more [] slot row below none = absurd (omega arith)
counted_more (None ∷ places) zero row below none = omega arith
counted_more (Some old ∷ places) zero row below none = absurd (cc)
counted_more (None ∷ places) (suc slot) row below none = counted_more places slot row (omega arith) none
counted_more (Some old ∷ places) (suc slot) row below none = omega (arith, counted_more places slot row (omega arith) none)

abbrev no_flow : List Flow
no_flow = []

-- where no row is given, each slot is empty
pub none_given : (endpoints : ℕ) (cells places : List (Option ℕ)) (owners : List ℕ) → AreRows endpoints cells places owners → length owners ≡ 0 → table_slots endpoints cells places ≡ replicate (length places) []
none_given endpoints cells places owners are no_owner =
    ext_get_or [] (table_slots endpoints cells places) (replicate (length places) []) (counts ∙ sym (length-replicate (length places) no_flow)) (λ at below.
    let inside : at < length places = omega (arith, below, counts) in
    slot_at endpoints cells places at [] inside ∙ (empty at (place_at places at) refl ∙ sym (get_or-replicate (length places) at no_flow no_flow inside)))
  where
    counts : length (table_slots endpoints cells places) ≡ length places
    counts = length-map places (flows_at endpoints cells)

    empty : (at : ℕ) (place : Option ℕ) → place ≡ place_at places at → flows_at endpoints cells place ≡ []
    empty at None is = refl
    empty at (Some row) is = absurd (omega (arith, (row_given endpoints at row cells places owners are (sym is)).0, no_owner))

counted_less : (places : List (Option ℕ)) (slot row : ℕ) → place_at places slot ≡ Some row → length (filter is_some (set places slot None)) + 1 ≡ length (filter is_some places)
counted_less [] slot row is = absurd (none-some row is)
counted_less (None ∷ places) zero row is = absurd (none-some row is)
counted_less (Some old ∷ places) zero row is = omega arith
counted_less (None ∷ places) (suc slot) row is = counted_less places slot row is
counted_less (Some old ∷ places) (suc slot) row is = omega (arith, counted_less places slot row is)

pub next_row : (count endpoints : ℕ) → (count + 1) * endpoints ≡ count * endpoints + endpoints
next_row count endpoints = grind arith

-- where one place of a table is written, the others stay
pub place-set : {X : Type 0} (endpoints : ℕ) (cells : List X) (src dst : ℕ) (new other : X) (s d : ℕ) → length cells ≡ endpoints * endpoints → src < endpoints → dst < endpoints → d < endpoints
    → get_or (set cells (src * endpoints + dst) new) (s * endpoints + d) other ≡ cond ((src == s) && (dst == d)) new (get_or cells (s * endpoints + d) other)
place-set endpoints cells src dst new other s d sized in_src in_dst in_d = elim (cases_Bool ((src == s) && (dst == d))) [
  | inl here ↦
      let parts = and_parts (src == s) (dst == d) here in
      let of_src : src ≡ s = eqb-true src s parts.0 in
      let of_dst : dst ≡ d = eqb-true dst d parts.1 in
      let place : s * endpoints + d ≡ src * endpoints + dst = ap (λ (n : ℕ). n * endpoints + d) (sym of_src) ∙ ap (λ (n : ℕ). src * endpoints + n) (sym of_dst) in
      ap (λ (n : ℕ). get_or (set cells (src * endpoints + dst) new) n other) place
      ∙ (get_or-set_same cells (src * endpoints + dst) new other (omega (arith, sized, mul-add-lt src endpoints dst endpoints in_src in_dst))
      ∙ sym (cond-true ((src == s) && (dst == d)) new (get_or cells (s * endpoints + d) other) here))
  | inr elsewhere ↦
      get_or-set_other cells (src * endpoints + dst) (s * endpoints + d) new other (λ same. apart elsewhere (same_from_place s d src dst endpoints in_d in_dst same))
      ∙ sym (cond-false ((src == s) && (dst == d)) new (get_or cells (s * endpoints + d) other) elsewhere)
]
  where
    apart : ((src == s) && (dst == d)) ≡ false → (s ≡ src) × (d ≡ dst) → ⊥
    apart elsewhere same = false≢true (sym elsewhere ∙ and_from (src == s) (dst == d) (eq-eqb src s (sym same.0)) (eq-eqb dst d (sym same.1)))

-- a row as long as the table's: nobody sends in the places behind it
abbrev pub filled : ℕ → List (Option ℕ) → List (Option ℕ)
filled endpoints row = row ++ replicate (endpoints - length row) None

pub filled_long : (endpoints : ℕ) (row : List (Option ℕ)) → length row ≤ endpoints → length (filled endpoints row) ≡ endpoints
filled_long endpoints row whole = omega (arith, length-append row (replicate (endpoints - length row) nobody), length-replicate (endpoints - length row) nobody, whole)

pub filled_cells : (endpoints : ℕ) (row : List (Option ℕ)) → AreCells endpoints row → AreCells endpoints (filled endpoints row)
filled_cells endpoints row cells =
    All-append (IsCell endpoints) row (replicate (endpoints - length row) None) cells (All-replicate (IsCell endpoints) (endpoints - length row) None tt)

pub filled_flows : (endpoints : ℕ) (row : List (Option ℕ)) → flows_from 0 (filled endpoints row) ≡ flows_from 0 row
filled_flows endpoints row = flows_from-idle 0 (endpoints - length row) row

-- a row in which nobody sends has no flows
pub idle_flows : (src : ℕ) (cells : List (Option ℕ)) → ((place : ℕ) → get_or cells place None ≡ None) → flows_from src cells ≡ []
idle_flows src [] idle = refl
idle_flows src (None ∷ cells) idle = idle_flows (src + 1) cells (λ place. idle (suc place))
idle_flows src (Some dst ∷ cells) idle = absurd (none-some dst (sym (idle 0)))

-- a cell of a row, where the table's cells from its first on hold nothing
idle_row : (endpoints row : ℕ) (cells : List (Option ℕ)) → ((at : ℕ) → row * endpoints ≤ at → get_or cells at None ≡ None) → (place : ℕ) → get_or (row_of endpoints cells row) place None ≡ None
idle_row endpoints row cells clean place = elim (cases_lt place endpoints) [
  | inl within ↦ get_or-take endpoints (drop (row * endpoints) cells) place None within ∙ (get_or-drop (row * endpoints) cells place None ∙ clean (row * endpoints + place) (omega arith))
  | inr past ↦ get_or_past (row_of endpoints cells row) place None (omega (arith, past, length-take endpoints (drop (row * endpoints) cells)))
]

-- where a slot is given another place that has no flows either, the slots are the same
same_slots : (endpoints slot : ℕ) (cells places : List (Option ℕ)) (place : Option ℕ) → slot < length places → flows_at endpoints cells place ≡ [] → flows_at endpoints cells (place_at places slot) ≡ []
    → table_slots endpoints cells (set places slot place) ≡ table_slots endpoints cells places
same_slots endpoints slot cells places place below empty was =
    let new : List (List Flow) = table_slots endpoints cells (set places slot place) in
    let long : length (set places slot place) ≡ length places = length-set places slot place in
    let many : length new ≡ length places = length-map (set places slot place) (flows_at endpoints cells) ∙ long in
    same_lists new (table_slots endpoints cells places) (omega (arith, many, length-map places (flows_at endpoints cells))) (λ at d inside.
    let within : at < length places = omega (arith, inside, many) in
    slot_at endpoints cells (set places slot place) at d (omega (arith, within, long))
    ∙ (elim (cases_eq at slot) [
      | inl same ↦
          ap (λ (n : ℕ). flows_at endpoints cells (place_at (set places slot place) n)) same
          ∙ (ap (flows_at endpoints cells) (get_or-set_same places slot place None below)
          ∙ (empty ∙ (sym was ∙ ap (λ (n : ℕ). flows_at endpoints cells (place_at places n)) (sym same))))
      | inr other ↦ ap (flows_at endpoints cells) (get_or-set_other places slot at place None other)
    ]
    ∙ sym (slot_at endpoints cells places at d within)))

got_before : (xs : List ℕ) (y i : ℕ) → i < length xs → slice_get (xs ++ y ∷ []) i ≡ slice_get xs i
got_before [] y i below = absurd (omega (arith, below))
got_before (x ∷ xs) y zero below = refl
got_before (x ∷ xs) y (suc i) below = got_before xs y i (omega (arith, below))

got_last : (xs : List ℕ) (y : ℕ) → slice_get (xs ++ y ∷ []) (length xs) ≡ Some y
got_last [] y = refl
got_last (x ∷ xs) y = got_last xs y

got_taken : (xs : List ℕ) (n i : ℕ) → i < n → slice_get (take n xs) i ≡ slice_get xs i
got_taken [] zero i below = refl
got_taken [] (suc n) i below = refl
got_taken (x ∷ xs) zero i below = absurd (omega (arith, below))
got_taken (x ∷ xs) (suc n) zero below = refl
got_taken (x ∷ xs) (suc n) (suc i) below = got_taken xs n i (omega (arith, below))

-- a slot without a row is given the first that no slot has
module _ (endpoints slot : ℕ) (cells places : List (Option ℕ)) (owners : List ℕ) (are : AreRows endpoints cells places owners) (below : slot < length places) (none : place_at places slot ≡ None) where
  abbrev given : List (Option ℕ)
  given = set places slot (Some (length owners))

  given_place : place_at given slot ≡ Some (length owners)
  given_place = get_or-set_same places slot (Some (length owners)) None below

  other_place : (at : ℕ) → at ≢ slot → place_at given at ≡ place_at places at
  other_place at other = get_or-set_other places slot at (Some (length owners)) None other

  pub given_slots : table_slots endpoints cells given ≡ table_slots endpoints cells places
  given_slots = same_slots endpoints slot cells places (Some (length owners)) below (idle_flows 0 (row_of endpoints cells (length owners)) (idle_row endpoints (length owners) cells are.clean)) (ap (flows_at endpoints cells) none)

  pub given_rows : AreRows endpoints cells given (owners ++ slot ∷ [])
  given_rows = record {
    whole = are.whole ∙ ap (λ (n : ℕ). n * endpoints) (sym (length-set places slot (Some (length owners))));
    counted = omega (arith, counted_more places slot (length owners) below none, are.counted, length_push owners slot);
    owned = λ at row is. elim (cases_eq at slot) [
      | inl same ↦
          let newest : length owners ≡ row = same_Some (length owners) row (sym given_place ∙ (ap (place_at given) (sym same) ∙ is)) in
          ap (slice_get (owners ++ slot ∷ [])) (sym newest) ∙ (got_last owners slot ∙ ap (λ (n : ℕ). Some n) (sym same))
      | inr other ↦
          let had = are.owned at row (sym (other_place at other) ∙ is) in
          got_before owners slot row (slice_get_within owners row at had) ∙ had
    ];
    placed = λ at row is. elim (cases_lt row (length owners)) [
      | inl before ↦
          let had : place_at places at ≡ Some row = are.placed at row (sym (got_before owners slot row before) ∙ is) in
          other_place at (λ same. none-some row (sym none ∙ (ap (place_at places) (sym same) ∙ had))) ∙ had
      | inr after ↦
          let newest : row ≡ length owners = omega (arith, after, slice_get_within (owners ++ slot ∷ []) row at is, length_push owners slot) in
          let same : slot ≡ at = same_Some slot at (sym (got_last owners slot) ∙ (ap (slice_get (owners ++ slot ∷ [])) (sym newest) ∙ is)) in
          ap (place_at given) (sym same) ∙ (given_place ∙ ap (λ (n : ℕ). Some n) (sym newest))
    ];
    clean = λ at past. are.clean at (omega (arith, past, ap (λ (n : ℕ). n * endpoints) (length_push owners slot), next_row (length owners) endpoints));
    cells_are = are.cells_are;
  }

-- the slot that was given its row last gives it back, in which nobody sends
module _ (endpoints slot row : ℕ) (cells places : List (Option ℕ)) (owners : List ℕ) (are : AreRows endpoints cells places owners) (is : place_at places slot ≡ Some row) (last : row + 1 ≡ length owners) (idle : (place : ℕ) → get_or (row_of endpoints cells row) place None ≡ None) where
  abbrev freed : List (Option ℕ)
  freed = set places slot None

  place_kept : (at : ℕ) → at ≢ slot → place_at freed at ≡ place_at places at
  place_kept at other = get_or-set_other places slot at None None other

  pub freed_slots : table_slots endpoints cells freed ≡ table_slots endpoints cells places
  freed_slots = same_slots endpoints slot cells places None (placed_below places slot row is) refl (ap (flows_at endpoints cells) is ∙ idle_flows 0 (row_of endpoints cells row) idle)

  pub freed_rows : AreRows endpoints cells freed (take row owners)
  freed_rows = record {
    whole = are.whole ∙ ap (λ (n : ℕ). n * endpoints) (sym (length-set places slot None));
    counted = omega (arith, counted_less places slot row is, are.counted, last, length-take row owners);
    owned = λ at other is_other. elim (cases_eq at slot) [
      | inl same ↦ absurd (none-some other (sym (get_or-set_same places slot None None (placed_below places slot row is)) ∙ (ap (place_at freed) (sym same) ∙ is_other)))
      | inr apart ↦
          let had = are.owned at other (sym (place_kept at apart) ∙ is_other) in
          let within : other < length owners = slice_get_within owners other at had in
          let differs : other ≢ row = λ same. apart (same_Some at slot (sym had ∙ (ap (slice_get owners) same ∙ are.owned slot row is))) in
          got_taken owners row other (omega (arith, within, last, differs)) ∙ had
    ];
    placed = λ at other is_other.
        let before : other < row = omega (arith, slice_get_within (take row owners) other at is_other, length-take row owners) in
        let had : place_at places at ≡ Some other = are.placed at other (sym (got_taken owners row other before) ∙ is_other) in
        place_kept at (λ same. absurd (omega (arith, before, same_Some other row (sym had ∙ (ap (place_at places) same ∙ is))))) ∙ had;
    clean = λ at past. elim (cases_lt at (row * endpoints + endpoints)) [
      | inl within ↦
          let place : ℕ = at - row * endpoints in
          let short : length (take row owners) ≡ row = omega (arith, length-take row owners, last) in
          let from : row * endpoints + place ≡ at = omega (arith, past, ap (λ (n : ℕ). n * endpoints) short) in
          ap (λ (n : ℕ). get_or cells n None) (sym from)
          ∙ (sym (get_or-take endpoints (drop (row * endpoints) cells) place None (omega (arith, within, from)) ∙ get_or-drop (row * endpoints) cells place None) ∙ idle place)
      | inr after ↦ are.clean at (omega (arith, after, ap (λ (n : ℕ). n * endpoints) (sym last), next_row row endpoints))
    ];
    cells_are = are.cells_are;
  }

-- a row that is written: it holds what was written, and the others what they had
row_same : (endpoints row k : ℕ) (cells new : List (Option ℕ)) → k ≡ endpoints → length new ≡ endpoints → row * endpoints ≤ length cells → row_of endpoints (put_mid (row * endpoints) k cells new) row ≡ new
row_same endpoints row k cells new size whole within =
    let from : ℕ = row * endpoints in
    let count : endpoints ≡ (from + endpoints) - from = omega arith in
    ap (λ (n : ℕ). take n (drop from (put_mid from k cells new))) count ∙ between-put_mid from k cells new (from + endpoints) within (omega (arith, whole))

row_other : (endpoints row k at : ℕ) (cells new : List (Option ℕ)) → k ≡ endpoints → length new ≡ endpoints → row * endpoints ≤ length cells → at ≢ row
    → row_of endpoints (put_mid (row * endpoints) k cells new) at ≡ row_of endpoints cells at
row_other endpoints row k at cells new size whole within other =
    let from : ℕ = row * endpoints in
    let place : ℕ = at * endpoints in
    elim (cases_order at row) [
      | inl same ↦ absurd (other same)
      | inr (inl before) ↦
          let below : place + endpoints ≤ from = fits endpoints row at before in
          sym (drop-take place endpoints (put_mid from k cells new))
          ∙ (ap (drop place) (take-put_mid_below from k cells new (place + endpoints) below within) ∙ drop-take place endpoints cells)
      | inr (inr after) ↦
          let above : from + endpoints ≤ place = fits endpoints at row after in
          ap (take endpoints) (drop-put_mid from k cells new place (omega (arith, above, size)) within (omega (arith, whole, size)))
    ]

-- a slot's row is written, and with it the slot
module _ (endpoints slot row k : ℕ) (cells places new : List (Option ℕ)) (owners : List ℕ) (are : AreRows endpoints cells places owners) (below : slot < length places) (is : place_at places slot ≡ Some row) (size : k ≡ endpoints) (whole : length new ≡ endpoints) where
  here : row * endpoints + endpoints ≤ length cells
  here =
      let given = row_given endpoints slot row cells places owners are is in
      omega (arith, fits endpoints (length places) row (omega (arith, given.0, given.1)), are.whole)

  kept_row : (at : ℕ) → at ≢ slot → (place : Option ℕ) → place ≡ place_at places at → flows_at endpoints (put_mid (row * endpoints) k cells new) place ≡ flows_at endpoints cells place
  kept_row at other None named = refl
  kept_row at other (Some there) named = ap (flows_from 0) (row_other endpoints row k there cells new size whole (omega (arith, here)) (λ same. other (same_Some at slot (sym (are.owned at row (sym named ∙ ap Some same)) ∙ are.owned slot row is))))

  pub written_slots : table_slots endpoints (put_mid (row * endpoints) k cells new) places ≡ set (table_slots endpoints cells places) slot (flows_from 0 new)
  written_slots =
      let old : List (List Flow) = table_slots endpoints cells places in
      let flows : List Flow = flows_from 0 new in
      let now : List (Option ℕ) = put_mid (row * endpoints) k cells new in
      let counts : length old ≡ length places = length-map places (flows_at endpoints cells) in
      same_lists (table_slots endpoints now places) (set old slot flows) (omega (arith, counts, length-map places (flows_at endpoints now), length-set old slot flows)) (λ at d inside.
      let within : at < length places = omega (arith, inside, length-map places (flows_at endpoints now)) in
      slot_at endpoints now places at d within
      ∙ elim (cases_eq at slot) [
        | inl same ↦
            ap (flows_at endpoints now) (ap (place_at places) same ∙ is)
            ∙ (ap (flows_from 0) (row_same endpoints row k cells new size whole (omega (arith, here)))
            ∙ sym (ap (λ (n : ℕ). get_or (set old slot flows) n d) same ∙ get_or-set_same old slot flows d (omega (arith, counts, below))))
        | inr other ↦ kept_row at other (place_at places at) refl ∙ sym (get_or-set_other old slot at flows d other ∙ slot_at endpoints cells places at d within)
      ])

  pub written_rows : length (put_mid (row * endpoints) k cells new) ≡ length cells → AreCells endpoints new → AreRows endpoints (put_mid (row * endpoints) k cells new) places owners
  written_rows long new_cells = record {
    whole = long ∙ are.whole;
    counted = are.counted;
    owned = are.owned;
    placed = are.placed;
    clean = λ at past.
        let now : List (Option ℕ) = put_mid (row * endpoints) k cells new in
        let plain : at + 0 ≡ at = omega arith in
        let given = row_given endpoints slot row cells places owners are is in
        ap (λ (n : ℕ). get_or now n None) (sym plain)
        ∙ (sym (get_or-drop at now 0 None)
        ∙ (ap (λ (xs : List (Option ℕ)). get_or xs 0 None) (drop-put_mid (row * endpoints) k cells new at (omega (arith, past, fits endpoints (length owners) row given.0, size)) (omega (arith, here)) (omega (arith, whole, size)))
        ∙ (get_or-drop at cells 0 None ∙ (ap (λ (n : ℕ). get_or cells n None) plain ∙ are.clean at past))));
    cells_are = All-append (IsCell endpoints) (take (row * endpoints) cells) _ (All-take (IsCell endpoints) (row * endpoints) cells are.cells_are)
        (All-append (IsCell endpoints) new (drop k (drop (row * endpoints) cells)) new_cells
        (All-drop (IsCell endpoints) k (drop (row * endpoints) cells) (All-drop (IsCell endpoints) (row * endpoints) cells are.cells_are)));
  }

-- the cells of a table, where a slot's row is written
module _ (rows : Rows) (slot row from k : ℕ) (held new given : List (Option ℕ)) (table : IsTable rows) (below : slot < length rows.places.items) (is : place_at rows.places.items slot ≡ Some row)
    (first : from ≡ row * rows.endpoints) (size : k ≡ rows.endpoints) (had : held ≡ rows.cells.items) (is_new : new ≡ given) (whole : length given ≡ rows.endpoints) where
  cells_now : put_mid from k held new ≡ put_mid (row * rows.endpoints) k rows.cells.items given
  cells_now = ap (λ (n : ℕ). put_mid n k held new) first ∙ (ap (λ (xs : List (Option ℕ)). put_mid (row * rows.endpoints) k xs new) had ∙ ap (put_mid (row * rows.endpoints) k rows.cells.items) is_new)

  first_below : row * rows.endpoints + rows.endpoints ≤ length rows.cells.items
  first_below = omega (arith, row_ends rows slot row table is, rows.cells.ok.0)

  pub row_now : (now : List (Option ℕ)) → now ≡ put_mid from k held new → row_of rows.endpoints now row ≡ given
  row_now now wrote =
      ap (λ (xs : List (Option ℕ)). row_of rows.endpoints xs row) (wrote ∙ cells_now)
      ∙ row_same rows.endpoints row k rows.cells.items given size whole (omega (arith, first_below))

  pub rows_now : (now : List (Option ℕ)) → now ≡ put_mid from k held new → length now ≡ vec_len rows.cells → AreCells rows.endpoints given → AreRows rows.endpoints now rows.places.items rows.owners.items
  rows_now now wrote long cells =
      subst (λ (xs : List (Option ℕ)). AreRows rows.endpoints xs rows.places.items rows.owners.items) (sym (wrote ∙ cells_now))
      (written_rows rows.endpoints slot row k rows.cells.items rows.places.items given rows.owners.items table.rows_are below is size whole
      (omega (arith, long, ap length wrote, ap length cells_now, rows.cells.ok.0)) cells)

  pub slots_now : (now : List (Option ℕ)) → now ≡ put_mid from k held new → table_slots rows.endpoints now rows.places.items ≡ set (slots_of_rows rows) slot (flows_from 0 given)
  slots_now now wrote =
      ap (λ (xs : List (Option ℕ)). table_slots rows.endpoints xs rows.places.items) (wrote ∙ cells_now)
      ∙ written_slots rows.endpoints slot row k rows.cells.items rows.places.items given rows.owners.items table.rows_are below is size whole

-- a destination is written where the source sends nothing
pub put_is : (endpoints slot row src dst : ℕ) (cells places : List (Option ℕ)) (owners : List ℕ) → AreRows endpoints cells places owners → slot < length places → place_at places slot ≡ Some row → src < endpoints
    → destination_of (slot_in (table_slots endpoints cells places) slot) src ≡ None
    → table_slots endpoints (set cells (row * endpoints + src) (Some dst)) places
    ≡ set (table_slots endpoints cells places) slot (slot_with (record { src = src; dst = dst }) (slot_in (table_slots endpoints cells places) slot))
put_is endpoints slot row src dst cells places owners are below is here free =
    let held = row_of endpoints cells row in
    let slots : List (List Flow) = table_slots endpoints cells places in
    let given = row_given endpoints slot row cells places owners are is in
    let whole : length held ≡ endpoints = length-row endpoints (length places) cells row (omega (arith, given.0, given.1)) are.whole in
    let seen : slot_in slots slot ≡ flows_from 0 held = slot_at endpoints cells places slot [] below ∙ ap (flows_at endpoints cells) is in
    let empty : get_or held src None ≡ None =
    sym (destination-at 0 src src held (omega arith)) ∙ (ap (λ (flows : List Flow). destination_of flows src) (sym seen) ∙ free) in
    ap (λ (xs : List (Option ℕ)). table_slots endpoints xs places) (sym (set_mid_at (row * endpoints) endpoints src cells (Some dst) (omega (arith, whole))))
    ∙ (written_slots endpoints slot row endpoints cells places (set held src (Some dst)) owners are below is refl (length-set held src (Some dst) ∙ whole)
    ∙ ap (set slots slot) (flows_from-set 0 src src dst held (omega arith) (omega (arith, whole)) empty ∙ ap (slot_with (record { src = src; dst = dst })) (sym seen)))

pub put_rows : (endpoints at dst : ℕ) (cells places : List (Option ℕ)) (owners : List ℕ) → AreRows endpoints cells places owners → at < length owners * endpoints → dst < endpoints → AreRows endpoints (set cells at (Some dst)) places owners
put_rows endpoints at dst cells places owners are within below = record {
  whole = length-set cells at (Some dst) ∙ are.whole;
  counted = are.counted;
  owned = are.owned;
  placed = are.placed;
  clean = λ other past. get_or-set_other cells at other (Some dst) None (λ same. absurd (omega (arith, same, past, within))) ∙ are.clean other past;
  cells_are = All-set (IsCell endpoints) cells at (Some dst) below are.cells_are;
}

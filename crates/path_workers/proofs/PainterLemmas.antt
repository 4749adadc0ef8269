-- A painter's rows: which have the cores of a slot, and what changes where one is written.
use Rattle.std.proofs.Common.{◌≡◌, ◌≢◌, ◌<◌, ◌≤◌, ◌+◌, ◌*◌, ℕ, List, [], ◌∷◌, ◌++◌, length, get_or, set, take, drop, count_by, IsTrue, is_some, Option, Some, None, Vec, vec_len, vec_capacity, sym, ap, ◌∙◌, subst, arith, inl, inr}
use borrow.Rule.Slice.PartMut.{put_mid, same_len_mid}
use Rattle.std.specs.Vec.{with_items}
use Rattle.std.proofs.Math.Nat.{mul-le-mul_left}
use Rattle.std.proofs.Math.Path.{fun_ext}
use Rattle.std.proofs.lemmas.Bool.{cases_eq, cases_lt}
use Rattle.std.proofs.lemmas.List.{get_or_past, get_or_default, get_or-set_same, get_or-set_other, length-set, length-take, length-drop, length_push, with_items_is}
use Rattle.std.proofs.lemmas.List.Elements.{All-push, Contains-append_left, Contains-append_right}
use Rattle.std.proofs.lemmas.List.Sums.{count_by-le-length, sum_by-set}
use Rattle.list_facts.proofs.Counting.{one_of}
use Rattle.greedy_rules.specs.declared.flows.Flow.{Flow}
use Rattle.greedy_rules.specs.Schedule.{slot_in}
use Rattle.clos_topology.specs.Network.{Network, endpoints_of}
use Rattle.clos_topology.specs.Links.{CoreOf}
use Rattle.clos_topology.specs.RackGraph.{rack_edges}
use Rattle.edge_colouring.specs.Colouring.{IsColouring, EveryColouringMakesAMatchingClean}
use Rattle.edge_colouring.specs.Cores.{core_in}
use Rattle.path_workers.specs.declared.painter.Painter.{Painter}
use Rattle.path_workers.specs.CoreTable.{NamesNone}
use Rattle.path_workers.specs.Coloured.{HasItsCores}
use Rattle.path_workers.proofs.RowLemmas.{cores_below, cores_from, row_same, row_other}
use Rattle.path_workers.specs.Painters.{AreColourable, cores_place, cores_row, cores_at, row_at, IsPainter, HasRow, AreListed, HasPainted, MayPaint}

-- a part of the rows that is a row
pub slice_is_row : (endpoints count place k : ℕ) (cores part : List (Option ℕ)) → count ≡ endpoints → k ≡ count → part ≡ cores → take k (drop (place * count) part) ≡ cores_row endpoints cores place
slice_is_row endpoints count place k cores part same size from = λ i. take ((size ∙ same) i) (drop (place * same i) (from i))

-- past the rows no core is named
row_behind : (endpoints place : ℕ) (cores : List (Option ℕ)) → length cores ≤ place * endpoints → NamesNone (core_in (cores_row endpoints cores place))
row_behind endpoints place cores behind source = get_or_past (cores_row endpoints cores place) source None (omega (arith, behind, length-take endpoints (drop (place * endpoints) cores), length-drop (place * endpoints) cores))

-- a worker's place past the rows
pub idle_none : (net : Network) (room : ℕ) (painter : Painter) (place : ℕ) → room ≤ place → place < 1025 → IsPainter net room painter → NamesNone (row_at painter place)
idle_none net room painter place past low sized source =
    let rows : vec_len painter.rows ≡ room * endpoints_of painter.net = sized.rows ∙ ap (λ (n : Network). room * endpoints_of n) (sym sized.same_net) in
    ap (λ (named : CoreOf). named source) (cores_below (endpoints_of painter.net) place painter.rows.items low)
    ∙ row_behind (endpoints_of painter.net) place painter.rows.items (omega (arith, rows, painter.rows.ok.0, mul-le-mul_left (endpoints_of painter.net) past)) source

-- a slot without packets between racks needs no core
pub idle_row : (net : Network) (room : ℕ) (slots : List (List Flow)) (painter : Painter) (slot : ℕ) → EveryColouringMakesAMatchingClean → IsPainter net room painter → AreColourable net room slots
    → slot < length slots → rack_edges net.hosts (slot_in slots slot) ≡ [] → HasRow net room slots painter slot 1024
idle_row net room slots painter slot clean sized colourable below idle =
    let nothing : NamesNone (row_at painter 1024) = idle_none net room painter 1024 sized.few (omega arith) sized in
    let none : IsColouring net.cores [] (row_at painter 1024) = record {
      named = λ k d under. absurd (omega (arith, under));
      proper = λ i j d lt under. absurd (omega (arith, under));
      others = λ source apart. nothing source;
    } in
    record {
      same = λ lt. absurd (omega (arith, lt, sized.few));
      within = omega arith;
      cores = record {
        clean = clean net.hosts net.cores [] (row_at painter 1024) none (slot_in slots slot) (colourable.matchings slot [] below) (sym idle);
        others = λ source apart. nothing source;
      };
    }

-- rows that name no core are alike
pub both_none : (one other : CoreOf) → NamesNone one → NamesNone other → one ≡ other
both_none one other a b = fun_ext (λ source. a source ∙ sym (b source))

-- as long as before
length_put : (from k : ℕ) (cores row : List (Option ℕ)) → length row ≡ k → from + k ≤ length cores → length (put_mid from k cores row) ≡ length cores
length_put from k cores row size fits = same_len_mid from k cores row (omega (arith, size, fits, length-take k (drop from cores), length-drop from cores))

-- a row that is written into a table, and the others
pub written_row : {Z : Type 0} (endpoints count slot k : ℕ) (rows : Vec (Option ℕ) Z) (old row : List (Option ℕ)) → count ≡ endpoints → old ≡ rows.items → k ≡ count → length row ≡ count → slot * count + count ≤ length old → slot < 1025
    → cores_at endpoints (with_items rows (put_mid (slot * count) k old row)).items slot ≡ core_in row
written_row endpoints count slot k rows old row same from size whole fits low =
    let put : List (Option ℕ) = put_mid (slot * count) k old row in
    let len : length put ≡ rows.len = omega (arith, length_put (slot * count) k old row (omega (arith, whole, size)) (omega (arith, fits, size)), ap (λ (xs : List (Option ℕ)). length xs) from, rows.ok.0) in
    cores_below endpoints slot (with_items rows put).items low
    ∙ (ap (λ (xs : List (Option ℕ)). core_in (cores_row endpoints xs slot)) (with_items_is rows put len)
    ∙ (ap (λ (n : ℕ). core_in (cores_row n put slot)) (sym same)
    ∙ ap core_in (row_same count slot k old row size whole (omega (arith, fits)))))

other_cells : {Z : Type 0} (endpoints count slot k place : ℕ) (rows : Vec (Option ℕ) Z) (old row : List (Option ℕ)) → count ≡ endpoints → old ≡ rows.items → k ≡ count → length row ≡ count → slot * count + count ≤ length old → place ≢ slot
    → core_in (cores_row endpoints rows.items place) ≡ core_in (cores_row endpoints (with_items rows (put_mid (slot * count) k old row)).items place)
other_cells endpoints count slot k place rows old row same from size whole fits other =
    let put : List (Option ℕ) = put_mid (slot * count) k old row in
    let len : length put ≡ rows.len = omega (arith, length_put (slot * count) k old row (omega (arith, whole, size)) (omega (arith, fits, size)), ap (λ (xs : List (Option ℕ)). length xs) from, rows.ok.0) in
    ap (λ (xs : List (Option ℕ)). core_in (cores_row endpoints xs place)) (sym from)
    ∙ (ap (λ (n : ℕ). core_in (cores_row n old place)) (sym same)
    ∙ (ap core_in (sym (row_other count slot k place old row size whole (omega (arith, fits)) other))
    ∙ (ap (λ (n : ℕ). core_in (cores_row n put place)) same
    ∙ ap (λ (xs : List (Option ℕ)). core_in (cores_row endpoints xs place)) (sym (with_items_is rows put len)))))

pub other_row : {Z : Type 0} (endpoints count slot k place : ℕ) (rows : Vec (Option ℕ) Z) (old row : List (Option ℕ)) → count ≡ endpoints → old ≡ rows.items → k ≡ count → length row ≡ count → slot * count + count ≤ length old → place ≢ slot
    → cores_at endpoints rows.items place ≡ cores_at endpoints (with_items rows (put_mid (slot * count) k old row)).items place
other_row endpoints count slot k place rows old row same from size whole fits other =
    let new : List (Option ℕ) = (with_items rows (put_mid (slot * count) k old row)).items in
    elim (cases_lt place 1025) [
      | inl low ↦ cores_below endpoints place rows.items low ∙ (other_cells endpoints count slot k place rows old row same from size whole fits other ∙ sym (cores_below endpoints place new low))
      | inr high ↦ cores_from endpoints place rows.items high ∙ sym (cores_from endpoints place new high)
    ]

-- slots that are listed, where a worker's places and list stay
same_listed : (count : ℕ) (p q : Painter) → q.places ≡ p.places → q.made ≡ p.made → AreListed count p.places.items p.made.items → AreListed count q.places.items q.made.items
same_listed count p q same_places same_made listed =
    subst (λ (places : List (Option ℕ)). AreListed count places q.made.items) (ap (λ (v : _). v.items) (sym same_places))
    (subst (λ (made : List ℕ). AreListed count p.places.items made) (ap (λ (v : _). v.items) (sym same_made)) listed)

-- where nothing but the graph changed
pub regraphed : (net : Network) (room : ℕ) (slots : List (List Flow)) (p q : Painter) → HasPainted net room slots p → q.net ≡ p.net → q.table ≡ p.table → q.graph.room ≡ p.graph.room → q.places ≡ p.places → q.made ≡ p.made → q.rows ≡ p.rows → HasPainted net room slots q
regraphed net room slots p q painted same_net same_table same_room same_places same_made same_rows =
    let rows_same : (place : ℕ) → row_at p place ≡ row_at q place = λ place. ap (λ (n : ℕ). cores_at n p.rows.items place) (ap endpoints_of (sym same_net)) ∙ ap (λ (v : _). cores_at (endpoints_of q.net) v.items place) (sym same_rows) in
    let s = painted.sized in
    record {
      sized = record {
        few = s.few;
        same_net = same_net ∙ s.same_net;
        table = ap (λ (t : _). t.net) same_table ∙ s.table;
        graph = omega (arith, s.graph, same_room);
        places = ap (λ (v : _). vec_len v) same_places ∙ s.places;
        made = omega (arith, s.made, ap (λ (v : _). vec_capacity v) same_made);
        rows = ap (λ (v : _). vec_len v) same_rows ∙ s.rows;
      };
      rows = λ slot place below is.
          let old = painted.rows slot place below (ap (λ (v : _). get_or v.items slot None) (sym same_places) ∙ is) in
          record { same = old.same; within = old.within; cores = subst (HasItsCores net (slot_in slots slot)) (rows_same place) old.cores };
      listed = same_listed (length slots) p q same_places same_made painted.listed;
    }

-- where a slot's own row was written, with its cores
pub repainted : (net : Network) (room : ℕ) (slots : List (List Flow)) (p q : Painter) (slot : ℕ) → HasPainted net room slots p → slot < room → q.net ≡ net → q.table.net ≡ net → endpoints_of net ≤ q.graph.room → q.places ≡ p.places → q.made ≡ p.made → vec_len q.rows ≡ vec_len p.rows
    → HasItsCores net (slot_in slots slot) (row_at q slot) → ((place : ℕ) → place ≢ slot → row_at p place ≡ row_at q place) → HasPainted net room slots q
repainted net room slots p q slot painted within same_net table graph same_places same_made len written others =
    let s = painted.sized in
    record {
      sized = record {
        few = s.few;
        same_net = same_net;
        table = table;
        graph = graph;
        places = ap (λ (v : _). vec_len v) same_places ∙ s.places;
        made = omega (arith, s.made, ap (λ (v : _). vec_capacity v) same_made);
        rows = len ∙ s.rows;
      };
      rows = λ other place below is.
          let old = painted.rows other place below (ap (λ (v : _). get_or v.items other None) (sym same_places) ∙ is) in
          record {
            same = old.same;
            within = old.within;
            cores = elim (cases_eq place slot) [
              | inl here ↦
                  let same : slot_in slots slot ≡ slot_in slots other = ap (slot_in slots) (sym here) ∙ old.same (omega (arith, here, within)) in
                  subst (λ (k : ℕ). HasItsCores net (slot_in slots other) (row_at q k)) (sym here) (subst (λ (flows : List Flow). HasItsCores net flows (row_at q slot)) same written)
              | inr there ↦ subst (HasItsCores net (slot_in slots other)) (others place there) old.cores
            ];
          };
      listed = same_listed (length slots) p q same_places same_made painted.listed;
    }

-- a slot that has got a place, as have those that had one
pub still_some : (places : List (Option ℕ)) (slot place other : ℕ) → slot < length places → IsTrue (is_some (get_or places other None)) → IsTrue (is_some (get_or (set places slot (Some place)) other None))
still_some places slot place other below has = elim (cases_eq other slot) [
  | inl here ↦ ap is_some (ap (λ (k : ℕ). get_or (set places slot (Some place)) k None) here ∙ get_or-set_same places slot (Some place) None below)
  | inr there ↦ ap is_some (get_or-set_other places slot other (Some place) None there) ∙ has
]

some_more : (places : List (Option ℕ)) (slot place : ℕ) → slot < length places → get_or places slot None ≡ None → count_by is_some (set places slot (Some place)) ≡ count_by is_some places + 1
some_more places slot place below new =
    let none : one_of is_some (get_or places slot None) ≡ 0 = ap (one_of is_some) new in
    omega (arith, sum_by-set (one_of is_some) places slot (Some place) None below, none)

-- a slot that has none, so that not all have one
pub some_left : (places : List (Option ℕ)) (slot : ℕ) → slot < length places → get_or places slot None ≡ None → count_by is_some places < length places
some_left places slot below new = omega (arith, some_more places slot 0 below new, count_by-le-length is_some (set places slot (Some 0)), length-set places slot (Some 0))

-- a slot's place
set_place : (places : List (Option ℕ)) (slot place at : ℕ) → slot < length places → get_or (set places slot (Some place)) slot None ≡ Some at → at ≡ place
set_place places slot place at below is =
    let some : Some at ≡ Some place = sym is ∙ get_or-set_same places slot (Some place) None below in
    cc

-- one that needs no row isn't listed, another is
pub listed_idle : (count : ℕ) (places : List (Option ℕ)) (made : List ℕ) (slot place : ℕ) → slot < length places → get_or places slot None ≡ None → place ≡ 1024 → AreListed count places made → AreListed count (set places slot (Some place)) made
listed_idle count places made slot place below new idle old = record {
  few = omega (arith, old.few, some_more places slot place below new);
  coloured = λ k d under. ((old.coloured k d under).0, still_some places slot place (get_or made k d) below (old.coloured k d under).1);
  all = λ other at is needs. elim (cases_eq other slot) [
    | inl here ↦ absurd (needs (set_place places slot place at below (ap (λ (k : ℕ). get_or (set places slot (Some place)) k None) (sym here) ∙ is) ∙ idle))
    | inr there ↦ old.all other at (sym (get_or-set_other places slot other (Some place) None there) ∙ is) needs
  ];
}

pub listed_more : (count : ℕ) (places : List (Option ℕ)) (made : List ℕ) (slot place : ℕ) → slot < length places → get_or places slot None ≡ None → slot < count → AreListed count places made → AreListed count (set places slot (Some place)) (made ++ slot ∷ [])
listed_more count places made slot place below new named old =
    let Coloured : ℕ → Type 0 = λ other. (other < count) × IsTrue (is_some (get_or (set places slot (Some place)) other None)) in
    record {
      few = omega (arith, old.few, some_more places slot place below new, length_push made slot);
      coloured = All-push Coloured made slot (λ k d under. ((old.coloured k d under).0, still_some places slot place (get_or made k d) below (old.coloured k d under).1)) (named, ap is_some (get_or-set_same places slot (Some place) None below));
      all = λ other at is needs. elim (cases_eq other slot) [
        | inl here ↦ Contains-append_right made (slot ∷ []) other (0, omega arith, sym here)
        | inr there ↦ Contains-append_left made (slot ∷ []) other (old.all other at (sym (get_or-set_other places slot other (Some place) None there) ∙ is) needs)
      ];
    }

-- where a slot's row is noted
pub placed : (net : Network) (room : ℕ) (slots : List (List Flow)) (p q : Painter) (slot place : ℕ) → HasPainted net room slots p → slot < length slots → slot < room → HasRow net room slots p slot place
    → q.net ≡ p.net → q.table ≡ p.table → q.graph ≡ p.graph → q.rows ≡ p.rows → vec_len q.places ≡ vec_len p.places → q.places.items ≡ set p.places.items slot (Some place) → vec_capacity p.made ≤ vec_capacity q.made → AreListed (length slots) q.places.items q.made.items → HasPainted net room slots q
placed net room slots p q slot place painted below fits row same_net same_table same_graph same_rows len places capacity listed =
    let rows_same : (at : ℕ) → row_at p at ≡ row_at q at = λ at. ap (λ (n : ℕ). cores_at n p.rows.items at) (ap endpoints_of (sym same_net)) ∙ ap (λ (v : _). cores_at (endpoints_of q.net) v.items at) (sym same_rows) in
    let s = painted.sized in
    let moved : (other at : ℕ) → HasRow net room slots p other at → HasRow net room slots q other at = λ other at old. record { same = old.same; within = old.within; cores = subst (HasItsCores net (slot_in slots other)) (rows_same at) old.cores } in
    record {
      sized = record {
        few = s.few;
        same_net = same_net ∙ s.same_net;
        table = ap (λ (t : _). t.net) same_table ∙ s.table;
        graph = omega (arith, s.graph, ap (λ (g : _). g.room) same_graph);
        places = len ∙ s.places;
        made = omega (arith, s.made, capacity);
        rows = ap (λ (v : _). vec_len v) same_rows ∙ s.rows;
      };
      rows = λ other at under is.
          let now : get_or (set p.places.items slot (Some place)) other None ≡ Some at = ap (λ (xs : List (Option ℕ)). get_or xs other None) (sym places) ∙ is in
          elim (cases_eq other slot) [
            | inl here ↦
                let set_here : get_or (set p.places.items slot (Some place)) slot None ≡ Some place = get_or-set_same p.places.items slot (Some place) None (omega (arith, fits, s.places, p.places.ok.0)) in
                let some : Some at ≡ Some place = sym now ∙ (ap (λ (k : ℕ). get_or (set p.places.items slot (Some place)) k None) here ∙ set_here) in
                let same : at ≡ place = cc in
                subst (λ (k : ℕ). HasRow net room slots q k at) (sym here) (subst (HasRow net room slots q slot) (sym same) (moved slot place row))
            | inr there ↦ moved other at (painted.rows other at under (sym (get_or-set_other p.places.items slot other (Some place) None there) ∙ now))
          ];
      listed = listed;
    }

-- before any slot is coloured
pub forgotten : (net : Network) (room : ℕ) (slots : List (List Flow)) (p q : Painter) → IsPainter net room p → q.net ≡ p.net → q.table ≡ p.table → q.graph ≡ p.graph → q.rows ≡ p.rows → vec_len q.places ≡ vec_len p.places
    → ((slot : ℕ) → cores_place q slot ≡ None) → vec_capacity p.made ≤ vec_capacity q.made → q.made.items ≡ [] → HasPainted net room slots q
forgotten net room slots p q s same_net same_table same_graph same_rows len none capacity made =
    let rows_same : (at : ℕ) → row_at p at ≡ row_at q at = λ at. ap (λ (n : ℕ). cores_at n p.rows.items at) (ap endpoints_of (sym same_net)) ∙ ap (λ (v : _). cores_at (endpoints_of q.net) v.items at) (sym same_rows) in
    record {
      sized = record {
        few = s.few;
        same_net = same_net ∙ s.same_net;
        table = ap (λ (t : _). t.net) same_table ∙ s.table;
        graph = omega (arith, s.graph, ap (λ (g : _). g.room) same_graph);
        places = len ∙ s.places;
        made = omega (arith, s.made, capacity);
        rows = ap (λ (v : _). vec_len v) same_rows ∙ s.rows;
      };
      rows = λ slot place below is. let was : None ≡ Some place = sym (none slot) ∙ is in absurd (cc);
      listed = subst (λ (slots_made : List ℕ). AreListed (length slots) q.places.items slots_made) (sym made) (record {
        few = omega arith;
        coloured = λ k d under. absurd (omega (arith, under));
        all = λ slot place is needs. let was : None ≡ Some place = sym (none slot) ∙ is in absurd (cc);
      });
    }

-- what stands at a slot's place
named_place : (slots : List (List Flow)) (p : Painter) (slot place : ℕ) (found : Option ℕ) → MayPaint slots p → slot < length slots → found ≡ get_or p.places.items slot found → found ≡ Some place → cores_place p slot ≡ Some place
named_place slots p slot place found may below at is =
    get_or_default p.places.items slot None found (omega (arith, below, may.colourable.count, p.places.ok.0)) ∙ (sym at ∙ is)

pub found_row : (slots : List (List Flow)) (p : Painter) (slot place : ℕ) (found : Option ℕ) → MayPaint slots p → slot < length slots → found ≡ get_or p.places.items slot found → found ≡ Some place → HasRow p.net (vec_len p.places) slots p slot place
found_row slots p slot place found may below at is = may.painted.rows slot place below (named_place slots p slot place found may below at is)

-- what a worker has painted, where its sizes are those of another
pub resized : (net : Network) (room : ℕ) (slots : List (List Flow)) (p q : Painter) → IsPainter net room p → HasPainted p.net (vec_len p.places) slots q → HasPainted net room slots q
resized net room slots p q sized painted = subst (λ (n : Network). HasPainted n room slots q) sized.same_net (subst (λ (k : ℕ). HasPainted p.net k slots q) sized.places painted)

-- a worker whose slots may be coloured
pub may_paint : (net : Network) (room : ℕ) (slots : List (List Flow)) (p : Painter) → AreColourable net room slots → HasPainted net room slots p → MayPaint slots p
may_paint net room slots p colourable painted =
    let s = painted.sized in
    record {
      colourable = subst (λ (n : Network). AreColourable n (vec_len p.places) slots) (sym s.same_net) (subst (λ (k : ℕ). AreColourable net k slots) (sym s.places) colourable);
      painted = subst (λ (n : Network). HasPainted n (vec_len p.places) slots p) (sym s.same_net) (subst (λ (k : ℕ). HasPainted net k slots p) (sym s.places) painted);
    }

-- Rows that are given to a table, worker after worker.
use Rattle.std.proofs.Common.{◌≡◌, ◌≢◌, ◌<◌, ◌+◌, ℕ, List, [], Option, length, get_or, All, Any, IsTrue, is_some, true, Some, None, vec_len, refl, sym, ap, ◌∙◌, subst, arith, inl, inr}
use Rattle.std.specs.List.{list_any}
use Rattle.std.proofs.lemmas.Bool.{cases_eq}
use Rattle.std.proofs.lemmas.List.{get_or_default}
use Rattle.std.proofs.lemmas.List.Folds.{Any-from_list_any}
use Rattle.std.proofs.lemmas.List.Elements.{All-contains}
use Rattle.greedy_rules.specs.declared.flows.Flow.{Flow}
use Rattle.greedy_rules.specs.Schedule.{slot_in}
use Rattle.clos_topology.specs.Network.{Network}
use Rattle.edge_colouring.specs.Cores.{core_in}
use Rattle.path_workers.specs.declared.painter.Painter.{Painter}
use Rattle.path_workers.specs.CoreTable.{CoreSlots, HasRoomOf, core_of, row_of, NamesNone}
use Rattle.path_workers.specs.Coloured.{HasItsCores}
use Rattle.path_workers.specs.Painters.{MayPaint, AreRowsOf, HasGiven, cores_place, has_row, row_at}
use Rattle.path_workers.proofs.PainterLemmas.{both_none, idle_none}

abbrev pub HasCores : Network → List (List Flow) → CoreSlots → ℕ → Type 0
HasCores net slots table at = HasItsCores net (slot_in slots at) (core_of table at)

-- the slots that a worker lists
pub made_rows : (slots : List (List Flow)) (painter : Painter) (made : List ℕ) → made ≡ painter.made.items → MayPaint slots painter → All (λ slot. (slot < length slots) × IsTrue (has_row slot painter)) made
made_rows slots painter made is may = subst (All (λ slot. (slot < length slots) × IsTrue (has_row slot painter))) (sym is) may.painted.listed.coloured

-- a worker has given the first of the rows that it has listed
pub record IsGiving (net : Network) (slots : List (List Flow)) (made : List ℕ) (count : ℕ) (old new : CoreSlots) : Type 0 where
  pub rows : AreRowsOf net slots new
  pub keeps : (at : ℕ) → HasCores net slots old at → HasCores net slots new at
  pub given : (k d : ℕ) → k < count → HasCores net slots new (get_or made k d)

pub gives_more : (net : Network) (slots : List (List Flow)) (made : List ℕ) (count slot : ℕ) (old mid new : CoreSlots) → IsGiving net slots made count old mid → count < length made → get_or made count 0 ≡ slot → slot < length slots → HasCores net slots new slot
    → ((other : ℕ) → other ≢ slot → row_of new other ≡ row_of mid other) → IsGiving net slots made (count + 1) old new
gives_more net slots made count slot old mid new giving more item below right others =
    let keeps : (at : ℕ) → HasCores net slots mid at → HasCores net slots new at = λ at has. elim (cases_eq at slot) [
      | inl here ↦ subst (HasCores net slots new) (sym here) right
      | inr there ↦ subst (HasItsCores net (slot_in slots at)) (ap core_in (sym (others at there))) has
    ] in
    record {
      rows = record {
        each = λ at under. elim (cases_eq at slot) [
          | inl here ↦ inl (subst (HasCores net slots new) (sym here) right)
          | inr there ↦ elim (giving.rows.each at under) [
            | inl has ↦ inl (keeps at has)
            | inr none ↦ inr (others at there ∙ none)
          ]
        ];
        past = λ at above. others at (λ same. omega (arith, same, above, below)) ∙ giving.rows.past at above;
      };
      keeps = λ at has. keeps at (giving.keeps at has);
      given = λ k d under. elim (cases_eq k count) [
        | inl last ↦
            let same : get_or made k d ≡ slot = ap (λ (n : ℕ). get_or made n d) last ∙ (get_or_default made count d 0 more ∙ item) in
            subst (HasCores net slots new) (sym same) right
        | inr before ↦ keeps (get_or made k d) (giving.given k d (omega (arith, under, before)))
      ];
    }

some_place : (found : Option ℕ) → IsTrue (is_some found) → (place : ℕ) × (found ≡ Some place)
some_place None has = absurd (cc)
some_place (Some place) has = (place, refl)

-- and all of them, so that a slot whose row is still empty needs no core
pub gives_all : (slots : List (List Flow)) (painter : Painter) (old new : CoreSlots) → MayPaint slots painter → IsGiving painter.net slots painter.made.items (length painter.made.items) old new → HasGiven slots painter old new
gives_all slots painter old new may giving =
    let net : Network = painter.net in
    let all : All (HasCores net slots new) painter.made.items = λ k d under. giving.given k d under in
    record {
      rows = giving.rows;
      keeps = giving.keeps;
      given = λ at below has. elim (giving.rows.each at below) [
        | inl right ↦ right
        | inr none ↦
            let found = some_place (cores_place painter at) has in
            let place : ℕ = found.0 in
            elim (cases_eq place 1024) [
              | inl idle ↦
                  let sized = may.painted.sized in
                  let nothing : NamesNone (row_at painter place) = idle_none net (vec_len painter.places) painter place (omega (arith, idle, sized.few)) (omega (arith, idle)) sized in
                  subst (HasItsCores net (slot_in slots at)) (both_none (row_at painter place) (core_of new at) nothing (λ source. ap (λ (row : List (Option ℕ)). core_in row source) none))
                  (may.painted.rows at place below found.1).cores
              | inr needs ↦ All-contains (HasCores net slots new) painter.made.items at all (may.painted.listed.all at place found.1 needs)
            ]
      ];
    }

-- every worker has given its rows, as far as they were asked
pub record HaveGiven (net : Network) (slots : List (List Flow)) (painters : List Painter) (count : ℕ) (table : CoreSlots) : Type 0 where
  pub rows : AreRowsOf net slots table
  pub given : (k : ℕ) (d : Painter) (at : ℕ) → k < count → at < length slots → IsTrue (has_row at (get_or painters k d)) → HasCores net slots table at

pub begin_given : (net : Network) (slots : List (List Flow)) (painters : List Painter) (table : CoreSlots) → ((slot : ℕ) → row_of table slot ≡ []) → HaveGiven net slots painters 0 table
begin_given net slots painters table empty = record {
  rows = record { each = λ at below. inr (empty at); past = λ at above. empty at };
  given = λ k d at under. absurd (omega (arith, under));
}

pub one_given : (net : Network) (slots : List (List Flow)) (painters : List Painter) (count : ℕ) (painter : Painter) (old new : CoreSlots) → HaveGiven net slots painters count old → count < length painters → get_or painters count painter ≡ painter → painter.net ≡ net
    → (AreRowsOf painter.net slots old → HasGiven slots painter old new) → HaveGiven net slots painters (count + 1) new
one_given net slots painters count painter old new before more item same_net gives =
    let given : HasGiven slots painter old new = gives (subst (λ (n : Network). AreRowsOf n slots old) (sym same_net) before.rows) in
    record {
      rows = subst (λ (n : Network). AreRowsOf n slots new) same_net given.rows;
      given = λ k d at under below has. elim (cases_eq k count) [
        | inl last ↦
            let same : get_or painters k d ≡ painter = ap (λ (n : ℕ). get_or painters n d) last ∙ (get_or_default painters count d painter more ∙ item) in
            subst (λ (n : Network). HasCores n slots new at) same_net (given.given at below (subst (λ (p : Painter). IsTrue (has_row at p)) same has))
        | inr earlier ↦
            subst (λ (n : Network). HasCores n slots new at) same_net (given.keeps at (subst (λ (n : Network). HasCores n slots old at) (sym same_net) (before.given k d at (omega (arith, under, earlier)) below has)))
      ];
    }

-- which is all where each slot has a row
pub all_given : (net : Network) (slots : List (List Flow)) (painters : List Painter) (table : CoreSlots) (at : ℕ) → HaveGiven net slots painters (length painters) table → at < length slots → list_any (has_row at) painters ≡ true → HasCores net slots table at
all_given net slots painters table at all below any =
    let found : Any (λ (p : Painter). has_row at p ≡ true) painters = Any-from_list_any (has_row at) painters any in
    all.given found.0 found.1 at found.2 below (subst (λ (p : Painter). has_row at p ≡ true) (sym found.3) found.4)

-- a table has room for what another has room for that has room for what a third has
pub still_room : (old mid new : CoreSlots) → HasRoomOf old mid → HasRoomOf mid new → HasRoomOf old new
still_room old mid new first then = record { slots = then.slots ∙ first.slots; endpoints = then.endpoints ∙ first.endpoints }

-- The marks of one kind of links, and one path more.
use Rattle.std.proofs.Common.{◌≡◌, ◌≢◌, ◌<◌, ◌≤◌, ◌==◌, ◌&&◌, ◌||◌, ℕ, List, [], ◌∷◌, length, set, get_or, Bool, false, Option, Some, None, inl, inr, refl, sym, ap, ◌∙◌, arith}
use Rattle.std.specs.List.{list_any}
use Rattle.std.proofs.lemmas.Bool.{cases_eq, eq-eqb, ne_eqb, or_from, and_left}
use Rattle.std.proofs.lemmas.List.{get_or-set_same, get_or-set_other}
use Rattle.std.proofs.lemmas.List.Elements.{All-head, All-tail}
use Rattle.list_facts.proofs.Bools.{never_or}
use Rattle.schedule_audit.specs.Lines.{Path}
use Rattle.schedule_audit.specs.Marks.{is_place, takes_link, AreUpTo, AreMarks}

module _ (place_of : Path → Option ℕ) where
  -- no path is of a slot to come
  none_later : (slot place last : ℕ) (before : List Path) → AreUpTo last before → last < slot → list_any (takes_link place_of slot place) before ≡ false
  none_later slot place last [] upto later = refl
  none_later slot place last (q ∷ before) upto later =
      let P : Path → Type 0 = λ x. x.place.slot ≤ last in
      let here : q.place.slot ≢ slot = λ same. omega (arith, same, later, All-head P q before upto) in
      or_from (takes_link place_of slot place q) (list_any (takes_link place_of slot place) before)
      (and_left (q.place.slot == slot) (is_place (place_of q) place) (ne_eqb q.place.slot slot here))
      (none_later slot place last before (All-tail P q before upto) later)

  pub mark-none : (marks : List ℕ) (before : List Path) (p : Path) → place_of p ≡ None → AreMarks place_of marks before → AreMarks place_of marks (p ∷ before)
  mark-none marks before p none are = λ slot place some upto.
      are slot place some (All-tail (λ (x : Path). x.place.slot ≤ slot) p before upto)
      ∙ (sym (never_or (p.place.slot == slot) (list_any (takes_link place_of slot place) before))
      ∙ ap (λ (o : Option ℕ). ((p.place.slot == slot) && is_place o place) || list_any (takes_link place_of slot place) before) (sym none))

  pub mark-more : (marks : List ℕ) (before : List Path) (p : Path) (at : ℕ) → place_of p ≡ Some at → at < length marks → AreUpTo p.place.slot before → AreMarks place_of marks before
      → AreMarks place_of (set marks at p.place.slot) (p ∷ before)
  mark-more marks before p at is within earlier are = λ slot place some upto.
      let P : Path → Type 0 = λ x. x.place.slot ≤ slot in
      let there : ((p.place.slot == slot) && is_place (Some at) place) || list_any (takes_link place_of slot place) before ≡ list_any (takes_link place_of slot place) (p ∷ before) =
      ap (λ (o : Option ℕ). ((p.place.slot == slot) && is_place o place) || list_any (takes_link place_of slot place) before) (sym is) in
      elim (cases_eq at place) [
        | inl same ↦
            ap (λ (n : ℕ). n == slot) (ap (λ (i : ℕ). get_or (set marks at p.place.slot) i 0) (sym same) ∙ get_or-set_same marks at p.place.slot 0 within)
            ∙ (this slot place same (All-head P p before upto) ∙ there)
        | inr other ↦
            ap (λ (n : ℕ). n == slot) (get_or-set_other marks at place p.place.slot 0 (λ e. other (sym e)))
            ∙ (are slot place some (All-tail P p before upto)
            ∙ (sym (never_or (p.place.slot == slot) (list_any (takes_link place_of slot place) before))
            ∙ (ap (λ (b : Bool). ((p.place.slot == slot) && b) || list_any (takes_link place_of slot place) before) (sym (ne_eqb at place other)) ∙ there)))
      ]
    where
      this : (slot place : ℕ) → at ≡ place → p.place.slot ≤ slot → (p.place.slot == slot) ≡ (((p.place.slot == slot) && is_place (Some at) place) || list_any (takes_link place_of slot place) before)
      this slot place same upto = elim (cases_eq p.place.slot slot) [
        | inl now ↦ rw (eq-eqb p.place.slot slot now, eq-eqb at place same) refl
        | inr earlier_one ↦
            let later : p.place.slot < slot = lt_of upto earlier_one in
            rw (ne_eqb p.place.slot slot earlier_one) (sym (none_later slot place p.place.slot before earlier later))
      ]
        where
          lt_of : {a b : ℕ} → a ≤ b → a ≢ b → a < b
          lt_of {a} {b} le ne = elim (cases_eq a b) [
            | inl is_same ↦ absurd (ne is_same)
            | inr _ ↦ omega (arith, le, ne)
          ]

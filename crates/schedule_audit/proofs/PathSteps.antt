-- One place more goes by the `slot` lines.
use Rattle.std.proofs.Common.{◌≡◌, ◌≢◌, ◌<◌, ◌≤◌, ◌+◌, not, ◌||◌, ℕ, zero, suc, List, [], ◌∷◌, ◌++◌, length, drop, get_or, cond, Bool, true, false, Option, Some, None, is_some, All, refl, sym, ap, ◌∙◌, subst, arith, append_assoc, append-nil}
use Rattle.std.specs.List.{list_any}
use Rattle.std.proofs.lemmas.Bool.{cond-true, cond-false, false≢true}
use Rattle.std.proofs.lemmas.List.Elements.{All-nil, All-cons, All-head, All-tail}
use Rattle.std.proofs.Math.ListN.{drop_of_length-le}
use Rattle.clos_topology.specs.Network.{Network}
use Rattle.schedule_audit.specs.declared.path_lines.PathLines.{PathLines}
use Rattle.schedule_audit.specs.Lines.{Place, Path}
use Rattle.schedule_audit.specs.Numbered.{Numbered}
use Rattle.schedule_audit.specs.Wrong.{same_place, share_a_link, has_wrong_core}
use Rattle.schedule_audit.specs.BadLines.{or_else}
use Rattle.schedule_audit.specs.Marks.{AreUpTo, PathsAreMarked}
use Rattle.schedule_audit.specs.Judged.{is_off, first_path, PathsStand}
use Rattle.schedule_audit.proofs.Shown.{place-true}

-- ---- why a path is off

pub off-elsewhere : (net : Network) (place : Place) (before : List Path) (path : Path) → same_place place path.place ≡ false → is_off net place before path ≡ true
off-elsewhere net place before path other = ap (λ b. not b || (has_wrong_core net path.place.flow path.core || list_any (share_a_link net path) before)) other

pub off-here : (net : Network) (place : Place) (before : List Path) (path : Path) → same_place place path.place ≡ true
    → is_off net place before path ≡ (has_wrong_core net place.flow path.core || list_any (share_a_link net (record { place = place; core = path.core })) before)
off-here net place before path same =
    ap (λ b. not b || (has_wrong_core net path.place.flow path.core || list_any (share_a_link net path) before)) same
    ∙ ap (λ (p : Place). has_wrong_core net p.flow path.core || list_any (share_a_link net (record { place = p; core = path.core })) before) (sym (place-true place path.place same))

pub off-marked : (place : Place) (path : Path) → same_place place path.place ≡ true → record { place = place; core = path.core } ≡ path
off-marked place path same = ap (λ (p : Place). record { place = p; core = path.core }) (place-true place path.place same)

-- ---- steps

pub drop-here : {X : Type 0} (n : ℕ) (xs : List X) (d : X) → n < length xs → drop n xs ≡ get_or xs n d ∷ drop (suc n) xs
drop-here n [] d within = absurd (omega arith)
drop-here zero (x ∷ xs) d within = refl
drop-here (suc n) (x ∷ xs) d within = drop-here n xs d (omega arith)

module _ (net : Network) (visited : List Place) (place : Place) (old new : PathLines) (stands : PathsStand net visited old) (same : new.lines ≡ old.lines) where
  all_new : (later : List Place) → first_path net ((visited ++ place ∷ []) ++ later) [] new.lines.items ≡ or_else old.bad (first_path net (place ∷ later) stands.before (drop old.next old.lines.items))
  all_new later =
      ap (λ v. first_path net ((visited ++ place ∷ []) ++ later) [] v.items) same
      ∙ (ap (λ (ps : List Place). first_path net ps [] old.lines.items) (append_assoc visited (place ∷ []) later) ∙ stands.goes_on (place ∷ later))

  upto_old : (slot : ℕ) → All (λ (p : Place). p.slot ≤ slot) (visited ++ place ∷ []) → AreUpTo slot stands.before
  upto_old slot all = stands.upto slot (front visited all)
    where
      front : (ps : List Place) → All (λ (p : Place). p.slot ≤ slot) (ps ++ place ∷ []) → All (λ (p : Place). p.slot ≤ slot) ps
      front [] all' = All-nil (λ (p : Place). p.slot ≤ slot)
      front (p ∷ ps) all' = All-cons (λ (q : Place). q.slot ≤ slot) p ps (All-head (λ (q : Place). q.slot ≤ slot) p (ps ++ place ∷ []) all') (front ps (All-tail (λ (q : Place). q.slot ≤ slot) p (ps ++ place ∷ []) all'))

  last_of : (slot : ℕ) → All (λ (p : Place). p.slot ≤ slot) (visited ++ place ∷ []) → place.slot ≤ slot
  last_of slot all = end visited all
    where
      end : (ps : List Place) → All (λ (p : Place). p.slot ≤ slot) (ps ++ place ∷ []) → place.slot ≤ slot
      end [] all' = All-head (λ (q : Place). q.slot ≤ slot) place [] all'
      end (p ∷ ps) all' = end ps (All-tail (λ (q : Place). q.slot ≤ slot) p (ps ++ place ∷ []) all')

  some-bad : (o : Option ℕ) (a b : Option ℕ) → o ≢ None → or_else o a ≡ or_else o b
  some-bad None a b some = absurd (some refl)
  some-bad (Some n) a b some = refl

  -- a wrong line was found before
  pub stays-bad : old.bad ≢ None → new.bad ≡ old.bad → PathsStand net (visited ++ place ∷ []) new
  stays-bad bad kept = record {
    before = stands.before;
    goes_on = λ later. all_new later ∙ (some-bad old.bad _ _ bad ∙ ap (λ o. or_else o (first_path net later stands.before (drop new.next new.lines.items))) (sym kept));
    upto = upto_old;
    marked = λ none. absurd (bad (sym kept ∙ none));
  }

  -- all lines were judged before
  pub stays-done : length old.lines.items ≤ old.next → new.bad ≡ old.bad → new.next ≡ old.next → new.links ≡ old.links → PathsStand net (visited ++ place ∷ []) new
  stays-done done kept at links =
      let past : drop old.next old.lines.items ≡ [] = drop_of_length-le old.lines.items done in
      let past' : drop new.next new.lines.items ≡ [] = ap (λ v. drop new.next v.items) same ∙ (ap (λ (n : ℕ). drop n old.lines.items) at ∙ past) in
      record {
        before = stands.before;
        goes_on = λ later. all_new later
            ∙ (ap (λ ps. or_else old.bad (first_path net (place ∷ later) stands.before ps)) past
            ∙ (ap (λ o. or_else o None) (sym kept) ∙ ap (λ ps. or_else new.bad (first_path net later stands.before ps)) (sym past')));
        upto = upto_old;
        marked = λ none. subst (λ l. PathsAreMarked net l stands.before) (sym links) (stands.marked (sym kept ∙ none));
      }

  module _ (line : Numbered Path) (none : old.bad ≡ None) (here : drop old.next old.lines.items ≡ line ∷ drop (suc old.next) old.lines.items) where
    next_is : (later : List Place) → first_path net ((visited ++ place ∷ []) ++ later) [] new.lines.items
        ≡ cond (is_off net place stands.before line.said) (Some line.line) (first_path net later (line.said ∷ stands.before) (drop (suc old.next) old.lines.items))
    next_is later = all_new later ∙ (ap (λ o. or_else o (first_path net (place ∷ later) stands.before (drop old.next old.lines.items))) none ∙ ap (λ ps. first_path net (place ∷ later) stands.before ps) here)

    -- the next line is wrong
    pub turns-bad : is_off net place stands.before line.said ≡ true → new.bad ≡ Some line.line → PathsStand net (visited ++ place ∷ []) new
    turns-bad off is = record {
      before = stands.before;
      goes_on = λ later. next_is later
          ∙ (cond-true (is_off net place stands.before line.said) (Some line.line) (first_path net later (line.said ∷ stands.before) (drop (suc old.next) old.lines.items)) off
          ∙ ap (λ o. or_else o (first_path net later stands.before (drop new.next new.lines.items))) (sym is));
      upto = upto_old;
      marked = λ nothing. absurd (some-is-not (sym is ∙ nothing));
    }
      where
        some-is-not : Some line.line ≡ None → ⊥
        some-is-not never = absurd (cc)

    -- the next line is right
    pub goes-right : is_off net place stands.before line.said ≡ false → same_place place line.said.place ≡ true → new.bad ≡ old.bad → new.next ≡ old.next + 1 → PathsAreMarked net new.links (line.said ∷ stands.before)
        → PathsStand net (visited ++ place ∷ []) new
    goes-right right there kept at marked =
        let behind : drop (suc old.next) old.lines.items ≡ drop new.next new.lines.items =
        ap (λ (n : ℕ). drop n old.lines.items) (the_next at) ∙ ap (λ v. drop new.next v.items) (sym same) in
        record {
          before = line.said ∷ stands.before;
          goes_on = λ later. next_is later
              ∙ (cond-false (is_off net place stands.before line.said) (Some line.line) (first_path net later (line.said ∷ stands.before) (drop (suc old.next) old.lines.items)) right
              ∙ (ap (λ ps. first_path net later (line.said ∷ stands.before) ps) behind
              ∙ ap (λ o. or_else o (first_path net later (line.said ∷ stands.before) (drop new.next new.lines.items))) (sym (kept ∙ none))));
          upto = λ slot all. All-cons (λ (q : Path). q.place.slot ≤ slot) line.said stands.before
              (subst (λ (p : Place). p.slot ≤ slot) (place-true place line.said.place there) (last_of slot all)) (upto_old slot all);
          marked = λ nothing. marked;
        }
      where
        the_next : new.next ≡ old.next + 1 → suc old.next ≡ new.next
        the_next is = omega (arith, is)

pub off-same : (net : Network) (place : Place) (before : List Path) (path : Path) → is_off net place before path ≡ false → same_place place path.place ≡ true
off-same net place before path right = by (same_place place path.place) refl
  where
    by : (b : Bool) → same_place place path.place ≡ b → same_place place path.place ≡ true
    by true is = is
    by false is = let bad : true ≡ false = sym (off-elsewhere net place before path is) ∙ right in absurd (cc)

pub is-not-none : (o : Option ℕ) → is_some o ≡ true → o ≢ None
is-not-none o is none = false≢true (sym (ap (λ x. is_some x) none) ∙ is)

-- ---- where no more places come

at-end : (net : Network) (visited : List Place) (lines : PathLines) (stands : PathsStand net visited lines)
    → first_path net visited [] lines.lines.items ≡ or_else lines.bad (first_path net [] stands.before (drop lines.next lines.lines.items))
at-end net visited lines stands = ap (λ (ps : List Place). first_path net ps [] lines.lines.items) (sym (append-nil visited)) ∙ stands.goes_on []

pub first-found : (net : Network) (visited : List Place) (lines : PathLines) → PathsStand net visited lines → is_some lines.bad ≡ true → lines.bad ≡ first_path net visited [] lines.lines.items
first-found net visited lines stands some = sym (at-end net visited lines stands ∙ kept lines.bad (first_path net [] stands.before (drop lines.next lines.lines.items)) some)
  where
    kept : (o other : Option ℕ) → is_some o ≡ true → or_else o other ≡ o
    kept None other is = absurd (false≢true is)
    kept (Some n) other is = refl

abbrev pub head_line : List (Numbered Path) → Option ℕ
head_line [] = None
head_line (p ∷ ps) = Some p.line

pub first-left : (net : Network) (visited : List Place) (lines : PathLines) → PathsStand net visited lines → lines.bad ≡ None → (left : List (Numbered Path)) → drop lines.next lines.lines.items ≡ left
    → head_line left ≡ first_path net visited [] lines.lines.items
first-left net visited lines stands none left is =
    sym (at-end net visited lines stands
    ∙ (ap (λ o. or_else o (first_path net [] stands.before (drop lines.next lines.lines.items))) none
    ∙ (ap (λ ps. first_path net [] stands.before ps) is ∙ heads left)))
  where
    heads : (ps : List (Numbered Path)) → first_path net [] stands.before ps ≡ head_line ps
    heads [] = refl
    heads (p ∷ ps) = refl

-- Two paths share a link where they share one of the same kind.
use Rattle.std.proofs.Common.{◌≡◌, ◌<◌, ◌+◌, ◌*◌, ◌==◌, ◌&&◌, ◌||◌, not, ℕ, List, [], ◌∷◌, ◌++◌, get_or, cond, Bool, true, false, Option, Some, None, All, refl, sym, ap, ◌∙◌}
use Rattle.std.specs.Prelude.{nat_le, unwrap_or}
use Rattle.std.specs.List.{list_any}
use Rattle.std.proofs.lemmas.Bool.{eq-eqb, eqb-true, or_parts, leb-false, and_parts, and_from, not-false}
use Rattle.std.proofs.lemmas.List.Elements.{All-head, All-tail}
use Rattle.std.proofs.lemmas.Nat.{same_from_place}
use Rattle.std.proofs.Math.Bool.{or-false, and_comm}
use Rattle.list_facts.proofs.Bools.{neither, eqb_turned}
use Rattle.greedy_rules.specs.Limits.{rack_of}
use Rattle.greedy_rules.proofs.WalkLemmas.{or_both}
use Rattle.clos_topology.specs.Network.{Network}
use Rattle.clos_topology.specs.Links.{Link, up, rise, fall, down}
use Rattle.schedule_audit.specs.Lines.{Path}
use Rattle.schedule_audit.specs.Wrong.{same_link, share_a_link, has_wrong_core}
use Rattle.schedule_audit.specs.declared.links.Links.{Links}
use Rattle.schedule_audit.specs.Marks.{up_link, down_link, rise_of, fall_of, is_place, takes_link, AreUpTo, PathsAreMarked}
use Rattle.schedule_audit.proofs.FirstWrong.{same-truth}

-- ---- truth values

spread : (x a b : Bool) → (x && (a || b)) ≡ ((x && a) || (x && b))
spread true a b = refl
spread false a b = refl

any-or : {X : Type 0} (f g : X → Bool) (xs : List X) → list_any (λ x. f x || g x) xs ≡ (list_any f xs || list_any g xs)
any-or f g [] = refl
any-or f g (x ∷ xs) = ap (λ (b : Bool). (f x || g x) || b) (any-or f g xs) ∙ or_both (f x) (g x) (list_any f xs) (list_any g xs)

any-same : {X : Type 0} (f g : X → Bool) (xs : List X) → All (λ x. f x ≡ g x) xs → list_any f xs ≡ list_any g xs
any-same f g [] same = refl
any-same f g (x ∷ xs) same =
    ap (λ (b : Bool). b || list_any f xs) (All-head (λ y. f y ≡ g y) x xs same) ∙ ap (λ (b : Bool). g x || b) (any-same f g xs (All-tail (λ y. f y ≡ g y) x xs same))

-- ---- the links of two paths: b and c tell whether they stay in their racks

abbrev links_when : Bool → ℕ → ℕ → ℕ → ℕ → ℕ → List Link
links_when b s d r q core = up s ∷ (cond b [] (rise r core ∷ fall core q ∷ []) ++ down d ∷ [])

up-in : (b : Bool) (x s d r q core : ℕ) → list_any (same_link (up x)) (links_when b s d r q core) ≡ (x == s)
up-in true x s d r q core = or-false (x == s)
up-in false x s d r q core = or-false (x == s)

down-in : (b : Bool) (x s d r q core : ℕ) → list_any (same_link (down x)) (links_when b s d r q core) ≡ (x == d)
down-in true x s d r q core = or-false (x == d)
down-in false x s d r q core = or-false (x == d)

rise-in : (b : Bool) (x n s d r q core : ℕ) → list_any (same_link (rise x n)) (links_when b s d r q core) ≡ (not b && ((x == r) && (n == core)))
rise-in true x n s d r q core = refl
rise-in false x n s d r q core = or-false ((x == r) && (n == core))

fall-in : (b : Bool) (x n s d r q core : ℕ) → list_any (same_link (fall n x)) (links_when b s d r q core) ≡ (not b && ((n == core) && (x == q)))
fall-in true x n s d r q core = refl
fall-in false x n s d r q core = or-false ((n == core) && (x == q))

module _ (net : Network) where
  abbrev stays : Path → Bool
  stays p = rack_of net.hosts p.place.flow.src == rack_of net.hosts p.place.flow.dst

  abbrev links_path : Path → List Link
  links_path q = links_when (stays q) q.place.flow.src q.place.flow.dst (rack_of net.hosts q.place.flow.src) (rack_of net.hosts q.place.flow.dst) (unwrap_or q.core 0)

  abbrev meets : Path → Link → Bool
  meets q l = list_any (same_link l) (links_path q)

  -- ---- one path against another that has its right core

  up-meets : (p q : Path) → meets q (up p.place.flow.src) ≡ is_place (up_link q) p.place.flow.src
  up-meets p q = up-in (stays q) p.place.flow.src q.place.flow.src q.place.flow.dst _ _ (unwrap_or q.core 0) ∙ eqb_turned p.place.flow.src q.place.flow.src

  down-meets : (p q : Path) → meets q (down p.place.flow.dst) ≡ is_place (down_link q) p.place.flow.dst
  down-meets p q = down-in (stays q) p.place.flow.dst q.place.flow.src q.place.flow.dst _ _ (unwrap_or q.core 0) ∙ eqb_turned p.place.flow.dst q.place.flow.dst

  place-same : (r x c n : ℕ) → c < net.cores → n < net.cores → (r * net.cores + c == x * net.cores + n) ≡ ((x == r) && (n == c))
  place-same r x c n c_in n_in = same-truth (r * net.cores + c == x * net.cores + n) ((x == r) && (n == c))
      (λ is. let same = same_from_place r c x n net.cores c_in n_in (eqb-true (r * net.cores + c) (x * net.cores + n) is) in and_from (x == r) (n == c) (eq-eqb x r (sym same.0)) (eq-eqb n c (sym same.1)))
      (λ is. let parts = and_parts (x == r) (n == c) is in
      let at : r ≡ x = sym (eqb-true x r parts.0) in
      let by : c ≡ n = sym (eqb-true n c parts.1) in
      eq-eqb (r * net.cores + c) (x * net.cores + n) (ap (λ (m : ℕ). m * net.cores + c) at ∙ ap (λ (m : ℕ). x * net.cores + m) by))

  -- with a core named exactly where a path leaves its rack
  pub right-none : (q : Path) → q.core ≡ None → has_wrong_core net q.place.flow q.core ≡ false → stays q ≡ true
  right-none q none right = not-false (stays q) (ap (λ (o : Option ℕ). has_wrong_core net q.place.flow o) (sym none) ∙ right)

  pub right-some : (q : Path) (core : ℕ) → q.core ≡ Some core → has_wrong_core net q.place.flow q.core ≡ false → (stays q ≡ false) × (core < net.cores)
  right-some q core some right =
      let parts = or_parts (stays q) (nat_le net.cores core) (ap (λ (o : Option ℕ). has_wrong_core net q.place.flow o) (sym some) ∙ right) in
      (parts.0, leb-false net.cores core parts.1)

  rise-meets : (p q : Path) (core : ℕ) → core < net.cores → has_wrong_core net q.place.flow q.core ≡ false
      → meets q (rise (rack_of net.hosts p.place.flow.src) core) ≡ is_place (rise_of net q) (rack_of net.hosts p.place.flow.src * net.cores + core)
  rise-meets p q core within right =
      rise-in (stays q) (rack_of net.hosts p.place.flow.src) core q.place.flow.src q.place.flow.dst (rack_of net.hosts q.place.flow.src) (rack_of net.hosts q.place.flow.dst) (unwrap_or q.core 0)
      ∙ by_core q.core refl
    where
      by_core : (o : Option ℕ) → q.core ≡ o
          → (not (stays q) && ((rack_of net.hosts p.place.flow.src == rack_of net.hosts q.place.flow.src) && (core == unwrap_or q.core 0))) ≡ is_place (rise_of net q) (rack_of net.hosts p.place.flow.src * net.cores + core)
      by_core None is = rw (right-none q is right, is) refl
      by_core (Some c) is =
          let leaves = right-some q c is right in
          rw (leaves.0, is) (sym (place-same (rack_of net.hosts q.place.flow.src) (rack_of net.hosts p.place.flow.src) c core leaves.1 within))

  fall-meets : (p q : Path) (core : ℕ) → core < net.cores → has_wrong_core net q.place.flow q.core ≡ false
      → meets q (fall core (rack_of net.hosts p.place.flow.dst)) ≡ is_place (fall_of net q) (rack_of net.hosts p.place.flow.dst * net.cores + core)
  fall-meets p q core within right =
      fall-in (stays q) (rack_of net.hosts p.place.flow.dst) core q.place.flow.src q.place.flow.dst (rack_of net.hosts q.place.flow.src) (rack_of net.hosts q.place.flow.dst) (unwrap_or q.core 0)
      ∙ by_core q.core refl
    where
      by_core : (o : Option ℕ) → q.core ≡ o
          → (not (stays q) && ((core == unwrap_or q.core 0) && (rack_of net.hosts p.place.flow.dst == rack_of net.hosts q.place.flow.dst))) ≡ is_place (fall_of net q) (rack_of net.hosts p.place.flow.dst * net.cores + core)
      by_core None is = rw (right-none q is right, is) refl
      by_core (Some c) is =
          let leaves = right-some q c is right in
          rw (leaves.0, is)
          (and_comm (core == c) (rack_of net.hosts p.place.flow.dst == rack_of net.hosts q.place.flow.dst)
          ∙ sym (place-same (rack_of net.hosts q.place.flow.dst) (rack_of net.hosts p.place.flow.dst) c core leaves.1 within))

  abbrev up_taken : Path → Path → Bool
  up_taken p q = takes_link up_link p.place.slot p.place.flow.src q

  abbrev down_taken : Path → Path → Bool
  down_taken p q = takes_link down_link p.place.slot p.place.flow.dst q

  abbrev rise_taken : Path → ℕ → Path → Bool
  rise_taken p core q = takes_link (rise_of net) p.place.slot (rack_of net.hosts p.place.flow.src * net.cores + core) q

  abbrev fall_taken : Path → ℕ → Path → Bool
  fall_taken p core q = takes_link (fall_of net) p.place.slot (rack_of net.hosts p.place.flow.dst * net.cores + core) q

  -- ---- a path that stays in its rack, and one that leaves it

  all-links : (p : Path) → share_a_link net p ≡ (λ q. (p.place.slot == q.place.slot) && list_any (meets q) (links_path p))
  all-links p = refl

  stay-shares : (p q : Path) → stays p ≡ true → share_a_link net p q ≡ (up_taken p q || down_taken p q)
  stay-shares p q stay =
      ap (λ (b : Bool). (p.place.slot == q.place.slot) && list_any (meets q) (links_when b p.place.flow.src p.place.flow.dst (rack_of net.hosts p.place.flow.src) (rack_of net.hosts p.place.flow.dst) (unwrap_or p.core 0))) stay
      ∙ (ap (λ (b : Bool). b && (meets q (up p.place.flow.src) || (meets q (down p.place.flow.dst) || false))) (eqb_turned p.place.slot q.place.slot)
      ∙ (ap (λ (b : Bool). (q.place.slot == p.place.slot) && (meets q (up p.place.flow.src) || b)) (or-false (meets q (down p.place.flow.dst)))
      ∙ (ap (λ (b : Bool). (q.place.slot == p.place.slot) && (b || meets q (down p.place.flow.dst))) (up-meets p q)
      ∙ (ap (λ (b : Bool). (q.place.slot == p.place.slot) && (is_place (up_link q) p.place.flow.src || b)) (down-meets p q)
      ∙ spread (q.place.slot == p.place.slot) (is_place (up_link q) p.place.flow.src) (is_place (down_link q) p.place.flow.dst)))))

  leave-shares : (p q : Path) (core : ℕ) → stays p ≡ false → p.core ≡ Some core → core < net.cores → has_wrong_core net q.place.flow q.core ≡ false
      → share_a_link net p q ≡ (up_taken p q || (rise_taken p core q || (fall_taken p core q || down_taken p q)))
  leave-shares p q core leave some within right =
      let x = q.place.slot == p.place.slot in
      let a = is_place (up_link q) p.place.flow.src in
      let r = is_place (rise_of net q) (rack_of net.hosts p.place.flow.src * net.cores + core) in
      let f = is_place (fall_of net q) (rack_of net.hosts p.place.flow.dst * net.cores + core) in
      let d = is_place (down_link q) p.place.flow.dst in
      let lower = rack_of net.hosts p.place.flow.src in
      let upper = rack_of net.hosts p.place.flow.dst in
      ap (λ (b : Bool). (p.place.slot == q.place.slot) && list_any (meets q) (links_when b p.place.flow.src p.place.flow.dst lower upper (unwrap_or p.core 0))) leave
      ∙ (ap (λ (o : Option ℕ). (p.place.slot == q.place.slot) && list_any (meets q) (links_when false p.place.flow.src p.place.flow.dst lower upper (unwrap_or o 0))) some
      ∙ (ap (λ (b : Bool). b && (meets q (up p.place.flow.src) || (meets q (rise lower core) || (meets q (fall core upper) || (meets q (down p.place.flow.dst) || false))))) (eqb_turned p.place.slot q.place.slot)
      ∙ (ap (λ (b : Bool). x && (meets q (up p.place.flow.src) || (meets q (rise lower core) || (meets q (fall core upper) || b)))) (or-false (meets q (down p.place.flow.dst)))
      ∙ (ap (λ (b : Bool). x && (b || (meets q (rise lower core) || (meets q (fall core upper) || meets q (down p.place.flow.dst))))) (up-meets p q)
      ∙ (ap (λ (b : Bool). x && (a || (b || (meets q (fall core upper) || meets q (down p.place.flow.dst))))) (rise-meets p q core within right)
      ∙ (ap (λ (b : Bool). x && (a || (r || (b || meets q (down p.place.flow.dst))))) (fall-meets p q core within right)
      ∙ (ap (λ (b : Bool). x && (a || (r || (f || b)))) (down-meets p q)
      ∙ (spread x a (r || (f || d))
      ∙ (ap (λ (b : Bool). (x && a) || b) (spread x r (f || d))
      ∙ ap (λ (b : Bool). (x && a) || ((x && r) || b)) (spread x f d))))))))))

  -- ---- a path against all before it

  abbrev AreRight : List Path → Type 0
  AreRight before = All (λ (q : Path). has_wrong_core net q.place.flow q.core ≡ false) before

  all-stay : (p : Path) (before : List Path) → stays p ≡ true → All (λ q. share_a_link net p q ≡ (up_taken p q || down_taken p q)) before
  all-stay p before stay = λ i d within. stay-shares p (get_or before i d) stay

  pub stay-any : (p : Path) (before : List Path) → stays p ≡ true → list_any (share_a_link net p) before ≡ (list_any (up_taken p) before || list_any (down_taken p) before)
  stay-any p before stay = any-same (share_a_link net p) (λ q. up_taken p q || down_taken p q) before (all-stay p before stay) ∙ any-or (up_taken p) (down_taken p) before

  all-leave : (p : Path) (core : ℕ) (before : List Path) → stays p ≡ false → p.core ≡ Some core → core < net.cores → AreRight before
      → All (λ q. share_a_link net p q ≡ (up_taken p q || (rise_taken p core q || (fall_taken p core q || down_taken p q)))) before
  all-leave p core before leave some within right = λ i d inside. leave-shares p (get_or before i d) core leave some within (right i d inside)

  pub leave-any : (p : Path) (core : ℕ) (before : List Path) → stays p ≡ false → p.core ≡ Some core → core < net.cores → AreRight before
      → list_any (share_a_link net p) before ≡ (list_any (up_taken p) before || (list_any (rise_taken p core) before || (list_any (fall_taken p core) before || list_any (down_taken p) before)))
  leave-any p core before leave some within right =
      any-same (share_a_link net p) (λ q. up_taken p q || (rise_taken p core q || (fall_taken p core q || down_taken p q))) before (all-leave p core before leave some within right)
      ∙ (any-or (up_taken p) (λ q. rise_taken p core q || (fall_taken p core q || down_taken p q)) before
      ∙ ap (λ (b : Bool). list_any (up_taken p) before || b)
      (any-or (rise_taken p core) (λ q. fall_taken p core q || down_taken p q) before ∙ ap (λ (b : Bool). list_any (rise_taken p core) before || b) (any-or (fall_taken p core) (down_taken p) before)))

  -- ---- what the marks say

  each-free : (a b c d : Bool) → (((not a && not b) && not c) && not d) ≡ not (a || (c || (d || b)))
  each-free true b c d = refl
  each-free false true true d = refl
  each-free false true false true = refl
  each-free false true false false = refl
  each-free false false true d = refl
  each-free false false false true = refl
  each-free false false false false = refl

  pub leave-free : (marks : Links) (p : Path) (core : ℕ) (before : List Path) (u d r f : Bool) → p.core ≡ Some core → has_wrong_core net p.place.flow p.core ≡ false → 0 < p.place.slot → AreUpTo p.place.slot before
      → PathsAreMarked net marks before → u ≡ not (get_or marks.up.items p.place.flow.src 0 == p.place.slot) → d ≡ not (get_or marks.down.items p.place.flow.dst 0 == p.place.slot)
      → r ≡ not (get_or marks.rise.items (rack_of net.hosts p.place.flow.src * net.cores + core) 0 == p.place.slot) → f ≡ not (get_or marks.fall.items (rack_of net.hosts p.place.flow.dst * net.cores + core) 0 == p.place.slot)
      → (((u && d) && r) && f) ≡ not (list_any (share_a_link net p) before)
  leave-free marks p core before u d r f some right late upto marked u_is d_is r_is f_is =
      let slot = p.place.slot in
      let leaves = right-some p core some right in
      let U : u ≡ not (list_any (up_taken p) before) = u_is ∙ ap not (marked.up slot p.place.flow.src late upto) in
      let D : d ≡ not (list_any (down_taken p) before) = d_is ∙ ap not (marked.down slot p.place.flow.dst late upto) in
      let R : r ≡ not (list_any (rise_taken p core) before) = r_is ∙ ap not (marked.rise slot (rack_of net.hosts p.place.flow.src * net.cores + core) late upto) in
      let F : f ≡ not (list_any (fall_taken p core) before) = f_is ∙ ap not (marked.fall slot (rack_of net.hosts p.place.flow.dst * net.cores + core) late upto) in
      ap (λ (b : Bool). ((b && d) && r) && f) U
      ∙ (ap (λ (b : Bool). ((not (list_any (up_taken p) before) && b) && r) && f) D
      ∙ (ap (λ (b : Bool). ((not (list_any (up_taken p) before) && not (list_any (down_taken p) before)) && b) && f) R
      ∙ (ap (λ (b : Bool). ((not (list_any (up_taken p) before) && not (list_any (down_taken p) before)) && not (list_any (rise_taken p core) before)) && b) F
      ∙ (each-free (list_any (up_taken p) before) (list_any (down_taken p) before) (list_any (rise_taken p core) before) (list_any (fall_taken p core) before)
      ∙ ap not (sym (leave-any p core before leaves.0 some leaves.1 marked.cores))))))

  pub stay-free : (marks : Links) (p : Path) (before : List Path) (u d : Bool) → p.core ≡ None → has_wrong_core net p.place.flow p.core ≡ false → 0 < p.place.slot → AreUpTo p.place.slot before
      → PathsAreMarked net marks before → u ≡ not (get_or marks.up.items p.place.flow.src 0 == p.place.slot) → d ≡ not (get_or marks.down.items p.place.flow.dst 0 == p.place.slot)
      → (u && d) ≡ not (list_any (share_a_link net p) before)
  stay-free marks p before u d none right late upto marked u_is d_is =
      let slot = p.place.slot in
      ap (λ (b : Bool). b && d) (u_is ∙ ap not (marked.up slot p.place.flow.src late upto))
      ∙ (ap (λ (b : Bool). not (list_any (up_taken p) before) && b) (d_is ∙ ap not (marked.down slot p.place.flow.dst late upto))
      ∙ (neither (list_any (up_taken p) before) (list_any (down_taken p) before) ∙ ap not (sym (stay-any p before (right-none p none right)))))

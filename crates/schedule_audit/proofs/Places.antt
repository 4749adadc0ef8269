-- The slots and sends of a text are good, one by one.
use Rattle.std.proofs.Common.{◌≡◌, ◌≢◌, ◌==◌, ◌&&◌, ◌||◌, not, ℕ, List, [], ◌∷◌, ◌++◌, map, length, Bool, true, false, Option, Some, All, AllPairs, refl, sym, ap, ◌∙◌, inl, inr, arith}
use Rattle.std.specs.List.{list_any, slice_get}
use Rattle.std.proofs.lemmas.Bool.{cases_eq, eq-eqb, ne_eqb, and_from, and_left, and_right, or_from}
use Rattle.std.proofs.lemmas.List.{append_assoc, length-append}
use Rattle.std.proofs.lemmas.List.Elements.{All-cons, All-head, All-tail, All-weaker}
use Rattle.std.proofs.lemmas.List.Folds.{list_any_none}
use Rattle.greedy_rules.proofs.Facts.{same_flow-refl}
use Rattle.list_facts.proofs.Pairs.{AllPairs-head, AllPairs-tail}
use Rattle.clos_topology.specs.Network.{Network}
use Rattle.greedy_rules.specs.Flows.{same_flow}
use Rattle.schedule_audit.specs.Lines.{Place, Path}
use Rattle.schedule_audit.specs.Wrong.{Expected, same_place, is_at, share_a_link, has_wrong_core}
use Rattle.schedule_audit.specs.Laws.{GoodPaths, GoodSends}

get-at : {X : Type 0} (front : List X) (x : X) (rest : List X) → slice_get (front ++ x ∷ rest) (length front) ≡ Some x
get-at [] x rest = refl
get-at (y ∷ front) x rest = get-at front x rest

place-refl : (p : Place) → same_place p p ≡ true
place-refl p = and_from (p.slot == p.slot) (same_flow p.flow p.flow) (eq-eqb p.slot p.slot refl) (same_flow-refl p.flow)

abbrev pub NoShare : Network → Path → Path → Type 0
NoShare net p q = share_a_link net q p ≡ false

pub good_paths : (net : Network) (expected : Expected) (front : List Place) (before ps : List Path) → expected.places ≡ front ++ map (λ p. p.place) ps → length front ≡ length before
    → All (λ p. has_wrong_core net p.place.flow p.core ≡ false) ps → AllPairs (NoShare net) ps → All (λ q. All (NoShare net q) ps) before → GoodPaths net expected before ps
good_paths net expected front before [] places long cores apart cross = tt
good_paths net expected front before (p ∷ ps) places long cores apart cross =
    let C : Path → Type 0 = λ x. has_wrong_core net x.place.flow x.core ≡ false in
    let later : List Place = map (λ (x : Path). x.place) ps in
    let there : slice_get expected.places (length before) ≡ Some p.place =
    ap (λ (xs : List Place). slice_get xs (length before)) places ∙ (ap (λ (n : ℕ). slice_get (front ++ p.place ∷ later) n) (sym long) ∙ get-at front p.place later) in
    let at : is_at (slice_get expected.places (length before)) p.place ≡ true = ap (λ (o : Option Place). is_at o p.place) there ∙ place-refl p.place in
    let shares : list_any (share_a_link net p) before ≡ false = list_any_none (share_a_link net p) before
    (All-weaker (λ q. All (NoShare net q) (p ∷ ps)) (λ q. share_a_link net p q ≡ false) (λ q all. All-head (NoShare net q) p ps all) before cross) in (
      or_from (not (is_at (slice_get expected.places (length before)) p.place)) (has_wrong_core net p.place.flow p.core || list_any (share_a_link net p) before) (ap not at)
          (or_from (has_wrong_core net p.place.flow p.core) (list_any (share_a_link net p) before) (All-head C p ps cores) shares),
      good_paths net expected (front ++ p.place ∷ []) (p ∷ before) ps (places ∙ sym (append_assoc front (p.place ∷ []) later)) (length-append front (p.place ∷ []) ∙ omega arith)
          (All-tail C p ps cores) (AllPairs-tail (NoShare net) p ps apart)
          (All-cons (λ q. All (NoShare net q) ps) p before (AllPairs-head (NoShare net) p ps apart)
          (All-weaker (λ q. All (NoShare net q) (p ∷ ps)) (λ q. All (NoShare net q) ps) (λ q all. All-tail (NoShare net q) p ps all) before cross)),
    )

abbrev pub Once : Place → Place → Type 0
Once s t = s.slot ≡ t.slot → s.flow.src ≢ t.flow.src

differ : (s t : Place) → Once s t → ((s.slot == t.slot) && (s.flow.src == t.flow.src)) ≡ false
differ s t once = elim (cases_eq s.slot t.slot) [
  | inl same ↦ and_right (s.slot == t.slot) (s.flow.src == t.flow.src) (ne_eqb s.flow.src t.flow.src (once same))
  | inr other ↦ and_left (s.slot == t.slot) (s.flow.src == t.flow.src) (ne_eqb s.slot t.slot other)
]

pub good_sends : (expected : Expected) (before ss : List Place) → All (λ s. list_any (same_place s) expected.places ≡ true) ss → AllPairs Once ss → All (λ q. All (Once q) ss) before → GoodSends expected before ss
good_sends expected before [] scheduled once cross = tt
good_sends expected before (s ∷ ss) scheduled once cross =
    let S : Place → Type 0 = λ x. list_any (same_place x) expected.places ≡ true in
    let t : Place → Bool = λ other. (other.slot == s.slot) && (other.flow.src == s.flow.src) in (
      or_from (not (list_any (same_place s) expected.places)) (list_any t before) (ap not (All-head S s ss scheduled))
          (list_any_none t before (All-weaker (λ q. All (Once q) (s ∷ ss)) (λ q. t q ≡ false) (λ q all. differ q s (All-head (Once q) s ss all)) before cross)),
      good_sends expected (s ∷ before) ss (All-tail S s ss scheduled) (AllPairs-tail Once s ss once)
          (All-cons (λ q. All (Once q) ss) s before (AllPairs-head Once s ss once) (All-weaker (λ q. All (Once q) (s ∷ ss)) (λ q. All (Once q) ss) (λ q all. All-tail (Once q) s ss all) before cross)),
    )

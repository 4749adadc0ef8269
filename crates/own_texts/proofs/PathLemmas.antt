-- The paths of slots on clean paths: each core is right, and no two paths share a link.
use Rattle.std.proofs.Common.{◌≡◌, ◌≢◌, ◌<◌, ◌≤◌, ◌+◌, ◌-◌, ◌==◌, nat_le, ◌&&◌, ◌||◌, not, ℕ, zero, suc, List, [], ◌∷◌, ◌++◌, map, length, Bool, true, false, Option, Some, None, All, AllPairs, refl, sym, ap, ◌∙◌, subst, inl, inr, arith}
use Rattle.std.specs.Prelude.{Contains, MatchOption}
use Rattle.std.specs.List.{list_any}
use Rattle.std.proofs.lemmas.Bool.{eq-eqb, ne_eqb, eqb-true, and_parts, and_left, and_right, or_from, or_cases, lt-leb, false≢true, false_from_ne_true}
use Rattle.std.proofs.lemmas.List.{map-append}
use Rattle.std.proofs.lemmas.List.Elements.{All-nil, All-cons, All-head, All-tail, All-append, All-weaker}
use Rattle.list_facts.proofs.Pairs.{AllPairs-nil, AllPairs-cons, AllPairs-head, AllPairs-tail, AllPairs-append}
use Rattle.greedy_rules.specs.declared.flows.Flow.{Flow}
use Rattle.greedy_rules.specs.Limits.{rack_of}
use Rattle.greedy_rules.specs.Schedule.{slot_in, slot_at, schedule}
use Rattle.greedy_rules.specs.Batches.{DemandBatch}
use Rattle.clos_topology.specs.Network.{Network}
use Rattle.clos_topology.specs.Links.{Link, up, rise, fall, down, links_of, SharesNoLink, HasItsCore, IsClean}
use Rattle.clos_topology.specs.NetSlots.{SlotCores}
use Rattle.schedule_audit.specs.declared.packets.Place.{Place}
use Rattle.schedule_audit.specs.declared.packets.Path.{Path}
use Rattle.schedule_audit.specs.Wrong.{slot_places_from, same_link, share_a_link, has_wrong_core, links_of_path}
use Rattle.schedule_audit.proofs.Places.{NoShare}
use Rattle.window_engine.specs.Scheduled.{EverySlotIsScheduled, AreClean}
use Rattle.own_texts.proofs.Shows.{path_at, paths_by}

places-slot : (cores : SlotCores) (number : ℕ) (slot : List Flow) → map (λ (p : Path). p.place) (map (path_at number (cores number)) slot) ≡ map (λ flow. record { slot = number; flow = flow }) slot
places-slot cores number [] = refl
places-slot cores number (f ∷ slot) = ap (λ (xs : List Place). record { slot = number; flow = f } ∷ xs) (places-slot cores number slot)

pub places-by : (cores : SlotCores) (number : ℕ) (slots : List (List Flow)) → map (λ (p : Path). p.place) (paths_by cores number slots) ≡ slot_places_from number slots
places-by cores number [] = refl
places-by cores number (slot ∷ slots) =
    map-append (λ (p : Path). p.place) (map (path_at number (cores number)) slot) (paths_by cores (number + 1) slots)
    ∙ (ap (λ (xs : List Place). xs ++ map (λ (p : Path). p.place) (paths_by cores (number + 1) slots)) (places-slot cores number slot)
    ∙ ap (λ (xs : List Place). map (λ (flow : Flow). record { slot = number; flow = flow }) slot ++ xs) (places-by cores (number + 1) slots))

-- the slots of a schedule are clean, by their numbers
pub clean_slots : (b : ℕ) (net : Network) (batches : List DemandBatch) (cores : SlotCores) → EverySlotIsScheduled b net batches cores → AreClean net cores 1 (schedule b batches)
clean_slots b net batches cores scheduled at within =
    let back : 1 + at - 1 ≡ at = omega arith in
    subst (λ (n : ℕ). IsClean net.hosts net.cores (slot_in (schedule b batches) n) (cores (1 + at))) back (scheduled (1 + at) (omega arith) (omega arith)).clean

-- ---- cores

right_core : (net : Network) (flow : Flow) (core : Option ℕ)
    → MatchOption core (rack_of net.hosts flow.src ≡ rack_of net.hosts flow.dst) (λ c. (rack_of net.hosts flow.src ≢ rack_of net.hosts flow.dst) × (c < net.cores)) → has_wrong_core net flow core ≡ false
right_core net flow None is = ap not (eq-eqb (rack_of net.hosts flow.src) (rack_of net.hosts flow.dst) is)
right_core net flow (Some core) is =
    or_from (rack_of net.hosts flow.src == rack_of net.hosts flow.dst) (nat_le net.cores core) (ne_eqb (rack_of net.hosts flow.src) (rack_of net.hosts flow.dst) is.0) (lt-leb net.cores core is.1)

abbrev HasRightCore : Network → Path → Type 0
HasRightCore net p = has_wrong_core net p.place.flow p.core ≡ false

cores-slot : (net : Network) (cores : SlotCores) (number : ℕ) (slot : List Flow) → All (HasItsCore net.hosts net.cores (cores number)) slot → All (HasRightCore net) (map (path_at number (cores number)) slot)
cores-slot net cores number [] all = All-nil (HasRightCore net)
cores-slot net cores number (f ∷ slot) all =
    let H : Flow → Type 0 = HasItsCore net.hosts net.cores (cores number) in
    All-cons (HasRightCore net) (path_at number (cores number) f) (map (path_at number (cores number)) slot) (right_core net f (cores number f.src) (All-head H f slot all))
    (cores-slot net cores number slot (All-tail H f slot all))

first_clean : (net : Network) (cores : SlotCores) (number : ℕ) (slot : List Flow) (slots : List (List Flow)) → AreClean net cores number (slot ∷ slots) → IsClean net.hosts net.cores slot (cores number)
first_clean net cores number slot slots clean = subst (λ (n : ℕ). IsClean net.hosts net.cores slot (cores n)) (omega arith) (clean 0 (omega arith))

later_clean : (net : Network) (cores : SlotCores) (number : ℕ) (slot : List Flow) (slots : List (List Flow)) → AreClean net cores number (slot ∷ slots) → AreClean net cores (number + 1) slots
later_clean net cores number slot slots clean at within =
    let same : number + suc at ≡ number + 1 + at = omega arith in
    subst (λ (n : ℕ). IsClean net.hosts net.cores (slot_in slots at) (cores n)) same (clean (suc at) (omega arith))

pub cores-by : (net : Network) (cores : SlotCores) (number : ℕ) (slots : List (List Flow)) → AreClean net cores number slots → All (λ (p : Path). has_wrong_core net p.place.flow p.core ≡ false) (paths_by cores number slots)
cores-by net cores number [] clean = All-nil (HasRightCore net)
cores-by net cores number (slot ∷ slots) clean =
    All-append (HasRightCore net) (map (path_at number (cores number)) slot) (paths_by cores (number + 1) slots)
    (cores-slot net cores number slot (first_clean net cores number slot slots clean).named)
    (cores-by net cores (number + 1) slots (later_clean net cores number slot slots clean))

-- ---- links

link-true : (l m : Link) → same_link l m ≡ true → l ≡ m
link-true (up a) (up b) same = ap up (eqb-true a b same)
link-true (up a) (rise b d) same = absurd (false≢true same)
link-true (up a) (fall b d) same = absurd (false≢true same)
link-true (up a) (down b) same = absurd (false≢true same)
link-true (rise a c) (up b) same = absurd (false≢true same)
link-true (rise a c) (rise b d) same = let p = and_parts (a == b) (c == d) same in ap (λ (n : ℕ). rise n c) (eqb-true a b p.0) ∙ ap (λ (n : ℕ). rise b n) (eqb-true c d p.1)
link-true (rise a c) (fall b d) same = absurd (false≢true same)
link-true (rise a c) (down b) same = absurd (false≢true same)
link-true (fall a c) (up b) same = absurd (false≢true same)
link-true (fall a c) (rise b d) same = absurd (false≢true same)
link-true (fall a c) (fall b d) same = let p = and_parts (a == b) (c == d) same in ap (λ (n : ℕ). fall n c) (eqb-true a b p.0) ∙ ap (λ (n : ℕ). fall b n) (eqb-true c d p.1)
link-true (fall a c) (down b) same = absurd (false≢true same)
link-true (down a) (up b) same = absurd (false≢true same)
link-true (down a) (rise b d) same = absurd (false≢true same)
link-true (down a) (fall b d) same = absurd (false≢true same)
link-true (down a) (down b) same = ap down (eqb-true a b same)

contains-cons : (y x : Link) (xs : List Link) → Contains xs x → Contains (y ∷ xs) x
contains-cons y x xs c = (suc c.0, omega (arith, c.1), c.2)

any-contains : (f : Link → Bool) (xs : List Link) → list_any f xs ≡ true → (x : Link) × Contains xs x × (f x ≡ true)
any-contains f [] none = absurd (false≢true none)
any-contains f (x ∷ xs) some = elim (or_cases (f x) (list_any f xs) some) [
  | inl here ↦ (x, (0, omega arith, refl), here)
  | inr there ↦ let it = any-contains f xs there in (it.0, contains-cons x it.0 xs it.1, it.2)
]

no_common : (xs ys : List Link) → SharesNoLink ys xs → list_any (λ l. list_any (same_link l) ys) xs ≡ false
no_common xs ys apart = false_from_ne_true (list_any (λ l. list_any (same_link l) ys) xs) (λ some.
    let one = any-contains (λ l. list_any (same_link l) ys) xs some in
    let other = any-contains (same_link one.0) ys one.2 in
    let same : one.0 ≡ other.0 = link-true one.0 other.0 other.2 in
    apart other.0 other.1 (subst (λ (l : Link). Contains xs l) same one.1))

apart-one : (net : Network) (cores : SlotCores) (number : ℕ) (f : Flow) (slot : List Flow) → All (λ g. SharesNoLink (links_of net.hosts (cores number) f) (links_of net.hosts (cores number) g)) slot
    → All (NoShare net (path_at number (cores number) f)) (map (path_at number (cores number)) slot)
apart-one net cores number f [] all = All-nil (NoShare net (path_at number (cores number) f))
apart-one net cores number f (g ∷ slot) all =
    let R : Flow → Type 0 = λ x. SharesNoLink (links_of net.hosts (cores number) f) (links_of net.hosts (cores number) x) in
    let p : Path = path_at number (cores number) f in
    let q : Path = path_at number (cores number) g in
    All-cons (NoShare net p) q (map (path_at number (cores number)) slot)
    (and_right (number == number) (list_any (λ l. list_any (same_link l) (links_of_path net p)) (links_of_path net q)) (no_common (links_of_path net q) (links_of_path net p) (All-head R g slot all)))
    (apart-one net cores number f slot (All-tail R g slot all))

apart-slot : (net : Network) (cores : SlotCores) (number : ℕ) (slot : List Flow) → AllPairs (λ f g. SharesNoLink (links_of net.hosts (cores number) f) (links_of net.hosts (cores number) g)) slot
    → AllPairs (NoShare net) (map (path_at number (cores number)) slot)
apart-slot net cores number [] pairs = AllPairs-nil (NoShare net)
apart-slot net cores number (f ∷ slot) pairs =
    let R : Flow → Flow → Type 0 = λ x y. SharesNoLink (links_of net.hosts (cores number) x) (links_of net.hosts (cores number) y) in
    AllPairs-cons (NoShare net) (path_at number (cores number) f) (map (path_at number (cores number)) slot) (apart-one net cores number f slot (AllPairs-head R f slot pairs))
    (apart-slot net cores number slot (AllPairs-tail R f slot pairs))

at_number : (cores : SlotCores) (number : ℕ) (slot : List Flow) → All (λ (p : Path). p.place.slot ≡ number) (map (path_at number (cores number)) slot)
at_number cores number [] = All-nil (λ (p : Path). p.place.slot ≡ number)
at_number cores number (f ∷ slot) =
    All-cons (λ (p : Path). p.place.slot ≡ number) (path_at number (cores number) f) (map (path_at number (cores number)) slot) refl (at_number cores number slot)

from_number : (cores : SlotCores) (number : ℕ) (slots : List (List Flow)) → All (λ (p : Path). number ≤ p.place.slot) (paths_by cores number slots)
from_number cores number [] = All-nil (λ (p : Path). number ≤ p.place.slot)
from_number cores number (slot ∷ slots) =
    let P : Path → Type 0 = λ p. number ≤ p.place.slot in
    All-append P (map (path_at number (cores number)) slot) (paths_by cores (number + 1) slots)
    (All-weaker (λ (p : Path). p.place.slot ≡ number) P (λ p at. omega arith) (map (path_at number (cores number)) slot) (at_number cores number slot))
    (All-weaker (λ (p : Path). number + 1 ≤ p.place.slot) P (λ p from. omega arith) (paths_by cores (number + 1) slots) (from_number cores (number + 1) slots))

pub apart-by : (net : Network) (cores : SlotCores) (number : ℕ) (slots : List (List Flow)) → AreClean net cores number slots → AllPairs (λ (p q : Path). share_a_link net q p ≡ false) (paths_by cores number slots)
apart-by net cores number [] clean = AllPairs-nil (NoShare net)
apart-by net cores number (slot ∷ slots) clean =
    let here : List Path = map (path_at number (cores number)) slot in
    let later : List Path = paths_by cores (number + 1) slots in
    AllPairs-append (NoShare net) here later (apart-slot net cores number slot (first_clean net cores number slot slots clean).apart)
    (apart-by net cores (number + 1) slots (later_clean net cores number slot slots clean))
    (All-weaker (λ (p : Path). p.place.slot ≡ number) (λ p. All (NoShare net p) later)
    (λ p at. All-weaker (λ (q : Path). number + 1 ≤ q.place.slot) (NoShare net p)
    (λ q from. and_left (q.place.slot == p.place.slot) (list_any (λ l. list_any (same_link l) (links_of_path net p)) (links_of_path net q)) (ne_eqb q.place.slot p.place.slot (λ same. absurd (omega arith))))
    later (from_number cores (number + 1) slots))
    here (at_number cores number slot))

-- Of a matching's flows no more leave a rack than it has endpoints, nor do more come into it. So a rack with as many cores as
-- endpoints has one left for each endpoint that is free.
use Rattle.std.proofs.Common.{◌≡◌, ◌≢◌, ◌<◌, ◌≤◌, ◌+◌, ◌*◌, ◌%◌, ℕ, zero, suc, List, [], ◌∷◌, length, Bool, true, false, not, ◌==◌, ◌||◌, nat_eq, nat_lt, cond, All, AllPairs, refl, sym, ap, ◌∙◌, arith, inl, inr}
use Rattle.std.specs.List.{list_any, count_by}
use Rattle.std.proofs.Math.Nat.{div-zero, mod-lt}
use Rattle.std.proofs.lemmas.Bool.{cond_both, and_parts, and_from, or_cases, eqb-true, eq-eqb, lt-ltb, both_ways}
use Rattle.std.proofs.lemmas.Bool.Decides.{Decides-eqb}
use Rattle.std.proofs.lemmas.Nat.{div-add-mod'}
use Rattle.std.proofs.lemmas.List.Elements.{All-nil, All-cons, All-head, All-tail}
use Rattle.std.proofs.lemmas.List.Sums.{sum_by-cons}
use Rattle.std.proofs.lemmas.Map.Made.{IsDistinct-from_AllPairs}
use Rattle.std.proofs.lemmas.Map.Steps.{length-le_from_distinct_below}
use Rattle.greedy_rules.specs.declared.flows.Flow.{Flow}
use Rattle.greedy_rules.specs.declared.limits.Limits.{Limits}
use Rattle.greedy_rules.specs.Slot.{is_taken, slot_with}
use Rattle.greedy_rules.specs.Limits.{rack_of, is_outward, leaves, enters, leaving, entering, lacks_core}
use Rattle.greedy_rules.specs.Matching.{IsMatching}
use Rattle.greedy_rules.proofs.Facts.{Apart, apart_from_all, IsMatching-slot_with, count-slot_with}
use Rattle.list_facts.proofs.Pairs.{AllPairs-nil, AllPairs-cons, AllPairs-head, AllPairs-tail}

-- flows that have one of their ends in this rack, no two of them in one endpoint
module _ (hosts rack : ℕ) (some : 0 < hosts) (end : Flow → ℕ) (ends_here : Flow → Bool) (here : (flow : Flow) → ends_here flow ≡ true → rack_of hosts (end flow) ≡ rack)
    (apart : (f g : Flow) → Apart f g → end f ≢ end g) where
  -- the places of these ends within the rack
  abbrev places : List Flow → List ℕ
  places [] = []
  places (flow ∷ slot) = cond (ends_here flow) (end flow % hosts ∷ places slot) (places slot)

  places-count : (slot : List Flow) → length (places slot) ≡ count_by ends_here slot
  places-count [] = refl
  places-count (flow ∷ slot) =
      cond_both (ends_here flow) (end flow % hosts ∷ places slot) (places slot) (λ xs. length xs ≡ count_by ends_here (flow ∷ slot))
      (λ is. omega (arith, places-count slot, sum_by-cons (λ f. cond (ends_here f) 1 0) flow slot, ap (λ (b : Bool). cond {A = ℕ} b 1 0) is))
      (λ is. omega (arith, places-count slot, sum_by-cons (λ f. cond (ends_here f) 1 0) flow slot, ap (λ (b : Bool). cond {A = ℕ} b 1 0) is))

  one_end : (f g : Flow) → ends_here f ≡ true → ends_here g ≡ true → end f % hosts ≡ end g % hosts → end f ≡ end g
  one_end f g f_here g_here same =
      sym (div-add-mod' (end f) hosts)
      ∙ (ap (λ (r : ℕ). r * hosts + end f % hosts) (here f f_here ∙ sym (here g g_here)) ∙ (ap (λ (p : ℕ). rack_of hosts (end g) * hosts + p) same ∙ div-add-mod' (end g) hosts))

  other_places : (flow : Flow) (slot : List Flow) → ends_here flow ≡ true → All (Apart flow) slot → All (λ place. end flow % hosts ≢ place) (places slot)
  other_places flow [] is others = All-nil (λ place. end flow % hosts ≢ place)
  other_places flow (next ∷ slot) is others =
      let rest = other_places flow slot is (All-tail (Apart flow) next slot others) in
      cond_both (ends_here next) (end next % hosts ∷ places slot) (places slot) (All (λ place. end flow % hosts ≢ place))
      (λ next_is. All-cons (λ place. end flow % hosts ≢ place) (end next % hosts) (places slot)
      (λ same. apart flow next (All-head (Apart flow) next slot others) (one_end flow next is next_is same)) rest)
      (λ _. rest)

  places_differ : (slot : List Flow) → IsMatching slot → AllPairs (λ a b. a ≢ b) (places slot)
  places_differ [] matching = AllPairs-nil (λ (a b : ℕ). a ≢ b)
  places_differ (flow ∷ slot) matching =
      let rest = places_differ slot (AllPairs-tail Apart flow slot matching) in
      cond_both (ends_here flow) (end flow % hosts ∷ places slot) (places slot) (AllPairs (λ a b. a ≢ b))
      (λ is. AllPairs-cons (λ (a b : ℕ). a ≢ b) (end flow % hosts) (places slot) (other_places flow slot is (AllPairs-head Apart flow slot matching)) rest)
      (λ _. rest)

  places_below : (slot : List Flow) (q : ℕ) → list_any (nat_eq q) (places slot) ≡ true → q < hosts
  places_below [] q = λ found. absurd (both_ways false refl found)
  places_below (flow ∷ slot) q =
      cond_both (ends_here flow) (end flow % hosts ∷ places slot) (places slot) (λ xs. list_any (nat_eq q) xs ≡ true → q < hosts)
      (λ _ found. elim (or_cases (nat_eq q (end flow % hosts)) (list_any (nat_eq q) (places slot)) found) [
        | inl is ↦ let this : q ≡ end flow % hosts = eqb-true _ _ is in omega (arith, this, mod-lt (end flow) some)
        | inr later ↦ places_below slot q later
      ])
      (λ _ found. places_below slot q found)

  few_end_here : (slot : List Flow) → IsMatching slot → count_by ends_here slot ≤ hosts
  few_end_here slot matching =
      omega (
        arith,
        places-count slot,
        length-le_from_distinct_below (places slot) hosts (IsDistinct-from_AllPairs Decides-eqb (places slot) (places_differ slot matching)) (places_below slot),
      )

  -- so there are fewer where one more could be added
  fewer_end_here : (slot : List Flow) (flow : Flow) → IsMatching slot → is_taken slot flow ≡ false → ends_here flow ≡ true → count_by ends_here slot < hosts
  fewer_end_here slot flow matching free is =
      omega (
        arith,
        few_end_here (slot_with flow slot) (IsMatching-slot_with flow slot (apart_from_all slot flow free) matching),
        count-slot_with ends_here flow slot,
        ap (λ (b : Bool). cond {A = ℕ} b 1 0) is,
      )

some_hosts : (hosts : ℕ) (flow : Flow) → is_outward hosts flow ≡ true → 0 < hosts
some_hosts zero flow outward =
    let level : (rack_of zero flow.src == rack_of zero flow.dst) ≡ true = eq-eqb _ _ (div-zero flow.src ∙ sym (div-zero flow.dst)) in
    absurd (both_ways (is_outward zero flow) (ap not level) outward)
some_hosts (suc hosts) flow outward = omega arith

none_lacks : (up down : ℕ) (cores : ℕ) → up < cores → down < cores → (not (nat_lt up cores) || not (nat_lt down cores)) ≡ false
none_lacks up down cores up_left down_left =
    ap (λ (b : Bool). not b || not (nat_lt down cores)) (lt-ltb up cores up_left) ∙ ap not (lt-ltb down cores down_left)

-- a flow whose ends are free finds a core in both racks
pub core_for_each : (limits : Limits) (slot : List Flow) (flow : Flow) → limits.hosts ≤ limits.cores → IsMatching slot → is_taken slot flow ≡ false → is_outward limits.hosts flow ≡ true
    → lacks_core limits slot flow ≡ false
core_for_each limits slot flow enough matching free outward =
    let hosts : ℕ = limits.hosts in
    let from : ℕ = rack_of hosts flow.src in
    let into : ℕ = rack_of hosts flow.dst in
    let some : 0 < hosts = some_hosts hosts flow outward in
    let up : leaving hosts from slot < hosts =
    fewer_end_here hosts from some (λ f. f.src) (leaves hosts from) (λ f is. eqb-true _ _ (and_parts (is_outward hosts f) (rack_of hosts f.src == from) is).1) (λ f g apart. apart.0) slot flow
    matching free (and_from _ _ outward (eq-eqb from from refl)) in
    let down : entering hosts into slot < hosts =
    fewer_end_here hosts into some (λ f. f.dst) (enters hosts into) (λ f is. eqb-true _ _ (and_parts (is_outward hosts f) (rack_of hosts f.dst == into) is).1) (λ f g apart. apart.1) slot flow
    matching free (and_from _ _ outward (eq-eqb into into refl)) in
    none_lacks (leaving hosts from slot) (entering hosts into slot) limits.cores (omega (arith, up, enough)) (omega (arith, down, enough))

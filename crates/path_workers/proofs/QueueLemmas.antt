-- Each step of the job queue keeps its rule.
use Rattle.std.proofs.Common.{◌≡◌, ℕ, zero, suc, ◌+◌, ◌-◌, ◌<◌, ◌≤◌, List, [], ◌∷◌, ◌++◌, length, set, refl, sym, ap, ◌∙◌, subst, ⊎_elim, arith}
use mathlib.Core.Option.{some, some-ne-none, some-injective}
use lib.ListN.{get_elem?}
use Rattle.crossbeam_queue.specs.Fifo.{Pushes, Pops, Forks, Merges, Learns, Held}
use Rattle.crossbeam_queue.proofs.Lists.{at_set, at_snoc}
use Rattle.path_workers.specs.declared.jobs.Job.{Job}
use Rattle.path_workers.specs.declared.jobs.Hand.{Hand}
use Rattle.path_workers.specs.Jobs.{hand, weigh, total_of_views, SpentIsEmpty, Balanced, Even}

pub weigh-append : (h : Job → ℕ) (xs ys : List Job) → weigh h (xs ++ ys) ≡ weigh h xs + weigh h ys
weigh-append h [] ys = omega arith
weigh-append h (x ∷ xs) ys = let r = weigh-append h xs ys in omega arith

total_set : (f : Hand → ℕ) (views : List Hand) (port : ℕ) (v w : Hand) → get_elem? views port ≡ some v → total_of_views f (set views port w) + f v ≡ total_of_views f views + f w
total_set f [] port v w at = absurd (some-ne-none v (sym at))
total_set f (x ∷ xs) zero v w at = let e : f x ≡ f v = ap f (some-injective x v at) in omega arith
total_set f (x ∷ xs) (suc port) v w at = let r = total_set f xs port v w at in omega arith

total_snoc : (f : Hand → ℕ) (views : List Hand) (v : Hand) → total_of_views f (views ++ v ∷ []) ≡ total_of_views f views + f v
total_snoc f [] v = omega arith
total_snoc f (x ∷ xs) v = let r = total_snoc f xs v in omega arith

spent_set : (views : List Hand) (port : ℕ) (w : Hand) → (w.parts ≡ 0 → (w.put ≡ []) × (w.taken ≡ [])) → SpentIsEmpty views → SpentIsEmpty (set views port w)
spent_set views port w mine others j u e none =
    ⊎_elim (λ a. subst (λ (y : Hand). y.parts ≡ 0 → (y.put ≡ []) × (y.taken ≡ [])) a.1 mine none) (λ b. others j u b.1 none) (at_set views port j w u e)

spent_snoc : (views : List Hand) (w : Hand) → (w.parts ≡ 0 → (w.put ≡ []) × (w.taken ≡ [])) → SpentIsEmpty views → SpentIsEmpty (views ++ w ∷ [])
spent_snoc views w mine others j u e none =
    ⊎_elim (λ a. others j u a none) (λ b. subst (λ (y : Hand). y.parts ≡ 0 → (y.put ≡ []) × (y.taken ≡ [])) b mine none) (at_snoc views w u j e)

-- where no pass has a part, none has done anything
none_did : (f : Hand → ℕ) (views : List Hand) → ((j : ℕ) (u : Hand) → get_elem? views j ≡ some u → u.parts ≡ 0 → f u ≡ 0) → total_of_views (λ v. v.parts) views ≡ 0 → total_of_views f views ≡ 0
none_did f [] zeros none = refl
none_did f (x ∷ xs) zeros none =
    let a : f x ≡ 0 = zeros 0 x refl (omega arith) in
    let b = none_did f xs (λ j u e. zeros (suc j) u e) (omega arith) in
    omega arith

at_most : (views : List Hand) (port : ℕ) (v : Hand) → get_elem? views port ≡ some v → v.parts ≤ total_of_views (λ u. u.parts) views
at_most [] port v at = absurd (some-ne-none v (sym at))
at_most (x ∷ xs) zero v at = let e : x.parts ≡ v.parts = ap (λ (y : Hand). y.parts) (some-injective x v at) in omega arith
at_most (x ∷ xs) (suc port) v at = let r = at_most xs port v at in omega arith

-- where one pass has every part, it did all that was done
alone : (f : Hand → ℕ) (views : List Hand) (port : ℕ) (v : Hand) → get_elem? views port ≡ some v → ((j : ℕ) (u : Hand) → get_elem? views j ≡ some u → u.parts ≡ 0 → f u ≡ 0)
    → total_of_views (λ u. u.parts) views ≡ v.parts → total_of_views f views ≡ f v
alone f [] port v at zeros every = absurd (some-ne-none v (sym at))
alone f (x ∷ xs) zero v at zeros every =
    let e : x.parts ≡ v.parts = ap (λ (y : Hand). y.parts) (some-injective x v at) in
    let e' : f x ≡ f v = ap f (some-injective x v at) in
    let r = none_did f xs (λ j u e. zeros (suc j) u e) (omega arith) in
    omega arith
alone f (x ∷ xs) (suc port) v at zeros every =
    let m = at_most xs port v at in
    let a : f x ≡ 0 = zeros 0 x refl (omega arith) in
    let r = alone f xs port v at (λ j u e. zeros (suc j) u e) (omega arith) in
    omega arith

pub begins : Balanced [] (hand 17 [] [] ∷ [])
begins = record { parts = refl; weighs = λ h. refl; spent = first } where
  first : SpentIsEmpty (hand 17 [] [] ∷ [])
  first zero v e none = let p : 17 ≡ v.parts = ap (λ (y : Hand). y.parts) (some-injective (hand 17 [] []) v e) in absurd (omega arith)
  first (suc j) v e none = absurd (some-ne-none v (sym e))

pub puts : (n port : ℕ) (v : Hand) (x : Job) → 0 < v.parts → Pushes Balanced n port v x (λ w. w ≡ hand v.parts (v.put ++ x ∷ []) v.taken)
puts n port v x some_part items views room b at =
    let w : Hand = hand v.parts (v.put ++ x ∷ []) v.taken in (
      w,
      record {
        parts = let s = total_set (λ u. u.parts) views port v w at in let p = b.parts in omega arith;
        weighs = λ h.
            let s = total_set (λ u. weigh h u.put) views port v w at in
            let t = total_set (λ u. weigh h u.taken) views port v w at in
            let p = b.weighs h in
            let q = weigh-append h v.put (x ∷ []) in
            let r = weigh-append h items (x ∷ []) in
            omega arith;
        spent = spent_set views port w (λ none. absurd (omega arith)) b.spent;
      },
      refl,
    )

pub takes : (port : ℕ) (v : Hand) → 0 < v.parts → Pops Balanced port v (λ x w. w ≡ hand v.parts v.put (v.taken ++ x ∷ []))
takes port v some_part x items views b at =
    let w : Hand = hand v.parts v.put (v.taken ++ x ∷ []) in (
      w,
      record {
        parts = let s = total_set (λ u. u.parts) views port v w at in let p = b.parts in omega arith;
        weighs = λ h.
            let s = total_set (λ u. weigh h u.put) views port v w at in
            let t = total_set (λ u. weigh h u.taken) views port v w at in
            let p = b.weighs h in
            let q = weigh-append h v.taken (x ∷ []) in
            omega arith;
        spent = spent_set views port w (λ none. absurd (omega arith)) b.spent;
      },
      refl,
    )

pub forks : (port : ℕ) (v : Hand) → 1 < v.parts → Forks Balanced port v (hand (v.parts - 1) v.put v.taken) (hand 1 [] [])
forks port v two items views b at =
    let l : Hand = hand (v.parts - 1) v.put v.taken in
    let r : Hand = hand 1 [] [] in
    let vs : List Hand = set views port l in
    record {
      parts = let s = total_set (λ u. u.parts) views port v l at in let t = total_snoc (λ u. u.parts) vs r in let p = b.parts in omega arith;
      weighs = λ h.
          let s = total_set (λ u. weigh h u.put) views port v l at in
          let s' = total_snoc (λ u. weigh h u.put) vs r in
          let t = total_set (λ u. weigh h u.taken) views port v l at in
          let t' = total_snoc (λ u. weigh h u.taken) vs r in
          let p = b.weighs h in
          omega arith;
      spent = spent_snoc vs r (λ none. absurd (omega arith)) (spent_set views port l (λ none. absurd (omega arith)) b.spent);
    }

-- every part goes over
pub hands_over : (port : ℕ) (v : Hand) → 0 < v.parts → Forks Balanced port v (hand 0 [] []) v
hands_over port v some_part items views b at =
    let l : Hand = hand 0 [] [] in
    let vs : List Hand = set views port l in
    record {
      parts = let s = total_set (λ u. u.parts) views port v l at in let t = total_snoc (λ u. u.parts) vs v in let p = b.parts in omega arith;
      weighs = λ h.
          let s = total_set (λ u. weigh h u.put) views port v l at in
          let s' = total_snoc (λ u. weigh h u.put) vs v in
          let t = total_set (λ u. weigh h u.taken) views port v l at in
          let t' = total_snoc (λ u. weigh h u.taken) vs v in
          let p = b.weighs h in
          omega arith;
      spent = spent_snoc vs v (λ none. absurd (omega arith)) (spent_set views port l (λ none. (refl, refl)) b.spent);
    }

pub merges : (port : ℕ) (v : Hand) (other : ℕ) (u : Hand) → 0 < v.parts + u.parts → Merges Balanced port v other u (hand (v.parts + u.parts) (v.put ++ u.put) (v.taken ++ u.taken)) (hand 0 [] [])
merges port v other u some_part items views b at apart at' =
    let w : Hand = hand (v.parts + u.parts) (v.put ++ u.put) (v.taken ++ u.taken) in
    let z : Hand = hand 0 [] [] in
    let vs : List Hand = set views port w in
    record {
      parts = let s = total_set (λ y. y.parts) views port v w at in let t = total_set (λ y. y.parts) vs other u z at' in let p = b.parts in omega arith;
      weighs = λ h.
          let s = total_set (λ y. weigh h y.put) views port v w at in
          let s' = total_set (λ y. weigh h y.put) vs other u z at' in
          let t = total_set (λ y. weigh h y.taken) views port v w at in
          let t' = total_set (λ y. weigh h y.taken) vs other u z at' in
          let q = weigh-append h v.put u.put in
          let r = weigh-append h v.taken u.taken in
          let p = b.weighs h in
          omega arith;
      spent = spent_set vs other z (λ none. (refl, refl)) (spent_set views port w (λ none. absurd (omega arith)) b.spent);
    }

pub learns : (port : ℕ) (v : Hand) → v.parts ≡ 17 → Learns Balanced port v (Even v)
learns port v all items views b at = λ h.
    let every : total_of_views (λ u. u.parts) views ≡ v.parts = b.parts ∙ sym all in
    let p = b.weighs h in
    let s = alone (λ u. weigh h u.put) views port v at (λ j u e none. ap (weigh h) (b.spent j u e none).0) every in
    let t = alone (λ u. weigh h u.taken) views port v at (λ j u e none. ap (weigh h) (b.spent j u e none).1) every in
    omega arith

pub nothing_left : (v : Hand) → Held 0 (Even v) → (h : Job → ℕ) → weigh h v.put ≡ weigh h v.taken
nothing_left v k h = empty k.0 k.1 (k.2 h) where
  empty : (items : List Job) → length items ≡ 0 → weigh h v.put ≡ weigh h v.taken + weigh h items → weigh h v.put ≡ weigh h v.taken
  empty [] none e = omega arith
  empty (x ∷ xs) none e = absurd (omega arith)

-- The draws of a made trace, and the limits of what is drawn.
use Rattle.std.proofs.Common.{◌≡◌, ◌≢◌, ℕ, zero, suc, ◌+◌, ◌-◌, ◌*◌, ◌<◌, ◌≤◌, List, [], ◌∷◌, ◌++◌, length, map, Bool, true, false, cond, All, refl, sym, ap, ◌∙◌, arith, append-nil, length-append}
use Rattle.std.specs.Prelude.{◌%◌, ◌&&◌, ◌==◌, nat_le, sum_by}
use Rattle.std.specs.List.{flat_map, range_with_len}
use Rattle.std.proofs.Math.Nat.{mod-add-mod, mod-lt}
use Rattle.std.proofs.lemmas.Bool.Decides.{nat_tests}
use Rattle.std.proofs.lemmas.Grind.{flat_map-append}
use Rattle.std.proofs.lemmas.List.{append_assoc, map-append}
use Rattle.std.proofs.lemmas.List.Elements.{All-append, All-cons, All-nil}
use Rattle.std.proofs.lemmas.List.Sums.{sum_by-cons}
use Rattle.list_facts.proofs.Lists.{next_number}
use Rattle.loss_world.specs.declared.fate.Fate.TheVariants.{Lose}
use Rattle.trace_text.specs.Asks.{IsAmong, slots_for}
use Rattle.trace_text.specs.Events.{IsFateAmong}
use Rattle.trace_text.specs.Made.{asks_of_round, drawn, loss_of, losses_of, made_ask, made_asks, made_losses, next_state, other_than, state_after, state_before}
use Rattle.trace_text.specs.declared.ask.Ask.{Ask}
use Rattle.trace_text.specs.declared.events.GivenFate.{GivenFate}

-- draws after draws
pub state_after-add : (a b x : ℕ) → state_after (a + b) x ≡ state_after b (state_after a x)
state_after-add a zero x = let e : a + 0 ≡ a = omega arith in ap (λ n. state_after n x) e
state_after-add a (suc b) x = let e : a + suc b ≡ suc (a + b) = omega arith in ap (λ n. state_after n x) e ∙ ap next_state (state_after-add a b x)

pub range-next : (n : ℕ) → range_with_len 0 (n + 1) ≡ range_with_len 0 n ++ n ∷ []
range-next n = let e : 0 + n ≡ n = omega arith in next_number 0 n ∙ ap (λ k. range_with_len 0 n ++ k ∷ []) e

pub flat_map-more : {X : Type 0} (f : ℕ → List X) (n : ℕ) → flat_map f (range_with_len 0 (n + 1)) ≡ flat_map f (range_with_len 0 n) ++ f n
flat_map-more f n = ap (flat_map f) (range-next n) ∙ flat_map-append f (range_with_len 0 n) (n ∷ []) ∙ ap (λ l. flat_map f (range_with_len 0 n) ++ l) (append-nil (f n))

-- a draw, as the machine makes it
pub next_state-wrapping : (x : ℕ) → (x * 6364136223846793005 % 18446744073709551616 + 1442695040888963407) % 18446744073709551616 ≡ next_state x
unfolding next_state
next_state-wrapping x = mod-add-mod (x * 6364136223846793005) 18446744073709551616 1442695040888963407

-- what is drawn lies below the bound
pub drawn-below : (x below : ℕ) → 0 < below → drawn x below < below
drawn-below x below some = mod-lt _ some

-- what holds of each part holds of all
all-flat : {X : Type 0} (P : X → Type 0) (f : ℕ → List X) (low n : ℕ) → ((i : ℕ) → low ≤ i → i < low + n → All P (f i)) → All P (flat_map f (range_with_len low n))
all-flat P f low zero each = All-nil P
all-flat P f low (suc n) each = All-append P (f low) (flat_map f (range_with_len (low + 1) n)) (each low (omega arith) (omega arith)) (all-flat P f (low + 1) n (λ i le lt. each i (omega arith) (omega arith)))

-- an ask that is made, and its slots
abbrev IsMade : ℕ → Ask → Type 0
IsMade endpoints ask = IsAmong endpoints ask × (ask.slots ≤ 20)

made-ask : (endpoints round x : ℕ) → 2 ≤ endpoints → IsMade endpoints (made_ask endpoints round x)
made-ask endpoints round x some =
    let src = drawn-below (state_after 1 x) endpoints (omega arith) in
    let place = drawn-below (state_after 2 x) (endpoints - 1) (omega arith) in
    let slots = drawn-below (state_after 3 x) 20 (omega arith) in
    let s = drawn (state_after 1 x) endpoints in
    let p = drawn (state_after 2 x) (endpoints - 1) in
    let dst : (other_than s p < endpoints) × (s ≢ other_than s p) = by s p (nat_le s p) refl (omega arith) in
    (record { src = src; dst = dst.0; other = dst.1; some = omega arith }, omega arith)
  where
    by : (s p : ℕ) (b : Bool) → nat_le s p ≡ b → p < endpoints - 1 → (cond b (p + 1) p < endpoints) × (s ≢ cond b (p + 1) p)
    by s p true e low = let le : s ≤ p = grind (arith, nat_tests) in (omega arith, λ same. omega arith)
    by s p false e low = let lt : p < s = grind (arith, nat_tests) in (omega arith, λ same. omega arith)

all-mapped : {X : Type 0} (P : X → Type 0) (f : ℕ → X) (low n : ℕ) → ((i : ℕ) → P (f i)) → All P (map f (range_with_len low n))
all-mapped P f low zero each = All-nil P
all-mapped P f low (suc n) each = All-cons P (f low) (map f (range_with_len (low + 1) n)) (each low) (all-mapped P f (low + 1) n each)

round-made : (endpoints round x : ℕ) → 2 ≤ endpoints → All (IsMade endpoints) (asks_of_round endpoints round x)
round-made endpoints round x some = all-mapped (IsMade endpoints) (λ ask. made_ask endpoints round (state_after (ask * 3) x)) 0 5 (λ ask. made-ask endpoints round (state_after (ask * 3) x) some)

asks-made : (number endpoints rounds : ℕ) → 2 ≤ endpoints → All (IsMade endpoints) (made_asks number endpoints rounds)
asks-made number endpoints rounds some = all-flat (IsMade endpoints) (λ round. asks_of_round endpoints round (state_before number endpoints round)) 0 rounds (λ round le lt. round-made endpoints round _ some)

pub asks-among : (number endpoints rounds : ℕ) → 2 ≤ endpoints → All (IsAmong endpoints) (made_asks number endpoints rounds)
asks-among number endpoints rounds some k d lt = (asks-made number endpoints rounds some k d lt).0

-- a flow asks for at most a hundred slots in a round
slots-few : (endpoints src dst : ℕ) (asks : List Ask) → All (IsMade endpoints) asks → sum_by (slots_for src dst) asks ≤ 20 * length asks
slots-few endpoints src dst [] made = omega arith
slots-few endpoints src dst (ask ∷ asks) made =
    omega (arith, sum_by-cons (slots_for src dst) ask asks, by ((ask.src == src) && (ask.dst == dst)) ask.slots (made 0 ask (omega arith)).1, slots-few endpoints src dst asks (λ k d lt. made (suc k) d (omega arith)))
  where
    by : (b : Bool) (slots : ℕ) → slots ≤ 20 → cond b slots 0 ≤ 20
    by true slots le = le
    by false slots le = omega arith

flat-length : {X : Type 0} (f : ℕ → List X) (low n each : ℕ) → ((i : ℕ) → length (f i) ≡ each) → length (flat_map f (range_with_len low n)) ≡ n * each
flat-length f low zero each is = omega arith
flat-length f low (suc n) each is = omega (arith, length-append (f low) (flat_map f (range_with_len (low + 1) n)), is low, flat-length f (low + 1) n each is)

pub asks-count : (number endpoints rounds : ℕ) → length (made_asks number endpoints rounds) ≡ rounds * 5
asks-count number endpoints rounds = flat-length (λ round. asks_of_round endpoints round (state_before number endpoints round)) 0 rounds 5 (λ round. refl)

pub asks-bounded : (number endpoints rounds src dst : ℕ) → 2 ≤ endpoints → rounds ≤ 100000 → sum_by (slots_for src dst) (made_asks number endpoints rounds) ≤ 100000000
asks-bounded number endpoints rounds src dst some few =
    omega (arith, slots-few endpoints src dst (made_asks number endpoints rounds) (asks-made number endpoints rounds some), asks-count number endpoints rounds)

-- losses of the endpoints
loss-among : (endpoints round endpoint : ℕ) (up : Bool) (x : ℕ) → endpoint < endpoints → All (IsFateAmong endpoints) (loss_of round endpoint up x)
loss-among endpoints round endpoint up x low = by (drawn (next_state x) 50 == 0)
  where
    by : (b : Bool) → All (IsFateAmong endpoints) (cond b (record { round = round; endpoint = endpoint; up = up; fate = Lose } ∷ []) [])
    by true = All-cons (IsFateAmong endpoints) _ [] (low, refl) (All-nil (IsFateAmong endpoints))
    by false = All-nil (IsFateAmong endpoints)

pub losses-among : (number endpoints rounds : ℕ) → All (IsFateAmong endpoints) (made_losses number endpoints rounds)
losses-among number endpoints rounds =
    all-flat (IsFateAmong endpoints) _ 0 rounds (λ round le lt. all-flat (IsFateAmong endpoints) _ 0 endpoints (λ endpoint le lt.
    All-append (IsFateAmong endpoints) _ _ (loss-among endpoints round endpoint true _ (omega arith)) (loss-among endpoints round endpoint false _ (omega arith))))

-- one ask more of a round
pub asks-next : (endpoints round x n state : ℕ) (before now : List Ask) → now ≡ before ++ map (λ ask. made_ask endpoints round (state_after (ask * 3) x)) (range_with_len 0 n) → state ≡ state_after (n * 3) x
    → (now ++ made_ask endpoints round state ∷ [] ≡ before ++ map (λ ask. made_ask endpoints round (state_after (ask * 3) x)) (range_with_len 0 (n + 1))) × (state_after 3 state ≡ state_after ((n + 1) * 3) x)
asks-next endpoints round x n state before now is at =
    let f : ℕ → Ask = λ ask. made_ask endpoints round (state_after (ask * 3) x) in
    let e : n * 3 + 3 ≡ (n + 1) * 3 = omega arith in (
      ap (λ l. l ++ made_ask endpoints round state ∷ []) is ∙ append_assoc before (map f (range_with_len 0 n)) (made_ask endpoints round state ∷ [])
          ∙ ap (λ s. before ++ (map f (range_with_len 0 n) ++ made_ask endpoints round s ∷ [])) at
          ∙ ap (λ l. before ++ l) (sym (ap (map f) (range-next n) ∙ map-append f (range_with_len 0 n) (n ∷ []))),
      ap (state_after 3) at ∙ sym (state_after-add (n * 3) 3 x) ∙ ap (λ k. state_after k x) e,
    )

-- the losses of one endpoint more
pub losses-next : (round x endpoint state : ℕ) (before now : List GivenFate) → now ≡ before ++ flat_map (losses_of round x) (range_with_len 0 endpoint) → state ≡ state_after (endpoint * 2) x
    → ((now ++ loss_of round endpoint true state) ++ loss_of round endpoint false (next_state state) ≡ before ++ flat_map (losses_of round x) (range_with_len 0 (endpoint + 1)))
    × (next_state (next_state state) ≡ state_after ((endpoint + 1) * 2) x)
losses-next round x endpoint state before now is at =
    let e : endpoint * 2 + 2 ≡ (endpoint + 1) * 2 = omega arith in
    let f : suc (endpoint * 2) ≡ endpoint * 2 + 1 = omega arith in
    let rest = flat_map (losses_of round x) (range_with_len 0 endpoint) in (
      append_assoc now (loss_of round endpoint true state) (loss_of round endpoint false (next_state state))
          ∙ ap (λ s. now ++ (loss_of round endpoint true s ++ loss_of round endpoint false (next_state s))) at
          ∙ ap (λ k. now ++ (loss_of round endpoint true (state_after (endpoint * 2) x) ++ loss_of round endpoint false (state_after k x))) f
          ∙ ap (λ l. l ++ losses_of round x endpoint) is ∙ append_assoc before rest (losses_of round x endpoint) ∙ ap (λ l. before ++ l) (sym (flat_map-more (losses_of round x) endpoint)),
      ap (state_after 2) at ∙ sym (state_after-add (endpoint * 2) 2 x) ∙ ap (λ k. state_after k x) e,
    )

-- one round more
pub round-next : (number endpoints round : ℕ) → state_after (endpoints * 2) (state_after 15 (state_before number endpoints round)) ≡ state_before number endpoints (round + 1)
round-next number endpoints round =
    let e : round * (15 + endpoints * 2) + (15 + endpoints * 2) ≡ (round + 1) * (15 + endpoints * 2) = grind arith in
    sym (state_after-add 15 (endpoints * 2) (state_before number endpoints round)) ∙ sym (state_after-add (round * (15 + endpoints * 2)) (15 + endpoints * 2) number) ∙ ap (λ k. state_after k number) e

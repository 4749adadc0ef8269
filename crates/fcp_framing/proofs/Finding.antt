-- The first refusal that holds, part by part of the table.
use Rattle.std.proofs.Common.{◌≡◌, Bool, true, false, cond, List, [], ◌∷◌, ◌++◌, Option, Some, None, ℕ, ◌+◌, ◌<◌, ltb, eqb, get_or, refl, inl, inr, arith}
use Rattle.std.specs.List.{find, list_any, All}
use Rattle.std.proofs.lemmas.Bool.{cases_Bool, cases_lt, lt-ltb, le-ltb, eqb-false}
use Rattle.std.proofs.lemmas.List.Folds.{list_any_at}
use Rattle.fcp_framing.specs.declared.refusal.FrameRefused.{FrameRefused}
use Rattle.fcp_framing.specs.declared.refusal.FrameRefused.TheVariants.{Short, Version, Kind, Endpoint, Count, Order, SelfFlow, TooMuch, Mask, Trailing, Epoch, Seq}
use Rattle.fcp_framing.specs.Refusals.{first_refusal}

go_on : {X : Type 0} (b : Bool) (x : X) (r : Option X) → cond b (Some x) r ≡ None → (b ≡ false) × (r ≡ None)
go_on true x r e = absurd cc
go_on false x r e = (refl, e)

-- where nothing is found in a part, the search goes on behind it
pub find_on : {X : Type 0} (p : X → Bool) (xs ys : List X) → find p xs ≡ None → find p (xs ++ ys) ≡ find p ys
find_on p [] ys none = refl
find_on p (x ∷ xs) ys none =
    let first = go_on (p x) x (find p xs) none in
    rw (first.0, find_on p xs ys first.1) refl

-- where no refusal is found, none holds
pub record HoldsNone (holds : FrameRefused → Bool) : Type 0 where
  pub short : holds Short ≡ false
  pub version : holds Version ≡ false
  pub kind : holds Kind ≡ false
  pub endpoint : holds Endpoint ≡ false
  pub count : holds Count ≡ false
  pub order : holds Order ≡ false
  pub own : holds SelfFlow ≡ false
  pub much : holds TooMuch ≡ false
  pub mask : holds Mask ≡ false
  pub trailing : holds Trailing ≡ false
  pub epoch : holds Epoch ≡ false
  pub seq : holds Seq ≡ false

pub holds_none : (holds : FrameRefused → Bool) → first_refusal holds ≡ None → HoldsNone holds
unfolding first_refusal
holds_none holds e =
    let short = go_on (holds Short) Short _ e in
    let version = go_on (holds Version) Version _ short.1 in
    let kind = go_on (holds Kind) Kind _ version.1 in
    let endpoint = go_on (holds Endpoint) Endpoint _ kind.1 in
    let count = go_on (holds Count) Count _ endpoint.1 in
    let order = go_on (holds Order) Order _ count.1 in
    let own = go_on (holds SelfFlow) SelfFlow _ order.1 in
    let much = go_on (holds TooMuch) TooMuch _ own.1 in
    let mask = go_on (holds Mask) Mask _ much.1 in
    let trailing = go_on (holds Trailing) Trailing _ mask.1 in
    let epoch = go_on (holds Epoch) Epoch _ trailing.1 in
    let seq = go_on (holds Seq) Seq _ epoch.1 in
    record { short = short.0; version = version.0; kind = kind.0; endpoint = endpoint.0; count = count.0; order = order.0; own = own.0; much = much.0; mask = mask.0; trailing = trailing.0; epoch = epoch.0; seq = seq.0 }

-- where no element passes a test, each fails it
pub none_of_any : {X : Type 0} (p : X → Bool) (xs : List X) → list_any p xs ≡ false → All (λ (x : X). p x ≡ false) xs
none_of_any p xs none k d within =
    elim (cases_Bool (p (get_or xs k d))) [
      | inl passes ↦ let some = list_any_at p xs k d within passes in absurd cc
      | inr fails ↦ fails
    ]

pub above_zero : (n : ℕ) → eqb n 0 ≡ false → 0 < n
above_zero n e = let other = eqb-false n 0 e in omega arith

-- bytes lie behind the end exactly where some follow
pub behind : (end len more : ℕ) → len ≡ end + more → ltb end len ≡ ltb 0 more
behind end len more is =
    elim (cases_lt 0 more) [
      | inl some ↦ rw (lt-ltb end len (omega arith), lt-ltb 0 more some) refl
      | inr none ↦ rw (le-ltb end len (omega arith), le-ltb 0 more none) refl
    ]

find_same : {X : Type 0} (p q : X → Bool) (xs : List X) → ((x : X) → p x ≡ q x) → find p xs ≡ find q xs
find_same p q [] same = refl
find_same p q (x ∷ xs) same = rw (same x, find_same p q xs same) refl

-- no refusal holds, but that bytes may follow
pub record HoldsBefore (holds : FrameRefused → Bool) (more : ℕ) : Type 0 where
  pub short : holds Short ≡ false
  pub version : holds Version ≡ false
  pub kind : holds Kind ≡ false
  pub endpoint : holds Endpoint ≡ false
  pub count : holds Count ≡ false
  pub order : holds Order ≡ false
  pub own : holds SelfFlow ≡ false
  pub much : holds TooMuch ≡ false
  pub mask : holds Mask ≡ false
  pub trailing : holds Trailing ≡ ltb 0 more
  pub epoch : holds Epoch ≡ false
  pub seq : holds Seq ≡ false

pub first_before : (holds : FrameRefused → Bool) (more : ℕ) → HoldsBefore holds more → first_refusal holds ≡ cond (ltb 0 more) (Some Trailing) None
unfolding first_refusal
first_before holds more h = rw (h.short, h.version, h.kind, h.endpoint, h.count, h.order, h.own, h.much, h.mask, h.trailing, h.epoch, h.seq) refl

pub first_same : (p q : FrameRefused → Bool) → ((r : FrameRefused) → p r ≡ q r) → first_refusal p ≡ first_refusal q
unfolding first_refusal
first_same p q same = find_same p q (Short ∷ Version ∷ Kind ∷ Endpoint ∷ Count ∷ Order ∷ SelfFlow ∷ TooMuch ∷ Mask ∷ Trailing ∷ Epoch ∷ Seq ∷ []) same

-- what is found in a part is what is found
pub find_in : {X : Type 0} (p : X → Bool) (xs ys : List X) (x : X) → find p xs ≡ Some x → find p (xs ++ ys) ≡ Some x
find_in p [] ys x found = absurd cc
find_in p (y ∷ xs) ys x found =
    elim (p y) as (λ b. cond b (Some y) (find p xs) ≡ Some x → cond b (Some y) (find p (xs ++ ys)) ≡ Some x) [
      | true ↦ λ e. e
      | false ↦ λ e. find_in p xs ys x e
    ] found

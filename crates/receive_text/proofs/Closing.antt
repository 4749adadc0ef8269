-- Seats are closed one after the other, and each line then has all that its seat has put.
use Rattle.std.proofs.Common.{◌≡◌, ◌≢◌, ℕ, zero, suc, ◌+◌, ◌-◌, ◌<◌, ◌≤◌, List, [], ◌∷◌, ◌++◌, length, get_or, set, All, Some, slice_get, refl, sym, ap, subst, ◌∙◌, inl, inr, arith, length-set, length-append}
use Rattle.std.proofs.Math.ListN.{get_or-append}
use Rattle.std.proofs.Math.Seq.{get_or-append_seam}
use Rattle.std.proofs.lemmas.Bool.{cases_lt}
use Rattle.std.proofs.lemmas.List.{get_or-set_same, get_or-set_other}
use Rattle.std.proofs.lemmas.List.Elements.{All-set}
use Rattle.std.proofs.lemmas.Option.{get_or_from_slice_get, slice_get-get_or}
use Rattle.clos_topology.specs.Network.{endpoints_of}
use Rattle.trace_text.specs.Trace.{TraceContent, puts_at}
use Rattle.front_desk.specs.declared.progress.Progress.TheVariants.{Open, Closed}
use Rattle.front_desk.specs.State.{SeatState, LineState, IsSeatOf}
use Rattle.receive_text.specs.declared.filling.Filling.{Filling}
use Rattle.receive_text.specs.ReceiveText.{window_rounds}
use Rattle.receive_text.specs.Putting.{IsSeated, AreSeated, AreAllSeated}
use Rattle.receive_text.specs.Received.{HasReceived, HasWindows}

-- an element of a list
pub some_at : {X : Type 0} (xs : List X) (at : ℕ) → at < length xs → X
some_at [] at below = absurd (omega arith)
some_at (x ∷ xs) zero below = x
some_at (x ∷ xs) (suc at) below = some_at xs at (omega arith)

-- the line has all that the seat has put, and takes no more
pub record IsClosed (desk : List LineState) (seat : SeatState) : Type 0 where
  pub taken : (d : LineState) → (get_or desk seat.endpoint d).taken ≡ seat.put
  pub progress : (d : LineState) → (get_or desk seat.endpoint d).progress ≡ Closed

-- of all seats of a desk the first ones are left, the others are closed
pub record AreClosed (before : List LineState) (all : List Filling) (desk : List LineState) (left : List Filling) : Type 0 where
  pub as_many : length desk ≡ length before
  pub few : length left ≤ length all
  pub front : (place : ℕ) (d : Filling) → place < length left → get_or left place d ≡ get_or all place d
  pub seated : AreSeated desk left
  pub closed : (place : ℕ) (d : Filling) → length left ≤ place → place < length all → IsClosed desk (get_or all place d).seat
  pub windows : HasWindows before → HasWindows desk

pub none_closed : (desk : List LineState) (all : List Filling) → AreAllSeated desk all → AreClosed desk all desk all
none_closed desk all are = record {
  as_many = refl;
  few = omega arith;
  front = λ place d below. refl;
  seated = are.seated;
  closed = λ place d above below. absurd (omega arith);
  windows = λ windows. windows;
}

-- the last of those left may be closed
pub record MayClose (desk : List LineState) (seat : SeatState) : Type 0 where
  pub line : LineState
  pub here : slice_get desk seat.endpoint ≡ Some line
  pub seat_of : IsSeatOf seat line
  pub is_open : line.progress ≡ Open

last-seated : (desk : List LineState) (left rest : List Filling) (filling : Filling) → AreSeated desk left → left ≡ rest ++ filling ∷ [] → IsSeated desk (length rest) filling.seat
last-seated desk left rest filling seated popped =
    let many : length left ≡ length rest + 1 = ap (λ (l : List Filling). length l) popped ∙ length-append rest (filling ∷ []) in
    let here : get_or left (length rest) filling ≡ filling = ap (λ (l : List Filling). get_or l (length rest) filling) popped ∙ get_or-append_seam rest filling [] filling in
    subst (λ (f : Filling). IsSeated desk (length rest) f.seat) here (seated (length rest) filling (omega (arith, many)))

pub may_close : (before : List LineState) (all : List Filling) (desk : List LineState) (left rest : List Filling) (filling : Filling) → AreClosed before all desk left → left ≡ rest ++ filling ∷ [] → MayClose desk filling.seat
may_close before all desk left rest filling are popped =
    let last = last-seated desk left rest filling are.seated popped in
    let low : filling.seat.endpoint < length desk = omega (arith, last.endpoint) in
    let d = some_at desk filling.seat.endpoint low in
    record { line = get_or desk filling.seat.endpoint d; here = slice_get-get_or desk filling.seat.endpoint d low; seat_of = last.line d; is_open = last.is_open d }

-- and is
module _ (before : List LineState) (all : List Filling) (first : AreAllSeated before all) (desk new : List LineState) (left rest : List Filling) (filling : Filling) (line : LineState)
    (are : AreClosed before all desk left) (popped : left ≡ rest ++ filling ∷ [])
    (here : slice_get desk filling.seat.endpoint ≡ Some line) (is : new ≡ set desk filling.seat.endpoint (record line { taken = filling.seat.put; progress = Closed })) where
  abbrev at : ℕ
  at = filling.seat.endpoint

  abbrev after : LineState
  after = record line { taken = filling.seat.put; progress = Closed }

  many : length left ≡ length rest + 1
  many = ap (λ (l : List Filling). length l) popped ∙ length-append rest (filling ∷ [])

  last : IsSeated desk (length rest) filling.seat
  last = last-seated desk left rest filling are.seated popped

  low : at < length desk
  low = omega (arith, last.endpoint)

  as_long : length new ≡ length desk
  as_long = ap (λ (ls : List LineState). length ls) is ∙ length-set desk at after

  same : (d : LineState) → get_or new at d ≡ after
  same d = ap (λ (ls : List LineState). get_or ls at d) is ∙ get_or-set_same desk at after d low

  other : (e : ℕ) (d : LineState) → e ≢ at → get_or new e d ≡ get_or desk e d
  other e d differ = ap (λ (ls : List LineState). get_or ls e d) is ∙ get_or-set_other desk at e after d differ

  rest-is : (place : ℕ) (d : Filling) → place < length rest → get_or left place d ≡ get_or rest place d
  rest-is place d below = ap (λ (l : List Filling). get_or l place d) popped ∙ get_or-append rest (filling ∷ []) d place below

  seated : AreSeated new rest
  seated place d below =
      let was : IsSeated desk place (get_or rest place d).seat = subst (λ (f : Filling). IsSeated desk place f.seat) (rest-is place d below) (are.seated place d (omega (arith, many, below))) in
      let differ : (get_or rest place d).seat.endpoint ≢ at = λ e. absurd (omega (arith, was.endpoint, last.endpoint, e, below)) in
      record {
        endpoint = was.endpoint ∙ sym as_long;
        line = λ l. subst (λ (x : LineState). IsSeatOf (get_or rest place d).seat x) (sym (other _ l differ)) (was.line l);
        is_open = λ l. ap (λ (x : LineState). x.progress) (other _ l differ) ∙ was.is_open l;
      }

  closed : (place : ℕ) (d : Filling) → length rest ≤ place → place < length all → IsClosed new (get_or all place d).seat
  closed place d above below = elim (cases_lt place (length left)) [
    | inl one ↦
        let here_is : place ≡ length rest = omega (arith, many, one, above) in
        let own : get_or all place d ≡ filling = sym (are.front place d one) ∙ (ap (λ n. get_or left n d) here_is ∙ (ap (λ (l : List Filling). get_or l (length rest) d) popped ∙ get_or-append_seam rest filling [] d)) in
        subst (λ (f : Filling). IsClosed new f.seat) (sym own)
        (record { taken = λ l. ap (λ (x : LineState). x.taken) (same l); progress = λ l. ap (λ (x : LineState). x.progress) (same l) })
    | inr high ↦
        let was : IsClosed desk (get_or all place d).seat = are.closed place d high below in
        let seated_was = first.seated place d below in
        let differ : (get_or all place d).seat.endpoint ≢ at = λ e. absurd (omega (arith, seated_was.endpoint, last.endpoint, e, many, high, are.as_many)) in
        record { taken = λ l. ap (λ (x : LineState). x.taken) (other _ l differ) ∙ was.taken l; progress = λ l. ap (λ (x : LineState). x.progress) (other _ l differ) ∙ was.progress l }
  ]

  pub one_closed : AreClosed before all new rest
  one_closed = record {
    as_many = as_long ∙ are.as_many;
    few = omega (arith, many, are.few);
    front = λ place d below. sym (rest-is place d below) ∙ are.front place d (omega (arith, many, below));
    seated = seated;
    closed = closed;
    windows = λ windows. subst HasWindows (sym is) (All-set (λ (l : LineState). l.g ≡ window_rounds) desk at after
        (ap (λ (l : LineState). l.g) (sym (get_or_from_slice_get desk at line line here)) ∙ are.windows windows at line low) (are.windows windows));
  }

-- none is left
module _ (before : List LineState) (all : List Filling) (first : AreAllSeated before all) (desk : List LineState) (are : AreClosed before all desk []) where
  -- the seat of an endpoint
  place_of : (endpoint : ℕ) → ℕ
  place_of endpoint = length desk - 1 - endpoint

  within : (endpoint : ℕ) → endpoint < length desk → place_of endpoint < length all
  unfolding place_of
  within endpoint low = omega (arith, first.each, are.as_many)

  own : (endpoint : ℕ) (d : Filling) → endpoint < length desk → (get_or all (place_of endpoint) d).seat.endpoint ≡ endpoint
  unfolding place_of
  own endpoint d low = let seated = first.seated (place_of endpoint) d (within endpoint low) in omega (arith, seated.endpoint, are.as_many)

  its : (endpoint : ℕ) → endpoint < length desk → Filling
  its endpoint low = some_at all (place_of endpoint) (within endpoint low)

  pub all_closed : All (λ (line : LineState). line.progress ≡ Closed) desk
  all_closed endpoint d low =
      let f = its endpoint low in
      let closed = are.closed (place_of endpoint) f (omega arith) (within endpoint low) in
      ap (λ n. (get_or desk n d).progress) (sym (own endpoint f low)) ∙ closed.progress d

  pub all_taken : (trace : TraceContent) → HasWindows before → length before ≡ endpoints_of trace.net → All (λ (filling : Filling). filling.seat.put ≡ puts_at trace filling.seat.endpoint) all → HasReceived trace desk
  all_taken trace windows endpoints put = record {
    endpoints = are.as_many ∙ endpoints;
    taken = λ endpoint d low.
        let f = its endpoint low in
        let closed = are.closed (place_of endpoint) f (omega arith) (within endpoint low) in
        ap (λ n. (get_or desk n d).taken) (sym (own endpoint f low)) ∙ (closed.taken d ∙ (put (place_of endpoint) f (within endpoint low) ∙ ap (puts_at trace) (own endpoint f low)));
    windows = are.windows windows;
  }

-- A step of one edge among the edges of a ring.
use Rattle.std.proofs.Common.{◌≡◌, ◌≢◌, ◌<◌, ◌≤◌, ◌+◌, ℕ, zero, suc, List, [], ◌∷◌, ◌++◌, length, get_or, set, Option, Some, None, slice_get, refl, sym, ap, ◌∙◌, subst, arith, inl, inr, length-set}
use Rattle.std.specs.Prelude.{MatchOption, MatchResult, Result, Ok, Err}
use Rattle.std.proofs.lemmas.Bool.{cases_lt}
use Rattle.std.proofs.lemmas.Option.{slice_get_read, same_Some, slice_get_within}
use Rattle.slot_batches.specs.declared.piece.Piece.{Piece}
use Rattle.slot_batches.specs.Pieces.{Part, part_of}
use Rattle.ring_core.specs.States.{EdgeState}
use Rattle.ring_core.specs.Windows.{Window}
use Rattle.ring_core.specs.Streams.{EdgeInto, IsPieceAt, edge_stream}
use Rattle.ring_core.specs.Ends.{one_taken, one_sent}
use Rattle.ring_core.specs.Edges.{between, Holds, AllHold, taken_of, sent_on_edge, room_of, taken_at, sent_at, room_at, ends_between, OthersStay, IsFoundEmpty, IsFoundFull}
use Rattle.ring_core.proofs.PlayLemmas.{get_set_same, get_set_other}

module _ {A : Type 0} where
  pub between_more : (taken sent : ℕ) (xs : List A) (x : A) → taken ≤ sent → slice_get xs sent ≡ Some x → between taken (suc sent) xs ≡ between taken sent xs ++ x ∷ []
  between_more taken sent [] x le e = absurd (cc)
  between_more zero zero (y ∷ ys) x le e = cc
  between_more (suc taken) zero (y ∷ ys) x le e = absurd (omega arith)
  between_more zero (suc sent) (y ∷ ys) x le e = ap (λ (l : List A). y ∷ l) (between_more zero sent ys x (omega arith) e)
  between_more (suc taken) (suc sent) (y ∷ ys) x le e = between_more taken sent ys x (omega arith) e

  pub between_first : (taken sent : ℕ) (xs rest : List A) (x : A) → between taken sent xs ≡ x ∷ rest → (taken < sent) × (slice_get xs taken ≡ Some x) × (between (suc taken) sent xs ≡ rest)
  between_first zero zero xs rest x e = absurd (cc)
  between_first zero (suc sent) [] rest x e = absurd (cc)
  between_first zero (suc sent) (y ∷ ys) rest x e = (omega arith, cc, cc)
  between_first (suc taken) zero xs rest x e = absurd (cc)
  between_first (suc taken) (suc sent) [] rest x e = absurd (cc)
  between_first (suc taken) (suc sent) (y ∷ ys) rest x e = let r = between_first taken sent ys rest x e in (omega (arith, r.0), r.1, r.2)

  pub between_length : (taken sent : ℕ) (xs : List A) → taken ≤ sent → sent ≤ length xs → length (between taken sent xs) + taken ≡ sent
  between_length zero zero xs le within = omega arith
  between_length zero (suc sent) [] le within = absurd (omega arith)
  between_length zero (suc sent) (y ∷ ys) le within = let r = between_length zero sent ys (omega arith) (omega arith) in omega arith
  between_length (suc taken) zero xs le within = absurd (omega arith)
  between_length (suc taken) (suc sent) [] le within = absurd (omega arith)
  between_length (suc taken) (suc sent) (y ∷ ys) le within = let r = between_length taken sent ys (omega arith) (omega arith) in omega arith

pub get_set_here : {X : Type 0} (xs : List X) (i : ℕ) (a : X) → i < length xs → slice_get (set xs i a) i ≡ Some a
get_set_here [] i a below = absurd (omega arith)
get_set_here (x ∷ xs) zero a below = refl
get_set_here (x ∷ xs) (suc i) a below = get_set_here xs i a (omega arith)

-- one edge
took : (into : EdgeInto) (old new : EdgeState) (part : Part) → Holds into old → old.pieces ≡ part ∷ new.pieces → new.taken ≡ old.taken + 1 → new.sent ≡ old.sent → Holds into new × (slice_get (edge_stream into) old.taken ≡ Some part)
took into old new part holds items taken sent =
    let first = between_first old.taken old.sent (edge_stream into) new.pieces part (sym holds.pieces ∙ items) in
    let on : suc old.taken ≡ new.taken = omega arith in
    let same : old.sent ≡ new.sent = sym sent in (
      record {
        order = omega (arith, first.0, taken, sent);
        within = omega (arith, holds.within, sent);
        pieces = sym first.2 ∙ (λ i. between (on i) (same i) (edge_stream into));
      },
      first.1,
    )

gave : (into : EdgeInto) (old new : EdgeState) (part : Part) → Holds into old → slice_get (edge_stream into) old.sent ≡ Some part → new.pieces ≡ old.pieces ++ part ∷ [] → new.taken ≡ old.taken → new.sent ≡ old.sent + 1 → Holds into new
gave into old new part holds next items taken sent =
    let more = between_more old.taken old.sent (edge_stream into) part holds.order next in
    let inside = slice_get_within (edge_stream into) old.sent part next in
    let on : suc old.sent ≡ new.sent = omega arith in
    let same : old.taken ≡ new.taken = sym taken in
    record {
      order = omega (arith, holds.order, taken, sent);
      within = omega (arith, inside, sent);
      pieces = items ∙ (ap (λ (l : List Part). l ++ part ∷ []) holds.pieces ∙ (sym more ∙ (λ i. between (same i) (on i) (edge_stream into))));
    }

kept : (into : EdgeInto) (old new : EdgeState) → Holds into old → new.pieces ≡ old.pieces → new.taken ≡ old.taken → new.sent ≡ old.sent → Holds into new
kept into old new holds items taken sent = record {
  order = omega (arith, holds.order, taken, sent);
  within = omega (arith, holds.within, sent);
  pieces = items ∙ (holds.pieces ∙ (λ i. between (sym taken i) (sym sent i) (edge_stream into)));
}

-- what a step of the edge tells
abbrev pub TookOr : EdgeState → EdgeState → Option Piece → Type 0
TookOr old new result = MatchOption result
    ((new.pieces ≡ old.pieces) × (old.pieces ≡ []) × (new.taken ≡ old.taken))
    (λ piece. (old.pieces ≡ part_of piece ∷ new.pieces) × (new.taken ≡ old.taken + 1))

abbrev pub GaveOr : EdgeState → EdgeState → Piece → Result (Unit {0}) Piece → Type 0
GaveOr old new piece result = MatchResult result
    (λ _. (new.pieces ≡ old.pieces ++ part_of piece ∷ []) × (new.sent ≡ old.sent + 1) × (length old.pieces < old.room))
    (λ refused. (refused ≡ piece) × (new.pieces ≡ old.pieces) × (new.sent ≡ old.sent) × (length old.pieces ≡ old.room))

module _ (window : Window) (edges : List EdgeState) (at : ℕ) (old new : EdgeState) (below : at < length edges) (is : old ≡ get_or edges at old) (all : AllHold window edges) where
  abbrev into : EdgeInto
  into = record { window = window; worker = at }

  pub here : slice_get edges at ≡ Some old
  here = slice_get_read edges (length edges) at old refl below is

  pub holds : Holds into old
  holds = all.each at old here

  -- where it holds its part again, all do
  each_again : Holds into new → (number : ℕ) (edge : EdgeState) → slice_get (set edges at new) number ≡ Some edge → Holds (record { window = window; worker = number }) edge
  each_again again number edge there = elim (cases_lt number at) [
    | inl before ↦ all.each number edge (sym (get_set_other edges at number new (λ same. omega (arith, same, before))) ∙ there)
    | inr past ↦ elim (cases_lt at number) [
      | inl after ↦ all.each number edge (sym (get_set_other edges at number new (λ same. omega (arith, same, after))) ∙ there)
      | inr same ↦
          let is_at : number ≡ at = omega (arith, past, same) in
          let is_new : edge ≡ new = get_set_same edges at new edge (ap (slice_get (set edges at new)) (sym is_at) ∙ there) in
          subst (λ (e : EdgeState). Holds (record { window = window; worker = number }) e) (sym is_new) (subst (λ (n : ℕ). Holds (record { window = window; worker = n }) new) (sym is_at) again)
    ]
  ]

  all_again : Holds into new → AllHold window (set edges at new)
  all_again again = record { each = each_again again }

  pub old_at : {X : Type 0} (f : Option EdgeState → X) → f (slice_get edges at) ≡ f (Some old)
  old_at f = ap f here

  pub new_at : {X : Type 0} (f : Option EdgeState → X) → f (slice_get (set edges at new) at) ≡ f (Some new)
  new_at f = ap f (get_set_here edges at new below)

  pub other_at : {X : Type 0} (f : Option EdgeState → X) (number : ℕ) → number ≢ at → f (slice_get (set edges at new) number) ≡ f (slice_get edges number)
  other_at f number other = ap f (get_set_other edges at number new other)

  -- what the edge has again, all have again
  pub same_at : (f : Option EdgeState → ℕ) (number : ℕ) → f (Some new) ≡ f (Some old) → f (slice_get (set edges at new) number) ≡ f (slice_get edges number)
  same_at f number same = elim (cases_lt number at) [
    | inl before ↦ other_at f number (λ q. omega (arith, q, before))
    | inr past ↦ elim (cases_lt at number) [
      | inl after ↦ other_at f number (λ q. omega (arith, q, after))
      | inr here_too ↦
          let is_at : number ≡ at = omega (arith, past, here_too) in
          subst (λ (n : ℕ). f (slice_get (set edges at new) n) ≡ f (slice_get edges n)) (sym is_at) (new_at f ∙ (same ∙ sym (old_at f)))
    ]
  ]

  pub took_all : (result : Option Piece) → TookOr old new result → new.sent ≡ old.sent → AllHold window (set edges at new)
  took_all None told sent = all_again (kept into old new holds told.0 told.2 sent)
  took_all (Some piece) told sent = all_again (took into old new (part_of piece) holds told.0 told.1 sent).0

  pub gave_all : (result : Result (Unit {0}) Piece) (piece : Piece) → GaveOr old new piece result → new.taken ≡ old.taken → IsPieceAt into old.sent piece → AllHold window (set edges at new)
  gave_all (Ok u) piece told taken next = all_again (gave into old new (part_of piece) holds next told.0 taken told.1)
  gave_all (Err refused) piece told taken next = all_again (kept into old new holds told.1 taken told.2)

  pub took_others : (after : ℕ) → new.sent ≡ old.sent → new.room ≡ old.room → OthersStay at after edges (set edges at new)
  took_others after sent room = record {
    count = length-set edges at new;
    taken = λ number other. other_at taken_of number other;
    sent = λ number other. same_at sent_on_edge number sent;
    rooms = λ number. same_at room_of number room;
  }

  pub gave_others : (before : ℕ) → new.taken ≡ old.taken → new.room ≡ old.room → OthersStay before at edges (set edges at new)
  gave_others before taken room = record {
    count = length-set edges at new;
    taken = λ number other. same_at taken_of number taken;
    sent = λ number other. other_at sent_on_edge number other;
    rooms = λ number. same_at room_of number room;
  }

  -- the positions then
  pub took_ends : (after : ℕ) (result : Option Piece) → TookOr old new result → new.sent ≡ old.sent
      → MatchOption result
      ((ends_between window (set edges at new) at after ≡ ends_between window edges at after) × IsFoundEmpty (set edges at new) at (taken_at edges at))
      (λ piece. IsPieceAt into (taken_at edges at) piece × (ends_between window (set edges at new) at after ≡ one_taken (ends_between window edges at after)))
  took_ends after None told sent =
      let taken : taken_at (set edges at new) at ≡ taken_at edges at = same_at taken_of at told.2 in
      let none : old.sent ≡ old.taken = omega (arith, between_length old.taken old.sent (edge_stream into) holds.order holds.within, ap length (sym holds.pieces ∙ told.1)) in
      ((λ i. record { before = into; after = record { window = window; worker = after }; taken = taken i; sent = same_at sent_on_edge after sent i }), (new_at sent_on_edge ∙ (sent ∙ (none ∙ sym (old_at taken_of))), taken))
  took_ends after (Some piece) told sent =
      let taken : taken_at (set edges at new) at ≡ taken_at edges at + 1 = new_at taken_of ∙ (told.1 ∙ ap (λ (n : ℕ). n + 1) (sym (old_at taken_of))) in
      let next = (took into old new (part_of piece) holds told.0 told.1 sent).1 in
      (subst (λ (n : ℕ). IsPieceAt into n piece) (sym (old_at taken_of)) next, (λ i. record { before = into; after = record { window = window; worker = after }; taken = taken i; sent = same_at sent_on_edge after sent i }))

  pub gave_ends : (before : ℕ) (result : Result (Unit {0}) Piece) (piece : Piece) → GaveOr old new piece result → new.taken ≡ old.taken → new.room ≡ old.room
      → MatchResult result
      (λ _. ends_between window (set edges at new) before at ≡ one_sent (ends_between window edges before at))
      (λ refused. (refused ≡ piece) × (ends_between window (set edges at new) before at ≡ ends_between window edges before at) × IsFoundFull (set edges at new) at (sent_at edges at))
  gave_ends before (Ok u) piece told taken room =
      let sent : sent_at (set edges at new) at ≡ sent_at edges at + 1 = new_at sent_on_edge ∙ (told.1 ∙ ap (λ (n : ℕ). n + 1) (sym (old_at sent_on_edge))) in
      λ i. record { before = record { window = window; worker = before }; after = into; taken = same_at taken_of before taken i; sent = sent i }
  gave_ends before (Err refused) piece told taken room =
      let sent : sent_at (set edges at new) at ≡ sent_at edges at = same_at sent_on_edge at told.2 in
      let full : old.taken + old.room ≡ old.sent =
      omega (arith, between_length old.taken old.sent (edge_stream into) holds.order holds.within, ap length (sym holds.pieces), told.3) in
      let held : taken_at (set edges at new) at + room_at (set edges at new) at ≡ old.taken + old.room = λ i. (new_at taken_of ∙ taken) i + (new_at room_of ∙ room) i in
      (told.0, (λ i. record { before = record { window = window; worker = before }; after = into; taken = same_at taken_of before taken i; sent = sent i }), (sent, held ∙ (full ∙ sym (old_at sent_on_edge))))

-- what holds of each by its place holds again once one more is pushed
pub get_push : {X : Type 0} (P : ℕ → X → Type 0) (xs : List X) (x : X) (k : ℕ) (y : X) → P (length xs) x → ((j : ℕ) (z : X) → slice_get xs j ≡ Some z → P j z) → slice_get (xs ++ x ∷ []) k ≡ Some y → P k y
get_push P [] x zero y last all is = subst (P 0) (same_Some x y is) last
get_push P [] x (suc k) y last all is = absurd (cc)
get_push P (z ∷ xs) x zero y last all is = all 0 y is
get_push P (z ∷ xs) x (suc k) y last all is = get_push (λ j w. P (suc j) w) xs x k y last (λ j w. all (suc j) w) is

-- what holds of each before a place holds again once the one there is written
pub set_each : {X : Type 0} (P : ℕ → X → Type 0) (xs : List X) (at : ℕ) (x : X) → P at x → ((k : ℕ) (y : X) → k < at → slice_get xs k ≡ Some y → P k y) → (k : ℕ) (y : X) → k < at + 1 → slice_get (set xs at x) k ≡ Some y → P k y
set_each P xs at x this earlier k y below there = elim (cases_lt k at) [
  | inl before ↦ earlier k y before (sym (get_set_other xs at k x (λ q. omega (arith, q, before))) ∙ there)
  | inr past ↦
      let is_at : k ≡ at = omega (arith, below, past) in
      subst (λ (n : ℕ). P n y) (sym is_at) (subst (P at) (sym (get_set_same xs at x y (ap (slice_get (set xs at x)) (sym is_at) ∙ there))) this)
]

pub room_kept : (edges : List EdgeState) (at : ℕ) (new : EdgeState) (k : ℕ) → new.room ≡ room_at edges at → at < length edges → room_at (set edges at new) k ≡ room_at edges k
room_kept [] at new k same below = refl
room_kept (e ∷ es) zero new zero same below = same
room_kept (e ∷ es) zero new (suc k) same below = refl
room_kept (e ∷ es) (suc at) new zero same below = refl
room_kept (e ∷ es) (suc at) new (suc k) same below = room_kept es at new k same (omega arith)

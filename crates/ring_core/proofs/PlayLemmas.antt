-- A worker that has played so far, and its next piece.
use Rattle.std.proofs.Common.{◌≡◌, ◌≢◌, ◌<◌, ◌≤◌, ◌+◌, ℕ, zero, suc, Bool, true, false, cond, List, [], ◌∷◌, length, get_or, set, Option, Some, None, option_map, slice_get, refl, sym, ap, ◌∙◌, subst, arith, inl, inr}
use Rattle.std.specs.Prelude.{IfSome, IsSome, is_some}
use Rattle.std.proofs.lemmas.Bool.{cases_lt}
use Rattle.std.proofs.lemmas.Nat.{mul-le}
use Rattle.std.proofs.lemmas.Option.{slice_get_read, same_Some}
use Rattle.std.proofs.lemmas.List.{length-set}
use Rattle.std.proofs.lemmas.List.Elements.{All-set}
use Rattle.greedy_rules.specs.Batches.{DemandBatch}
use Rattle.slot_batches.specs.declared.piece.Piece.{Piece}
use Rattle.slot_batches.specs.Pieces.{Part, next_piece, part_of}
use Rattle.slot_batches.specs.Settled.{settled}
use Rattle.slot_batches.specs.Stands.{stage_endpoints, batch_size_of, first_slot_of, stage_number, StageState}
use Rattle.ring_core.specs.States.{WorkerState}
use Rattle.ring_core.specs.Windows.{Window, batch_of, pieces_before, is_fed, items_fed, piece_given_next}
use Rattle.ring_core.specs.Streams.{pieces_into}
use Rattle.ring_core.specs.Ends.{WorkerEnds}
use Rattle.ring_core.specs.Workers.{own_stage, StageIsAt, IsWorker, HasPlayed, given_by}
use Rattle.ring_core.specs.Turns.{fed_at, given_at, piece_to_push}

pub get_set_same : {X : Type 0} (xs : List X) (i : ℕ) (a y : X) → slice_get (set xs i a) i ≡ Some y → y ≡ a
get_set_same [] i a y is = absurd (cc)
get_set_same (x ∷ xs) zero a y is = sym (same_Some a y is)
get_set_same (x ∷ xs) (suc i) a y is = get_set_same xs i a y is

pub get_set_other : {X : Type 0} (xs : List X) (i j : ℕ) (a : X) → j ≢ i → slice_get (set xs i a) j ≡ slice_get xs j
get_set_other [] i j a other = refl
get_set_other (x ∷ xs) zero zero a other = absurd (other refl)
get_set_other (x ∷ xs) zero (suc j) a other = refl
get_set_other (x ∷ xs) (suc i) zero a other = refl
get_set_other (x ∷ xs) (suc i) (suc j) a other = get_set_other xs i j a (λ is. other (ap suc is))

-- an own stage for which there is a batch is one of the worker's
pub place_within : (w : WorkerState) (n place : ℕ) → IsWorker w → n ≤ w.batches → own_stage w.workers w.number place < n → place < length w.stages
place_within w n place is few below = elim (cases_lt place (length w.stages)) [
  | inl here ↦ here
  | inr past ↦ absurd (let more = mul-le (length w.stages) w.workers place w.workers past (omega arith) in omega (arith, more, is.enough, few, below))
]

module _ (batches : List DemandBatch) (ends : WorkerEnds) (w : WorkerState) (fed given : ℕ) (played : HasPlayed batches ends w fed given) where
  abbrev window : Window
  window = ends.before.window

  pub held_is : (part : Part) → w.held ≡ Some part → (w.stage < length batches) × (piece_given_next window w.stage fed given ≡ Some part)
  held_is part is = subst (λ (h : Option Part). IfSome h (λ p. (w.stage < length batches) × (piece_given_next window w.stage fed given ≡ Some p))) is played.held

  pub fed_is : fed_at ends w ≡ fed
  fed_is = omega (arith, played.taken, played.taken_is)

  pub given_is : given_at ends w ≡ given
  given_is = omega (arith, played.sent, played.sent_is)

  pub to_push : piece_to_push ends w ≡ piece_given_next window w.stage fed given
  to_push = λ i. piece_given_next window w.stage (fed_is i) (given_is i)

  -- the present stage
  pub present_place : w.stage < length batches → w.place < length w.stages
  present_place below = place_within w (length batches) w.place played.is_worker played.count (omega (arith, below, played.stage))

  pub present_state : (state : StageState) → w.stage < length batches → state ≡ get_or w.stages w.place state → StageIsAt w.endpoints window w.stage fed (given_by w given) state
  present_state state below is = played.present state below (slice_get_read w.stages (length w.stages) w.place state refl (present_place below) is)

  pub idle_state : (state : StageState) → w.stage < length batches → w.held ≡ None → state ≡ get_or w.stages w.place state → StageIsAt w.endpoints window w.stage fed given state
  idle_state state below none is =
      subst (λ (h : Option Part). StageIsAt w.endpoints window w.stage fed (cond (is_some h) (given + 1) given) state) none (present_state state below is)

  -- it goes on
  pub with_stage : (h : Option Part) (t taken fed' : ℕ) (x : StageState) → w.stage < length batches → t ≡ taken → taken ≡ length (pieces_into window w.number w.stage) + fed' → fed' ≤ pieces_before window w.stage
      → IfSome h (λ part. (w.stage < length batches) × (piece_given_next window w.stage fed' given ≡ Some part))
      → StageIsAt w.endpoints window w.stage fed' (cond (is_some h) (given + 1) given) x
      → HasPlayed batches (record { before = ends.before; after = ends.after; taken = t; sent = ends.sent }) (record w { stages = set w.stages w.place x; taken = taken; held = h }) fed' given
  with_stage h t taken fed' x below t_is taken_is within held_is at =
      let work = at.work in
      record {
        is_worker = record {
          number = played.is_worker.number;
          some_slots = played.is_worker.some_slots;
          few_batches = played.is_worker.few_batches;
          endpoints = All-set (λ stage. stage_endpoints stage ≡ w.endpoints) w.stages w.place x work.same_endpoints played.is_worker.endpoints;
          sizes = All-set (λ stage. batch_size_of stage ≡ w.b) w.stages w.place x (work.same_size ∙ played.window.b_is) played.is_worker.sizes;
          enough = subst (λ (n : ℕ). w.batches ≤ own_stage w.workers w.number n) (sym (length-set w.stages w.place x)) played.is_worker.enough;
        };
        window = record { may = played.window.may; batches_are = played.window.batches_are; first_is = refl; b_is = played.window.b_is; workers_are = played.window.workers_are };
        before = played.before;
        after = played.after;
        count = played.count;
        stage = played.stage;
        near = played.near;
        taken = t_is;
        sent = played.sent;
        taken_is = taken_is;
        sent_is = played.sent_is;
        fed_within = within;
        given_within = played.given_within;
        held = held_is;
        past = λ past. absurd (omega (arith, past, below));
        ended = λ place state earlier is. played.ended place state earlier (sym (get_set_other w.stages w.place place x (λ same. omega (arith, same, earlier))) ∙ is);
        present = λ state below' is. subst (λ (s : StageState). StageIsAt w.endpoints window w.stage fed' (cond (is_some h) (given + 1) given) s) (sym (get_set_same w.stages w.place x state is)) at;
        later = λ place state after below' is. played.later place state after below' (sym (get_set_other w.stages w.place place x (λ same. omega (arith, same, after))) ∙ is);
        idle = λ place state over is. played.idle place state over (sym (get_set_other w.stages w.place place x (λ same. omega (arith, over, below, played.stage, ap (own_stage w.workers w.number) same))) ∙ is);
      }

-- the next piece of a stage, by its own numbers
pub stage_gives : (endpoints : ℕ) (window : Window) (stage fed given : ℕ) (state : StageState) → StageIsAt endpoints window stage fed given state
    → next_piece (stage_number state) (is_fed window stage fed) given (settled (batch_of window stage) (first_slot_of state) (batch_size_of state) (items_fed window stage fed) (is_fed window stage fed))
    ≡ piece_given_next window stage fed given
stage_gives endpoints window stage fed given state at =
    λ i. next_piece (at.work.same_number i) (is_fed window stage fed) given (settled (batch_of window stage) (at.work.same_first i) (at.work.same_size i) (items_fed window stage fed) (is_fed window stage fed))

-- a stage that gave a piece, or had none
pub gave_or_not : (below : Type 0) (endpoints : ℕ) (window : Window) (stage fed given : ℕ) (new : StageState) (r : Option Piece) → below → option_map part_of r ≡ piece_given_next window stage fed given
    → (IsSome r → StageIsAt endpoints window stage fed (given + 1) new) → (r ≡ None → StageIsAt endpoints window stage fed given new)
    → IfSome (option_map part_of r) (λ part. below × (piece_given_next window stage fed given ≡ Some part)) × StageIsAt endpoints window stage fed (cond (is_some (option_map part_of r)) (given + 1) given) new
gave_or_not below endpoints win stage fed given new None inside is some none = (tt, none refl)
gave_or_not below endpoints win stage fed given new (Some piece) inside is some none = ((inside, sym is), some refl)

pub wrote_or_not : (below : Type 0) (endpoints : ℕ) (window : Window) (stage fed given : ℕ) (new : StageState) (wrote : Bool) (part : Part) → below → cond wrote (Some part) None ≡ piece_given_next window stage fed given
    → (wrote ≡ true → StageIsAt endpoints window stage fed (given + 1) new) → (wrote ≡ false → StageIsAt endpoints window stage fed given new)
    → IfSome (cond wrote (Some part) None) (λ p. below × (piece_given_next window stage fed given ≡ Some p)) × StageIsAt endpoints window stage fed (cond (is_some (cond wrote (Some part) None)) (given + 1) given) new
wrote_or_not below endpoints win stage fed given new false part inside is some none = (tt, none refl)
wrote_or_not below endpoints win stage fed given new true part inside is some none = ((inside, sym is), some refl)

-- What workers have done together: the jobs that were taken, and the rows of the slots that they name.
use Rattle.std.proofs.Common.{◌≡◌, ◌<◌, ◌+◌, ◌-◌, ℕ, zero, suc, List, [], ◌∷◌, ◌++◌, length, get_or, set, Bool, true, false, cond, nat_lt, ◌==◌, ◌||◌, All, IsTrue, vec_len, refl, sym, ap, ◌∙◌, subst, arith, inl, inr}
use Rattle.std.specs.List.{list_any}
use Rattle.std.proofs.lemmas.Bool.{cases_lt, cond-true, cond-false, eq-eqb, le-ltb, or_cases, or_left, or_right}
use Rattle.std.proofs.lemmas.Bool.Decides.{nat_tests}
use Rattle.std.proofs.lemmas.List.{map-append, append-nil, length_push, length-append, get_or_push, get_or_append_left}
use Rattle.std.proofs.lemmas.List.Elements.{All-push}
use Rattle.std.proofs.lemmas.List.Sums.{sum_by-cons}
use Rattle.std.proofs.lemmas.List.Folds.{list_any-append}
use Rattle.crossbeam_queue.specs.Passes.{view}
use Rattle.greedy_rules.specs.declared.flows.Flow.{Flow}
use Rattle.clos_topology.specs.Network.{Network}
use Rattle.path_workers.specs.declared.jobs.Job.{Job}
use Rattle.path_workers.specs.declared.jobs.Job.TheVariants.{Slot, End}
use Rattle.path_workers.specs.declared.jobs.Hand.{Hand}
use Rattle.path_workers.specs.declared.painter.Painter.{Painter}
use Rattle.path_workers.specs.declared.seats.Seat.{Seat}
use Rattle.path_workers.specs.PathWork.{times_taken}
use Rattle.path_workers.specs.Jobs.{hand, weigh, HandIsAtRest, is_slot, slots_named, slot_jobs, end_jobs}
use Rattle.path_workers.specs.Painters.{numbers_of, has_row, HasPainted, MayPaint, HasRowsOf, HaveRows}
use Rattle.path_workers.specs.Seats.{SeatMayPlay, SeatHasPlayed, HaveAllPlayed}
use Rattle.path_workers.proofs.QueueLemmas.{weigh-append}
use Rattle.path_workers.proofs.PainterLemmas.{resized}

-- a job that is taken, and a worker that keeps its rows and has one for the slot that the job names
pub rows_more : (count : ℕ) (old taken : List Job) (job : Job) (p q : Painter) → HasRowsOf count old taken p → ((slot : ℕ) → IsTrue (has_row slot p) → IsTrue (has_row slot q)) → ((slot : ℕ) → slot < count → 0 < is_slot slot job → IsTrue (has_row slot q))
    → HasRowsOf count old (taken ++ job ∷ []) q
rows_more count old taken job p q rows keeps named = λ slot below more.
    let sum : weigh (is_slot slot) (taken ++ job ∷ []) ≡ weigh (is_slot slot) taken + (is_slot slot job + 0) = weigh-append (is_slot slot) taken (job ∷ []) in
    elim (cases_lt (weigh (is_slot slot) old) (weigh (is_slot slot) taken)) [
      | inl before ↦ keeps slot (rows slot below before)
      | inr now ↦ named slot below (omega (arith, more, sum, now))
    ]

pub no_rows : (count : ℕ) (taken : List Job) (p : Painter) → HasRowsOf count taken taken p
no_rows count taken p = λ slot below more. absurd (omega (arith, more))

-- a worker that plays: it has taken jobs alone, and each slot that they name has a row
pub record IsPlaying (slots : List (List Flow)) (old : Hand) (was : Painter) (now : Hand) (painter : Painter) : Type 0 where
  pub parts : now.parts ≡ old.parts
  pub put : now.put ≡ old.put
  pub painted : HasPainted was.net (vec_len was.places) slots painter
  pub rows : HasRowsOf (length slots) old.taken now.taken painter
  pub keeps : (slot : ℕ) → IsTrue (has_row slot was) → IsTrue (has_row slot painter)
  pub number : painter.number ≡ was.number

pub begins_to_play : (slots : List (List Flow)) (now : Hand) (painter : Painter) → MayPaint slots painter → IsPlaying slots now painter now painter
begins_to_play slots now painter may = record { parts = refl; put = refl; painted = may.painted; rows = no_rows (length slots) now.taken painter; keeps = λ slot has. has; number = refl }

pub plays_on : (slots : List (List Flow)) (old : Hand) (was : Painter) (v w : Hand) (p q : Painter) (job : Job) → IsPlaying slots old was v p → w ≡ hand v.parts v.put (v.taken ++ job ∷ []) → HasPainted p.net (vec_len p.places) slots q
    → ((slot : ℕ) → IsTrue (has_row slot p) → IsTrue (has_row slot q)) → ((slot : ℕ) → slot < length slots → 0 < is_slot slot job → IsTrue (has_row slot q)) → q.number ≡ p.number → IsPlaying slots old was w q
plays_on slots old was v w p q job playing is painted keeps named number = record {
  parts = ap (λ (h : Hand). h.parts) is ∙ playing.parts;
  put = ap (λ (h : Hand). h.put) is ∙ playing.put;
  painted = resized was.net (vec_len was.places) slots p q playing.painted.sized painted;
  rows = subst (λ (jobs : List Job). HasRowsOf (length slots) old.taken jobs q) (sym (ap (λ (h : Hand). h.taken) is)) (rows_more (length slots) old.taken v.taken job p q playing.rows keeps named);
  keeps = λ slot has. keeps slot (playing.keeps slot has);
  number = number ∙ playing.number;
}

-- and when it has played
pub has_played : (slots : List (List Flow)) (was seat : Seat) (queue : _) → was.pass.table_id ≡ queue → seat.pass.table_id ≡ queue → seat.pass.me.1 ≡ [] → IsPlaying slots (view was.pass) was.painter (view seat.pass) seat.painter → SeatHasPlayed slots was seat
has_played slots was seat queue was_queue same none playing = record { queue = same ∙ sym was_queue; none_out = none; parts = playing.parts; put = playing.put; painted = playing.painted; rows = playing.rows; number = playing.number }

-- the slots' jobs name each slot
pub slot_is_put : (slot count : ℕ) → slot < count → 0 < weigh (is_slot slot) (slot_jobs count)
slot_is_put slot zero below = absurd (omega (arith, below))
slot_is_put slot (suc count) below =
    let sum : weigh (is_slot slot) (slot_jobs count ++ Slot count ∷ []) ≡ weigh (is_slot slot) (slot_jobs count) + (is_slot slot (Slot count) + 0) = weigh-append (is_slot slot) (slot_jobs count) (Slot count ∷ []) in
    elim (cases_lt slot count) [
      | inl before ↦ omega (arith, sum, slot_is_put slot count before)
      | inr last ↦
          let one : is_slot slot (Slot count) ≡ 1 = cond-true (count == slot) 1 0 (eq-eqb count slot (omega (arith, last, below))) in
          omega (arith, sum, one)
    ]

pub length-slot_jobs : (count : ℕ) → length (slot_jobs count) ≡ count
length-slot_jobs zero = refl
length-slot_jobs (suc count) = omega (arith, length_push (slot_jobs count) (Slot count), length-slot_jobs count)

pub length-end_jobs : (workers : ℕ) → length (end_jobs workers) ≡ workers
length-end_jobs zero = refl
length-end_jobs (suc workers) = omega (arith, length_push (end_jobs workers) End, length-end_jobs workers)

-- what holds of all holds of the last, and of the others
pub All-front : {X : Type 0} (P : X → Type 0) (all xs : List X) (x : X) → all ≡ xs ++ x ∷ [] → All P all → All P xs
All-front P all xs x is holds = λ k d below.
    subst P (ap (λ (l : List _). get_or l k d) is ∙ get_or_append_left xs (x ∷ []) d k below) (holds k d (omega (arith, below, ap (λ (l : List _). length l) is, length_push xs x)))

pub All-last : {X : Type 0} (P : X → Type 0) (all xs : List X) (x : X) → all ≡ xs ++ x ∷ [] → All P all → P x
All-last P all xs x is holds =
    subst P (ap (λ (l : List _). get_or l (length xs) x) is ∙ get_or_push xs x x (length xs) refl) (holds (length xs) x (omega (arith, ap (λ (l : List _). length l) is, length_push xs x)))

-- where no worker is left, all jobs were put
pub none_played : (slots : List (List Flow)) (workers : ℕ) (painters new : List Painter) (was is : Hand) → new ≡ painters → is ≡ hand was.parts (was.put ++ slot_jobs (length slots) ++ end_jobs workers) was.taken → HaveAllPlayed slots workers painters was new is
none_played slots workers painters new was is same view_is =
    let taken : is.taken ≡ was.taken = ap (λ (v : Hand). v.taken) view_is in
    record {
      parts = ap (λ (v : Hand). v.parts) view_is;
      put = ap (λ (v : Hand). v.put) view_is;
      rows = λ slot below more. absurd (omega (arith, more, ap (weigh (is_slot slot)) taken));
      painted = λ net room all. subst (All (HasPainted net room slots)) (sym same) all;
      len = ap (λ (ps : List Painter). length ps) same;
      numbers = ap numbers_of same;
    }

-- the last worker has played, and so have the others
pub one_played : (slots : List (List Flow)) (workers : ℕ) (all xs out ys : List Painter) (x : Painter) (seat was : Seat) (v0 v1 v2 v3 : Hand) → all ≡ xs ++ x ∷ [] → out ≡ ys ++ seat.painter ∷ [] → 0 < v0.parts → v1 ≡ hand (v0.parts - 1) v0.put v0.taken
    → HaveAllPlayed slots workers xs v1 ys v2 → was.painter ≡ x → view was.pass ≡ hand 1 [] [] → SeatHasPlayed slots was seat → v3 ≡ hand (v2.parts + (view seat.pass).parts) (v2.put ++ (view seat.pass).put) (v2.taken ++ (view seat.pass).taken)
    → HaveAllPlayed slots workers all v0 out v3
one_played slots workers all xs out ys x seat was v0 v1 v2 v3 all_is out_is some v1_is rest same was_view played v3_is =
    let parts1 : v1.parts ≡ v0.parts - 1 = ap (λ (v : Hand). v.parts) v1_is in
    let put1 : v1.put ≡ v0.put = ap (λ (v : Hand). v.put) v1_is in
    let taken1 : v1.taken ≡ v0.taken = ap (λ (v : Hand). v.taken) v1_is in
    let parts3 : v3.parts ≡ v2.parts + (view seat.pass).parts = ap (λ (v : Hand). v.parts) v3_is in
    let put3 : v3.put ≡ v2.put ++ (view seat.pass).put = ap (λ (v : Hand). v.put) v3_is in
    let taken3 : v3.taken ≡ v2.taken ++ (view seat.pass).taken = ap (λ (v : Hand). v.taken) v3_is in
    let seat_parts : (view seat.pass).parts ≡ 1 = played.parts ∙ ap (λ (v : Hand). v.parts) was_view in
    let seat_put : (view seat.pass).put ≡ [] = played.put ∙ ap (λ (v : Hand). v.put) was_view in
    let was_taken : (view was.pass).taken ≡ [] = ap (λ (v : Hand). v.taken) was_view in
    let y = seat.painter in
    record {
      parts = omega (arith, some, parts1, parts3, seat_parts, rest.parts);
      put = put3 ∙ (ap (λ (jobs : List Job). v2.put ++ jobs) seat_put ∙ (append-nil v2.put ∙ (rest.put ∙ ap (λ (jobs : List Job). jobs ++ slot_jobs (length slots) ++ end_jobs workers) put1)));
      rows = λ slot below more.
          let h : Job → ℕ = is_slot slot in
          let sum : weigh h v3.taken ≡ weigh h v2.taken + weigh h (view seat.pass).taken = ap (weigh h) taken3 ∙ weigh-append h v2.taken (view seat.pass).taken in
          let first : weigh h v1.taken ≡ weigh h v0.taken = ap (weigh h) taken1 in
          let none : weigh h (view was.pass).taken ≡ 0 = ap (weigh h) was_taken in
          let any : list_any (has_row slot) out ≡ (list_any (has_row slot) ys || list_any (has_row slot) (y ∷ [])) = ap (list_any (has_row slot)) out_is ∙ list_any-append (has_row slot) ys (y ∷ []) in
          elim (cases_lt (weigh h v1.taken) (weigh h v2.taken)) [
            | inl before ↦ any ∙ or_left (list_any (has_row slot) ys) (list_any (has_row slot) (y ∷ [])) (rest.rows slot below before)
            | inr now ↦
                let has : has_row slot y ≡ true = played.rows slot below (omega (arith, more, sum, first, none, now)) in
                any ∙ or_right (list_any (has_row slot) ys) (list_any (has_row slot) (y ∷ [])) (or_left (has_row slot y) false has)
          ];
      painted = λ net room painted.
          let last : HasPainted net room slots x = All-last (HasPainted net room slots) all xs x all_is painted in
          let net_is : was.painter.net ≡ net = ap (λ (p : Painter). p.net) same ∙ last.sized.same_net in
          let room_is : vec_len was.painter.places ≡ room = ap (λ (p : Painter). vec_len p.places) same ∙ last.sized.places in
          let y_painted : HasPainted net room slots y = subst (λ (n : Network). HasPainted n room slots y) net_is (subst (λ (k : ℕ). HasPainted was.painter.net k slots y) room_is played.painted) in
          subst (All (HasPainted net room slots)) (sym out_is) (All-push (HasPainted net room slots) ys y (rest.painted net room (All-front (HasPainted net room slots) all xs x all_is painted)) y_painted);
      len = omega (arith, rest.len, ap (λ (ps : List Painter). length ps) all_is, ap (λ (ps : List Painter). length ps) out_is, length_push xs x, length_push ys y);
      numbers = ap numbers_of out_is
          ∙ (map-append (λ (p : Painter). p.number) ys (y ∷ [])
          ∙ ((λ i. rest.numbers i ++ (played.number ∙ ap (λ (p : Painter). p.number) same) i ∷ []) ∙ (sym (map-append (λ (p : Painter). p.number) xs (x ∷ [])) ∙ sym (ap numbers_of all_is))));
    }

pub as_played : (slots : List (List Flow)) (workers : ℕ) (old ps qs : List Painter) (was v w : Hand) → qs ≡ ps → w ≡ v → HaveAllPlayed slots workers old was ps v → HaveAllPlayed slots workers old was qs w
as_played slots workers old ps qs was v w painters views played =
    subst (λ (h : Hand). HaveAllPlayed slots workers old was qs h) (sym views) (subst (λ (l : List Painter). HaveAllPlayed slots workers old was l v) (sym painters) played)

-- the last worker may play
pub may_play : (slots : List (List Flow)) (all xs : List Painter) (seat : Seat) → all ≡ xs ++ seat.painter ∷ [] → All (MayPaint slots) all → view seat.pass ≡ hand 1 [] [] → SeatMayPlay slots seat
may_play slots all xs seat is may view_is = record {
  parts = let one : (view seat.pass).parts ≡ 1 = ap (λ (v : Hand). v.parts) view_is in omega (arith, one);
  painter = All-last (MayPaint slots) all xs seat.painter is may;
}

-- what holds of all holds of the first
pub All-first : {X : Type 0} (P : X → Type 0) (xs : List X) (x : X) → x ≡ get_or xs 0 x → 0 < length xs → All P xs → P x
All-first P xs x is some holds = subst P (sym is) (holds 0 x some)

-- the first worker takes another's place
any_kept : (test : Painter → Bool) (xs : List Painter) (y : Painter) → list_any test xs ≡ true → (test (get_or xs 0 y) ≡ true → test y ≡ true) → list_any test (set xs 0 y) ≡ true
any_kept test [] y any keeps = absurd (cc)
any_kept test (x ∷ xs) y any keeps = elim (or_cases (test x) (list_any test xs) any) [
  | inl here ↦ or_left (test y) (list_any test xs) (keeps here)
  | inr there ↦ or_right (test y) (list_any test xs) there
]

any_first : (test : Painter → Bool) (xs : List Painter) (y : Painter) → 0 < length xs → test y ≡ true → list_any test (set xs 0 y) ≡ true
any_first test [] y some here = absurd (omega (arith, some))
any_first test (x ∷ xs) y some here = or_left (test y) (list_any test xs) here

-- all jobs were put and taken, those that no worker took by the first: so each slot has a row
pub all_rows : (slots : List (List Flow)) (workers : ℕ) (old new : List Painter) (y : Painter) (v1 v2 v3 : Hand) → ((h : Job → ℕ) → weigh h v1.put ≡ weigh h v1.taken) → HaveAllPlayed slots workers old v1 new v2 → v3.put ≡ v2.put → ((h : Job → ℕ) → weigh h v3.put ≡ weigh h v3.taken)
    → 0 < length new → HasRowsOf (length slots) v2.taken v3.taken y → ((slot : ℕ) → IsTrue (has_row slot (get_or new 0 y)) → IsTrue (has_row slot y)) → HaveRows (length slots) (set new 0 y)
all_rows slots workers old new y v1 v2 v3 even1 played put3 even3 some rows keeps = λ slot below.
    let h : Job → ℕ = is_slot slot in
    let front : weigh h (v1.put ++ slot_jobs (length slots)) ≡ weigh h v1.put + weigh h (slot_jobs (length slots)) = weigh-append h v1.put (slot_jobs (length slots)) in
    let whole : weigh h (v1.put ++ slot_jobs (length slots) ++ end_jobs workers) ≡ weigh h (v1.put ++ slot_jobs (length slots)) + weigh h (end_jobs workers) = weigh-append h (v1.put ++ slot_jobs (length slots)) (end_jobs workers) in
    let put2 : weigh h v2.put ≡ weigh h (v1.put ++ slot_jobs (length slots) ++ end_jobs workers) = ap (weigh h) played.put in
    let same : weigh h v3.put ≡ weigh h v2.put = ap (weigh h) put3 in
    let more : weigh h v1.taken < weigh h v3.taken = omega (arith, even1 h, even3 h, front, whole, put2, same, slot_is_put slot (length slots) below) in
    elim (cases_lt (weigh h v1.taken) (weigh h v2.taken)) [
      | inl before ↦ any_kept (has_row slot) new y (played.rows slot below before) (keeps slot)
      | inr now ↦ any_first (has_row slot) new y some (rows slot below (omega (arith, more, now)))
    ]

-- a pass that handed every part over, joined with the one that has them
pub at_rest_again : (left whole both : Hand) → left ≡ hand 0 [] [] → both ≡ hand (left.parts + whole.parts) (left.put ++ whole.put) (left.taken ++ whole.taken) → HandIsAtRest whole → HandIsAtRest both × (both.put ≡ whole.put)
at_rest_again left whole both left_is both_is rest =
    let left_parts : left.parts ≡ 0 = ap (λ (v : Hand). v.parts) left_is in
    let put : both.put ≡ whole.put = ap (λ (v : Hand). v.put) both_is ∙ ap (λ (v : Hand). v.put ++ whole.put) left_is in
    let taken : both.taken ≡ whole.taken = ap (λ (v : Hand). v.taken) both_is ∙ ap (λ (v : Hand). v.taken ++ whole.taken) left_is in
    let parts : both.parts ≡ left.parts + whole.parts = ap (λ (v : Hand). v.parts) both_is in (
      record {
        parts = omega (arith, parts, left_parts, rest.parts);
        even = λ h. ap (weigh h) put ∙ (rest.even h ∙ sym (ap (weigh h) taken));
      },
      put,
    )

-- how often a slot is named
times_are : (slot : ℕ) (jobs : List Job) → times_taken slot (slots_named jobs) ≡ weigh (is_slot slot) jobs
times_are slot [] = refl
times_are slot (Slot number ∷ jobs) = omega (arith, sum_by-cons (λ (n : ℕ). cond (n == slot) 1 0) number (slots_named jobs), times_are slot jobs)
times_are slot (End ∷ jobs) = omega (arith, times_are slot jobs)

-- each slot's job was put once
slot_put : (slot count : ℕ) → weigh (is_slot slot) (slot_jobs count) ≡ cond (nat_lt slot count) 1 0
slot_put slot zero = sym (cond-false (nat_lt slot 0) 1 0 (le-ltb slot 0 (omega arith)))
slot_put slot (suc count) =
    let sum : weigh (is_slot slot) (slot_jobs count ++ Slot count ∷ []) ≡ weigh (is_slot slot) (slot_jobs count) + (cond (count == slot) 1 0 + 0) = weigh-append (is_slot slot) (slot_jobs count) (Slot count ∷ []) in
    let before = slot_put slot count in
    grind (arith, nat_tests)

no_slot_put : (slot workers : ℕ) → weigh (is_slot slot) (end_jobs workers) ≡ 0
no_slot_put slot zero = refl
no_slot_put slot (suc workers) = omega (arith, weigh-append (is_slot slot) (end_jobs workers) (End ∷ []), no_slot_put slot workers)

-- and so it was taken once, if all that was put was taken
pub taken_once : (slot count workers : ℕ) (before after : Hand) → HandIsAtRest before → HandIsAtRest after → after.put ≡ before.put ++ slot_jobs count ++ end_jobs workers
    → times_taken slot (slots_named after.taken) ≡ times_taken slot (slots_named before.taken) + cond (nat_lt slot count) 1 0
taken_once slot count workers before after was is put =
    let h : Job → ℕ = is_slot slot in
    omega (
      arith,
      was.even h,
      is.even h,
      ap (weigh h) put,
      weigh-append h (before.put ++ slot_jobs count) (end_jobs workers),
      weigh-append h before.put (slot_jobs count),
      slot_put slot count,
      no_slot_put slot workers,
      times_are slot before.taken,
      times_are slot after.taken,
    )

-- how many jobs were put
pub jobs_counted : (before after : List Job) (count workers : ℕ) → after ≡ before ++ slot_jobs count ++ end_jobs workers → length after ≡ length before + count + workers
jobs_counted before after count workers is =
    omega (
      arith,
      ap (λ (jobs : List Job). length jobs) is,
      length-append (before ++ slot_jobs count) (end_jobs workers),
      length-append before (slot_jobs count),
      length-slot_jobs count,
      length-end_jobs workers,
    )

-- What raw packets are answered once each lane was asked about its own.
use Rattle.std.proofs.Common.{◌≡◌, ◌<◌, ◌≤◌, ℕ, zero, suc, ◌+◌, Bool, true, false, ◌||◌, ◌==◌, nat_eq, nat_lt, nat_le, cond, if◌then◌else◌, List, [], ◌∷◌, ◌++◌, length, map, filter, find, take, Option, Some, None, option_map, is_none, slice_set, refl, sym, ap, ◌∙◌, arith, add-one, inl, inr, append_assoc, length-append}
use Rattle.std.specs.Option.{option_eq}
use Rattle.std.proofs.lemmas.Bool.{cases_Bool, cond-true, cond-false, eqb-true, eqb-false, ltb-false, ltb-true, leb-false, lt-ltb, and_parts}
use Rattle.std.proofs.Math.Seq.{take-append_seam, set-append_seam}
use Rattle.fcp_framing.specs.declared.refusal.FrameRefused.{FrameRefused}
use Rattle.fcp_framing.specs.declared.refusal.FrameRefused.TheVariants.{Short, Version, Kind, Endpoint, Count, Order, SelfFlow, TooMuch, Mask, Trailing, Epoch, Seq}
use Rattle.std.specs.List.{flat_map, list_any, range_with_len}
use Rattle.list_facts.proofs.Lists.{flat-last}
use Rattle.fcp_framing.specs.declared.packet.Demand.{Demand}
use Rattle.fcp_framing.specs.declared.packet.Up.{Up}
use Rattle.fcp_framing.specs.Spelling.{reset_of}
use Rattle.fcp_framing.specs.Fields.{up_of, kind_in, endpoint_in, version_in, epoch_in, request_of, demands_in}
use Rattle.fcp_framing.specs.Refusals as framing
use Rattle.fcp_framing.specs.Refusals.{first_refusal, refuses_up, refuses_request, refuses_reset}
use Rattle.clos_topology.specs.Network.{endpoints_of}
use Rattle.clos_topology.specs.NetSlots.{SlotCores}
use Rattle.endpoint_history.specs.Lane.{LaneHistory, TakesUp}
use Rattle.endpoint_history.specs.Packets.{up_packet}
use Rattle.arbiter_lane.specs.declared.refusal.UpRefused.{UpRefused}
use Rattle.arbiter_lane.specs.Refusals.{up_refusal, up_refusal_of_packet, up_refusal_or}
use Rattle.lane_rounds.specs.Outside.{names}
use Rattle.lane_rounds.specs.Raw.{Raw}
use Rattle.lane_rounds.specs.Refused.{up_refusal_number, numbered_refusal, refused_in, with_arrival, with_raw}
use Rattle.trace_text.specs.Trace.{TraceContent, raw_at}
use Rattle.trace_run.specs.Run.{Setting}
use Rattle.replay_rounds.specs.Setting.{raw_rows, rows_from, setting_of}
use Rattle.replay_rounds.specs.Played.{answer_after, raw_answers, lane_before, lane_before_raw}
use Rattle.replay_rounds.specs.Collecting.{answers_below, framed_answer, framed_in, refused_of, source_of, with_numbers}
use Rattle.replay_rounds.proofs.RowLemmas.{named}

-- ---- the source of a packet is an endpoint

find_none : {X : Type 0} (p : X → Bool) (x : X) (xs : List X) → find p (x ∷ xs) ≡ None → (p x ≡ false) × (find p xs ≡ None)
find_none {X} p x xs none = elim (cases_Bool (p x)) [
  | inl holds ↦ let some : find p (x ∷ xs) ≡ Some x = cond-true (p x) (Some x) (find p xs) holds in absurd (cc)
  | inr fails ↦ (fails, sym (cond-false (p x) (Some x) (find p xs) fails) ∙ none)
]

not_endpoint : (holds : FrameRefused → Bool) → first_refusal holds ≡ None → holds Endpoint ≡ false
unfolding first_refusal
not_endpoint holds none =
    let after_short = (find_none holds Short (Version ∷ Kind ∷ Endpoint ∷ Count ∷ Order ∷ SelfFlow ∷ TooMuch ∷ Mask ∷ Trailing ∷ Epoch ∷ Seq ∷ []) none).1 in
    let after_version = (find_none holds Version (Kind ∷ Endpoint ∷ Count ∷ Order ∷ SelfFlow ∷ TooMuch ∷ Mask ∷ Trailing ∷ Epoch ∷ Seq ∷ []) after_short).1 in
    let after_kind = (find_none holds Kind (Endpoint ∷ Count ∷ Order ∷ SelfFlow ∷ TooMuch ∷ Mask ∷ Trailing ∷ Epoch ∷ Seq ∷ []) after_version).1 in
    (find_none holds Endpoint (Count ∷ Order ∷ SelfFlow ∷ TooMuch ∷ Mask ∷ Trailing ∷ Epoch ∷ Seq ∷ []) after_kind).0

or_false : (a b : Bool) → (a || b) ≡ false → a ≡ false
or_false true b is = is
or_false false b is = refl

source_below : (n : ℕ) (bytes : List ℕ) → first_refusal (refuses_up n bytes) ≡ None → (up_of bytes).src < n
unfolding refuses_up up_of
source_below n bytes none =
    let low = not_endpoint (refuses_up n bytes) none in
    let request : Bool = kind_in bytes == 1 in
    let reset : Up = reset_of (version_in bytes) (endpoint_in bytes) (epoch_in bytes) in
    elim (cases_Bool request) [
      | inl is ↦
          let test = sym (cond-true request (refuses_request n bytes Endpoint) (refuses_reset n bytes Endpoint) is) ∙ low in
          let src : (up_of bytes).src ≡ endpoint_in bytes = ap (λ (up : Up). up.src) (cond-true request (request_of bytes) reset is) in
          omega (arith, src, leb-false n (endpoint_in bytes) (or_false (nat_le n (endpoint_in bytes)) (list_any (λ (demand : Demand). nat_le n demand.dst) (demands_in bytes)) test))
      | inr is_not ↦
          let test = sym (cond-false request (refuses_request n bytes Endpoint) (refuses_reset n bytes Endpoint) is_not) ∙ low in
          let src : (up_of bytes).src ≡ endpoint_in bytes = ap (λ (up : Up). up.src) (cond-false request (request_of bytes) reset is_not) in
          omega (arith, src, leb-false n (endpoint_in bytes) test)
    ]

-- ---- an answer, where the lanes below a bound were asked

-- the last answer where the lane of the source was asked, and the framing's before
abbrev answer_by : ℕ → Option ℕ → Option ℕ → Option ℕ → Option ℕ
answer_by bound None last first = first
answer_by bound (Some source) last first = if nat_lt source bound then last else first

not_below : (m n : ℕ) → n ≤ m → nat_lt m n ≡ false
not_below m n le = elim (cases_Bool (nat_lt m n)) [
  | inl below ↦ absurd (omega (arith, ltb-true m n below))
  | inr above ↦ above
]

-- a row's
abbrev answer_at : ℕ → (Raw → Option ℕ) → ℕ → Raw → Option ℕ
answer_at n last bound row = answer_by bound (source_of n row.bytes) (last row) (framed_answer n row.bytes)

by_none : (source last first : Option ℕ) → answer_by 0 source last first ≡ first
by_none None last first = refl
by_none (Some source) last first = cond-false (nat_lt source 0) last first (not_below source 0 (omega arith))

by_own : (bound : ℕ) (source last first : Option ℕ) → option_eq nat_eq source (Some bound) ≡ true → (answer_by bound source last first ≡ first) × (answer_by (bound + 1) source last first ≡ last)
by_own bound None last first own = absurd (cc)
by_own bound (Some source) last first own =
    let same : source ≡ bound = eqb-true source bound own in
    (cond-false (nat_lt source bound) last first (not_below source bound (omega arith)), cond-true (nat_lt source (bound + 1)) last first (lt-ltb source (bound + 1) (omega arith)))

by_other : (bound : ℕ) (source last first : Option ℕ) → option_eq nat_eq source (Some bound) ≡ false → answer_by bound source last first ≡ answer_by (bound + 1) source last first
by_other bound None last first other = refl
by_other bound (Some source) last first other =
    let apart : source ≡ bound → ⊥ = eqb-false source bound other in
    elim (cases_Bool (nat_lt source bound)) [
      | inl below ↦
          let low : source < bound = ltb-true source bound below in
          cond-true (nat_lt source bound) last first below
          ∙ sym (cond-true (nat_lt source (bound + 1)) last first (lt-ltb source (bound + 1) (omega arith)))
      | inr above ↦
          let high : bound ≤ source = ltb-false source bound above in
          cond-false (nat_lt source bound) last first above
          ∙ sym (cond-false (nat_lt source (bound + 1)) last first (not_below source (bound + 1) (omega (arith, apart))))
    ]

-- the last answer is the framing's where it refuses, and else the lane's
answer_of : (refusal : Option FrameRefused) (src n : ℕ) (later : Option UpRefused) → (refusal ≡ None → src < n)
    → answer_by n (cond (is_none refusal) (Some src) None) (option_map up_refusal_number (up_refusal_or refusal later)) (option_map framing.frame_refusal_number refusal) ≡ option_map up_refusal_number (up_refusal_or refusal later)
answer_of None src n later below = cond-true (nat_lt src n) (option_map up_refusal_number later) None (lt-ltb src n (below refl))
answer_of (Some refusal) src n later below = refl

-- ---- numbers at their places

with_numbers-append : (xs ys : List (ℕ × ℕ)) (answers : List (Option ℕ)) → with_numbers (xs ++ ys) answers ≡ with_numbers ys (with_numbers xs answers)
with_numbers-append [] ys answers = refl
with_numbers-append (x ∷ xs) ys answers = with_numbers-append xs ys (slice_set answers x.0 (Some x.1))

set_at : (before : List (Option ℕ)) (x y : Option ℕ) (after : List (Option ℕ)) (place : ℕ) → place ≡ length before → slice_set (before ++ x ∷ after) place y ≡ before ++ y ∷ after
set_at before x y after place is = ap (λ (k : ℕ). slice_set (before ++ x ∷ after) k y) is ∙ set-append_seam before x after y

-- a lane's answer at the place of its packet
numbered_at : (refusal : Option UpRefused) (before after : List (Option ℕ)) (place : ℕ) → place ≡ length before
    → with_numbers (numbered_refusal place refusal) (before ++ None ∷ after) ≡ before ++ option_map up_refusal_number refusal ∷ after
numbered_at None before after place is = refl
numbered_at (Some refusal) before after place is = set_at before None (Some (up_refusal_number refusal)) after place is

-- ---- one lane's packets

is_source : (endpoint endpoints : ℕ) (bytes : List ℕ) → names endpoint endpoints bytes ≡ true → (up_of bytes).src ≡ endpoint
unfolding names
is_source endpoint endpoints bytes own = eqb-true (up_of bytes).src endpoint (and_parts (is_none (first_refusal (refuses_up endpoints bytes))) ((up_of bytes).src == endpoint) own).1

no_number : (refusal : Option FrameRefused) → is_none refusal ≡ true → option_map framing.frame_refusal_number refusal ≡ None
no_number None none = refl
no_number (Some refusal) none = absurd (cc)

-- where it is named no refusal of the framing holds
framed_none : (endpoint endpoints : ℕ) (bytes : List ℕ) → names endpoint endpoints bytes ≡ true → framed_answer endpoints bytes ≡ None
unfolding names
framed_none endpoint endpoints bytes own =
    no_number (first_refusal (refuses_up endpoints bytes)) (and_parts (is_none (first_refusal (refuses_up endpoints bytes))) ((up_of bytes).src == endpoint) own).0

module _ (bound n round : ℕ) (start : LaneHistory) (last : Raw → Option ℕ) where
  abbrev answer : ℕ → Raw → Option ℕ
  answer = answer_at n last

  abbrev calls : List Raw → LaneHistory
  calls done = with_raw bound n round done start

  -- each row stands at its place, and the last answer to the lane's own is the lane's after those before
  abbrev AreAnswered : List Raw → List Raw → Type 0
  AreAnswered done [] = Unit {0}
  AreAnswered done (row ∷ rows) =
      (row.place ≡ length done) × (names bound n row.bytes ≡ true → last row ≡ option_map up_refusal_number (up_refusal bound n (calls done) row.bytes)) × AreAnswered (done ++ row ∷ []) rows

  calls-more : (history : LaneHistory) (done : List Raw) (row : Raw) → with_raw bound n round (done ++ row ∷ []) history ≡ with_arrival bound n round row.bytes (with_raw bound n round done history)
  calls-more history [] row = refl
  calls-more history (r ∷ done) row = calls-more (with_arrival bound n round r.bytes history) done row

  one_lane : (done rows : List Raw) (before : List (Option ℕ)) → length before ≡ length done → AreAnswered done rows
      → with_numbers (refused_in bound n round (filter (λ r. names bound n r.bytes) rows) (calls done)) (before ++ map (answer bound) rows) ≡ before ++ map (answer (bound + 1)) rows
  one_lane done [] before many are = refl
  one_lane done (row ∷ rows) before many are =
      let Named : Raw → Bool = λ r. names bound n r.bytes in
      let refusal : Option UpRefused = up_refusal bound n (calls done) row.bytes in
      let source : Option ℕ = source_of n row.bytes in
      let first : Option ℕ = framed_answer n row.bytes in
      let later : List Raw = filter Named rows in
      let told : List Raw → LaneHistory → List (ℕ × ℕ) = λ rs h. refused_in bound n round rs h in
      let goes_on : (x : Option ℕ) → with_numbers (told later (calls (done ++ row ∷ []))) ((before ++ x ∷ []) ++ map (answer bound) rows) ≡ (before ++ x ∷ []) ++ map (answer (bound + 1)) rows =
      λ x. one_lane (done ++ row ∷ []) rows (before ++ x ∷ []) (omega (arith, many, length-append before (x ∷ []), length-append done (row ∷ []))) are.2 in
      let split : (x : Option ℕ) (xs : List (Option ℕ)) → before ++ x ∷ xs ≡ (before ++ x ∷ []) ++ xs = λ x xs. sym (append_assoc before (x ∷ []) xs) in
      elim (cases_Bool (names bound n row.bytes)) [
        | inl mine ↦
            let by_source = by_own bound source (last row) first (sym (named bound n row.bytes) ∙ mine) in
            let none : answer bound row ≡ None = by_source.0 ∙ framed_none bound n row.bytes mine in
            let is : option_map up_refusal_number refusal ≡ answer (bound + 1) row = sym (are.1 mine) ∙ sym by_source.1 in
            let place : row.place ≡ length before = are.0 ∙ sym many in
            let x : Option ℕ = option_map up_refusal_number refusal in
            ap (λ (rs : List Raw). with_numbers (told rs (calls done)) (before ++ answer bound row ∷ map (answer bound) rows)) (cond-true (names bound n row.bytes) (row ∷ later) later mine)
            ∙ (ap (λ (y : Option ℕ). with_numbers (told (row ∷ later) (calls done)) (before ++ y ∷ map (answer bound) rows)) none
            ∙ (with_numbers-append (numbered_refusal row.place refusal) (told later (with_arrival bound n round row.bytes (calls done))) (before ++ None ∷ map (answer bound) rows)
            ∙ (ap (with_numbers (told later (with_arrival bound n round row.bytes (calls done)))) (numbered_at refusal before (map (answer bound) rows) row.place place ∙ split x (map (answer bound) rows))
            ∙ (ap (λ (h : LaneHistory). with_numbers (told later h) ((before ++ x ∷ []) ++ map (answer bound) rows)) (sym (calls-more start done row))
            ∙ (goes_on x
            ∙ (sym (split x (map (answer (bound + 1)) rows))
            ∙ ap (λ (y : Option ℕ). before ++ y ∷ map (answer (bound + 1)) rows) is))))))
        | inr other ↦
            let same : answer bound row ≡ answer (bound + 1) row = by_other bound source (last row) first (sym (named bound n row.bytes) ∙ other) in
            let x : Option ℕ = answer bound row in
            let still : calls done ≡ calls (done ++ row ∷ []) = sym (calls-more start done row ∙ cond-false (names bound n row.bytes) (TakesUp round (up_packet (up_of row.bytes)) ∷ calls done) (calls done) other) in
            ap (λ (rs : List Raw). with_numbers (told rs (calls done)) (before ++ x ∷ map (answer bound) rows)) (cond-false (names bound n row.bytes) (row ∷ later) later other)
            ∙ (ap (λ (h : LaneHistory). with_numbers (told later h) (before ++ x ∷ map (answer bound) rows)) still
            ∙ (ap (with_numbers (told later (calls (done ++ row ∷ [])))) (split x (map (answer bound) rows))
            ∙ (goes_on x
            ∙ (sym (split x (map (answer (bound + 1)) rows))
            ∙ ap (λ (y : Option ℕ). before ++ y ∷ map (answer (bound + 1)) rows) same))))
      ]

-- ---- all lanes

-- the rows of a round, of which these are done
module _ (trace : TraceContent) (b g : ℕ) (cores : SlotCores) (round : ℕ) where
  abbrev run : Setting
  run = setting_of trace b g cores

  abbrev n : ℕ
  n = endpoints_of trace.net

  abbrev rows : List Raw
  rows = raw_rows trace round

  abbrev last : Raw → Option ℕ
  last row = answer_after run round (take row.place rows) row

  answered : (bound place : ℕ) (done : List Raw) (raw : List (List ℕ)) → place ≡ length done → done ++ rows_from place raw ≡ rows
      → AreAnswered bound n round (lane_before_raw run round bound) last done (rows_from place raw)
  answered bound place done [] is whole = tt
  answered bound place done (bytes ∷ raw) is whole =
      let row : Raw = record { place = place; bytes = bytes } in
      let earlier : take place rows ≡ done = ap (take place) (sym whole) ∙ (ap (λ (k : ℕ). take k (done ++ row ∷ rows_from (place + 1) raw)) is ∙ take-append_seam done (row ∷ rows_from (place + 1) raw)) in (
        is,
        λ mine.
            ap (λ (rs : List Raw). answer_after run round rs row) earlier
            ∙ ap (λ (s : ℕ). option_map up_refusal_number (up_refusal s n (lane_before run round done s) bytes)) (is_source bound n bytes mine),
        answered bound (place + 1) (done ++ row ∷ []) raw (omega (arith, is, length-append done (row ∷ []))) (append_assoc done (row ∷ []) (rows_from (place + 1) raw) ∙ whole),
      )

  begun : (place : ℕ) (raw : List (List ℕ)) → map (answer_at n last 0) (rows_from place raw) ≡ map (framed_answer n) raw
  begun place [] = refl
  begun place (bytes ∷ raw) =
      let row : Raw = record { place = place; bytes = bytes } in
      cc (by_none (source_of n bytes) (last row) (framed_answer n bytes), begun (place + 1) raw)

  below_bound : (bound : ℕ) → answers_below run trace round bound ≡ map (answer_at n last bound) rows
  below_bound zero = sym (begun 0 (raw_at trace round))
  below_bound (suc bound) =
      ap (with_numbers (refused_of run trace round bound)) (below_bound bound)
      ∙ (one_lane bound n round (lane_before_raw run round bound) last [] rows [] refl (answered bound 0 [] (raw_at trace round) refl refl)
      ∙ ap (λ (k : ℕ). map (answer_at n last k) rows) (add-one bound))

  ended : (rs : List Raw) → map (answer_at n last n) rs ≡ map last rs
  ended [] = refl
  ended (row ∷ rs) =
      let src : ℕ = (up_of row.bytes).src in
      cc (answer_of (first_refusal (refuses_up n row.bytes)) src n (up_refusal_of_packet src (lane_before run round (take row.place rows) src) (up_of row.bytes)) (source_below n row.bytes), ended rs)

  refused_below : (bound : ℕ) → with_numbers (flat_map (refused_of run trace round) (range_with_len 0 bound)) (framed_in trace round) ≡ answers_below run trace round bound
  refused_below zero = refl
  refused_below (suc bound) =
      let refused = refused_of run trace round in
      let here : 0 + bound ≡ bound = omega arith in
      ap (λ (k : ℕ). with_numbers (flat_map refused (range_with_len 0 k)) (framed_in trace round)) (sym (add-one bound))
      ∙ (ap (λ (rs : List (ℕ × ℕ)). with_numbers rs (framed_in trace round)) (flat-last refused 0 bound ∙ ap (λ (k : ℕ). flat_map refused (range_with_len 0 bound) ++ refused k) here)
      ∙ (with_numbers-append (flat_map refused (range_with_len 0 bound)) (refused bound) (framed_in trace round)
      ∙ ap (with_numbers (refused bound)) (refused_below bound)))

  pub answers_are : with_numbers (flat_map (refused_of run trace round) (range_with_len 0 n)) (framed_in trace round) ≡ raw_answers run trace round
  answers_are = refused_below n ∙ (below_bound n ∙ ended rows)

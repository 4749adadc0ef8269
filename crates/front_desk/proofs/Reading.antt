-- A lane reads packets, one after the other, and its answers are kept.
use Rattle.std.proofs.Common.{◌≡◌, ◌≢◌, ℕ, suc, List, [], ◌∷◌, ◌++◌, length, Option, IfSome, sym, ◌∙◌, ap, subst, refl}
use Rattle.std.specs.List.{filter_map, range_with_len}
use Rattle.greedy_rules.specs.declared.flows.Entry.{Entry}
use Rattle.fcp_framing.specs.Fields.{up_of}
use Rattle.endpoint_history.specs.Packets.{up_packet}
use Rattle.endpoint_history.specs.Lane.{LaneHistory, TakesUp}
use Rattle.endpoint_history.specs.Counts.{Allocation}
use Rattle.endpoint_history.specs.Entries.{next_entry}
use Rattle.arbiter_lane.specs.declared.refusal.UpRefused.{UpRefused}
use Rattle.arbiter_lane.specs.declared.refusal.UpRefused.TheVariants.{OldSeq, Repeat}
use Rattle.arbiter_lane.specs.Refusals.{up_refusal, IsOwnUp}
use Rattle.arbiter_lane.specs.State.{LaneState}
use Rattle.arbiter_lane.specs.Standing as lanes
use Rattle.lane_rounds.specs.Refused.{with_arrival}
use Rattle.front_desk.specs.declared.progress.Progress.{Progress}
use Rattle.front_desk.specs.declared.progress.Progress.TheVariants.{Closed, Recorded}
use Rattle.front_desk.specs.Answers.{answer_number, arrived_after, answers_after, calls_of, answers_of, entries_of}
use Rattle.front_desk.specs.Standing.{HasRead}
use Rattle.front_desk.proofs.Arriving.{with_bytes-stands}

arrived_after-append : (endpoint endpoints : ℕ) (packets : List (List ℕ)) (last : List ℕ) (history : LaneHistory) →
    arrived_after endpoint endpoints (packets ++ last ∷ []) history ≡ with_arrival endpoint endpoints 0 last (arrived_after endpoint endpoints packets history)
arrived_after-append endpoint endpoints [] last history = refl
arrived_after-append endpoint endpoints (p ∷ packets) last history = arrived_after-append endpoint endpoints packets last (with_arrival endpoint endpoints 0 p history)

answers_after-append : (endpoint endpoints : ℕ) (packets : List (List ℕ)) (last : List ℕ) (history : LaneHistory) →
    answers_after endpoint endpoints (packets ++ last ∷ []) history
    ≡ answers_after endpoint endpoints packets history ++ answer_number (up_refusal endpoint endpoints (arrived_after endpoint endpoints packets history) last) ∷ []
answers_after-append endpoint endpoints [] last history = refl
answers_after-append endpoint endpoints (p ∷ packets) last history =
    ap (λ (xs : List ℕ). answer_number (up_refusal endpoint endpoints history p) ∷ xs) (answers_after-append endpoint endpoints packets last (with_arrival endpoint endpoints 0 p history))

pub length-answers_after : (endpoint endpoints : ℕ) (packets : List (List ℕ)) (history : LaneHistory) → length (answers_after endpoint endpoints packets history) ≡ length packets
length-answers_after endpoint endpoints [] history = refl
length-answers_after endpoint endpoints (p ∷ packets) history = ap suc (length-answers_after endpoint endpoints packets (with_arrival endpoint endpoints 0 p history))

pub as_many_answers : (endpoint endpoints : ℕ) (packets : List (List ℕ)) (answers : List ℕ) → answers ≡ answers_of endpoint endpoints packets → length answers ≡ length packets
as_many_answers endpoint endpoints packets answers is = ap (λ (xs : List ℕ). length xs) is ∙ length-answers_after endpoint endpoints packets _

-- one packet more is read
pub has_read-more : (lane new : LaneState) (round number : ℕ) (bytes packet answers after : List ℕ) (given : Option UpRefused) →
    ((history : LaneHistory) (allocations : List Allocation) → lanes.LaneStandsFor lane history allocations → given ≡ up_refusal lane.endpoint lane.endpoints history bytes) →
    IfSome given (λ refusal. refusal ≢ OldSeq → refusal ≢ Repeat → new ≡ lane) →
    (IsOwnUp lane.endpoint lane.endpoints bytes → (history : LaneHistory) (allocations : List Allocation) → lanes.LaneStandsFor lane history allocations → lanes.LaneStandsFor new (TakesUp round (up_packet (up_of bytes)) ∷ history) allocations) →
    new.endpoint ≡ lane.endpoint → new.endpoints ≡ lane.endpoints → new.round ≡ lane.round → round ≡ 0 → bytes ≡ packet → number ≡ answer_number given → after ≡ answers ++ number ∷ [] →
    (endpoint endpoints : ℕ) (taken : List (List ℕ)) → HasRead endpoint endpoints lane taken answers → HasRead endpoint endpoints new (taken ++ packet ∷ []) after
has_read-more lane new round number bytes packet answers after given answer unchanged stands endpoint_same endpoints_same round_same zero same is_number is_after endpoint endpoints taken read =
    let history = calls_of endpoint endpoints taken in
    let stood = with_bytes-stands lane new round bytes given history [] (answer history [] read.stands) unchanged (λ own. stands own history [] read.stands) read.stands in
    let refused : given ≡ up_refusal endpoint endpoints history packet = answer history [] read.stands
    ∙ (ap (λ n. up_refusal n lane.endpoints history bytes) read.endpoint_is ∙ (ap (λ n. up_refusal endpoint n history bytes) read.endpoints_are ∙ ap (λ b. up_refusal endpoint endpoints history b) same)) in
    record {
      endpoint_is = endpoint_same ∙ read.endpoint_is;
      endpoints_are = endpoints_same ∙ read.endpoints_are;
      round = round_same ∙ read.round;
      stands = subst (λ (h : LaneHistory). lanes.LaneStandsFor new h [])
          (ap (λ n. with_arrival n lane.endpoints round bytes history) read.endpoint_is
          ∙ (ap (λ n. with_arrival endpoint n round bytes history) read.endpoints_are
          ∙ (ap (λ n. with_arrival endpoint endpoints n bytes history) zero
          ∙ (ap (λ b. with_arrival endpoint endpoints 0 b history) same ∙ sym (arrived_after-append endpoint endpoints taken packet _))))) stood;
      answers_are = is_after
          ∙ (ap (λ (xs : List ℕ). xs ++ number ∷ []) read.answers_are
          ∙ (ap (λ n. answers_of endpoint endpoints taken ++ n ∷ []) (is_number ∙ ap answer_number refused) ∙ sym (answers_after-append endpoint endpoints taken packet _)));
    }

pub closed_is_not : (p : Progress) → p ≡ Closed → p ≢ Recorded
closed_is_not p is other = cc

-- what a lane records by its own sizes
pub entries-read : (endpoint endpoints : ℕ) (lane : LaneState) (taken : List (List ℕ)) (answers : List ℕ) (old new : List Entry) → HasRead endpoint endpoints lane taken answers →
    ((history : LaneHistory) (allocations : List Allocation) → lanes.LaneStandsFor lane history allocations → new ≡ old ++ filter_map (next_entry lane.endpoint lane.g history) (range_with_len 0 lane.endpoints)) →
    new ≡ old ++ entries_of endpoint endpoints lane.g taken
entries-read endpoint endpoints lane taken answers old new read entries =
    let history = calls_of endpoint endpoints taken in
    entries history [] read.stands
    ∙ (ap (λ n. old ++ filter_map (next_entry n lane.g history) (range_with_len 0 lane.endpoints)) read.endpoint_is
    ∙ ap (λ n. old ++ filter_map (next_entry endpoint lane.g history) (range_with_len 0 n)) read.endpoints_are)

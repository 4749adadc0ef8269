-- Before a second round a lane's calls are the same whatever its windows are.
use Rattle.std.proofs.Common.{◌≡◌, ℕ, ◌+◌, ◌-◌, List, [], ◌∷◌, Bool, true, false, cond, refl, ap, ◌∙◌}
use Rattle.std.specs.Prelude.{⊤, ◌&&◌, sum_by}
use Rattle.std.specs.List.{filter_map, range_with_len}
use Rattle.ack_window.specs.Sends.{Event, Reads}
use Rattle.fcp_framing.specs.Fields.{up_of}
use Rattle.endpoint_history.specs.Packets.{Telling, Resets, Requests, slots_to, up_packet}
use Rattle.endpoint_history.specs.Lane.{LaneHistory, MakesDown, TakesUp, Records, restarts, is_current, numbers, untold}
use Rattle.endpoint_history.specs.Counts.{owed, recorded, slots_in, decides}
use Rattle.ack_window.specs.Acknowledgement.{is_found_lost}
use Rattle.endpoint_history.specs.Entries.{added, counted_from, next_entry, entry_with, had, is_reset}
use Rattle.lane_rounds.specs.Outside.{names}
use Rattle.lane_rounds.specs.Refused.{with_arrival}
use Rattle.front_desk.specs.Answers.{arrived_after, calls_of}
use Rattle.front_desk.specs.Laws.{EveryWindowRecordsTheSame}
use mathlib.Core.Path.{fun_ext}

-- packets that arrived, after the first packet down or without one
abbrev AreArrivals : LaneHistory → Type 0
AreArrivals [] = ⊤
AreArrivals (TakesUp round packet ∷ earlier) = AreArrivals earlier
AreArrivals (MakesDown round told ∷ []) = ⊤
AreArrivals (MakesDown round told ∷ (e ∷ earlier)) = ⊥
AreArrivals (Records round ∷ earlier) = ⊥

module _ (g h : ℕ) where
  numbers-same : (history : LaneHistory) → AreArrivals history → numbers g history ≡ numbers h history
  numbers-same [] are = refl
  numbers-same (TakesUp round (Resets epoch version) ∷ earlier) are = ap (λ (ns : List (Event Telling)). cond (restarts earlier epoch) [] ns) (numbers-same earlier are)
  numbers-same (TakesUp round (Requests packet) ∷ earlier) are = ap (λ (ns : List (Event Telling)). cond (is_current earlier packet) (Reads packet.ack ∷ ns) ns) (numbers-same earlier are)
  numbers-same (MakesDown round told ∷ []) are = refl
  numbers-same (MakesDown round told ∷ (e ∷ earlier)) are = absurd are
  numbers-same (Records round ∷ earlier) are = absurd are

  untold-same : (history : LaneHistory) → AreArrivals history → untold g history ≡ untold h history
  untold-same [] are = refl
  untold-same (TakesUp round (Resets epoch version) ∷ earlier) are = ap (λ (ts : List Telling). cond (restarts earlier epoch) [] ts) (untold-same earlier are)
  untold-same (TakesUp round (Requests packet) ∷ earlier) are = untold-same earlier are
  untold-same (MakesDown round told ∷ []) are = refl
  untold-same (MakesDown round told ∷ (e ∷ earlier)) are = absurd are
  untold-same (Records round ∷ earlier) are = absurd are

  had-same : (history : LaneHistory) (dst : ℕ) → AreArrivals history → had g history dst ≡ had h history dst
  had-same [] dst are = refl
  had-same (TakesUp round packet ∷ earlier) dst are = had-same earlier dst are
  had-same (MakesDown round told ∷ []) dst are = refl
  had-same (MakesDown round told ∷ (e ∷ earlier)) dst are = absurd are
  had-same (Records round ∷ earlier) dst are = absurd are

  owed-same : (history : LaneHistory) (dst : ℕ) → AreArrivals history → owed g history dst ≡ owed h history dst
  owed-same history dst are =
      ap (λ (ns : List (Event Telling)). recorded history dst + (slots_in (decides is_found_lost history ns) ns dst + sum_by (λ (t : Telling). slots_to dst t.told) (untold g history))) (numbers-same history are)
      ∙ ap (λ (ts : List Telling). recorded history dst + (slots_in (decides is_found_lost history (numbers h history)) (numbers h history) dst + sum_by (λ (t : Telling). slots_to dst t.told) ts)) (untold-same history are)

  counted-are : (history : LaneHistory) → AreArrivals history → AreArrivals (counted_from history)
  counted-are [] are = tt
  counted-are (TakesUp round (Resets epoch version) ∷ earlier) are = by (restarts earlier epoch) (counted-are earlier are)
    where
      by : (b : Bool) → AreArrivals (counted_from earlier) → AreArrivals (cond b (TakesUp round (Resets epoch version) ∷ earlier) (counted_from earlier))
      by true rest = are
      by false rest = rest
  counted-are (TakesUp round (Requests packet) ∷ earlier) are = counted-are earlier are
  counted-are (MakesDown round told ∷ []) are = tt
  counted-are (MakesDown round told ∷ (e ∷ earlier)) are = absurd are
  counted-are (Records round ∷ earlier) are = absurd are

  added-same : (history : LaneHistory) (dst : ℕ) → AreArrivals history → added g history dst ≡ added h history dst
  added-same history dst are =
      ap (λ n. n - owed g (counted_from history) dst) (owed-same history dst are) ∙ ap (λ n. owed h history dst - n) (owed-same (counted_from history) dst (counted-are history are))

  entry-same : (endpoint : ℕ) (history : LaneHistory) (dst : ℕ) → AreArrivals history → next_entry endpoint g history dst ≡ next_entry endpoint h history dst
  entry-same endpoint history dst are =
      ap (λ b. entry_with endpoint dst b (is_reset history && b) (added g history dst)) (had-same history dst are)
      ∙ ap (λ n. entry_with endpoint dst (had h history dst) (is_reset history && had h history dst) n) (added-same history dst are)

arrived-are : (endpoint endpoints : ℕ) (packets : List (List ℕ)) (history : LaneHistory) → AreArrivals history → AreArrivals (arrived_after endpoint endpoints packets history)
arrived-are endpoint endpoints [] history are = are
arrived-are endpoint endpoints (bytes ∷ packets) history are = arrived-are endpoint endpoints packets (with_arrival endpoint endpoints 0 bytes history) (by (names endpoint endpoints bytes))
  where
    by : (b : Bool) → AreArrivals (cond b (TakesUp 0 (up_packet (up_of bytes)) ∷ history) history)
    by true = are
    by false = are

pub entries-same : EveryWindowRecordsTheSame
entries-same endpoint endpoints g h packets =
    ap (λ (f : ℕ → _). filter_map f (range_with_len 0 endpoints)) (fun_ext (λ dst. entry-same g h endpoint (calls_of endpoint endpoints packets) dst (arrived-are endpoint endpoints packets (MakesDown 0 [] ∷ []) tt)))

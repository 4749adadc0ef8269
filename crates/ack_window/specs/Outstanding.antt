-- What is outstanding of the numbers that a sender sent, and what an acknowledgement decides of it. From this project's own profile.
use Rattle.std.specs.Prelude.{ℕ, ◌+◌, Bool, true, nat_le, IsTrue, List, [], ◌∷◌, filter, Option, is_none}
use Rattle.std.specs.List.{filter_map}
use Rattle.std.specs.Option.{option_map}
use Rattle.ack_window.specs.declared.send_window.Decided.{Decided}
use Rattle.ack_window.specs.declared.send_window.Unresolved.{Unresolved}
use Rattle.ack_window.specs.declared.acknowledgement.Decision.{Decision}
use Rattle.ack_window.specs.Acknowledgement.{is_lost}

-- the newest number sent, 0 for none, and the numbers that are unresolved with their contents, rising
pub record Outstanding (T : Type 0) : Type 0 where
  pub newest : ℕ
  pub unresolved : List (Unresolved T)

module _ {T : Type 0} where
  -- a new number may be sent where none is unresolved, or it is at most span above the oldest one
  abbrev pub may_send_new : ℕ → ℕ → List (Unresolved T) → Bool
  may_send_new span newest [] = true
  may_send_new span newest (oldest ∷ _) = nat_le (newest + 1) (oldest.number + span)

  abbrev pub MaySendNew : ℕ → Outstanding T → Type 0
  MaySendNew span outstanding = IsTrue (may_send_new span outstanding.newest outstanding.unresolved)

  -- those of the numbers that are decided, by what is decided of each number
  abbrev pub decided_in : (ℕ → Option Decision) → List (Unresolved T) → List (Decided T)
  decided_in decision sent =
      filter_map
      (λ s. option_map (λ d. record { number = s.number; lost = is_lost d; content = s.content }) (decision s.number))
      sent

  -- those of which nothing is decided
  abbrev pub left_in : (ℕ → Option Decision) → List (Unresolved T) → List (Unresolved T)
  left_in decision sent = filter (λ s. is_none (decision s.number)) sent

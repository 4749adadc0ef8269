-- Small connections of both versions, computed: numbers judged and acknowledged, open, lost and held back. From this project's own profile.
use Rattle.std.specs.Prelude.{◌≡◌, ℕ, zero, suc, ◌+◌, ◌*◌, ◌^◌, Bool, true, false, List, [], ◌∷◌}
use Rattle.ack_window.specs.declared.take_window.Taken.TheVariants.{Fresh, Repeat, Old}
use Rattle.ack_window.specs.declared.acknowledgement.Acknowledgement.{Acknowledgement}
use Rattle.ack_window.specs.Arrivals.{receive_verdict, acknowledgement}
use Rattle.ack_window.specs.Outstanding.{may_send_new}
use Rattle.ack_window.specs.Sends.{Event, Sends, Reads, newest_of, open_numbers, decided_by}
use Rattle.ack_window.specs.Versions.{reorder_of, span_of}

-- so many numbers are sent, each with ten times the number
abbrev pub sends_of_numbers : ℕ → List (Event ℕ)
sends_of_numbers zero = []
sends_of_numbers (suc n) = Sends (10 * suc n) ∷ sends_of_numbers n

abbrev pub acknowledged_by : ℕ → List ℕ → Acknowledgement
acknowledged_by version arrived = acknowledgement (reorder_of version) (span_of version) arrived

-- a new number may be sent after this history
abbrev pub may_send_in : ℕ → List (Event ℕ) → Bool
may_send_in version history = may_send_new (span_of version) (newest_of history) (open_numbers (reorder_of version) (span_of version) history)

-- of nine numbers sent, 1, 2, 3 and 6 are acknowledged first, and then all but 4 and 5
abbrev pub first_reading : Acknowledgement
first_reading = record { high = 6; mask = 2 ^ 2 + 2 ^ 3 + 2 ^ 4 }

abbrev pub second_reading : Acknowledgement
second_reading = record { high = 9; mask = 2 ^ 0 + 2 ^ 1 + 2 ^ 2 + 2 ^ 5 + 2 ^ 6 + 2 ^ 7 }

pub record WindowsOfTheFirstVersion : Type 0 where
  -- 1, 2, 8, 3, 4 and 8 arrive
  pub three_is_old : receive_verdict (reorder_of 1) (8 ∷ 2 ∷ 1 ∷ []) 3 ≡ Old
  pub four_is_fresh : receive_verdict (reorder_of 1) (3 ∷ 8 ∷ 2 ∷ 1 ∷ []) 4 ≡ Fresh
  pub eight_is_a_repeat : receive_verdict (reorder_of 1) (4 ∷ 3 ∷ 8 ∷ 2 ∷ 1 ∷ []) 8 ≡ Repeat
  pub six_arrivals : acknowledged_by 1 (8 ∷ 4 ∷ 3 ∷ 8 ∷ 2 ∷ 1 ∷ []) ≡ record { high = 8; mask = 2 ^ 3 + 2 ^ 5 + 2 ^ 6 }
  -- the last bit of the mask, and a number past it
  pub last_bit : acknowledged_by 1 (65 ∷ 1 ∷ []) ≡ record { high = 65; mask = 2 ^ 63 }
  pub past_the_mask : acknowledged_by 1 (66 ∷ 1 ∷ []) ≡ record { high = 66; mask = 0 }
  pub four_and_five_stay_open :
      open_numbers (reorder_of 1) (span_of 1) (Reads first_reading ∷ sends_of_numbers 6)
      ≡ record { number = 4; content = 40 } ∷ record { number = 5; content = 50 } ∷ []
  -- 4 is then lost, and 5 is not yet
  pub four_is_lost :
      decided_by (reorder_of 1) (span_of 1) (Sends 90 ∷ Sends 80 ∷ Sends 70 ∷ Reads first_reading ∷ sends_of_numbers 6) second_reading
      ≡ record { number = 4; lost = true; content = 40 } ∷ record { number = 7; lost = false; content = 70 }
      ∷ record { number = 8; lost = false; content = 80 } ∷ record { number = 9; lost = false; content = 90 } ∷ []
  -- a number that is not sent yet cannot be acknowledged
  pub nothing_is_read_early : decided_by (reorder_of 1) (span_of 1) (sends_of_numbers 8) second_reading ≡ []
  -- with none decided 65 numbers may be sent, and no more until the first is decided
  pub one_is_left : may_send_in 1 (sends_of_numbers 64) ≡ true
  pub full_span : may_send_in 1 (sends_of_numbers 65) ≡ false
  pub first_acknowledged : may_send_in 1 (Reads (record { high = 1; mask = 0 }) ∷ sends_of_numbers 65) ≡ true

pub record WindowsOfTheSecondVersion : Type 0 where
  -- 1, 2, 20, 3, 4 and 20 arrive
  pub three_is_old : receive_verdict (reorder_of 2) (20 ∷ 2 ∷ 1 ∷ []) 3 ≡ Old
  pub four_is_fresh : receive_verdict (reorder_of 2) (3 ∷ 20 ∷ 2 ∷ 1 ∷ []) 4 ≡ Fresh
  pub twenty_is_a_repeat : receive_verdict (reorder_of 2) (4 ∷ 3 ∷ 20 ∷ 2 ∷ 1 ∷ []) 20 ≡ Repeat
  pub six_arrivals : acknowledged_by 2 (20 ∷ 4 ∷ 3 ∷ 20 ∷ 2 ∷ 1 ∷ []) ≡ record { high = 20; mask = 2 ^ 15 + 2 ^ 17 + 2 ^ 18 }
  -- the last bit of the mask, and a number past it
  pub last_bit : acknowledged_by 2 (129 ∷ 1 ∷ []) ≡ record { high = 129; mask = 2 ^ 127 }
  pub past_the_mask : acknowledged_by 2 (130 ∷ 1 ∷ []) ≡ record { high = 130; mask = 0 }
  -- where only the last of nineteen or twenty numbers is shown, 3 is found lost by the latter, and 4 by neither
  pub two_are_lost :
      decided_by (reorder_of 2) (span_of 2) (sends_of_numbers 19) (record { high = 19; mask = 0 })
      ≡ record { number = 1; lost = true; content = 10 } ∷ record { number = 2; lost = true; content = 20 } ∷ record { number = 19; lost = false; content = 190 } ∷ []
  pub three_are_lost :
      decided_by (reorder_of 2) (span_of 2) (sends_of_numbers 20) (record { high = 20; mask = 0 })
      ≡ record { number = 1; lost = true; content = 10 } ∷ record { number = 2; lost = true; content = 20 } ∷ record { number = 3; lost = true; content = 30 }
      ∷ record { number = 20; lost = false; content = 200 } ∷ []
  -- with none decided 129 numbers may be sent, and no more until the first is decided
  pub one_is_left : may_send_in 2 (sends_of_numbers 128) ≡ true
  pub full_span : may_send_in 2 (sends_of_numbers 129) ≡ false
  pub first_acknowledged : may_send_in 2 (Reads (record { high = 129; mask = 2 ^ 127 }) ∷ sends_of_numbers 129) ≡ true

-- Small worlds, computed: what each fate makes of a packet, and what the asks are given. From this project's own profile.
use Rattle.std.specs.Prelude.{◌≡◌, List, [], ◌∷◌, Some, None}
use Rattle.loss_world.specs.declared.fate.Fate.TheVariants.{Lose, Hold, Twice}
use Rattle.loss_world.specs.Arrivals.{Departure, arrivals}
use Rattle.loss_world.specs.History.{WorldCall, Departs, AsksFor, arrivals_left, answers_in}

-- five packets: the first is held, and the third comes again
abbrev pub five_packets : List Departure
five_packets =
    record { round = 0; fate = Some (Hold 3); bytes = 10 ∷ [] }
    ∷ record { round = 1; fate = Some Lose; bytes = 11 ∷ [] }
    ∷ record { round = 2; fate = Some Twice; bytes = 12 ∷ [] }
    ∷ record { round = 3; fate = None; bytes = 13 ∷ [] }
    ∷ record { round = 4; fate = None; bytes = [] } ∷ []

pub record FivePacketsArrive : Type 0 where
  pub none_in_the_first_round : arrivals five_packets 0 ≡ []
  pub lost_for_good : arrivals five_packets 1 ≡ []
  pub the_third_overtakes_the_first : arrivals five_packets 2 ≡ (12 ∷ []) ∷ []
  pub three_in_one_round : arrivals five_packets 3 ≡ (10 ∷ []) ∷ (12 ∷ []) ∷ (13 ∷ []) ∷ []
  pub an_empty_packet : arrivals five_packets 4 ≡ [] ∷ []

-- the packet of round 0 is sent twice, that of round 1 is held by one round, and round 1 is asked for twice
abbrev pub three_rounds : List WorldCall
three_rounds =
    AsksFor 2 ∷ Departs (record { round = 2; fate = None; bytes = 8 ∷ [] }) ∷ AsksFor 1 ∷ AsksFor 1
    ∷ Departs (record { round = 1; fate = Some (Hold 1); bytes = 7 ∷ [] }) ∷ AsksFor 0 ∷ Departs (record { round = 0; fate = Some Twice; bytes = 6 ∷ [] }) ∷ []

pub record ThreeRoundsAreGiven : Type 0 where
  pub the_first_comes_again : answers_in three_rounds 1 ≡ (6 ∷ []) ∷ []
  pub the_held_one_is_given_first : answers_in three_rounds 2 ≡ (7 ∷ []) ∷ []
  pub one_is_left : arrivals_left three_rounds 2 ≡ (8 ∷ []) ∷ []

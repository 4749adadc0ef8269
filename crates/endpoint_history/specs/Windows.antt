-- The laws of the two windows of a connection that the lemmas here rest on, as one premise. From this project's own profile.
use Rattle.std.specs.Prelude.{List}
use Rattle.ack_window.specs.Laws.{EachIsTakenOnce, WhatIsTakenHasCome, TakingIsForGood, TheNewestGoesAgain, AgreementIsKept, PacketsStayTheirSenders}
use Rattle.ack_window.specs.Weights.{EachNumberIsOneOfThree, AReadingMovesWhatItDecides, WeightsAddUp}
use Rattle.fcp_framing.specs.declared.packet.Demand.{Demand}
use Rattle.endpoint_history.specs.Packets.{Telling}

pub record Windows : Type 0 where
  pub once : EachIsTakenOnce
  pub come : WhatIsTakenHasCome
  pub for_good : TakingIsForGood
  pub up : AgreementIsKept (List Demand)
  pub up_newest : TheNewestGoesAgain (List Demand)
  pub up_packets : PacketsStayTheirSenders (List Demand)
  pub down : AgreementIsKept Telling
  pub down_newest : TheNewestGoesAgain Telling
  pub down_packets : PacketsStayTheirSenders Telling
  pub sums : WeightsAddUp Telling
  pub moved : AReadingMovesWhatItDecides Telling
  pub parts : EachNumberIsOneOfThree Telling

-- The worked takeovers, computed.
use Rattle.std.specs.Prelude.{refl}
use Rattle.takeover_text.specs.Lines.{shown}
use Rattle.takeover_text.specs.Examples.{ANodeTakesOver, AGrantOfAnEarlierBootIsRefused}

pub takes_over : ANodeTakesOver
unfolding shown
takes_over = refl

pub earlier_boot : AGrantOfAnEarlierBootIsRefused
unfolding shown
earlier_boot = refl

use Rattle.std.proofs.Common.{ℕ, ◌^◌, ◌<◌, ap, subst}
use Rattle.ack_window.specs.Versions.{span_of}
use Rattle.ack_window.specs.Windows.{Receiver}
use Rattle.ack_window.proofs.Taking.{fits-stands, named-stands}
use Rattle.ack_window.proofs.take_window.TakeWindow.ack.Goals as goal

pub returns-clause-fits : goal.returns-clause-fits
returns-clause-fits c =
    subst (λ (v : ℕ). c.self.inside.mask < 2 ^ span_of v) (ap (λ (w : Receiver). w.version) c.self.view_is)
    (fits-stands _ _ _ c.self.invariant.0 c.self.invariant.1)

pub returns-clause-numbers : goal.returns-clause-numbers
returns-clause-numbers c = λ i set. named-stands _ _ _ c.self.invariant.0 c.self.invariant.1 i set

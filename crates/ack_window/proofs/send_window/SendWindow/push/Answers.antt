use Rattle.std.proofs.Common.{◌+◌, ◌<◌, ◌≤◌, List, All, ◌∷◌, sym, arith, subst}
use Rattle.ack_window.specs.declared.send_window.Unresolved.{Unresolved}
use Rattle.ack_window.specs.Kept.{IsKept}
use Rattle.ack_window.specs.Sends.{Sends, StandsForSends}
use Rattle.ack_window.specs.Versions.{reorder_of, span_of}
use Rattle.ack_window.specs.Windows.{Sender, HasDone, MaySend}
use Rattle.ack_window.proofs.Sending.{IsKept-push, length-may_send, StandsForSends-send}
use Rattle.ack_window.proofs.Spans.{reorder-span, span-most}
use Rattle.ack_window.proofs.Steps.{near-new}
use Rattle.ack_window.proofs.send_window.SendWindow.push.Goals as goal

pub push_reserved-requires : goal.push_reserved-requires
push_reserved-requires g c =
    let may = subst (λ (w : Sender g.row.T.Denot). MaySend w) (sym c.self.view_is) c.requires.may_send in
    let some = reorder-span c.self.inside.version in
    let most = span-most c.self.inside.version in
    let few = length-may_send (span_of c.self.inside.version) c.self.inside.newest c.self.inside.unresolved.items (omega arith) may c.self.invariant.0.within in
    let long = c.self.inside.unresolved.ok.0 in
    let room = c.self.invariant.1 in
    omega arith

pub invariant_of-self : goal.invariant_of-self
invariant_of-self g c =
    let may = subst (λ (w : Sender g.row.T.Denot). MaySend w) (sym c.self.view_is) c.requires.may_send in
    let kept = IsKept-push (reorder_of c.self.inside.version) (span_of c.self.inside.version) c.self.inside.newest c.args.content c.self.inside.unresolved.items c.self.invariant.0 may in
    let room = c.self.invariant.1 in
    let same = c.push_reserved.ensures.capacity in (
      subst (λ (xs : List (Unresolved g.row.T.Denot)). IsKept (reorder_of c.self.inside.version) (span_of c.self.inside.version) (c.self.inside.newest + 1) xs)
          (sym {A = List (Unresolved g.row.T.Denot)} c.push_reserved.ensures.items) kept,
      omega arith,
    )

pub returns-clause-stands : goal.returns-clause-stands
returns-clause-stands g c = λ history stands.
    let before = subst (λ (w : Sender g.row.T.Denot). HasDone w history) (sym c.self.view_is) stands in
    let may = subst (λ (w : Sender g.row.T.Denot). MaySend w) (sym c.self.view_is) c.requires.may_send in
    subst (λ (xs : List (Unresolved g.row.T.Denot)). StandsForSends (reorder_of c.self.inside.version) (span_of c.self.inside.version) (record { newest = c.self.inside.newest + 1; unresolved = xs }) (Sends c.args.content ∷ history))
    (sym {A = List (Unresolved g.row.T.Denot)} c.push_reserved.ensures.items)
    (StandsForSends-send (reorder_of c.self.inside.version) (span_of c.self.inside.version) _ c.args.content history before may)

pub returns-clause-near : goal.returns-clause-near
returns-clause-near g c =
    let may = subst (λ (w : Sender g.row.T.Denot). MaySend w) (sym c.self.view_is) c.requires.may_send in
    let near = near-new (span_of c.self.inside.version) c.self.inside.newest c.self.inside.unresolved.items (span-most c.self.inside.version) may c.self.invariant.0.within in
    subst (λ (w : Sender g.row.T.Denot). All (λ s. (s.number < c.self.inside.newest + 1) × (c.self.inside.newest + 1 ≤ s.number + 128)) w.outstanding.unresolved) c.self.view_is near

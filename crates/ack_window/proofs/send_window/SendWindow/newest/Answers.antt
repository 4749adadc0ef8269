use Rattle.std.proofs.Common.{◌≡◌, ◌<◌, ◌-◌, ◌∷◌, List, [], Some, slice_get, length, get_or, sym, ◌∙◌, ap, subst, arith}
use Rattle.std.proofs.lemmas.Option.{get_or_from_slice_get}
use Rattle.ack_window.specs.Kept.{last_number}
use Rattle.ack_window.specs.Versions.{reorder_of, span_of}
use Rattle.ack_window.specs.Windows.{Sender, HasDone, MaySend}
use Rattle.ack_window.proofs.Sending.{newest_content-at, last_number-at, last_number-full}
use Rattle.ack_window.proofs.Spans.{reorder-span}
use Rattle.ack_window.proofs.send_window.SendWindow.newest.Goals as goal

has-last : {X : Type 0} (xs : List X) (x : X) → Some x ≡ slice_get xs (length xs - 1) → 0 < length xs
has-last [] x is = absurd (cc)
has-last (y ∷ ys) x is = omega arith

pub returns-clause-content : goal.returns-clause-content
returns-clause-content g c = λ history stands.
    let version = c.self.inside.version in
    let before = subst (λ (w : Sender g.row.T.Denot). HasDone w history) (sym c.self.view_is) stands in
    let full = subst (λ (w : Sender g.row.T.Denot). ¬ MaySend w) (sym c.self.view_is) c.requires in
    let all = c.self.inside.unresolved.items in
    let last = c.unwrap-last.result.now in
    let found = rw c.deref.ensures.value at (rw c.unwrap-last.ensures at c.last.ensures.value) in
    let some : 0 < length all = has-last all last found in
    let here : last ≡ get_or all (length all - 1) last = sym (get_or_from_slice_get all (length all - 1) last last (sym found)) in
    newest_content-at (reorder_of version) (span_of version) _ history before (length all - 1) last (omega arith) here
    (ap (λ s. s.number) here ∙ last_number-at all last (omega arith) ∙ last_number-full (reorder_of version) (span_of version) c.self.inside.newest all (reorder-span version) c.self.invariant.0 full)

pub returns-clause-last : goal.returns-clause-last
returns-clause-last g c =
    let version = c.self.inside.version in
    let full = subst (λ (w : Sender g.row.T.Denot). ¬ MaySend w) (sym c.self.view_is) c.requires in
    subst (λ (w : Sender g.row.T.Denot). last_number w.outstanding.unresolved ≡ w.outstanding.newest) c.self.view_is
    (last_number-full (reorder_of version) (span_of version) c.self.inside.newest c.self.inside.unresolved.items (reorder-span version) c.self.invariant.0 full)

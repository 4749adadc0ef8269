use Rattle.std.proofs.Common.{◌≡◌, ◌-◌, ◌^◌, List, ◌∷◌, ◌++◌, length, sym, ◌∙◌, ap, subst, rules, arith}
use Rattle.ack_window.specs.declared.send_window.Decided.{Decided}
use Rattle.ack_window.specs.declared.send_window.Unresolved.{Unresolved}
use Rattle.ack_window.specs.declared.acknowledgement.Acknowledgement.{Acknowledgement}
use Rattle.ack_window.specs.Acknowledgement.{decision_by}
use Rattle.ack_window.specs.Kept.{IsKept}
use Rattle.ack_window.specs.Outstanding.{decided_in}
use Rattle.ack_window.specs.Sends.{Event, Reads, decided_by, StandsForSends}
use Rattle.ack_window.specs.Steps.{after_reading, decided_for}
use Rattle.ack_window.specs.Versions.{reorder_of, span_of}
use Rattle.ack_window.specs.Windows.{Sender, HasDone}
use Rattle.ack_window.proofs.Sending.{RisesWithin-length, RisesWithin-weaker, IsKept-read, StandsForSends-read, decided_by-read, decided_by-passed}
use Rattle.ack_window.proofs.Spans.{span-most}
use Rattle.ack_window.proofs.Steps.{found-read, left-passed, found-passed}
use Rattle.ack_window.proofs.send_window.SendWindow.read_ack.Goals as goal

pub decide-requires : goal.decide-requires
decide-requires g c =
    let kept = c.self.invariant.0 in
    let most = span-most c.self.inside.version in
    let few = RisesWithin-length (c.self.inside.newest - span_of c.self.inside.version) c.self.inside.newest c.self.inside.unresolved.items (omega arith) kept.within in
    let long = c.self.inside.unresolved.ok.0 in
    let none = ap length c.requires in (
      search rules,
      (RisesWithin-weaker (c.self.inside.newest - span_of c.self.inside.version) c.self.inside.newest 0 (2 ^ 32) c.self.inside.unresolved.items (omega arith) (omega arith) kept.within, omega arith),
    )

pub invariant_of-self : goal.invariant_of-self
invariant_of-self g c =
    let kept = IsKept-read (reorder_of c.self.inside.version) (span_of c.self.inside.version) c.self.inside.newest (record { high = c.args.high; mask = c.args.mask }) c.self.inside.unresolved.items c.self.invariant.0 c.if-high-self.true in
    let room = c.self.invariant.1 in
    let same = c.decide.ensures.capacity in (
      subst (λ (xs : List (Unresolved g.row.T.Denot)). IsKept (reorder_of c.self.inside.version) (span_of c.self.inside.version) c.self.inside.newest xs)
          (sym {A = List (Unresolved g.row.T.Denot)} c.decide.ensures.left) kept,
      omega arith,
    )

-- what is decided, from the fields to what clauses see of them
as_seen : {T : Type 0} (fields now : Sender T) (found : List (Decided T)) (history : List (Event T)) (ack : Acknowledgement) → fields ≡ now →
    found ≡ decided_by (reorder_of fields.version) (span_of fields.version) history ack → found ≡ decided_by (reorder_of now.version) (span_of now.version) history ack
as_seen {T} fields now found history ack is decided =
    subst (λ (w : Sender T). found ≡ decided_by (reorder_of w.version) (span_of w.version) history ack) is decided

pub returns-then-high-self-clause-decided : goal.returns-then-high-self-clause-decided
returns-then-high-self-clause-decided g c = λ history stands.
    let before = subst (λ (w : Sender g.row.T.Denot). HasDone w history) (sym c.self.view_is) stands in
    let a : Acknowledgement = record { high = c.args.high; mask = c.args.mask } in
    as_seen _ _ _ history a c.self.view_is
    (c.decide.ensures.found
    ∙ ap (λ xs. xs ++ decided_in (decision_by (reorder_of c.self.inside.version) (span_of c.self.inside.version) a) c.self.inside.unresolved.items) c.requires
    ∙ decided_by-read (reorder_of c.self.inside.version) (span_of c.self.inside.version) _ a history before c.if-high-self.true)

pub returns-then-high-self-clause-stands : goal.returns-then-high-self-clause-stands
returns-then-high-self-clause-stands g c = λ history stands.
    let before = subst (λ (w : Sender g.row.T.Denot). HasDone w history) (sym c.self.view_is) stands in
    subst (λ (xs : List (Unresolved g.row.T.Denot)). StandsForSends (reorder_of c.self.inside.version) (span_of c.self.inside.version) (record { newest = c.self.inside.newest; unresolved = xs }) (Reads (record { high = c.args.high; mask = c.args.mask }) ∷ history))
    (sym {A = List (Unresolved g.row.T.Denot)} c.decide.ensures.left)
    (StandsForSends-read (reorder_of c.self.inside.version) (span_of c.self.inside.version) _ (record { high = c.args.high; mask = c.args.mask }) history before c.if-high-self.true)

pub returns-else-high-self-clause-decided : goal.returns-else-high-self-clause-decided
returns-else-high-self-clause-decided g c = λ history stands.
    let before = subst (λ (w : Sender g.row.T.Denot). HasDone w history) (sym c.self.view_is) stands in
    let a : Acknowledgement = record { high = c.args.high; mask = c.args.mask } in
    as_seen _ _ _ history a c.self.view_is
    (c.requires ∙ sym (decided_by-passed (reorder_of c.self.inside.version) (span_of c.self.inside.version) _ a history before c.if-high-self.false))

-- and by the step
found_as_seen : {T : Type 0} (fields now : Sender T) (found : List (Decided T)) (ack : Acknowledgement) → fields ≡ now → found ≡ decided_for fields ack → found ≡ decided_for now ack
found_as_seen {T} fields now found ack is decided = subst (λ (w : Sender T). found ≡ decided_for w ack) is decided

pub returns-then-high-self-clause-found : goal.returns-then-high-self-clause-found
returns-then-high-self-clause-found g c =
    let a : Acknowledgement = record { high = c.args.high; mask = c.args.mask } in
    found_as_seen _ _ _ a c.self.view_is
    (c.decide.ensures.found
    ∙ ap (λ xs. xs ++ decided_in (decision_by (reorder_of c.self.inside.version) (span_of c.self.inside.version) a) c.self.inside.unresolved.items) c.requires
    ∙ found-read _ a c.if-high-self.true)

pub returns-else-high-self-clause-found : goal.returns-else-high-self-clause-found
returns-else-high-self-clause-found g c =
    let a : Acknowledgement = record { high = c.args.high; mask = c.args.mask } in
    found_as_seen _ _ _ a c.self.view_is (c.requires ∙ sym (found-passed _ a c.if-high-self.false))

pub returns-else-high-self-clause-step : goal.returns-else-high-self-clause-step
returns-else-high-self-clause-step g c =
    let a : Acknowledgement = record { high = c.args.high; mask = c.args.mask } in
    subst (λ (w : Sender g.row.T.Denot). w ≡ after_reading w a) c.self.view_is (left-passed _ a c.if-high-self.false)

use Rattle.std.proofs.Common.{◌≡◌, ◌<◌, [], ◌∷◌, ◌++◌, length, sym, ap, subst, ◌∙◌, append-nil, append_assoc, length-append, arith}
use Rattle.std.proofs.lemmas.Bool.{false≢true}
use Rattle.csv.specs.Records.{fields_of}
use Rattle.trace_text.specs.Lines.{records_in}
use Rattle.trace_text.proofs.FrontFacts.{LastIsClosed, front-whole, last-closed}
use Rattle.trace_text.proofs.whole_front.is_whole.Goals as goal

pub loop-records-init : goal.loop-records-init
loop-records-init c = ([], sym c.in_ok-records.ensures, λ e. absurd (false≢true e))

pub loop-records-preserved : goal.loop-records-preserved
loop-records-preserved c =
    let (given, all, closed) = c.loop-records.invariant in
    let fields = fields_of c.read.new.fields in
    let next : c.loop-records.records.value ≡ fields ∷ c.read.new.self = sym c.deref_mut.ensures.value ∙ (rw c.if-branch.true at c.in_ok-read.ensures) in (
      given ++ fields ∷ [],
      all ∙ ap (λ l. given ++ l) next ∙ sym (append_assoc given (fields ∷ []) c.read.new.self),
      λ e. (last-closed given fields (c.is_closed-is_between.ensures e), omega (arith, length-append given (fields ∷ []))),
    )

pub returns : goal.returns
returns c between rest =
    let (given, all, closed) = c.loop-records.invariant in
    let none : c.loop-records.records.value ≡ [] = sym c.deref_mut.ensures.value ∙ (rw c.if-branch.false at c.in_ok-read.ensures) in
    let same : given ≡ records_in c.args.front.now = sym (all ∙ ap (λ l. given ++ l) none ∙ append-nil given) in
    let some = closed between in
    (front-whole c.args.front.now rest c.requires (subst LastIsClosed same some.0), subst (λ l. 0 < length l) same some.1)

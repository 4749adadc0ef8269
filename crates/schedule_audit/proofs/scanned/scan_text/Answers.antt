use Rattle.std.proofs.Common.{◌≡◌, ◌+◌, [], ◌∷◌, ◌++◌, List, length, true, false, sym, ap, ◌∙◌, subst, arith, append_assoc}
use Rattle.std.proofs.lemmas.List.{nil_from_length}
use Rattle.std.proofs.lemmas.Bool.{eqb-true}
use Rattle.clos_topology.specs.Network.{endpoints_of}
use Rattle.schedule_audit.specs.Collecting.{CollectsUpTo}
use Rattle.schedule_audit.specs.Lines.{Recorded, records}
use Rattle.schedule_audit.specs.Misplaced.{cannot_stand}
use Rattle.schedule_audit.specs.Reading.{ReadsLines}
use Rattle.schedule_audit.proofs.CollectLemmas.{collects-more, collects-all}
use Rattle.schedule_audit.proofs.FirstLines.{comes_first, empty_text, goes_on, no_lines, shorter}
use Rattle.schedule_audit.proofs.Passes.{Reached, at_first, found_after_end, found_here, one_more, with_end, without_end}
use Rattle.schedule_audit.proofs.scanned.scan_text.Goals as goal
use Rattle.schedule_audit.proofs.scanned.scan_text.Goals.{then-ended-2, else-ended-2, then-ended-via-then-ended, then-ended-via-else-ended+then-misplaces}

pub loop-rest-init : goal.loop-rest-init
unfolding at_first
loop-rest-init c = record {
  reached = λ lines are.
      let net = endpoints_of c.args.net.now in
      let first = at_first net lines c.args.text.now c.in_ok-standing.standing.last c.in_ok-standing.standing.sums are c.in_ok-standing.ensures.none in
      let number : 1 ≡ c.new-collected.result.lines + 1 = ap (λ n. n + 1) (sym c.new-collected.ensures.lines) in
      subst (λ n. (reached : Reached net lines c.args.text.now n false c.in_ok-standing.standing.last c.in_ok-standing.standing.sums) × CollectsUpTo lines reached.after c.new-collected.result) number (first, c.new-collected.ensures.collects lines);
  behind = ([], λ after are. are);
  bound = omega (arith, c.new-collected.ensures.lines);
  endpoints = c.in_ok-standing.ensures.endpoints ∙ c.endpoints.ensures.number;
}

pub returns-then-ended-clause-misplaced : goal.returns-then-ended-clause-misplaced
returns-then-ended-clause-misplaced c = λ lines are.
    let net = endpoints_of c.args.net.now in
    let rest = c.loop-rest.rest.now in
    let line = c.first_line-line.result.0 in
    let later = c.first_line-line.result.1.now in
    let standing = c.loop-rest.standing in
    let number = c.loop-rest.collected.lines + 1 in
    let (reached, collects) = c.loop-rest.invariant.reached lines are in
    elim c.then-ended.branch [
      | then-ended-via-then-ended w ↦ found_after_end net lines rest later number c.loop-rest.ended standing.last standing.sums line reached c.first_line-line.ensures w.if-ended.true
      | then-ended-via-else-ended+then-misplaces w ↦
          let first = comes_first rest later line reached.after c.first_line-line.ensures reached.are in
          let told = collects.records ∙ (ap (λ ls. c.loop-rest.collected.records.items ++ records ls) first.1 ∙ ap (λ (rs : List Recorded). rs ++ records (line ∷ first.0)) (sym w.deref.ensures.value)) in
          let bad : cannot_stand net lines reached.before line ≡ true =
          ap (λ n. cannot_stand n lines reached.before line) (sym c.loop-rest.invariant.endpoints)
          ∙ (sym (w.misplaces.ensures.judged lines reached.before first.0 first.2 told reached.stands) ∙ w.if-misplaces.true) in
          found_here net lines rest later number c.loop-rest.ended standing.last standing.sums line reached c.first_line-line.ensures w.if-ended.false bad
    ]

pub returns-then-ended-clause-lines : goal.returns-then-ended-clause-lines
returns-then-ended-clause-lines c =
    let (before, goes) = c.loop-rest.invariant.behind in
    let (after, are, count) = c.count_lines-others.ensures in
    (before ++ after, goes after are)

pub loop-rest-preserved : goal.loop-rest-preserved
loop-rest-preserved c =
    let net = endpoints_of c.args.net.now in
    let rest = c.loop-rest.rest.now in
    let line = c.first_line-line.result.0 in
    let later = c.first_line-line.result.1.now in
    let standing = c.loop-rest.standing in
    let old = c.loop-rest.collected in
    let number = old.lines + 1 in
    let less = shorter rest later line c.first_line-line.ensures in
    let (before, goes) = c.loop-rest.invariant.behind in
    record {
      reached = λ lines are.
          let (reached, collects) = c.loop-rest.invariant.reached lines are in
          let first = comes_first rest later line reached.after c.first_line-line.ensures reached.are in
          let told = collects.records ∙ (ap (λ ls. old.records.items ++ records ls) first.1 ∙ ap (λ (rs : List Recorded). rs ++ records (line ∷ first.0)) (sym c.deref.ensures.value)) in
          let good : cannot_stand net lines reached.before line ≡ false =
          ap (λ n. cannot_stand n lines reached.before line) (sym c.loop-rest.invariant.endpoints)
          ∙ (sym (c.misplaces.ensures.judged lines reached.before first.0 first.2 told reached.stands) ∙ c.if-misplaces.false) in
          let next = ap (λ n. n + 1) c.in_ok-take.ensures.lines in
          let (more, is) = one_more net lines rest later number c.loop-rest.ended standing.last standing.sums line reached c.first_line-line.ensures (c.take.new.self.lines + 1) c.misplaces.new.standing.last c.misplaces.new.standing.sums next
          c.if-ended.false good (c.misplaces.ensures.stands reached.before reached.stands c.if-misplaces.false) in
          let so_far = collects-more lines more.after line old c.take.new.self (subst (λ after. CollectsUpTo lines after old) is collects) c.in_ok-take.ensures in
          subst (λ b. (reached : Reached net lines later (c.take.new.self.lines + 1) b c.misplaces.new.standing.last c.misplaces.new.standing.sums) × CollectsUpTo lines reached.after c.take.new.self) (sym c.is_end-ended.ensures) (more, so_far);
      behind = (before ++ line ∷ [], λ after are. subst (ReadsLines c.args.text.now) (sym (append_assoc before (line ∷ []) after)) (goes (line ∷ after) (goes_on rest later line after c.first_line-line.ensures are)));
      bound = omega (arith, less, c.loop-rest.invariant.bound, c.in_ok-take.ensures.lines);
      endpoints = c.misplaces.ensures.endpoints ∙ c.loop-rest.invariant.endpoints;
    }

pub loop-rest-smaller : goal.loop-rest-smaller
loop-rest-smaller c = shorter c.loop-rest.rest.now c.first_line-line.result.1.now c.first_line-line.result.0 c.first_line-line.ensures

pub returns-clause-misplaced : goal.returns-clause-misplaced
returns-clause-misplaced c = λ lines are.
    let net = endpoints_of c.args.net.now in
    let rest = c.loop-rest.rest.now in
    let standing = c.loop-rest.standing in
    let number = c.loop-rest.collected.lines + 1 in
    let (reached, collects) = c.loop-rest.invariant.reached lines are in
    let done : rest ≡ [] = nil_from_length rest (eqb-true (length rest) 0 (sym c.is_empty.ensures ∙ c.loop-rest-test.false)) in
    elim c.if-ended-2.branch [
      | then-ended-2 w ↦ w.misplaced-is ∙ with_end net lines rest number c.loop-rest.ended standing.last standing.sums reached done w.if-ended-2.true
      | else-ended-2 w ↦ w.misplaced-is ∙ without_end net lines rest number c.loop-rest.ended standing.last standing.sums reached done w.if-ended-2.false
    ]

pub returns-clause-collected : goal.returns-clause-collected
returns-clause-collected c = λ none lines are.
    let rest = c.loop-rest.rest.now in
    let done : rest ≡ [] = nil_from_length rest (eqb-true (length rest) 0 (sym c.is_empty.ensures ∙ c.loop-rest-test.false)) in
    let (reached, collects) = c.loop-rest.invariant.reached lines are in
    let nothing : reached.after ≡ [] = empty_text reached.after (subst (λ xs. ReadsLines xs reached.after) done reached.are) in
    collects-all lines c.loop-rest.collected (subst (λ after. CollectsUpTo lines after c.loop-rest.collected) nothing collects)

pub returns-clause-lines : goal.returns-clause-lines
returns-clause-lines c =
    let rest = c.loop-rest.rest.now in
    let done : rest ≡ [] = nil_from_length rest (eqb-true (length rest) 0 (sym c.is_empty.ensures ∙ c.loop-rest-test.false)) in
    let (before, goes) = c.loop-rest.invariant.behind in
    (before ++ [], goes [] (subst (λ xs. ReadsLines xs []) (sym done) no_lines))

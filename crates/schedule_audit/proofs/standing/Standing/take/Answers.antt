use Rattle.std.proofs.Common.{◌≡◌, not, true, false, sym, ap, ◌∙◌}
use Rattle.std.proofs.lemmas.Bool.{lt-ltb, le-ltb}
use Rattle.schedule_audit.specs.Misplaced.{most_added, is_above, has_wrong_ends, says_nothing, clears_none, adds_too_much}
use Rattle.schedule_audit.specs.Standing.{is_above_last}
use Rattle.schedule_audit.proofs.Standings.{above-last, bad-clear, bad-sum, good-record, before-is, clears-none, adds-too-much, stands-more}
use Rattle.schedule_audit.proofs.standing.Standing.take.Goals as goal

pub returns-then-clears_none-clause-good : goal.returns-then-clears_none-clause-good
returns-then-clears_none-clause-good c = λ earlier stands.
    let old = c.args.self.now in
    let next = c.args.next in
    let right : has_wrong_ends old.sums.endpoints next.flow ≡ false = ap (λ n. has_wrong_ends n next.flow) (sym c.endpoints.ensures) ∙ (sym c.has_wrong_ends.ensures ∙ c.if-has_wrong_ends.false) in
    let before = before-is old.last old.sums earlier next c.get-before.result stands right c.get-before.ensures in
    let clears : clears_none earlier next ≡ true = sym (clears-none earlier next c.get-before.result before) ∙ (sym c.clears_none.ensures ∙ c.if-clears_none.true) in
    ap not (sym (bad-clear old.sums.endpoints earlier next clears))

pub returns-then-sum-gt-MOST_ADDED-clause-good : goal.returns-then-sum-gt-MOST_ADDED-clause-good
unfolding most_added
returns-then-sum-gt-MOST_ADDED-clause-good c = λ earlier stands.
    let old = c.args.self.now in
    let next = c.args.next in
    let right : has_wrong_ends old.sums.endpoints next.flow ≡ false = ap (λ n. has_wrong_ends n next.flow) (sym c.endpoints.ensures) ∙ (sym c.has_wrong_ends.ensures ∙ c.if-has_wrong_ends.false) in
    let before = before-is old.last old.sums earlier next c.get-before.result stands right c.get-before.ensures in
    let adds : adds_too_much earlier next ≡ true = sym (adds-too-much earlier next c.get-before.result c.sum_with-sum.result before c.sum_with-sum.ensures) ∙ lt-ltb _ c.sum_with-sum.result c.if-sum-gt-MOST_ADDED.true in
    ap not (sym (bad-sum old.sums.endpoints earlier next adds))

pub returns-clause-good : goal.returns-clause-good
unfolding most_added
returns-clause-good c = λ earlier stands.
    let old = c.args.self.now in
    let next = c.args.next in
    let right : has_wrong_ends old.sums.endpoints next.flow ≡ false = ap (λ n. has_wrong_ends n next.flow) (sym c.endpoints.ensures) ∙ (sym c.has_wrong_ends.ensures ∙ c.if-has_wrong_ends.false) in
    let before = before-is old.last old.sums earlier next c.get-before.result stands right c.get-before.ensures in
    let clears : clears_none earlier next ≡ false = sym (clears-none earlier next c.get-before.result before) ∙ (sym c.clears_none.ensures ∙ c.if-clears_none.false) in
    let adds : adds_too_much earlier next ≡ false = sym (adds-too-much earlier next c.get-before.result c.sum_with-sum.result before c.sum_with-sum.ensures) ∙ le-ltb _ c.sum_with-sum.result c.if-sum-gt-MOST_ADDED.false in
    let above : is_above earlier next ≡ true = sym (above-last earlier next) ∙ (ap (λ o. is_above_last o next) (sym stands.last_one) ∙ (sym c.is_above.ensures ∙ c.if-not-is_above.false)) in
    let says : says_nothing next ≡ false = sym c.says_nothing.ensures ∙ c.if-says_nothing.false in
    ap not (sym (good-record old.sums.endpoints earlier next above right says clears adds))

pub returns-clause-taken : goal.returns-clause-taken
returns-clause-taken c = λ earlier stands taken.
    let old = c.args.self.now in
    let next = c.args.next in
    let right : has_wrong_ends old.sums.endpoints next.flow ≡ false = ap (λ n. has_wrong_ends n next.flow) (sym c.endpoints.ensures) ∙ (sym c.has_wrong_ends.ensures ∙ c.if-has_wrong_ends.false) in
    let before = before-is old.last old.sums earlier next c.get-before.result stands right c.get-before.ensures in
    stands-more old.last old.sums c.set.new.self earlier next c.get-before.result c.sum_with-sum.result stands before c.sum_with-sum.ensures c.set.ensures.endpoints c.set.ensures.cells

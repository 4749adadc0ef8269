use Rattle.std.proofs.Common.{ℕ, subst}
use Rattle.std.proofs.lemmas.List.{drop_all}
use Rattle.replay_rounds.specs.Counting.{IsRest}
use Rattle.replay_rounds.proofs.ToldCounts.{told_at_place, may_tell, told_more, rest_ends}
use Rattle.replay_rounds.proofs.publish.count_batch.Goals as goal

pub allocated-requires-clause-whole : goal.allocated-requires-clause-whole
allocated-requires-clause-whole c =
    let laws = c.counting_holds.ensures in
    let i : ℕ = c.loop-one.one-index in
    let (setting, collected, all, src, may, rest) = c.requires.rest in
    let next = told_at_place laws setting collected all src c.args.batch c.loop-one.lane c.args.told.now i c.loop-one-test.true (c.loop-one.invariant setting collected all src may rest) in
    (may_tell laws setting collected all src c.args.batch c.loop-one.lane _ _ may next).0

pub allocated-requires-clause-destination : goal.allocated-requires-clause-destination
allocated-requires-clause-destination c =
    let laws = c.counting_holds.ensures in
    let i : ℕ = c.loop-one.one-index in
    let (setting, collected, all, src, may, rest) = c.requires.rest in
    let next = told_at_place laws setting collected all src c.args.batch c.loop-one.lane c.args.told.now i c.loop-one-test.true (c.loop-one.invariant setting collected all src may rest) in
    (may_tell laws setting collected all src c.args.batch c.loop-one.lane _ _ may next).1

pub allocated-requires-clause-recorded : goal.allocated-requires-clause-recorded
allocated-requires-clause-recorded c =
    let laws = c.counting_holds.ensures in
    let i : ℕ = c.loop-one.one-index in
    let (setting, collected, all, src, may, rest) = c.requires.rest in
    let next = told_at_place laws setting collected all src c.args.batch c.loop-one.lane c.args.told.now i c.loop-one-test.true (c.loop-one.invariant setting collected all src may rest) in
    (may_tell laws setting collected all src c.args.batch c.loop-one.lane _ _ may next).2

pub allocated-requires-clause-pending : goal.allocated-requires-clause-pending
allocated-requires-clause-pending c =
    let laws = c.counting_holds.ensures in
    let i : ℕ = c.loop-one.one-index in
    let (setting, collected, all, src, may, rest) = c.requires.rest in
    let next = told_at_place laws setting collected all src c.args.batch c.loop-one.lane c.args.told.now i c.loop-one-test.true (c.loop-one.invariant setting collected all src may rest) in
    (may_tell laws setting collected all src c.args.batch c.loop-one.lane _ _ may next).3

pub loop-one-preserved : goal.loop-one-preserved
loop-one-preserved c = λ setting collected all src may rest.
    let laws = c.counting_holds.ensures in
    let i : ℕ = c.loop-one.one-index in
    let next = told_at_place laws setting collected all src c.args.batch c.loop-one.lane c.args.told.now i c.loop-one-test.true (c.loop-one.invariant setting collected all src may rest) in
    told_more laws setting collected all src c.args.batch c.loop-one.lane c.allocated.new.self _ _ next c.allocated.ensures.frame c.allocated.ensures.stands

pub returns : goal.returns
returns c = λ setting collected all src may rest.
    rest_ends c.counting_holds.ensures setting collected all src c.args.batch c.loop-one.lane
    (subst (IsRest setting collected all src c.args.batch c.loop-one.lane) (drop_all c.loop-one.one-index c.args.told.now c.loop-one-test.false) (c.loop-one.invariant setting collected all src may rest))

use Rattle.std.proofs.Common.{◌≡◌, ◌+◌, ◌++◌, [], ◌∷◌, List, sym, subst}
use Rattle.greedy_rules.specs.declared.flows.Entry.{Entry}
use Rattle.greedy_rules.specs.Batches.{IsAboveLast}
use Rattle.arbiter_lane.proofs.Changes.{OnOk-then}
use Rattle.arbiter_lane.proofs.Entering.{above_later, above_pushed}
use Rattle.arbiter_lane.proofs.flows.enter_one.Goals as goal

pub returns-in-Some-clause-above : goal.returns-in-Some-clause-above
returns-in-Some-clause-above c =
    let src = c.args.flow.src in
    let dst = c.args.flow.dst in
    OnOk-then (c.push.new.self.entries ≡ c.args.batch.now.entries ++ c.in-Some.entry ∷ []) (IsAboveLast c.push.new.self.entries (record { src = src; dst = dst + 1 })) c.push.result c.push.ensures.ok
    (λ pushed. subst (λ (entries : List Entry). IsAboveLast entries (record { src = src; dst = dst + 1 })) (sym pushed) (above_pushed c.args.batch.now.entries c.in-Some.entry src dst c.in-Some.ensures.flow))

pub returns-in-None-clause-above : goal.returns-in-None-clause-above
returns-in-None-clause-above c = above_later c.args.batch.now.entries c.args.flow.src c.args.flow.dst c.requires.above

use Rattle.std.proofs.Common.{◌++◌, List, ap, ◌∙◌, subst}
use Rattle.greedy_rules.specs.declared.flows.Item.{Item}
use Rattle.slot_batches.specs.Woven.{picked, NeedNothing}
use Rattle.window_allocation.specs.Logged.{Logged, AreParts, is_left}
use Rattle.window_allocation.proofs.LogParts.{parts_with, both_picked, both_need_nothing}
use Rattle.window_allocation.proofs.demand_log.DemandLog.pick.Goals as goal

pub returns-clause-picked : goal.returns-clause-picked
returns-clause-picked c = λ _.
    let first : List Item = c.pick.new.self.picked in
    let then : List Item = c.pick-2.new.self.picked in
    let never : Logged = record c.self.inside.never { picked = first } in
    let served : Logged = record c.self.inside.served { picked = then } in
    let parts : AreParts never served = parts_with c.self.inside.never c.self.inside.served first then c.self.invariant c.pick.ensures.picked c.pick-2.ensures.picked in
    both_picked never served parts ∙ ap (λ (l : Logged). picked (is_left (first ++ then)) l.items) c.self.view_is

pub returns-clause-nothing : goal.returns-clause-nothing
returns-clause-nothing c = λ found.
    let first : List Item = c.pick.new.self.picked in
    let then : List Item = c.pick-2.new.self.picked in
    let never : Logged = record c.self.inside.never { picked = first } in
    let served : Logged = record c.self.inside.served { picked = then } in
    let parts : AreParts never served = parts_with c.self.inside.never c.self.inside.served first then c.self.invariant c.pick.ensures.picked c.pick-2.ensures.picked in
    subst (λ (l : Logged). NeedNothing (is_left (first ++ then)) c.args.batches.now l.items) c.self.view_is
    (both_need_nothing never served c.args.batches.now parts (c.pick.ensures.nothing c.if-not-pick.false) (c.pick-2.ensures.nothing found))

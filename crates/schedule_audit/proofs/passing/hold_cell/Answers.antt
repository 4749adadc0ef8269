use Rattle.std.proofs.Common.{◌<◌, ◌∷◌, ◌++◌, [], Option, ℕ, subst, sym}
use Rattle.std.proofs.lemmas.List.Elements.{All-head}
use Rattle.greedy_rules.specs.declared.flows.Flow.{Flow}
use Rattle.greedy_rules.specs.SlotTable.{flows_from}
use Rattle.clos_topology.specs.Network.{endpoints_of}
use Rattle.schedule_audit.specs.Walked.{in_slot, StandApart, FlowsAreBetween}
use Rattle.schedule_audit.proofs.passing.hold_cell.Goals as goal

pub hold-requires-clause-src : goal.hold-requires-clause-src
hold-requires-clause-src c =
    let endpoints = endpoints_of c.args.judges.now.net in
    (All-head (λ (f : Flow). (f.src < endpoints) × (f.dst < endpoints)) (record { src = c.args.src; dst = c.in-Some.dst }) []
    (subst (λ (to : Option ℕ). FlowsAreBetween endpoints (flows_from c.args.src (to ∷ []))) c.in-Some.is c.requires.flows)).0

pub hold-requires-clause-dst : goal.hold-requires-clause-dst
hold-requires-clause-dst c =
    let endpoints = endpoints_of c.args.judges.now.net in
    (All-head (λ (f : Flow). (f.src < endpoints) × (f.dst < endpoints)) (record { src = c.args.src; dst = c.in-Some.dst }) []
    (subst (λ (to : Option ℕ). FlowsAreBetween endpoints (flows_from c.args.src (to ∷ []))) c.in-Some.is c.requires.flows)).1

pub returns-in-Some-clause-stands : goal.returns-in-Some-clause-stands
returns-in-Some-clause-stands c = λ held counted before apart.
    subst (λ (to : Option ℕ). StandApart (held ++ in_slot c.args.slot (flows_from c.args.src (to ∷ []))) counted c.hold.new.self) (sym c.in-Some.is) (c.hold.ensures.stands held counted before apart)

use Rattle.std.proofs.Common.{ℕ, sym, subst}
use Rattle.greedy_rules.specs.Demands.{AreBelow}
use Rattle.window_allocation.proofs.RunLemmas.{below_endpoints}
use Rattle.window_allocation.proofs.HandedLemmas.{come_of_all}
use Rattle.window_allocation.proofs.runs.Parts.allocate_unpicked.Goals as goal

pub reach-requires-clause-below : goal.reach-requires-clause-below
reach-requires-clause-below g c =
    let ring = c.args.self.now.runs.ring in
    subst (λ (n : ℕ). AreBelow n c.items.result.now) (sym c.requires.memory.words)
    (subst (AreBelow ring.endpoints) (sym c.items.ensures) (below_endpoints ring.endpoints ring.b c.args.first_batch c.args.list.now.items c.args.batches.now c.requires.some c.requires.may.may))

pub returns-clause-handed : goal.returns-clause-handed
returns-clause-handed g c =
    let ring = c.args.self.now.runs.ring in
    come_of_all ring.b c.args.first_batch ring.workers c.args.list.now.items c.args.batches.now ring.moved c.allocate_runs.new.self.ring.moved c.allocate_runs.ensures.played

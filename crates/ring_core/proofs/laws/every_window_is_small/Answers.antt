use Rattle.std.proofs.Common.{ap, arith, length}
use Rattle.ring_core.specs.Cores.{window_in}
use Rattle.ring_core.proofs.WindowLemmas.{few_items, few_pieces}
use Rattle.ring_core.proofs.TakeLemmas.{last_is}
use Rattle.ring_core.proofs.laws.every_window_is_small.Goals as goal

pub returns-clause-room : goal.returns-clause-room
returns-clause-room c = λ batches core playing wide stage within.
    let few = few_pieces core.endpoints (window_in batches core) playing.may c.every_batch_leaves_a_list.ensures.flows c.flows_fit_pairs.ensures stage within in
    omega (arith, few, wide)

pub returns-clause-left : goal.returns-clause-left
returns-clause-left c = λ batches core playing.
    let few = few_items core.endpoints (window_in batches core) playing.may c.every_batch_leaves_a_list.ensures.flows c.flows_fit_pairs.ensures (length batches) (omega arith) in
    omega (arith, few, ap length (last_is (window_in batches core)))

use Rattle.std.proofs.Common.{◌≡◌, ◌++◌, List, length, false, sym, ◌∙◌, subst}
use Rattle.greedy_rules.specs.declared.flows.Item.{Item}
use Rattle.slot_batches.specs.ArrayStands.{ArrayStands, array_endpoints, array_first}
use Rattle.slot_batches.specs.Stands.{StageState, Stands, MayBeFed, stage_endpoints, first_slot_of}
use Rattle.slot_batches.proofs.NodeCounts.{more_nodes, nodes_short}
use Rattle.slot_batches.proofs.stage.Stage.feed_all.Goals as goal

pub returns-clause-stands : goal.returns-clause-stands
returns-clause-stands c = λ fed given with may.
    let batch = c.args.batch.now in
    let list : List Item = c.args.from.now in
    let inside = c.self.inside in
    let was = subst (λ (s : StageState). Stands batch fed false given s) (sym c.self.view_is) with in
    let feedable = subst (λ (s : StageState). MayBeFed batch.entries (stage_endpoints s) (first_slot_of s) (fed ++ list)) (sym c.self.view_is) may in
    let is : c.read_all.new.items ≡ list = c.read_all.ensures.items in
    record {
      arrays = subst (λ (xs : List Item). ArrayStands batch (fed ++ xs) false given c.feed_piece.new.self) is
          (c.feed_piece.ensures.stands fed given was.arrays (subst (λ (xs : List Item). MayBeFed batch.entries (array_endpoints inside.arrays) (array_first inside.arrays) (fed ++ xs)) (sym is) feedable));
      nodes = c.read_all.ensures.loose ∙ more_nodes batch fed list given (length inside.loose) inside.arrays was.arrays was.nodes;
    }

pub read_all-requires-clause-fits : goal.read_all-requires-clause-fits
read_all-requires-clause-fits c =
    let batch = c.args.batch.now in
    let list : List Item = c.args.from.now in
    let fed = c.requires.may.0 in
    let given = c.requires.may.1 in
    let inside = c.self.inside in
    let was = subst (λ (s : StageState). Stands batch fed false given s) (sym c.self.view_is) c.requires.may.2 in
    let feedable = subst (λ (s : StageState). MayBeFed batch.entries (stage_endpoints s) (first_slot_of s) (fed ++ list)) (sym c.self.view_is) c.requires.may.3 in
    nodes_short batch fed list given (length inside.loose) inside.arrays was.arrays feedable was.nodes

use Rattle.std.proofs.Common.{◌≡◌, ◌<◌, ◌++◌, [], All, List, length, take, false, sym, ap, ◌∙◌, subst, arith}
use Rattle.std.proofs.lemmas.List.{length-append}
use Rattle.std.proofs.lemmas.List.Elements.{All-head}
use Rattle.greedy_rules.specs.Batches.{entry_of}
use Rattle.greedy_rules.specs.Demands.{need_with}
use Rattle.greedy_rules.specs.declared.flows.Item.{Item}
use Rattle.slot_batches.specs.ArrayStands.{ArrayStands, array_endpoints, array_first}
use Rattle.slot_batches.specs.Stands.{StageState, Stands, MayBeFed, stage_endpoints, first_slot_of}
use Rattle.slot_batches.proofs.NodeCounts.{one_more_node, nodes_short}
use Rattle.slot_batches.proofs.stage.Stage.feed.Goals as goal

pub returns-clause-stands : goal.returns-clause-stands
returns-clause-stands c = λ fed given with may.
    let batch = c.args.batch.now in
    let front : List Item = take 1 c.args.from.now in
    let inside = c.self.inside in
    let was = subst (λ (s : StageState). Stands batch fed false given s) (sym c.self.view_is) with in
    let is = c.front-item.ensures.front in
    let feedable = subst (λ (s : StageState). MayBeFed batch.entries (stage_endpoints s) (first_slot_of s) (fed ++ front)) (sym c.self.view_is) may in
    let one : length (take 1 c.front-item.new.chain) ≡ 1 = ap (λ (xs : List Item). length (take 1 xs)) c.front-item.ensures.same ∙ ap length is in
    record {
      arrays = subst (λ (xs : List Item). ArrayStands batch (fed ++ xs) false given c.feed.new.self) (sym is)
          (c.feed.ensures.stands fed given was.arrays (subst (λ (xs : List Item). MayBeFed batch.entries (array_endpoints inside.arrays) (array_first inside.arrays) (fed ++ xs)) is feedable));
      nodes = omega (arith, ap length c.move_front.ensures.moved, length-append inside.loose (take 1 c.front-item.new.chain), one)
          ∙ one_more_node batch fed front given (length inside.loose) inside.arrays was.arrays (ap length is) was.nodes;
    }

pub move_front-requires-clause-fits : goal.move_front-requires-clause-fits
move_front-requires-clause-fits c =
    let batch = c.args.batch.now in
    let front : List Item = take 1 c.args.from.now in
    let fed = c.requires.may.0 in
    let given = c.requires.may.1 in
    let inside = c.self.inside in
    let was = subst (λ (s : StageState). Stands batch fed false given s) (sym c.self.view_is) c.requires.may.2 in
    let feedable = subst (λ (s : StageState). MayBeFed batch.entries (stage_endpoints s) (first_slot_of s) (fed ++ front)) (sym c.self.view_is) c.requires.may.3 in
    omega (arith, nodes_short batch fed front given (length inside.loose) inside.arrays was.arrays feedable was.nodes, ap length c.front-item.ensures.front)

pub feed-requires-clause-need : goal.feed-requires-clause-need
feed-requires-clause-need c =
    All-head (λ (item : Item). need_with (entry_of c.args.batch.now.entries item.flow) item.need < 4294967296) c.front-item.result []
    (subst (All (λ (item : Item). need_with (entry_of c.args.batch.now.entries item.flow) item.need < 4294967296)) c.front-item.ensures.front c.requires.need)

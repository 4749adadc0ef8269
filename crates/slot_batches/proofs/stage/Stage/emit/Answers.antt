use Rattle.std.proofs.Common.{◌≡◌, length, Option, Some, None, IsSome, refl, sym, ◌∙◌, subst, arith}
use Rattle.std.specs.Prelude.{option_map}
use Rattle.slot_batches.specs.declared.piece.Piece.{Piece}
use Rattle.slot_batches.specs.Pieces.{Part, part_of}
use Rattle.slot_batches.specs.ArrayStands.{array_number, array_first, array_size}
use Rattle.slot_batches.specs.Stands.{StageState, Stands}
use Rattle.slot_batches.proofs.NodeCounts.{piece_nodes, waiting_few}
use Rattle.slot_batches.proofs.stage.Stage.emit.Goals as goal

-- what came is a piece
some_part : (piece : Option Piece) → IsSome piece → (part : Part) × (option_map part_of piece ≡ Some part)
some_part (Some piece) some = (part_of piece, refl)
some_part None some = cc

pub emit-requires-clause-nodes : goal.emit-requires-clause-nodes
emit-requires-clause-nodes c =
    let inside = c.self.inside in
    let was = subst (λ (s : StageState). Stands c.requires.0 c.requires.1 c.requires.2 c.requires.3 s) (sym c.self.view_is) c.requires.4 in
    waiting_few c.requires.0 c.requires.1 c.requires.2 c.requires.3 (length inside.loose) inside.arrays was.arrays was.nodes

pub returns-clause-more : goal.returns-clause-more
returns-clause-more c = λ batch fed finished given with some.
    let inside = c.self.inside in
    let was = subst (λ (s : StageState). Stands batch fed finished given s) (sym c.self.view_is) with in
    let comes = some_part c.emit.result some in
    let fit = piece_nodes batch fed finished given (array_number inside.arrays) (array_first inside.arrays) (array_size inside.arrays) (length inside.loose) comes.0
    (sym (c.emit.ensures.piece batch fed finished given was.arrays) ∙ comes.1) was.nodes in
    record {
      arrays = c.emit.ensures.more batch fed finished given was.arrays some;
      nodes = omega (arith, c.emit.ensures.nodes comes.0 comes.1) ∙ fit.1;
    }

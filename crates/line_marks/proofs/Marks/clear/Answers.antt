use Rattle.std.proofs.Common.{rules}
use Rattle.list_facts.proofs.Bits.{place_is_cleared}
use Rattle.line_marks.proofs.Marks.clear.Goals as goal

pub returns : goal.returns
returns c = rw (← c.self.view_is) (place_is_cleared c.self.inside.words c.args.at (search rules))

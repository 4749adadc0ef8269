use Rattle.std.proofs.Common.{rules}
use Rattle.list_facts.proofs.Bits.{place_is_set}
use Rattle.line_marks.proofs.Marks.set.Goals as goal

pub returns : goal.returns
returns c = rw (← c.self.view_is) (place_is_set c.self.inside.words c.args.at (search rules))

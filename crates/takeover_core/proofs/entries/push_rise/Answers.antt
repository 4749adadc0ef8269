use Rattle.takeover_core.proofs.Rising.{above_last}
use Rattle.takeover_core.proofs.entries.push_rise.Goals as goal

pub push-requires : goal.push-requires
push-requires c = above_last c.args.batch.now.entries c.args.src c.args.dst c.requires.above

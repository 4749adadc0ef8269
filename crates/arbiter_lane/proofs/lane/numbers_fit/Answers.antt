use Rattle.std.proofs.Common.{arith}
use Rattle.arbiter_lane.proofs.lane.numbers_fit.Goals as goal

pub returns : goal.returns
returns c = record { epoch = omega arith; seq = omega arith; high = omega arith; batch = omega arith }

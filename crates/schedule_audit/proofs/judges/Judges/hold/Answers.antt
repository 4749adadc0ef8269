use Rattle.std.proofs.Common.{◌<◌, arith}
use Rattle.schedule_audit.proofs.WalkSteps.{no-later}
use Rattle.schedule_audit.proofs.judges.Judges.hold.Goals as goal

pub returns-clause-stands : goal.returns-clause-stands
returns-clause-stands c = λ held counted before stands.
    let place = c.args.place in
    let small : place.flow.src < 65536 = omega (arith, c.requires.src, stands.sizes) in
    record {
      paths = c.visit.ensures.stands held (no-later held place small before) stands.paths;
      marks = c.visit.ensures.marks;
      sends = c.visit-2.ensures.stands held before stands.sends;
      slots = stands.slots;
      sizes = stands.sizes;
      between = stands.between;
      count = stands.count;
      few = stands.few;
      seldom = stands.seldom;
    }

use Rattle.std.proofs.Common.{◌<◌, ◌∙◌, arith, length-append, ◌∷◌, []}
use Rattle.schedule_audit.proofs.WalkSteps.{few-more, seldom-more, counted, few-slots}
use Rattle.schedule_audit.proofs.judges.Judges.count.Goals as goal

pub count-requires-clause-few : goal.count-requires-clause-few
count-requires-clause-few c =
    let (held, so_far, before, stands) = c.requires.stands in
    let small : c.args.place.flow.src < 65536 = omega (arith, c.requires.src, stands.sizes) in
    (few-slots held so_far c.args.self.now c.args.place c.requires.slot c.requires.number small before stands).1

pub overflow_add-self : goal.overflow_add-self
overflow_add-self c =
    let (held, so_far, before, stands) = c.requires.stands in
    let small : c.args.place.flow.src < 65536 = omega (arith, c.requires.src, stands.sizes) in
    let few = (few-slots held so_far c.args.self.now c.args.place c.requires.slot c.requires.number small before stands).0 in omega (arith, few, stands.count)

pub returns-clause-stands : goal.returns-clause-stands
returns-clause-stands c = λ held so_far before stands.
    let place = c.args.place in
    let old = c.args.self.now in
    record {
      paths = stands.paths;
      marks = stands.marks;
      sends = stands.sends;
      slots = counted old.slots c.count.new.self so_far place stands.slots c.count.ensures.numbers;
      sizes = stands.sizes;
      between = c.count.ensures.endpoints ∙ stands.between;
      count = omega (arith, stands.count, length-append so_far (place ∷ []));
      few = few-more so_far place stands.few before;
      seldom = seldom-more so_far place c.requires.slot stands.seldom before;
    }

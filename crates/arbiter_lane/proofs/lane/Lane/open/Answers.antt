use Rattle.std.proofs.Common.{◌≡◌, length, [], replicate, ◌∙◌, ap, rules, arith}
use Rattle.std.proofs.lemmas.List.{length-replicate}
use Rattle.arbiter_lane.proofs.Beginning.{IsBlank, each_blank, stands-opened, sound-opened, tells-opened}
use Rattle.arbiter_lane.proofs.lane.Lane.open.Goals as goal

pub invariant_of-result : goal.invariant_of-result
invariant_of-result c =
    let lines = c.in_ok-vec.field-0.items in
    let all : lines ≡ replicate c.args.endpoints c.new-2.result = c.in_ok-vec.ensures.items_if_clones_equal (λ y cloned. search rules) in
    let new : IsBlank c.new-2.result = record { opened = c.new-2.ensures.opened; started = c.new-2.ensures.started } in
    let blank = each_blank lines c.args.endpoints c.new-2.result all new in (
      sound-opened c.args.endpoint c.args.endpoints c.args.b c.args.g c.new.result c.in_ok-open.field-0 lines c.requires.endpoint c.requires.endpoints c.requires.most_slots c.new.ensures.version c.in_ok-open.ensures.version c.in_ok-open.ensures.stands
          (ap length all ∙ length-replicate c.args.endpoints c.new-2.result) blank,
      (
        [],
        [],
        stands-opened c.args.endpoint c.args.endpoints c.args.b c.args.g c.new.result c.in_ok-open.field-0 lines c.new.ensures.stands c.in_ok-open.ensures.version c.in_ok-open.ensures.stands blank,
        tells-opened c.args.endpoint c.args.endpoints c.args.b c.args.g c.new.result c.in_ok-open.field-0 lines,
      ),
      λ dst line here none. let started = (blank dst line here).started in omega (arith, started.entered, started.count.demanded, started.count.lost),
    )

pub returns-clause-stands : goal.returns-clause-stands
returns-clause-stands c =
    let lines = c.in_ok-vec.field-0.items in
    let all : lines ≡ replicate c.args.endpoints c.new-2.result = c.in_ok-vec.ensures.items_if_clones_equal (λ y cloned. search rules) in
    let new : IsBlank c.new-2.result = record { opened = c.new-2.ensures.opened; started = c.new-2.ensures.started } in
    stands-opened c.args.endpoint c.args.endpoints c.args.b c.args.g c.new.result c.in_ok-open.field-0 lines c.new.ensures.stands c.in_ok-open.ensures.version c.in_ok-open.ensures.stands (each_blank lines c.args.endpoints c.new-2.result all new)

use Rattle.std.proofs.Common.{◌≡◌, ◌<◌, ℕ, List, length, ◌∙◌, subst, arith}
use Rattle.greedy_rules.specs.declared.flows.Flow.{Flow}
use Rattle.greedy_rules.specs.Schedule.{slot_in}
use Rattle.path_workers.specs.Coloured.{HasItsCores}
use Rattle.path_workers.specs.Painters.{HasRow, row_at}
use Rattle.path_workers.proofs.PainterLemmas.{found_row}
use Rattle.path_workers.proofs.painter.Painter.last_row.Goals as goal

pub returns-then-are_equal : goal.returns-then-are_equal
returns-then-are_equal c =
    let painter = c.args.self.now in
    let slots : List (List Flow) = c.args.slots.now.slots in
    let place : ℕ = c.in_ok-place.place in
    let below : painter.last < length slots = omega (arith, c.if-self-slots.false, c.slots.ensures.count) in
    let old : HasRow painter.net _ slots painter painter.last place = found_row slots painter painter.last place c.index.result.now c.requires.may below c.index.ensures c.in_ok-place.was in
    let same : slot_in slots painter.last ≡ slot_in slots c.args.slot = c.are_equal.ensures c.if-are_equal.true in
    record {
      same = λ lt. old.same lt ∙ same;
      within = old.within;
      cores = subst (λ (flows : List Flow). HasItsCores painter.net flows (row_at painter place)) same old.cores;
    }

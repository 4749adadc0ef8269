use Rattle.std.proofs.Common.{◌<◌, List, length, All, IsTrue, sym, ap, ◌∙◌, subst, arith}
use Rattle.std.proofs.Math.Seq.{map-set_same}
use Rattle.std.proofs.lemmas.List.{get_or_default}
use Rattle.std.proofs.lemmas.List.Elements.{All-set}
use Rattle.crossbeam_queue.specs.Passes.{view}
use Rattle.path_workers.specs.declared.painter.Painter.{Painter}
use Rattle.path_workers.specs.Painters.{HasPainted, has_row}
use Rattle.path_workers.proofs.PainterLemmas.{may_paint, resized}
use Rattle.path_workers.proofs.PlayLemmas.{all_rows, All-first}
use Rattle.path_workers.proofs.seats.play.Goals as goal

pub finish-requires-clause-may : goal.finish-requires-clause-may
finish-requires-clause-may g c =
    let may = c.requires.may in
    let played = c.put_and_play-painters.ensures.played in
    let some : 0 < length c.put_and_play-painters.result.0.items = omega (arith, played.len, c.requires.some, c.args.painters.ok.0) in
    may_paint may.0 may.1 c.args.slots.now.slots c.index_mut.result.now may.2
    (All-first (HasPainted may.0 may.1 c.args.slots.now.slots) c.put_and_play-painters.result.0.items c.index_mut.result.now c.index_mut.ensures.value some (played.painted may.0 may.1 may.3))

pub returns-clause-rows : goal.returns-clause-rows
returns-clause-rows g c =
    let played = c.put_and_play-painters.ensures.played in
    let new : List Painter = c.put_and_play-painters.result.0.items in
    let some : 0 < length new = omega (arith, played.len, c.requires.some, c.args.painters.ok.0) in
    all_rows c.args.slots.now.slots _ _ new c.finish.new.painter (view c.args.pass) (view c.put_and_play-painters.result.1) (view c.finish.new.pass) c.requires.rest.even played c.finish.ensures.put c.finish.ensures.rest.even some c.finish.ensures.rows
    (λ slot has. c.finish.ensures.keeps slot (subst (λ (p : Painter). IsTrue (has_row slot p)) (get_or_default new 0 c.finish.new.painter c.index_mut.result.now some ∙ sym c.index_mut.ensures.value) has))

pub returns-clause-painted : goal.returns-clause-painted
returns-clause-painted g c net room painted =
    let slots = c.args.slots.now.slots in
    let played = c.put_and_play-painters.ensures.played in
    let new : List Painter = c.put_and_play-painters.result.0.items in
    let some : 0 < length new = omega (arith, played.len, c.requires.some, c.args.painters.ok.0) in
    let all : All (HasPainted net room slots) new = played.painted net room painted in
    let first : HasPainted net room slots c.index_mut.result.now = All-first (HasPainted net room slots) new c.index_mut.result.now c.index_mut.ensures.value some all in
    All-set (HasPainted net room slots) new 0 c.finish.new.painter (resized net room slots c.index_mut.result.now c.finish.new.painter first.sized c.finish.ensures.painted) all

pub returns-clause-numbers : goal.returns-clause-numbers
returns-clause-numbers g c =
    let new : List Painter = c.put_and_play-painters.result.0.items in
    map-set_same (λ (painter : Painter). painter.number) new 0 c.finish.new.painter c.index_mut.result.now
    (c.finish.ensures.number ∙ ap (λ (painter : Painter). painter.number) c.index_mut.ensures.value)
    ∙ c.put_and_play-painters.ensures.played.numbers

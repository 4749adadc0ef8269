use Rattle.std.proofs.Common.{◌≡◌, [], None, count_by, is_some, vec_len, rules, ap, arith}
use Rattle.greedy_rules.specs.Schedule.{slot_in}
use Rattle.clos_topology.specs.RackGraph.{rack_edges}
use Rattle.path_workers.specs.Painters.{HasRow, cores_place}
use Rattle.path_workers.proofs.PainterLemmas.{idle_row, some_left}
use Rattle.path_workers.proofs.painter.Painter.paint.Goals as goal

pub note-requires-clause-room : goal.note-requires-clause-room
note-requires-clause-room c =
    let painter = c.args.self.now in
    let may = c.requires.may in
    let new : cores_place painter c.args.slot ≡ None = search rules in
    let left = some_left painter.places.items c.args.slot (omega (arith, c.requires.slot, may.colourable.count, painter.places.ok.0)) new in
    omega (arith, left, may.painted.listed.few, may.painted.sized.made, painter.places.ok.0, painter.made.ok.0)

pub note-requires-2-clause-room : goal.note-requires-2-clause-room
note-requires-2-clause-room c =
    let painter = c.args.self.now in
    let now = c.make_row-place.new.self in
    let made = c.make_row-place.ensures in
    let new : cores_place painter c.args.slot ≡ None = search rules in
    let left = some_left painter.places.items c.args.slot (omega (arith, c.requires.slot, c.requires.may.colourable.count, painter.places.ok.0)) new in
    omega (arith, left, made.painted.listed.few, ap (λ (v : _). count_by is_some v.items) made.places, made.painted.sized.made, painter.places.ok.0, now.made.ok.0)

pub returns-then-not-has_row-clause-painted : goal.returns-then-not-has_row-clause-painted
returns-then-not-has_row-clause-painted c =
    let painter = c.args.self.now in
    let slots = c.args.slots.now.slots in
    let may = c.requires.may in
    let idle : rack_edges painter.net.hosts (slot_in slots c.args.slot) ≡ [] = ap (rack_edges painter.net.hosts) (c.has_row.ensures c.if-not-has_row.true) in
    let row : HasRow painter.net (vec_len painter.places) slots painter c.args.slot 1024 =
    idle_row painter.net (vec_len painter.places) slots painter c.args.slot c.every_colouring_makes_a_matching_clean.ensures may.painted.sized may.colourable c.requires.slot idle in
    c.note.ensures.painted painter.net (vec_len painter.places) slots c.requires.slot may.painted row

pub returns-clause-painted : goal.returns-clause-painted
returns-clause-painted c =
    let painter = c.args.self.now in
    let made = c.make_row-place.ensures in
    c.note-2.ensures.painted painter.net (vec_len painter.places) c.args.slots.now.slots c.requires.slot made.painted made.row

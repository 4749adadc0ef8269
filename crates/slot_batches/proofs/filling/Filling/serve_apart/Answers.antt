use Rattle.std.proofs.Common.{◌+◌, ◌-◌, ℕ, [], ◌∷◌, ◌++◌, ap, ◌∙◌, arith}
use Rattle.endpoint_bitmaps.specs.Slots.{has_slot}
use Rattle.slot_batches.proofs.TakeUpLemmas.{no_more, item_in_maps, item_in_table, places_within, places_free, ones_within, greatest_within, served_has_room, taken_up_none, taken_up_some}
use Rattle.slot_batches.proofs.filling.Filling.serve_apart.Goals as goal

pub take_lowest-places-requires-clause-src_in_range : goal.take_lowest-places-requires-clause-src_in_range
take_lowest-places-requires-clause-src_in_range c = (item_in_maps c.requires.may.0 c.requires.may.1 c.args.self.now c.args.item c.requires.room c.requires.may.2 c.requires.may.3).0

pub take_lowest-places-requires-clause-dst_in_range : goal.take_lowest-places-requires-clause-dst_in_range
take_lowest-places-requires-clause-dst_in_range c = (item_in_maps c.requires.may.0 c.requires.may.1 c.args.self.now c.args.item c.requires.room c.requires.may.2 c.requires.may.3).1

pub returns-then-places-eq0-clause-no_more : goal.returns-then-places-eq0-clause-no_more
returns-then-places-eq0-clause-no_more c =
    no_more c.args.item.flow.src c.args.item.flow.dst (has_slot c.take_lowest-places.result) c.args.self.now.maps c.take_lowest-places.new.self c.take_lowest-places.ensures.taken

pub returns-then-places-eq0-clause-taken_up : goal.returns-then-places-eq0-clause-taken_up
returns-then-places-eq0-clause-taken_up c = λ taken waiting is may.
    let took = c.take_lowest-places.ensures in
    taken_up_none taken waiting c.args.self.now c.args.item c.requires.room is may c.take_lowest-places.result took.lowest c.if-places-eq0.true c.take_lowest-places.new.self took.taken

pub put_flow-put-requires-clause-src : goal.put_flow-put-requires-clause-src
put_flow-put-requires-clause-src c = (item_in_table c.requires.may.0 c.requires.may.1 c.args.self.now c.args.item c.requires.room c.requires.may.2 c.requires.may.3).0

pub put_flow-put-requires-clause-dst : goal.put_flow-put-requires-clause-dst
put_flow-put-requires-clause-dst c = (item_in_table c.requires.may.0 c.requires.may.1 c.args.self.now c.args.item c.requires.room c.requires.may.2 c.requires.may.3).1

pub put_flow-put-requires-clause-within : goal.put_flow-put-requires-clause-within
put_flow-put-requires-clause-within c =
    places_within c.requires.may.0 c.requires.may.1 c.args.self.now c.args.item c.requires.room c.requires.may.2 c.requires.may.3 c.take_lowest-places.result c.take_lowest-places.ensures.lowest

pub put_flow-put-requires-clause-free : goal.put_flow-put-requires-clause-free
put_flow-put-requires-clause-free c =
    places_free c.requires.may.0 c.requires.may.1 c.args.self.now c.args.item c.requires.room c.requires.may.2 c.requires.may.3 c.take_lowest-places.result c.take_lowest-places.ensures.lowest

pub overflow_sub-item : goal.overflow_sub-item
overflow_sub-item c =
    let took = c.take_lowest-places.ensures in
    let within = ones_within c.requires.may.0 c.requires.may.1 c.args.self.now c.args.item c.requires.room c.requires.may.2 c.requires.may.3 c.take_lowest-places.result took.lowest took.count c.put_flow-put.new.slots
    c.put_flow-put.result.greatest c.put_flow-put.ensures.slots c.put_flow-put.ensures.greatest in
    omega (arith, c.put_flow-put.ensures.count, within)

pub overflow_add-self : goal.overflow_add-self
overflow_add-self c =
    let took = c.take_lowest-places.ensures in
    let below = greatest_within c.requires.may.0 c.requires.may.1 c.args.self.now c.args.item c.requires.room c.requires.may.2 c.requires.may.3 c.take_lowest-places.result took.lowest took.count c.put_flow-put.new.slots
    c.put_flow-put.result.greatest c.put_flow-put.ensures.slots c.put_flow-put.ensures.greatest in
    omega (arith, below, c.requires.may.2.numbers)

pub push_reserved-requires : goal.push_reserved-requires
push_reserved-requires c =
    let took = c.take_lowest-places.ensures in
    served_has_room c.requires.may.0 c.requires.may.1 c.args.self.now c.args.item c.requires.room c.requires.may.2 c.requires.may.3 c.take_lowest-places.result took.lowest took.count c.put_flow-put.new.slots
    c.put_flow-put.result.greatest c.put_flow-put.ensures.slots c.put_flow-put.ensures.greatest

pub returns-clause-no_more : goal.returns-clause-no_more
returns-clause-no_more c =
    no_more c.args.item.flow.src c.args.item.flow.dst (has_slot c.take_lowest-places.result) c.args.self.now.maps c.take_lowest-places.new.self c.take_lowest-places.ensures.taken

pub returns-clause-taken_up : goal.returns-clause-taken_up
returns-clause-taken_up c = λ taken waiting is may.
    let took = c.take_lowest-places.ensures in
    let old = c.args.self.now in
    taken_up_some taken waiting c.args.self.now c.args.item c.requires.room is may c.take_lowest-places.result took.lowest took.count c.put_flow-put.new.slots
    c.put_flow-put.result.greatest c.put_flow-put.ensures.slots c.put_flow-put.ensures.greatest
    c.take_lowest-places.new.self c.push_reserved.new.self took.taken (c.push_reserved.ensures.items ∙ ap (λ (n : ℕ). old.served.items ++ record { flow = c.args.item.flow; need = c.args.item.need - n; last = old.first_slot + c.put_flow-put.result.greatest } ∷ []) c.put_flow-put.ensures.count)

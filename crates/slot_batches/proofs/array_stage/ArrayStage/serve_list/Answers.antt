use Rattle.std.proofs.Common.{◌≡◌, ◌∙◌, [], true, false, length, ap, sym, subst, arith}
use Rattle.greedy_rules.specs.Demands.{Demands}
use Rattle.slot_batches.specs.Settled.{slots_filled, settled}
use Rattle.slot_batches.specs.ArrayStands.{ArrayState, MayBeFed, ArrayStands, array_endpoints, array_size, array_first, array_slots}
use Rattle.slot_batches.proofs.array_stage.ArrayStage.serve_list.Goals as goal

pub finish-requires : goal.finish-requires
finish-requires c =
    let batch = c.args.batch.now in
    let items = c.args.items.now in
    let same = sym c.take_room.ensures.same in
    (items, 0, c.feed_items.ensures.stands [] 0 (subst (ArrayStands batch [] false 0) same c.requires.begun) (subst (λ (s : ArrayState). MayBeFed batch.entries (array_endpoints s) (array_first s) items) same c.requires.may))

pub give-requires : goal.give-requires
give-requires c =
    let batch = c.args.batch.now in
    let items = c.args.items.now in
    let same = sym c.take_room.ensures.same in
    let fed = c.feed_items.ensures.stands [] 0 (subst (ArrayStands batch [] false 0) same c.requires.begun) (subst (λ (s : ArrayState). MayBeFed batch.entries (array_endpoints s) (array_first s) items) same c.requires.may) in
    let stands = c.finish.ensures.stands items 0 fed in
    let first : array_first c.finish.new.self ≡ array_first c.args.self.now = c.finish.ensures.work.same_first ∙ (c.feed_items.ensures.work.same_first ∙ ap array_first c.take_room.ensures.same) in
    let size : array_size c.finish.new.self ≡ array_size c.args.self.now = c.finish.ensures.work.same_size ∙ (c.feed_items.ensures.work.same_size ∙ ap array_size c.take_room.ensures.same) in
    let left : c.finish.new.self.fill.waiting ≡ settled batch (array_first c.args.self.now) (array_size c.args.self.now) items true = stands.list ∙ (λ i. settled batch (first i) (size i) items true) in
    let list = c.take_room.ensures.list in
    omega (arith, ap length left, c.requires.room, ap (λ (l : Demands). l.spare) list, ap (λ (l : Demands). length l.items) list, ap length c.requires.none)

pub returns-clause-slots : goal.returns-clause-slots
returns-clause-slots c =
    let batch = c.args.batch.now in
    let items = c.args.items.now in
    let same = sym c.take_room.ensures.same in
    let fed = c.feed_items.ensures.stands [] 0 (subst (ArrayStands batch [] false 0) same c.requires.begun) (subst (λ (s : ArrayState). MayBeFed batch.entries (array_endpoints s) (array_first s) items) same c.requires.may) in
    let stands = c.finish.ensures.stands items 0 fed in
    let first : array_first c.finish.new.self ≡ array_first c.args.self.now = c.finish.ensures.work.same_first ∙ (c.feed_items.ensures.work.same_first ∙ ap array_first c.take_room.ensures.same) in
    let size : array_size c.finish.new.self ≡ array_size c.args.self.now = c.finish.ensures.work.same_size ∙ (c.feed_items.ensures.work.same_size ∙ ap array_size c.take_room.ensures.same) in
    ap array_slots c.give.ensures.stays ∙ (stands.slots ∙ (λ i. slots_filled batch (first i) (size i) items true))

pub returns-clause-left : goal.returns-clause-left
returns-clause-left c =
    let batch = c.args.batch.now in
    let items = c.args.items.now in
    let same = sym c.take_room.ensures.same in
    let fed = c.feed_items.ensures.stands [] 0 (subst (ArrayStands batch [] false 0) same c.requires.begun) (subst (λ (s : ArrayState). MayBeFed batch.entries (array_endpoints s) (array_first s) items) same c.requires.may) in
    let stands = c.finish.ensures.stands items 0 fed in
    let first : array_first c.finish.new.self ≡ array_first c.args.self.now = c.finish.ensures.work.same_first ∙ (c.feed_items.ensures.work.same_first ∙ ap array_first c.take_room.ensures.same) in
    let size : array_size c.finish.new.self ≡ array_size c.args.self.now = c.finish.ensures.work.same_size ∙ (c.feed_items.ensures.work.same_size ∙ ap array_size c.take_room.ensures.same) in
    c.give.ensures.items ∙ (stands.list ∙ (λ i. settled batch (first i) (size i) items true))

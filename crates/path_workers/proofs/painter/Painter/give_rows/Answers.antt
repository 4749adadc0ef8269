use Rattle.std.proofs.Common.{ℕ, List, length, get_or, refl, subst, arith}
use Rattle.path_workers.proofs.GatherLemmas.{IsGiving, made_rows, gives_more, gives_all, still_room}
use Rattle.path_workers.proofs.painter.Painter.give_rows.Goals as goal

pub give_row-requires-clause-may : goal.give_row-requires-clause-may
give_row-requires-clause-may c =
    let may = c.requires.may in
    (may.0, may.1, (made_rows may.0 c.args.self.now c.deref-slot-items.result.now c.loop-slot.invariant.items may.1 c.loop-slot.slot-index 0 c.loop-slot-test.true).0)

pub give_row-requires-clause-slot_in_range : goal.give_row-requires-clause-slot_in_range
give_row-requires-clause-slot_in_range c =
    let may = c.requires.may in
    omega (arith, (made_rows may.0 c.args.self.now c.deref-slot-items.result.now c.loop-slot.invariant.items may.1 c.loop-slot.slot-index 0 c.loop-slot-test.true).0, may.2, c.loop-slot.invariant.room.slots)

pub give_row-requires-clause-endpoint_room : goal.give_row-requires-clause-endpoint_room
give_row-requires-clause-endpoint_room c = omega (arith, c.requires.endpoint_room, c.loop-slot.invariant.room.endpoints)

pub loop-slot-preserved : goal.loop-slot-preserved
loop-slot-preserved c =
    let painter = c.args.self.now in
    let made : List ℕ = c.deref-slot-items.result.now in
    let at : ℕ = c.loop-slot.slot-index in
    record {
      giving = λ slots may rows.
          let on = c.loop-slot.invariant.giving slots may rows in
          let row = made_rows slots painter made c.loop-slot.invariant.items may at 0 c.loop-slot-test.true in
          gives_more painter.net slots made at (get_or made at 0) c.args.out.now c.loop-slot.out c.give_row.new.out on c.loop-slot-test.true refl row.0 (c.give_row.ensures.row slots may on.rows row.0 row.1) c.give_row.ensures.others;
      room = still_room c.args.out.now c.loop-slot.out c.give_row.new.out c.loop-slot.invariant.room c.give_row.ensures.room;
      items = c.loop-slot.invariant.items;
    }

pub returns-clause-given : goal.returns-clause-given
returns-clause-given c slots may rows =
    let net = c.args.self.now.net in
    let made : List ℕ = c.deref-slot-items.result.now in
    let all : IsGiving net slots made (length made) c.args.out.now c.loop-slot.out = subst (λ (n : ℕ). IsGiving net slots made n c.args.out.now c.loop-slot.out) (omega (arith, c.loop-slot-test.false, c.loop-slot.auto.slot-index-end)) (c.loop-slot.invariant.giving slots may rows) in
    gives_all slots c.args.self.now c.args.out.now c.loop-slot.out may (subst (λ (xs : List ℕ). IsGiving net slots xs (length xs) c.args.out.now c.loop-slot.out) c.loop-slot.invariant.items all)

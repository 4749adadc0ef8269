use Rattle.std.proofs.Common.{◌≡◌, [], List, subst, arith}
use Rattle.std.proofs.lemmas.List.{nil_from_length}
use Rattle.receive_text.specs.declared.filling.Filling.{Filling}
use Rattle.receive_text.proofs.Closing.{AreClosed, may_close, one_closed, all_closed, all_taken}
use Rattle.receive_text.proofs.receive.close_all.Goals as goal

pub close-requires-clause-seat : goal.close-requires-clause-seat
close-requires-clause-seat c =
    let may = may_close c.args.desk.now c.args.fillings.items c.loop-filling.desk c.loop-filling.fillings.items c.pop.new.self.items c.in-Some.filling c.loop-filling.invariant c.in-Some.ensures.items in
    (may.line, may.here, may.seat_of, may.is_open)

pub loop-filling-preserved : goal.loop-filling-preserved
loop-filling-preserved c =
    let may = may_close c.args.desk.now c.args.fillings.items c.loop-filling.desk c.loop-filling.fillings.items c.pop.new.self.items c.in-Some.filling c.loop-filling.invariant c.in-Some.ensures.items in
    one_closed c.args.desk.now c.args.fillings.items c.requires c.loop-filling.desk c.close.new.self c.loop-filling.fillings.items c.pop.new.self.items c.in-Some.filling may.line c.loop-filling.invariant c.in-Some.ensures.items
    may.here (c.close.ensures may.line may.here).1

pub returns-clause-closed : goal.returns-clause-closed
returns-clause-closed c =
    let none : c.loop-filling.fillings.items ≡ [] = nil_from_length c.loop-filling.fillings.items (omega (arith, c.in_default.ensures.cases.0, c.loop-filling.fillings.ok.0)) in
    all_closed c.args.desk.now c.args.fillings.items c.requires c.loop-filling.desk (subst (λ (l : List Filling). AreClosed c.args.desk.now c.args.fillings.items c.loop-filling.desk l) none c.loop-filling.invariant)

pub returns-clause-received : goal.returns-clause-received
returns-clause-received c =
    let none : c.loop-filling.fillings.items ≡ [] = nil_from_length c.loop-filling.fillings.items (omega (arith, c.in_default.ensures.cases.0, c.loop-filling.fillings.ok.0)) in
    all_taken c.args.desk.now c.args.fillings.items c.requires c.loop-filling.desk (subst (λ (l : List Filling). AreClosed c.args.desk.now c.args.fillings.items c.loop-filling.desk l) none c.loop-filling.invariant)

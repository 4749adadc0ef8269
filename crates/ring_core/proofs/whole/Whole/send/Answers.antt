use Rattle.std.proofs.Common.{◌≡◌, ◌<◌, ◌+◌, ◌%◌, ℕ, List, length, get_or, Option, Some, slice_get, sym, ap, ◌∙◌, subst, arith}
use Rattle.std.proofs.lemmas.Nat.{mod_below}
use Rattle.std.proofs.lemmas.Option.{slice_get_read}
use Rattle.slot_batches.specs.Pieces.{piece_count, pieces}
use Rattle.ring_core.specs.States.{EdgeState}
use Rattle.ring_core.specs.Wholes.{with_list, MayBeSent}
use Rattle.ring_core.proofs.WholeLemmas.{count_is, parts_here, parts_set}
use Rattle.ring_core.proofs.whole.Whole.send.Goals as goal

-- the edge that the code reads
here : (edges : List EdgeState) (workers number : ℕ) (edge : EdgeState) → 0 < workers → length edges ≡ workers → edge ≡ get_or edges (number % workers) edge → slice_get edges (number % workers) ≡ Some edge
here edges workers number edge some count is = slice_get_read edges workers (number % workers) edge (sym count) (mod_below number workers some) is

pub give_list-requires-clause-sent : goal.give_list-requires-clause-sent
give_list-requires-clause-sent c =
    let es : List EdgeState = c.args.edges.now in
    let number : ℕ = c.in-Some.stage % c.args.workers in
    let list = c.args.self.now.list.items in
    let edge : EdgeState = get_or es number c.index-edges-number.result in
    let is : edge ≡ get_or es number edge = ap (get_or es number) c.index-edges-number.is in
    let at = here es c.args.workers c.in-Some.stage edge c.requires.workers.0 c.requires.workers.1 is in
    let short = subst (λ (o : Option ℕ). (k : ℕ) (e : EdgeState) → slice_get (with_list o c.args.workers list es) k ≡ Some e → e.sent < 4294967296) c.in-Some.is c.requires.short in
    let fits = short number _ (parts_here number (pieces c.in-Some.stage list) es edge at) in
    omega (arith, fits, count_is c.in-Some.stage list)

pub give_list-requires-clause-room : goal.give_list-requires-clause-room
give_list-requires-clause-room c =
    let es : List EdgeState = c.args.edges.now in
    let number : ℕ = c.in-Some.stage % c.args.workers in
    let list = c.args.self.now.list.items in
    let edge : EdgeState = get_or es number c.index-edges-number.result in
    let is : edge ≡ get_or es number edge = ap (get_or es number) c.index-edges-number.is in
    let at = here es c.args.workers c.in-Some.stage edge c.requires.workers.0 c.requires.workers.1 is in
    let may = subst (λ (o : Option ℕ). MayBeSent o c.args.workers list es) c.in-Some.is c.requires.may in
    (may.1 edge at).1

pub returns-in-Some-clause-edges : goal.returns-in-Some-clause-edges
returns-in-Some-clause-edges c =
    let es : List EdgeState = c.args.edges.now in
    let stage : ℕ = c.in-Some.stage in
    let number : ℕ = stage % c.args.workers in
    let list = c.args.self.now.list.items in
    let edge : EdgeState = get_or es number c.index-edges-number.result in
    let is : edge ≡ get_or es number edge = ap (get_or es number) c.index-edges-number.is in
    let at = here es c.args.workers stage edge c.requires.workers.0 c.requires.workers.1 is in
    let told = c.give_list.ensures in
    let sent = told.sent ∙ (let q : edge.sent + piece_count list ≡ edge.sent + length (pieces stage list) = omega (arith, count_is stage list) in q) in
    parts_set number (pieces stage list) es edge c.give_list.new.edge at (λ i. record { pieces = told.pieces i; taken = told.taken i; sent = sent i; room = told.room i })
    ∙ ap (λ (o : Option ℕ). with_list o c.args.workers list es) (sym c.in-Some.is)

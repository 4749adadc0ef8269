use Rattle.std.proofs.Common.{List, Some, ◌≡◌, ◌<◌, false, length, slice_get, take, sym, ◌∙◌, ap, subst}
use Rattle.std.proofs.lemmas.Bool.{lt-leb}
use Rattle.loss_world.specs.InTransit.{InFlight}
use Rattle.loss_world.proofs.Flights.{is_kept, passed_over, front_get}
use Rattle.loss_world.proofs.world.World.pass.Goals as goal

pub returns-clause-passed : goal.returns-clause-passed
returns-clause-passed c =
    let flights = c.args.self.now.flights in
    let flight = c.index.result.now in
    let same : take c.self.inside.under_way c.self.inside.flights.items ≡ flights = ap (λ held. held.flights) c.self.view_is in
    let here = subst (λ (xs : List InFlight). slice_get xs c.args.at ≡ Some flight) same
    (front_get c.self.inside.flights.items c.self.inside.under_way c.args.at flight (subst (λ (xs : List InFlight). c.args.at < length xs) (sym same) c.requires) c.index.ensures) in
    let over : is_kept c.args.round flight ≡ false =
    ap (is_kept c.args.round) (sym c.behind-self.view_is) ∙ lt-leb c.args.round c.behind-self.inside.rounds.last c.if-index-round.false in
    ap (take c.args.at) c.set_aside.ensures.flights ∙ passed_over (is_kept c.args.round) flights c.args.at flight here over

use Rattle.std.proofs.Common.{ℕ, List, set, get_or, remove, take, length, slice_get, Some, ◌≡◌, ◌+◌, ◌<◌, sym, ◌∙◌, ap, subst, arith}
use Rattle.std.proofs.Math.Seq.{take-set-lt}
use Rattle.std.proofs.lemmas.List.{length-take, get_or-take}
use Rattle.loss_world.specs.InTransit.{InFlight}
use Rattle.loss_world.proofs.Flights.{taken_off, taken_off-set, taken_off-remove, found_there}
use Rattle.loss_world.proofs.world.World.take_off.Goals as goal

-- a flight that stands at a place of the front stands there in the whole
in_front : (flights : List InFlight) (n at : ℕ) (found : InFlight) → at < length (take n flights) → found ≡ get_or flights at found → found ≡ get_or (take n flights) at found
in_front flights n at found within is = is ∙ sym (get_or-take n flights at found (omega (arith, within, length-take n flights)))

pub returns-then-index-round-clause-flights : goal.returns-then-index-round-clause-flights
returns-then-index-round-clause-flights c = λ flight here.
    let flights = c.self.inside.flights.items in
    let n = c.self.inside.under_way in
    let same = ap (λ held. held.flights) c.self.view_is in
    let found : InFlight = record { rounds = c.behind-self.inside.rounds; bytes = c.behind-self.inside.packet } in
    let there = subst (λ (xs : List InFlight). slice_get xs c.args.at ≡ Some flight) (sym same) here in
    let within = subst (λ (xs : List InFlight). c.args.at < length xs) (sym same) c.requires in
    let is = in_front flights n c.args.at found within (c.behind-self.view_is ∙ c.index.ensures ∙ ap (λ d. get_or flights c.args.at d) (sym c.behind-self.view_is)) in
    c.set_aside.ensures.flights
    ∙ subst (λ (xs : List InFlight). remove xs c.args.at ≡ taken_off xs c.args.at flight c.args.round) same
    (taken_off-remove (take n flights) c.args.at flight found c.args.round there is c.if-index-round.true)

pub returns-clause-flights : goal.returns-clause-flights
returns-clause-flights c = λ flight here.
    let flights = c.self.inside.flights.items in
    let n = c.self.inside.under_way in
    let same = ap (λ held. held.flights) c.self.view_is in
    let read : InFlight = record { rounds = c.behind-self.inside.rounds; bytes = c.behind-self.inside.packet } in
    let found : InFlight = record { rounds = c.flight.inside.rounds; bytes = c.flight.inside.packet } in
    let there = subst (λ (xs : List InFlight). slice_get xs c.args.at ≡ Some flight) (sym same) here in
    let within = subst (λ (xs : List InFlight). c.args.at < length xs) (sym same) c.requires in
    let is_read = in_front flights n c.args.at read within (c.behind-self.view_is ∙ c.index.ensures ∙ ap (λ d. get_or flights c.args.at d) (sym c.behind-self.view_is)) in
    let is = in_front flights n c.args.at found within (c.flight.view_is ∙ c.index_mut-flight.ensures.value ∙ ap (λ d. get_or flights c.args.at d) (sym c.flight.view_is)) in
    let one = found_there (take n flights) c.args.at flight read there is_read ∙ sym (found_there (take n flights) c.args.at flight found there is) in
    let more = subst (λ (f : InFlight). c.args.round < f.rounds.last) one c.if-index-round.false in
    let later : InFlight = record { rounds = record { next = c.args.round + 1; last = found.rounds.last }; bytes = found.bytes } in
    subst (λ (xs : List InFlight). take n (set flights c.args.at later) ≡ taken_off xs c.args.at flight c.args.round) same
    (take-set-lt n flights c.args.at later (omega (arith, within, length-take n flights))
    ∙ taken_off-set (take n flights) c.args.at flight found c.args.round there is more)

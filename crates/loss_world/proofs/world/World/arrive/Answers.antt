use Rattle.std.proofs.Common.{ℕ, List, ◌≡◌, ◌∷◌, ◌++◌, Some, slice_get, length, take, drop, filter, sym, ◌∙◌, ap, subst}
use Rattle.std.proofs.Math.Seq.{take-append_seam}
use Rattle.loss_world.specs.InTransit.{InFlight, Held, due_in}
use Rattle.loss_world.specs.History.{AsksFor, WorldStandsFor}
use Rattle.loss_world.proofs.Flights.{is_kept, front_get, taken_off, Found, first-found, taken-found, later-found, first-none, taken-none, later-none}
use Rattle.loss_world.proofs.Histories.{IsReady-kept, WorldStandsFor-none, WorldStandsFor-some}
use Rattle.loss_world.proofs.world.World.arrive.Goals as goal

-- the bytes that were copied to the front of the buffer
front : (bytes before after : List ℕ) (n : ℕ) → n ≡ length bytes → after ≡ bytes ++ drop n before → take n after ≡ bytes
front bytes before after n long copied =
    ap (take n) copied ∙ ap (λ k. take k (bytes ++ drop n before)) long ∙ take-append_seam bytes (drop n before)

-- ---- a packet is due

found : (c : goal.After-take_off) → Found c.args.round c.args.self.now.flights (take c.self.inside.under_way c.self.inside.flights.items) c.in-Some.at c.index.result.now
found c =
    let kept = (take c.self.inside.under_way c.self.inside.flights.items) in
    let flight = c.index.result.now in
    let here = front_get c.self.inside.flights.items c.self.inside.under_way c.in-Some.at flight (rw c.deref.ensures.value at c.in-Some.ensures.within) c.index.ensures in
    record {
      keeps = ap (λ held. held.flights) c.self.view_is ∙ c.forget_before.ensures.flights ∙ ap (λ r. filter (is_kept r) c.args.self.now.flights) c.from-round.ensures;
      here = here;
      before = rw (c.deref.ensures.value, c.from-round.ensures) at c.in-Some.ensures.before;
      due = rw c.from-round.ensures at (c.in-Some.ensures.due flight (rw c.deref.ensures.value here));
    }

left : (c : goal.After-take_off) → c.take_off.new.self.flights ≡ taken_off (take c.self.inside.under_way c.self.inside.flights.items) c.in-Some.at c.index.result.now c.args.round
left c =
    let kept = (take c.self.inside.under_way c.self.inside.flights.items) in
    let flight = c.index.result.now in
    let same : kept ≡ c.forget_before.new.self.flights = ap (λ held. held.flights) c.self.view_is in
    c.take_off.ensures.flights flight (subst (λ (xs : List InFlight). slice_get xs c.in-Some.at ≡ Some flight) same (found c).here)
    ∙ ap (λ (xs : List InFlight). taken_off xs c.in-Some.at flight c.from-round.result) (sym same)
    ∙ ap (taken_off kept c.in-Some.at flight) c.from-round.ensures

copied : (c : goal.After-take_off) → take c.copy_to-length.result c.copy_to-length.new.buf ≡ c.index.result.now.bytes
copied c =
    front c.behind-self.inside.packet c.args.buf.now c.copy_to-length.new.buf c.copy_to-length.result c.copy_to-length.ensures.length c.copy_to-length.ensures.copied
    ∙ ap (λ (f : InFlight). f.bytes) c.behind-self.view_is

pub returns-in-Some-clause-first : goal.returns-in-Some-clause-first
returns-in-Some-clause-first c = ap Some (copied c) ∙ first-found _ _ _ _ _ (found c)

pub returns-in-Some-clause-taken : goal.returns-in-Some-clause-taken
returns-in-Some-clause-taken c = taken-found _ _ _ _ _ _ (found c) (left c)

pub returns-in-Some-clause-later : goal.returns-in-Some-clause-later
returns-in-Some-clause-later c = λ later order. later-found _ _ _ _ _ _ (found c) (left c) later order

pub returns-in-Some-clause-arrival : goal.returns-in-Some-clause-arrival
returns-in-Some-clause-arrival c = λ history stands order.
    ap Some (copied c) ∙ first-found _ _ _ _ _ (found c) ∙ ap (λ xs. slice_get xs 0) (stands.left c.args.round order)

pub returns-in-Some-clause-stands : goal.returns-in-Some-clause-stands
returns-in-Some-clause-stands c = λ history stands order.
    let ready = IsReady-kept c.args.self.now (take c.self.inside.under_way c.self.inside.flights.items) history c.args.round stands order (found c).keeps in
    WorldStandsFor-some c.args.round (take c.self.inside.under_way c.self.inside.flights.items) c.take_off.new.self history c.in-Some.at c.index.result.now ready (found c).here (found c).before (found c).due (left c)

-- ---- none is due

keeps : (c : goal.In-None) → (take c.self.inside.under_way c.self.inside.flights.items) ≡ filter (is_kept c.args.round) c.args.self.now.flights
keeps c = ap (λ held. held.flights) c.self.view_is ∙ c.forget_before.ensures.flights ∙ ap (λ r. filter (is_kept r) c.args.self.now.flights) c.from-round.ensures

pub returns-in-None-clause-first : goal.returns-in-None-clause-first
returns-in-None-clause-first c = first-none _ _ _ (keeps c) (rw (c.deref.ensures.value, c.from-round.ensures) at c.in-None.ensures.none)

pub returns-in-None-clause-taken : goal.returns-in-None-clause-taken
returns-in-None-clause-taken c =
    ap (λ (held : Held). due_in held.flights c.args.round) (sym c.self.view_is)
    ∙ taken-none _ _ _ (keeps c) (rw (c.deref.ensures.value, c.from-round.ensures) at c.in-None.ensures.none)

pub returns-in-None-clause-later : goal.returns-in-None-clause-later
returns-in-None-clause-later c = λ later order.
    ap (λ (held : Held). due_in held.flights later) (sym c.self.view_is) ∙ later-none _ _ _ (keeps c) later order

pub returns-in-None-clause-arrival : goal.returns-in-None-clause-arrival
returns-in-None-clause-arrival c = λ history stands order.
    first-none _ _ _ (keeps c) (rw (c.deref.ensures.value, c.from-round.ensures) at c.in-None.ensures.none) ∙ ap (λ xs. slice_get xs 0) (stands.left c.args.round order)

pub returns-in-None-clause-stands : goal.returns-in-None-clause-stands
returns-in-None-clause-stands c = λ history stands order.
    let ready = IsReady-kept c.args.self.now (take c.self.inside.under_way c.self.inside.flights.items) history c.args.round stands order (keeps c) in
    subst (λ (held : Held). WorldStandsFor held (AsksFor c.args.round ∷ history)) c.self.view_is
    (WorldStandsFor-none c.args.round _ history ready (rw (c.deref.ensures.value, c.from-round.ensures) at c.in-None.ensures.none))

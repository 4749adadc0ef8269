-- The seats of a desk that was opened for a trace.
use Rattle.std.proofs.Common.{◌≡◌, ℕ, zero, suc, ◌+◌, ◌-◌, ◌<◌, List, [], ◌∷◌, length, get_or, map, reverse, refl, sym, ap, subst, ◌∙◌, arith}
use Rattle.std.proofs.lemmas.List.{get_or-map, get_or-reverse, length-map, length-reverse}
use Rattle.clos_topology.specs.Network.{endpoints_of}
use Rattle.trace_text.specs.Trace.{TraceContent}
use Rattle.front_desk.specs.State.{RingName, SeatState, LineState, IsSeatOf, AreOpened, opened_line, opened_seat, opened_seats}
use Rattle.receive_text.specs.declared.filling.Filling.{Filling}
use Rattle.receive_text.specs.Putting.{MayPut, IsSeated}
use Rattle.receive_text.specs.Received.{IsOpenFor, IsRoomFor}
use Rattle.receive_text.proofs.Closing.{some_at}

seats-length : (room first : ℕ) (rings : List RingName) → length (opened_seats room first rings) ≡ length rings
seats-length room first [] = refl
seats-length room first (ring ∷ rings) = ap suc (seats-length room (first + 1) rings)

seat-at : (room first : ℕ) (rings : List RingName) (at : ℕ) (d : SeatState) (r : RingName) → at < length rings → get_or (opened_seats room first rings) at d ≡ opened_seat room (first + at) (get_or rings at r)
seat-at room first [] at d r low = absurd (omega arith)
seat-at room first (ring ∷ rings) zero d r low = ap (λ n. opened_seat room n ring) (omega arith)
seat-at room first (ring ∷ rings) (suc at) d r low = seat-at room (first + 1) rings at d r (omega arith) ∙ ap (λ n. opened_seat room n (get_or rings at r)) (omega arith)

module _ (trace : TraceContent) (room : ℕ) (fits : IsRoomFor trace room) (desk : List LineState) (seats : List SeatState) (fillings : List Filling)
    (opened : AreOpened (endpoints_of trace.net) 8 8 room desk seats) (reversed : seats ≡ reverse (map (λ (filling : Filling). filling.seat) fillings)) where
  abbrev n : ℕ
  n = endpoints_of trace.net

  abbrev own : List SeatState
  own = map (λ (filling : Filling). filling.seat) fillings

  many-lines : length desk ≡ n
  many-lines = ap (λ (ls : List LineState). length ls) opened.lines ∙ length-map opened.rings (opened_line room 8 8) ∙ opened.each

  many : length fillings ≡ n
  many =
      sym (length-map fillings (λ (filling : Filling). filling.seat)) ∙ sym (length-reverse own) ∙ ap (λ (ss : List SeatState). length ss) (sym reversed ∙ opened.seats_are)
      ∙ seats-length room 0 opened.rings ∙ opened.each

  line-at : (endpoint : ℕ) (d : LineState) (r : RingName) → endpoint < n → get_or desk endpoint d ≡ opened_line room 8 8 (get_or opened.rings endpoint r)
  line-at endpoint d r low = ap (λ (ls : List LineState). get_or ls endpoint d) opened.lines ∙ get_or-map (opened_line room 8 8) opened.rings endpoint r d (omega (arith, opened.each, low))

  own-at : (place : ℕ) (d : Filling) (r : RingName) → place < n → (get_or fillings place d).seat ≡ opened_seat room (n - 1 - place) (get_or opened.rings (n - 1 - place) r)
  own-at place d r low =
      let there : length own - 1 - (n - 1 - place) ≡ place = omega (arith, length-map fillings (λ (filling : Filling). filling.seat), many, low) in
      let as_long : length own ≡ n = length-map fillings (λ (filling : Filling). filling.seat) ∙ many in
      sym (get_or-map (λ (filling : Filling). filling.seat) fillings place d d.seat (omega (arith, many, low)))
      ∙ (ap (λ k. get_or own k d.seat) (sym there) ∙ (sym (get_or-reverse own (n - 1 - place) d.seat (omega (arith, as_long, low)))
      ∙ (ap (λ (ss : List SeatState). get_or ss (n - 1 - place) d.seat) (sym reversed ∙ opened.seats_are)
      ∙ (seat-at room 0 opened.rings (n - 1 - place) d.seat r (omega (arith, opened.each, low)) ∙ ap (λ k. opened_seat room k (get_or opened.rings (n - 1 - place) r)) (omega arith)))))

  ring : (place : ℕ) → place < n → RingName
  ring place low = some_at opened.rings place (omega (arith, opened.each, low))

  seated : (place : ℕ) (d : Filling) → place < length fillings → IsSeated desk place (get_or fillings place d).seat
  seated place d below =
      let low : place < n = omega (arith, many, below) in
      let r = ring place low in
      let line : (l : LineState) → get_or desk (n - 1 - place) l ≡ opened_line room 8 8 (get_or opened.rings (n - 1 - place) r) = λ l. line-at (n - 1 - place) l r (omega arith) in
      subst (λ (s : SeatState). IsSeated desk place s) (sym (own-at place d r low))
      (record {
        endpoint = omega (arith, many-lines, low);
        line = λ l. subst (λ (x : LineState). IsSeatOf (opened_seat room (n - 1 - place) (get_or opened.rings (n - 1 - place) r)) x) (sym (line l)) (record { ring = refl; room = refl });
        is_open = λ l. ap (λ (x : LineState). x.progress) (line l);
      })

  pub open_for : IsOpenFor trace desk fillings
  open_for = record {
    endpoints = many-lines;
    windows = λ endpoint d low. let below : endpoint < n = omega (arith, many-lines, low) in ap (λ (x : LineState). x.g) (line-at endpoint d (ring endpoint below) below);
    seats = record { each = many ∙ sym many-lines; seated = seated };
    may_put = λ place d below.
        let low : place < n = omega (arith, many, below) in
        subst (λ (s : SeatState). MayPut trace s) (sym (own-at place d (ring place low) low))
        (record { endpoint = omega arith; none = refl; room = fits.all (n - 1 - place) (omega arith) });
  }

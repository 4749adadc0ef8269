-- Seats that were filled while the desk passed over its rings.
use Rattle.std.proofs.Common.{◌≡◌, ℕ, ◌<◌, List, length, get_or, All, true, sym, ap, subst, ◌∙◌, arith}
use Rattle.std.proofs.lemmas.Option.{get_or_from_slice_get, slice_get-get_or}
use Rattle.trace_text.specs.Trace.{TraceContent, puts_at}
use Rattle.front_desk.specs.State.{SeatState, LineState, HavePolled, MayTakeMore}
use Rattle.front_desk.proofs.Polls.{polled-length, polled-at}
use Rattle.receive_text.specs.declared.filling.Filling.{Filling}
use Rattle.receive_text.specs.Putting.{HaveFilled, IsSeated, AreAllSeated, with_all}
use Rattle.receive_text.specs.Received.{HasWindows}
use Rattle.receive_text.proofs.Closing.{some_at}

-- a line after a pass
module _ (old new : List LineState) (polled : HavePolled old new) where
  polled-line : (endpoint : ℕ) (d l : LineState) → endpoint < length old → MayTakeMore (get_or old endpoint d) (get_or new endpoint l)
  polled-line endpoint d l low =
      let (after, there, more) = polled-at old new endpoint (get_or old endpoint d) polled (slice_get-get_or old endpoint d low) in
      subst (λ (x : LineState). MayTakeMore (get_or old endpoint d) x) (sym (get_or_from_slice_get new endpoint after l there)) more

  pub polled-windows : HasWindows old → HasWindows new
  polled-windows windows endpoint d low =
      let below : endpoint < length old = omega (arith, polled-length old new polled, low) in
      let more = polled-line endpoint d d below in
      ap (λ (x : LineState). x.g) more.frame ∙ windows endpoint d below

  polled-seated : (place : ℕ) (seat : SeatState) (put : List (List ℕ)) → IsSeated old place seat → IsSeated new place (record seat { put = put })
  polled-seated place seat put seated =
      let low : seat.endpoint < length old = omega (arith, seated.endpoint) in
      let d = some_at old seat.endpoint low in
      record {
        endpoint = seated.endpoint ∙ sym (polled-length old new polled);
        line = λ l. let more = polled-line seat.endpoint d l low in record { ring = (seated.line d).ring ∙ sym (ap (λ (x : LineState). x.ring) more.frame); room = (seated.line d).room ∙ sym (ap (λ (x : LineState). x.room) more.frame) };
        is_open = λ l. let more = polled-line seat.endpoint d l low in ap (λ (x : LineState). x.progress) more.frame ∙ seated.is_open d;
      }

  module _ (trace : TraceContent) (before after : List Filling) (filled : HaveFilled trace before after) (enough : All (λ (filling : Filling). filling.enough ≡ true) after) where
    filled-at : (place : ℕ) (d : Filling) → place < length after → (get_or after place d).seat ≡ with_all trace (get_or before place d).seat
    filled-at place d low = filled.1 place d (omega (arith, filled.0, low)) (enough place d low)

    pub filled-seated : AreAllSeated old before → AreAllSeated new after
    filled-seated are = record {
      each = filled.0 ∙ are.each ∙ sym (polled-length old new polled);
      seated = λ place d low. subst (λ (s : SeatState). IsSeated new place s) (sym (filled-at place d low))
          (polled-seated place (get_or before place d).seat _ (are.seated place d (omega (arith, filled.0, low))));
    }

    pub filled-put : All (λ (filling : Filling). filling.seat.put ≡ puts_at trace filling.seat.endpoint) after
    filled-put place d low = let is = filled-at place d low in ap (λ (s : SeatState). s.put) is ∙ ap (λ (s : SeatState). puts_at trace s.endpoint) (sym is)

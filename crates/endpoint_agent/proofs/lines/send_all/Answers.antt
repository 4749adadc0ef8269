use Rattle.std.proofs.Common.{◌≡◌, ℕ, List, ◌+◌, ◌++◌, ◌<◌, ◌≤◌, length, set, drop, Bool, true, false, cond, ltb, [], ◌∷◌, sym, ◌∙◌, ap, arith, length-append, length-set}
use Rattle.std.proofs.lemmas.List.Elements.{All-get_or}
use Rattle.fcp_framing.specs.declared.packet.Told.{Told}
use Rattle.endpoint_history.specs.Sending.{Slot, sent_of}
use Rattle.endpoint_agent.specs.declared.lines.Sent.{Sent}
use Rattle.endpoint_agent.specs.State.{line_at}
use Rattle.endpoint_agent.specs.Lines.{slots_sent, with_sent, slots_from_first, left_in}
use Rattle.endpoint_agent.proofs.Walking.{no_told, told_at, slot_at, to, sent-step, counted-step, slots_after-next}
use Rattle.endpoint_agent.proofs.lines.send_all.Goals as goal

at_most_one : (test : Bool) (slot : Sent) → length (cond test (slot ∷ []) []) ≤ 1
at_most_one true slot = omega arith
at_most_one false slot = omega arith

pub loop-slot-preserved : goal.loop-slot-preserved
loop-slot-preserved c =
    let told = c.args.told.now in
    let i = c.loop-slot.slot-index in
    let lines = c.loop-slot.lines in
    let t = told_at told i in
    let items = c.loop-slot.into.items in
    let invariant = c.loop-slot.invariant in
    let within = c.loop-slot-test.true in
    let endpoints = length c.args.lines.now in
    let destination : t.dst < endpoints = All-get_or (λ (x : Told). x.dst < endpoints) told i no_told within c.requires.destinations in
    let there : t.dst < length lines = omega (arith, destination, invariant.whole) in
    let old = line_at lines t.dst in
    let test : Bool = ltb old.sent old.asked in
    let slot = c.args.first_slot + t.offset in
    let offset : c.args.first_slot + c.from.result ≡ slot = ap (λ (n : ℕ). c.args.first_slot + n) c.from.ensures in
    let appended = rw offset at c.send_one.ensures.sent in
    let line = c.send_one.new.line in
    let rest = slots_from_first c.args.first_slot (drop (i + 1) told) in
    let next = slots_after-next c.args.first_slot i told within in
    record {
      whole = omega (arith, length-set lines t.dst line, invariant.whole);
      few =
          let long = ap (λ (xs : List Sent). length xs) appended ∙ length-append items (cond test (record { slot = slot; dst = t.dst } ∷ []) []) in
          let one = at_most_one test (record { slot = slot; dst = t.dst }) in
          omega (arith, long, one, invariant.few);
      sent =
          ap (λ (xs : List Sent). slots_sent xs ++ sent_of (left_in (set lines t.dst line)) rest) appended
          ∙ sent-step lines items slot t.dst rest line there c.send_one.ensures.line
          ∙ ap (λ (xs : List Slot). slots_sent items ++ sent_of (left_in lines) xs) (sym next)
          ∙ invariant.sent;
      counted = λ dst.
          counted-step lines (slot_at c.args.first_slot t) rest line dst there c.send_one.ensures.line
          ∙ ap (λ (xs : List Slot). with_sent (to dst (sent_of (left_in lines) xs)) (line_at lines dst)) (sym next)
          ∙ invariant.counted dst;
    }

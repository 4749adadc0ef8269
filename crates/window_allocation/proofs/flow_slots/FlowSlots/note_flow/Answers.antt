use Rattle.std.proofs.Common.{◌≡◌, ◌<◌, ◌*◌, ◌%◌, ◌^◌, ℕ, List, length, get_or, set, bit_or, ap, ◌∙◌, arith}
use Rattle.std.proofs.lemmas.List.{get_or_read}
use Rattle.endpoint_bitmaps.specs.Slots.{has_slot}
use Rattle.window_allocation.specs.Needs.{place_of}
use Rattle.window_allocation.proofs.SlotWords.{more_flow_slots}
use Rattle.window_allocation.proofs.flow_slots.FlowSlots.note_flow.Goals as goal

pub returns-then-dst-self-clause-named : goal.returns-then-dst-self-clause-named
returns-then-dst-self-clause-named c = λ flow at src dst.
    let n : ℕ = c.args.self.now.endpoints in
    let words : List ℕ = c.args.self.now.words.items in
    let there : ℕ = place_of n flow.src flow.dst in
    let place : c.place-at.result ≡ place_of n c.args.src c.args.dst = c.place-at.ensures.place in
    let inside : c.place-at.result < length words = omega (arith, c.place-at.ensures.within, c.args.self.now.whole, c.args.self.now.words.ok.0) in
    let word : c.index_mut.result.now ≡ get_or words (place_of n c.args.src c.args.dst) 0 =
    get_or_read words c.place-at.result c.index_mut.result.now inside c.index_mut.ensures.value 0 ∙ ap (λ (p : ℕ). get_or words p 0) place in
    (λ i. has_slot (get_or (set words (place i) (bit_or (word i) (1 * 2 ^ c.args.slot % 2 ^ 64))) there 0) at)
    ∙ more_flow_slots n c.args.slot words (record { src = c.args.src; dst = c.args.dst }) flow at c.requires.slot c.requires.src c.if-dst-self.true src dst (omega (arith, place, inside))

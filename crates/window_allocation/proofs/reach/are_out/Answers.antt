use mir.Val.{bool_byte}
use Rattle.std.proofs.Common.{inl, inr, ◌≡◌, ◌<◌, ◌≤◌, ◌+◌, ◌-◌, ◌*◌, ℕ, List, length, get_or, take, drop, true, false, sym, ap, ◌∙◌, subst, arith}
use Rattle.std.proofs.lemmas.Bool.{cases_Bool}
use Rattle.greedy_rules.specs.declared.flows.Item.{Item}
use Rattle.greedy_rules.specs.Demands.{AreBelow}
use Rattle.window_allocation.specs.Reach.{IsNamed}
use Rattle.window_allocation.proofs.ReachLemmas.{each_of_part, part_below, at_first, at_last, gap_walked}
use Rattle.window_allocation.proofs.reach.are_out.Goals as goal

pub loop-at-init : goal.loop-at-init
loop-at-init c = record {
  below = omega arith;
  within = omega arith;
  endpoints = c.clear.ensures.endpoints;
  walked = λ aside all are show new. at_first c.args.b (length c.args.batches.now * c.args.b) all c.args.list.now aside c.first_served-served.result c.args.places.now c.clear.new.self are (λ ahead. c.clear.ensures.none c.args.b all ahead);
}

pub all_out-requires-clause-below : goal.all_out-requires-clause-below
all_out-requires-clause-below c =
    let list : List Item = c.args.list.now in
    let at : ℕ = c.loop-at.at in
    let end : ℕ = c.gap_from-gap.result.end in
    let same : c.note_opened_if.new.words.endpoints ≡ c.args.words.now.endpoints = c.note_opened_if.ensures.endpoints ∙ c.loop-at.invariant.endpoints in
    subst (λ (n : ℕ). AreBelow n (take (end - at) (drop at list))) (sym same) (part_below c.args.words.now.endpoints at (end - at) list c.requires.below)

pub loop-at-preserved : goal.loop-at-preserved
loop-at-preserved c =
    let list : List Item = c.args.list.now in
    let at : ℕ = c.loop-at.at in
    let next : ℕ = c.loop-at.next in
    let end : ℕ = c.gap_from-gap.result.end in
    let picked = c.gap_from-gap.result.picked in
    let nothing : Item = record { flow = record { src = 0; dst = 0 }; need = 0; last = 0 } in
    let count : ℕ = length c.args.batches.now * c.args.b in
    let one : picked ≡ true → c.from.result ≡ 1 = λ is. c.from.ensures ∙ ap bool_byte is in
    let none : picked ≡ false → c.from.result ≡ 0 = λ is. c.from.ensures ∙ ap bool_byte is in
    let both : c.from-next.result ≡ c.from.result = c.from-next.ensures ∙ sym c.from.ensures in
    let from : at ≤ end = c.gap_from-gap.ensures.from in
    let within : end ≤ length list = omega (arith, c.gap_from-gap.ensures.within, c.stop_from.ensures.within) in
    let inside : picked ≡ true → end < length list = λ is. omega (arith, (c.gap_from-gap.ensures.picked is).0, c.stop_from.ensures.within) in
    let names : (other : ℕ) → at ≤ other → other < at + (end - at) → IsNamed c.note_opened_if.new.words count (get_or list other nothing) =
    each_of_part (IsNamed c.note_opened_if.new.words count) at (end - at) list nothing (c.all_out.ensures c.if-not-all_out.false) (omega (arith, from, within)) in
    record {
      below = omega (arith, both, from, c.loop-at.invariant.below);
      within = elim (cases_Bool picked) [
        | inl is ↦ omega (arith, one is, inside is)
        | inr is ↦ omega (arith, none is, within)
      ];
      endpoints = c.note_picked_if.ensures.endpoints ∙ (c.note_opened_if.ensures.endpoints ∙ c.loop-at.invariant.endpoints);
      walked = λ aside all are show new.
          gap_walked c.args.b count all list aside c.first_served-served.result c.args.places.now at end next (next + c.from-next.result) c.from.result c.loop-at.words c.note_opened_if.new.words c.note_picked_if.new.words picked
          c.args.batches.now nothing from c.gap_from-gap.ensures.none within inside c.first_served-served.ensures.once new (c.loop-at.invariant.walked aside all are show new)
          (λ ahead was opens. c.note_opened_if.ensures.ahead all ahead show was opens) c.gap_from-gap.ensures.others (λ other up below. names other up (omega (arith, from, below)))
          (λ is. (c.gap_from-gap.ensures.picked is).1) one none (ap (λ (n : ℕ). next + n) both) (λ is ahead was goes. c.note_picked_if.ensures.noted is nothing all ahead show was goes) c.note_picked_if.ensures.same;
    }

pub returns-clause-out : goal.returns-clause-out
returns-clause-out c = λ done aside all are show new.
    at_last c.args.b (length c.args.batches.now * c.args.b) all c.args.list.now aside c.first_served-served.result c.args.places.now c.loop-at.at c.loop-at.next c.loop-at.words (omega (arith, c.loop-at-test.false))
    (c.loop-at.invariant.walked aside all are show new)

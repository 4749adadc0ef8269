use Rattle.std.proofs.Common.{◌≡◌, ◌<◌, ◌≤◌, ◌+◌, ◌-◌, ℕ, List, All, length, take, drop, false, sym, ◌∙◌, subst, arith}
use Rattle.std.proofs.lemmas.List.{take-take, length-take}
use Rattle.greedy_rules.specs.declared.flows.Item.{Item}
use Rattle.greedy_rules.specs.Demands.{AreBelow}
use Rattle.slot_batches.specs.Marks.{WindowMarks, has_mark}
use Rattle.window_allocation.proofs.Choice.{AreChosen, one_chosen, passed_chosen, all_chosen}
use Rattle.window_allocation.proofs.ReachLemmas.{each_of_part, part_below}
use Rattle.window_allocation.proofs.guess.Guess.pick.Goals as goal

abbrev nothing : Item
nothing = record { flow = record { src = 0; dst = 0 }; need = 0; last = 0 }

-- the items that are passed over
passed : (marks : WindowMarks) (list : List Item) (at stop n : ℕ) (found : List Item) (places : List ℕ) → at ≤ stop → stop ≤ length list → n ≤ stop - at
    → All (λ item. has_mark marks item.flow ≡ false) (take n (take (stop - at) (drop at list))) → AreChosen marks list at found places → AreChosen marks list (at + n) found places
passed marks list at stop n found places from within few unmarked =
    let P : Item → Type 0 = λ item. has_mark marks item.flow ≡ false in
    passed_chosen marks list at nothing n found places (omega (arith, from, within, few))
    (each_of_part P at n list nothing (subst (All P) (take-take n (stop - at) (drop at list) few) unmarked) (omega (arith, from, within, few)))

pub count_beyond-at-requires : goal.count_beyond-at-requires
count_beyond-at-requires c =
    let list : List Item = c.args.list.now in
    let at : ℕ = c.loop-at.at in
    let stop : ℕ = c.stop_from-stop.result in
    let same : c.take_opened_if.new.self.words.endpoints ≡ c.args.self.now.words.endpoints = c.take_opened_if.ensures ∙ c.loop-at.invariant.endpoints in
    subst (λ (n : ℕ). AreBelow n (take (stop - at) (drop at list))) (sym same) (part_below c.args.self.now.words.endpoints at (stop - at) list c.requires.below)

pub reaches-reached-requires : goal.reaches-reached-requires
reaches-reached-requires c =
    let list : List Item = c.args.list.now in
    let was = c.loop-at in
    let stop : ℕ = c.stop_from-stop.result in
    let fewer : c.count_beyond-at.result ≤ stop - was.at = omega (arith, c.count_beyond-at.ensures.within, length-take (stop - was.at) (drop was.at list)) in
    let inside : was.at + c.count_beyond-at.result < length list = omega (arith, c.if-at-stop.false, fewer, c.stop_from-stop.ensures.behind, c.stop_from-stop.ensures.within) in
    let same : c.take_opened_if.new.self.words.endpoints ≡ c.args.self.now.words.endpoints = c.take_opened_if.ensures ∙ was.invariant.endpoints in
    let below = c.requires.below (was.at + c.count_beyond-at.result) nothing inside in
    (omega (arith, same, below.0), omega (arith, same, below.1))

pub loop-at-preserved-then-at-stop : goal.loop-at-preserved-then-at-stop
loop-at-preserved-then-at-stop c =
    let was = c.loop-at in
    let n : ℕ = c.count_beyond-at.result in
    let stop : ℕ = c.stop_from-stop.result in
    let fewer : n ≤ stop - was.at = omega (arith, c.count_beyond-at.ensures.within, length-take (stop - was.at) (drop was.at c.args.list.now)) in
    record {
      endpoints = c.take_opened_if.ensures ∙ was.invariant.endpoints;
      within = omega (arith, c.if-at-stop.true, c.stop_from-stop.ensures.within);
      chosen = passed c.args.marks.now c.args.list.now was.at stop n was.found.items was.places.items (omega (arith, c.stop_from-stop.ensures.behind)) c.stop_from-stop.ensures.within fewer c.count_beyond-at.ensures.unmarked
          was.invariant.chosen;
      same = was.invariant.same;
      room = was.invariant.room;
      capacity = was.invariant.capacity;
    }

pub loop-at-preserved : goal.loop-at-preserved
loop-at-preserved c =
    let list : List Item = c.args.list.now in
    let was = c.loop-at in
    let n : ℕ = c.count_beyond-at.result in
    let stop : ℕ = c.stop_from-stop.result in
    let fewer : n ≤ stop - was.at = omega (arith, c.count_beyond-at.ensures.within, length-take (stop - was.at) (drop was.at list)) in
    let inside : was.at + n < length list = omega (arith, c.if-at-stop.false, fewer, c.stop_from-stop.ensures.behind, c.stop_from-stop.ensures.within) in
    let so_far = passed c.args.marks.now list was.at stop n was.found.items was.places.items (omega (arith, c.stop_from-stop.ensures.behind)) c.stop_from-stop.ensures.within fewer c.count_beyond-at.ensures.unmarked was.invariant.chosen in
    record {
      endpoints = c.reaches-reached.ensures.endpoints ∙ (c.take_opened_if.ensures ∙ was.invariant.endpoints);
      within = omega (arith, inside);
      chosen = one_chosen c.args.marks.now list (was.at + n) nothing c.reaches-reached.result was.found.items c.choose.new.found.items was.places.items c.choose.new.places.items inside so_far (c.choose.ensures.items c.if-not-choose.false)
          (c.choose.ensures.places c.if-not-choose.false) c.reaches-reached.ensures.unmarked;
      same = c.choose.ensures.same;
      room = c.choose.ensures.room ∙ was.invariant.room;
      capacity = c.choose.ensures.capacity ∙ was.invariant.capacity;
    }

pub returns-clause-reached : goal.returns-clause-reached
returns-clause-reached c = λ done.
    all_chosen c.args.marks.now c.args.list.now c.loop-at.at c.loop-at.found.items c.loop-at.places.items (omega (arith, c.loop-at-test.false, c.loop-at.invariant.within)) c.requires.once c.loop-at.invariant.chosen

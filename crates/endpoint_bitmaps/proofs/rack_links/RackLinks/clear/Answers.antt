use Rattle.std.proofs.Common.{◌≡◌, ◌≤◌, ◌-◌, ◌*◌, ◌^◌, ◌++◌, ℕ, List, length, replicate, drop, ap, ◌∙◌, arith}
use Rattle.std.proofs.lemmas.List.{length-append, length-drop, length-replicate, take_at}
use Rattle.endpoint_bitmaps.proofs.LinkLemmas.{shows_cleared}
use Rattle.endpoint_bitmaps.proofs.rack_links.RackLinks.clear.Goals as goal

pub returns-clause-left : goal.returns-clause-left
returns-clause-left c =
    let taken = c.args.self.now.taken in
    let left = c.args.self.now.left in
    let used : ℕ = c.args.self.now.used in
    let cleared = c.clear_used.new.counts in
    let freed = c.free_used.new.words in
    let read = c.deref_mut.ensures.value in
    let read_left = c.deref_mut-2.ensures.value in
    let full : List ℕ = replicate used (2 ^ 64 - 1) in
    let freed_is : freed ≡ full ++ drop used left.items = c.free_used.ensures ∙ ap (λ (xs : List ℕ). full ++ drop used xs) read_left in
    let cleared_count : length cleared ≡ length c.deref_mut.result.now = ap length c.clear_used.ensures ∙ length-replicate (length c.deref_mut.result.now) 0 in
    let within : used * 64 ≤ length left.items * 64 = omega (arith, c.requires.used.within, c.requires.count.2.count) in
    let freed_count : length freed ≡ length left.items =
    ap length freed_is ∙ (length-append full (drop used left.items) ∙ omega (arith, length-replicate used (2 ^ 64 - 1), length-drop used left.items, within)) in
    shows_cleared c.args.cores c.requires.count.0 used taken.items left.items _ _ c.requires.some c.requires.count.1 c.requires.count.2 c.requires.used
    (take_at cleared (drop (length cleared) taken.items) taken.len (omega (arith, taken.ok, cleared_count, ap length read))
    ∙ (c.clear_used.ensures ∙ ap (λ (xs : List ℕ). replicate (length xs) 0) read))
    (take_at freed (drop (length freed) left.items) left.len (omega (arith, left.ok, freed_count)) ∙ freed_is)

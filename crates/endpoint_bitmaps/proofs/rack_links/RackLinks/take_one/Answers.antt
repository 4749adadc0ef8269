use Rattle.std.proofs.Common.{rules, ◌≡◌, ◌<◌, ◌^◌, ◌*◌, ◌+◌, ◌-◌, ℕ, length, set, bit_and, sym, ◌∙◌, subst, arith}
use Rattle.std.proofs.lemmas.Nat.{one_shl, pow_below}
use Rattle.endpoint_bitmaps.specs.Links.{ShowsLeft}
use Rattle.endpoint_bitmaps.proofs.LinkLemmas.{shows_full}
use Rattle.endpoint_bitmaps.proofs.rack_links.RackLinks.take_one.Goals as goal

pub returns-then-from-cores-clause-shows : goal.returns-then-from-cores-clause-shows
returns-then-from-cores-clause-shows c =
    let counts = c.args.self.now.taken.items in
    let words = c.args.self.now.left.items in
    let place : ℕ = c.args.rack * 64 + c.args.slot in
    let count : ℕ = c.index_mut-taken.result.now + 1 in
    let word : ℕ = c.index_mut.result.now in
    let below : c.args.rack < length words = omega (arith, c.requires.rack, c.args.self.now.left.ok) in
    let within : place < length counts = omega (arith, c.requires.shows.count, below, c.requires.slot) in
    let full : count ≡ c.args.cores = sym c.from.ensures ∙ c.if-from-cores.true in
    let fits : word < 2 ^ 64 = search rules in
    subst (λ (n : ℕ). ShowsLeft c.args.cores (set counts place count) (set words c.args.rack (bit_and word (2 ^ 64 - 1 - n)))) (sym (one_shl c.args.slot 64 c.requires.slot))
    (shows_full c.args.cores c.args.rack c.args.slot count word counts words c.requires.shows below c.requires.slot fits (pow_below c.args.slot 64 c.requires.slot)
    c.index_mut.ensures.value full)

use Rattle.std.proofs.Common.{◌≡◌, ◌-◌, ◌*◌, ℕ, List, [], length, drop, replicate, ap, ◌∙◌, arith}
use Rattle.std.proofs.lemmas.List.{length-replicate}
use Rattle.greedy_rules.specs.declared.flows.Flow.{Flow}
use Rattle.ring_core.proofs.ring.RingCore.take.Goals as goal

pub take_behind-requires-clause-empty : goal.take_behind-requires-clause-empty
take_behind-requires-clause-empty c =
    let none : List Flow = [] in
    let b : ℕ = c.args.self.now.b in
    let count : ℕ = length c.args.out.now.slots in
    let no_place : 0 * b ≡ 0 = omega arith in
    let all : count ≡ length c.clear.new.self.slots - 0 * b = omega (arith, ap length c.clear.ensures.slots, length-replicate count none) in
    ap (λ (n : ℕ). drop n c.clear.new.self.slots) no_place ∙ (c.clear.ensures.slots ∙ ap (λ (n : ℕ). replicate n none) all)

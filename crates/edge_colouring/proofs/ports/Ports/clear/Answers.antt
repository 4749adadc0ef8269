use Rattle.std.proofs.Common.{◌≡◌, ◌^◌, ◌-◌, ℕ, List, Option, None, length, replicate, sym, ap, ◌∙◌, arith}
use Rattle.std.proofs.lemmas.List.{get_or-replicate, length-replicate}
use Rattle.edge_colouring.proofs.ShownLemmas.{shown-free, length-shown}
use Rattle.edge_colouring.proofs.ports.Ports.clear.Goals as goal

pub returns : goal.returns
returns c =
    let holders = c.self.inside.holders in
    let most : ℕ = 2 ^ 64 - 1 in
    let shows = shown-free (replicate 64 most) holders.items (omega (arith, c.self.invariant.1, holders.ok.0, length-replicate 64 most)) (λ rack below. get_or-replicate 64 rack most 0 (omega (arith, below, length-replicate 64 most))) in
    let len : length holders.items ≡ length c.args.self.now = sym (length-shown c.self.inside.free holders.items) ∙ ap (λ (xs : List (Option ℕ)). length xs) c.self.view_is in
    let none : Option ℕ = None in
    shows ∙ ap (λ (n : ℕ). replicate n none) len

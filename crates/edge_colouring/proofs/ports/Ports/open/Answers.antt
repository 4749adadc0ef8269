use Rattle.std.proofs.Common.{◌≡◌, ◌^◌, ◌-◌, ◌*◌, ℕ, Option, None, length, replicate, ap, ◌∙◌, arith}
use Rattle.std.proofs.lemmas.List.{get_or-replicate, length-replicate}
use Rattle.edge_colouring.proofs.ShownLemmas.{shown-free}
use Rattle.edge_colouring.proofs.ports.Ports.open.Goals as goal

pub returns : goal.returns
returns c =
    let holders = c.in_ok-vec.field-0 in
    let most : ℕ = 2 ^ 64 - 1 in
    let len : length holders.items ≡ c.args.racks * 64 = omega (arith, c.in_ok-vec.ensures.len, holders.ok.0) in
    let shows = shown-free (replicate 64 most) holders.items (omega (arith, len, c.requires, length-replicate 64 most)) (λ rack below. get_or-replicate 64 rack most 0 (omega (arith, below, length-replicate 64 most))) in
    let none : Option ℕ = None in
    shows ∙ ap (λ (n : ℕ). replicate n none) len

use Rattle.std.proofs.Common.{◌≡◌, ◌<◌, ◌*◌, ◌∙◌, ℕ, get_or, length, sym, ap, subst, arith}
use Rattle.std.proofs.Math.Nat.{mul_comm}
use Rattle.std.proofs.lemmas.List.{get_or_default}
use Rattle.std.proofs.lemmas.Nat.{mul-add-lt}
use Rattle.schedule_audit.proofs.links.Links.place_of.Goals as goal

pub returns-clause-within : goal.returns-clause-within
returns-clause-within c =
    let net = c.args.net.now in
    let racks = c.args.self.now.racks.items in
    let rack = c.index.result.now in
    let there = c.requires.marks.racks in
    let within : c.args.endpoint < length racks = omega (arith, there.count, c.requires.endpoint) in
    let is : rack ≡ get_or racks c.args.endpoint 0 = c.index.ensures ∙ get_or_default racks c.args.endpoint rack 0 within in
    let less : rack < net.racks = subst (λ (n : ℕ). n < net.racks) (sym is) (there.each c.args.endpoint c.requires.endpoint).1 in
    let cores : rack * c.cores.result ≡ rack * net.cores = ap (λ (n : ℕ). rack * n) c.cores.ensures.number in
    omega (arith, cores, mul-add-lt rack net.cores c.args.core net.racks less c.requires.core, mul_comm net.cores net.racks)

-- Why a rack factor finds racks.
use Rattle.std.proofs.Common.{◌≡◌, ◌<◌, ◌≤◌, ℕ, ◌+◌, ◌*◌, ◌-◌, ◌/◌, ◌%◌, sym, ap, ◌∙◌, arith}
use Rattle.std.proofs.lemmas.Nat.{mul-le, div-mul-add, div-add-mod', mod_below}
use Rattle.clos_topology.specs.RackFactor.{IsRackFactor}

-- the factor of a rack's endpoints by place: what it comes to beside the racks is less than one more
factor_parts : (hosts factor q r over : ℕ) → hosts ≤ 64 → r < hosts → q * hosts + r < 256 → factor * hosts ≡ 65536 + over → 0 < over → over ≤ hosts → factor * (q * hosts + r) / 65536 ≡ q
factor_parts hosts factor q r over most below few is some small =
    let times : q * (factor * hosts) ≡ q * (65536 + over) = ap (λ (n : ℕ). q * n) is in
    let rest : ℕ = q * over + r * factor in
    let whole : factor * (q * hosts + r) ≡ q * 65536 + rest = omega (arith, times) in
    let large : factor * hosts ≤ factor * 64 = mul-le factor hosts factor 64 (omega arith) most in
    let row : (r + 1) * factor ≤ hosts * factor = mul-le (r + 1) factor hosts factor (omega arith) (omega arith) in
    let column : q * over ≤ q * hosts = mul-le q over q hosts (omega arith) small in
    let fits : rest < 65536 = omega (arith, is, some, small, most, large, row, column, few) in
    ap (λ (n : ℕ). n / 65536) whole ∙ div-mul-add q 65536 rest fits

pub rack_by_factor : (hosts factor endpoint : ℕ) → 1 ≤ hosts → hosts ≤ 64 → endpoint < 256 → IsRackFactor hosts factor → factor * endpoint / 65536 ≡ endpoint / hosts
rack_by_factor hosts factor endpoint some most few is =
    let q : ℕ = endpoint / hosts in
    let r : ℕ = endpoint % hosts in
    let parts : q * hosts + r ≡ endpoint = div-add-mod' endpoint hosts in
    let over : ℕ = factor * hosts - 65536 in
    ap (λ (n : ℕ). factor * n / 65536) (sym parts)
    ∙ factor_parts hosts factor q r over most (mod_below endpoint hosts (omega arith)) (omega (arith, parts, few)) (omega (arith, is.above)) (omega (arith, is.above)) (omega (arith, is.above, is.near))

use Rattle.std.proofs.Common.{◌*◌, ◌/◌, ℕ, ap, ◌∙◌, arith}
use Rattle.clos_topology.proofs.FactorLemmas.{rack_by_factor}
use Rattle.clos_topology.proofs.net.Net.rack_by.Goals as goal

pub returns : goal.returns
returns c =
    let limits = c.hosts-hosts.ensures.limits in
    ap (λ (n : ℕ). c.args.factor * n / 65536) c.from.ensures
    ∙ rack_by_factor c.args.self.now.hosts c.args.factor c.args.endpoint limits.some_host limits.most_hosts (omega (arith, c.requires.endpoint, limits.most_endpoints)) c.requires.factor

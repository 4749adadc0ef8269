-- The two-tier Clos network (the SIGCOMM 2014 Fastpass paper): racks of hosts, each rack with one switch, and core switches,
-- each with a link to every rack's switch. Endpoints are numbered rack by rack.
use Rattle.std.specs.Prelude.{ℕ, ◌*◌}

pub record Network : Type 0 where
  pub racks : ℕ
  pub hosts : ℕ
  pub cores : ℕ

abbrev pub endpoints_of : Network → ℕ
endpoints_of net = net.racks * net.hosts

use Rattle.std.proofs.Common.{◌∷◌, arith}
use Rattle.takeover_history.specs.Steps.{log_of}
use Rattle.takeover_history.specs.Events.{Crashed}
use Rattle.takeover_core.proofs.Noding.{own_crashed, other_crashed}
use Rattle.takeover_core.proofs.Stepping.{nodes_with, two_with}
use Rattle.takeover_core.proofs.pair.Pair.crash.Goals as goal

pub crash-requires : goal.crash-requires
crash-requires c =
    let (setting, events, s, may) = c.requires in
    let few = c.running_counts_serve.ensures.few setting events in
    omega (arith, (s.nodes_are c.args.node c.index-self-node.result may.is_event).boot_is, few.0, few.1.boots c.args.node, may.few)

pub returns : goal.returns
returns c = λ setting events s may.
    let log = log_of setting events in
    let node = c.args.node in
    let is = c.crash.ensures in
    record {
      fits = s.fits;
      asks_fit = s.asks_fit;
      endpoints_are = s.endpoints_are;
      b_is = s.b_is;
      keeper_is = s.keeper_is;
      turns_are = s.turns_are;
      two = two_with c.args.self.now.nodes node c.crash.new.self s.two;
      nodes_are = nodes_with setting log (Crashed node ∷ log) c.args.self.now.nodes node c.crash.new.self s.two may.is_event s.nodes_are
          (own_crashed setting log node _ c.crash.new.self is.boot is.lease is.used is.told is.published is.list (s.nodes_are node c.index-self-node.result may.is_event))
          (λ number other below apart n. other_crashed setting log number other node apart n);
      ends_are = s.ends_are;
      published_are = s.published_are;
      last_is = s.last_is;
      none_is = s.none_is;
    }

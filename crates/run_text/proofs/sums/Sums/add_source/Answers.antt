use Rattle.std.proofs.Common.{◌≡◌, ◌≤◌, ◌+◌, ◌*◌, ℕ, List, ◌++◌, Option, IfSome, sym, ap, ◌∙◌, subst, inr, arith}
use Rattle.std.proofs.lemmas.List.{append-nil, append_assoc}
use Rattle.std.proofs.lemmas.Nat.{mul-le}
use Rattle.clos_topology.specs.Network.{endpoints_of}
use Rattle.greedy_rules.specs.declared.flows.Flow.{Flow}
use Rattle.greedy_rules.proofs.TableLemmas.{next_row}
use Rattle.greedy_rules.specs.Cells.{flow_of}
use Rattle.trace_run.specs.Run.{Setting}
use Rattle.window_engine.specs.declared.counts.Counts.{Counts}
use Rattle.window_engine.specs.Replay.{replay_counts}
use Rattle.run_text.specs.Made.{sums_of, counts_to}
use Rattle.run_text.specs.Sums.{counts_listed, AreOfAtMost}
use Rattle.run_text.proofs.SumLemmas.{counts_more}
use Rattle.window_engine.specs.Standing.{run_of}
use Rattle.window_engine.proofs.EngineFacts.{replay_within}
use Rattle.run_text.proofs.sums.Sums.add_source.Goals as goal

pub counts-requires-clause-stands : goal.counts-requires-clause-stands
counts-requires-clause-stands c = (c.args.trace.now, c.requires.accepted, inr c.requires.stands)

pub add-requires-clause-counts : goal.add-requires-clause-counts
add-requires-clause-counts c =
    let trace = c.args.trace.now in
    let (cores, stands) = c.requires.stands in
    let flow : Flow = flow_of c.args.src c.loop-dst.dst in
    subst (λ (counts : Option Counts). IfSome counts (λ c. c.acknowledged + c.lost ≤ c.allocated)) (sym (c.counts.ensures.replayed trace cores c.requires.accepted stands))
    (c.every_count_has_a_flight.ensures (run_of trace cores c.args.replay.now) trace.rounds flow (replay_within stands).g.0 c.requires.src (omega (arith, c.endpoints-dst-end.ensures.number)))

pub add-requires-clause-room : goal.add-requires-clause-room
add-requires-clause-room c =
    let n : ℕ = endpoints_of c.args.trace.now.net in
    let few : n ≤ 256 = c.requires.accepted.net.most_endpoints in
    let rows : c.args.src * n ≤ 255 * 256 = mul-le c.args.src n 255 256 (omega (arith, c.requires.src, few)) few in
    (c.args.src * n + c.loop-dst.dst, omega (arith, rows, few, c.endpoints-dst-end.ensures.number), c.loop-dst.invariant.most)

pub loop-dst-init : goal.loop-dst-init
loop-dst-init c =
    let n : ℕ = endpoints_of c.args.trace.now.net in
    let none : c.args.src * n ≡ c.args.src * n + 0 = omega arith in
    record {
      sums = λ cores all stands is. is ∙ ap sums_of (sym (append-nil all));
      most = subst (λ (m : ℕ). AreOfAtMost m c.args.self.now) none c.requires.room;
    }

pub loop-dst-preserved : goal.loop-dst-preserved
loop-dst-preserved c =
    let trace = c.args.trace.now in
    let n : ℕ = endpoints_of trace.net in
    let src : ℕ = c.args.src in
    let dst : ℕ = c.loop-dst.dst in
    let one : src * n + dst + 1 ≡ src * n + (dst + 1) = omega arith in
    record {
      sums = λ cores all stands is.
          let setting : Setting = run_of trace cores c.args.replay.now in
          let before : List Counts = counts_to setting trace.rounds src dst in
          let told : c.counts.result ≡ replay_counts setting trace.rounds (flow_of src dst) = c.counts.ensures.replayed trace cores c.requires.accepted stands in
          c.add.ensures.sums (all ++ before) (c.loop-dst.invariant.sums cores all stands is)
          ∙ ap sums_of (append_assoc all before (counts_listed c.counts.result)
          ∙ (ap (λ (o : Option Counts). all ++ (before ++ counts_listed o)) told ∙ ap (λ (cs : List Counts). all ++ cs) (sym (counts_more setting trace.rounds src dst))));
      most = subst (λ (m : ℕ). AreOfAtMost m c.add.new.self) one (c.add.ensures.most (src * n + dst) c.loop-dst.invariant.most);
    }

pub returns-clause-sums : goal.returns-clause-sums
returns-clause-sums c = λ cores all stands is.
    let trace = c.args.trace.now in
    let setting : Setting = run_of trace cores c.args.replay.now in
    let ended : c.loop-dst.dst ≡ endpoints_of trace.net = omega (arith, c.endpoints-dst-end.ensures.number) in
    c.loop-dst.invariant.sums cores all stands is ∙ ap (λ (k : ℕ). sums_of (all ++ counts_to setting trace.rounds c.args.src k)) ended

pub returns-clause-most : goal.returns-clause-most
returns-clause-most c =
    let n : ℕ = endpoints_of c.args.trace.now.net in
    let ended : c.loop-dst.dst ≡ n = omega (arith, c.endpoints-dst-end.ensures.number) in
    let all : c.args.src * n + c.loop-dst.dst ≡ (c.args.src + 1) * n = ap (λ (k : ℕ). c.args.src * n + k) ended ∙ sym (next_row c.args.src n) in
    subst (λ (m : ℕ). AreOfAtMost m c.loop-dst.self) all c.loop-dst.invariant.most

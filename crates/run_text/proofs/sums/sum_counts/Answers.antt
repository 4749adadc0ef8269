use Rattle.std.proofs.Common.{◌≡◌, ℕ, List, sym, ap, ◌∙◌, arith}
use Rattle.std.specs.List.{flat_map, range_with_len}
use Rattle.clos_topology.specs.Network.{endpoints_of}
use Rattle.trace_run.specs.Run.{Setting}
use Rattle.window_engine.specs.declared.counts.Counts.{Counts}
use Rattle.run_text.specs.Made.{sums_of, counts_from}
use Rattle.run_text.proofs.SumLemmas.{sources_more}
use Rattle.window_engine.specs.Standing.{run_of}
use Rattle.run_text.proofs.sums.sum_counts.Goals as goal

pub loop-src-preserved : goal.loop-src-preserved
loop-src-preserved c = record {
  sums = λ cores stands.
      let trace = c.args.trace.now in
      let setting : Setting = run_of trace cores c.args.replay.now in
      let before : List Counts = flat_map (counts_from setting trace.rounds) (range_with_len 0 c.loop-src.src) in
      c.add_source.ensures.sums cores before stands (c.loop-src.invariant.sums cores stands) ∙ ap sums_of (sym (sources_more setting trace.rounds c.loop-src.src));
  most = c.add_source.ensures.most;
}

pub returns : goal.returns
returns c = λ cores stands.
    let trace = c.args.trace.now in
    let setting : Setting = run_of trace cores c.args.replay.now in
    let ended : c.loop-src.src ≡ endpoints_of trace.net = omega (arith, c.endpoints-src-end.ensures.number) in
    c.loop-src.invariant.sums cores stands ∙ ap (λ (n : ℕ). sums_of (flat_map (counts_from setting trace.rounds) (range_with_len 0 n))) ended

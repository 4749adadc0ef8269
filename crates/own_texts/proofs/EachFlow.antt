-- Lines of flows, which record, route and send nothing.
use Rattle.std.proofs.Common.{◌<◌, ◌≤◌, ◌+◌, ℕ, zero, suc, List, [], arith}
use Rattle.greedy_rules.specs.declared.flows.Flow.{Flow}
use Rattle.report_text.specs.declared.line.Line.{Line}
use Rattle.schedule_audit.specs.Wrong.{Expected}
use Rattle.run_lines.specs.Text.{each_destination, each_source}
use Rattle.own_texts.proofs.Shows.{Shows, shows-nil, shows-append}

-- where those of each flow between so many endpoints are right, so are all
each_to : (b : ℕ) (e : Expected) (lines : Flow → List Line) (n src dst more : ℕ) → dst + more ≤ n → ((d : ℕ) → d < n → Shows b e (lines (record { src = src; dst = d })) [] [] [])
    → Shows b e (each_destination lines src dst more) [] [] []
each_to b e lines n src dst zero within shows = shows-nil b e
each_to b e lines n src dst (suc more) within shows = shows-append (shows dst (omega arith)) (each_to b e lines n src (dst + 1) more (omega arith) shows)

each_from : (b : ℕ) (e : Expected) (lines : Flow → List Line) (n src more : ℕ) → src + more ≤ n → ((s d : ℕ) → s < n → d < n → Shows b e (lines (record { src = s; dst = d })) [] [] [])
    → Shows b e (each_source lines n src more) [] [] []
each_from b e lines n src zero within shows = shows-nil b e
each_from b e lines n src (suc more) within shows =
    shows-append (each_to b e lines n src 0 n (omega arith) (λ d low. shows src d (omega arith) low)) (each_from b e lines n (src + 1) more (omega arith) shows)

pub each_flow : (b : ℕ) (e : Expected) (lines : Flow → List Line) (n : ℕ) → ((s d : ℕ) → s < n → d < n → Shows b e (lines (record { src = s; dst = d })) [] [] []) → Shows b e (each_source lines n 0 n) [] [] []
each_flow b e lines n shows = each_from b e lines n 0 n (omega arith) shows

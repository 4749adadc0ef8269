-- An ask of the round of the latest row, with which nothing is wrong.
use Rattle.std.proofs.Common.{◌≡◌, ◌≢◌, ℕ, ◌+◌, ◌<◌, ◌≤◌, List, length, true, false, Option, Some, None, Ok, refl, sym, ap, ◌∙◌, arith}
use Rattle.std.specs.Prelude.{◌==◌, nat_lt, nat_le, sum_by}
use Rattle.std.proofs.lemmas.Bool.Decides.{nat_tests}
use Rattle.clos_topology.specs.Network.{Network, endpoints_of}
use Rattle.trace_text.specs.Fields.{Record}
use Rattle.trace_text.specs.Rows.{Row, Ask}
use Rattle.trace_text.specs.Lines.{IsAskRow}
use Rattle.trace_text.specs.Stage.{takes_kind}
use Rattle.trace_text.specs.Earlier.{net_of, greatest_round, end_of, row_slots}
use Rattle.trace_text.specs.Faults.{is_first, read_row, read_kind, checked}
use Rattle.trace_text.specs.Standing.{StandsFor, IsNetOf, IsAllowed, AwaitsAsks, endpoints_kept}
use Rattle.trace_text.specs.declared.command.Command.{Command}
use Rattle.trace_text.specs.declared.kind.Kind.TheVariants as kind
use Rattle.trace_text.specs.declared.plain_ask.PlainAsk.{PlainAsk}
use Rattle.trace_text.specs.declared.rows.Rows.{Rows}
use Rattle.trace_text.specs.declared.taken_row.TakenRow.TheVariants as taken

-- an ask after the first row is read field by field
ask-read : (command : Command) (before : List Row) (fields : Record) (ask : PlainAsk) → 0 < length before → takes_kind command kind.Ask ≡ true → IsAskRow ask fields
    → read_row command before fields ≡ checked before (Ask ask.round ask.src ask.dst ask.slots)
unfolding read_row read_kind
ask-read command before fields ask some takes row =
    let later : is_first before ≡ false = grind (arith, nat_tests) in
    rw (later, row.named, takes, row.whole, row.readable, row.row) refl

-- each test of an ask passes
ask-checked : (before : List Row) (round src dst slots : ℕ) → round ≤ 99999 → src < endpoints_of (net_of before) → dst < endpoints_of (net_of before) → src ≢ dst → 0 < slots → end_of before ≡ None → greatest_round before ≤ round
    → sum_by (row_slots src dst) before + slots ≤ 100000000 → checked before (Ask round src dst slots) ≡ Ok (Ask round src dst slots)
unfolding checked
ask-checked before round src dst slots early low low2 other some unended late few =
    let one : nat_le round 99999 ≡ true = grind (arith, nat_tests) in
    let two : nat_lt src (endpoints_of (net_of before)) ≡ true = grind (arith, nat_tests) in
    let three : nat_lt dst (endpoints_of (net_of before)) ≡ true = grind (arith, nat_tests) in
    let four : nat_le 1 slots ≡ true = grind (arith, nat_tests) in
    let five : nat_le slots 100000000 ≡ true = grind (arith, nat_tests) in
    let six : (src == dst) ≡ false = grind (arith, nat_tests) in
    let seven : nat_lt round (greatest_round before) ≡ false = grind (arith, nat_tests) in
    let eight : nat_lt 100000000 (sum_by (row_slots src dst) before + slots) ≡ false = grind (arith, nat_tests) in
    rw (one, two, three, four, five, six, unended, seven, eight) refl

-- the net of rows is that which is kept
kept-endpoints : (before : List Row) (net : Option Network) → IsNetOf before net → 0 < length before → endpoints_of (net_of before) ≡ endpoints_kept net
kept-endpoints before None is some = absurd (omega arith)
kept-endpoints before (Some net) is some = ap endpoints_of is.1

pub ask-sound : (command : Command) (before : List Row) (fields : Record) (ask : PlainAsk) (rows : Rows) → StandsFor before rows → AwaitsAsks command ask.round rows → IsAskRow ask fields
    → IsAllowed rows (taken.Ask ask.round ask.src ask.dst ask.slots) → read_row command before fields ≡ Ok (Ask ask.round ask.src ask.dst ask.slots)
ask-sound command before fields ask rows s within row (late, low, low2, other, some, few) =
    let later : 0 < length before = omega (arith, s.count, within.some) in
    let net = kept-endpoints before rows.net s.net later in
    ask-read command before fields ask later within.takes row
    ∙ ask-checked before ask.round ask.src ask.dst ask.slots within.early (omega (arith, net)) (omega (arith, net)) other some (sym s.ended ∙ within.unended) (omega (arith, s.round))
    (omega (arith, s.totals ask.src ask.dst low low2))

use Rattle.std.proofs.Common.{◌≡◌, List, Option, replicate, rules, ap}
use Rattle.edge_colouring.specs.Cores.{core_in}
use Rattle.path_workers.proofs.TableLemmas.{all_empty}
use Rattle.path_workers.proofs.core_table.CoreTable.open.Goals as goal

pub returns-clause-none : goal.returns-clause-none
returns-clause-none c slot source =
    let items : c.in_ok-vec.field-0.items ≡ replicate c.args.slots c.default.result = search rules in
    ap (λ (row : List (Option _)). core_in row source) (all_empty c.add_band.new.cores.items c.in_ok-vec.field-0.items c.default.result c.args.slots slot c.default.ensures.1 items)

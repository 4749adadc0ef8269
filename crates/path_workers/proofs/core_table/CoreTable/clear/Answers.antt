use Rattle.std.proofs.Common.{◌≡◌, replicate, vec_len, rules}
use Rattle.path_workers.proofs.TableLemmas.{all_empty}
use Rattle.path_workers.proofs.core_table.CoreTable.clear.Goals as goal

pub returns-clause-empty : goal.returns-clause-empty
returns-clause-empty c slot =
    let count = vec_len c.self.inside.places in
    let items : c.fill.new.self.items ≡ replicate count c.default.result = search rules in
    all_empty c.truncate.new.self.items c.fill.new.self.items c.default.result count slot c.default.ensures.1 items

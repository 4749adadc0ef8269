use Rattle.std.proofs.Common.{length, ap}
use Rattle.std.proofs.lemmas.List.Sorted.{All-permutation}
use Rattle.trace_text.specs.Events.{IsWithin}
use Rattle.trace_text.specs.Trace.{each_below}
use Rattle.trace_text.proofs.PutFacts.{puts-ordered}
use Rattle.trace_text.proofs.puts.Puts.of.Goals as goal
use mathlib.Core.Path.{fun_ext}

pub invariant_of-result : goal.invariant_of-result
invariant_of-result c =
    let rows = c.args.rows in (
      c.in_ok-sort.ensures.sorted,
      rw (c.deref.ensures.value, c.from.ensures) at c.in_ok-starts.ensures,
      All-permutation (IsWithin (length rows.bytes.items)) rows.packets.items c.sort.new.items.items c.sort.ensures.same c.requires.within,
    )

pub returns : goal.returns
returns c =
    let rows = c.args.rows in
    ap (each_below c.args.endpoints) (fun_ext (λ endpoint. puts-ordered rows.packets.items c.sort.new.items.items rows.bytes.items endpoint c.in_ok-sort.ensures.stable))

use Rattle.std.proofs.Common.{◌≡◌, [], take, drop}
use Rattle.item_chain.proofs.nodes.Nodes.split_writing.Given as goal

abbrev pub invariant-loop-value : goal.invariant-loop-value
invariant-loop-value g l = record {
  front : l.front.items ≡ take l.value-index l.values;
  rest : l.rest.items ≡ drop l.value-index l.fn.self.items;
  behind : l.front.end ≡ l.rest.head;
  none : l.self.items ≡ [];
}

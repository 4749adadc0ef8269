use Rattle.std.proofs.Common.{◌≡◌, length, take, drop}
use Rattle.item_chain.proofs.nodes.Nodes.split_reading.Given as goal

abbrev pub invariant-loop-value : goal.invariant-loop-value
invariant-loop-value g l = record {
  count : length l.value-items ≡ length l.fn.values;
  front : l.front.items ≡ take l.value-index l.fn.self.items;
  rest : l.self.items ≡ drop l.value-index l.fn.self.items;
  behind : l.front.end ≡ l.self.head;
  values : take l.value-index l.value-items ≡ take l.value-index l.fn.self.items;
}

-- What the worked rows ask for.
use Rattle.std.specs.Prelude.{◌≡◌, ◌<◌, true, false}
use Rattle.greedy_rules.specs.declared.flows.Entry.{Entry}

-- an entry that opens a flow to endpoint 0, of one slot
abbrev pub OpensOneSlot : Entry → Type 0
OpensOneSlot entry = (0 < entry.flow.src) × (entry.flow.src < 132) × (entry.flow.dst ≡ 0) × (entry.opens ≡ true) × (entry.clear ≡ false) × (entry.add ≡ 1)

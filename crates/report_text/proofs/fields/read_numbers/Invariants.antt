use Rattle.std.proofs.Common.{◌≡◌, ◌<◌, ◌≤◌, ℕ, List, ◌++◌, length, take, drop, get_or, slice_index_or}
use Rattle.report_text.specs.Lines.{number_fields, AreWithin}
use Rattle.report_text.proofs.fields.read_numbers.Given as goal

abbrev pub invariant-loop-value : goal.invariant-loop-value
invariant-loop-value l = record {
  count : length l.values ≡ length l.fn.values;
  left : drop l.value-index l.values ≡ drop l.value-index l.fn.values;
  spelled : l.text ≡ number_fields (take l.value-index l.values) ++ l.rest;
  within : (k : ℕ) → k < l.value-index → get_or l.values k 0 ≤ get_or l.fn.values k 0;
  only : (ns after : List ℕ) → length ns ≡ length l.values → AreWithin l.fn.values ns → slice_index_or after 0 44 ≡ 44 → l.text ≡ number_fields ns ++ after → (take l.value-index l.values ≡ take l.value-index ns) × (l.rest ≡ number_fields (drop l.value-index ns) ++ after);
}

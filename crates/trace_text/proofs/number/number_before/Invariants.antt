use Rattle.std.proofs.Common.{◌≡◌, ◌≤◌, take, true}
use Rattle.std.specs.Char.{is_ascii_digit}
use Rattle.std.specs.List.{list_all}
use Rattle.std.specs.Str.Parse.{digits_value}
use Rattle.trace_text.proofs.number.number_before.Given as goal

abbrev pub invariant-loop-at : goal.invariant-loop-at
invariant-loop-at l = record {
  digits : list_all is_ascii_digit (take l.at l.text) ≡ true;
  value : l.value ≡ digits_value 10 (take l.at l.text);
  small : l.value ≤ 4294967295;
}

use Rattle.std.proofs.Common.{◌≡◌, ◌%◌, ◌^◌, take}
use Rattle.std.specs.List.{AllByRecursion}
use Rattle.std.specs.Str.Parse.{digits_value}
use Rattle.cm_text.specs.Numeral.{IsDigit}
use Rattle.cm_text.proofs.number.run_at.Given as goal

-- n is what the digits so far write, modulo 2^64
abbrev pub invariant-loop-i : goal.invariant-loop-i
invariant-loop-i l = record {
  digits : AllByRecursion (IsDigit l.base) (take l.i l.text);
  value : l.n ≡ digits_value l.base (take l.i l.text) % 2 ^ 64;
}

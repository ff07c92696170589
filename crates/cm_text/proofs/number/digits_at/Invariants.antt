use Rattle.std.proofs.Common.{◌≡◌, ◌≤◌, take}
use Rattle.std.specs.List.{AllByRecursion}
use Rattle.std.specs.Str.Parse.{digits_value}
use Rattle.cm_text.specs.Numeral.{IsDigit}
use Rattle.cm_text.proofs.number.digits_at.Given as goal

-- n is what the digits so far write
abbrev pub invariant-loop-i : goal.invariant-loop-i
invariant-loop-i l = record {
  digits : AllByRecursion (IsDigit l.base) (take l.i l.text);
  written : digits_value l.base (take l.i l.text) ≡ l.n;
  fits : l.n ≤ l.most;
}

-- The rules of the language on values: what it asks of a value, and what is done with it.
use Rattle.std.specs.Prelude.{ℕ, ◌==◌, ℤ, ◌+ℤ◌, int_lt, List, Option, Some, None, refl, if◌then◌else◌}
use Rattle.cm_value.specs.declared.value.Value.{Value}
use Rattle.cm_value.specs.declared.value.Value.TheVariants as value
use Rattle.cm_code.specs.Rules.{Rules}
use Rattle.cm_eval.specs.declared.operand.Operand.{Operand}
use Rattle.cm_eval.specs.declared.operand.Operand.TheVariants as operand
use Rattle.cm_eval.specs.Script.{Replies, Blocks, Decides, Reads, Writes, given}
use Rattle.cm_eval.specs.Comparison.{parts_of, option_of}
use Rattle.cm_eval.specs.Evaluation.{Doing, value_of, number_of, bool, inspects, orders, compares, named, field_in}
use Rattle.cm_eval.specs.Evaluation.{with_field, opens}

abbrev pub summed : Option ℤ → ℤ → Option Operand
summed (Some n) by = Some (operand.Number (n +ℤ by))
summed None by = None

-- 0 below, 1 between, 2 above
abbrev pub placed : ℤ → ℤ → ℤ → ℕ
placed lo hi n = if int_lt n lo then 0 else if int_lt hi n then 2 else 1

-- a number between two: blocked where it is none
abbrev pub into : ℤ → ℤ → Operand → (Value → Doing) → Doing
into lo hi o k = given (number_of o) (λ n. Decides (placed lo hi n) (λ d. if d == 1 then k (value.Int n) else Blocks))

abbrev pub values : Rules Value Operand Doing
values = record {
  tag = λ e i. value.Tag i;
  flag = bool;
  make = value.Rec;
  nothing = value.None;
  some = value.Some;
  field = λ v i. field_in (parts_of v) i;
  with_field = with_field;
  plain = operand.Plain;
  number = operand.Number;
  value = value_of;
  shift = λ o by. summed (number_of o) by;
  blocks = Blocks;
  replies = Replies;
  inspects = inspects;
  compares = compares;
  orders = orders;
  into = into;
  opens = λ v k. opens (option_of v) k;
  reads = λ s c k. Reads (named s c) k;
  writes = λ s c v k. Writes (named s c) v k;
  plain_value = λ v. refl;
}

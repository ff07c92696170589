-- The digits at the front of a text: what the reader of a number finds.
use Rattle.std.specs.Prelude.{◌≡◌, ℕ, ◌<◌, ◌≤◌, List, length, take, drop}
use Rattle.std.specs.List.{AllByRecursion}
use Rattle.std.specs.Str.Parse.{digits_value}
use Rattle.cm_text.specs.Numeral.{BeginsWithDigit, IsDigit}

-- so many digits stand at the front, no more, and they write the value
pub record IsRun (base : ℕ) (text : List ℕ) (count value : ℕ) : Type 0 where
  pub within : count ≤ length text
  pub digits : AllByRecursion (IsDigit base) (take count text)
  pub ends : ¬ BeginsWithDigit base (drop count text)
  pub written : digits_value base (take count text) ≡ value

-- some digits at the front already write more than `most`
pub record WritesMore (base most : ℕ) (text : List ℕ) (count : ℕ) : Type 0 where
  pub within : count ≤ length text
  pub digits : AllByRecursion (IsDigit base) (take count text)
  pub above : most < digits_value base (take count text)

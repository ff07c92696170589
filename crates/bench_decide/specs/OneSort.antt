-- Variables of sort 0 alone.
use Rattle.std.specs.Prelude.{◌≡◌, ℕ, length, List, slice_index}

pub record IsOneSort (n : ℕ) (sorts : List ℕ) : Type 0 where
  pub count : length sorts ≡ n
  pub same : (x : ℕ) → slice_index sorts x ≡ 0

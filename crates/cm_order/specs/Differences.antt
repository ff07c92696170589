-- Integer variables and the bounds of their differences, and which valuations they allow.
use Rattle.std.specs.Prelude.{◌≡◌, ◌<◌, ◌↔◌, ℕ, ℤ, pos, ◌-ℤ◌, ◌≤ℤ◌, List, [], length, slice_index_or}

-- in row x, for each variable y, the most by which x can exceed y
abbrev pub Differences : Type 0
Differences = List (List ℤ)

abbrev pub difference : Differences → ℕ → ℕ → ℤ
difference rows x y = slice_index_or (slice_index_or rows x []) y (pos 0)

-- a valuation gives each variable an integer, and variable 0 the number 0
pub record Satisfies (rows : Differences) (v : ℕ → ℤ) : Type 0 where
  pub zero : v 0 ≡ pos 0
  pub within : (x y : ℕ) → x < length rows → y < length rows → (v x -ℤ v y) ≤ℤ difference rows x y

abbrev pub IsSatisfiable : Differences → Type 0
IsSatisfiable rows = (v : ℕ → ℤ) × Satisfies rows v

-- some valuation has the fact
abbrev pub Allows : Differences → ((ℕ → ℤ) → Type 0) → Type 0
Allows rows P = (v : ℕ → ℤ) × Satisfies rows v × P v

-- the new bounds have exactly the valuations of the old ones that have the fact
abbrev pub Keeps : Differences → Differences → ((ℕ → ℤ) → Type 0) → Type 0
Keeps old new P = (v : ℕ → ℤ) → Satisfies new v ↔ (Satisfies old v × P v)

-- a valuation that is nowhere greater than another
pub record IsLeast (rows : Differences) (u : ℕ → ℤ) : Type 0 where
  pub satisfies : Satisfies rows u
  pub least : (v : ℕ → ℤ) → Satisfies rows v → (x : ℕ) → x < length rows → u x ≤ℤ v x

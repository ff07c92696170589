-- Variables in classes of equal ones, and which valuations they allow.
use Rattle.std.specs.Prelude.{◌≡◌, ◌≢◌, ◌<◌, ◌↔◌, ℕ, Bool, false, IsTrue, List, [], length, slice_index, slice_index_or}

pub record Partition : Type 0 where
  -- the sort of each variable
  pub sorts : List ℕ
  -- the least variable of each one's class
  pub labels : List ℕ
  -- in the row of each variable, which of the lesser ones it is known to differ from
  pub apart : List (List Bool)
  -- whether one more difference needs no memory
  pub spare : Bool

abbrev pub label : Partition → ℕ → ℕ
label p x = slice_index p.labels x

abbrev pub are_apart : Partition → ℕ → ℕ → Bool
are_apart p x y = slice_index_or (slice_index_or p.apart x []) y false

-- a valuation gives each variable an element: one to each class, and others where variables differ
pub record Satisfies (p : Partition) (v : ℕ → ℕ) : Type 0 where
  pub same : (x : ℕ) → x < length p.sorts → v x ≡ v (label p x)
  pub apart : (x y : ℕ) → x < length p.sorts → y < x → IsTrue (are_apart p x y) → v x ≢ v y

-- neither a class nor a difference goes over two sorts
pub record KeepsToSorts (p : Partition) : Type 0 where
  pub classes : (x : ℕ) → x < length p.sorts → slice_index p.sorts (label p x) ≡ slice_index p.sorts x
  pub apart : (x y : ℕ) → x < length p.sorts → y < x → IsTrue (are_apart p x y)
      → slice_index p.sorts x ≡ slice_index p.sorts y

abbrev pub IsSatisfiable : Partition → Type 0
IsSatisfiable p = (v : ℕ → ℕ) × Satisfies p v

-- some valuation has the fact
abbrev pub Allows : Partition → ((ℕ → ℕ) → Type 0) → Type 0
Allows p P = (v : ℕ → ℕ) × Satisfies p v × P v

-- the new classes have exactly the valuations of the old ones that have the fact
abbrev pub Keeps : Partition → Partition → ((ℕ → ℕ) → Type 0) → Type 0
Keeps old new P = (v : ℕ → ℕ) → Satisfies new v ↔ (Satisfies old v × P v)

-- the fact holds under every valuation
abbrev pub Implies : Partition → ((ℕ → ℕ) → Type 0) → Type 0
Implies p P = (v : ℕ → ℕ) → Satisfies p v → P v

-- The pairs of calls in order: by the first call, then by the second, which is not before the first.
use Rattle.std.specs.Prelude.{ℕ, zero, suc, ◌+◌, List, [], ◌∷◌, ◌++◌}

-- a call with those from j on
abbrev pub row : ℕ → ℕ → ℕ → List (ℕ × ℕ)
row i j zero = []
row i j (suc m) = (i, j) ∷ row i (j + 1) m

-- the pairs of the m calls from i on
abbrev pub pairs_from : ℕ → ℕ → List (ℕ × ℕ)
pairs_from i zero = []
pairs_from i (suc m) = row i i (suc m) ++ pairs_from (i + 1) m

-- the pairs of n calls
abbrev pub pairs_of : ℕ → List (ℕ × ℕ)
pairs_of n = pairs_from 0 n

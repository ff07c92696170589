-- Sets of outcomes as masks.
use Rattle.std.specs.Prelude.{◌≡◌, ℕ, zero, suc, Bool, false}
use Rattle.std.specs.Int.{bit_at}

-- an outcome is in a mask
abbrev pub Has : ℕ → ℕ → Type 0
Has mask i = bit_at mask i ≡ 1

-- the i-th of three tests
abbrev pub third_of : Bool → Bool → Bool → ℕ → Bool
third_of a b c zero = a
third_of a b c (suc zero) = b
third_of a b c (suc (suc zero)) = c
third_of a b c (suc (suc (suc n))) = false

-- Pairs of different numbers as bits of words.
use Rattle.std.specs.Prelude.{ℕ, ◌+◌, ◌-◌, ◌*◌, ◌/◌, ◌%◌, ◌==◌, ◌&&◌, ◌||◌, Bool, not, min, max, List, slice_index}
use Rattle.std.specs.Int.{bit_at}

-- how many pairs have two numbers below x
unfoldable pub pairs_below : ℕ → ℕ
pairs_below x = x * (x - 1) / 2

-- the bit of a pair stands after those of all pairs below its greater number
unfoldable pub place : ℕ → ℕ → ℕ
place x y = pairs_below (max x y) + min x y

unfoldable pub is_set : List ℕ → ℕ → Bool
is_set words n = bit_at (slice_index words (n / 64)) (n % 64) == 1

unfoldable pub are_marked : List ℕ → ℕ → ℕ → Bool
are_marked words x y = not (x == y) && is_set words (place x y)

-- i and j are x and y, in either order
abbrev pub is_pair : ℕ → ℕ → ℕ → ℕ → Bool
is_pair x y i j = (i == x && j == y) || (i == y && j == x)

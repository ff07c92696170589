-- How bounds are kept: a list of shells, each one variable's differences with those before it.
use Rattle.std.specs.Prelude.{◌≡◌, ◌<◌, ◌≤◌, ◌+◌, ◌-◌, ◌*◌, ◌^◌, ◌&&◌, ℕ, ℤ, pos, ◌+ℤ◌, ◌-ℤ◌, ◌≤ℤ◌, nat_le, nat_lt}
use Rattle.std.specs.Prelude.{if◌then◌else◌, List, length, map, slice_index_or}
use Rattle.std.specs.Int.{int_min}
use Rattle.std.specs.List.{range_with_len}
use Rattle.cm_order.specs.Differences.{Differences}

-- the shell of variable m begins at m * m: m against each one up to m, then each one below m against m
unfoldable pub place : ℕ → ℕ → ℕ
place x y = if nat_le y x then x * x + y else y * y + y + 1 + x

abbrev pub number_at : List ℤ → ℕ → ℤ
number_at numbers p = slice_index_or numbers p (pos 0)

abbrev pub entry : List ℤ → ℕ → ℕ → ℤ
entry entries x y = number_at entries (place x y)

abbrev pub rows_of : ℕ → List ℤ → Differences
rows_of count entries = map (λ x. map (entry entries x) (range_with_len 0 count)) (range_with_len 0 count)

-- each difference at most what two others give
pub record IsClosed (count : ℕ) (d : ℕ → ℕ → ℤ) : Type 0 where
  pub zero : (x : ℕ) → x < count → d x x ≡ pos 0
  pub triangle : (x y z : ℕ) → x < count → y < count → z < count → d x y ≤ℤ (d x z +ℤ d z y)
  -- each variable is within 1,000,000 of 0
  pub above : (x : ℕ) → x < count → d x 0 ≤ℤ pos 1000000
  pub below : (x : ℕ) → x < count → d 0 x ≤ℤ pos 1000000

pub record IsProper (count : ℕ) (entries : List ℤ) : Type 0 where
  pub some : 0 < count
  pub few : count < 2 ^ 31
  -- one more shell holds what an addition works with
  pub long : (count + 1) * (count + 1) ≤ length entries
  pub closed : IsClosed count (entry entries)

-- the bounds once x exceeds y by at most w
abbrev pub with_edge : (ℕ → ℕ → ℤ) → ℕ → ℕ → ℤ → ℕ → ℕ → ℤ
with_edge d x y w i j = int_min (d i j) ((d i x +ℤ w) +ℤ d y j)

-- n numbers from `start` on, each at most `by` more than another
abbrev pub relaxed : List ℤ → ℕ → List ℤ → ℤ → ℕ → ℕ → ℤ
relaxed cells start others by n p =
    if nat_le start p && nat_lt p (start + n) then int_min (number_at cells p) (by +ℤ number_at others (p - start))
    else number_at cells p

-- the entries of one shell, lowered to the sum of a column and a row
abbrev pub lowered : (ℕ → ℕ → ℤ) → List ℤ → List ℤ → ℕ → ℕ → ℤ
lowered d column row i j = int_min (d i j) (number_at column i +ℤ number_at row j)

-- the bounds with one more variable, between lo and hi
abbrev pub extended : ℕ → (ℕ → ℕ → ℤ) → ℤ → ℤ → ℕ → ℕ → ℤ
extended n d lo hi i j = if nat_lt i n then (if nat_lt j n then d i j else d i 0 -ℤ lo)
    else (if nat_lt j n then hi +ℤ d 0 j else pos 0)

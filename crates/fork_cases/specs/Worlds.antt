-- Three bits a, b and c, where a implies b. They are asked for in order, and c only where b is set.
use Rattle.std.specs.Prelude.{◌≡◌, ◌≤◌, length, ℕ, Bool, true, false, List, [], ◌∷◌, IsTrue}
use Rattle.fork_cases.specs.declared.bits.Place.{Place}
use Rattle.fork_cases.specs.declared.bits.Place.TheVariants.{Start, Low, High, LowLow, LowHigh, HighHigh}
use Rattle.fork_cases.specs.declared.bits.Place.TheVariants.{LowEnd, HighEnd}

abbrev pub bit : Bool → ℕ
bit false = 0
bit true = 1

abbrev pub path_of : Bool → Bool → Bool → List ℕ
path_of a false c = bit a ∷ 0 ∷ []
path_of a true c = bit a ∷ 1 ∷ bit c ∷ []

-- a path that some world has, of either subject
abbrev pub has_path : Bool → List ℕ → Type 0
has_path wide p = (a : Bool) × (b : Bool) × (c : Bool) × (a ≡ true → b ≡ true) × (p ≡ path_of a b c)

-- the question for c touches a cell too many
abbrev pub IsWide : Bool → Type 0
IsWide wide = IsTrue wide

-- no path has more than three decisions
abbrev pub IsShort : Bool → List ℕ → Type 0
IsShort wide p = length p ≤ 3

abbrev pub prefix_of : Place → List ℕ
prefix_of Start = []
prefix_of Low = 0 ∷ []
prefix_of High = 1 ∷ []
prefix_of LowLow = 0 ∷ 0 ∷ []
prefix_of LowHigh = 0 ∷ 1 ∷ []
prefix_of HighHigh = 1 ∷ 1 ∷ []
prefix_of (LowEnd c) = 0 ∷ 1 ∷ bit c ∷ []
prefix_of (HighEnd c) = 1 ∷ 1 ∷ bit c ∷ []

abbrev pub Waits : Place → Type 0
Waits Start = Unit {0}
Waits Low = Unit {0}
Waits High = Unit {0}
Waits LowLow = ⊥
Waits LowHigh = Unit {0}
Waits HighHigh = Unit {0}
Waits (LowEnd c) = ⊥
Waits (HighEnd c) = ⊥

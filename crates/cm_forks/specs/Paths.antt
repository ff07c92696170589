-- Paths, their order, and how they begin.
use Rattle.std.specs.Prelude.{◌≡◌, ◌⊎◌, ◌↔◌, ℕ, List, [], ◌∷◌, ◌++◌, Option, Some, None, IsTrue}
use Rattle.cm_ctx.specs.Masks.{Has}
use Rattle.cm_world.specs.Lexicographic.{comes_before}

-- decisions, in order
abbrev pub Path : Type 0
Path = List ℕ

-- the lexicographic order
abbrev pub Before : Path → Path → Type 0
Before p q = IsTrue (comes_before p q)

abbrev pub StartsWith : Path → Path → Type 0
StartsWith p front = (rest : Path) × (p ≡ front ++ rest)

-- some path begins with these decisions
abbrev pub Begins : (Path → Type 0) → Path → Type 0
Begins P front = (rest : Path) × P (front ++ rest)

-- the mask is the set of outcomes that some path takes after these decisions
abbrev pub Covers : (Path → Type 0) → Path → ℕ → Type 0
Covers P front mask = (d : ℕ) → Has mask d ↔ Begins P (front ++ d ∷ [])

-- no path goes on from here
abbrev pub Ends : (Path → Type 0) → Path → Type 0
Ends P front = (q : Path) → P q → StartsWith q front → q ≡ front

-- above the path that was given last; before the first is given, every list is
abbrev pub After : Option Path → Path → Type 0
After None p = Unit {0}
After (Some last) p = Before last p

-- the least path above the one that was given last
pub record IsNext (P : Path → Type 0) (last : Option Path) (p : Path) : Type 0 where
  pub is_path : P p
  pub above : After last p
  pub least : (q : Path) → P q → After last q → (q ≡ p) ⊎ Before p q

-- no path is above the one that was given last
abbrev pub IsPast : (Path → Type 0) → Option Path → Type 0
IsPast P last = (q : Path) → P q → After last q → ⊥

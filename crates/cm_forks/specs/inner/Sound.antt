-- What an enumeration keeps between two leaves.
use Rattle.std.specs.Prelude.{◌≡◌, ◌⊎◌, ◌≤◌, ◌*◌, ℕ, List, length, Option, None, IfSome}
use Rattle.std.specs.List.{AllByRecursion, Contains}
use Rattle.cm_forks.specs.declared.fault.Fault.{Fault}
use Rattle.cm_forks.specs.declared.limits.Limits.{Limits}
use Rattle.cm_forks.specs.Paths.{Path, Before, After}
use Rattle.cm_forks.specs.Counts.{AtLeast, IsOpen}
use Rattle.cm_forks.specs.Faults.{IsRight}
use Rattle.cm_forks.specs.inner.Stack.{Fork, Ready, Same, Remains, Falling}

-- a path is shown to be as paths are, and has no more decisions than so many
abbrev pub Fine : (Path → Type 0) → ℕ → Path → Type 0
Fine shown longest p = shown p × (length p ≤ longest)

-- so many paths were given, the last one first: each comes before all that is above the last, and no other path does
pub record Told (P F : Path → Type 0) (last : Option Path) (given : ℕ) : Type 0 where
  pub list : List Path
  pub many : length list ≡ given
  pub all : AllByRecursion P list
  pub fine : AllByRecursion F list
  pub falling : Falling list
  pub met : (q : Path) → P q → After last q ⊎ Contains list q
  pub behind : AllByRecursion (λ p. (q : Path) → P q → After last q → Before p q) list

-- what remains is what is above the last path
pub record Sane (P F : Path → Type 0) (hand : Option Path) (ks : List Fork) (last : Option Path) (given added most : ℕ)
    : Type 0 where
  pub ready : Ready P hand ks added
  pub left : Same P (After last) (Remains hand ks)
  pub told : Told P F last given
  pub few : given ≤ most
  pub small : added ≤ 65537 * given

-- without a fault it can go on, and a fault that it has is right
pub record Holds (P F : Path → Type 0) (cells : Type 0) (hand : Option Path) (ks : List Fork) (waiting : Type 0)
    (last : Option Path) (given added : ℕ) (limits : Limits) (fault : Option Fault) : Type 0 where
  pub sane : fault ≡ None → Sane P F hand ks last given added limits.paths
  pub waiting_nodes : fault ≡ None → waiting
  pub are_open : AtLeast (IsOpen P) added
  pub right : IfSome fault (IsRight P cells limits)

-- A stack of nodes seen as forks.
use Rattle.std.specs.Prelude.{◌≡◌, ◌<◌, ℕ, List, map, Option, option_map}
use Rattle.std.specs.Global.{Vec}
use Rattle.std.specs.List.{AllByRecursion}
use Rattle.cm_forks.specs.declared.fork.Pending.{Pending}
use Rattle.cm_forks.specs.Paths.{Path}
use Rattle.cm_forks.specs.inner.Stack.{Fork}

abbrev pub fork : Path → ℕ → ℕ → Fork
fork front mask from = record { front = front; mask = mask; from = from }

abbrev pub forks : {N : Type 0} → (N → Path) → List (Pending N) → List Fork
forks prefix ks = map (λ k. fork (prefix k.node) k.mask.0 k.from) ks

-- each of them is about the subject, and waits for an outcome from one on that a mask can have
abbrev pub AllWait : {N S : Type 0} → (N → Type 0) → (N → S) → S → List (Pending N) → Type 0
AllWait waits about subject ks = AllByRecursion (λ k. (about k.node ≡ subject) × waits k.node × (k.from < 64)) ks

-- the path in a vector
abbrev pub path_in : Option (Vec ℕ) → Option Path
path_in = option_map (λ v. v.items)

-- When each fault comes.
use Rattle.std.specs.Prelude.{ℕ, ◌<◌, List, [], length, get_or}
use Rattle.cm_model.specs.declared.pair.Over.TheVariants as over
use Rattle.cm_world.specs.Over.{AreDistinct}
use Rattle.cm_forks.specs.declared.fault.Fault.{Fault}
use Rattle.cm_forks.specs.declared.fault.Fault.TheVariants as fault
use Rattle.cm_forks.specs.declared.limits.Limits.{Limits}
use Rattle.cm_forks.specs.Paths.{Path}

-- more different paths than so many
pub record TooMany (P : Path → Type 0) (most : ℕ) : Type 0 where
  pub paths : List Path
  pub distinct : AreDistinct paths
  pub are : (i : ℕ) → i < length paths → P (get_or paths i [])
  pub many : most < length paths

-- a path of more decisions than so many
pub record TooLong (P : Path → Type 0) (most : ℕ) : Type 0 where
  pub path : Path
  pub is_path : P path
  pub long : most < length path

-- each part of the limits is passed only with its fact; memory may run out at any time
abbrev pub IsRightIf : Type 0 → Type 0 → Type 0 → Fault → Type 0
IsRightIf many long cells (fault.Over over.Paths) = many
IsRightIf many long cells (fault.Over over.Long) = long
IsRightIf many long cells (fault.Over over.Cells) = cells
IsRightIf many long cells fault.Memory = Unit {0}

-- the paths pass the limit that the fault names
abbrev pub IsRight : (Path → Type 0) → Type 0 → Limits → Fault → Type 0
IsRight P cells limits = IsRightIf (TooMany P limits.paths) (TooLong P limits.decisions) cells

-- a fault that is right of one path: a path is too long, or touches too many cells
abbrev pub IsRightBelow : (Path → Type 0) → Type 0 → ℕ → Fault → Type 0
IsRightBelow P cells longest = IsRightIf ⊥ (TooLong P longest) cells

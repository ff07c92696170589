-- An enumeration, to its callers.
use Rattle.std.specs.Prelude.{ℕ, Option}
use Rattle.cm_forks.specs.declared.fault.Fault.{Fault}
use Rattle.cm_forks.specs.declared.limits.Limits.{Limits}
use Rattle.cm_forks.specs.Paths.{Path}

-- whose paths they are, the path given last, how many were given, how many additions were made, and the fault
pub record Progress (Subject : Type 0) : Type 0 where
  pub subject : Subject
  pub last : Option Path
  pub given : ℕ
  pub added : ℕ
  pub limits : Limits
  pub fault : Option Fault

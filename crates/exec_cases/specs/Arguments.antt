-- Roots of arguments.
use Rattle.cm_term.specs.declared.symbol.Root.{Root}
use Rattle.cm_term.specs.declared.symbol.Root.TheVariants as root

-- a root that is no cell
abbrev pub IsArgument : Root → Type 0
IsArgument (root.A i) = Unit {0}
IsArgument (root.B i) = Unit {0}
IsArgument (root.Cell i) = ⊥

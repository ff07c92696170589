-- What is made for the arguments of a call.
use Rattle.std.specs.Prelude.{◌≡◌, ◌≤◌, ℕ}
use Rattle.cm_model.specs.Tables.{Tables}
use Rattle.cm_ctx.specs.declared.piece.Counts.{Counts}
use Rattle.cm_ctx.specs.declared.piece.Piece.{Piece}
use Rattle.std.specs.Prelude.{List}
use Rattle.cm_term.specs.declared.symbol.Root.{Root}
use Rattle.cm_term.specs.declared.symbol.Root.TheVariants as root
use Rattle.cm_beside.specs.Nodes.{pieces_from, types_of}
use Rattle.cm_ctx.specs.Asking.{IsNew}
use Rattle.cm_walk.specs.declared.arguments.Side.{Side}
use Rattle.cm_walk.specs.declared.arguments.Side.TheVariants as side

-- the symbol of a call's argument, by its number
abbrev pub root_of : Side → ℕ → Root
root_of side.A i = root.A i
root_of side.B i = root.B i

-- what is made for the arguments of a call, where there are so many variables
abbrev pub made_for : Tables → Side → ℕ → Counts → List Piece
made_for t s call c = pieces_from t (root_of s) 0 (types_of t call) c

-- no argument of this side from a number on was asked for
abbrev pub AreNewFrom : Side → ℕ → List Piece → Type 0
AreNewFrom s i pieces = (j : ℕ) → i ≤ j → IsNew pieces (root_of s j)

-- a symbol that is no argument of this side
abbrev pub IsOther : Side → Root → Type 0
IsOther s r = (j : ℕ) → root_of s j ≡ r → ⊥

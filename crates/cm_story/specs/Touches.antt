-- What is so of the cells that are touched.
use Rattle.std.specs.Prelude.{◌≡◌, List, [], ◌∷◌, slice_get, IsTrue}
use Rattle.cm_model.specs.Tables.{Tables}
use Rattle.cm_eval.specs.declared.log.CellName.{CellName}
use Rattle.cm_eval.specs.Invariant.{MeetsInvariant}
use Rattle.cm_world.specs.Order.{BothEnd, BothReplied, OneBlocked}
use Rattle.cm_world.specs.World.{IsCellOf, is_value_in}
use Rattle.cm_story.specs.Following.{Look}

-- the cell is none of these
abbrev pub Misses : CellName → List CellName → Type 0
Misses c [] = Unit {0}
Misses c (d ∷ ds) = (c ≡ d → ⊥) × Misses c ds

-- no two are one cell
abbrev pub Apart : List CellName → Type 0
Apart [] = Unit {0}
Apart (c ∷ cs) = Misses c cs × Apart cs

-- each is a cell of the model
abbrev pub AreCells : Tables → List CellName → Type 0
AreCells t [] = Unit {0}
AreCells t (c ∷ cs) = IsCellOf t c × AreCells t cs

-- each cell of the model has a value of its state's value type
abbrev pub IsLook : Tables → Look → Type 0
IsLook t o = (c : CellName) → IsCellOf t c → IsTrue (is_value_in t (slice_get t.states c.state) (o c))

-- the invariant of each is true of its first value
abbrev pub AllMeet : Tables → Look → List CellName → Type 0
AllMeet t o [] = Unit {0}
AllMeet t o (c ∷ cs) = MeetsInvariant t c.state (o c) × AllMeet t o cs

-- neither order is blocked
abbrev pub BothReply : BothEnd → Type 0
BothReply (BothReplied o touched log) = Unit {0}
BothReply (OneBlocked touched log) = ⊥

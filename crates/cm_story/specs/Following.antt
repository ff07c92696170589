-- What is met along a story, where each new cell has a given first value.
use Rattle.std.specs.Prelude.{ℕ, Bool, List, [], ◌∷◌, Option, Some, None}
use Rattle.cm_value.specs.declared.value.Value.{Value}
use Rattle.cm_eval.specs.declared.log.CellName.{CellName}
use Rattle.cm_eval.specs.State.{Store, look_up}
use Rattle.cm_story.specs.Tale.{Asks, Needs, Ends}
use Rattle.cm_story.specs.Story.{Story, filler}

-- the first value of each cell
abbrev pub Look : Type 0
Look = CellName → Value

-- the decisions
abbrev pub path_in : Look → Story → List ℕ
path_in o (Asks d k) = d ∷ path_in o (k d)
path_in o (Needs c k) = path_in o (k (o c))
path_in o (Ends b) = []

-- the cells that are touched, in the order of first touch
abbrev pub cells_in : Look → Story → List CellName
cells_in o (Asks d k) = cells_in o (k d)
cells_in o (Needs c k) = c ∷ cells_in o (k (o c))
cells_in o (Ends b) = []

-- what is known at the end: whether the world commutes
abbrev pub end_in : Look → Story → Bool
end_in o (Asks d k) = end_in o (k d)
end_in o (Needs c k) = end_in o (k (o c))
end_in o (Ends b) = b

abbrev pub or_filler : Option Value → Value
or_filler (Some v) = v
or_filler None = filler

-- the values of a state's cells
abbrev pub looks : Store → Look
looks s c = or_filler (look_up s c)

-- The cells of a story, and the places of a run on terms that are these.
use Rattle.std.specs.Prelude.{◌≡◌, List, [], ◌∷◌, slice_get, Some}
use Rattle.cm_model.specs.Tables.{Tables}
use Rattle.cm_model.specs.declared.body.StateDecl.{StateDecl}
use Rattle.cm_eval.specs.declared.log.CellName.{CellName}
use Rattle.cm_cells.specs.CellTable.{Place}
use Rattle.cm_relation.specs.Relation.{AreKeys}
use Rattle.cm_beside.specs.Grounds.{Grounds}
use Rattle.cm_beside.specs.Fits.{Fits}

module _ (t : Tables) (g : Grounds) where
  -- a place's cell
  abbrev pub IsPlace : CellName → Place → Type 0
  IsPlace c p = (c.state ≡ p.state) × (d : StateDecl) × (slice_get t.states p.state ≡ Some d)
      × AreKeys (Fits t g) d.key c.key p.key

  abbrev pub ArePlaces : List CellName → List Place → Type 0
  ArePlaces [] [] = Unit {0}
  ArePlaces (c ∷ cs) (p ∷ ps) = IsPlace c p × ArePlaces cs ps
  ArePlaces [] (p ∷ ps) = ⊥
  ArePlaces (c ∷ cs) [] = ⊥

-- When a case is right for a path.
use Rattle.std.specs.Prelude.{◌≡◌, ◌↔◌, ℕ, List, ◌∷◌, ◌++◌, map, Some, IsTrue}
use Rattle.std.specs.List.{list_all}
use Rattle.cm_model.specs.Tables.{Tables}
use Rattle.cm_model.specs.declared.pair.Pair.{Pair}
use Rattle.cm_term.specs.Symbols.{Roots}
use Rattle.cm_world.specs.declared.world.World.{World}
use Rattle.cm_world.specs.World.{IsWorldOf}
use Rattle.cm_world.specs.Order.{touched_cells}
use Rattle.cm_world.specs.Path.{path_of_world}
use Rattle.cm_world.specs.Commuting.{Commutes}
use Rattle.cm_cond.specs.declared.literal.Literal.{Literal}
use Rattle.cm_cond.specs.declared.report.Case.{Case}
use Rattle.cm_cond.specs.Values.{roots_on}
use Rattle.cm_cond.specs.Keys.{cells_on, initial_values}
use Rattle.cm_cond.specs.Holding.{literal_holds, CaseHolds}
use Rattle.cm_cond.specs.Form.{is_case}

module _ (t : Tables) (p : Pair) where
  -- a case's symbols on a world
  abbrev pub roots_of : Case → World → Roots
  roots_of c w = roots_on w (initial_values t w c.cells)

  -- some world makes the literals before it true, and this one not
  pub record IsFree (c : Case) (before : List Literal) (l : Literal) : Type 0 where
    pub world : World
    pub is_world : IsWorldOf t p world
    pub before_hold : IsTrue (list_all (literal_holds (roots_of c world)) before)
    pub is_not_so : IsTrue (literal_holds (roots_of c world) l) → ⊥

  -- some world commutes and has the path
  pub record CommutesOn (path : List ℕ) : Type 0 where
    pub world : World
    pub is_world : IsWorldOf t p world
    pub has_path : path_of_world t p world ≡ path
    pub commutes : Commutes t p world

  pub record IsRightCase (path : List ℕ) (c : Case) : Type 0 where
    -- it is spelled as reports are
    pub well_formed : IsTrue (is_case t p c)
    -- some world commutes and has the path
    pub some : CommutesOn path
    -- it holds of a world exactly where the world commutes and has the path
    pub holds : (w : World) → IsWorldOf t p w
        → CaseHolds t c w ↔ ((path_of_world t p w ≡ path) × Commutes t p w)
    -- on each world with the path its cells are the touched cells, one for one and in order
    pub cells : (w : World) → IsWorldOf t p w → path_of_world t p w ≡ path
        → cells_on t w c.cells ≡ map Some (touched_cells t p w)
    -- no literal follows from those before it
    pub free : (before : List Literal) (l : Literal) (after : List Literal) → c.literals ≡ before ++ l ∷ after
        → IsFree c before l

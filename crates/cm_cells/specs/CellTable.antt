-- The cells touched so far, and the terms that they hold.
use Rattle.std.specs.Prelude.{◌≡◌, ◌≤◌, ℕ, Bool, true, false, List, [], ◌∷◌, ◌++◌, length, slice_set, Option}
use Rattle.cm_model.specs.Limits.{cell_limit}
use Rattle.cm_term.specs.declared.term.Term.{Term}
use Rattle.cm_cells.specs.declared.order.Order.{Order}
use Rattle.cm_cells.specs.declared.order.Order.TheVariants as order

-- a state, and a key where the state is a map
pub record Place : Type 0 where
  pub state : ℕ
  pub key : Option Term

abbrev pub place : ℕ → Option Term → Place
place s k = record { state = s; key = k }

-- in the order of first touch
pub record CellTable : Type 0 where
  pub places : List Place
  -- before either order wrote it
  pub initial : List Term
  -- in each of the two orders
  pub ab : List Term
  pub ba : List Term
  -- whether it was written in either order
  pub written : List Bool

abbrev pub no_cells : CellTable
no_cells = record { places = []; initial = []; ab = []; ba = []; written = [] }

-- with one cell more, which comes last
abbrev pub with_cell : CellTable → Place → Term → CellTable
with_cell c p t = record {
  places = c.places ++ p ∷ [];
  initial = c.initial ++ t ∷ [];
  ab = c.ab ++ t ∷ [];
  ba = c.ba ++ t ∷ [];
  written = c.written ++ false ∷ [];
}

abbrev pub terms_in : Order → CellTable → List Term
terms_in order.Ab c = c.ab
terms_in order.Ba c = c.ba

abbrev pub with_terms : Order → List Term → CellTable → CellTable
with_terms order.Ab ts c = record c { ab = ts }
with_terms order.Ba ts c = record c { ba = ts }

-- a cell is written in an order
abbrev pub with_term : Order → ℕ → Term → CellTable → CellTable
with_term o i t c = with_terms o (slice_set (terms_in o c) i t) (record c { written = slice_set c.written i true })

-- an order begins anew, each cell with its initial term; what was written stays marked
abbrev pub started_anew : Order → CellTable → CellTable
started_anew o c = with_terms o c.initial c

-- each list has an item for each cell
pub record IsTable (c : CellTable) : Type 0 where
  pub few : length c.places ≤ cell_limit
  pub initial : length c.initial ≡ length c.places
  pub ab : length c.ab ≡ length c.places
  pub ba : length c.ba ≡ length c.places
  pub written : length c.written ≡ length c.places

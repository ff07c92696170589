-- A world and its twin, which has other names for the elements of the first, and what the two have in common.
use Rattle.std.specs.Prelude.{◌≡◌, ◌↔◌, ℕ, List, [], ◌∷◌, map, slice_get, Option, Some, None, option_map}
use Rattle.cm_model.specs.Tables.{Tables}
use Rattle.cm_model.specs.declared.body.Call.{Call}
use Rattle.cm_model.specs.declared.pair.Pair.{Pair}
use Rattle.cm_value.specs.declared.value.Swap.{Swap}
use Rattle.cm_value.specs.declared.value.Value.{Value}
use Rattle.cm_value.specs.Relabelling.{each_relabelled}
use Rattle.cm_eval.specs.declared.log.CellName.{CellName}
use Rattle.cm_eval.specs.declared.state.Except.{Except}
use Rattle.cm_eval.specs.State.{Store, store, look_up}
use Rattle.cm_world.specs.declared.world.World.{World}
use Rattle.cm_world.specs.Order.{touched_cells}
use Rattle.cm_world.specs.Path.{path_of_world}
use Rattle.cm_world.specs.Commuting.{Commutes}
use Rattle.cm_relation.specs.Relation.{IfBoth, AreAll}
use Rattle.cm_twin.specs.Names.{Naming, Names, named, AreTwins, cell_named, value_type, exchange}

-- arguments that are twins, by the types of the call's parameters
abbrev pub AreTwinArguments : Tables → Names → Option Call → List Value → List Value → Type 0
AreTwinArguments t names (Some d) vs ws =
    AreAll (λ u v w. AreTwins t names (Some u) v w) (map (λ p. p.ty) d.params) vs ws
AreTwinArguments t names None vs ws = ⊥

-- what the first state holds in these cells is under the new names what the second holds in the cells under these
abbrev pub AreTwinsAt : Tables → Names → Store → Store → List CellName → Type 0
AreTwinsAt t names s u [] = Unit {0}
AreTwinsAt t names s u (c ∷ cs) =
    IfBoth (AreTwins t names (value_type t c.state)) (look_up s c) (look_up u (cell_named t names.there c))
    × AreTwinsAt t names s u cs

-- the second world is the first under new names, as far as the first one touches its state
pub record IsTwin (t : Tables) (p : Pair) (names : Names) (w u : World) : Type 0 where
  pub a : AreTwinArguments t names (slice_get t.calls p.a) w.a.vals u.a.vals
  pub b : AreTwinArguments t names (slice_get t.calls p.b) w.b.vals u.b.vals
  pub cells : AreTwinsAt t names w.init u.init (touched_cells t p w)

-- both decide the same, touch the same cells under the new names, and both commute or neither does
pub record DoAlike (t : Tables) (p : Pair) (names : Names) (w u : World) : Type 0 where
  pub path : path_of_world t p w ≡ path_of_world t p u
  pub touches : touched_cells t p u ≡ map (cell_named t names.there) (touched_cells t p w)
  pub commutes : Commutes t p w ↔ Commutes t p u

-- other names everywhere: in defaults, keys and values of a state
abbrev pub except_named : Tables → Naming → Except → Except
except_named t f e = record { cell = cell_named t f e.cell; value = named t f e.value (value_type t e.cell.state) }

abbrev pub state_named : Tables → Naming → Store → Store
state_named t f s =
    store (each_relabelled (map (named t f) s.defaults) (map (λ d. d.value) t.states))
    (map (except_named t f) s.exceptions)

abbrev pub arguments_named : Tables → Naming → Option Call → List Value → List Value
arguments_named t f (Some d) vs = each_relabelled (map (named t f) vs) (map (λ p. p.ty) d.params)
arguments_named t f None vs = vs

-- the second world is the first with other names everywhere
pub record IsRenamed (t : Tables) (p : Pair) (f : Naming) (w u : World) : Type 0 where
  pub init : u.init ≡ state_named t f w.init
  pub a : u.a.vals ≡ arguments_named t f (slice_get t.calls p.a) w.a.vals
  pub b : u.b.vals ≡ arguments_named t f (slice_get t.calls p.b) w.b.vals

-- the second world is the first with two elements of a sort exchanged everywhere
abbrev pub IsRelabelled : Tables → Pair → Swap → World → World → Type 0
IsRelabelled t p by = IsRenamed t p (exchange by)

-- it is there
abbrev pub world_named : Tables → Pair → Naming → World → World
world_named t p f w = record {
  init = state_named t f w.init;
  a = record { vals = arguments_named t f (slice_get t.calls p.a) w.a.vals };
  b = record { vals = arguments_named t f (slice_get t.calls p.b) w.b.vals };
}

abbrev pub world_relabelled : Tables → Pair → Swap → World → World
world_relabelled t p by = world_named t p (exchange by)

-- under its new name each cell holds in the second state what it holds in the first, under new names
abbrev pub LooksNamed : Tables → Naming → Store → Store → Type 0
LooksNamed t f s u = (c : CellName)
    → look_up u (cell_named t f c) ≡ option_map (λ v. named t f v (value_type t c.state)) (look_up s c)

-- the old names are those of the new ones, for every element
abbrev pub Undoes : Names → Type 0
Undoes names = (s n : ℕ) → names.back s (names.there s n) ≡ n

-- The shape and the signature of a world.
use Rattle.std.specs.Prelude.{ℕ, ◌+◌, ◌==◌, ℤ, pos, Bool, false, ◌||◌, List, [], ◌∷◌, ◌++◌, map, slice_get, Option}
use Rattle.std.specs.Prelude.{Some, None, if◌then◌else◌}
use Rattle.cm_model.specs.Tables.{Tables}
use Rattle.cm_model.specs.declared.ty.Ty.{Ty, out-Ty}
use Rattle.cm_model.specs.declared.ty.Ty.TheOpen.{Ty-F}
use Rattle.cm_model.specs.declared.ty.RecDecl.{RecDecl}
use Rattle.cm_model.specs.declared.body.Call.{Call}
use Rattle.cm_model.specs.declared.body.StateDecl.{StateDecl}
use Rattle.cm_model.specs.declared.pair.Pair.{Pair}
use Rattle.cm_value.specs.declared.value.Value.{Value}
use Rattle.cm_value.specs.declared.value.Value.TheOpen.{Value-F}
use Rattle.cm_value.specs.declared.value.Value.TheFolds.{fold-Value}
use Rattle.cm_value.specs.Membership.{field_types}
use Rattle.cm_eval.specs.declared.log.CellName.{CellName}
use Rattle.cm_eval.specs.State.{Store, look_up}
use Rattle.cm_world.specs.declared.world.World.{World}
use Rattle.cm_world.specs.Order.{touched_cells}
use Rattle.cm_world.specs.Path.{path_of_world}

-- what a value is made of, from left to right
pub data Mark : Type 0 where
  -- of a sort, the element with this number
  Element : ℕ → ℕ → Mark
  -- 0 none, 1 some
  Presence : ℕ → Mark
  -- a number of an integer type or of a variant
  Number : ℤ → Mark

-- what a value of this type is made of
abbrev pub Marked : Type 0
Marked = Ty → List Mark

abbrev pub element_of : Ty-F Ty → ℕ → List Mark
element_of (Ty-F.Sort s) n = Element s n ∷ []
element_of _ n = []

abbrev pub fields_marked : List Marked → List Ty → List Mark
fields_marked [] types = []
fields_marked (m ∷ ms) [] = []
fields_marked (m ∷ ms) (ty ∷ types) = m ty ++ fields_marked ms types

abbrev pub record_marked : Option RecDecl → List Marked → List Mark
record_marked (Some d) ms = fields_marked ms (field_types d)
record_marked None ms = []

abbrev pub fields_of : Tables → Ty-F Ty → List Marked → List Mark
fields_of t (Ty-F.Rec r) ms = record_marked (slice_get t.records r) ms
fields_of t _ ms = []

abbrev pub payload_of : Ty-F Ty → Marked → List Mark
payload_of (Ty-F.Option payload) m = m payload
payload_of _ m = []

abbrev pub mark_step : Tables → Value-F Marked → Marked
mark_step t (Value-F.Elem n) ty = element_of (out-Ty ty) n
mark_step t (Value-F.Int n) ty = Number n ∷ []
mark_step t (Value-F.Tag n) ty = Number (pos n) ∷ []
mark_step t (Value-F.Rec ms) ty = fields_of t (out-Ty ty) ms
mark_step t Value-F.None ty = Presence 0 ∷ []
mark_step t (Value-F.Some m) ty = Presence 1 ∷ payload_of (out-Ty ty) m

abbrev pub marks_of : Tables → Value → Marked
marks_of t = fold-Value Marked (mark_step t)

abbrev pub arguments_marked : Tables → Option Call → List Value → List Mark
arguments_marked t (Some d) vs = fields_marked (map (marks_of t) vs) (map (λ p. p.ty) d.params)
arguments_marked t None vs = []

abbrev pub cell_marked : Tables → Option StateDecl → Option Value → List Mark
cell_marked t (Some d) (Some v) = marks_of t v d.value
cell_marked t (Some d) None = []
cell_marked t None v = []

abbrev pub cells_marked : Tables → Store → List CellName → List Mark
cells_marked t s [] = []
cells_marked t s (c ∷ cs) = cell_marked t (slice_get t.states c.state) (look_up s c) ++ cells_marked t s cs

-- over the arguments of a, those of b, and the initial values of the touched cells in the order of first touch
abbrev pub marks_of_world : Tables → Pair → World → List Mark
marks_of_world t p w =
    arguments_marked t (slice_get t.calls p.a) w.a.vals
    ++ (arguments_marked t (slice_get t.calls p.b) w.b.vals ++ cells_marked t w.init (touched_cells t p w))

-- the elements of a sort that appeared, in order and once each
abbrev pub appeared : ℕ → List Mark → List ℕ
appeared sort [] = []
appeared sort (Element s n ∷ ms) = if s == sort then n ∷ appeared sort ms else appeared sort ms
appeared sort (Presence d ∷ ms) = appeared sort ms
appeared sort (Number n ∷ ms) = appeared sort ms

abbrev pub is_among : ℕ → List ℕ → Bool
is_among n [] = false
is_among n (m ∷ ms) = (m == n) || is_among n ms

-- how many of these come before n, or all of them where it is not among them
abbrev pub place_of : ℕ → List ℕ → ℕ
place_of n [] = 0
place_of n (m ∷ ms) = if m == n then 0 else 1 + place_of n ms

-- with an element that appeared for the first time
abbrev pub seen_with : ℕ → ℕ → List Mark → List Mark
seen_with s n seen = if is_among n (appeared s seen) then seen else seen ++ Element s n ∷ []

-- an element gives its number of first appearance within its sort, an option whether it is there
abbrev pub numbers_from : List Mark → List Mark → List ℕ
numbers_from seen [] = []
numbers_from seen (Element s n ∷ ms) = place_of n (appeared s seen) ∷ numbers_from (seen_with s n seen) ms
numbers_from seen (Presence d ∷ ms) = d ∷ numbers_from seen ms
numbers_from seen (Number n ∷ ms) = numbers_from seen ms

abbrev pub shape_in : List Mark → List ℕ
shape_in = numbers_from []

abbrev pub shape_of : Tables → Pair → World → List ℕ
shape_of t p w = shape_in (marks_of_world t p w)

pub record Signature : Type 0 where
  pub path : List ℕ
  pub shape : List ℕ

abbrev pub signature_of : Tables → Pair → World → Signature
signature_of t p w = record { path = path_of_world t p w; shape = shape_of t p w }

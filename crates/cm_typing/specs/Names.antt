-- A table of names in order, each with what it stands for.
use Rattle.std.specs.Prelude.{ℕ, ◌&&◌, Bool, true, false, not, List, [], ◌∷◌, ◌++◌, codes, Option, Some, None}
use Rattle.std.specs.Str.{bytes_eq}
use Rattle.std.specs.List.{list_any}
use Rattle.std.specs.Map.{lookup}
use Rattle.cm_model.specs.declared.place.Place.{Place}
use Rattle.cm_typing.specs.declared.names.Entry.{Entry}
use Rattle.cm_typing.specs.declared.names.Entry.TheVariants as entry
use Rattle.cm_typing.specs.Told.{Told, fine, refused, rule}
use Rattle.cm_typing.specs.Rules as rules

abbrev pub Names : Type 0
Names = List (List ℕ × Entry)

-- what a name stands for
unfoldable pub look : List ℕ → Names → Option Entry
look n names = lookup (bytes_eq n) names

-- whether a name is in a table
unfoldable pub is_taken : List ℕ → Names → Bool
is_taken n names = list_any (λ e. bytes_eq n e.0) names

-- a table with one more name
abbrev pub more : Names → List ℕ → Entry → Names
more names n e = names ++ (n, e) ∷ []

-- the one local of an invariant, a word that is no name
abbrev pub it_name : List ℕ
it_name = codes "it"

-- the locals are those of an invariant
abbrev pub in_invariant : Names → Bool
in_invariant locals = is_taken it_name locals

abbrev pub is_state : Entry → Bool
is_state (entry.Cell s t) = true
is_state (entry.Map s k t) = true
is_state _ = false

-- a declared name, where a use is barred or not
abbrev pub allowed : Place → Bool → Entry → Told (Option Entry)
allowed at true e = refused None rules.invariant at
allowed at false e = fine (Some e)

-- What a name stands for, from what it is among the locals and among the declared names. Of a state's name in an
-- invariant nothing more is asked.
abbrev pub found : Place → Bool → Option Entry → Option Entry → Told (Option Entry)
found at inside (Some e) d = fine (Some e)
found at inside None None = refused None rules.unknown at
found at inside None (Some e) = allowed at (inside && is_state e) e

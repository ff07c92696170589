-- The rule on least values: that of a cell's type satisfies the cell's invariant. It is asked of a tree in which no
-- other rule fails.
use Rattle.std.specs.Prelude.{◌≡◌, ℕ, ◌+◌, Bool, true, List, [], ◌∷◌, ◌++◌, slice_get, Option, Some, None, Result, Ok}
use Rattle.std.specs.Prelude.{Err}
use Rattle.cm_model.specs.Tables.{Tables}
use Rattle.cm_model.specs.declared.place.Place.{Place}
use Rattle.cm_model.specs.declared.body.StateDecl.{StateDecl}
use Rattle.cm_value.specs.Least.{least_of}
use Rattle.cm_eval.specs.Invariant.{invariant_holds, MeetsInvariant}
use Rattle.cm_syntax.specs.declared.tree.Decl.{Decl}
use Rattle.cm_syntax.specs.declared.tree.Decl.TheVariants as decl
use Rattle.cm_syntax.specs.declared.tree.Tree.{Tree}
use Rattle.cm_typing.specs.declared.fault.TypeFault.{TypeFault}
use Rattle.cm_typing.specs.declared.fault.TypeFault.TheVariants.{Rule, Memory}
use Rattle.cm_typing.specs.Told.{Told, Broken, fine, given, rule, first}
use Rattle.cm_typing.specs.Declarations.{tables_of, faults_of}
use Rattle.cm_typing.specs.Rules as rules

abbrev pub declared_meets : Tables → Option StateDecl → Bool
declared_meets t (Some d) = invariant_holds t.ints d.inv (least_of t d.value)
declared_meets t None = true

-- whether the least value of a state's cells satisfies their invariant
abbrev pub meets_least : Tables → ℕ → Bool
meets_least t n = declared_meets t (slice_get t.states n)

-- the places of states, with that of a declaration where it is a state's
abbrev pub with_state : List Place → Decl → List Place
with_state places (decl.Cell at n v) = places ++ at ∷ []
with_state places (decl.CellWhere at n v e) = places ++ at ∷ []
with_state places (decl.Map at n k v) = places ++ at ∷ []
with_state places (decl.MapWhere at n k v e) = places ++ at ∷ []
with_state places _ = places

abbrev pub with_states : List Place → List Decl → List Place
with_states places [] = places
with_states places (x ∷ xs) = with_states (with_state places x) xs

-- where the states of a tree are declared, in order
abbrev pub state_places : Tree → List Place
state_places tree = with_states [] (tree.first ∷ tree.more)

-- the rule, asked of the states from a number on
abbrev pub least_told : Tables → ℕ → List Place → Told (Unit {0})
least_told t n [] = fine tt
least_told t n (at ∷ places) = given (rule (meets_least t n) rules.least at) (λ u. least_told t (n + 1) places)

abbrev pub or_least : Tree → List Broken → List Broken
or_least tree [] = (least_told (tables_of tree) 0 (state_places tree)).1
or_least tree (b ∷ bs) = b ∷ bs

-- ALL RULES THAT FAIL IN A TREE.
abbrev pub all_faults_of : Tree → List Broken
all_faults_of tree = or_least tree (faults_of tree)

-- the model of a tree in which the rules of its walk do not fail, and else the first that does
abbrev pub IsWalked : Tree → Result Tables TypeFault → Type 0
IsWalked tree (Ok t) = (faults_of tree ≡ []) × (t ≡ tables_of tree)
IsWalked tree (Err (Rule code at)) = first (faults_of tree) ≡ Some (record { code = code; place = at })
IsWalked tree (Err Memory) = Unit {0}

-- THE ANSWER OF A CHECK TO A MODEL: the model of the tree's tables where no rule fails, and else the first that does;
-- want of memory aside.
abbrev pub IsModelOf : Tree → Result Tables TypeFault → Type 0
IsModelOf tree (Ok t) = (all_faults_of tree ≡ []) × (t ≡ tables_of tree)
IsModelOf tree (Err (Rule code at)) = first (all_faults_of tree) ≡ Some (record { code = code; place = at })
IsModelOf tree (Err Memory) = Unit {0}

-- the least value of each state's cells satisfies their invariant
abbrev pub LeastMeet : Tables → Type 0
LeastMeet t = (n : ℕ) (d : StateDecl) → slice_get t.states n ≡ Some d → MeetsInvariant t n (least_of t d.value)

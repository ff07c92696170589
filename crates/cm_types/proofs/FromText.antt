-- What the text of a tree gives beyond the type rules: names that are names, and few shifts one inside another.
use Rattle.std.proofs.Common.{◌≡◌, ℕ, leb, true, List, [], ◌∷◌, ◌++◌}
use Rattle.std.specs.List.{list_all}
use Rattle.cm_model.specs.Limits.{shift_limit}
use Rattle.cm_model.specs.Names.{is_name}
use Rattle.cm_model.specs.Weights.{shifts_of, body_shifts}
use Rattle.cm_syntax.specs.declared.tree.Expr.{Expr}
use Rattle.cm_syntax.specs.declared.tree.Block.{Block}
use Rattle.cm_syntax.specs.declared.tree.Decl.{Decl}
use Rattle.cm_syntax.specs.declared.tree.Decl.TheVariants as decl
use Rattle.cm_typing.specs.declared.scope.Scope.{Scope}
use Rattle.cm_typing.specs.Names.{Names}
use Rattle.cm_typing.specs.Expressions.{expr_told}
use Rattle.cm_typing.specs.Statements.{of_block}
use Rattle.cm_types.proofs.TypedRoutines.{names_in}

-- the names that a declaration has, but those of its locals
abbrev pub names_of : Decl → List (List ℕ)
names_of (decl.Sort at n) = n ∷ []
names_of (decl.Int at n low high) = n ∷ []
names_of (decl.Enum at n v vs) = n ∷ v ∷ vs
names_of (decl.Record at n p ps) = n ∷ names_in (p ∷ ps)
names_of (decl.Cell at n v) = n ∷ []
names_of (decl.CellWhere at n v e) = n ∷ []
names_of (decl.Map at n k v) = n ∷ []
names_of (decl.MapWhere at n k v e) = n ∷ []
names_of (decl.Function at n ps r b) = n ∷ names_in ps
names_of (decl.Call at n ps qs r b) = n ∷ (names_in ps ++ names_in qs)

abbrev pub IsShallowExpr : Expr → Type 0
IsShallowExpr e = (s : Scope) (l : Names) → leb (shifts_of (expr_told e s l).0.expr) shift_limit ≡ true

abbrev pub IsShallowBlock : Block → Type 0
IsShallowBlock b = (s : Scope) (l : Names) → leb (body_shifts ((of_block s b).told l).0.steps) shift_limit ≡ true

abbrev pub IsShallow : Decl → Type 0
IsShallow (decl.Sort at n) = Unit {0}
IsShallow (decl.Int at n low high) = Unit {0}
IsShallow (decl.Enum at n v vs) = Unit {0}
IsShallow (decl.Record at n p ps) = Unit {0}
IsShallow (decl.Cell at n v) = Unit {0}
IsShallow (decl.CellWhere at n v e) = IsShallowExpr e
IsShallow (decl.Map at n k v) = Unit {0}
IsShallow (decl.MapWhere at n k v e) = IsShallowExpr e
IsShallow (decl.Function at n ps r b) = IsShallowBlock b
IsShallow (decl.Call at n ps qs r b) = IsShallowBlock b

pub record FromText (x : Decl) : Type 0 where
  pub names : list_all is_name (names_of x) ≡ true
  pub shallow : IsShallow x

-- When statements are well typed, and when a block always returns.
use Rattle.std.specs.Prelude.{ℕ, Bool, true, false, not, ◌&&◌, if◌then◌else◌, List, [], ◌∷◌, ◌++◌, map, slice_get}
use Rattle.std.specs.Prelude.{Option, Some, None, is_some}
use Rattle.cm_model.specs.Types.{same_ty}
use Rattle.cm_model.specs.Kinds.{Kind, Scope, scope, given, if_so, is_of, is_bool, is_key, type_of, payload_of, kind_of}
use Rattle.cm_model.specs.declared.ty.Ty.{Ty}
use Rattle.cm_model.specs.declared.body.Expr.{Expr}
use Rattle.cm_model.specs.declared.body.Stmt.{Stmt}
use Rattle.cm_model.specs.declared.body.Stmt.TheOpen.{Stmt-F}
use Rattle.cm_model.specs.declared.body.Stmt.TheFolds.{fold-Stmt}
use Rattle.cm_model.specs.Tables.{Tables}

-- the types of the locals after a statement, from those before it; none where it is not well typed
abbrev pub Typing : Type 0
Typing = List Ty → Option (List Ty)

abbrev pub block_typing : List Typing → Typing
block_typing [] locals = Some locals
block_typing (m ∷ ms) locals = given (m locals) (block_typing ms)

abbrev pub key_kind : Scope → Option Expr → Option (Option Kind)
key_kind s None = None
key_kind s (Some e) = Some (kind_of s e)

abbrev pub stmt_step : Tables → ℕ → Ty → Stmt-F Typing → Typing
stmt_step t funs reply (Stmt-F.Let e) locals =
    let s = scope t funs locals in given (type_of (kind_of s e)) (λ u. Some (locals ++ u ∷ []))
stmt_step t funs reply (Stmt-F.Set state key e) locals =
    let s = scope t funs locals in given (slice_get t.states state) (λ d. if_so (is_key d.key (key_kind s key)
    && is_of d.value (kind_of s e)) locals)
stmt_step t funs reply (Stmt-F.If c left right) locals =
    let s = scope t funs locals in if_so (is_bool (kind_of s c) && (is_some (block_typing left locals)
    && is_some (block_typing right locals))) locals
stmt_step t funs reply (Stmt-F.Case e left right) locals =
    let s = scope t funs locals in given (type_of (kind_of s e)) (λ o. given (payload_of o) (λ u.
    if_so (is_some (block_typing left locals) && is_some (block_typing right (locals ++ u ∷ []))) locals))
stmt_step t funs reply (Stmt-F.Assume c) locals =
    let s = scope t funs locals in if_so (is_bool (kind_of s c)) locals
stmt_step t funs reply (Stmt-F.Return e) locals =
    let s = scope t funs locals in if_so (is_of reply (kind_of s e)) locals

-- a statement over the first functions, in a body with this reply
abbrev pub typing_of : Tables → ℕ → Ty → Stmt → Typing
typing_of t funs reply = fold-Stmt Typing (stmt_step t funs reply)

abbrev pub is_body : Tables → ℕ → Ty → List Ty → List Stmt → Bool
is_body t funs reply params body = is_some (block_typing (map (typing_of t funs reply) body) params)

-- whether a statement always returns, and whether in its blocks nothing stands after one that does
abbrev pub Ending : Type 0
Ending = Bool × Bool

abbrev pub returns : List Ending → Bool
returns [] = false
returns (e ∷ []) = e.0
returns (e ∷ f ∷ es) = returns (f ∷ es)

abbrev pub is_in_order : List Ending → Bool
is_in_order [] = true
is_in_order (e ∷ []) = e.1
is_in_order (e ∷ f ∷ es) = not e.0 && (e.1 && is_in_order (f ∷ es))

abbrev pub ending_step : Stmt-F Ending → Ending
ending_step (Stmt-F.Let e) = (false, true)
ending_step (Stmt-F.Set state key e) = (false, true)
ending_step (Stmt-F.If c left right) = (returns left && returns right, is_in_order left && is_in_order right)
ending_step (Stmt-F.Case e left right) = (returns left && returns right, is_in_order left && is_in_order right)
ending_step (Stmt-F.Assume c) = (false, true)
ending_step (Stmt-F.Return e) = (true, true)

abbrev pub endings_of : List Stmt → List Ending
endings_of body = map (fold-Stmt Ending ending_step) body

-- a body always returns, and nothing in it stands after a statement that does
abbrev pub always_returns : List Stmt → Bool
always_returns body = returns (endings_of body) && is_in_order (endings_of body)

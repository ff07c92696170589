-- The tables of the deepest functions are well typed.
use Rattle.std.proofs.Common.{◌≡◌, ℕ, zero, suc, ◌+◌, ◌*◌, ◌<◌, ◌≤◌, leb, true, List, [], ◌∷◌, ◌++◌, Option, Some}
use Rattle.std.proofs.Common.{is_some, sym, refl, ap, ◌∙◌, subst, le-leb, lt-ltb, zero-add, codes, arith}
use Rattle.std.specs.Cmp.Derive.{both_true}
use Rattle.cm_model.specs.Tables.{Tables}
use Rattle.cm_model.specs.Types.{same_ty, same_step, is_type_in_use, or_else}
use Rattle.cm_model.specs.Kinds.{Of, Scope, scope, given, if_so, is_of, bool_ty, kind_step, set_step, kind_of}
use Rattle.cm_model.specs.Blocks.{block_typing, stmt_step, is_body, always_returns}
use Rattle.cm_model.specs.Weights.{expr_weight, expr_weight_step, stmt_weight_step, body_weight, weights_from}
use Rattle.cm_model.specs.Weights.{fun_weights, greatest, shifts_of, shifts_step, stmt_shifts_step, body_shifts}
use Rattle.cm_model.specs.WellTyped.{IsWellTyped, is_call, is_fun}
use Rattle.cm_model.specs.declared.ty.Ty.TheOpen.{Ty-F}
use Rattle.cm_model.specs.declared.body.Expr.{Expr}
use Rattle.cm_model.specs.declared.body.Expr.TheOpen.{Expr-F}
use Rattle.cm_model.specs.declared.body.Stmt.TheVariants as stmt
use Rattle.cm_model.specs.declared.body.Call.{Call}
use Rattle.cm_value.proofs.Types.{out_enum, fold-enum}
use Rattle.cm_samples.specs.Parts.{bool, routine}
use Rattle.cm_samples.specs.Depth.{negations, firsts, fun_name, innermost, deep_fun, run_call, deepest_tables}
use Rattle.cm_samples.proofs.Forms.{fold-tag, fold-not, fold-apply, fold-return, return-at, same-enum}
use Rattle.cm_samples.proofs.Firsts.{length-firsts, firsts_at, each_first}

same_bool : same_ty bool_ty bool_ty ≡ true
same_bool = same-enum 0 bool_ty ∙ ap (same_step (Ty-F.Enum 0)) (out_enum 0)

-- negations of a bool are a bool
negations_kind : (s : Scope) (n : ℕ) (e : Expr) → kind_of s e ≡ Some (Of bool_ty)
    → kind_of s (negations n e) ≡ Some (Of bool_ty)
unfolding negations
negations_kind s zero e is = is
negations_kind s (suc n) e is =
    fold-not (kind_step s) set_step (negations n e) ∙ ap (λ k. kind_step s (Expr-F.Not k)) (negations_kind s n e is)
    ∙ ap (λ b. if_so b (Of bool_ty)) same_bool

-- each of them is one node more
negations_weight : (funs : List ℕ) (n : ℕ) (e : Expr) → expr_weight funs (negations n e) ≡ n + expr_weight funs e
unfolding negations
negations_weight funs zero e = sym (zero-add (expr_weight funs e))
negations_weight funs (suc n) e =
    let one = fold-not (expr_weight_step funs) (λ x. x.value) (negations n e) in
    let rest = negations_weight funs n e in
    omega (arith, one, rest)

-- and no shift
negations_shifts : (n : ℕ) (e : Expr) → shifts_of (negations n e) ≡ shifts_of e
unfolding negations
negations_shifts zero e = refl
negations_shifts (suc n) e = fold-not shifts_step (λ x. x.value) (negations n e) ∙ negations_shifts n e

innermost_shifts : (n : ℕ) → shifts_of (innermost n) ≡ 0
innermost_shifts zero = fold-tag shifts_step (λ x. x.value) 0 1
innermost_shifts (suc n) = fold-apply shifts_step (λ x. x.value) n []

-- what function n weighs
abbrev weight : ℕ → ℕ
weight n = 64 * suc n

innermost_weight : (m n : ℕ) → n ≤ m → expr_weight (firsts weight m) (innermost n) ≡ 1 + 64 * n
innermost_weight m zero le = fold-tag (expr_weight_step (firsts weight m)) (λ x. x.value) 0 1
innermost_weight m (suc n) le =
    fold-apply (expr_weight_step (firsts weight m)) (λ x. x.value) n [] ∙ ap (λ w. 1 + or_else 0 w)
    (firsts_at weight m n (omega (arith, le)))

return_weight : (funs : List ℕ) (e : Expr) → body_weight funs (stmt.Return e ∷ []) ≡ 1 + expr_weight funs e
return_weight funs e =
    let one = fold-return (stmt_weight_step funs) e in
    omega (arith, one)

fun_weight : (m n : ℕ) → n ≤ m → body_weight (firsts weight m) (deep_fun n).body ≡ weight n
fun_weight m n le =
    let whole = return_weight (firsts weight m) (negations 62 (innermost n)) in
    let around = negations_weight (firsts weight m) 62 (innermost n) in
    let inside = innermost_weight m n le in
    omega (arith, whole, around, inside)

weights_end : (before : List ℕ) (funs : List Call) (f : Call)
    → weights_from before (funs ++ f ∷ []) ≡ weights_from before funs ++ body_weight (weights_from before funs) f.body
    ∷ []
weights_end before [] f = refl
weights_end before (g ∷ funs) f = weights_end (before ++ body_weight before g.body ∷ []) funs f

weights_are : (n : ℕ) → fun_weights (firsts deep_fun n) ≡ firsts weight n
unfolding firsts
weights_are zero = refl
weights_are (suc n) =
    weights_end [] (firsts deep_fun n) (deep_fun n)
    ∙ ap (λ (ws : List ℕ). ws ++ body_weight ws (deep_fun n).body ∷ []) (weights_are n)
    ∙ ap (λ (w : ℕ). firsts weight n ++ w ∷ []) (fun_weight n n (omega arith))

-- a routine that returns a bool
module _ (t : Tables) (n : ℕ) (name : List ℕ) (e : Expr) where
  return_typed : kind_of (scope t n []) e ≡ Some (Of bool_ty) → is_body t n bool [] (stmt.Return e ∷ []) ≡ true
  return_typed is =
      ap (λ (m : Option (List _)). is_some (given m (block_typing []))) (return-at (stmt_step t n bool) e [])
      ∙ ap (λ k. is_some (given (if_so (is_of bool k) []) (block_typing []))) is
      ∙ ap (λ b. is_some (given (if_so b []) (block_typing []))) same_bool

  return_returns : always_returns (stmt.Return e ∷ []) ≡ true
  return_returns = simp (fold-return)

  return_shifts : shifts_of e ≡ 0 → leb (body_shifts (stmt.Return e ∷ [])) 65 ≡ true
  return_shifts is = ap (λ k. leb (greatest (k ∷ [])) 65) (fold-return stmt_shifts_step e ∙ is)

  routine_typed : is_type_in_use t bool ≡ true → kind_of (scope t n []) e ≡ Some (Of bool_ty)
      → body_weight (fun_weights t.funs) (stmt.Return e ∷ []) ≤ 100000 → shifts_of e ≡ 0
      → is_call t n (routine name [] 0 bool (stmt.Return e ∷ [])) ≡ true
  routine_typed used kind light shifts =
      rw (used, return_typed kind, return_returns, le-leb _ _ light, return_shifts shifts) refl

bool_used : is_type_in_use deepest_tables bool ≡ true
unfolding deepest_tables
bool_used = simp (fold-enum)

innermost_kind : (n : ℕ) → n ≤ 64 → kind_of (scope deepest_tables n []) (innermost n) ≡ Some (Of bool_ty)
unfolding deepest_tables
innermost_kind zero le = fold-tag (kind_step (scope deepest_tables zero [])) set_step 0 1
innermost_kind (suc n) le =
    fold-apply (kind_step (scope deepest_tables (suc n) [])) set_step n []
    ∙ rw (lt-ltb n (suc n) (omega arith), firsts_at deep_fun 64 n (omega (arith, le))) refl

all_weights : fun_weights deepest_tables.funs ≡ firsts weight 64
unfolding deepest_tables
all_weights = weights_are 64

fun_typed : (n : ℕ) → n < 64 → is_fun deepest_tables n (deep_fun n) ≡ true
fun_typed n lt =
    routine_typed deepest_tables n (fun_name n) (negations 62 (innermost n)) bool_used
    (negations_kind (scope deepest_tables n []) 62 (innermost n) (innermost_kind n (omega (arith, lt))))
    (subst (λ (ws : List ℕ). body_weight ws (deep_fun n).body ≤ 100000) (sym all_weights) (let w =
    fun_weight 64 n (omega (arith, lt)) in omega (arith, w, lt)))
    (negations_shifts 62 (innermost n) ∙ innermost_shifts n)

run_typed : is_call deepest_tables 64 run_call ≡ true
run_typed =
    routine_typed deepest_tables 64 (codes "run") (innermost 64) bool_used (innermost_kind 64 (omega arith))
    (subst (λ (ws : List ℕ). body_weight ws run_call.body ≤ 100000) (sym all_weights)
    (let one = return_weight (firsts weight 64) (innermost 64) in let inside = innermost_weight 64 64 (omega arith) in
    omega (arith, one, inside)))
    (innermost_shifts 64)

pub deepest_is_well_typed : IsWellTyped deepest_tables
unfolding deepest_tables firsts
deepest_is_well_typed =
    let count = length-firsts deep_fun 64 in
    record {
      few_sorts = omega arith;
      few_ints = omega arith;
      few_enums = omega arith;
      few_records = omega arith;
      few_states = omega arith;
      few_funs = omega (arith, count);
      few_calls = omega arith;
      distinct = refl;
      names = refl;
      ranges = refl;
      bool = refl;
      variants = refl;
      fields = refl;
      cells = refl;
      functions = each_first deep_fun (is_fun deepest_tables) 64 fun_typed;
      bodies = both_true run_typed refl;
    }

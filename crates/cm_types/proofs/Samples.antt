-- What the rule on least values gives for small trees.
use Rattle.std.proofs.Common.{◌≡◌, ℕ, ℤ, pos, ◌+◌, List, [], ◌∷◌, Some, None, refl, sym, ap, ◌∙◌, codes}
use Rattle.cm_model.specs.Tables.{Tables, tables}
use Rattle.cm_model.specs.declared.ty.Ty.{out-Ty}
use Rattle.cm_model.specs.declared.ty.Ty.TheVariants as ty
use Rattle.cm_model.specs.declared.ty.Ty.TheViews.{out-roll-Ty}
use Rattle.cm_model.specs.declared.ty.Ty.TheOpen.{Ty-F}
use Rattle.cm_model.specs.declared.body.StateDecl.{StateDecl}
use Rattle.cm_model.specs.declared.body.Op.{Op}
use Rattle.cm_model.specs.declared.body.Op.TheVariants as op
use Rattle.cm_model.specs.declared.body.Expr.{Expr as Made}
use Rattle.cm_model.specs.declared.body.Expr.TheVariants as made
use Rattle.cm_model.specs.declared.ty.IntDecl.{IntDecl}
use Rattle.cm_value.specs.declared.value.Value.{Value}
use Rattle.cm_eval.specs.declared.operand.Operand.{Operand}
use Rattle.cm_eval.specs.declared.operand.Operand.TheVariants as operand
use Rattle.cm_eval.specs.Evaluation.{Doing, Meaning, meaning_of, meaning_step, set_step, local_of, compare_of}
use Rattle.cm_eval.proofs.Examples.{out_int, out_tag}
use Rattle.cm_syntax.specs.declared.tree.Num.TheVariants.{Digits}
use Rattle.cm_syntax.specs.declared.tree.Relation.{Relation}
use Rattle.cm_syntax.specs.declared.tree.Relation.TheVariants as relation
use Rattle.cm_syntax.specs.declared.tree.Primary.TheVariants as prim
use Rattle.cm_syntax.specs.declared.tree.Decl.{Decl}
use Rattle.cm_syntax.specs.declared.tree.Decl.TheVariants as decl
use Rattle.cm_syntax.specs.declared.tree.Tree.{Tree}
use Rattle.cm_typing.specs.Told.{broken}
use Rattle.cm_typing.specs.Names.{look, is_taken}
use Rattle.cm_typing.specs.Rules as rules
use Rattle.cm_typing.specs.Declarations.{faults_of, tables_of}
use Rattle.cm_typing.proofs.Alternatives.{type_Named, prim_Number, prim_It, post_is, unary_Bare, sum_Term, cmp_Compared}
use Rattle.cm_typing.proofs.Alternatives.{expr_Single}
use Rattle.cm_typing.proofs.WeightForms.{weight_Num, weight_Local, weight_Compare}
use Rattle.cm_typing.proofs.Samples.{at, tree, named, both}
use Rattle.cm_types.specs.LeastValues.{all_faults_of, or_least, least_told, state_places}
use Rattle.cm_types.proofs.ModelForms.{of_Compare, of_Local, of_Num}

-- state NAME: C where it R 1; so many columns on
abbrev state_where : ℕ → List ℕ → Relation → ℕ → Decl
state_where c n r d = decl.CellWhere (at c) n (named (c + 9) (codes "C")) (both (c + 17) (prim.It (at (c + 17))) r d
    (prim.Number (at d) (Digits (at d) 1)))

-- int C 1..3; and these states
abbrev counters : List Decl → Tree
counters states = tree (decl.Int (at 1) (codes "C") (Digits (at 7) 1) (Digits (at 10) 3)) states

abbrev state_made : List ℕ → Op → StateDecl
state_made n o = record {
  name = n;
  key = None;
  value = ty.Int 0;
  inv = Some (made.Compare o (made.Local 0) (made.Num (pos 1)));
}

abbrev tables_made : List StateDecl → Tables
tables_made states = tables [] ((record { name = codes "C"; lo = pos 1; hi = pos 3 }) ∷ [])
    ((record { name = codes "bool"; variants = codes "false" ∷ codes "true" ∷ [] }) ∷ []) [] states [] []

out_int_type : (n : ℕ) → out-Ty (ty.Int n) ≡ Ty-F.Int n
out_int_type n = ap out-Ty (sym (ty.rolls-Int n)) ∙ out-roll-Ty (Ty-F.Int n)

module _ (ints : List IntDecl) (locals : List Value) (k : Operand → Doing) where
  abbrev on : Meaning → Doing
  on m = m locals k

  means_num : (n : ℤ) → meaning_of ints [] (made.Num n) locals k ≡ k (operand.Number n)
  means_num n = ap on (of_Num (meaning_step ints []) set_step n)

  means_local : (i : ℕ) → meaning_of ints [] (made.Local i) locals k ≡ local_of i locals k
  means_local i = ap on (of_Local (meaning_step ints []) set_step i)

  means_compare : (o : Op) (x y : Made) → meaning_of ints [] (made.Compare o x y) locals k
      ≡ compare_of o (meaning_of ints [] x) (meaning_of ints [] y) locals k
  means_compare o x y = ap on (of_Compare (meaning_step ints []) set_step o x y)

-- int C 1..3; state n: C where it > 1;
abbrev above : Tree
above = counters (state_where 13 (codes "n") relation.Greater 35 ∷ [])

above_walks : faults_of above ≡ []
unfolding look is_taken
above_walks =
    rw (
      type_Named,
      expr_Single,
      cmp_Compared,
      sum_Term,
      unary_Bare,
      post_is,
      prim_It,
      sum_Term,
      unary_Bare,
      post_is,
      prim_Number,
      weight_Compare [] op.Gt (made.Local 0) (made.Num (pos 1)),
      weight_Local,
      weight_Num,
    ) refl

above_made : tables_of above ≡ tables_made (state_made (codes "n") op.Gt ∷ [])
unfolding look is_taken
above_made = rw (
  type_Named,
  expr_Single,
  cmp_Compared,
  sum_Term,
  unary_Bare,
  post_is,
  prim_It,
  sum_Term,
  unary_Bare,
  post_is,
  prim_Number,
) refl

above_fails : (least_told (tables_made (state_made (codes "n") op.Gt ∷ [])) 0 (at 13 ∷ [])).1
    ≡ broken rules.least (at 13)
above_fails = simp (out_int_type, means_compare, means_local, means_num, out_int, out_tag)

-- the least value of C is 1
pub a_least_value_fails : all_faults_of above ≡ broken rules.least (at 13)
a_least_value_fails = ap (or_least above) above_walks ∙ ap (λ t. (least_told t 0 (state_places above)).1) above_made
    ∙ above_fails

-- int C 1..3; state n: C where it >= 1;
abbrev from_one : Tree
from_one = counters (state_where 13 (codes "n") relation.AtLeast 36 ∷ [])

from_one_walks : faults_of from_one ≡ []
unfolding look is_taken
from_one_walks =
    rw (
      type_Named,
      expr_Single,
      cmp_Compared,
      sum_Term,
      unary_Bare,
      post_is,
      prim_It,
      sum_Term,
      unary_Bare,
      post_is,
      prim_Number,
      weight_Compare [] op.Ge (made.Local 0) (made.Num (pos 1)),
      weight_Local,
      weight_Num,
    ) refl

from_one_made : tables_of from_one ≡ tables_made (state_made (codes "n") op.Ge ∷ [])
unfolding look is_taken
from_one_made = rw (
  type_Named,
  expr_Single,
  cmp_Compared,
  sum_Term,
  unary_Bare,
  post_is,
  prim_It,
  sum_Term,
  unary_Bare,
  post_is,
  prim_Number,
) refl

from_one_meets : (least_told (tables_made (state_made (codes "n") op.Ge ∷ [])) 0 (at 13 ∷ [])).1 ≡ []
from_one_meets = simp (out_int_type, means_compare, means_local, means_num, out_int, out_tag)

pub a_least_value_meets : all_faults_of from_one ≡ []
a_least_value_meets = ap (or_least from_one) from_one_walks
    ∙ ap (λ t. (least_told t 0 (state_places from_one)).1) from_one_made ∙ from_one_meets

-- int C 1..3; state n: C where it >= 1; state m: C where it > 1;
abbrev two_states : Tree
two_states = counters (state_where 13 (codes "n") relation.AtLeast 36 ∷
    state_where 39 (codes "m") relation.Greater 61 ∷ [])

abbrev two_made : Tables
two_made = tables_made (state_made (codes "n") op.Ge ∷ state_made (codes "m") op.Gt ∷ [])

two_walk : faults_of two_states ≡ []
unfolding look is_taken
two_walk =
    rw (
      type_Named,
      expr_Single,
      cmp_Compared,
      sum_Term,
      unary_Bare,
      post_is,
      prim_It,
      sum_Term,
      unary_Bare,
      post_is,
      prim_Number,
      weight_Compare [] op.Ge (made.Local 0) (made.Num (pos 1)),
      weight_Local,
      weight_Num,
      type_Named,
      expr_Single,
      cmp_Compared,
      sum_Term,
      unary_Bare,
      post_is,
      prim_It,
      sum_Term,
      unary_Bare,
      post_is,
      prim_Number,
      weight_Compare [] op.Gt (made.Local 0) (made.Num (pos 1)),
      weight_Local,
      weight_Num,
    ) refl

two_tables : tables_of two_states ≡ two_made
unfolding look is_taken
two_tables = rw (
  type_Named,
  expr_Single,
  cmp_Compared,
  sum_Term,
  unary_Bare,
  post_is,
  prim_It,
  sum_Term,
  unary_Bare,
  post_is,
  prim_Number,
  type_Named,
  expr_Single,
  cmp_Compared,
  sum_Term,
  unary_Bare,
  post_is,
  prim_It,
  sum_Term,
  unary_Bare,
  post_is,
  prim_Number,
) refl

second_fails : (least_told two_made 0 (at 13 ∷ at 39 ∷ [])).1 ≡ broken rules.least (at 39)
second_fails = simp (out_int_type, means_compare, means_local, means_num, out_int, out_tag)

-- each state is asked, at its own place
pub the_second_fails : all_faults_of two_states ≡ broken rules.least (at 39)
the_second_fails = ap (or_least two_states) two_walk
    ∙ ap (λ t. (least_told t 0 (state_places two_states)).1) two_tables ∙ second_fails

-- int C 1..3; state n: C where it > 1; state x: T;
abbrev above_and_unknown : Tree
above_and_unknown = counters (state_where 13 (codes "n") relation.Greater 35 ∷
    decl.Cell (at 38) (codes "x") (named 47 (codes "T")) ∷ [])

unknown_walks : faults_of above_and_unknown ≡ broken rules.unknown (at 47)
unfolding look is_taken
unknown_walks =
    rw (
      type_Named,
      expr_Single,
      cmp_Compared,
      sum_Term,
      unary_Bare,
      post_is,
      prim_It,
      sum_Term,
      unary_Bare,
      post_is,
      prim_Number,
      weight_Compare [] op.Gt (made.Local 0) (made.Num (pos 1)),
      weight_Local,
      weight_Num,
      type_Named,
    ) refl

-- the rule on least values is not asked where another fails, though it stands later
pub another_fault_comes_first : all_faults_of above_and_unknown ≡ broken rules.unknown (at 47)
another_fault_comes_first = ap (or_least above_and_unknown) unknown_walks

-- What the definitions give for small trees.
use Rattle.std.proofs.Common.{◌≡◌, ℕ, pos, List, [], ◌∷◌, ◌++◌, Option, Some, None, refl, codes}
use Rattle.cm_model.specs.declared.place.Place.{Place}
use Rattle.cm_model.specs.declared.ty.Ty.TheVariants as ty
use Rattle.cm_model.specs.declared.body.Op.TheVariants as op
use Rattle.cm_model.specs.declared.body.Expr.TheVariants as made
use Rattle.cm_model.specs.declared.body.Stmt.TheVariants as step
use Rattle.cm_syntax.specs.declared.tree.Num.TheVariants.{Digits}
use Rattle.cm_syntax.specs.declared.tree.Part.{Part}
use Rattle.cm_syntax.specs.declared.tree.«Type».{«Type» as TypeTree}
use Rattle.cm_syntax.specs.declared.tree.«Type».TheVariants as type
use Rattle.cm_syntax.specs.declared.tree.Relation.{Relation}
use Rattle.cm_syntax.specs.declared.tree.Relation.TheVariants as relation
use Rattle.cm_syntax.specs.declared.tree.Expr.{Expr}
use Rattle.cm_syntax.specs.declared.tree.Expr.TheVariants.{Single}
use Rattle.cm_syntax.specs.declared.tree.Cmp.TheVariants.{Side, Compared}
use Rattle.cm_syntax.specs.declared.tree.Sum.{Sum}
use Rattle.cm_syntax.specs.declared.tree.Sum.TheVariants.{Term}
use Rattle.cm_syntax.specs.declared.tree.Unary.TheVariants.{Bare}
use Rattle.cm_syntax.specs.declared.tree.Cmp.TheViews.{roll-Post}
use Rattle.cm_syntax.specs.declared.tree.Primary.{Primary}
use Rattle.cm_syntax.specs.declared.tree.Primary.TheVariants as prim
use Rattle.cm_syntax.specs.declared.tree.Stmt.{Stmt}
use Rattle.cm_syntax.specs.declared.tree.Stmt.TheVariants as stmt
use Rattle.cm_syntax.specs.declared.tree.Block.{Block}
use Rattle.cm_syntax.specs.declared.tree.Decl.{Decl}
use Rattle.cm_syntax.specs.declared.tree.Decl.TheVariants as decl
use Rattle.cm_syntax.specs.declared.tree.Tree.{Tree}
use Rattle.cm_typing.specs.Told.{broken}
use Rattle.cm_typing.specs.Names.{look, is_taken}
use Rattle.cm_typing.specs.Rules as rules
use Rattle.cm_typing.specs.Flats.{enum_flat, bool_flat}
use Rattle.cm_typing.specs.declared.names.Entry.TheVariants as entry
use Rattle.cm_typing.specs.Declarations.{told, faults_of, tables_of}
use Rattle.cm_typing.proofs.Alternatives.{type_Bool, type_Named, type_Optional, prim_Number, prim_It, prim_Name}
use Rattle.cm_typing.proofs.Alternatives.{prim_Apply, post_is, unary_Bare, sum_Term, cmp_Side, cmp_Compared}
use Rattle.cm_typing.proofs.Alternatives.{expr_Single, stmt_If, stmt_Return, stmt_Assign, block_is}
use Rattle.cm_typing.proofs.WeightForms.{weight_Num, weight_Tag, weight_Local, weight_Compare, weight_Return, weight_If}
use Rattle.cm_typing.proofs.WeightForms.{weight_Set, weight_Apply, weight_Cell}

abbrev pub at : ℕ → Place
at c = record { line = 1; col = c }

abbrev pub tree : Decl → List Decl → Tree
tree d ds = record { at = at 1; first = d; more = ds }

abbrev pub part : ℕ → List ℕ → TypeTree → Part
part c n t = record { at = at c; name = n; value = t }

abbrev pub named : ℕ → List ℕ → TypeTree
named c n = type.Named (at c) n

abbrev pub block : ℕ → List Stmt → Block
block c ss = record { at = at c; statements = ss }

-- a prim as a side of a comparison, and as an expression
abbrev pub side : ℕ → Primary → Sum
side c p = Term (at c) (Bare (at c) (roll-Post (record { at = at c; prim = p; fields = []; sets = [] })))

abbrev pub alone : ℕ → Primary → Expr
alone c p = Single (at c) (Side (at c) (side c p))

abbrev pub both : ℕ → Primary → Relation → ℕ → Primary → Expr
both c p r d q = Single (at c) (Compared (at c) (side c p) r (side d q))

abbrev pub name : ℕ → List ℕ → Primary
name c n = prim.Name (at c) n

-- sort S; sort S;
pub a_name_is_taken : faults_of (tree (decl.Sort (at 1) (codes "S")) (decl.Sort (at 9) (codes "S") ∷ []))
    ≡ broken rules.taken (at 9)
unfolding is_taken
a_name_is_taken = refl

-- int N 3..2; state x: T;
pub two_faults : faults_of (tree (decl.Int (at 1) (codes "N") (Digits (at 7) 3) (Digits (at 10) 2)) (decl.Cell
    (at 13) (codes "x") (named 22 (codes "T")) ∷ []))
    ≡ broken rules.numbers (at 1) ++ broken rules.unknown (at 22)
unfolding look is_taken
two_faults = rw type_Named refl

-- state y: bool; state x: bool where it == y;
pub an_invariant_reads_a_state : faults_of (tree (decl.Cell (at 1) (codes "y") (type.Bool (at 10)))
    (decl.CellWhere (at 16) (codes "x") (type.Bool (at 25)) (both 36 (prim.It (at 36)) relation.Equal 42 (name 42
    (codes "y"))) ∷ []))
    ≡ broken rules.invariant (at 42)
unfolding look is_taken
an_invariant_reads_a_state =
    rw (
      type_Bool,
      type_Bool,
      expr_Single,
      cmp_Compared,
      sum_Term,
      unary_Bare,
      post_is,
      prim_It,
      sum_Term,
      unary_Bare,
      post_is,
      prim_Name,
      weight_Compare [] op.Eq (made.Local 0) (made.Num
          (pos 0)),
      weight_Local,
      weight_Num,
    ) refl

-- call f() -> bool { return it; }
pub it_stands_in_a_body : faults_of (tree (decl.Call (at 1) (codes "f") [] [] (type.Bool (at 13)) (block 18
    (stmt.Return (at 20) (alone 27 (prim.It (at 27))) ∷ []))) [])
    ≡ broken rules.it (at 27)
unfolding look is_taken
it_stands_in_a_body = rw (
  type_Bool,
  block_is,
  stmt_Return,
  expr_Single,
  cmp_Side,
  sum_Term,
  unary_Bare,
  post_is,
  prim_It,
  weight_Return,
  weight_Num,
) refl

-- sort S; fn f(p: S) -> bool { if p { return p == q; } }
pub three_faults : faults_of (tree (decl.Sort (at 1) (codes "S")) (decl.Function (at 9) (codes "f") (part 14
    (codes "p") (named 17 (codes "S")) ∷ []) (type.Bool (at 23))
    (block 28 (stmt.If (at 30) (alone 33 (name 33 (codes "p"))) (block 35 (stmt.Return (at 37) (both 44 (name 44
    (codes "p")) relation.Equal 49 (name 49 (codes "q"))) ∷ [])) ∷ [])) ∷ []))
    ≡ broken rules.condition (at 33) ++ broken rules.unknown (at 49) ++ broken rules.returns (at 28)
unfolding look is_taken
three_faults =
    rw (
      type_Named,
      type_Bool,
      block_is,
      stmt_If,
      expr_Single,
      cmp_Side,
      sum_Term,
      unary_Bare,
      post_is,
      prim_Name,
      block_is,
      stmt_Return,
      expr_Single,
      cmp_Compared,
      sum_Term,
      unary_Bare,
      post_is,
      prim_Name,
      sum_Term,
      unary_Bare,
      post_is,
      prim_Name,
      weight_If,
      weight_Return,
      weight_Compare [] op.Eq (made.Local 0) (made.Num (pos 0)),
      weight_Local,
      weight_Num,
    ) refl

-- int C 0..3; state n: C where it <= 2;
abbrev counter : Tree
counter = tree (decl.Int (at 1) (codes "C") (Digits (at 7) 0) (Digits (at 10) 3))
    (decl.CellWhere (at 13) (codes "n") (named 22 (codes "C")) (both 30 (prim.It (at 30)) relation.AtMost 36
    (prim.Number (at 36) (Digits (at 36) 2))) ∷ [])

pub an_invariant_is_right : faults_of counter ≡ []
unfolding look is_taken
an_invariant_is_right =
    rw (
      type_Named,
      expr_Single,
      cmp_Compared,
      sum_Term,
      unary_Bare,
      post_is,
      prim_It,
      sum_Term,
      unary_Bare,
      post_is,
      prim_Number,
      weight_Compare [] op.Le (made.Local 0) (made.Num (pos 2)),
      weight_Local,
      weight_Num,
    ) refl

pub an_invariant_is_kept : (tables_of counter).states
    ≡ (record {
      name = codes "n";
      key = None;
      value = ty.Int 0;
      inv =
          Some (made.Compare op.Le (made.Local 0) (made.Num (pos 2)));
    }) ∷ []
unfolding look is_taken
an_invariant_is_kept = rw (
  type_Named,
  expr_Single,
  cmp_Compared,
  sum_Term,
  unary_Bare,
  post_is,
  prim_It,
  sum_Term,
  unary_Bare,
  post_is,
  prim_Number,
) refl

-- enum E { V } state x: E; fn f(p: E) -> bool { return p == V; } call c() -> bool { x = V; return f(x); }
abbrev writer : Tree
writer = tree (decl.Enum (at 1) (codes "E") (codes "V") []) (
    decl.Cell (at 14) (codes "x") (named 23 (codes "E"))
    ∷ decl.Function (at 26) (codes "f") (part 31 (codes "p") (named 34 (codes "E")) ∷ []) (type.Bool (at 40))
    (block 45 (stmt.Return (at 47) (both 54 (name 54 (codes "p")) relation.Equal 59 (name 59 (codes "V"))) ∷ []))
    ∷ decl.Call (at 64) (codes "c") [] [] (type.Bool (at 75))
    (block 80 (stmt.Assign (at 82) (codes "x") (alone 86 (name 86 (codes "V")))
    ∷ stmt.Return (at 89) (alone 96 (prim.Apply (at 96) (codes "f") (alone 98 (name 98 (codes "x")) ∷ []))) ∷ [])) ∷ [])

pub a_tree_has_tables : told writer ≡ (
  (
    record {
      names = (codes "E", entry.Enum 1) ∷ (codes "V", entry.Variant 1 0) ∷ (
        codes "x",
        entry.Cell 0 (Some
            (enum_flat 1)),
      )
          ∷ (codes "f", entry.Function 0 (Some (enum_flat 1) ∷ []) (Some bool_flat)) ∷ (codes "c", entry.Unusable) ∷ [];
      records = [];
      weights = 4 ∷ [];
      at = at 1;
      reply = None;
    },
    record {
      sorts = [];
      ints = [];
      enums = (record { name = codes "bool"; variants = codes "false" ∷ codes "true" ∷ [] }) ∷
          (record { name = codes "E"; variants = codes "V" ∷ [] }) ∷ [];
      records = [];
      states = (record { name = codes "x"; key = None; value = ty.Enum 1; inv = None }) ∷ [];
      funs = (record {
        name = codes "f";
        params = (record { name = codes "p"; ty = ty.Enum 1 }) ∷ [];
        outer = 1;
        reply = ty.Enum 0;
        body = step.Return (made.Compare op.Eq (made.Local 0) (made.Tag 1 0)) ∷ [];
      }) ∷ [];
      calls = (record {
        name = codes "c";
        params = [];
        outer = 0;
        reply = ty.Enum 0;
        body = step.Set 0 None (made.Tag 1 0) ∷ step.Return (made.Apply 0 (made.Cell 0 None ∷ [])) ∷ [];
      }) ∷ [];
    },
  ),
  [],
)
unfolding look is_taken
a_tree_has_tables =
    rw (
      type_Named,
      type_Named,
      type_Bool,
      block_is,
      stmt_Return,
      expr_Single,
      cmp_Compared,
      sum_Term,
      unary_Bare,
      post_is,
      prim_Name,
      sum_Term,
      unary_Bare,
      post_is,
      prim_Name,
      type_Bool,
      block_is,
      stmt_Assign,
      expr_Single,
      cmp_Side,
      sum_Term,
      unary_Bare,
      post_is,
      prim_Name,
      stmt_Return,
      expr_Single,
      cmp_Side,
      sum_Term,
      unary_Bare,
      post_is,
      prim_Apply,
      expr_Single,
      cmp_Side,
      sum_Term,
      unary_Bare,
      post_is,
      prim_Name,
      weight_Return,
      weight_Compare [] op.Eq (made.Local 0) (made.Tag 1 0),
      weight_Local,
      weight_Tag,
      weight_Set (4 ∷ []) 0 None (made.Tag 1 0),
      weight_Tag,
      weight_Return (4 ∷ []) (made.Apply 0 (made.Cell 0 None ∷ [])),
      weight_Apply,
      weight_Cell,
    ) refl

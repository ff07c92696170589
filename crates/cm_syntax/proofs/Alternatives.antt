-- What each alternative writes.
use Rattle.std.proofs.Common.{◌≡◌, ℕ, List, map, sym, ap, ◌∙◌}
use Rattle.cm_model.specs.declared.place.Place.{Place}
use Rattle.cm_syntax.specs.Form.{Form}
use Rattle.cm_syntax.specs.declared.tree.Num.{Num}
use Rattle.cm_syntax.specs.declared.tree.«Type».{«Type» as TypeTree}
use Rattle.cm_syntax.specs.declared.tree.«Type».TheVariants as type
use Rattle.cm_syntax.specs.declared.tree.«Type».TheOpen as type_layer
use Rattle.cm_syntax.specs.declared.tree.«Type».TheFolds.{fold-roll-Type}
use Rattle.cm_syntax.specs.declared.tree.Block.{Block}
use Rattle.cm_syntax.specs.declared.tree.Stmt.{Stmt}
use Rattle.cm_syntax.specs.declared.tree.Stmt.TheVariants as stmt
use Rattle.cm_syntax.specs.declared.tree.Stmt.TheOpen as stmt_layer
use Rattle.cm_syntax.specs.declared.tree.Stmt.TheFolds.{fold-roll-Stmt, fold-roll-Block}
use Rattle.cm_syntax.specs.declared.tree.Expr.{Expr}
use Rattle.cm_syntax.specs.declared.tree.Expr.TheVariants as expr
use Rattle.cm_syntax.specs.declared.tree.Cmp.{Cmp}
use Rattle.cm_syntax.specs.declared.tree.Cmp.TheVariants as cmp
use Rattle.cm_syntax.specs.declared.tree.Cmp.TheOpen as layer
use Rattle.cm_syntax.specs.declared.tree.Cmp.TheFolds.{fold-roll-Cmp, fold-roll-Expr, fold-roll-Primary, fold-roll-Sum}
use Rattle.cm_syntax.specs.declared.tree.Cmp.TheFolds.{fold-roll-Unary, fold-roll-Post, fold-roll-Set}
use Rattle.cm_syntax.specs.declared.tree.Relation.{Relation}
use Rattle.cm_syntax.specs.declared.tree.Sum.{Sum}
use Rattle.cm_syntax.specs.declared.tree.Sum.TheVariants as sum
use Rattle.cm_syntax.specs.declared.tree.Unary.{Unary}
use Rattle.cm_syntax.specs.declared.tree.Unary.TheVariants as unary
use Rattle.cm_syntax.specs.declared.tree.Post.{Post}
use Rattle.cm_syntax.specs.declared.tree.Set.{Set}
use Rattle.cm_syntax.specs.declared.tree.Primary.{Primary}
use Rattle.cm_syntax.specs.declared.tree.Primary.TheVariants as prim
use Rattle.cm_syntax.specs.Spelling.{type_step, type_form, set_of, post_of, cmp_step, expr_step, prim_step, sum_step}
use Rattle.cm_syntax.specs.Spelling.{unary_step, post_step, set_step, cmp_form, expr_form, prim_form, sum_form}
use Rattle.cm_syntax.specs.Spelling.{unary_form, post_form, set_form, stmt_step, block_step, stmt_form, block_form}

pub prim_Number : (p : Place) (b : Num) → prim_form (prim.Number p b) ≡ prim_step (layer.Number p b)
prim_Number p b = ap prim_form (sym (prim.rolls-Number p b)) ∙ fold-roll-Primary (Form Cmp) (Form Expr)
    (Form Primary) (Form Sum) (Form Unary) (Form Post) (Form Set) cmp_step expr_step prim_step sum_step
    unary_step post_step set_step (layer.Number p b)

pub prim_True : (p : Place) → prim_form (prim.True p) ≡ prim_step (layer.True p)
prim_True p = ap prim_form (sym (prim.rolls-True p)) ∙ fold-roll-Primary (Form Cmp) (Form Expr) (Form Primary)
    (Form Sum) (Form Unary) (Form Post) (Form Set) cmp_step expr_step prim_step sum_step unary_step post_step
    set_step (layer.True p)

pub prim_False : (p : Place) → prim_form (prim.False p) ≡ prim_step (layer.False p)
prim_False p = ap prim_form (sym (prim.rolls-False p)) ∙ fold-roll-Primary (Form Cmp) (Form Expr) (Form Primary)
    (Form Sum) (Form Unary) (Form Post) (Form Set) cmp_step expr_step prim_step sum_step unary_step post_step
    set_step (layer.False p)

pub prim_It : (p : Place) → prim_form (prim.It p) ≡ prim_step (layer.It p)
prim_It p = ap prim_form (sym (prim.rolls-It p)) ∙ fold-roll-Primary (Form Cmp) (Form Expr) (Form Primary)
    (Form Sum) (Form Unary) (Form Post) (Form Set) cmp_step expr_step prim_step sum_step unary_step post_step
    set_step (layer.It p)

pub prim_Name : (p : Place) (b : List ℕ) → prim_form (prim.Name p b) ≡ prim_step (layer.Name p b)
prim_Name p b = ap prim_form (sym (prim.rolls-Name p b)) ∙ fold-roll-Primary (Form Cmp) (Form Expr) (Form Primary)
    (Form Sum) (Form Unary) (Form Post) (Form Set) cmp_step expr_step prim_step sum_step unary_step post_step
    set_step (layer.Name p b)

pub prim_Entry : (p : Place) (b : List ℕ) (c : Expr) → prim_form (prim.Entry p b c) ≡ prim_step
    (layer.Entry p b (expr_form c))
prim_Entry p b c = ap prim_form (sym (prim.rolls-Entry p b c)) ∙ fold-roll-Primary (Form Cmp) (Form Expr)
    (Form Primary) (Form Sum) (Form Unary) (Form Post) (Form Set) cmp_step expr_step prim_step sum_step
    unary_step post_step set_step (layer.Entry p b c)

pub prim_Apply : (p : Place) (b : List ℕ) (c : List Expr) → prim_form (prim.Apply p b c) ≡ prim_step
    (layer.Apply p b (map expr_form c))
prim_Apply p b c = ap prim_form (sym (prim.rolls-Apply p b c)) ∙ fold-roll-Primary (Form Cmp) (Form Expr)
    (Form Primary) (Form Sum) (Form Unary) (Form Post) (Form Set) cmp_step expr_step prim_step sum_step
    unary_step post_step set_step (layer.Apply p b c)

pub prim_NoneOf : (p : Place) (b : TypeTree) → prim_form (prim.NoneOf p b) ≡ prim_step (layer.NoneOf p b)
prim_NoneOf p b = ap prim_form (sym (prim.rolls-NoneOf p b)) ∙ fold-roll-Primary (Form Cmp) (Form Expr)
    (Form Primary) (Form Sum) (Form Unary) (Form Post) (Form Set) cmp_step expr_step prim_step sum_step
    unary_step post_step set_step (layer.NoneOf p b)

pub prim_SomeOf : (p : Place) (b : Expr) → prim_form (prim.SomeOf p b) ≡ prim_step (layer.SomeOf p (expr_form b))
prim_SomeOf p b = ap prim_form (sym (prim.rolls-SomeOf p b)) ∙ fold-roll-Primary (Form Cmp) (Form Expr)
    (Form Primary) (Form Sum) (Form Unary) (Form Post) (Form Set) cmp_step expr_step prim_step sum_step
    unary_step post_step set_step (layer.SomeOf p b)

pub prim_Group : (p : Place) (b : Expr) → prim_form (prim.Group p b) ≡ prim_step (layer.Group p (expr_form b))
prim_Group p b = ap prim_form (sym (prim.rolls-Group p b)) ∙ fold-roll-Primary (Form Cmp) (Form Expr)
    (Form Primary) (Form Sum) (Form Unary) (Form Post) (Form Set) cmp_step expr_step prim_step sum_step
    unary_step post_step set_step (layer.Group p b)

pub unary_Bare : (p : Place) (b : Post) → unary_form (unary.Bare p b) ≡ unary_step (layer.Bare p (post_form b))
unary_Bare p b = ap unary_form (sym (unary.rolls-Bare p b)) ∙ fold-roll-Unary (Form Cmp) (Form Expr)
    (Form Primary) (Form Sum) (Form Unary) (Form Post) (Form Set) cmp_step expr_step prim_step sum_step
    unary_step post_step set_step (layer.Bare p b)

pub unary_Not : (p : Place) (b : Post) → unary_form (unary.Not p b) ≡ unary_step (layer.Not p (post_form b))
unary_Not p b = ap unary_form (sym (unary.rolls-Not p b)) ∙ fold-roll-Unary (Form Cmp) (Form Expr) (Form Primary)
    (Form Sum) (Form Unary) (Form Post) (Form Set) cmp_step expr_step prim_step sum_step unary_step post_step
    set_step (layer.Not p b)

pub sum_Term : (p : Place) (b : Unary) → sum_form (sum.Term p b) ≡ sum_step (layer.Term p (unary_form b))
sum_Term p b = ap sum_form (sym (sum.rolls-Term p b)) ∙ fold-roll-Sum (Form Cmp) (Form Expr) (Form Primary)
    (Form Sum) (Form Unary) (Form Post) (Form Set) cmp_step expr_step prim_step sum_step unary_step post_step
    set_step (layer.Term p b)

pub sum_Plus : (p : Place) (b : Unary) (c : ℕ) → sum_form (sum.Plus p b c) ≡ sum_step (layer.Plus p (unary_form b) c)
sum_Plus p b c = ap sum_form (sym (sum.rolls-Plus p b c)) ∙ fold-roll-Sum (Form Cmp) (Form Expr) (Form Primary)
    (Form Sum) (Form Unary) (Form Post) (Form Set) cmp_step expr_step prim_step sum_step unary_step post_step
    set_step (layer.Plus p b c)

pub sum_Minus : (p : Place) (b : Unary) (c : ℕ) → sum_form (sum.Minus p b c) ≡ sum_step (layer.Minus p (unary_form b) c)
sum_Minus p b c = ap sum_form (sym (sum.rolls-Minus p b c)) ∙ fold-roll-Sum (Form Cmp) (Form Expr) (Form Primary)
    (Form Sum) (Form Unary) (Form Post) (Form Set) cmp_step expr_step prim_step sum_step unary_step post_step
    set_step (layer.Minus p b c)

pub cmp_Side : (p : Place) (b : Sum) → cmp_form (cmp.Side p b) ≡ cmp_step (layer.Side p (sum_form b))
cmp_Side p b = ap cmp_form (sym (cmp.rolls-Side p b)) ∙ fold-roll-Cmp (Form Cmp) (Form Expr) (Form Primary)
    (Form Sum) (Form Unary) (Form Post) (Form Set) cmp_step expr_step prim_step sum_step unary_step post_step
    set_step (layer.Side p b)

pub cmp_Compared : (p : Place) (b : Sum) (c : Relation) (d : Sum) → cmp_form (cmp.Compared p b c d)
    ≡ cmp_step (layer.Compared p (sum_form b) c (sum_form d))
cmp_Compared p b c d = ap cmp_form (sym (cmp.rolls-Compared p b c d)) ∙ fold-roll-Cmp (Form Cmp) (Form Expr)
    (Form Primary) (Form Sum) (Form Unary) (Form Post) (Form Set) cmp_step expr_step prim_step sum_step
    unary_step post_step set_step (layer.Compared p b c d)

pub expr_Single : (p : Place) (b : Cmp) → expr_form (expr.Single p b) ≡ expr_step (layer.Single p (cmp_form b))
expr_Single p b = ap expr_form (sym (expr.rolls-Single p b)) ∙ fold-roll-Expr (Form Cmp) (Form Expr)
    (Form Primary) (Form Sum) (Form Unary) (Form Post) (Form Set) cmp_step expr_step prim_step sum_step
    unary_step post_step set_step (layer.Single p b)

pub expr_All : (p : Place) (b : Cmp) (c : Cmp) (d : List Cmp)
    → expr_form (expr.All p b c d) ≡ expr_step (layer.All p (cmp_form b) (cmp_form c) (map cmp_form d))
expr_All p b c d = ap expr_form (sym (expr.rolls-All p b c d)) ∙ fold-roll-Expr (Form Cmp) (Form Expr)
    (Form Primary) (Form Sum) (Form Unary) (Form Post) (Form Set) cmp_step expr_step prim_step sum_step
    unary_step post_step set_step (layer.All p b c d)

pub expr_Any : (p : Place) (b : Cmp) (c : Cmp) (d : List Cmp)
    → expr_form (expr.Any p b c d) ≡ expr_step (layer.Any p (cmp_form b) (cmp_form c) (map cmp_form d))
expr_Any p b c d = ap expr_form (sym (expr.rolls-Any p b c d)) ∙ fold-roll-Expr (Form Cmp) (Form Expr)
    (Form Primary) (Form Sum) (Form Unary) (Form Post) (Form Set) cmp_step expr_step prim_step sum_step
    unary_step post_step set_step (layer.Any p b c d)

pub set_is : (p : Place) (n : List ℕ) (e : Expr)
    → set_form (set_of p n e) ≡ set_step (record { at = p; field = n; value = expr_form e })
set_is p n e = fold-roll-Set (Form Cmp) (Form Expr) (Form Primary) (Form Sum) (Form Unary) (Form Post)
    (Form Set) cmp_step expr_step prim_step sum_step unary_step post_step set_step
    (record { at = p; field = n; value = e })

pub post_is : (p : Place) (q : Primary) (ns : List (List ℕ)) (ss : List Set)
    → post_form (post_of p q ns ss) ≡ post_step (record {
      at = p;
      prim = prim_form q;
      fields = ns;
      sets =
          map set_form ss;
    })
post_is p q ns ss = fold-roll-Post (Form Cmp) (Form Expr) (Form Primary) (Form Sum) (Form Unary) (Form Post)
    (Form Set) cmp_step expr_step prim_step sum_step unary_step post_step set_step
    (record { at = p; prim = q; fields = ns; sets = ss })

pub type_Bool : (p : Place) → type_form (type.Bool p) ≡ type_step (type_layer.Bool p)
type_Bool p = ap type_form (sym (type.rolls-Bool p)) ∙ fold-roll-Type (Form TypeTree) type_step (type_layer.Bool p)

pub type_Named : (p : Place) (b : List ℕ) → type_form (type.Named p b) ≡ type_step (type_layer.Named p b)
type_Named p b = ap type_form (sym (type.rolls-Named p b)) ∙ fold-roll-Type (Form TypeTree) type_step
    (type_layer.Named p b)

pub type_Optional : (p : Place) (b : TypeTree) → type_form (type.Optional p b) ≡ type_step
    (type_layer.Optional p (type_form b))
type_Optional p b = ap type_form (sym (type.rolls-Optional p b)) ∙ fold-roll-Type (Form TypeTree) type_step
    (type_layer.Optional p b)

pub stmt_Let : (p : Place) (b : List ℕ) (c : Expr) → stmt_form (stmt.Let p b c) ≡ stmt_step (stmt_layer.Let p b c)
stmt_Let p b c = ap stmt_form (sym (stmt.rolls-Let p b c)) ∙ fold-roll-Stmt (Form Stmt) (Form Block)
    stmt_step block_step (stmt_layer.Let p b c)

pub stmt_Assign : (p : Place) (b : List ℕ) (c : Expr) → stmt_form (stmt.Assign p b c) ≡ stmt_step
    (stmt_layer.Assign p b c)
stmt_Assign p b c = ap stmt_form (sym (stmt.rolls-Assign p b c)) ∙ fold-roll-Stmt (Form Stmt) (Form Block)
    stmt_step block_step (stmt_layer.Assign p b c)

pub stmt_AssignAt : (p : Place) (b : List ℕ) (c : Expr) (d : Expr) → stmt_form (stmt.AssignAt p b c d)
    ≡ stmt_step (stmt_layer.AssignAt p b c d)
stmt_AssignAt p b c d = ap stmt_form (sym (stmt.rolls-AssignAt p b c d)) ∙ fold-roll-Stmt (Form Stmt)
    (Form Block) stmt_step block_step (stmt_layer.AssignAt p b c d)

pub stmt_If : (p : Place) (b : Expr) (c : Block)
    → stmt_form (stmt.If p b c) ≡ stmt_step (stmt_layer.If p b (block_form c))
stmt_If p b c = ap stmt_form (sym (stmt.rolls-If p b c)) ∙ fold-roll-Stmt (Form Stmt) (Form Block) stmt_step
    block_step (stmt_layer.If p b c)

pub stmt_IfElse : (p : Place) (b : Expr) (c : Block) (d : Block) → stmt_form (stmt.IfElse p b c d)
    ≡ stmt_step (stmt_layer.IfElse p b (block_form c) (block_form d))
stmt_IfElse p b c d = ap stmt_form (sym (stmt.rolls-IfElse p b c d)) ∙ fold-roll-Stmt (Form Stmt) (Form Block)
    stmt_step block_step (stmt_layer.IfElse p b c d)

pub stmt_Case : (p : Place) (b : Expr) (c : Block) (d : List ℕ) (e : Block)
    → stmt_form (stmt.Case p b c d e) ≡ stmt_step (stmt_layer.Case p b (block_form c) d (block_form e))
stmt_Case p b c d e = ap stmt_form (sym (stmt.rolls-Case p b c d e)) ∙ fold-roll-Stmt (Form Stmt) (Form Block)
    stmt_step block_step (stmt_layer.Case p b c d e)

pub stmt_Assume : (p : Place) (b : Expr) → stmt_form (stmt.Assume p b) ≡ stmt_step (stmt_layer.Assume p b)
stmt_Assume p b = ap stmt_form (sym (stmt.rolls-Assume p b)) ∙ fold-roll-Stmt (Form Stmt) (Form Block)
    stmt_step block_step (stmt_layer.Assume p b)

pub stmt_Return : (p : Place) (b : Expr) → stmt_form (stmt.Return p b) ≡ stmt_step (stmt_layer.Return p b)
stmt_Return p b = ap stmt_form (sym (stmt.rolls-Return p b)) ∙ fold-roll-Stmt (Form Stmt) (Form Block)
    stmt_step block_step (stmt_layer.Return p b)

pub block_is : (p : Place) (ss : List Stmt) → block_form (record { at = p; statements = ss })
    ≡ block_step (record { at = p; statements = map stmt_form ss })
block_is p ss = fold-roll-Block (Form Stmt) (Form Block) stmt_step block_step (record { at = p; statements = ss })

-- What each alternative is told to be.
use Rattle.std.proofs.Common.{◌≡◌, ℕ, List, map, Option, sym, ap, ◌∙◌}
use Rattle.cm_model.specs.declared.place.Place.{Place}
use Rattle.cm_syntax.specs.declared.tree.Num.{Num}
use Rattle.cm_syntax.specs.declared.tree.«Type».{«Type» as TypeTree}
use Rattle.cm_syntax.specs.declared.tree.«Type».TheVariants as type
use Rattle.cm_syntax.specs.declared.tree.«Type».TheOpen as type_layer
use Rattle.cm_syntax.specs.declared.tree.«Type».TheFolds.{fold-roll-Type}
use Rattle.cm_syntax.specs.declared.tree.Block.{Block}
use Rattle.cm_syntax.specs.declared.tree.Stmt.{Stmt}
use Rattle.cm_syntax.specs.declared.tree.Stmt.TheVariants as stmt
use Rattle.cm_syntax.specs.declared.tree.Stmt.TheOpen as stmt_layer
use Rattle.cm_syntax.specs.declared.tree.Stmt.TheFolds.{fold-roll-Stmt, fold-roll-Block}
use Rattle.cm_syntax.specs.declared.tree.Expr.{Expr}
use Rattle.cm_syntax.specs.declared.tree.Expr.TheVariants as expr
use Rattle.cm_syntax.specs.declared.tree.Cmp.{Cmp}
use Rattle.cm_syntax.specs.declared.tree.Cmp.TheVariants as cmp
use Rattle.cm_syntax.specs.declared.tree.Cmp.TheOpen as layer
use Rattle.cm_syntax.specs.declared.tree.Cmp.TheFolds.{fold-roll-Cmp, fold-roll-Expr, fold-roll-Primary, fold-roll-Sum}
use Rattle.cm_syntax.specs.declared.tree.Cmp.TheFolds.{fold-roll-Unary, fold-roll-Post, fold-roll-Set}
use Rattle.cm_syntax.specs.declared.tree.Relation.{Relation}
use Rattle.cm_syntax.specs.declared.tree.Sum.{Sum}
use Rattle.cm_syntax.specs.declared.tree.Sum.TheVariants as sum
use Rattle.cm_syntax.specs.declared.tree.Unary.{Unary}
use Rattle.cm_syntax.specs.declared.tree.Unary.TheVariants as unary
use Rattle.cm_syntax.specs.declared.tree.Post.{Post}
use Rattle.cm_syntax.specs.declared.tree.Set.{Set}
use Rattle.cm_syntax.specs.declared.tree.Cmp.TheViews.{roll-Post, roll-Set}
use Rattle.cm_syntax.specs.declared.tree.Primary.{Primary}
use Rattle.cm_syntax.specs.declared.tree.Primary.TheVariants as prim
use Rattle.cm_typing.specs.declared.flat.Flat.{Flat}
use Rattle.cm_typing.specs.declared.scope.Scope.{Scope}
use Rattle.cm_typing.specs.Told.{Told}
use Rattle.cm_typing.specs.Names.{Names}
use Rattle.cm_typing.specs.Types.{type_step, type_told}
use Rattle.cm_typing.specs.Expressions.{Meaning, SetMeaning, cmp_step, expr_step, prim_step, sum_step, unary_step}
use Rattle.cm_typing.specs.Expressions.{post_step, set_step, cmp_told, expr_told, prim_told, sum_told, unary_told}
use Rattle.cm_typing.specs.Expressions.{post_told, set_told}
use Rattle.cm_typing.specs.Statements.{StmtMeaning, BlockMeaning, stmt_step, block_step, stmt_told, of_block}

pub prim_Number : (p : Place) (b : Num) → prim_told (prim.Number p b) ≡ prim_step (layer.Number p b)
prim_Number p b = ap prim_told (sym (prim.rolls-Number p b))
    ∙ fold-roll-Primary Meaning Meaning Meaning Meaning Meaning Meaning SetMeaning cmp_step
    expr_step prim_step sum_step unary_step post_step set_step (layer.Number p b)

pub prim_True : (p : Place) → prim_told (prim.True p) ≡ prim_step (layer.True p)
prim_True p = ap prim_told (sym (prim.rolls-True p))
    ∙ fold-roll-Primary Meaning Meaning Meaning Meaning Meaning Meaning SetMeaning cmp_step
    expr_step prim_step sum_step unary_step post_step set_step (layer.True p)

pub prim_False : (p : Place) → prim_told (prim.False p) ≡ prim_step (layer.False p)
prim_False p = ap prim_told (sym (prim.rolls-False p))
    ∙ fold-roll-Primary Meaning Meaning Meaning Meaning Meaning Meaning SetMeaning cmp_step
    expr_step prim_step sum_step unary_step post_step set_step (layer.False p)

pub prim_It : (p : Place) → prim_told (prim.It p) ≡ prim_step (layer.It p)
prim_It p = ap prim_told (sym (prim.rolls-It p)) ∙ fold-roll-Primary Meaning Meaning Meaning Meaning Meaning Meaning
    SetMeaning cmp_step expr_step prim_step sum_step unary_step post_step set_step (layer.It p)

pub prim_Name : (p : Place) (b : List ℕ) → prim_told (prim.Name p b) ≡ prim_step (layer.Name p b)
prim_Name p b = ap prim_told (sym (prim.rolls-Name p b))
    ∙ fold-roll-Primary Meaning Meaning Meaning Meaning Meaning Meaning SetMeaning cmp_step
    expr_step prim_step sum_step unary_step post_step set_step (layer.Name p b)

pub prim_Entry : (p : Place) (b : List ℕ) (c : Expr)
    → prim_told (prim.Entry p b c) ≡ prim_step (layer.Entry p b (expr_told c))
prim_Entry p b c = ap prim_told (sym (prim.rolls-Entry p b c))
    ∙ fold-roll-Primary Meaning Meaning Meaning Meaning Meaning Meaning SetMeaning cmp_step
    expr_step prim_step sum_step unary_step post_step set_step (layer.Entry p b c)

pub prim_Apply : (p : Place) (b : List ℕ) (c : List Expr)
    → prim_told (prim.Apply p b c) ≡ prim_step (layer.Apply p b (map expr_told c))
prim_Apply p b c = ap prim_told (sym (prim.rolls-Apply p b c))
    ∙ fold-roll-Primary Meaning Meaning Meaning Meaning Meaning Meaning SetMeaning cmp_step
    expr_step prim_step sum_step unary_step post_step set_step (layer.Apply p b c)

pub prim_NoneOf : (p : Place) (b : TypeTree) → prim_told (prim.NoneOf p b) ≡ prim_step (layer.NoneOf p b)
prim_NoneOf p b = ap prim_told (sym (prim.rolls-NoneOf p b))
    ∙ fold-roll-Primary Meaning Meaning Meaning Meaning Meaning Meaning SetMeaning cmp_step
    expr_step prim_step sum_step unary_step post_step set_step (layer.NoneOf p b)

pub prim_SomeOf : (p : Place) (b : Expr) → prim_told (prim.SomeOf p b) ≡ prim_step (layer.SomeOf p (expr_told b))
prim_SomeOf p b = ap prim_told (sym (prim.rolls-SomeOf p b))
    ∙ fold-roll-Primary Meaning Meaning Meaning Meaning Meaning Meaning SetMeaning cmp_step
    expr_step prim_step sum_step unary_step post_step set_step (layer.SomeOf p b)

pub prim_Group : (p : Place) (b : Expr) → prim_told (prim.Group p b) ≡ prim_step (layer.Group p (expr_told b))
prim_Group p b = ap prim_told (sym (prim.rolls-Group p b))
    ∙ fold-roll-Primary Meaning Meaning Meaning Meaning Meaning Meaning SetMeaning cmp_step
    expr_step prim_step sum_step unary_step post_step set_step (layer.Group p b)

pub unary_Bare : (p : Place) (b : Post) → unary_told (unary.Bare p b) ≡ unary_step (layer.Bare p (post_told b))
unary_Bare p b = ap unary_told (sym (unary.rolls-Bare p b))
    ∙ fold-roll-Unary Meaning Meaning Meaning Meaning Meaning Meaning SetMeaning cmp_step
    expr_step prim_step sum_step unary_step post_step set_step (layer.Bare p b)

pub unary_Not : (p : Place) (b : Post) → unary_told (unary.Not p b) ≡ unary_step (layer.Not p (post_told b))
unary_Not p b = ap unary_told (sym (unary.rolls-Not p b))
    ∙ fold-roll-Unary Meaning Meaning Meaning Meaning Meaning Meaning SetMeaning cmp_step
    expr_step prim_step sum_step unary_step post_step set_step (layer.Not p b)

pub sum_Term : (p : Place) (b : Unary) → sum_told (sum.Term p b) ≡ sum_step (layer.Term p (unary_told b))
sum_Term p b = ap sum_told (sym (sum.rolls-Term p b))
    ∙ fold-roll-Sum Meaning Meaning Meaning Meaning Meaning Meaning SetMeaning cmp_step
    expr_step prim_step sum_step unary_step post_step set_step (layer.Term p b)

pub sum_Plus : (p : Place) (b : Unary) (c : ℕ) → sum_told (sum.Plus p b c) ≡ sum_step (layer.Plus p (unary_told b) c)
sum_Plus p b c = ap sum_told (sym (sum.rolls-Plus p b c))
    ∙ fold-roll-Sum Meaning Meaning Meaning Meaning Meaning Meaning SetMeaning cmp_step
    expr_step prim_step sum_step unary_step post_step set_step (layer.Plus p b c)

pub sum_Minus : (p : Place) (b : Unary) (c : ℕ) → sum_told (sum.Minus p b c) ≡ sum_step (layer.Minus p (unary_told b) c)
sum_Minus p b c = ap sum_told (sym (sum.rolls-Minus p b c))
    ∙ fold-roll-Sum Meaning Meaning Meaning Meaning Meaning Meaning SetMeaning cmp_step
    expr_step prim_step sum_step unary_step post_step set_step (layer.Minus p b c)

pub cmp_Side : (p : Place) (b : Sum) → cmp_told (cmp.Side p b) ≡ cmp_step (layer.Side p (sum_told b))
cmp_Side p b = ap cmp_told (sym (cmp.rolls-Side p b))
    ∙ fold-roll-Cmp Meaning Meaning Meaning Meaning Meaning Meaning SetMeaning cmp_step
    expr_step prim_step sum_step unary_step post_step set_step (layer.Side p b)

pub cmp_Compared : (p : Place) (b : Sum) (c : Relation) (d : Sum)
    → cmp_told (cmp.Compared p b c d) ≡ cmp_step (layer.Compared p (sum_told b) c (sum_told d))
cmp_Compared p b c d = ap cmp_told (sym (cmp.rolls-Compared p b c d))
    ∙ fold-roll-Cmp Meaning Meaning Meaning Meaning Meaning Meaning SetMeaning cmp_step
    expr_step prim_step sum_step unary_step post_step set_step (layer.Compared p b c d)

pub expr_Single : (p : Place) (b : Cmp) → expr_told (expr.Single p b) ≡ expr_step (layer.Single p (cmp_told b))
expr_Single p b = ap expr_told (sym (expr.rolls-Single p b))
    ∙ fold-roll-Expr Meaning Meaning Meaning Meaning Meaning Meaning SetMeaning cmp_step
    expr_step prim_step sum_step unary_step post_step set_step (layer.Single p b)

pub expr_All : (p : Place) (b : Cmp) (c : Cmp) (d : List Cmp)
    → expr_told (expr.All p b c d) ≡ expr_step (layer.All p (cmp_told b) (cmp_told c) (map cmp_told d))
expr_All p b c d = ap expr_told (sym (expr.rolls-All p b c d))
    ∙ fold-roll-Expr Meaning Meaning Meaning Meaning Meaning Meaning SetMeaning cmp_step
    expr_step prim_step sum_step unary_step post_step set_step (layer.All p b c d)

pub expr_Any : (p : Place) (b : Cmp) (c : Cmp) (d : List Cmp)
    → expr_told (expr.Any p b c d) ≡ expr_step (layer.Any p (cmp_told b) (cmp_told c) (map cmp_told d))
expr_Any p b c d = ap expr_told (sym (expr.rolls-Any p b c d))
    ∙ fold-roll-Expr Meaning Meaning Meaning Meaning Meaning Meaning SetMeaning cmp_step
    expr_step prim_step sum_step unary_step post_step set_step (layer.Any p b c d)

pub set_is : (p : Place) (n : List ℕ) (e : Expr) → set_told (roll-Set (record { at = p; field = n; value = e }))
    ≡ set_step (record { at = p; field = n; value = expr_told e })
set_is p n e = fold-roll-Set Meaning Meaning Meaning Meaning Meaning Meaning SetMeaning cmp_step
    expr_step prim_step sum_step unary_step post_step set_step (record { at = p; field = n; value = e })

pub post_is : (p : Place) (q : Primary) (ns : List (List ℕ)) (ss : List Set)
    → post_told (roll-Post (record { at = p; prim = q; fields = ns; sets = ss }))
    ≡ post_step (record { at = p; prim = prim_told q; fields = ns; sets = map set_told ss })
post_is p q ns ss = fold-roll-Post Meaning Meaning Meaning Meaning Meaning Meaning SetMeaning cmp_step
    expr_step prim_step sum_step unary_step post_step set_step (record { at = p; prim = q; fields = ns; sets = ss })

pub type_Bool : (p : Place) → type_told (type.Bool p) ≡ type_step (type_layer.Bool p)
type_Bool p = ap type_told (sym (type.rolls-Bool p)) ∙ fold-roll-Type (Names
    → Told (Option Flat)) type_step (type_layer.Bool p)

pub type_Named : (p : Place) (b : List ℕ) → type_told (type.Named p b) ≡ type_step (type_layer.Named p b)
type_Named p b = ap type_told (sym (type.rolls-Named p b)) ∙ fold-roll-Type (Names
    → Told (Option Flat)) type_step (type_layer.Named p b)

pub type_Optional : (p : Place) (b : TypeTree) → type_told (type.Optional p b)
    ≡ type_step (type_layer.Optional p (type_told b))
type_Optional p b = ap type_told (sym (type.rolls-Optional p b)) ∙ fold-roll-Type (Names
    → Told (Option Flat)) type_step (type_layer.Optional p b)

pub stmt_Let : (s : Scope) (p : Place) (b : List ℕ) (c : Expr)
    → stmt_told s (stmt.Let p b c) ≡ stmt_step s (stmt_layer.Let p b c)
stmt_Let s p b c = ap (stmt_told s) (sym (stmt.rolls-Let p b c))
    ∙ fold-roll-Stmt StmtMeaning BlockMeaning (stmt_step s) block_step (stmt_layer.Let p b c)

pub stmt_Assign : (s : Scope) (p : Place) (b : List ℕ) (c : Expr)
    → stmt_told s (stmt.Assign p b c) ≡ stmt_step s (stmt_layer.Assign p b c)
stmt_Assign s p b c = ap (stmt_told s) (sym (stmt.rolls-Assign p b c))
    ∙ fold-roll-Stmt StmtMeaning BlockMeaning (stmt_step s) block_step (stmt_layer.Assign p b c)

pub stmt_AssignAt : (s : Scope) (p : Place) (b : List ℕ) (c : Expr) (d : Expr)
    → stmt_told s (stmt.AssignAt p b c d) ≡ stmt_step s (stmt_layer.AssignAt p b c d)
stmt_AssignAt s p b c d = ap (stmt_told s) (sym (stmt.rolls-AssignAt p b c d))
    ∙ fold-roll-Stmt StmtMeaning BlockMeaning (stmt_step s) block_step (stmt_layer.AssignAt p b c d)

pub stmt_If : (s : Scope) (p : Place) (b : Expr) (c : Block)
    → stmt_told s (stmt.If p b c) ≡ stmt_step s (stmt_layer.If p b (of_block s c))
stmt_If s p b c = ap (stmt_told s) (sym (stmt.rolls-If p b c))
    ∙ fold-roll-Stmt StmtMeaning BlockMeaning (stmt_step s) block_step (stmt_layer.If p b c)

pub stmt_IfElse : (s : Scope) (p : Place) (b : Expr) (c : Block) (d : Block)
    → stmt_told s (stmt.IfElse p b c d) ≡ stmt_step s (stmt_layer.IfElse p b (of_block s c) (of_block s d))
stmt_IfElse s p b c d = ap (stmt_told s) (sym (stmt.rolls-IfElse p b c d))
    ∙ fold-roll-Stmt StmtMeaning BlockMeaning (stmt_step s) block_step (stmt_layer.IfElse p b c d)

pub stmt_Case : (s : Scope) (p : Place) (b : Expr) (c : Block) (d : List ℕ) (e : Block)
    → stmt_told s (stmt.Case p b c d e) ≡ stmt_step s (stmt_layer.Case p b (of_block s c) d (of_block s e))
stmt_Case s p b c d e = ap (stmt_told s) (sym (stmt.rolls-Case p b c d e))
    ∙ fold-roll-Stmt StmtMeaning BlockMeaning (stmt_step s) block_step (stmt_layer.Case p b c d e)

pub stmt_Assume : (s : Scope) (p : Place) (b : Expr)
    → stmt_told s (stmt.Assume p b) ≡ stmt_step s (stmt_layer.Assume p b)
stmt_Assume s p b = ap (stmt_told s) (sym (stmt.rolls-Assume p b))
    ∙ fold-roll-Stmt StmtMeaning BlockMeaning (stmt_step s) block_step (stmt_layer.Assume p b)

pub stmt_Return : (s : Scope) (p : Place) (b : Expr)
    → stmt_told s (stmt.Return p b) ≡ stmt_step s (stmt_layer.Return p b)
stmt_Return s p b = ap (stmt_told s) (sym (stmt.rolls-Return p b))
    ∙ fold-roll-Stmt StmtMeaning BlockMeaning (stmt_step s) block_step (stmt_layer.Return p b)

pub block_is : (s : Scope) (p : Place) (ss : List Stmt)
    → of_block s (record { at = p; statements = ss })
    ≡ block_step (record { at = p; statements = map (stmt_told s) ss })
block_is s p ss = fold-roll-Block StmtMeaning BlockMeaning (stmt_step s) block_step (record { at = p; statements = ss })

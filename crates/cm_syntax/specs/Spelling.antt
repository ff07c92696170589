-- How a tree is written: a line an alternative of the grammar.
use Rattle.std.specs.Prelude.{ℕ, List, [], ◌∷◌, map}
use Rattle.cm_model.specs.declared.place.Place.{Place}
use Rattle.cm_tokens.specs.declared.token.Token.{Token}
use Rattle.cm_tokens.specs.declared.token.Token.TheVariants as token
use Rattle.cm_syntax.specs.Form.{Form, nothing, written, word, part, node, each_after}
use Rattle.cm_syntax.specs.declared.tree.Tree.{Tree}
use Rattle.cm_syntax.specs.declared.tree.Decl.{Decl}
use Rattle.cm_syntax.specs.declared.tree.Decl.TheVariants as decl
use Rattle.cm_syntax.specs.declared.tree.Num.{Num}
use Rattle.cm_syntax.specs.declared.tree.Num.TheVariants.{Digits, Negative}
use Rattle.cm_syntax.specs.declared.tree.Part.{Part}
use Rattle.cm_syntax.specs.declared.tree.«Type».{«Type» as TypeTree}
use Rattle.cm_syntax.specs.declared.tree.«Type».TheVariants as type
use Rattle.cm_syntax.specs.declared.tree.«Type».TheOpen as type_layer
use Rattle.cm_syntax.specs.declared.tree.«Type».TheFolds.{fold-Type}
use Rattle.cm_syntax.specs.declared.tree.Block.{Block}
use Rattle.cm_syntax.specs.declared.tree.Stmt.{Stmt}
use Rattle.cm_syntax.specs.declared.tree.Stmt.TheVariants as stmt
use Rattle.cm_syntax.specs.declared.tree.Stmt.TheOpen as stmt_layer
use Rattle.cm_syntax.specs.declared.tree.Stmt.TheFolds.{fold-Stmt, fold-Block}
use Rattle.cm_syntax.specs.declared.tree.Expr.{Expr}
use Rattle.cm_syntax.specs.declared.tree.Expr.TheVariants.{Single, All, Any}
use Rattle.cm_syntax.specs.declared.tree.Cmp.{Cmp}
use Rattle.cm_syntax.specs.declared.tree.Cmp.TheVariants.{Side, Compared}
use Rattle.cm_syntax.specs.declared.tree.Cmp.TheOpen as layer
use Rattle.cm_syntax.specs.declared.tree.Cmp.TheFolds.{fold-Cmp, fold-Expr, fold-Primary, fold-Sum, fold-Unary}
use Rattle.cm_syntax.specs.declared.tree.Cmp.TheFolds.{fold-Post, fold-Set}
use Rattle.cm_syntax.specs.declared.tree.Relation.{Relation}
use Rattle.cm_syntax.specs.declared.tree.Relation.TheVariants as relation
use Rattle.cm_syntax.specs.declared.tree.Sum.{Sum}
use Rattle.cm_syntax.specs.declared.tree.Sum.TheVariants.{Term, Plus, Minus}
use Rattle.cm_syntax.specs.declared.tree.Unary.{Unary}
use Rattle.cm_syntax.specs.declared.tree.Unary.TheVariants.{Bare, Not}
use Rattle.cm_syntax.specs.declared.tree.Post.{Post}
use Rattle.cm_syntax.specs.declared.tree.Set.{Set}
use Rattle.cm_syntax.specs.declared.tree.Cmp.TheViews.{roll-Post, roll-Set}
use Rattle.cm_syntax.specs.declared.tree.Primary.{Primary}
use Rattle.cm_syntax.specs.declared.tree.Primary.TheVariants as prim

-- names, each with a token in front
abbrev pub names_after : Token → List (List ℕ) → List Token → List Token
names_after t [] ts = ts
names_after t (n ∷ ns) ts = t ∷ token.Name n ∷ names_after t ns ts

-- things with commas between them
abbrev pub listed : {X : Type 0} → List (Form X) → Form (List X)
listed [] = record { writes = λ ts. ts; placed = λ at ts. [] }
listed (f ∷ fs) = node (λ at y. y.0 ∷ y.1.0) (part f (part (each_after token.Comma fs) nothing))

abbrev pub num_form : Num → Form Num
num_form (Digits p n) = node (λ at y. Digits at n) (word (token.Number n) nothing)
num_form (Negative p n) = node (λ at y. Negative at n) (word token.Minus (word (token.Number n) nothing))

-- Types

abbrev pub type_step : type_layer.Type-F (Form TypeTree) → Form TypeTree
type_step (type_layer.Bool p) = node (λ at y. type.Bool at) (word token.Bool nothing)
type_step (type_layer.Named p n) = node (λ at y. type.Named at n) (word (token.Name n) nothing)
type_step (type_layer.Optional p t) = node (λ at y. type.Optional at y.0)
    (word token.Option (word token.OpenRound (part t (word token.CloseRound nothing))))

abbrev pub type_form : TypeTree → Form TypeTree
type_form = fold-Type (Form TypeTree) type_step

abbrev pub part_form : Part → Form Part
part_form p = node (λ at y. record { at = at; name = p.name; value = y.0 }) (word (token.Name p.name)
    (word token.Colon (part (type_form p.value) nothing)))

-- Expressions

abbrev pub relation_token : Relation → Token
relation_token relation.Equal = token.Equal
relation_token relation.NotEqual = token.NotEqual
relation_token relation.Less = token.Less
relation_token relation.AtMost = token.AtMost
relation_token relation.Greater = token.Greater
relation_token relation.AtLeast = token.AtLeast

-- what a layer of expressions is made of once its parts are written
abbrev pub Layer : ((C E P S U O W : Type 0) → Type 0) → Type 0
Layer F = F (Form Cmp) (Form Expr) (Form Primary) (Form Sum) (Form Unary) (Form Post) (Form Set)

abbrev pub prim_step : Layer layer.Primary-F → Form Primary
prim_step (layer.Number p n) = node (λ at y. prim.Number at y.0) (part (num_form n) nothing)
prim_step (layer.True p) = node (λ at y. prim.True at) (word token.True nothing)
prim_step (layer.False p) = node (λ at y. prim.False at) (word token.False nothing)
prim_step (layer.It p) = node (λ at y. prim.It at) (word token.It nothing)
prim_step (layer.Name p n) = node (λ at y. prim.Name at n) (word (token.Name n) nothing)
prim_step (layer.Entry p n e) = node (λ at y. prim.Entry at n y.0)
    (word (token.Name n) (word token.OpenSquare (part e (word token.CloseSquare nothing))))
prim_step (layer.Apply p n es) = node (λ at y. prim.Apply at n y.0)
    (word (token.Name n) (word token.OpenRound (part (listed es) (word token.CloseRound nothing))))
prim_step (layer.NoneOf p t) = node (λ at y. prim.NoneOf at y.0)
    (word token.Nothing (word token.OpenRound (part (type_form t) (word token.CloseRound nothing))))
prim_step (layer.SomeOf p e) = node (λ at y. prim.SomeOf at y.0)
    (word token.Something (word token.OpenRound (part e (word token.CloseRound nothing))))
prim_step (layer.Group p e) = node (λ at y. prim.Group at y.0)
    (word token.OpenRound (part e (word token.CloseRound nothing)))

abbrev pub set_of : Place → List ℕ → Expr → Set
set_of p n e = roll-Set (record { at = p; field = n; value = e })

abbrev pub post_of : Place → Primary → List (List ℕ) → List Set → Post
post_of p q ns ss = roll-Post (record { at = p; prim = q; fields = ns; sets = ss })

abbrev pub set_step : Layer layer.Set-F → Form Set
set_step s = node (λ at y. set_of at s.field y.0) (word (token.Name s.field) (word token.Colon (part s.value nothing)))

-- the sets behind `with`, or nothing where there is none
abbrev pub sets_form : List (Form Set) → Form (List Set)
sets_form [] = record { writes = λ ts. ts; placed = λ at ts. [] }
sets_form (f ∷ fs) = node (λ at y. y.0 ∷ y.1.0)
    (word token.With (word token.OpenCurly (part f (part (each_after token.Comma fs) (word token.CloseCurly nothing)))))

abbrev pub post_step : Layer layer.Post-F → Form Post
post_step s = node (λ at y. post_of at y.0 s.fields y.1.0)
    (part s.prim (written (names_after token.Dot s.fields) (part (sets_form s.sets) nothing)))

abbrev pub unary_step : Layer layer.Unary-F → Form Unary
unary_step (layer.Bare p f) = node (λ at y. Bare at y.0) (part f nothing)
unary_step (layer.Not p f) = node (λ at y. Not at y.0) (word token.Not (part f nothing))

abbrev pub sum_step : Layer layer.Sum-F → Form Sum
sum_step (layer.Term p f) = node (λ at y. Term at y.0) (part f nothing)
sum_step (layer.Plus p f n) = node (λ at y. Plus at y.0 n) (part f (word token.Plus (word (token.Number n) nothing)))
sum_step (layer.Minus p f n) = node (λ at y. Minus at y.0 n) (part f (word token.Minus (word (token.Number n) nothing)))

abbrev pub cmp_step : Layer layer.Cmp-F → Form Cmp
cmp_step (layer.Side p f) = node (λ at y. Side at y.0) (part f nothing)
cmp_step (layer.Compared p f r g) = node (λ at y. Compared at y.0 r y.1.0)
    (part f (word (relation_token r) (part g nothing)))

abbrev pub expr_step : Layer layer.Expr-F → Form Expr
expr_step (layer.Single p f) = node (λ at y. Single at y.0) (part f nothing)
expr_step (layer.All p f g fs) = node (λ at y. All at y.0 y.1.0 y.1.1.0)
    (part f (word token.And (part g (part (each_after token.And fs) nothing))))
expr_step (layer.Any p f g fs) = node (λ at y. Any at y.0 y.1.0 y.1.1.0)
    (part f (word token.Or (part g (part (each_after token.Or fs) nothing))))

abbrev pub cmp_form : Cmp → Form Cmp
cmp_form = fold-Cmp (Form Cmp) (Form Expr) (Form Primary) (Form Sum) (Form Unary) (Form Post) (Form Set)
    cmp_step expr_step prim_step sum_step unary_step post_step set_step

abbrev pub expr_form : Expr → Form Expr
expr_form = fold-Expr (Form Cmp) (Form Expr) (Form Primary) (Form Sum) (Form Unary) (Form Post) (Form Set)
    cmp_step expr_step prim_step sum_step unary_step post_step set_step

abbrev pub prim_form : Primary → Form Primary
prim_form = fold-Primary (Form Cmp) (Form Expr) (Form Primary) (Form Sum) (Form Unary) (Form Post) (Form Set)
    cmp_step expr_step prim_step sum_step unary_step post_step set_step

abbrev pub sum_form : Sum → Form Sum
sum_form = fold-Sum (Form Cmp) (Form Expr) (Form Primary) (Form Sum) (Form Unary) (Form Post) (Form Set)
    cmp_step expr_step prim_step sum_step unary_step post_step set_step

abbrev pub unary_form : Unary → Form Unary
unary_form = fold-Unary (Form Cmp) (Form Expr) (Form Primary) (Form Sum) (Form Unary) (Form Post) (Form Set)
    cmp_step expr_step prim_step sum_step unary_step post_step set_step

abbrev pub post_form : Post → Form Post
post_form = fold-Post (Form Cmp) (Form Expr) (Form Primary) (Form Sum) (Form Unary) (Form Post) (Form Set)
    cmp_step expr_step prim_step sum_step unary_step post_step set_step

abbrev pub set_form : Set → Form Set
set_form = fold-Set (Form Cmp) (Form Expr) (Form Primary) (Form Sum) (Form Unary) (Form Post) (Form Set)
    cmp_step expr_step prim_step sum_step unary_step post_step set_step

-- Statements

-- things one after another
abbrev pub each : {X : Type 0} → List (Form X) → Form (List X)
each [] = record { writes = λ ts. ts; placed = λ at ts. [] }
each (f ∷ fs) = node (λ at y. y.0 ∷ y.1.0) (part f (part (each fs) nothing))

abbrev pub block_step : stmt_layer.Block-F (Form Stmt) (Form Block) → Form Block
block_step b = node (λ at y. record { at = at; statements = y.0 })
    (word token.OpenCurly (part (each b.statements) (word token.CloseCurly nothing)))

abbrev pub stmt_step : stmt_layer.Stmt-F (Form Stmt) (Form Block) → Form Stmt
stmt_step (stmt_layer.Let p n e) = node (λ at y. stmt.Let at n y.0)
    (word token.Let (word (token.Name n) (word token.Assign (part (expr_form e) (word token.Semicolon nothing)))))
stmt_step (stmt_layer.Assign p n e) = node (λ at y. stmt.Assign at n y.0)
    (word (token.Name n) (word token.Assign (part (expr_form e) (word token.Semicolon nothing))))
stmt_step (stmt_layer.AssignAt p n k e) = node (λ at y. stmt.AssignAt at n y.0 y.1.0)
    (word (token.Name n) (word token.OpenSquare
    (part (expr_form k) (word token.CloseSquare
    (word token.Assign (part (expr_form e) (word token.Semicolon nothing)))))))
stmt_step (stmt_layer.If p e b) = node (λ at y. stmt.If at y.0 y.1.0)
    (word token.If (part (expr_form e) (part b nothing)))
stmt_step (stmt_layer.IfElse p e b c) = node (λ at y. stmt.IfElse at y.0 y.1.0 y.1.1.0)
    (word token.If (part (expr_form e) (part b (word token.Else (part c nothing)))))
stmt_step (stmt_layer.Case p e b n c) = node (λ at y. stmt.Case at y.0 y.1.0 n y.1.1.0)
    (word token.Case (part (expr_form e)
    (word token.OpenCurly (word token.Nothing
    (part b (word token.Something (word (token.Name n) (part c (word token.CloseCurly nothing)))))))))
stmt_step (stmt_layer.Assume p e) = node (λ at y. stmt.Assume at y.0)
    (word token.Assume (part (expr_form e) (word token.Semicolon nothing)))
stmt_step (stmt_layer.Return p e) = node (λ at y. stmt.Return at y.0)
    (word token.Return (part (expr_form e) (word token.Semicolon nothing)))

abbrev pub stmt_form : Stmt → Form Stmt
stmt_form = fold-Stmt (Form Stmt) (Form Block) stmt_step block_step

abbrev pub block_form : Block → Form Block
block_form = fold-Block (Form Stmt) (Form Block) stmt_step block_step

-- Declarations

-- the parts behind `; internal`, or nothing where there is none
abbrev pub internal_form : List Part → Form (List Part)
internal_form [] = record { writes = λ ts. ts; placed = λ at ts. [] }
internal_form (p ∷ ps) = node (λ at y. y.0 ∷ y.1.0)
    (word token.Semicolon (word token.Internal (part (part_form p) (part (each_after token.Comma (map part_form ps))
    nothing))))

abbrev pub decl_form : Decl → Form Decl
decl_form (decl.Sort p n) = node (λ at y. decl.Sort at n)
    (word token.Sort (word (token.Name n) (word token.Semicolon nothing)))
decl_form (decl.Int p n low high) = node (λ at y. decl.Int at n y.0 y.1.0)
    (word token.Int (word (token.Name n)
    (part (num_form low) (word token.DotDot (part (num_form high) (word token.Semicolon nothing))))))
decl_form (decl.Enum p n m ms) = node (λ at y. decl.Enum at n m ms)
    (word token.Enum (word (token.Name n)
    (word token.OpenCurly (word (token.Name m) (written (names_after token.Comma ms)
    (word token.CloseCurly nothing))))))
decl_form (decl.Record p n q qs) = node (λ at y. decl.Record at n y.0 y.1.0)
    (word token.Record (word (token.Name n)
    (word token.OpenCurly (part (part_form q) (part (each_after token.Comma (map part_form qs))
    (word token.CloseCurly nothing))))))
decl_form (decl.Cell p n t) = node (λ at y. decl.Cell at n y.0)
    (word token.State (word (token.Name n) (word token.Colon (part (type_form t) (word token.Semicolon nothing)))))
decl_form (decl.CellWhere p n t e) = node (λ at y. decl.CellWhere at n y.0 y.1.0)
    (word token.State (word (token.Name n)
    (word token.Colon (part (type_form t) (word token.Where (part (expr_form e) (word token.Semicolon nothing)))))))
decl_form (decl.Map p n k t) = node (λ at y. decl.Map at n y.0 y.1.0)
    (word token.State (word (token.Name n)
    (word token.Colon (word token.Map
    (part (type_form k) (word token.Arrow (part (type_form t) (word token.Semicolon nothing))))))))
decl_form (decl.MapWhere p n k t e) = node (λ at y. decl.MapWhere at n y.0 y.1.0 y.1.1.0)
    (word token.State (word (token.Name n)
    (word token.Colon (word token.Map
    (part (type_form k) (word token.Arrow
    (part (type_form t) (word token.Where (part (expr_form e) (word token.Semicolon nothing))))))))))
decl_form (decl.Function p n ps t b) = node (λ at y. decl.Function at n y.0 y.1.0 y.1.1.0)
    (word token.Fn (word (token.Name n) (word token.OpenRound (part (listed (map part_form ps))
    (word token.CloseRound (word token.Arrow (part (type_form t) (part (block_form b) nothing))))))))
decl_form (decl.Call p n ps qs t b) = node (λ at y. decl.Call at n y.0 y.1.0 y.1.1.0 y.1.1.1.0)
    (word token.Call (word (token.Name n) (word token.OpenRound (part (listed (map part_form ps))
    (part (internal_form qs) (word token.CloseRound
    (word token.Arrow (part (type_form t) (part (block_form b) nothing)))))))))

abbrev pub tree_form : Tree → Form Tree
tree_form t = node (λ at y. record { at = at; first = y.0; more = y.1.0 }) (part (decl_form t.first)
    (part (each (map decl_form t.more)) (word token.End nothing)))

abbrev pub tokens_of : Tree → List Token
tokens_of t = (tree_form t).writes []

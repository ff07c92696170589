-- A machine that takes one token at a time; what is yet to come is a list of symbols. Only the clauses of the
-- functions that read a part of a text speak of it.
use Rattle.std.specs.Prelude.{◌≡◌, ℕ, Bool, true, false, List, [], ◌∷◌, ◌++◌, Option, Some, None, Result, Ok, Err}
use Rattle.std.specs.Prelude.{if◌then◌else◌}
use Rattle.cm_model.specs.declared.place.Place.{Place}
use Rattle.cm_tokens.specs.declared.token.Token.{Token}
use Rattle.cm_tokens.specs.declared.token.Token.TheVariants as token
use Rattle.cm_tokens.specs.declared.token.Placed.{Placed}
use Rattle.cm_syntax.specs.declared.mark.Mark.{Mark}
use Rattle.cm_syntax.specs.declared.mark.Mark.TheVariants as mark
use Rattle.cm_syntax.specs.declared.tree.Tree.{Tree}
use Rattle.cm_syntax.specs.declared.tree.Decl.{Decl}
use Rattle.cm_syntax.specs.declared.tree.Decl.TheVariants as decl
use Rattle.cm_syntax.specs.declared.tree.Num.{Num}
use Rattle.cm_syntax.specs.declared.tree.Num.TheVariants.{Digits, Negative}
use Rattle.cm_syntax.specs.declared.tree.Part.{Part}
use Rattle.cm_syntax.specs.declared.tree.«Type».{«Type» as TypeTree}
use Rattle.cm_syntax.specs.declared.tree.«Type».TheVariants as type
use Rattle.cm_syntax.specs.declared.tree.Block.{Block}
use Rattle.cm_syntax.specs.declared.tree.Stmt.{Stmt}
use Rattle.cm_syntax.specs.declared.tree.Stmt.TheVariants as stmt
use Rattle.cm_syntax.specs.declared.tree.Expr.{Expr}
use Rattle.cm_syntax.specs.declared.tree.Expr.TheVariants.{Single, All, Any}
use Rattle.cm_syntax.specs.declared.tree.Cmp.{Cmp}
use Rattle.cm_syntax.specs.declared.tree.Cmp.TheVariants.{Side, Compared}
use Rattle.cm_syntax.specs.declared.tree.Relation.TheVariants as relation
use Rattle.cm_syntax.specs.declared.tree.Sum.{Sum}
use Rattle.cm_syntax.specs.declared.tree.Sum.TheVariants.{Term, Plus, Minus}
use Rattle.cm_syntax.specs.declared.tree.Unary.{Unary}
use Rattle.cm_syntax.specs.declared.tree.Unary.TheVariants.{Bare, Not}
use Rattle.cm_syntax.specs.declared.tree.Post.{Post}
use Rattle.cm_syntax.specs.declared.tree.Set.{Set}
use Rattle.cm_syntax.specs.declared.tree.Primary.{Primary}
use Rattle.cm_syntax.specs.declared.tree.Primary.TheVariants as prim
use Rattle.cm_syntax.specs.declared.tails.AfterName.{AfterName}
use Rattle.cm_syntax.specs.declared.tails.AfterName.TheVariants as after
use Rattle.cm_syntax.specs.declared.tails.Offset.{Offset}
use Rattle.cm_syntax.specs.declared.tails.Offset.TheVariants as offset
use Rattle.cm_syntax.specs.declared.tails.RightSide.{RightSide}
use Rattle.cm_syntax.specs.declared.tails.RightSide.TheVariants as right
use Rattle.cm_syntax.specs.declared.tails.Joined.{Joined}
use Rattle.cm_syntax.specs.declared.tails.Joined.TheVariants as joined
use Rattle.cm_syntax.specs.declared.fault.SyntaxFault.{SyntaxFault}
use Rattle.cm_syntax.specs.declared.fault.SyntaxFault.TheVariants as fault
use Rattle.cm_syntax.specs.Spelling.{set_of, post_of}
use Rattle.cm_syntax.specs.declared.reader.Bracket.{Bracket}
use Rattle.cm_syntax.specs.declared.reader.Bracket.TheVariants.{Opens, Closes, Neither}
use Rattle.cm_syntax.specs.Text.{opens, closes, open_after, too_deep, place_of}

-- what may be yet to come: a mark, a name, a number, a rule of the grammar, or what may follow a part of one
pub data Symbol : Type 0 where
  Exactly : Mark → Symbol
  AName : Symbol
  ANumber : Symbol
  ANum : Symbol
  AType : Symbol
  APart : Symbol
  MoreParts : Symbol
  Params : Symbol
  Internals : Symbol
  MoreNames : Symbol
  Key : Symbol
  Where : Symbol
  ADecl : Symbol
  Decls : Symbol
  ABlock : Symbol
  Stmts : Symbol
  AStmt : Symbol
  Index : Symbol
  Else : Symbol
  AnExpr : Symbol
  MoreCmps : Symbol
  Ands : Symbol
  Ors : Symbol
  ACmp : Symbol
  Right : Symbol
  ASum : Symbol
  AnOffset : Symbol
  AUnary : Symbol
  APost : Symbol
  Fields : Symbol
  With : Symbol
  MoreSets : Symbol
  ASet : Symbol
  APrim : Symbol
  BehindName : Symbol
  Args : Symbol
  MoreArgs : Symbol
  Text : Symbol

abbrev pub ValueOf : Symbol → Type 0
ValueOf (Exactly m) = Unit {0}
ValueOf AName = List ℕ
ValueOf ANumber = ℕ
ValueOf ANum = Num
ValueOf AType = TypeTree
ValueOf APart = Part
ValueOf MoreParts = List Part
ValueOf Params = List Part
ValueOf Internals = List Part
ValueOf MoreNames = List (List ℕ)
ValueOf Key = Option TypeTree
ValueOf Where = Option Expr
ValueOf ADecl = Decl
ValueOf Decls = List Decl
ValueOf ABlock = Block
ValueOf Stmts = List Stmt
ValueOf AStmt = Stmt
ValueOf Index = Option Expr
ValueOf Else = Option Block
ValueOf AnExpr = Expr
ValueOf MoreCmps = Joined
ValueOf Ands = List Cmp
ValueOf Ors = List Cmp
ValueOf ACmp = Cmp
ValueOf Right = RightSide
ValueOf ASum = Sum
ValueOf AnOffset = Offset
ValueOf AUnary = Unary
ValueOf APost = Post
ValueOf Fields = List (List ℕ)
ValueOf With = List Set
ValueOf MoreSets = List Set
ValueOf ASet = Set
ValueOf APrim = Primary
ValueOf BehindName = AfterName
ValueOf Args = List Expr
ValueOf MoreArgs = List Expr
ValueOf Text = Tree

abbrev pub Stack : Type 0
Stack = List Symbol

abbrev pub Values : Stack → Type 0
Values [] = Unit {0}
Values (s ∷ st) = ValueOf s × Values st

-- One token, or the end of the tokens, at a stack.
pub data Shift (st : Stack) : Type 0 where
  Takes : (later : Stack) → (Values later → Values st) → Shift st
  Ends : Values st → Shift st
  Fails : Shift st

abbrev pub mapped : {a b : Stack} → (Values a → Values b) → Shift a → Shift b
mapped f (Takes later build) = Takes later (λ v. f (build v))
mapped f (Ends v) = Ends (f v)
mapped f Fails = Fails

-- Marks, names and numbers

abbrev pub is_mark : Mark → Token → Bool
is_mark mark.Semicolon token.Semicolon = true
is_mark mark.Colon token.Colon = true
is_mark mark.DotDot token.DotDot = true
is_mark mark.OpenRound token.OpenRound = true
is_mark mark.CloseRound token.CloseRound = true
is_mark mark.CloseSquare token.CloseSquare = true
is_mark mark.OpenCurly token.OpenCurly = true
is_mark mark.CloseCurly token.CloseCurly = true
is_mark mark.Assign token.Assign = true
is_mark mark.Arrow token.Arrow = true
is_mark mark.Nothing token.Nothing = true
is_mark mark.Something token.Something = true
is_mark mark.Internal token.Internal = true
is_mark m t = false

abbrev pub mark_at : Mark → Option Token → (st : Stack) → Shift st
mark_at m None st = Fails
mark_at m (Some t) st = if is_mark m t then Takes st (λ v. v) else Fails

abbrev pub is_next : Mark → Option Token → Bool
is_next m None = false
is_next m (Some t) = is_mark m t

abbrev pub exactly_at : (m : Mark) → Option Token → (st : Stack) → Shift (Exactly m ∷ st)
exactly_at m o st = mapped (λ v. (tt, v)) (mark_at m o st)

abbrev pub name_at : Option Token → (st : Stack) → Shift (AName ∷ st)
name_at (Some (token.Name n)) st = Takes st (λ v. (n, v))
name_at _ st = Fails

abbrev pub number_at : Option Token → (st : Stack) → Shift (ANumber ∷ st)
number_at (Some (token.Number n)) st = Takes st (λ v. (n, v))
number_at _ st = Fails

abbrev pub num_at : Option Token → Place → (st : Stack) → Shift (ANum ∷ st)
num_at (Some (token.Number n)) a st = Takes st (λ v. (Digits a n, v))
num_at (Some token.Minus) a st = Takes (ANumber ∷ st) (λ v. (Negative a v.0, v.1))
num_at _ a st = Fails

-- Types and parts

abbrev pub type_at : Option Token → Place → (st : Stack) → Shift (AType ∷ st)
type_at (Some token.Bool) a st = Takes st (λ v. (type.Bool a, v))
type_at (Some (token.Name n)) a st = Takes st (λ v. (type.Named a n, v))
type_at (Some token.Option) a st = Takes (Exactly mark.OpenRound ∷ AType ∷ Exactly mark.CloseRound ∷ st)
    (λ v. (type.Optional a v.1.0, v.1.1.1))
type_at _ a st = Fails

abbrev pub part_of : Place → List ℕ → TypeTree → Part
part_of a n t = record { at = a; name = n; value = t }

abbrev pub part_at : Option Token → Place → (st : Stack) → Shift (APart ∷ st)
part_at o a st = mapped (λ v. (part_of a v.0 v.1.1.0, v.1.1.1)) (name_at o (Exactly mark.Colon ∷ AType ∷ st))

abbrev pub more_parts_at : Option Token → (st : Stack) → Shift st → Shift (MoreParts ∷ st)
more_parts_at (Some token.Comma) st next = Takes (APart ∷ MoreParts ∷ st) (λ v. (v.0 ∷ v.1.0, v.1.1))
more_parts_at _ st next = mapped (λ v. ([], v)) next

abbrev pub params_at : Option Token → Place → (st : Stack) → Shift st → Shift (Params ∷ st)
params_at (Some (token.Name n)) a st next = mapped (λ v. (v.0 ∷ v.1.0, v.1.1))
    (part_at (Some (token.Name n)) a (MoreParts ∷ st))
params_at _ a st next = mapped (λ v. ([], v)) next

abbrev pub internals_at : Option Token → (st : Stack) → Shift st → Shift (Internals ∷ st)
internals_at (Some token.Semicolon) st next = Takes (Exactly mark.Internal ∷ APart ∷ MoreParts ∷ st)
    (λ v. (v.1.0 ∷ v.1.1.0, v.1.1.1))
internals_at _ st next = mapped (λ v. ([], v)) next

abbrev pub more_names_at : Option Token → (st : Stack) → Shift st → Shift (MoreNames ∷ st)
more_names_at (Some token.Comma) st next = Takes (AName ∷ MoreNames ∷ st) (λ v. (v.0 ∷ v.1.0, v.1.1))
more_names_at _ st next = mapped (λ v. ([], v)) next

-- Expressions

abbrev pub after_name : Place → List ℕ → AfterName → Primary
after_name a n after.Nothing = prim.Name a n
after_name a n (after.Key e) = prim.Entry a n e
after_name a n (after.Args es) = prim.Apply a n es

abbrev pub sum_of : Place → Unary → Offset → Sum
sum_of a u offset.Nothing = Term a u
sum_of a u (offset.Plus n) = Plus a u n
sum_of a u (offset.Minus n) = Minus a u n

abbrev pub cmp_of : Place → Sum → RightSide → Cmp
cmp_of a s right.Nothing = Side a s
cmp_of a s (right.Related r t) = Compared a s r t

abbrev pub expr_of : Place → Cmp → Joined → Expr
expr_of a c joined.Nothing = Single a c
expr_of a c (joined.And d more) = All a c d more
expr_of a c (joined.Or d more) = Any a c d more

abbrev pub prim_at : Option Token → Place → (st : Stack) → Shift (APrim ∷ st)
prim_at (Some (token.Number n)) a st = mapped (λ v. (prim.Number a v.0, v.1)) (num_at (Some (token.Number n)) a st)
prim_at (Some token.Minus) a st = mapped (λ v. (prim.Number a v.0, v.1)) (num_at (Some token.Minus) a st)
prim_at (Some token.True) a st = Takes st (λ v. (prim.True a, v))
prim_at (Some token.False) a st = Takes st (λ v. (prim.False a, v))
prim_at (Some token.It) a st = Takes st (λ v. (prim.It a, v))
prim_at (Some (token.Name n)) a st = Takes (BehindName ∷ st) (λ v. (after_name a n v.0, v.1))
prim_at (Some token.Nothing) a st = Takes (Exactly mark.OpenRound ∷ AType ∷ Exactly mark.CloseRound ∷ st)
    (λ v. (prim.NoneOf a v.1.0, v.1.1.1))
prim_at (Some token.Something) a st = Takes (Exactly mark.OpenRound ∷ AnExpr ∷ Exactly mark.CloseRound ∷ st)
    (λ v. (prim.SomeOf a v.1.0, v.1.1.1))
prim_at (Some token.OpenRound) a st = Takes (AnExpr ∷ Exactly mark.CloseRound ∷ st) (λ v. (prim.Group a v.0, v.1.1))
prim_at _ a st = Fails

abbrev pub behind_name_at : Option Token → (st : Stack) → Shift st → Shift (BehindName ∷ st)
behind_name_at (Some token.OpenSquare) st next = Takes (AnExpr ∷ Exactly mark.CloseSquare ∷ st)
    (λ v. (after.Key v.0, v.1.1))
behind_name_at (Some token.OpenRound) st next = Takes (Args ∷ st) (λ v. (after.Args v.0, v.1))
behind_name_at _ st next = mapped (λ v. (after.Nothing, v)) next

abbrev pub fields_at : Option Token → (st : Stack) → Shift st → Shift (Fields ∷ st)
fields_at (Some token.Dot) st next = Takes (AName ∷ Fields ∷ st) (λ v. (v.0 ∷ v.1.0, v.1.1))
fields_at _ st next = mapped (λ v. ([], v)) next

abbrev pub set_at : Option Token → Place → (st : Stack) → Shift (ASet ∷ st)
set_at o a st = mapped (λ v. (set_of a v.0 v.1.1.0, v.1.1.1)) (name_at o (Exactly mark.Colon ∷ AnExpr ∷ st))

abbrev pub more_sets_at : Option Token → (st : Stack) → Shift st → Shift (MoreSets ∷ st)
more_sets_at (Some token.Comma) st next = Takes (ASet ∷ MoreSets ∷ st) (λ v. (v.0 ∷ v.1.0, v.1.1))
more_sets_at _ st next = mapped (λ v. ([], v)) next

abbrev pub with_at : Option Token → (st : Stack) → Shift st → Shift (With ∷ st)
with_at (Some token.With) st next = Takes (Exactly mark.OpenCurly ∷ ASet ∷ MoreSets ∷ Exactly mark.CloseCurly ∷ st)
    (λ v. (v.1.0 ∷ v.1.1.0, v.1.1.1.1))
with_at _ st next = mapped (λ v. ([], v)) next

abbrev pub post_at : Option Token → Place → (st : Stack) → Shift (APost ∷ st)
post_at o a st = mapped (λ v. (post_of a v.0 v.1.0 v.1.1.0, v.1.1.1)) (prim_at o a (Fields ∷ With ∷ st))

abbrev pub unary_at : Option Token → Place → (st : Stack) → Shift (AUnary ∷ st)
unary_at (Some token.Not) a st = Takes (APost ∷ st) (λ v. (Not a v.0, v.1))
unary_at o a st = mapped (λ v. (Bare a v.0, v.1)) (post_at o a st)

abbrev pub offset_at : Option Token → (st : Stack) → Shift st → Shift (AnOffset ∷ st)
offset_at (Some token.Plus) st next = Takes (ANumber ∷ st) (λ v. (offset.Plus v.0, v.1))
offset_at (Some token.Minus) st next = Takes (ANumber ∷ st) (λ v. (offset.Minus v.0, v.1))
offset_at _ st next = mapped (λ v. (offset.Nothing, v)) next

abbrev pub sum_at : Option Token → Place → (st : Stack) → Shift (ASum ∷ st)
sum_at o a st = mapped (λ v. (sum_of a v.0 v.1.0, v.1.1)) (unary_at o a (AnOffset ∷ st))

abbrev pub right_at : Option Token → (st : Stack) → Shift st → Shift (Right ∷ st)
right_at (Some token.Equal) st next = Takes (ASum ∷ st) (λ v. (right.Related relation.Equal v.0, v.1))
right_at (Some token.NotEqual) st next = Takes (ASum ∷ st) (λ v. (right.Related relation.NotEqual v.0, v.1))
right_at (Some token.Less) st next = Takes (ASum ∷ st) (λ v. (right.Related relation.Less v.0, v.1))
right_at (Some token.AtMost) st next = Takes (ASum ∷ st) (λ v. (right.Related relation.AtMost v.0, v.1))
right_at (Some token.Greater) st next = Takes (ASum ∷ st) (λ v. (right.Related relation.Greater v.0, v.1))
right_at (Some token.AtLeast) st next = Takes (ASum ∷ st) (λ v. (right.Related relation.AtLeast v.0, v.1))
right_at _ st next = mapped (λ v. (right.Nothing, v)) next

abbrev pub cmp_at : Option Token → Place → (st : Stack) → Shift (ACmp ∷ st)
cmp_at o a st = mapped (λ v. (cmp_of a v.0 v.1.0, v.1.1)) (sum_at o a (Right ∷ st))

abbrev pub more_cmps_at : Option Token → (st : Stack) → Shift st → Shift (MoreCmps ∷ st)
more_cmps_at (Some token.And) st next = Takes (ACmp ∷ Ands ∷ st) (λ v. (joined.And v.0 v.1.0, v.1.1))
more_cmps_at (Some token.Or) st next = Takes (ACmp ∷ Ors ∷ st) (λ v. (joined.Or v.0 v.1.0, v.1.1))
more_cmps_at _ st next = mapped (λ v. (joined.Nothing, v)) next

abbrev pub ands_at : Option Token → (st : Stack) → Shift st → Shift (Ands ∷ st)
ands_at (Some token.And) st next = Takes (ACmp ∷ Ands ∷ st) (λ v. (v.0 ∷ v.1.0, v.1.1))
ands_at _ st next = mapped (λ v. ([], v)) next

abbrev pub ors_at : Option Token → (st : Stack) → Shift st → Shift (Ors ∷ st)
ors_at (Some token.Or) st next = Takes (ACmp ∷ Ors ∷ st) (λ v. (v.0 ∷ v.1.0, v.1.1))
ors_at _ st next = mapped (λ v. ([], v)) next

abbrev pub expr_at : Option Token → Place → (st : Stack) → Shift (AnExpr ∷ st)
expr_at o a st = mapped (λ v. (expr_of a v.0 v.1.0, v.1.1)) (cmp_at o a (MoreCmps ∷ st))

-- the arguments and the bracket that closes them
abbrev pub args_at : Option Token → Place → (st : Stack) → Shift (Args ∷ st)
args_at (Some token.CloseRound) a st = Takes st (λ v. ([], v))
args_at o a st = mapped (λ v. (v.0 ∷ v.1.0, v.1.1.1)) (expr_at o a (MoreArgs ∷ Exactly mark.CloseRound ∷ st))

abbrev pub more_args_at : Option Token → (st : Stack) → Shift st → Shift (MoreArgs ∷ st)
more_args_at (Some token.Comma) st next = Takes (AnExpr ∷ MoreArgs ∷ st) (λ v. (v.0 ∷ v.1.0, v.1.1))
more_args_at _ st next = mapped (λ v. ([], v)) next

-- Statements

abbrev pub assign_of : Place → List ℕ → Option Expr → Expr → Stmt
assign_of a n None e = stmt.Assign a n e
assign_of a n (Some k) e = stmt.AssignAt a n k e

abbrev pub if_of : Place → Expr → Block → Option Block → Stmt
if_of a e b None = stmt.If a e b
if_of a e b (Some c) = stmt.IfElse a e b c

abbrev pub block_of : Place → List Stmt → Block
block_of a ss = record { at = a; statements = ss }

abbrev pub block_at : Option Token → Place → (st : Stack) → Shift (ABlock ∷ st)
block_at (Some token.OpenCurly) a st = Takes (Stmts ∷ st) (λ v. (block_of a v.0, v.1))
block_at _ a st = Fails

abbrev pub stmt_at : Option Token → Place → (st : Stack) → Shift (AStmt ∷ st)
stmt_at (Some token.Let) a st = Takes (AName ∷ Exactly mark.Assign ∷ AnExpr ∷ Exactly mark.Semicolon ∷ st)
    (λ v. (stmt.Let a v.0 v.1.1.0, v.1.1.1.1))
stmt_at (Some (token.Name n)) a st = Takes (Index ∷ Exactly mark.Assign ∷ AnExpr ∷ Exactly mark.Semicolon ∷ st)
    (λ v. (assign_of a n v.0 v.1.1.0, v.1.1.1.1))
stmt_at (Some token.If) a st = Takes (AnExpr ∷ ABlock ∷ Else ∷ st) (λ v. (if_of a v.0 v.1.0 v.1.1.0, v.1.1.1))
stmt_at (Some token.Case) a st = Takes (AnExpr ∷ Exactly mark.OpenCurly ∷ Exactly mark.Nothing ∷ ABlock
    ∷ Exactly mark.Something ∷ AName ∷ ABlock ∷ Exactly mark.CloseCurly ∷ st)
    (λ v. (stmt.Case a v.0 v.1.1.1.0 v.1.1.1.1.1.0 v.1.1.1.1.1.1.0, v.1.1.1.1.1.1.1.1))
stmt_at (Some token.Assume) a st = Takes (AnExpr ∷ Exactly mark.Semicolon ∷ st) (λ v. (stmt.Assume a v.0, v.1.1))
stmt_at (Some token.Return) a st = Takes (AnExpr ∷ Exactly mark.Semicolon ∷ st) (λ v. (stmt.Return a v.0, v.1.1))
stmt_at _ a st = Fails

abbrev pub index_at : Option Token → (st : Stack) → Shift st → Shift (Index ∷ st)
index_at (Some token.OpenSquare) st next = Takes (AnExpr ∷ Exactly mark.CloseSquare ∷ st) (λ v. (Some v.0, v.1.1))
index_at _ st next = mapped (λ v. (None, v)) next

abbrev pub else_at : Option Token → (st : Stack) → Shift st → Shift (Else ∷ st)
else_at (Some token.Else) st next = Takes (ABlock ∷ st) (λ v. (Some v.0, v.1))
else_at _ st next = mapped (λ v. (None, v)) next

-- the statements of a block and the bracket that closes it
abbrev pub stmts_at : Option Token → Place → (st : Stack) → Shift (Stmts ∷ st)
stmts_at (Some token.CloseCurly) a st = Takes st (λ v. ([], v))
stmts_at o a st = mapped (λ v. (v.0 ∷ v.1.0, v.1.1)) (stmt_at o a (Stmts ∷ st))

-- Declarations

abbrev pub state_of : Place → List ℕ → Option TypeTree → TypeTree → Option Expr → Decl
state_of a n None t None = decl.Cell a n t
state_of a n None t (Some e) = decl.CellWhere a n t e
state_of a n (Some k) t None = decl.Map a n k t
state_of a n (Some k) t (Some e) = decl.MapWhere a n k t e

abbrev pub key_at : Option Token → (st : Stack) → Shift st → Shift (Key ∷ st)
key_at (Some token.Map) st next = Takes (AType ∷ Exactly mark.Arrow ∷ st) (λ v. (Some v.0, v.1.1))
key_at _ st next = mapped (λ v. (None, v)) next

abbrev pub where_at : Option Token → (st : Stack) → Shift st → Shift (Where ∷ st)
where_at (Some token.Where) st next = Takes (AnExpr ∷ st) (λ v. (Some v.0, v.1))
where_at _ st next = mapped (λ v. (None, v)) next

abbrev pub decl_at : Option Token → Place → (st : Stack) → Shift (ADecl ∷ st)
decl_at (Some token.Sort) a st = Takes (AName ∷ Exactly mark.Semicolon ∷ st) (λ v. (decl.Sort a v.0, v.1.1))
decl_at (Some token.Int) a st = Takes (AName ∷ ANum ∷ Exactly mark.DotDot ∷ ANum ∷ Exactly mark.Semicolon ∷ st)
    (λ v. (decl.Int a v.0 v.1.0 v.1.1.1.0, v.1.1.1.1.1))
decl_at (Some token.Enum) a st = Takes (AName ∷ Exactly mark.OpenCurly ∷ AName ∷ MoreNames ∷ Exactly mark.CloseCurly
    ∷ st) (λ v. (decl.Enum a v.0 v.1.1.0 v.1.1.1.0, v.1.1.1.1.1))
decl_at (Some token.Record) a st = Takes (AName ∷ Exactly mark.OpenCurly ∷ APart ∷ MoreParts ∷ Exactly mark.CloseCurly
    ∷ st) (λ v. (decl.Record a v.0 v.1.1.0 v.1.1.1.0, v.1.1.1.1.1))
decl_at (Some token.State) a st = Takes (AName ∷ Exactly mark.Colon ∷ Key ∷ AType ∷ Where ∷ Exactly mark.Semicolon ∷ st)
    (λ v. (state_of a v.0 v.1.1.0 v.1.1.1.0 v.1.1.1.1.0, v.1.1.1.1.1.1))
decl_at (Some token.Fn) a st = Takes (AName ∷ Exactly mark.OpenRound ∷ Params ∷ Exactly mark.CloseRound
    ∷ Exactly mark.Arrow ∷ AType ∷ ABlock ∷ st) (λ v. (
      decl.Function a v.0 v.1.1.0 v.1.1.1.1.1.0 v.1.1.1.1.1.1.0,
      v.1.1.1.1.1.1.1,
    ))
decl_at (Some token.Call) a st = Takes (AName ∷ Exactly mark.OpenRound ∷ Params ∷ Internals ∷ Exactly mark.CloseRound
    ∷ Exactly mark.Arrow ∷ AType ∷ ABlock ∷ st) (λ v. (
      decl.Call a v.0 v.1.1.0 v.1.1.1.0 v.1.1.1.1.1.1.0
          v.1.1.1.1.1.1.1.0,
      v.1.1.1.1.1.1.1.1,
    ))
decl_at _ a st = Fails

-- the declarations and the end of the text
abbrev pub decls_at : Option Token → Place → (st : Stack) → Shift (Decls ∷ st)
decls_at (Some token.End) a st = Takes st (λ v. ([], v))
decls_at o a st = mapped (λ v. (v.0 ∷ v.1.0, v.1.1)) (decl_at o a (Decls ∷ st))

abbrev pub tree_of : Place → Decl → List Decl → Tree
tree_of a d ds = record { at = a; first = d; more = ds }

abbrev pub text_at : Option Token → Place → (st : Stack) → Shift (Text ∷ st)
text_at o a st = mapped (λ v. (tree_of a v.0 v.1.0, v.1.1)) (decl_at o a (Decls ∷ st))

-- The machine

abbrev pub symbol_at : (s : Symbol) → Option Token → Place → (st : Stack) → Shift st → Shift (s ∷ st)
symbol_at (Exactly m) o a st next = exactly_at m o st
symbol_at AName o a st next = name_at o st
symbol_at ANumber o a st next = number_at o st
symbol_at ANum o a st next = num_at o a st
symbol_at AType o a st next = type_at o a st
symbol_at APart o a st next = part_at o a st
symbol_at MoreParts o a st next = more_parts_at o st next
symbol_at Params o a st next = params_at o a st next
symbol_at Internals o a st next = internals_at o st next
symbol_at MoreNames o a st next = more_names_at o st next
symbol_at Key o a st next = key_at o st next
symbol_at Where o a st next = where_at o st next
symbol_at ADecl o a st next = decl_at o a st
symbol_at Decls o a st next = decls_at o a st
symbol_at ABlock o a st next = block_at o a st
symbol_at Stmts o a st next = stmts_at o a st
symbol_at AStmt o a st next = stmt_at o a st
symbol_at Index o a st next = index_at o st next
symbol_at Else o a st next = else_at o st next
symbol_at AnExpr o a st next = expr_at o a st
symbol_at MoreCmps o a st next = more_cmps_at o st next
symbol_at Ands o a st next = ands_at o st next
symbol_at Ors o a st next = ors_at o st next
symbol_at ACmp o a st next = cmp_at o a st
symbol_at Right o a st next = right_at o st next
symbol_at ASum o a st next = sum_at o a st
symbol_at AnOffset o a st next = offset_at o st next
symbol_at AUnary o a st next = unary_at o a st
symbol_at APost o a st next = post_at o a st
symbol_at Fields o a st next = fields_at o st next
symbol_at With o a st next = with_at o st next
symbol_at MoreSets o a st next = more_sets_at o st next
symbol_at ASet o a st next = set_at o a st
symbol_at APrim o a st next = prim_at o a st
symbol_at BehindName o a st next = behind_name_at o st next
symbol_at Args o a st next = args_at o a st
symbol_at MoreArgs o a st next = more_args_at o st next
symbol_at Text o a st next = text_at o a st

abbrev pub shift : (st : Stack) → Option Token → Place → Shift st
shift [] None a = Ends tt
shift [] (Some t) a = Fails
shift (s ∷ st) o a = symbol_at s o a st (shift st o a)

-- a fault, with the tokens that are left where it is
pub data Stop : Type 0 where
  Syntax : List Placed → Stop
  Deep : List Placed → Stop

abbrev pub Answer : Type 0
Answer = Result Tree Stop

abbrev pub ended : {st : Stack} → (Values st → Tree) → Shift st → Answer
ended k (Ends v) = Ok (k v)
ended k (Takes later build) = Err (Syntax [])
ended k Fails = Err (Syntax [])

abbrev pub moved : {st : Stack} → List Placed → (Values st → Tree) → Shift st
    → ((later : Stack) → (Values later → Tree) → Answer) → Answer
moved left k (Takes later build) go = go later (λ v. k (build v))
moved left k (Ends v) go = Err (Syntax left)
moved left k Fails go = Err (Syntax left)

-- What the tokens give, with n brackets open, at what is yet to come, and what its values make.
abbrev pub reading : ℕ → (st : Stack) → (Values st → Tree) → List Placed → Answer
reading n st k [] = ended k (shift st None (place_of []))
reading n st k (p ∷ ps) =
    moved (p ∷ ps) k (shift st (Some p.token) p.at) (λ later j. if too_deep n p.token then Err (Deep (p ∷ ps))
    else reading (open_after n p.token) later j ps)

-- the same with no limit
abbrev pub running : (st : Stack) → (Values st → Tree) → List Placed → Answer
running st k [] = ended k (shift st None (place_of []))
running st k (p ∷ ps) = moved (p ∷ ps) k (shift st (Some p.token) p.at) (λ later j. running later j ps)

-- whether a token opens a bracket, closes one or does neither
abbrev pub bracket_of : Token → Bracket
bracket_of t = if opens t then Opens else (if closes t then Closes else Neither)

-- tests of the next token

abbrev pub starts_number : Option Token → Bool
starts_number (Some (token.Number n)) = true
starts_number _ = false

abbrev pub starts_num : Option Token → Bool
starts_num (Some (token.Number n)) = true
starts_num (Some token.Minus) = true
starts_num _ = false

abbrev pub starts_name : Option Token → Bool
starts_name (Some (token.Name n)) = true
starts_name _ = false

abbrev pub no_name : Option Token → Bool
no_name (Some (token.Name n)) = false
no_name _ = true

abbrev pub no_relation : Option Token → Bool
no_relation (Some token.Equal) = false
no_relation (Some token.NotEqual) = false
no_relation (Some token.Less) = false
no_relation (Some token.AtMost) = false
no_relation (Some token.Greater) = false
no_relation (Some token.AtLeast) = false
no_relation _ = true

abbrev pub no_close_curly : Option Token → Bool
no_close_curly (Some token.CloseCurly) = false
no_close_curly _ = true

abbrev pub no_end : Option Token → Bool
no_end (Some token.End) = false
no_end _ = true

abbrev pub no_close_round : Option Token → Bool
no_close_round (Some token.CloseRound) = false
no_close_round _ = true

abbrev pub no_not : Option Token → Bool
no_not (Some token.Not) = false
no_not _ = true

-- What lies ahead of a reader: the tokens left, and how many brackets are open before them.
pub record Ahead : Type 0 where
  pub opened : ℕ
  pub left : List Placed

abbrev pub head : List Placed → Option Token
head [] = None
head (p ∷ ps) = Some p.token

-- The symbol is read to this value, and this lies ahead then.
unfoldable pub Gives : (s : Symbol) → Ahead → ValueOf s → Ahead → Type 0
Gives s a x b = (st : Stack) (k : Values (s ∷ st) → Tree) → reading a.opened (s ∷ st) k a.left
    ≡ reading b.opened st (λ v. k (x, v)) b.left

abbrev pub followed_by : {X : Type 0} → List X → List X → List X
followed_by xs ys = xs ++ ys

-- The symbol is partly read, to this; its value is this joined with the value of what is left of it.
unfoldable pub Partly : (s : Symbol) → (ValueOf s → ValueOf s → ValueOf s) → ValueOf s → Ahead → Ahead → Type 0
Partly s join x a b = (st : Stack) (k : Values (s ∷ st) → Tree) → reading a.opened (s ∷ st) k a.left
    ≡ reading b.opened (s ∷ st) (λ v. k (join x v.0, v.1)) b.left

-- The symbol can't be read, and this is why.
unfoldable pub Stops : Symbol → Ahead → SyntaxFault → Type 0
Stops s a fault.Memory = Unit {0}
Stops s a (fault.Syntax place) = (left : List Placed) × (place_of left ≡ place)
    × ((st : Stack) (k : Values (s ∷ st) → Tree) → reading a.opened (s ∷ st) k a.left ≡ Err (Syntax left))
Stops s a (fault.Deep place) = (left : List Placed) × (place_of left ≡ place)
    × ((st : Stack) (k : Values (s ∷ st) → Tree) → reading a.opened (s ∷ st) k a.left ≡ Err (Deep left))

-- What a function that reads a symbol says.
abbrev pub Reads : {X : Type 0} → (s : Symbol) → (X → ValueOf s) → Ahead → Ahead → Result X SyntaxFault → Type 0
Reads s value a b (Ok x) = Gives s a (value x) b
Reads s value a b (Err e) = Stops s a e

-- The next token, at this place, is passed, and this lies ahead then.
unfoldable pub Passes : Ahead → Place → Ahead → Type 0
Passes a place b = (p : Placed) × (a.left ≡ p ∷ b.left) × (p.at ≡ place) × (too_deep a.opened p.token ≡ false)
    × (b.opened ≡ open_after a.opened p.token)

-- The next token can't be passed: there is none, or it opens a 65th bracket.
unfoldable pub Halts : Ahead → SyntaxFault → Type 0
Halts a fault.Memory = Unit {0}
Halts a (fault.Syntax place) = (a.left ≡ []) × (place_of a.left ≡ place)
Halts a (fault.Deep place) = (p : Placed) × (rest : List Placed) × (a.left ≡ p ∷ rest) × (p.at ≡ place)
    × (too_deep a.opened p.token ≡ true)

abbrev pub PassesOr : Ahead → Ahead → Result Place SyntaxFault → Type 0
PassesOr a b (Ok place) = Passes a place b
PassesOr a b (Err e) = Halts a e

-- the answer to a whole text
abbrev pub answer_of : List Placed → Answer
answer_of text = reading 0 (Text ∷ []) (λ v. v.0) text

-- What is answered to a text by a function of the reader.
unfoldable pub Answers : List Placed → Result Tree SyntaxFault → Type 0
Answers text (Ok t) = answer_of text ≡ Ok t
Answers text (Err fault.Memory) = Unit {0}
Answers text (Err (fault.Syntax place)) = (left : List Placed) × (place_of left ≡ place)
    × (answer_of text ≡ Err (Syntax left))
Answers text (Err (fault.Deep place)) = (left : List Placed) × (place_of left ≡ place)
    × (answer_of text ≡ Err (Deep left))

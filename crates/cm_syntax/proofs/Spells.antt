-- Each step of the machine takes the token that its values begin with.
use Rattle.std.proofs.Common.{◌≡◌, ℕ, Bool, true, false, List, [], ◌∷◌, map, Option, Some, None, refl, ap, ◌∙◌}
use Rattle.std.proofs.Common.{if◌then◌else◌}
use Rattle.cm_model.specs.declared.place.Place.{Place}
use Rattle.cm_tokens.specs.declared.token.Token.{Token}
use Rattle.cm_tokens.specs.declared.token.Token.TheVariants as token
use Rattle.cm_syntax.specs.declared.mark.Mark.{Mark}
use Rattle.cm_syntax.specs.declared.mark.Mark.TheVariants as mark
use Rattle.cm_syntax.specs.declared.tree.Decl.{Decl}
use Rattle.cm_syntax.specs.declared.tree.Decl.TheVariants as decl
use Rattle.cm_syntax.specs.declared.tree.Num.TheVariants.{Digits, Negative}
use Rattle.cm_syntax.specs.declared.tree.«Type».{«Type» as TypeTree}
use Rattle.cm_syntax.specs.declared.tree.«Type».TheVariants as type
use Rattle.cm_syntax.specs.declared.tree.Block.{Block}
use Rattle.cm_syntax.specs.declared.tree.Stmt.TheVariants as stmt
use Rattle.cm_syntax.specs.declared.tree.Expr.{Expr}
use Rattle.cm_syntax.specs.declared.tree.Expr.TheVariants as expr
use Rattle.cm_syntax.specs.declared.tree.Cmp.{Cmp}
use Rattle.cm_syntax.specs.declared.tree.Cmp.TheVariants as cmp
use Rattle.cm_syntax.specs.declared.tree.Sum.{Sum}
use Rattle.cm_syntax.specs.declared.tree.Sum.TheVariants as sum
use Rattle.cm_syntax.specs.declared.tree.Unary.{Unary}
use Rattle.cm_syntax.specs.declared.tree.Unary.TheVariants as unary
use Rattle.cm_syntax.specs.declared.tree.Primary.TheVariants as prim
use Rattle.cm_syntax.specs.declared.tails.AfterName.{AfterName}
use Rattle.cm_syntax.specs.declared.tails.AfterName.TheVariants as after
use Rattle.cm_syntax.specs.declared.tails.Offset.{Offset}
use Rattle.cm_syntax.specs.declared.tails.Offset.TheVariants as offset
use Rattle.cm_syntax.specs.declared.tails.RightSide.{RightSide}
use Rattle.cm_syntax.specs.declared.tails.RightSide.TheVariants as right
use Rattle.cm_syntax.specs.declared.tails.Joined.{Joined}
use Rattle.cm_syntax.specs.declared.tails.Joined.TheVariants as joined
use Rattle.cm_syntax.specs.Form.{each_after}
use Rattle.cm_syntax.specs.Spelling.{names_after, listed, each, num_form, type_form, part_form, set_of, post_of}
use Rattle.cm_syntax.specs.Spelling.{relation_token, sets_form, cmp_form, expr_form, prim_form, sum_form, unary_form}
use Rattle.cm_syntax.specs.Spelling.{post_form, set_form, stmt_form, block_form, internal_form, decl_form, tree_form}
use Rattle.cm_syntax.specs.inner.Machine as m
use Rattle.cm_syntax.specs.inner.Machine.{Symbol, Exactly, AName, ANumber, ANum, AType, APart, MoreParts, Params}
use Rattle.cm_syntax.specs.inner.Machine.{Internals, MoreNames, Key, Where, ADecl, Decls, ABlock, Stmts, AStmt, Index}
use Rattle.cm_syntax.specs.inner.Machine.{Else, AnExpr, MoreCmps, Ands, Ors, ACmp, Right, ASum, AnOffset, AUnary, APost}
use Rattle.cm_syntax.specs.inner.Machine.{Fields, With, MoreSets, ASet, APrim, BehindName, Args, MoreArgs, Text}
use Rattle.cm_syntax.specs.inner.Machine.{ValueOf, Stack, Values, Shift, Takes, Ends, Fails, mapped, is_mark, symbol_at}
use Rattle.cm_syntax.specs.inner.Machine.{shift}
use Rattle.cm_syntax.proofs.Alternatives as is

abbrev pub token_of : Mark → Token
token_of mark.Semicolon = token.Semicolon
token_of mark.Colon = token.Colon
token_of mark.DotDot = token.DotDot
token_of mark.OpenRound = token.OpenRound
token_of mark.CloseRound = token.CloseRound
token_of mark.CloseSquare = token.CloseSquare
token_of mark.OpenCurly = token.OpenCurly
token_of mark.CloseCurly = token.CloseCurly
token_of mark.Assign = token.Assign
token_of mark.Arrow = token.Arrow
token_of mark.Nothing = token.Nothing
token_of mark.Something = token.Something
token_of mark.Internal = token.Internal

-- the tokens of a symbol's value, and then more
abbrev pub value_then : (s : Symbol) → ValueOf s → List Token → List Token
value_then (Exactly m) x ts = token_of m ∷ ts
value_then AName x ts = token.Name x ∷ ts
value_then ANumber x ts = token.Number x ∷ ts
value_then ANum x ts = (num_form x).writes ts
value_then AType x ts = (type_form x).writes ts
value_then APart x ts = (part_form x).writes ts
value_then MoreParts xs ts = (each_after token.Comma (map part_form xs)).writes ts
value_then Params xs ts = (listed (map part_form xs)).writes ts
value_then Internals xs ts = (internal_form xs).writes ts
value_then MoreNames xs ts = names_after token.Comma xs ts
value_then Key None ts = ts
value_then Key (Some x) ts = token.Map ∷ (type_form x).writes (token.Arrow ∷ ts)
value_then Where None ts = ts
value_then Where (Some x) ts = token.Where ∷ (expr_form x).writes ts
value_then ADecl x ts = (decl_form x).writes ts
value_then Decls xs ts = (each (map decl_form xs)).writes (token.End ∷ ts)
value_then ABlock x ts = (block_form x).writes ts
value_then Stmts xs ts = (each (map stmt_form xs)).writes (token.CloseCurly ∷ ts)
value_then AStmt x ts = (stmt_form x).writes ts
value_then Index None ts = ts
value_then Index (Some x) ts = token.OpenSquare ∷ (expr_form x).writes (token.CloseSquare ∷ ts)
value_then Else None ts = ts
value_then Else (Some x) ts = token.Else ∷ (block_form x).writes ts
value_then AnExpr x ts = (expr_form x).writes ts
value_then MoreCmps joined.Nothing ts = ts
value_then MoreCmps (joined.And x xs) ts = token.And ∷ (cmp_form x).writes
    ((each_after token.And (map cmp_form xs)).writes ts)
value_then MoreCmps (joined.Or x xs) ts = token.Or ∷ (cmp_form x).writes ((each_after token.Or (map cmp_form xs)).writes
    ts)
value_then Ands xs ts = (each_after token.And (map cmp_form xs)).writes ts
value_then Ors xs ts = (each_after token.Or (map cmp_form xs)).writes ts
value_then ACmp x ts = (cmp_form x).writes ts
value_then Right right.Nothing ts = ts
value_then Right (right.Related r x) ts = relation_token r ∷ (sum_form x).writes ts
value_then ASum x ts = (sum_form x).writes ts
value_then AnOffset offset.Nothing ts = ts
value_then AnOffset (offset.Plus n) ts = token.Plus ∷ token.Number n ∷ ts
value_then AnOffset (offset.Minus n) ts = token.Minus ∷ token.Number n ∷ ts
value_then AUnary x ts = (unary_form x).writes ts
value_then APost x ts = (post_form x).writes ts
value_then Fields xs ts = names_after token.Dot xs ts
value_then With xs ts = (sets_form (map set_form xs)).writes ts
value_then MoreSets xs ts = (each_after token.Comma (map set_form xs)).writes ts
value_then ASet x ts = (set_form x).writes ts
value_then APrim x ts = (prim_form x).writes ts
value_then BehindName after.Nothing ts = ts
value_then BehindName (after.Key x) ts = token.OpenSquare ∷ (expr_form x).writes (token.CloseSquare ∷ ts)
value_then BehindName (after.Args xs) ts = token.OpenRound ∷ (listed (map expr_form xs)).writes (token.CloseRound ∷ ts)
value_then Args xs ts = (listed (map expr_form xs)).writes (token.CloseRound ∷ ts)
value_then MoreArgs xs ts = (each_after token.Comma (map expr_form xs)).writes ts
value_then Text x ts = (tree_form x).writes ts

abbrev pub spelling : (st : Stack) → Values st → List Token
spelling [] v = []
spelling (s ∷ st) v = value_then s v.0 (spelling st v.1)

-- a value of each symbol

abbrev origin : Place
origin = record { line = 0; col = 0 }

abbrev some_unary : Unary
some_unary = unary.Bare origin (post_of origin (prim.True origin) [] [])

abbrev some_cmp : Cmp
some_cmp = cmp.Side origin (sum.Term origin some_unary)

abbrev some_decl : Decl
some_decl = decl.Sort origin []

abbrev pub some_value : (s : Symbol) → ValueOf s
some_value (Exactly m) = tt
some_value AName = []
some_value ANumber = 0
some_value ANum = Digits origin 0
some_value AType = type.Bool origin
some_value APart = m.part_of origin [] (type.Bool origin)
some_value MoreParts = []
some_value Params = []
some_value Internals = []
some_value MoreNames = []
some_value Key = None
some_value Where = None
some_value ADecl = some_decl
some_value Decls = []
some_value ABlock = m.block_of origin []
some_value Stmts = []
some_value AStmt = stmt.Return origin (expr.Single origin some_cmp)
some_value Index = None
some_value Else = None
some_value AnExpr = expr.Single origin some_cmp
some_value MoreCmps = joined.Nothing
some_value Ands = []
some_value Ors = []
some_value ACmp = some_cmp
some_value Right = right.Nothing
some_value ASum = sum.Term origin some_unary
some_value AnOffset = offset.Nothing
some_value AUnary = some_unary
some_value APost = post_of origin (prim.True origin) [] []
some_value Fields = []
some_value With = []
some_value MoreSets = []
some_value ASet = set_of origin [] (expr.Single origin some_cmp)
some_value APrim = prim.True origin
some_value BehindName = after.Nothing
some_value Args = []
some_value MoreArgs = []
some_value Text = m.tree_of origin some_decl []

abbrev pub some_values : (st : Stack) → Values st
some_values [] = tt
some_values (s ∷ st) = (some_value s, some_values st)

abbrev pub Spells : (st : Stack) → Option Token → Shift st → Type 0
Spells st (Some t) (Takes later build) = (v : Values later) → spelling st (build v) ≡ t ∷ spelling later v
Spells st (Some t) (Ends v) = ⊥
Spells st (Some t) Fails = Unit {0}
Spells st None (Takes later build) = ⊥
Spells st None (Ends v) = spelling st v ≡ []
Spells st None Fails = Unit {0}

mapped_spells : (a b : Stack) (o : Option Token) (f : Values a → Values b)
    → ((v : Values a) → spelling b (f v) ≡ spelling a v) → (x : Shift a) → Spells a o x → Spells b o (mapped f x)
mapped_spells a b (Some t) f same (Takes later build) h = λ v. same (build v) ∙ h v
mapped_spells a b (Some t) f same (Ends v) h = h
mapped_spells a b (Some t) f same Fails h = tt
mapped_spells a b None f same (Takes later build) h = h
mapped_spells a b None f same (Ends v) h = same v ∙ h
mapped_spells a b None f same Fails h = tt

fails : (st : Stack) (o : Option Token) → Spells st o Fails
fails st (Some t) = tt
fails st None = tt

pub mark_is : (m : Mark) (t : Token) → is_mark m t ≡ true → token_of m ≡ t
mark_is mark.Semicolon token.Semicolon h = refl
mark_is mark.Colon token.Colon h = refl
mark_is mark.DotDot token.DotDot h = refl
mark_is mark.OpenRound token.OpenRound h = refl
mark_is mark.CloseRound token.CloseRound h = refl
mark_is mark.CloseSquare token.CloseSquare h = refl
mark_is mark.OpenCurly token.OpenCurly h = refl
mark_is mark.CloseCurly token.CloseCurly h = refl
mark_is mark.Assign token.Assign h = refl
mark_is mark.Arrow token.Arrow h = refl
mark_is mark.Nothing token.Nothing h = refl
mark_is mark.Something token.Something h = refl
mark_is mark.Internal token.Internal h = refl
mark_is m t h = cc

exactly_spells : (w : Mark) (o : Option Token) (st : Stack) → Spells (Exactly w ∷ st) o (m.exactly_at w o st)
exactly_spells w None st = tt
exactly_spells w (Some t) st = went (is_mark w t) (mark_is w t)
  where
    went : (b : Bool) → (b ≡ true → token_of w ≡ t)
        → Spells (Exactly w ∷ st) (Some t) (mapped (λ v. (tt, v)) (if b then Takes st (λ v. v) else Fails))
    went true h = λ v. ap (λ x. x ∷ spelling st v) (h refl)
    went false h = tt

name_spells : (o : Option Token) (st : Stack) → Spells (AName ∷ st) o (m.name_at o st)
name_spells (Some (token.Name n)) st = λ v. refl
name_spells o st = fails (AName ∷ st) o

number_spells : (o : Option Token) (st : Stack) → Spells (ANumber ∷ st) o (m.number_at o st)
number_spells (Some (token.Number n)) st = λ v. refl
number_spells o st = fails (ANumber ∷ st) o

num_spells : (o : Option Token) (a : Place) (st : Stack) → Spells (ANum ∷ st) o (m.num_at o a st)
num_spells (Some (token.Number n)) a st = λ v. refl
num_spells (Some token.Minus) a st = λ v. refl
num_spells o a st = fails (ANum ∷ st) o

type_spells : (o : Option Token) (a : Place) (st : Stack) → Spells (AType ∷ st) o (m.type_at o a st)
type_spells (Some token.Bool) a st = λ v. ap (λ f. f.writes (spelling st v)) (is.type_Bool a)
type_spells (Some (token.Name n)) a st = λ v. ap (λ f. f.writes (spelling st v)) (is.type_Named a n)
type_spells (Some token.Option) a st = λ v. ap (λ f. f.writes (spelling st v.1.1.1)) (is.type_Optional a v.1.0)
type_spells o a st = fails (AType ∷ st) o

part_spells : (o : Option Token) (a : Place) (st : Stack) → Spells (APart ∷ st) o (m.part_at o a st)
part_spells o a st = mapped_spells (AName ∷ Exactly mark.Colon ∷ AType ∷ st) (APart ∷ st) o
    (λ v. (m.part_of a v.0 v.1.1.0, v.1.1.1)) (λ v. refl) (m.name_at o (Exactly mark.Colon ∷ AType ∷ st))
    (name_spells o (Exactly mark.Colon ∷ AType ∷ st))

more_parts_spells : (o : Option Token) (st : Stack) (next : Shift st) → Spells st o next
    → Spells (MoreParts ∷ st) o (m.more_parts_at o st next)
more_parts_spells (Some token.Comma) st next h = λ v. refl
more_parts_spells o st next h = mapped_spells st (MoreParts ∷ st) o (λ v. ([], v)) (λ v. refl) next h

params_spells : (o : Option Token) (a : Place) (st : Stack) (next : Shift st) → Spells st o next
    → Spells (Params ∷ st) o (m.params_at o a st next)
params_spells (Some (token.Name n)) a st next h = λ v. refl
params_spells o a st next h = mapped_spells st (Params ∷ st) o (λ v. ([], v)) (λ v. refl) next h

internals_spells : (o : Option Token) (st : Stack) (next : Shift st) → Spells st o next
    → Spells (Internals ∷ st) o (m.internals_at o st next)
internals_spells (Some token.Semicolon) st next h = λ v. refl
internals_spells o st next h = mapped_spells st (Internals ∷ st) o (λ v. ([], v)) (λ v. refl) next h

more_names_spells : (o : Option Token) (st : Stack) (next : Shift st) → Spells st o next
    → Spells (MoreNames ∷ st) o (m.more_names_at o st next)
more_names_spells (Some token.Comma) st next h = λ v. refl
more_names_spells o st next h = mapped_spells st (MoreNames ∷ st) o (λ v. ([], v)) (λ v. refl) next h

-- Expressions

name_same : (a : Place) (n : List ℕ) (x : AfterName) (ts : List Token)
    → (prim_form (m.after_name a n x)).writes ts ≡ token.Name n ∷ value_then BehindName x ts
name_same a n after.Nothing ts = ap (λ f. f.writes ts) (is.prim_Name a n)
name_same a n (after.Key e) ts = ap (λ f. f.writes ts) (is.prim_Entry a n e)
name_same a n (after.Args es) ts = ap (λ f. f.writes ts) (is.prim_Apply a n es)

prim_spells : (o : Option Token) (a : Place) (st : Stack) → Spells (APrim ∷ st) o (m.prim_at o a st)
prim_spells (Some (token.Number n)) a st = λ v. ap (λ f. f.writes (spelling st v)) (is.prim_Number a (Digits a n))
prim_spells (Some token.Minus) a st = λ v. ap (λ f. f.writes (spelling st v.1)) (is.prim_Number a (Negative a v.0))
prim_spells (Some token.True) a st = λ v. ap (λ f. f.writes (spelling st v)) (is.prim_True a)
prim_spells (Some token.False) a st = λ v. ap (λ f. f.writes (spelling st v)) (is.prim_False a)
prim_spells (Some token.It) a st = λ v. ap (λ f. f.writes (spelling st v)) (is.prim_It a)
prim_spells (Some (token.Name n)) a st = λ v. name_same a n v.0 (spelling st v.1)
prim_spells (Some token.Nothing) a st = λ v. ap (λ f. f.writes (spelling st v.1.1.1)) (is.prim_NoneOf a v.1.0)
prim_spells (Some token.Something) a st = λ v. ap (λ f. f.writes (spelling st v.1.1.1)) (is.prim_SomeOf a v.1.0)
prim_spells (Some token.OpenRound) a st = λ v. ap (λ f. f.writes (spelling st v.1.1)) (is.prim_Group a v.0)
prim_spells o a st = fails (APrim ∷ st) o

behind_name_spells : (o : Option Token) (st : Stack) (next : Shift st) → Spells st o next
    → Spells (BehindName ∷ st) o (m.behind_name_at o st next)
behind_name_spells (Some token.OpenSquare) st next h = λ v. refl
behind_name_spells (Some token.OpenRound) st next h = λ v. refl
behind_name_spells o st next h = mapped_spells st (BehindName ∷ st) o (λ v. (after.Nothing, v)) (λ v. refl) next h

fields_spells : (o : Option Token) (st : Stack) (next : Shift st) → Spells st o next
    → Spells (Fields ∷ st) o (m.fields_at o st next)
fields_spells (Some token.Dot) st next h = λ v. refl
fields_spells o st next h = mapped_spells st (Fields ∷ st) o (λ v. ([], v)) (λ v. refl) next h

set_spells : (o : Option Token) (a : Place) (st : Stack) → Spells (ASet ∷ st) o (m.set_at o a st)
set_spells o a st = mapped_spells (AName ∷ Exactly mark.Colon ∷ AnExpr ∷ st) (ASet ∷ st) o _
    (λ v. ap (λ f. f.writes (spelling st v.1.1.1)) (is.set_is a v.0 v.1.1.0))
    (m.name_at o (Exactly mark.Colon ∷ AnExpr ∷ st)) (name_spells o (Exactly mark.Colon ∷ AnExpr ∷ st))

more_sets_spells : (o : Option Token) (st : Stack) (next : Shift st) → Spells st o next
    → Spells (MoreSets ∷ st) o (m.more_sets_at o st next)
more_sets_spells (Some token.Comma) st next h = λ v. refl
more_sets_spells o st next h = mapped_spells st (MoreSets ∷ st) o (λ v. ([], v)) (λ v. refl) next h

with_spells : (o : Option Token) (st : Stack) (next : Shift st) → Spells st o next
    → Spells (With ∷ st) o (m.with_at o st next)
with_spells (Some token.With) st next h = λ v. refl
with_spells o st next h = mapped_spells st (With ∷ st) o (λ v. ([], v)) (λ v. refl) next h

post_spells : (o : Option Token) (a : Place) (st : Stack) → Spells (APost ∷ st) o (m.post_at o a st)
post_spells o a st = mapped_spells (APrim ∷ Fields ∷ With ∷ st) (APost ∷ st) o _
    (λ v. ap (λ f. f.writes (spelling st v.1.1.1)) (is.post_is a v.0 v.1.0 v.1.1.0))
    (m.prim_at o a (Fields ∷ With ∷ st)) (prim_spells o a (Fields ∷ With ∷ st))

unary_spells : (o : Option Token) (a : Place) (st : Stack) → Spells (AUnary ∷ st) o (m.unary_at o a st)
unary_spells (Some token.Not) a st = λ v. ap (λ f. f.writes (spelling st v.1)) (is.unary_Not a v.0)
unary_spells o a st = mapped_spells (APost ∷ st) (AUnary ∷ st) o (λ v. (unary.Bare a v.0, v.1))
    (λ v. ap (λ f. f.writes (spelling st v.1)) (is.unary_Bare a v.0)) (m.post_at o a st) (post_spells o a st)

offset_spells : (o : Option Token) (st : Stack) (next : Shift st) → Spells st o next
    → Spells (AnOffset ∷ st) o (m.offset_at o st next)
offset_spells (Some token.Plus) st next h = λ v. refl
offset_spells (Some token.Minus) st next h = λ v. refl
offset_spells o st next h = mapped_spells st (AnOffset ∷ st) o (λ v. (offset.Nothing, v)) (λ v. refl) next h

sum_same : (a : Place) (u : Unary) (x : Offset) (ts : List Token) → (sum_form (m.sum_of a u x)).writes ts
    ≡ (unary_form u).writes (value_then AnOffset x ts)
sum_same a u offset.Nothing ts = ap (λ f. f.writes ts) (is.sum_Term a u)
sum_same a u (offset.Plus n) ts = ap (λ f. f.writes ts) (is.sum_Plus a u n)
sum_same a u (offset.Minus n) ts = ap (λ f. f.writes ts) (is.sum_Minus a u n)

sum_spells : (o : Option Token) (a : Place) (st : Stack) → Spells (ASum ∷ st) o (m.sum_at o a st)
sum_spells o a st = mapped_spells (AUnary ∷ AnOffset ∷ st) (ASum ∷ st) o _ (λ v. sum_same a v.0 v.1.0
    (spelling st v.1.1)) (m.unary_at o a (AnOffset ∷ st)) (unary_spells o a (AnOffset ∷ st))

right_spells : (o : Option Token) (st : Stack) (next : Shift st) → Spells st o next
    → Spells (Right ∷ st) o (m.right_at o st next)
right_spells (Some token.Equal) st next h = λ v. refl
right_spells (Some token.NotEqual) st next h = λ v. refl
right_spells (Some token.Less) st next h = λ v. refl
right_spells (Some token.AtMost) st next h = λ v. refl
right_spells (Some token.Greater) st next h = λ v. refl
right_spells (Some token.AtLeast) st next h = λ v. refl
right_spells o st next h = mapped_spells st (Right ∷ st) o (λ v. (right.Nothing, v)) (λ v. refl) next h

cmp_same : (a : Place) (s : Sum) (x : RightSide) (ts : List Token) → (cmp_form (m.cmp_of a s x)).writes ts
    ≡ (sum_form s).writes (value_then Right x ts)
cmp_same a s right.Nothing ts = ap (λ f. f.writes ts) (is.cmp_Side a s)
cmp_same a s (right.Related r t) ts = ap (λ f. f.writes ts) (is.cmp_Compared a s r t)

cmp_spells : (o : Option Token) (a : Place) (st : Stack) → Spells (ACmp ∷ st) o (m.cmp_at o a st)
cmp_spells o a st = mapped_spells (ASum ∷ Right ∷ st) (ACmp ∷ st) o _ (λ v. cmp_same a v.0 v.1.0 (spelling st v.1.1))
    (m.sum_at o a (Right ∷ st)) (sum_spells o a (Right ∷ st))

more_cmps_spells : (o : Option Token) (st : Stack) (next : Shift st) → Spells st o next
    → Spells (MoreCmps ∷ st) o (m.more_cmps_at o st next)
more_cmps_spells (Some token.And) st next h = λ v. refl
more_cmps_spells (Some token.Or) st next h = λ v. refl
more_cmps_spells o st next h = mapped_spells st (MoreCmps ∷ st) o (λ v. (joined.Nothing, v)) (λ v. refl) next h

ands_spells : (o : Option Token) (st : Stack) (next : Shift st) → Spells st o next
    → Spells (Ands ∷ st) o (m.ands_at o st next)
ands_spells (Some token.And) st next h = λ v. refl
ands_spells o st next h = mapped_spells st (Ands ∷ st) o (λ v. ([], v)) (λ v. refl) next h

ors_spells : (o : Option Token) (st : Stack) (next : Shift st) → Spells st o next
    → Spells (Ors ∷ st) o (m.ors_at o st next)
ors_spells (Some token.Or) st next h = λ v. refl
ors_spells o st next h = mapped_spells st (Ors ∷ st) o (λ v. ([], v)) (λ v. refl) next h

expr_same : (a : Place) (c : Cmp) (x : Joined) (ts : List Token) → (expr_form (m.expr_of a c x)).writes ts
    ≡ (cmp_form c).writes (value_then MoreCmps x ts)
expr_same a c joined.Nothing ts = ap (λ f. f.writes ts) (is.expr_Single a c)
expr_same a c (joined.And d more) ts = ap (λ f. f.writes ts) (is.expr_All a c d more)
expr_same a c (joined.Or d more) ts = ap (λ f. f.writes ts) (is.expr_Any a c d more)

expr_spells : (o : Option Token) (a : Place) (st : Stack) → Spells (AnExpr ∷ st) o (m.expr_at o a st)
expr_spells o a st = mapped_spells (ACmp ∷ MoreCmps ∷ st) (AnExpr ∷ st) o _ (λ v. expr_same a v.0 v.1.0
    (spelling st v.1.1)) (m.cmp_at o a (MoreCmps ∷ st)) (cmp_spells o a (MoreCmps ∷ st))

args_spells : (o : Option Token) (a : Place) (st : Stack) → Spells (Args ∷ st) o (m.args_at o a st)
args_spells (Some token.CloseRound) a st = λ v. refl
args_spells o a st = mapped_spells (AnExpr ∷ MoreArgs ∷ Exactly mark.CloseRound ∷ st) (Args ∷ st) o
    (λ v. (v.0 ∷ v.1.0, v.1.1.1)) (λ v. refl) (m.expr_at o a (MoreArgs ∷ Exactly mark.CloseRound ∷ st))
    (expr_spells o a (MoreArgs ∷ Exactly mark.CloseRound ∷ st))

more_args_spells : (o : Option Token) (st : Stack) (next : Shift st) → Spells st o next
    → Spells (MoreArgs ∷ st) o (m.more_args_at o st next)
more_args_spells (Some token.Comma) st next h = λ v. refl
more_args_spells o st next h = mapped_spells st (MoreArgs ∷ st) o (λ v. ([], v)) (λ v. refl) next h

-- Statements

assign_same : (a : Place) (n : List ℕ) (k : Option Expr) (e : Expr) (ts : List Token)
    → (stmt_form (m.assign_of a n k e)).writes ts ≡ token.Name n ∷ value_then Index k
    (token.Assign ∷ (expr_form e).writes (token.Semicolon ∷ ts))
assign_same a n None e ts = ap (λ f. f.writes ts) (is.stmt_Assign a n e)
assign_same a n (Some k) e ts = ap (λ f. f.writes ts) (is.stmt_AssignAt a n k e)

if_same : (a : Place) (e : Expr) (b : Block) (c : Option Block) (ts : List Token)
    → (stmt_form (m.if_of a e b c)).writes ts ≡ token.If ∷ (expr_form e).writes
    ((block_form b).writes (value_then Else c ts))
if_same a e b None ts = ap (λ f. f.writes ts) (is.stmt_If a e b)
if_same a e b (Some c) ts = ap (λ f. f.writes ts) (is.stmt_IfElse a e b c)

block_spells : (o : Option Token) (a : Place) (st : Stack) → Spells (ABlock ∷ st) o (m.block_at o a st)
block_spells (Some token.OpenCurly) a st = λ v. ap (λ f. f.writes (spelling st v.1)) (is.block_is a v.0)
block_spells o a st = fails (ABlock ∷ st) o

stmt_spells : (o : Option Token) (a : Place) (st : Stack) → Spells (AStmt ∷ st) o (m.stmt_at o a st)
stmt_spells (Some token.Let) a st = λ v. ap (λ f. f.writes (spelling st v.1.1.1.1)) (is.stmt_Let a v.0 v.1.1.0)
stmt_spells (Some (token.Name n)) a st = λ v. assign_same a n v.0 v.1.1.0 (spelling st v.1.1.1.1)
stmt_spells (Some token.If) a st = λ v. if_same a v.0 v.1.0 v.1.1.0 (spelling st v.1.1.1)
stmt_spells (Some token.Case) a st = λ v. ap (λ f. f.writes (spelling st v.1.1.1.1.1.1.1.1))
    (is.stmt_Case a v.0 v.1.1.1.0 v.1.1.1.1.1.0 v.1.1.1.1.1.1.0)
stmt_spells (Some token.Assume) a st = λ v. ap (λ f. f.writes (spelling st v.1.1)) (is.stmt_Assume a v.0)
stmt_spells (Some token.Return) a st = λ v. ap (λ f. f.writes (spelling st v.1.1)) (is.stmt_Return a v.0)
stmt_spells o a st = fails (AStmt ∷ st) o

index_spells : (o : Option Token) (st : Stack) (next : Shift st) → Spells st o next
    → Spells (Index ∷ st) o (m.index_at o st next)
index_spells (Some token.OpenSquare) st next h = λ v. refl
index_spells o st next h = mapped_spells st (Index ∷ st) o (λ v. (None, v)) (λ v. refl) next h

else_spells : (o : Option Token) (st : Stack) (next : Shift st) → Spells st o next
    → Spells (Else ∷ st) o (m.else_at o st next)
else_spells (Some token.Else) st next h = λ v. refl
else_spells o st next h = mapped_spells st (Else ∷ st) o (λ v. (None, v)) (λ v. refl) next h

stmts_spells : (o : Option Token) (a : Place) (st : Stack) → Spells (Stmts ∷ st) o (m.stmts_at o a st)
stmts_spells (Some token.CloseCurly) a st = λ v. refl
stmts_spells o a st = mapped_spells (AStmt ∷ Stmts ∷ st) (Stmts ∷ st) o (λ v. (v.0 ∷ v.1.0, v.1.1)) (λ v. refl)
    (m.stmt_at o a (Stmts ∷ st)) (stmt_spells o a (Stmts ∷ st))

-- Declarations

state_same : (a : Place) (n : List ℕ) (k : Option TypeTree) (t : TypeTree) (e : Option Expr) (ts : List Token)
    → (decl_form (m.state_of a n k t e)).writes ts ≡ token.State ∷ token.Name n ∷ token.Colon
    ∷ value_then Key k ((type_form t).writes (value_then Where e (token.Semicolon ∷ ts)))
state_same a n None t None ts = refl
state_same a n None t (Some e) ts = refl
state_same a n (Some k) t None ts = refl
state_same a n (Some k) t (Some e) ts = refl

key_spells : (o : Option Token) (st : Stack) (next : Shift st) → Spells st o next
    → Spells (Key ∷ st) o (m.key_at o st next)
key_spells (Some token.Map) st next h = λ v. refl
key_spells o st next h = mapped_spells st (Key ∷ st) o (λ v. (None, v)) (λ v. refl) next h

where_spells : (o : Option Token) (st : Stack) (next : Shift st) → Spells st o next
    → Spells (Where ∷ st) o (m.where_at o st next)
where_spells (Some token.Where) st next h = λ v. refl
where_spells o st next h = mapped_spells st (Where ∷ st) o (λ v. (None, v)) (λ v. refl) next h

decl_spells : (o : Option Token) (a : Place) (st : Stack) → Spells (ADecl ∷ st) o (m.decl_at o a st)
decl_spells (Some token.Sort) a st = λ v. refl
decl_spells (Some token.Int) a st = λ v. refl
decl_spells (Some token.Enum) a st = λ v. refl
decl_spells (Some token.Record) a st = λ v. refl
decl_spells (Some token.State) a st = λ v. state_same a v.0 v.1.1.0 v.1.1.1.0 v.1.1.1.1.0 (spelling st v.1.1.1.1.1.1)
decl_spells (Some token.Fn) a st = λ v. refl
decl_spells (Some token.Call) a st = λ v. refl
decl_spells o a st = fails (ADecl ∷ st) o

decls_spells : (o : Option Token) (a : Place) (st : Stack) → Spells (Decls ∷ st) o (m.decls_at o a st)
decls_spells (Some token.End) a st = λ v. refl
decls_spells o a st = mapped_spells (ADecl ∷ Decls ∷ st) (Decls ∷ st) o (λ v. (v.0 ∷ v.1.0, v.1.1)) (λ v. refl)
    (m.decl_at o a (Decls ∷ st)) (decl_spells o a (Decls ∷ st))

text_spells : (o : Option Token) (a : Place) (st : Stack) → Spells (Text ∷ st) o (m.text_at o a st)
text_spells o a st = mapped_spells (ADecl ∷ Decls ∷ st) (Text ∷ st) o (λ v. (m.tree_of a v.0 v.1.0, v.1.1))
    (λ v. refl) (m.decl_at o a (Decls ∷ st)) (decl_spells o a (Decls ∷ st))

pub shift_spells : (st : Stack) (o : Option Token) (a : Place) → Spells st o (shift st o a)
shift_spells [] None a = refl
shift_spells [] (Some t) a = tt
shift_spells (s ∷ st) o a = went s (shift st o a) (shift_spells st o a)
  where
    went : (s : Symbol) (next : Shift st) → Spells st o next → Spells (s ∷ st) o (symbol_at s o a st next)
    went (Exactly w) next h = exactly_spells w o st
    went AName next h = name_spells o st
    went ANumber next h = number_spells o st
    went ANum next h = num_spells o a st
    went AType next h = type_spells o a st
    went APart next h = part_spells o a st
    went MoreParts next h = more_parts_spells o st next h
    went Params next h = params_spells o a st next h
    went Internals next h = internals_spells o st next h
    went MoreNames next h = more_names_spells o st next h
    went Key next h = key_spells o st next h
    went Where next h = where_spells o st next h
    went ADecl next h = decl_spells o a st
    went Decls next h = decls_spells o a st
    went ABlock next h = block_spells o a st
    went Stmts next h = stmts_spells o a st
    went AStmt next h = stmt_spells o a st
    went Index next h = index_spells o st next h
    went Else next h = else_spells o st next h
    went AnExpr next h = expr_spells o a st
    went MoreCmps next h = more_cmps_spells o st next h
    went Ands next h = ands_spells o st next h
    went Ors next h = ors_spells o st next h
    went ACmp next h = cmp_spells o a st
    went Right next h = right_spells o st next h
    went ASum next h = sum_spells o a st
    went AnOffset next h = offset_spells o st next h
    went AUnary next h = unary_spells o a st
    went APost next h = post_spells o a st
    went Fields next h = fields_spells o st next h
    went With next h = with_spells o st next h
    went MoreSets next h = more_sets_spells o st next h
    went ASet next h = set_spells o a st
    went APrim next h = prim_spells o a st
    went BehindName next h = behind_name_spells o st next h
    went Args next h = args_spells o a st
    went MoreArgs next h = more_args_spells o st next h
    went Text next h = text_spells o a st

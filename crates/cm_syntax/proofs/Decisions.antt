-- What the reader does where the next token decides.
use Rattle.std.proofs.Common.{Bool, sym, if◌then◌else◌, ◌≡◌, ℕ, true, false, List, ◌∷◌, Option, Some, None, refl, ap}
use Rattle.std.proofs.Common.{◌∙◌}
use Rattle.cm_model.specs.declared.place.Place.{Place}
use Rattle.cm_tokens.specs.declared.token.Token.{Token}
use Rattle.cm_tokens.specs.declared.token.Token.TheVariants as token
use Rattle.cm_syntax.specs.declared.tree.Primary.{Primary}
use Rattle.cm_syntax.specs.declared.fault.SyntaxFault.{SyntaxFault}
use Rattle.cm_syntax.specs.Text.{place_of, too_deep, open_after}
use Rattle.cm_syntax.specs.inner.Machine as m
use Rattle.cm_syntax.specs.inner.Machine.{Exactly, AName, ANumber, ANum, AType, APart, MoreParts, Params, Internals}
use Rattle.cm_syntax.specs.inner.Machine.{MoreNames, Key, Where, ADecl, Decls, ABlock, Stmts, AStmt, Index, Else}
use Rattle.cm_syntax.specs.inner.Machine.{AnExpr, MoreCmps, Ands, Ors, ACmp, Right, ASum, AnOffset, AUnary, APost}
use Rattle.cm_syntax.specs.inner.Machine.{Fields, With, MoreSets, ASet, APrim, BehindName, Args, MoreArgs, Text, Stack}
use Rattle.cm_syntax.specs.inner.Machine.{Values, Shift, Takes, Fails, mapped, shift, reading, Ahead, head, Gives}
use Rattle.cm_syntax.specs.inner.Machine.{Stops, Passes, Halts, part_of, after_name, sum_of, cmp_of, expr_of, assign_of}
use Rattle.cm_syntax.specs.inner.Machine.{if_of, block_of, state_of, tree_of, starts_number, starts_name, starts_num}
use Rattle.cm_syntax.specs.inner.Machine.{no_name, no_relation, no_close_curly, no_end, no_close_round, no_not}
use Rattle.cm_syntax.proofs.Steps.{stuck, takes_at, passes_to, halts_at}
use Rattle.cm_tokens.specs.declared.token.Placed.{Placed}
use Rattle.cm_syntax.specs.declared.mark.Mark.{Mark}
use Rattle.cm_syntax.specs.declared.fault.SyntaxFault.TheVariants as fault
use Rattle.cm_syntax.proofs.NextToken.{no_type, no_prim, no_open_curly, no_stmt, no_decl, no_num, no_number}

none_a_num_at : (o : Option Token) (p : Place) (st : Stack) → no_num o ≡ true → m.num_at o p st ≡ Fails
none_a_num_at (Some (token.Number n)) p st h = cc
none_a_num_at (Some token.Minus) p st h = cc
none_a_num_at o p st h = refl

pub stuck_a_num : (a : Ahead) (p : Place) → place_of a.left ≡ p → no_num (head a.left) ≡ true
    → Stops ANum a (fault.Syntax p)
stuck_a_num a p e h = stuck ANum a p e (λ st. none_a_num_at (head a.left) (place_of a.left) st h)

none_a_type_at : (o : Option Token) (p : Place) (st : Stack) → no_type o ≡ true → m.type_at o p st ≡ Fails
none_a_type_at (Some token.Bool) p st h = cc
none_a_type_at (Some (token.Name n)) p st h = cc
none_a_type_at (Some token.Option) p st h = cc
none_a_type_at o p st h = refl

pub stuck_a_type : (a : Ahead) (p : Place) → place_of a.left ≡ p → no_type (head a.left) ≡ true
    → Stops AType a (fault.Syntax p)
stuck_a_type a p e h = stuck AType a p e (λ st. none_a_type_at (head a.left) (place_of a.left) st h)

none_a_prim_at : (o : Option Token) (p : Place) (st : Stack) → no_prim o ≡ true → m.prim_at o p st ≡ Fails
none_a_prim_at (Some (token.Number n)) p st h = cc
none_a_prim_at (Some token.Minus) p st h = cc
none_a_prim_at (Some token.True) p st h = cc
none_a_prim_at (Some token.False) p st h = cc
none_a_prim_at (Some token.It) p st h = cc
none_a_prim_at (Some (token.Name n)) p st h = cc
none_a_prim_at (Some token.Nothing) p st h = cc
none_a_prim_at (Some token.Something) p st h = cc
none_a_prim_at (Some token.OpenRound) p st h = cc
none_a_prim_at o p st h = refl

pub stuck_a_prim : (a : Ahead) (p : Place) → place_of a.left ≡ p → no_prim (head a.left) ≡ true
    → Stops APrim a (fault.Syntax p)
stuck_a_prim a p e h = stuck APrim a p e (λ st. none_a_prim_at (head a.left) (place_of a.left) st h)

none_a_block_at : (o : Option Token) (p : Place) (st : Stack) → no_open_curly o ≡ true → m.block_at o p st ≡ Fails
none_a_block_at (Some token.OpenCurly) p st h = cc
none_a_block_at o p st h = refl

pub stuck_a_block : (a : Ahead) (p : Place) → place_of a.left ≡ p → no_open_curly (head a.left) ≡ true
    → Stops ABlock a (fault.Syntax p)
stuck_a_block a p e h = stuck ABlock a p e (λ st. none_a_block_at (head a.left) (place_of a.left) st h)

none_a_stmt_at : (o : Option Token) (p : Place) (st : Stack) → no_stmt o ≡ true → m.stmt_at o p st ≡ Fails
none_a_stmt_at (Some token.Let) p st h = cc
none_a_stmt_at (Some (token.Name n)) p st h = cc
none_a_stmt_at (Some token.If) p st h = cc
none_a_stmt_at (Some token.Case) p st h = cc
none_a_stmt_at (Some token.Assume) p st h = cc
none_a_stmt_at (Some token.Return) p st h = cc
none_a_stmt_at o p st h = refl

pub stuck_a_stmt : (a : Ahead) (p : Place) → place_of a.left ≡ p → no_stmt (head a.left) ≡ true
    → Stops AStmt a (fault.Syntax p)
stuck_a_stmt a p e h = stuck AStmt a p e (λ st. none_a_stmt_at (head a.left) (place_of a.left) st h)

none_a_decl_at : (o : Option Token) (p : Place) (st : Stack) → no_decl o ≡ true → m.decl_at o p st ≡ Fails
none_a_decl_at (Some token.Sort) p st h = cc
none_a_decl_at (Some token.Int) p st h = cc
none_a_decl_at (Some token.Enum) p st h = cc
none_a_decl_at (Some token.Record) p st h = cc
none_a_decl_at (Some token.State) p st h = cc
none_a_decl_at (Some token.Fn) p st h = cc
none_a_decl_at (Some token.Call) p st h = cc
none_a_decl_at o p st h = refl

pub stuck_a_decl : (a : Ahead) (p : Place) → place_of a.left ≡ p → no_decl (head a.left) ≡ true
    → Stops ADecl a (fault.Syntax p)
stuck_a_decl a p e h = stuck ADecl a p e (λ st. none_a_decl_at (head a.left) (place_of a.left) st h)

none_a_name_at : (o : Option Token) (st : Stack) → no_name o ≡ true → m.name_at o st ≡ Fails
none_a_name_at (Some (token.Name n)) st h = cc
none_a_name_at o st h = refl

pub stuck_a_name : (a : Ahead) (p : Place) → place_of a.left ≡ p → no_name (head a.left) ≡ true
    → Stops AName a (fault.Syntax p)
stuck_a_name a p e h = stuck AName a p e (λ st. none_a_name_at (head a.left) st h)

none_a_number_at : (o : Option Token) (st : Stack) → no_number o ≡ true → m.number_at o st ≡ Fails
none_a_number_at (Some (token.Number n)) st h = cc
none_a_number_at o st h = refl

pub stuck_a_number : (a : Ahead) (p : Place) → place_of a.left ≡ p → no_number (head a.left) ≡ true
    → Stops ANumber a (fault.Syntax p)
stuck_a_number a p e h = stuck ANumber a p e (λ st. none_a_number_at (head a.left) st h)

abbrev marked : (w : Mark) → Bool → (st : Stack) → Shift (Exactly w ∷ st)
marked w b st = mapped (λ v. (tt, v)) (if b then Takes st (λ v. v) else Fails)

pub stuck_mark : (w : Mark) (a : Ahead) (p : Place) → place_of a.left ≡ p → m.is_next w (head a.left) ≡ false
    → Stops (Exactly w) a (fault.Syntax p)
stuck_mark w a p e h = stuck (Exactly w) a p e (λ st. went (head a.left) st h)
  where
    went : (o : Option Token) (st : Stack) → m.is_next w o ≡ false → m.exactly_at w o st ≡ Fails
    went None st h = refl
    went (Some t) st h = ap (λ b. marked w b st) h

token_next : (o : Option Token) (w : Mark) → m.is_next w o ≡ true → (t : Token) × (o ≡ Some t) × (m.is_mark w t ≡ true)
token_next None w h = cc
token_next (Some t) w h = (t, refl, h)

pub gives_mark : (w : Mark) (a b : Ahead) (p : Place) → m.is_next w (head a.left) ≡ true → Passes a p b
    → Gives (Exactly w) a tt b
unfolding Gives
gives_mark w a b p h q = λ st k. let t = token_next (head a.left) w h in
    passes_to (Exactly w) t.0 a b p st st (λ v. (tt, v)) t.1 q (ap (λ b. marked w b st) t.2) k

pub halts_mark : (w : Mark) (a : Ahead) (e : SyntaxFault) → m.is_next w (head a.left) ≡ true → Halts a e
    → Stops (Exactly w) a e
halts_mark w a e h q = let t = token_next (head a.left) w h in
    halts_at (Exactly w) t.0 a e t.1 q (λ p st. (st, (λ v. (tt, v)), ap (λ b. marked w b st) t.2))

-- A name or a number is taken, and the brackets stay as they are.
pub gives_name : (a b : Ahead) (n : List ℕ) → ((p : Placed) × (a.left ≡ p ∷ b.left) × (p.token ≡ token.Name n))
    → b.opened ≡ a.opened → Gives AName a n b
unfolding Gives
gives_name a b n h same = λ st k. takes_at a.opened b.opened (AName ∷ st) k h.0 b.left a.left h.1
    (ap (too_deep a.opened) h.2) (same ∙ sym (ap (open_after a.opened) h.2)) st (λ v. (n, v))
    (ap (λ t. shift (AName ∷ st) (Some t) h.0.at) h.2)

pub gives_number : (a b : Ahead) (p : Place) (n : ℕ) → head a.left ≡ Some (token.Number n) → Passes a p b
    → Gives ANumber a n b
unfolding Gives
gives_number a b p n h q = λ st k. passes_to ANumber (token.Number n) a b p st st (λ v. (n, v)) h q refl k

pub halts_number : (a : Ahead) (e : SyntaxFault) (n : ℕ) → head a.left ≡ Some (token.Number n) → Halts a e
    → Stops ANumber a e
halts_number a e n h q = halts_at ANumber (token.Number n) a e h q (λ p st. (st, (λ v. (n, v)), refl))

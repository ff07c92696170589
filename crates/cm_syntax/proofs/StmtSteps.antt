-- How the reader's steps add up. What stands for statements and blocks.
use Rattle.std.proofs.Common.{◌≡◌, ℕ, true, List, ◌∷◌, Option, Some, refl, ap, ◌∙◌}
use Rattle.cm_model.specs.declared.place.Place.{Place}
use Rattle.cm_tokens.specs.declared.token.Token.{Token}
use Rattle.cm_tokens.specs.declared.token.Token.TheVariants as token
use Rattle.cm_syntax.specs.declared.mark.Mark.TheVariants as mark
use Rattle.cm_syntax.specs.declared.tree.Tree.{Tree}
use Rattle.cm_syntax.specs.declared.tree.Block.{Block}
use Rattle.cm_syntax.specs.declared.tree.Stmt.{Stmt}
use Rattle.cm_syntax.specs.declared.tree.Stmt.TheVariants as stmt
use Rattle.cm_syntax.specs.declared.tree.Expr.{Expr}
use Rattle.cm_syntax.specs.declared.tree.Primary.{Primary}
use Rattle.cm_syntax.specs.declared.fault.SyntaxFault.{SyntaxFault}
use Rattle.cm_syntax.specs.Text.{place_of}
use Rattle.cm_syntax.specs.inner.Machine as m
use Rattle.cm_syntax.specs.inner.Machine.{Exactly, AName, ANumber, ANum, AType, APart, MoreParts, Params, Internals}
use Rattle.cm_syntax.specs.inner.Machine.{MoreNames, Key, Where, ADecl, Decls, ABlock, Stmts, AStmt, Index, Else}
use Rattle.cm_syntax.specs.inner.Machine.{AnExpr, MoreCmps, Ands, Ors, ACmp, Right, ASum, AnOffset, AUnary, APost}
use Rattle.cm_syntax.specs.inner.Machine.{Fields, With, MoreSets, ASet, APrim, BehindName, Args, MoreArgs, Text, Stack}
use Rattle.cm_syntax.specs.inner.Machine.{Values, Shift, Takes, mapped, shift, reading, Ahead, head, Gives, Stops}
use Rattle.cm_syntax.specs.inner.Machine.{Passes, Halts, part_of, after_name, sum_of, cmp_of, expr_of, assign_of, if_of}
use Rattle.cm_syntax.specs.inner.Machine.{block_of, state_of, tree_of, starts_number, starts_name, starts_num, no_name}
use Rattle.cm_syntax.specs.inner.Machine.{no_relation, no_close_curly, no_end, no_close_round, no_not}
use Rattle.cm_syntax.proofs.Steps.{same_read, passes_to, halts_at, stops_by, memory, reads_ok, reads_err}

pub gives_block : (a b0 b1 : Ahead) (p : Place) (x0 : List Stmt) → head a.left ≡ Some token.OpenCurly
    → Passes a p b0 → Gives Stmts b0 x0 b1 → Gives ABlock a (block_of p x0) b1
unfolding Gives
gives_block a b0 b1 p x0 h q g0 = λ st k.
    passes_to ABlock token.OpenCurly a b0 p st (Stmts ∷ st) (λ v. (block_of p v.0, v.1)) h q refl k
    ∙ g0 (st) (λ v. k (block_of p v.0, v.1))

pub halts_block : (a : Ahead) (e : SyntaxFault) → head a.left ≡ Some token.OpenCurly → Halts a e → Stops ABlock a e
halts_block a e h q = halts_at ABlock token.OpenCurly a e h q (λ p st. (
  (Stmts ∷ st),
  (λ v. (block_of p v.0, v.1)),
  refl,
))

pub stops_block_0 : (a b0 : Ahead) (p : Place) (e : SyntaxFault) → head a.left ≡ Some token.OpenCurly
    → Passes a p b0 → Stops Stmts b0 e → Stops ABlock a e
stops_block_0 a b0 p e h q z = stops_by ABlock Stmts a b0 e (λ st k. (
  (st),
  (λ v. k (block_of p v.0, v.1)),
  passes_to ABlock token.OpenCurly a b0 p st (Stmts ∷ st) (λ v. (block_of p v.0, v.1)) h q refl k,
)) z

pub ruleset steps_block = (gives_block, halts_block, stops_block_0, memory, reads_ok, reads_err)

pub gives_let : (a b0 b1 b2 b3 b4 : Ahead) (p : Place) (x0 : List ℕ) (x2 : Expr) → head a.left ≡ Some token.Let
    → Passes a p b0 → Gives AName b0 x0 b1 → Gives (Exactly mark.Assign) b1 tt b2 → Gives AnExpr b2 x2 b3
    → Gives (Exactly mark.Semicolon) b3 tt b4 → Gives AStmt a (stmt.Let p x0 x2) b4
unfolding Gives
gives_let a b0 b1 b2 b3 b4 p x0 x2 h q g0 g1 g2 g3 = λ st k.
    passes_to AStmt token.Let a b0 p st (AName ∷ Exactly mark.Assign ∷ AnExpr ∷ Exactly mark.Semicolon ∷ st)
    (λ v. (stmt.Let p v.0 v.1.1.0, v.1.1.1.1)) h q refl k
    ∙ g0 (Exactly mark.Assign ∷ AnExpr ∷ Exactly mark.Semicolon ∷ st) (λ v. k (stmt.Let p v.0 v.1.1.0, v.1.1.1.1))
    ∙ g1 (AnExpr ∷ Exactly mark.Semicolon ∷ st) (λ v. k (stmt.Let p x0 v.1.0, v.1.1.1))
    ∙ g2 (Exactly mark.Semicolon ∷ st) (λ v. k (stmt.Let p x0 v.0, v.1.1))
    ∙ g3 (st) (λ v. k (stmt.Let p x0 x2, v.1))

pub halts_let : (a : Ahead) (e : SyntaxFault) → head a.left ≡ Some token.Let → Halts a e → Stops AStmt a e
halts_let a e h q = halts_at AStmt token.Let a e h q
    (λ p st. (
      (AName ∷ Exactly mark.Assign ∷ AnExpr ∷ Exactly mark.Semicolon ∷ st),
      (λ v. (stmt.Let p v.0 v.1.1.0, v.1.1.1.1)),
      refl,
    ))

pub stops_let_0 : (a b0 : Ahead) (p : Place) (e : SyntaxFault) → head a.left ≡ Some token.Let → Passes a p b0
    → Stops AName b0 e → Stops AStmt a e
stops_let_0 a b0 p e h q z = stops_by AStmt AName a b0 e (λ st k. (
  (Exactly mark.Assign ∷ AnExpr ∷ Exactly mark.Semicolon ∷ st),
  (λ v. k (stmt.Let p v.0 v.1.1.0, v.1.1.1.1)),
  passes_to AStmt token.Let a b0 p st (AName ∷ Exactly mark.Assign ∷ AnExpr ∷ Exactly mark.Semicolon ∷ st)
      (λ v. (stmt.Let p v.0 v.1.1.0, v.1.1.1.1)) h q refl k,
)) z

pub stops_let_1 : (a b0 b1 : Ahead) (p : Place) (x0 : List ℕ) (e : SyntaxFault) → head a.left ≡ Some token.Let
    → Passes a p b0 → Gives AName b0 x0 b1 → Stops (Exactly mark.Assign) b1 e → Stops AStmt a e
unfolding Gives
stops_let_1 a b0 b1 p x0 e h q g0 z = stops_by AStmt (Exactly mark.Assign) a b1 e (λ st k. (
  (AnExpr ∷ Exactly mark.Semicolon ∷ st),
  (λ v. k (stmt.Let p x0 v.1.0, v.1.1.1)),
  passes_to AStmt token.Let a b0 p st (AName ∷ Exactly mark.Assign ∷ AnExpr ∷ Exactly mark.Semicolon ∷ st)
      (λ v. (stmt.Let p v.0 v.1.1.0, v.1.1.1.1)) h q refl k
      ∙ g0 (Exactly mark.Assign ∷ AnExpr ∷ Exactly mark.Semicolon ∷ st) (λ v. k (stmt.Let p v.0 v.1.1.0, v.1.1.1.1)),
)) z

pub stops_let_2 : (a b0 b1 b2 : Ahead) (p : Place) (x0 : List ℕ) (e : SyntaxFault) → head a.left ≡ Some token.Let
    → Passes a p b0 → Gives AName b0 x0 b1 → Gives (Exactly mark.Assign) b1 tt b2 → Stops AnExpr b2 e → Stops AStmt a e
unfolding Gives
stops_let_2 a b0 b1 b2 p x0 e h q g0 g1 z = stops_by AStmt AnExpr a b2 e (λ st k. (
  (Exactly mark.Semicolon ∷ st),
  (λ v. k (stmt.Let p x0 v.0, v.1.1)),
  passes_to AStmt token.Let a b0 p st (AName ∷ Exactly mark.Assign ∷ AnExpr ∷ Exactly mark.Semicolon ∷ st)
      (λ v. (stmt.Let p v.0 v.1.1.0, v.1.1.1.1)) h q refl k
      ∙ g0 (Exactly mark.Assign ∷ AnExpr ∷ Exactly mark.Semicolon ∷ st) (λ v. k (stmt.Let p v.0 v.1.1.0, v.1.1.1.1))
      ∙ g1 (AnExpr ∷ Exactly mark.Semicolon ∷ st) (λ v. k (stmt.Let p x0 v.1.0, v.1.1.1)),
)) z

pub stops_let_3 : (a b0 b1 b2 b3 : Ahead) (p : Place) (x0 : List ℕ) (x2 : Expr) (e : SyntaxFault)
    → head a.left ≡ Some token.Let → Passes a p b0 → Gives AName b0 x0 b1 → Gives (Exactly mark.Assign) b1 tt b2
    → Gives AnExpr b2 x2 b3 → Stops (Exactly mark.Semicolon) b3 e → Stops AStmt a e
unfolding Gives
stops_let_3 a b0 b1 b2 b3 p x0 x2 e h q g0 g1 g2 z = stops_by AStmt (Exactly mark.Semicolon) a b3 e (λ st k. (
  (st),
  (λ v. k (stmt.Let p x0 x2, v.1)),
  passes_to AStmt token.Let a b0 p st (AName ∷ Exactly mark.Assign ∷ AnExpr ∷ Exactly mark.Semicolon ∷ st)
      (λ v. (stmt.Let p v.0 v.1.1.0, v.1.1.1.1)) h q refl k
      ∙ g0 (Exactly mark.Assign ∷ AnExpr ∷ Exactly mark.Semicolon ∷ st) (λ v. k (stmt.Let p v.0 v.1.1.0, v.1.1.1.1))
      ∙ g1 (AnExpr ∷ Exactly mark.Semicolon ∷ st) (λ v. k (stmt.Let p x0 v.1.0, v.1.1.1))
      ∙ g2 (Exactly mark.Semicolon ∷ st) (λ v. k (stmt.Let p x0 v.0, v.1.1)),
)) z

pub ruleset steps_let = (
  gives_let,
  halts_let,
  stops_let_0,
  stops_let_1,
  stops_let_2,
  stops_let_3,
  memory,
  reads_ok,
  reads_err,
)

at_assign : (o : Option Token) (p : Place) (st : Stack) → starts_name o ≡ true
    → m.stmt_at o p st ≡ mapped (λ v. (assign_of p v.0 v.1.0 v.1.1.1.0, v.1.1.1.1.1))
    (m.name_at o (Index ∷ Exactly mark.Assign ∷ AnExpr ∷ Exactly mark.Semicolon ∷ st))
at_assign (Some (token.Name n)) p st h = refl
at_assign o p st h = cc

open_assign : (b : Ahead) (p : Place) (st : Stack) (k : Values (AStmt ∷ st) → Tree) → place_of b.left ≡ p
    → starts_name (head b.left) ≡ true → reading b.opened (AStmt ∷ st) k b.left ≡ reading b.opened
    (AName ∷ Index ∷ Exactly mark.Assign ∷ AnExpr ∷ Exactly mark.Semicolon ∷ st)
    (λ v. k (assign_of p v.0 v.1.0 v.1.1.1.0, v.1.1.1.1.1)) b.left
open_assign b p st k q w = same_read b.opened (AName ∷ Index ∷ Exactly mark.Assign ∷ AnExpr ∷ Exactly mark.Semicolon
    ∷ st) (AStmt ∷ st) (λ v. (assign_of (place_of b.left) v.0 v.1.0 v.1.1.1.0, v.1.1.1.1.1)) k b.left
    (at_assign (head b.left) (place_of b.left) st w)
    ∙ ap (λ p. reading b.opened (AName ∷ Index ∷ Exactly mark.Assign ∷ AnExpr ∷ Exactly mark.Semicolon ∷ st)
    (λ v. k (assign_of p v.0 v.1.0 v.1.1.1.0, v.1.1.1.1.1)) b.left) q

pub gives_assign : (b0 b1 b2 b3 b4 b5 : Ahead) (p : Place) (x0 : List ℕ) (x1 : Option Expr) (x3 : Expr)
    → place_of b0.left ≡ p → starts_name (head b0.left) ≡ true → Gives AName b0 x0 b1 → Gives Index b1 x1 b2
    → Gives (Exactly mark.Assign) b2 tt b3 → Gives AnExpr b3 x3 b4 → Gives (Exactly mark.Semicolon) b4 tt b5
    → Gives AStmt b0 (assign_of p x0 x1 x3) b5
unfolding Gives
gives_assign b0 b1 b2 b3 b4 b5 p x0 x1 x3 q w g0 g1 g2 g3 g4 = λ st k.
    open_assign b0 p st k q w
    ∙ g0 (Index ∷ Exactly mark.Assign ∷ AnExpr ∷ Exactly mark.Semicolon ∷ st) (λ v. k (
      assign_of p v.0 v.1.0 v.1.1.1.0,
      v.1.1.1.1.1,
    ))
    ∙ g1 (Exactly mark.Assign ∷ AnExpr ∷ Exactly mark.Semicolon ∷ st) (λ v. k (assign_of p x0 v.0 v.1.1.0, v.1.1.1.1))
    ∙ g2 (AnExpr ∷ Exactly mark.Semicolon ∷ st) (λ v. k (assign_of p x0 x1 v.1.0, v.1.1.1))
    ∙ g3 (Exactly mark.Semicolon ∷ st) (λ v. k (assign_of p x0 x1 v.0, v.1.1))
    ∙ g4 (st) (λ v. k (assign_of p x0 x1 x3, v.1))

pub stops_assign_0 : (b0 : Ahead) (p : Place) (e : SyntaxFault) → place_of b0.left ≡ p
    → starts_name (head b0.left) ≡ true → Stops AName b0 e → Stops AStmt b0 e
stops_assign_0 b0 p e q w z = stops_by AStmt AName b0 b0 e (λ st k. (
  (Index ∷ Exactly mark.Assign ∷ AnExpr ∷ Exactly mark.Semicolon ∷ st),
  (λ v. k (assign_of p v.0 v.1.0 v.1.1.1.0, v.1.1.1.1.1)),
  open_assign b0 p st k q w,
)) z

pub stops_assign_1 : (b0 b1 : Ahead) (p : Place) (x0 : List ℕ) (e : SyntaxFault) → place_of b0.left ≡ p
    → starts_name (head b0.left) ≡ true → Gives AName b0 x0 b1 → Stops Index b1 e → Stops AStmt b0 e
unfolding Gives
stops_assign_1 b0 b1 p x0 e q w g0 z = stops_by AStmt Index b0 b1 e (λ st k. (
  (Exactly mark.Assign ∷ AnExpr ∷ Exactly mark.Semicolon ∷ st),
  (λ v. k (assign_of p x0 v.0 v.1.1.0, v.1.1.1.1)),
  open_assign b0 p st k q w
      ∙ g0 (Index ∷ Exactly mark.Assign ∷ AnExpr ∷ Exactly mark.Semicolon ∷ st)
      (λ v. k (assign_of p v.0 v.1.0 v.1.1.1.0, v.1.1.1.1.1)),
)) z

pub stops_assign_2 : (b0 b1 b2 : Ahead) (p : Place) (x0 : List ℕ) (x1 : Option Expr) (e : SyntaxFault)
    → place_of b0.left ≡ p → starts_name (head b0.left) ≡ true → Gives AName b0 x0 b1 → Gives Index b1 x1 b2
    → Stops (Exactly mark.Assign) b2 e → Stops AStmt b0 e
unfolding Gives
stops_assign_2 b0 b1 b2 p x0 x1 e q w g0 g1 z = stops_by AStmt (Exactly mark.Assign) b0 b2 e (λ st k. (
  (AnExpr ∷ Exactly mark.Semicolon ∷ st),
  (λ v. k (assign_of p x0 x1 v.1.0, v.1.1.1)),
  open_assign b0 p st k q w
      ∙ g0 (Index ∷ Exactly mark.Assign ∷ AnExpr ∷ Exactly mark.Semicolon ∷ st)
      (λ v. k (assign_of p v.0 v.1.0 v.1.1.1.0, v.1.1.1.1.1))
      ∙ g1 (Exactly mark.Assign ∷ AnExpr ∷ Exactly mark.Semicolon ∷ st) (λ v. k (
        assign_of p x0 v.0 v.1.1.0,
        v.1.1.1.1,
      )),
)) z

pub stops_assign_3 : (b0 b1 b2 b3 : Ahead) (p : Place) (x0 : List ℕ) (x1 : Option Expr) (e : SyntaxFault)
    → place_of b0.left ≡ p → starts_name (head b0.left) ≡ true → Gives AName b0 x0 b1 → Gives Index b1 x1 b2
    → Gives (Exactly mark.Assign) b2 tt b3 → Stops AnExpr b3 e → Stops AStmt b0 e
unfolding Gives
stops_assign_3 b0 b1 b2 b3 p x0 x1 e q w g0 g1 g2 z = stops_by AStmt AnExpr b0 b3 e (λ st k. (
  (Exactly mark.Semicolon ∷ st),
  (λ v. k (assign_of p x0 x1 v.0, v.1.1)),
  open_assign b0 p st k q w
      ∙ g0 (Index ∷ Exactly mark.Assign ∷ AnExpr ∷ Exactly mark.Semicolon ∷ st)
      (λ v. k (assign_of p v.0 v.1.0 v.1.1.1.0, v.1.1.1.1.1))
      ∙ g1 (Exactly mark.Assign ∷ AnExpr ∷ Exactly mark.Semicolon ∷ st) (λ v. k (assign_of p x0 v.0 v.1.1.0, v.1.1.1.1))
      ∙ g2 (AnExpr ∷ Exactly mark.Semicolon ∷ st) (λ v. k (assign_of p x0 x1 v.1.0, v.1.1.1)),
)) z

pub stops_assign_4 : (b0 b1 b2 b3 b4 : Ahead) (p : Place) (x0 : List ℕ) (x1 : Option Expr) (x3 : Expr) (e : SyntaxFault)
    → place_of b0.left ≡ p → starts_name (head b0.left) ≡ true → Gives AName b0 x0 b1 → Gives Index b1 x1 b2
    → Gives (Exactly mark.Assign) b2 tt b3 → Gives AnExpr b3 x3 b4 → Stops (Exactly mark.Semicolon) b4 e
    → Stops AStmt b0 e
unfolding Gives
stops_assign_4 b0 b1 b2 b3 b4 p x0 x1 x3 e q w g0 g1 g2 g3 z = stops_by AStmt (Exactly mark.Semicolon)
    b0 b4 e (λ st k. (
      (st),
      (λ v. k (assign_of p x0 x1 x3, v.1)),
      open_assign b0 p st k q w
          ∙ g0 (Index ∷ Exactly mark.Assign ∷ AnExpr ∷ Exactly mark.Semicolon ∷ st)
          (λ v. k (assign_of p v.0 v.1.0 v.1.1.1.0, v.1.1.1.1.1))
          ∙ g1 (Exactly mark.Assign ∷ AnExpr ∷ Exactly mark.Semicolon ∷ st) (λ v. k (
            assign_of p x0 v.0 v.1.1.0,
            v.1.1.1.1,
          ))
          ∙ g2 (AnExpr ∷ Exactly mark.Semicolon ∷ st) (λ v. k (assign_of p x0 x1 v.1.0, v.1.1.1))
          ∙ g3 (Exactly mark.Semicolon ∷ st) (λ v. k (assign_of p x0 x1 v.0, v.1.1)),
    )) z

pub ruleset steps_assign = (
  gives_assign,
  stops_assign_0,
  stops_assign_1,
  stops_assign_2,
  stops_assign_3,
  stops_assign_4,
  memory,
  reads_ok,
  reads_err,
)

pub gives_if : (a b0 b1 b2 b3 : Ahead) (p : Place) (x0 : Expr) (x1 : Block) (x2 : Option Block)
    → head a.left ≡ Some token.If → Passes a p b0 → Gives AnExpr b0 x0 b1 → Gives ABlock b1 x1 b2 → Gives Else b2 x2 b3
    → Gives AStmt a (if_of p x0 x1 x2) b3
unfolding Gives
gives_if a b0 b1 b2 b3 p x0 x1 x2 h q g0 g1 g2 = λ st k.
    passes_to AStmt token.If a b0 p st (AnExpr ∷ ABlock ∷ Else ∷ st) (λ v. (if_of p v.0 v.1.0 v.1.1.0, v.1.1.1))
    h q refl k
    ∙ g0 (ABlock ∷ Else ∷ st) (λ v. k (if_of p v.0 v.1.0 v.1.1.0, v.1.1.1))
    ∙ g1 (Else ∷ st) (λ v. k (if_of p x0 v.0 v.1.0, v.1.1))
    ∙ g2 (st) (λ v. k (if_of p x0 x1 v.0, v.1))

pub halts_if : (a : Ahead) (e : SyntaxFault) → head a.left ≡ Some token.If → Halts a e → Stops AStmt a e
halts_if a e h q = halts_at AStmt token.If a e h q (λ p st. (
  (AnExpr ∷ ABlock ∷ Else ∷ st),
  (λ v. (if_of p v.0 v.1.0 v.1.1.0, v.1.1.1)),
  refl,
))

pub stops_if_0 : (a b0 : Ahead) (p : Place) (e : SyntaxFault) → head a.left ≡ Some token.If → Passes a p b0
    → Stops AnExpr b0 e → Stops AStmt a e
stops_if_0 a b0 p e h q z = stops_by AStmt AnExpr a b0 e (λ st k. (
  (ABlock ∷ Else ∷ st),
  (λ v. k (if_of p v.0 v.1.0 v.1.1.0, v.1.1.1)),
  passes_to AStmt token.If a b0 p st (AnExpr ∷ ABlock ∷ Else ∷ st) (λ v. (if_of p v.0 v.1.0 v.1.1.0, v.1.1.1))
      h q refl k,
)) z

pub stops_if_1 : (a b0 b1 : Ahead) (p : Place) (x0 : Expr) (e : SyntaxFault) → head a.left ≡ Some token.If
    → Passes a p b0 → Gives AnExpr b0 x0 b1 → Stops ABlock b1 e → Stops AStmt a e
unfolding Gives
stops_if_1 a b0 b1 p x0 e h q g0 z = stops_by AStmt ABlock a b1 e (λ st k. (
  (Else ∷ st),
  (λ v. k (if_of p x0 v.0 v.1.0, v.1.1)),
  passes_to AStmt token.If a b0 p st (AnExpr ∷ ABlock ∷ Else ∷ st) (λ v. (if_of p v.0 v.1.0 v.1.1.0, v.1.1.1))
      h q refl k
      ∙ g0 (ABlock ∷ Else ∷ st) (λ v. k (if_of p v.0 v.1.0 v.1.1.0, v.1.1.1)),
)) z

pub stops_if_2 : (a b0 b1 b2 : Ahead) (p : Place) (x0 : Expr) (x1 : Block) (e : SyntaxFault)
    → head a.left ≡ Some token.If → Passes a p b0 → Gives AnExpr b0 x0 b1 → Gives ABlock b1 x1 b2 → Stops Else b2 e
    → Stops AStmt a e
unfolding Gives
stops_if_2 a b0 b1 b2 p x0 x1 e h q g0 g1 z = stops_by AStmt Else a b2 e (λ st k. (
  (st),
  (λ v. k (if_of p x0 x1 v.0, v.1)),
  passes_to AStmt token.If a b0 p st (AnExpr ∷ ABlock ∷ Else ∷ st) (λ v. (if_of p v.0 v.1.0 v.1.1.0, v.1.1.1))
      h q refl k
      ∙ g0 (ABlock ∷ Else ∷ st) (λ v. k (if_of p v.0 v.1.0 v.1.1.0, v.1.1.1))
      ∙ g1 (Else ∷ st) (λ v. k (if_of p x0 v.0 v.1.0, v.1.1)),
)) z

pub ruleset steps_if = (gives_if, halts_if, stops_if_0, stops_if_1, stops_if_2, memory, reads_ok, reads_err)

pub gives_case : (a b0 b1 b2 b3 b4 b5 b6 b7 b8 : Ahead) (p : Place) (x0 : Expr) (x3 : Block) (x5 : List ℕ) (x6 : Block)
    → head a.left ≡ Some token.Case → Passes a p b0 → Gives AnExpr b0 x0 b1 → Gives (Exactly mark.OpenCurly) b1 tt b2
    → Gives (Exactly mark.Nothing) b2 tt b3 → Gives ABlock b3 x3 b4 → Gives (Exactly mark.Something) b4 tt b5
    → Gives AName b5 x5 b6 → Gives ABlock b6 x6 b7 → Gives (Exactly mark.CloseCurly) b7 tt b8
    → Gives AStmt a (stmt.Case p x0 x3 x5 x6) b8
unfolding Gives
gives_case a b0 b1 b2 b3 b4 b5 b6 b7 b8 p x0 x3 x5 x6 h q g0 g1 g2 g3 g4 g5 g6 g7 = λ st k.
    passes_to AStmt token.Case a b0 p st (AnExpr ∷ Exactly mark.OpenCurly ∷ Exactly mark.Nothing ∷ ABlock
    ∷ Exactly mark.Something ∷ AName ∷ ABlock ∷ Exactly mark.CloseCurly ∷ st)
    (λ v. (stmt.Case p v.0 v.1.1.1.0 v.1.1.1.1.1.0 v.1.1.1.1.1.1.0, v.1.1.1.1.1.1.1.1)) h q refl k
    ∙ g0 (Exactly mark.OpenCurly ∷ Exactly mark.Nothing ∷ ABlock ∷ Exactly mark.Something ∷ AName ∷ ABlock
    ∷ Exactly mark.CloseCurly ∷ st) (λ v. k (
      stmt.Case p v.0 v.1.1.1.0 v.1.1.1.1.1.0 v.1.1.1.1.1.1.0,
      v.1.1.1.1.1.1.1.1,
    ))
    ∙ g1 (Exactly mark.Nothing ∷ ABlock ∷ Exactly mark.Something ∷ AName ∷ ABlock ∷ Exactly mark.CloseCurly ∷ st)
    (λ v. k (stmt.Case p x0 v.1.1.0 v.1.1.1.1.0 v.1.1.1.1.1.0, v.1.1.1.1.1.1.1))
    ∙ g2 (ABlock ∷ Exactly mark.Something ∷ AName ∷ ABlock ∷ Exactly mark.CloseCurly ∷ st)
    (λ v. k (stmt.Case p x0 v.1.0 v.1.1.1.0 v.1.1.1.1.0, v.1.1.1.1.1.1))
    ∙ g3 (Exactly mark.Something ∷ AName ∷ ABlock ∷ Exactly mark.CloseCurly ∷ st)
    (λ v. k (stmt.Case p x0 v.0 v.1.1.0 v.1.1.1.0, v.1.1.1.1.1))
    ∙ g4 (AName ∷ ABlock ∷ Exactly mark.CloseCurly ∷ st) (λ v. k (stmt.Case p x0 x3 v.1.0 v.1.1.0, v.1.1.1.1))
    ∙ g5 (ABlock ∷ Exactly mark.CloseCurly ∷ st) (λ v. k (stmt.Case p x0 x3 v.0 v.1.0, v.1.1.1))
    ∙ g6 (Exactly mark.CloseCurly ∷ st) (λ v. k (stmt.Case p x0 x3 x5 v.0, v.1.1))
    ∙ g7 (st) (λ v. k (stmt.Case p x0 x3 x5 x6, v.1))

pub halts_case : (a : Ahead) (e : SyntaxFault) → head a.left ≡ Some token.Case → Halts a e → Stops AStmt a e
halts_case a e h q = halts_at AStmt token.Case a e h q
    (λ p st. (
      (AnExpr ∷ Exactly mark.OpenCurly ∷ Exactly mark.Nothing ∷ ABlock ∷ Exactly mark.Something
          ∷ AName ∷ ABlock ∷ Exactly mark.CloseCurly ∷ st),
      (λ v. (stmt.Case p v.0 v.1.1.1.0 v.1.1.1.1.1.0 v.1.1.1.1.1.1.0, v.1.1.1.1.1.1.1.1)),
      refl,
    ))

pub stops_case_0 : (a b0 : Ahead) (p : Place) (e : SyntaxFault) → head a.left ≡ Some token.Case → Passes a p b0
    → Stops AnExpr b0 e → Stops AStmt a e
stops_case_0 a b0 p e h q z = stops_by AStmt AnExpr a b0 e (λ st k. (
  (Exactly mark.OpenCurly ∷ Exactly mark.Nothing ∷ ABlock ∷ Exactly mark.Something ∷ AName ∷ ABlock
      ∷ Exactly mark.CloseCurly ∷ st),
  (λ v. k (stmt.Case p v.0 v.1.1.1.0 v.1.1.1.1.1.0 v.1.1.1.1.1.1.0, v.1.1.1.1.1.1.1.1)),
  passes_to AStmt token.Case a b0 p st (AnExpr ∷ Exactly mark.OpenCurly ∷ Exactly mark.Nothing ∷ ABlock
      ∷ Exactly mark.Something ∷ AName ∷ ABlock ∷ Exactly mark.CloseCurly ∷ st)
      (λ v. (stmt.Case p v.0 v.1.1.1.0 v.1.1.1.1.1.0 v.1.1.1.1.1.1.0, v.1.1.1.1.1.1.1.1)) h q refl k,
)) z

pub stops_case_1 : (a b0 b1 : Ahead) (p : Place) (x0 : Expr) (e : SyntaxFault) → head a.left ≡ Some token.Case
    → Passes a p b0 → Gives AnExpr b0 x0 b1 → Stops (Exactly mark.OpenCurly) b1 e → Stops AStmt a e
unfolding Gives
stops_case_1 a b0 b1 p x0 e h q g0 z = stops_by AStmt (Exactly mark.OpenCurly) a b1 e (λ st k. (
  (Exactly mark.Nothing ∷ ABlock ∷ Exactly mark.Something ∷ AName ∷ ABlock ∷ Exactly mark.CloseCurly ∷ st),
  (λ v. k (stmt.Case p x0 v.1.1.0 v.1.1.1.1.0 v.1.1.1.1.1.0, v.1.1.1.1.1.1.1)),
  passes_to AStmt token.Case a b0 p st (AnExpr ∷ Exactly mark.OpenCurly ∷ Exactly mark.Nothing ∷ ABlock
      ∷ Exactly mark.Something ∷ AName ∷ ABlock ∷ Exactly mark.CloseCurly ∷ st)
      (λ v. (stmt.Case p v.0 v.1.1.1.0 v.1.1.1.1.1.0 v.1.1.1.1.1.1.0, v.1.1.1.1.1.1.1.1)) h q refl k
      ∙ g0 (Exactly mark.OpenCurly ∷ Exactly mark.Nothing ∷ ABlock ∷ Exactly mark.Something ∷ AName ∷ ABlock
      ∷ Exactly mark.CloseCurly ∷ st) (λ v. k (
        stmt.Case p v.0 v.1.1.1.0 v.1.1.1.1.1.0 v.1.1.1.1.1.1.0,
        v.1.1.1.1.1.1.1.1,
      )),
)) z

pub stops_case_2 : (a b0 b1 b2 : Ahead) (p : Place) (x0 : Expr) (e : SyntaxFault) → head a.left ≡ Some token.Case
    → Passes a p b0 → Gives AnExpr b0 x0 b1 → Gives (Exactly mark.OpenCurly) b1 tt b2
    → Stops (Exactly mark.Nothing) b2 e → Stops AStmt a e
unfolding Gives
stops_case_2 a b0 b1 b2 p x0 e h q g0 g1 z = stops_by AStmt (Exactly mark.Nothing) a b2 e (λ st k. (
  (ABlock ∷ Exactly mark.Something ∷ AName ∷ ABlock ∷ Exactly mark.CloseCurly ∷ st),
  (λ v. k (stmt.Case p x0 v.1.0 v.1.1.1.0 v.1.1.1.1.0, v.1.1.1.1.1.1)),
  passes_to AStmt token.Case a b0 p st (AnExpr ∷ Exactly mark.OpenCurly ∷ Exactly mark.Nothing ∷ ABlock
      ∷ Exactly mark.Something ∷ AName ∷ ABlock ∷ Exactly mark.CloseCurly ∷ st)
      (λ v. (stmt.Case p v.0 v.1.1.1.0 v.1.1.1.1.1.0 v.1.1.1.1.1.1.0, v.1.1.1.1.1.1.1.1)) h q refl k
      ∙ g0 (Exactly mark.OpenCurly ∷ Exactly mark.Nothing ∷ ABlock ∷ Exactly mark.Something ∷ AName ∷ ABlock
      ∷ Exactly mark.CloseCurly ∷ st) (λ v. k (
        stmt.Case p v.0 v.1.1.1.0 v.1.1.1.1.1.0 v.1.1.1.1.1.1.0,
        v.1.1.1.1.1.1.1.1,
      ))
      ∙ g1 (Exactly mark.Nothing ∷ ABlock ∷ Exactly mark.Something ∷ AName ∷ ABlock ∷ Exactly mark.CloseCurly ∷ st)
      (λ v. k (stmt.Case p x0 v.1.1.0 v.1.1.1.1.0 v.1.1.1.1.1.0, v.1.1.1.1.1.1.1)),
)) z

pub stops_case_3 : (a b0 b1 b2 b3 : Ahead) (p : Place) (x0 : Expr) (e : SyntaxFault) → head a.left ≡ Some token.Case
    → Passes a p b0 → Gives AnExpr b0 x0 b1 → Gives (Exactly mark.OpenCurly) b1 tt b2
    → Gives (Exactly mark.Nothing) b2 tt b3 → Stops ABlock b3 e → Stops AStmt a e
unfolding Gives
stops_case_3 a b0 b1 b2 b3 p x0 e h q g0 g1 g2 z = stops_by AStmt ABlock a b3 e (λ st k. (
  (Exactly mark.Something ∷ AName ∷ ABlock ∷ Exactly mark.CloseCurly ∷ st),
  (λ v. k (stmt.Case p x0 v.0 v.1.1.0 v.1.1.1.0, v.1.1.1.1.1)),
  passes_to AStmt token.Case a b0 p st (AnExpr ∷ Exactly mark.OpenCurly ∷ Exactly mark.Nothing ∷ ABlock
      ∷ Exactly mark.Something ∷ AName ∷ ABlock ∷ Exactly mark.CloseCurly ∷ st)
      (λ v. (stmt.Case p v.0 v.1.1.1.0 v.1.1.1.1.1.0 v.1.1.1.1.1.1.0, v.1.1.1.1.1.1.1.1)) h q refl k
      ∙ g0 (Exactly mark.OpenCurly ∷ Exactly mark.Nothing ∷ ABlock ∷ Exactly mark.Something ∷ AName ∷ ABlock
      ∷ Exactly mark.CloseCurly ∷ st) (λ v. k (
        stmt.Case p v.0 v.1.1.1.0 v.1.1.1.1.1.0 v.1.1.1.1.1.1.0,
        v.1.1.1.1.1.1.1.1,
      ))
      ∙ g1 (Exactly mark.Nothing ∷ ABlock ∷ Exactly mark.Something ∷ AName ∷ ABlock ∷ Exactly mark.CloseCurly ∷ st)
      (λ v. k (stmt.Case p x0 v.1.1.0 v.1.1.1.1.0 v.1.1.1.1.1.0, v.1.1.1.1.1.1.1))
      ∙ g2 (ABlock ∷ Exactly mark.Something ∷ AName ∷ ABlock ∷ Exactly mark.CloseCurly ∷ st)
      (λ v. k (stmt.Case p x0 v.1.0 v.1.1.1.0 v.1.1.1.1.0, v.1.1.1.1.1.1)),
)) z

pub stops_case_4 : (a b0 b1 b2 b3 b4 : Ahead) (p : Place) (x0 : Expr) (x3 : Block) (e : SyntaxFault)
    → head a.left ≡ Some token.Case → Passes a p b0 → Gives AnExpr b0 x0 b1 → Gives (Exactly mark.OpenCurly) b1 tt b2
    → Gives (Exactly mark.Nothing) b2 tt b3 → Gives ABlock b3 x3 b4 → Stops (Exactly mark.Something) b4 e
    → Stops AStmt a e
unfolding Gives
stops_case_4 a b0 b1 b2 b3 b4 p x0 x3 e h q g0 g1 g2 g3 z = stops_by AStmt (Exactly mark.Something) a b4 e (λ st k. (
  (AName ∷ ABlock ∷ Exactly mark.CloseCurly ∷ st),
  (λ v. k (stmt.Case p x0 x3 v.1.0 v.1.1.0, v.1.1.1.1)),
  passes_to AStmt token.Case a b0 p st (AnExpr ∷ Exactly mark.OpenCurly ∷ Exactly mark.Nothing ∷ ABlock
      ∷ Exactly mark.Something ∷ AName ∷ ABlock ∷ Exactly mark.CloseCurly ∷ st)
      (λ v. (stmt.Case p v.0 v.1.1.1.0 v.1.1.1.1.1.0 v.1.1.1.1.1.1.0, v.1.1.1.1.1.1.1.1)) h q refl k
      ∙ g0 (Exactly mark.OpenCurly ∷ Exactly mark.Nothing ∷ ABlock ∷ Exactly mark.Something ∷ AName ∷ ABlock
      ∷ Exactly mark.CloseCurly ∷ st) (λ v. k (
        stmt.Case p v.0 v.1.1.1.0 v.1.1.1.1.1.0 v.1.1.1.1.1.1.0,
        v.1.1.1.1.1.1.1.1,
      ))
      ∙ g1 (Exactly mark.Nothing ∷ ABlock ∷ Exactly mark.Something ∷ AName ∷ ABlock ∷ Exactly mark.CloseCurly ∷ st)
      (λ v. k (stmt.Case p x0 v.1.1.0 v.1.1.1.1.0 v.1.1.1.1.1.0, v.1.1.1.1.1.1.1))
      ∙ g2 (ABlock ∷ Exactly mark.Something ∷ AName ∷ ABlock ∷ Exactly mark.CloseCurly ∷ st)
      (λ v. k (stmt.Case p x0 v.1.0 v.1.1.1.0 v.1.1.1.1.0, v.1.1.1.1.1.1))
      ∙ g3 (Exactly mark.Something ∷ AName ∷ ABlock ∷ Exactly mark.CloseCurly ∷ st)
      (λ v. k (stmt.Case p x0 v.0 v.1.1.0 v.1.1.1.0, v.1.1.1.1.1)),
)) z

pub stops_case_5 : (a b0 b1 b2 b3 b4 b5 : Ahead) (p : Place) (x0 : Expr) (x3 : Block) (e : SyntaxFault)
    → head a.left ≡ Some token.Case → Passes a p b0 → Gives AnExpr b0 x0 b1 → Gives (Exactly mark.OpenCurly) b1 tt b2
    → Gives (Exactly mark.Nothing) b2 tt b3 → Gives ABlock b3 x3 b4 → Gives (Exactly mark.Something) b4 tt b5
    → Stops AName b5 e → Stops AStmt a e
unfolding Gives
stops_case_5 a b0 b1 b2 b3 b4 b5 p x0 x3 e h q g0 g1 g2 g3 g4 z = stops_by AStmt AName a b5 e (λ st k. (
  (ABlock ∷ Exactly mark.CloseCurly ∷ st),
  (λ v. k (stmt.Case p x0 x3 v.0 v.1.0, v.1.1.1)),
  passes_to AStmt token.Case a b0 p st (AnExpr ∷ Exactly mark.OpenCurly ∷ Exactly mark.Nothing ∷ ABlock
      ∷ Exactly mark.Something ∷ AName ∷ ABlock ∷ Exactly mark.CloseCurly ∷ st)
      (λ v. (stmt.Case p v.0 v.1.1.1.0 v.1.1.1.1.1.0 v.1.1.1.1.1.1.0, v.1.1.1.1.1.1.1.1)) h q refl k
      ∙ g0 (Exactly mark.OpenCurly ∷ Exactly mark.Nothing ∷ ABlock ∷ Exactly mark.Something ∷ AName ∷ ABlock
      ∷ Exactly mark.CloseCurly ∷ st) (λ v. k (
        stmt.Case p v.0 v.1.1.1.0 v.1.1.1.1.1.0 v.1.1.1.1.1.1.0,
        v.1.1.1.1.1.1.1.1,
      ))
      ∙ g1 (Exactly mark.Nothing ∷ ABlock ∷ Exactly mark.Something ∷ AName ∷ ABlock ∷ Exactly mark.CloseCurly ∷ st)
      (λ v. k (stmt.Case p x0 v.1.1.0 v.1.1.1.1.0 v.1.1.1.1.1.0, v.1.1.1.1.1.1.1))
      ∙ g2 (ABlock ∷ Exactly mark.Something ∷ AName ∷ ABlock ∷ Exactly mark.CloseCurly ∷ st)
      (λ v. k (stmt.Case p x0 v.1.0 v.1.1.1.0 v.1.1.1.1.0, v.1.1.1.1.1.1))
      ∙ g3 (Exactly mark.Something ∷ AName ∷ ABlock ∷ Exactly mark.CloseCurly ∷ st)
      (λ v. k (stmt.Case p x0 v.0 v.1.1.0 v.1.1.1.0, v.1.1.1.1.1))
      ∙ g4 (AName ∷ ABlock ∷ Exactly mark.CloseCurly ∷ st) (λ v. k (stmt.Case p x0 x3 v.1.0 v.1.1.0, v.1.1.1.1)),
)) z

pub stops_case_6 : (a b0 b1 b2 b3 b4 b5 b6 : Ahead) (p : Place) (x0 : Expr) (x3 : Block) (x5 : List ℕ) (e : SyntaxFault)
    → head a.left ≡ Some token.Case → Passes a p b0 → Gives AnExpr b0 x0 b1 → Gives (Exactly mark.OpenCurly) b1 tt b2
    → Gives (Exactly mark.Nothing) b2 tt b3 → Gives ABlock b3 x3 b4 → Gives (Exactly mark.Something) b4 tt b5
    → Gives AName b5 x5 b6 → Stops ABlock b6 e → Stops AStmt a e
unfolding Gives
stops_case_6 a b0 b1 b2 b3 b4 b5 b6 p x0 x3 x5 e h q g0 g1 g2 g3 g4 g5 z = stops_by AStmt ABlock a b6 e (λ st k. (
  (Exactly mark.CloseCurly ∷ st),
  (λ v. k (stmt.Case p x0 x3 x5 v.0, v.1.1)),
  passes_to AStmt token.Case a b0 p st (AnExpr ∷ Exactly mark.OpenCurly ∷ Exactly mark.Nothing ∷ ABlock
      ∷ Exactly mark.Something ∷ AName ∷ ABlock ∷ Exactly mark.CloseCurly ∷ st)
      (λ v. (stmt.Case p v.0 v.1.1.1.0 v.1.1.1.1.1.0 v.1.1.1.1.1.1.0, v.1.1.1.1.1.1.1.1)) h q refl k
      ∙ g0 (Exactly mark.OpenCurly ∷ Exactly mark.Nothing ∷ ABlock ∷ Exactly mark.Something ∷ AName ∷ ABlock
      ∷ Exactly mark.CloseCurly ∷ st) (λ v. k (
        stmt.Case p v.0 v.1.1.1.0 v.1.1.1.1.1.0 v.1.1.1.1.1.1.0,
        v.1.1.1.1.1.1.1.1,
      ))
      ∙ g1 (Exactly mark.Nothing ∷ ABlock ∷ Exactly mark.Something ∷ AName ∷ ABlock ∷ Exactly mark.CloseCurly ∷ st)
      (λ v. k (stmt.Case p x0 v.1.1.0 v.1.1.1.1.0 v.1.1.1.1.1.0, v.1.1.1.1.1.1.1))
      ∙ g2 (ABlock ∷ Exactly mark.Something ∷ AName ∷ ABlock ∷ Exactly mark.CloseCurly ∷ st)
      (λ v. k (stmt.Case p x0 v.1.0 v.1.1.1.0 v.1.1.1.1.0, v.1.1.1.1.1.1))
      ∙ g3 (Exactly mark.Something ∷ AName ∷ ABlock ∷ Exactly mark.CloseCurly ∷ st)
      (λ v. k (stmt.Case p x0 v.0 v.1.1.0 v.1.1.1.0, v.1.1.1.1.1))
      ∙ g4 (AName ∷ ABlock ∷ Exactly mark.CloseCurly ∷ st) (λ v. k (stmt.Case p x0 x3 v.1.0 v.1.1.0, v.1.1.1.1))
      ∙ g5 (ABlock ∷ Exactly mark.CloseCurly ∷ st) (λ v. k (stmt.Case p x0 x3 v.0 v.1.0, v.1.1.1)),
)) z

pub stops_case_7 : (a b0 b1 b2 b3 b4 b5 b6 b7 : Ahead) (p : Place) (x0 : Expr) (x3 : Block) (x5 : List ℕ)
    (x6 : Block) (e : SyntaxFault) → head a.left ≡ Some token.Case → Passes a p b0 → Gives AnExpr b0 x0 b1
    → Gives (Exactly mark.OpenCurly) b1 tt b2 → Gives (Exactly mark.Nothing) b2 tt b3 → Gives ABlock b3 x3 b4
    → Gives (Exactly mark.Something) b4 tt b5 → Gives AName b5 x5 b6 → Gives ABlock b6 x6 b7
    → Stops (Exactly mark.CloseCurly) b7 e → Stops AStmt a e
unfolding Gives
stops_case_7 a b0 b1 b2 b3 b4 b5 b6 b7 p x0 x3 x5 x6 e h q g0 g1 g2 g3 g4 g5 g6 z =
    stops_by AStmt (Exactly mark.CloseCurly) a b7 e (λ st k. (
      (st),
      (λ v. k (stmt.Case p x0 x3 x5 x6, v.1)),
      passes_to AStmt token.Case a b0 p st (AnExpr ∷ Exactly mark.OpenCurly ∷ Exactly mark.Nothing ∷ ABlock
          ∷ Exactly mark.Something ∷ AName ∷ ABlock ∷ Exactly mark.CloseCurly ∷ st)
          (λ v. (stmt.Case p v.0 v.1.1.1.0 v.1.1.1.1.1.0 v.1.1.1.1.1.1.0, v.1.1.1.1.1.1.1.1)) h q refl k
          ∙ g0 (Exactly mark.OpenCurly ∷ Exactly mark.Nothing ∷ ABlock ∷ Exactly mark.Something ∷ AName ∷ ABlock
          ∷ Exactly mark.CloseCurly ∷ st) (λ v. k (
            stmt.Case p v.0 v.1.1.1.0 v.1.1.1.1.1.0 v.1.1.1.1.1.1.0,
            v.1.1.1.1.1.1.1.1,
          ))
          ∙ g1 (Exactly mark.Nothing ∷ ABlock ∷ Exactly mark.Something ∷ AName ∷ ABlock ∷ Exactly mark.CloseCurly ∷ st)
          (λ v. k (stmt.Case p x0 v.1.1.0 v.1.1.1.1.0 v.1.1.1.1.1.0, v.1.1.1.1.1.1.1))
          ∙ g2 (ABlock ∷ Exactly mark.Something ∷ AName ∷ ABlock ∷ Exactly mark.CloseCurly ∷ st)
          (λ v. k (stmt.Case p x0 v.1.0 v.1.1.1.0 v.1.1.1.1.0, v.1.1.1.1.1.1))
          ∙ g3 (Exactly mark.Something ∷ AName ∷ ABlock ∷ Exactly mark.CloseCurly ∷ st)
          (λ v. k (stmt.Case p x0 v.0 v.1.1.0 v.1.1.1.0, v.1.1.1.1.1))
          ∙ g4 (AName ∷ ABlock ∷ Exactly mark.CloseCurly ∷ st) (λ v. k (stmt.Case p x0 x3 v.1.0 v.1.1.0, v.1.1.1.1))
          ∙ g5 (ABlock ∷ Exactly mark.CloseCurly ∷ st) (λ v. k (stmt.Case p x0 x3 v.0 v.1.0, v.1.1.1))
          ∙ g6 (Exactly mark.CloseCurly ∷ st) (λ v. k (stmt.Case p x0 x3 x5 v.0, v.1.1)),
    )) z

pub ruleset steps_case = (
  gives_case,
  halts_case,
  stops_case_0,
  stops_case_1,
  stops_case_2,
  stops_case_3,
  stops_case_4,
  stops_case_5,
  stops_case_6,
  stops_case_7,
  memory,
  reads_ok,
  reads_err,
)

pub gives_assume : (a b0 b1 b2 : Ahead) (p : Place) (x0 : Expr) → head a.left ≡ Some token.Assume → Passes a p b0
    → Gives AnExpr b0 x0 b1 → Gives (Exactly mark.Semicolon) b1 tt b2 → Gives AStmt a (stmt.Assume p x0) b2
unfolding Gives
gives_assume a b0 b1 b2 p x0 h q g0 g1 = λ st k.
    passes_to AStmt token.Assume a b0 p st (AnExpr ∷ Exactly mark.Semicolon ∷ st) (λ v. (stmt.Assume p v.0, v.1.1))
    h q refl k
    ∙ g0 (Exactly mark.Semicolon ∷ st) (λ v. k (stmt.Assume p v.0, v.1.1))
    ∙ g1 (st) (λ v. k (stmt.Assume p x0, v.1))

pub halts_assume : (a : Ahead) (e : SyntaxFault) → head a.left ≡ Some token.Assume → Halts a e → Stops AStmt a e
halts_assume a e h q = halts_at AStmt token.Assume a e h q (λ p st. (
  (AnExpr ∷ Exactly mark.Semicolon ∷ st),
  (λ v. (stmt.Assume p v.0, v.1.1)),
  refl,
))

pub stops_assume_0 : (a b0 : Ahead) (p : Place) (e : SyntaxFault) → head a.left ≡ Some token.Assume → Passes a p b0
    → Stops AnExpr b0 e → Stops AStmt a e
stops_assume_0 a b0 p e h q z = stops_by AStmt AnExpr a b0 e (λ st k. (
  (Exactly mark.Semicolon ∷ st),
  (λ v. k (stmt.Assume p v.0, v.1.1)),
  passes_to AStmt token.Assume a b0 p st (AnExpr ∷ Exactly mark.Semicolon ∷ st) (λ v. (stmt.Assume p v.0, v.1.1))
      h q refl k,
)) z

pub stops_assume_1 : (a b0 b1 : Ahead) (p : Place) (x0 : Expr) (e : SyntaxFault) → head a.left ≡ Some token.Assume
    → Passes a p b0 → Gives AnExpr b0 x0 b1 → Stops (Exactly mark.Semicolon) b1 e → Stops AStmt a e
unfolding Gives
stops_assume_1 a b0 b1 p x0 e h q g0 z = stops_by AStmt (Exactly mark.Semicolon) a b1 e (λ st k. (
  (st),
  (λ v. k (stmt.Assume p x0, v.1)),
  passes_to AStmt token.Assume a b0 p st (AnExpr ∷ Exactly mark.Semicolon ∷ st) (λ v. (stmt.Assume p v.0, v.1.1))
      h q refl k
      ∙ g0 (Exactly mark.Semicolon ∷ st) (λ v. k (stmt.Assume p v.0, v.1.1)),
)) z

pub ruleset steps_assume = (gives_assume, halts_assume, stops_assume_0, stops_assume_1, memory, reads_ok, reads_err)

pub gives_return : (a b0 b1 b2 : Ahead) (p : Place) (x0 : Expr) → head a.left ≡ Some token.Return → Passes a p b0
    → Gives AnExpr b0 x0 b1 → Gives (Exactly mark.Semicolon) b1 tt b2 → Gives AStmt a (stmt.Return p x0) b2
unfolding Gives
gives_return a b0 b1 b2 p x0 h q g0 g1 = λ st k.
    passes_to AStmt token.Return a b0 p st (AnExpr ∷ Exactly mark.Semicolon ∷ st) (λ v. (stmt.Return p v.0, v.1.1))
    h q refl k
    ∙ g0 (Exactly mark.Semicolon ∷ st) (λ v. k (stmt.Return p v.0, v.1.1))
    ∙ g1 (st) (λ v. k (stmt.Return p x0, v.1))

pub halts_return : (a : Ahead) (e : SyntaxFault) → head a.left ≡ Some token.Return → Halts a e → Stops AStmt a e
halts_return a e h q = halts_at AStmt token.Return a e h q (λ p st. (
  (AnExpr ∷ Exactly mark.Semicolon ∷ st),
  (λ v. (stmt.Return p v.0, v.1.1)),
  refl,
))

pub stops_return_0 : (a b0 : Ahead) (p : Place) (e : SyntaxFault) → head a.left ≡ Some token.Return → Passes a p b0
    → Stops AnExpr b0 e → Stops AStmt a e
stops_return_0 a b0 p e h q z = stops_by AStmt AnExpr a b0 e (λ st k. (
  (Exactly mark.Semicolon ∷ st),
  (λ v. k (stmt.Return p v.0, v.1.1)),
  passes_to AStmt token.Return a b0 p st (AnExpr ∷ Exactly mark.Semicolon ∷ st) (λ v. (stmt.Return p v.0, v.1.1))
      h q refl k,
)) z

pub stops_return_1 : (a b0 b1 : Ahead) (p : Place) (x0 : Expr) (e : SyntaxFault) → head a.left ≡ Some token.Return
    → Passes a p b0 → Gives AnExpr b0 x0 b1 → Stops (Exactly mark.Semicolon) b1 e → Stops AStmt a e
unfolding Gives
stops_return_1 a b0 b1 p x0 e h q g0 z = stops_by AStmt (Exactly mark.Semicolon) a b1 e (λ st k. (
  (st),
  (λ v. k (stmt.Return p x0, v.1)),
  passes_to AStmt token.Return a b0 p st (AnExpr ∷ Exactly mark.Semicolon ∷ st) (λ v. (stmt.Return p v.0, v.1.1))
      h q refl k
      ∙ g0 (Exactly mark.Semicolon ∷ st) (λ v. k (stmt.Return p v.0, v.1.1)),
)) z

pub ruleset steps_return = (gives_return, halts_return, stops_return_0, stops_return_1, memory, reads_ok, reads_err)

pub gives_index : (a b0 b1 b2 : Ahead) (p : Place) (x0 : Expr) → head a.left ≡ Some token.OpenSquare
    → Passes a p b0 → Gives AnExpr b0 x0 b1 → Gives (Exactly mark.CloseSquare) b1 tt b2 → Gives Index a (Some x0) b2
unfolding Gives
gives_index a b0 b1 b2 p x0 h q g0 g1 = λ st k.
    passes_to Index token.OpenSquare a b0 p st (AnExpr ∷ Exactly mark.CloseSquare ∷ st) (λ v. (Some v.0, v.1.1))
    h q refl k
    ∙ g0 (Exactly mark.CloseSquare ∷ st) (λ v. k (Some v.0, v.1.1))
    ∙ g1 (st) (λ v. k (Some x0, v.1))

pub halts_index : (a : Ahead) (e : SyntaxFault) → head a.left ≡ Some token.OpenSquare → Halts a e → Stops Index a e
halts_index a e h q = halts_at Index token.OpenSquare a e h q (λ p st. (
  (AnExpr ∷ Exactly mark.CloseSquare ∷ st),
  (λ v. (Some v.0, v.1.1)),
  refl,
))

pub stops_index_0 : (a b0 : Ahead) (p : Place) (e : SyntaxFault) → head a.left ≡ Some token.OpenSquare
    → Passes a p b0 → Stops AnExpr b0 e → Stops Index a e
stops_index_0 a b0 p e h q z = stops_by Index AnExpr a b0 e (λ st k. (
  (Exactly mark.CloseSquare ∷ st),
  (λ v. k (Some v.0, v.1.1)),
  passes_to Index token.OpenSquare a b0 p st (AnExpr ∷ Exactly mark.CloseSquare ∷ st) (λ v. (Some v.0, v.1.1))
      h q refl k,
)) z

pub stops_index_1 : (a b0 b1 : Ahead) (p : Place) (x0 : Expr) (e : SyntaxFault) → head a.left ≡ Some token.OpenSquare
    → Passes a p b0 → Gives AnExpr b0 x0 b1 → Stops (Exactly mark.CloseSquare) b1 e → Stops Index a e
unfolding Gives
stops_index_1 a b0 b1 p x0 e h q g0 z = stops_by Index (Exactly mark.CloseSquare) a b1 e (λ st k. (
  (st),
  (λ v. k (Some x0, v.1)),
  passes_to Index token.OpenSquare a b0 p st (AnExpr ∷ Exactly mark.CloseSquare ∷ st) (λ v. (Some v.0, v.1.1))
      h q refl k
      ∙ g0 (Exactly mark.CloseSquare ∷ st) (λ v. k (Some v.0, v.1.1)),
)) z

pub ruleset steps_index = (gives_index, halts_index, stops_index_0, stops_index_1, memory, reads_ok, reads_err)

pub gives_else : (a b0 b1 : Ahead) (p : Place) (x0 : Block) → head a.left ≡ Some token.Else → Passes a p b0
    → Gives ABlock b0 x0 b1 → Gives Else a (Some x0) b1
unfolding Gives
gives_else a b0 b1 p x0 h q g0 = λ st k.
    passes_to Else token.Else a b0 p st (ABlock ∷ st) (λ v. (Some v.0, v.1)) h q refl k
    ∙ g0 (st) (λ v. k (Some v.0, v.1))

pub halts_else : (a : Ahead) (e : SyntaxFault) → head a.left ≡ Some token.Else → Halts a e → Stops Else a e
halts_else a e h q = halts_at Else token.Else a e h q (λ p st. ((ABlock ∷ st), (λ v. (Some v.0, v.1)), refl))

pub stops_else_0 : (a b0 : Ahead) (p : Place) (e : SyntaxFault) → head a.left ≡ Some token.Else → Passes a p b0
    → Stops ABlock b0 e → Stops Else a e
stops_else_0 a b0 p e h q z = stops_by Else ABlock a b0 e (λ st k. (
  (st),
  (λ v. k (Some v.0, v.1)),
  passes_to Else token.Else a b0 p st (ABlock ∷ st) (λ v. (Some v.0, v.1)) h q refl k,
)) z

pub ruleset steps_else = (gives_else, halts_else, stops_else_0, memory, reads_ok, reads_err)

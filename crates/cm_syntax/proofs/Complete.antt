-- What a tree writes is taken, and the value is the tree with the places where it is written.
use Rattle.std.proofs.Common.{◌≡◌, ℕ, ◌<◌, true, List, [], ◌∷◌, map, Some, None, Ok, refl, sym, ap, ◌∙◌, subst, lit<}
use Rattle.cm_model.specs.declared.place.Place.{Place}
use Rattle.cm_tokens.specs.declared.token.Token.{Token}
use Rattle.cm_tokens.specs.declared.token.Token.TheVariants as token
use Rattle.cm_syntax.specs.declared.mark.Mark.TheVariants as mark
use Rattle.cm_syntax.specs.declared.tree.Tree.{Tree}
use Rattle.cm_syntax.specs.declared.tree.Decl.{Decl}
use Rattle.cm_syntax.specs.declared.tree.Decl.TheVariants as decl
use Rattle.cm_syntax.specs.declared.tree.Part.{Part}
use Rattle.cm_syntax.specs.declared.tree.«Type».{«Type» as TypeTree}
use Rattle.cm_syntax.specs.declared.tree.Block.{Block}
use Rattle.cm_syntax.specs.declared.tree.Stmt.{Stmt}
use Rattle.cm_syntax.specs.declared.tree.Stmt.TheVariants as stmt
use Rattle.cm_syntax.specs.declared.tree.Stmt.TheOpen as stmt_layer
use Rattle.cm_syntax.specs.declared.tree.Stmt.TheViews.{roll-Stmt, roll-Block}
use Rattle.cm_syntax.specs.declared.tree.Stmt.TheFolds.{ind-Block, map-Stmt, map-Block, fold-roll-Stmt, fold-roll-Block}
use Rattle.cm_syntax.specs.declared.tree.Expr.{Expr}
use Rattle.cm_syntax.specs.declared.tree.Primary.{Primary}
use Rattle.cm_syntax.specs.Form.{Places, Form, nothing, word, part, node, each_after}
use Rattle.cm_syntax.specs.Spelling.{names_after, listed, each, num_form, type_form, part_form, stmt_step, block_step}
use Rattle.cm_syntax.specs.Spelling.{expr_form, stmt_form, block_form, internal_form, decl_form, tree_form}
use Rattle.cm_syntax.specs.Text.{place_of}
use Rattle.cm_syntax.specs.inner.Machine.{Exactly, AName, ANum, AType, MoreParts, Internals, Key, Where, ADecl, Decls}
use Rattle.cm_syntax.specs.inner.Machine.{ABlock, Stmts, AStmt, Else, AnExpr, Text, Stack, Values, running, head}
use Rattle.cm_syntax.specs.inner.Machine.{assign_of, if_of, block_of, state_of, tree_of, no_close_curly, no_end}
use Rattle.cm_syntax.proofs.ListSteps as lists
use Rattle.cm_syntax.proofs.CompleteExpr.{first_place, head_is, skip_key, skip_where, skip_index, skip_else, num_taken}
use Rattle.cm_syntax.proofs.CompleteExpr.{type_taken, part_taken, more_parts_taken, params_taken, internals_taken}
use Rattle.cm_syntax.proofs.CompleteExpr.{names_taken, GoodExpr, expr_good, Good, GoodBlock}
use Rattle.cm_syntax.proofs.Ranks.{Always, Each, same_run, first, set_places, rank, begins, begins_no_close_curly}
use Rattle.cm_syntax.proofs.Ranks.{begins_no_end, begins_high, high_else, internal_no_comma, internal_no_name}
use Rattle.cm_syntax.proofs.Ranks.{type_no_map, Above}

module _ (at : Places) (nowhere : at [] ≡ place_of []) where
  -- Statements

  abbrev GoodStmt : Form Stmt → Type 0
  GoodStmt = Good at nowhere AStmt (Above 0) begins

  open_stmts : (st : Stack) (k : Values (Stmts ∷ st) → Tree) (ts : List Token) → begins (first ts) ≡ true
      → running (Stmts ∷ st) k (set_places at ts) ≡ running (AStmt ∷ Stmts ∷ st) (λ v. k (v.0 ∷ v.1.0, v.1.1))
      (set_places at ts)
  open_stmts st k ts h = same_run (AStmt ∷ Stmts ∷ st) (Stmts ∷ st) (λ v. (v.0 ∷ v.1.0, v.1.1)) k (set_places at ts)
      (lists.more_stmts_at (head (set_places at ts)) (place_of (set_places at ts)) st
      (subst (λ o. no_close_curly o ≡ true) (head_is at nowhere ts) (begins_no_close_curly (first ts) h)))

  stmts_high : (fs : List (Form Stmt)) → Each GoodStmt fs → (ts : List Token)
      → 0 < rank (first ((each fs).writes (token.CloseCurly ∷ ts)))
  stmts_high [] goods ts = lit< tt
  stmts_high (f ∷ fs) goods ts = begins_high (first (f.writes ((each fs).writes (token.CloseCurly ∷ ts))))
      (goods.0.starts ((each fs).writes (token.CloseCurly ∷ ts)))

  stmts_taken : (fs : List (Form Stmt)) → Each GoodStmt fs → (st : Stack) (k : Values (Stmts ∷ st)
      → Tree) (ts : List Token) → running (Stmts ∷ st) k (set_places at ((each fs).writes (token.CloseCurly ∷ ts)))
      ≡ running st (λ v. k ((each fs).placed at (token.CloseCurly ∷ ts), v)) (set_places at ts)
  stmts_taken [] goods st k ts = refl
  stmts_taken (f ∷ fs) goods st k ts =
      open_stmts st k (f.writes ((each fs).writes (token.CloseCurly ∷ ts)))
      (goods.0.starts ((each fs).writes (token.CloseCurly ∷ ts)))
      ∙ goods.0.taken (Stmts ∷ st) (λ v. k (v.0 ∷ v.1.0, v.1.1)) ((each fs).writes (token.CloseCurly ∷ ts))
      (stmts_high fs goods.1 ts)
      ∙ stmts_taken fs goods.1 st (λ v. k (f.placed at ((each fs).writes (token.CloseCurly ∷ ts)) ∷ v.0, v.1)) ts

  block_good : (fs : List (Form Stmt)) → Each GoodStmt fs
      → GoodBlock at nowhere (node (λ a y. record { at = a; statements = y.0 })
      (word token.OpenCurly (part (each fs) (word token.CloseCurly nothing))))
  block_good fs goods = record {
    taken = λ st k ts ok. stmts_taken fs goods st
        (λ v. k (block_of (at (token.OpenCurly ∷ (each fs).writes (token.CloseCurly ∷ ts))) v.0, v.1)) ts;
    opened = λ ts. refl;
  }

  block_high : (f : Form Block) → GoodBlock at nowhere f → (ts : List Token) → 6 < rank (first (f.writes ts))
  block_high f h ts = subst (λ o. 6 < rank o) (sym (h.opened ts)) (lit< tt)

  let_good : (n : List ℕ) (f : Form Expr) → GoodExpr at nowhere f
      → GoodStmt (node (λ a y. stmt.Let a n y.0)
      (word token.Let (word (token.Name n) (word token.Assign (part f (word token.Semicolon nothing))))))
  let_good n f h = record {
    taken = λ st k ts ok. h.taken (Exactly mark.Semicolon ∷ st)
        (λ v. k (
          stmt.Let (at (token.Let ∷ token.Name n ∷ token.Assign ∷ f.writes (token.Semicolon ∷ ts))) n v.0,
          v.1.1,
        )) (token.Semicolon ∷ ts) (lit< tt);
    starts = λ ts. refl;
  }

  assign_good : (n : List ℕ) (f : Form Expr) → GoodExpr at nowhere f
      → GoodStmt (node (λ a y. stmt.Assign a n y.0)
      (word (token.Name n) (word token.Assign (part f (word token.Semicolon nothing)))))
  assign_good n f h = record {
    taken = λ st k ts ok.
        let a : Place = at (token.Name n ∷ token.Assign ∷ f.writes (token.Semicolon ∷ ts)) in
        skip_index at nowhere (Exactly mark.Assign ∷ AnExpr ∷ Exactly mark.Semicolon ∷ st)
        (λ v. k (assign_of a n v.0 v.1.1.0, v.1.1.1.1)) (token.Assign ∷ f.writes (token.Semicolon ∷ ts)) refl
        ∙ h.taken (Exactly mark.Semicolon ∷ st) (λ v. k (stmt.Assign a n v.0, v.1.1)) (token.Semicolon ∷ ts) (lit< tt);
    starts = λ ts. refl;
  }

  assign_at_good : (n : List ℕ) (g f : Form Expr) → GoodExpr at nowhere g → GoodExpr at nowhere f
      → GoodStmt (node (λ a y. stmt.AssignAt a n y.0 y.1.0)
      (word (token.Name n) (word token.OpenSquare
      (part g (word token.CloseSquare (word token.Assign (part f (word token.Semicolon nothing))))))))
  assign_at_good n g f i h = record {
    taken = λ st k ts ok.
        let us : List Token = token.CloseSquare ∷ token.Assign ∷ f.writes (token.Semicolon ∷ ts) in
        let a : Place = at (token.Name n ∷ token.OpenSquare ∷ g.writes us) in
        i.taken (Exactly mark.CloseSquare ∷ Exactly mark.Assign ∷ AnExpr ∷ Exactly mark.Semicolon ∷ st)
        (λ v. k (stmt.AssignAt a n v.0 v.1.1.1.0, v.1.1.1.1.1)) us (lit< tt)
        ∙ h.taken (Exactly mark.Semicolon ∷ st) (λ v. k (stmt.AssignAt a n (g.placed at us) v.0, v.1.1))
        (token.Semicolon ∷ ts) (lit< tt);
    starts = λ ts. refl;
  }

  if_good : (f : Form Expr) (g : Form Block) → GoodExpr at nowhere f → GoodBlock at nowhere g
      → GoodStmt (node (λ a y. stmt.If a y.0 y.1.0) (word token.If (part f (part g nothing))))
  if_good f g h i = record {
    taken = λ st k ts ok.
        let us : List Token = g.writes ts in
        let a : Place = at (token.If ∷ f.writes us) in
        h.taken (ABlock ∷ Else ∷ st) (λ v. k (if_of a v.0 v.1.0 v.1.1.0, v.1.1.1)) us (block_high g i ts)
        ∙ i.taken (Else ∷ st) (λ v. k (if_of a (f.placed at us) v.0 v.1.0, v.1.1)) ts tt
        ∙ skip_else at nowhere st (λ v. k (if_of a (f.placed at us) (g.placed at ts) v.0, v.1)) ts
        (high_else (first ts) ok);
    starts = λ ts. refl;
  }

  if_else_good : (f : Form Expr) (g e : Form Block) → GoodExpr at nowhere f → GoodBlock at nowhere g
      → GoodBlock at nowhere e → GoodStmt (node (λ a y. stmt.IfElse a y.0 y.1.0 y.1.1.0)
      (word token.If (part f (part g (word token.Else (part e nothing))))))
  if_else_good f g e h i j = record {
    taken = λ st k ts ok.
        let ws : List Token = token.Else ∷ e.writes ts in
        let us : List Token = g.writes ws in
        let a : Place = at (token.If ∷ f.writes us) in
        h.taken (ABlock ∷ Else ∷ st) (λ v. k (if_of a v.0 v.1.0 v.1.1.0, v.1.1.1)) us (block_high g i ws)
        ∙ i.taken (Else ∷ st) (λ v. k (if_of a (f.placed at us) v.0 v.1.0, v.1.1)) ws tt
        ∙ j.taken st (λ v. k (stmt.IfElse a (f.placed at us) (g.placed at ws) v.0, v.1)) ts tt;
    starts = λ ts. refl;
  }

  case_good : (f : Form Expr) (g : Form Block) (n : List ℕ) (e : Form Block) → GoodExpr at nowhere f
      → GoodBlock at nowhere g → GoodBlock at nowhere e
      → GoodStmt (node (λ a y. stmt.Case a y.0 y.1.0 n y.1.1.0)
      (word token.Case (part f (word token.OpenCurly
      (word token.Nothing (part g (word token.Something
      (word (token.Name n) (part e (word token.CloseCurly nothing))))))))))
  case_good f g n e h i j = record {
    taken = λ st k ts ok.
        let xs : List Token = token.CloseCurly ∷ ts in
        let ws : List Token = token.Something ∷ token.Name n ∷ e.writes xs in
        let us : List Token = token.OpenCurly ∷ token.Nothing ∷ g.writes ws in
        let a : Place = at (token.Case ∷ f.writes us) in
        h.taken (Exactly mark.OpenCurly ∷ Exactly mark.Nothing ∷ ABlock ∷ Exactly mark.Something ∷ AName
        ∷ ABlock ∷ Exactly mark.CloseCurly ∷ st) (λ v. k (
          stmt.Case a v.0 v.1.1.1.0 v.1.1.1.1.1.0 v.1.1.1.1.1.1.0,
          v.1.1.1.1.1.1.1.1,
        )) us (lit< tt)
        ∙ i.taken (Exactly mark.Something ∷ AName ∷ ABlock ∷ Exactly mark.CloseCurly ∷ st)
        (λ v. k (stmt.Case a (f.placed at us) v.0 v.1.1.0 v.1.1.1.0, v.1.1.1.1.1)) ws tt
        ∙ j.taken (Exactly mark.CloseCurly ∷ st) (λ v. k (stmt.Case a (f.placed at us) (g.placed at ws) n v.0, v.1.1))
        xs tt;
    starts = λ ts. refl;
  }

  assume_good : (f : Form Expr) → GoodExpr at nowhere f
      → GoodStmt (node (λ a y. stmt.Assume a y.0) (word token.Assume (part f (word token.Semicolon nothing))))
  assume_good f h = record {
    taken = λ st k ts ok. h.taken (Exactly mark.Semicolon ∷ st)
        (λ v. k (stmt.Assume (at (token.Assume ∷ f.writes (token.Semicolon ∷ ts))) v.0, v.1.1)) (token.Semicolon ∷ ts)
        (lit< tt);
    starts = λ ts. refl;
  }

  return_good : (f : Form Expr) → GoodExpr at nowhere f
      → GoodStmt (node (λ a y. stmt.Return a y.0) (word token.Return (part f (word token.Semicolon nothing))))
  return_good f h = record {
    taken = λ st k ts ok. h.taken (Exactly mark.Semicolon ∷ st)
        (λ v. k (stmt.Return (at (token.Return ∷ f.writes (token.Semicolon ∷ ts))) v.0, v.1.1)) (token.Semicolon ∷ ts)
        (lit< tt);
    starts = λ ts. refl;
  }

  abbrev GStmt : Type 0
  GStmt = (x : Stmt) × GoodStmt (stmt_form x)

  abbrev GBlock : Type 0
  GBlock = (x : Block) × GoodBlock at nowhere (block_form x)

  each_stmt : (xs : List GStmt) → Each GoodStmt (map stmt_form (map (λ x. x.0) xs))
  each_stmt [] = tt
  each_stmt (x ∷ xs) = (x.1, each_stmt xs)

  stmt_keeps : (y : stmt_layer.Stmt-F GStmt GBlock)
      → GoodStmt (stmt_step (map-Stmt Stmt Block (Form Stmt) (Form Block) stmt_form block_form
      (map-Stmt GStmt GBlock Stmt Block (λ x. x.0) (λ x. x.0) y)))
  stmt_keeps (stmt_layer.Let p n e) = let_good n (expr_form e) (expr_good at nowhere e)
  stmt_keeps (stmt_layer.Assign p n e) = assign_good n (expr_form e) (expr_good at nowhere e)
  stmt_keeps (stmt_layer.AssignAt p n k e) = assign_at_good n (expr_form k) (expr_form e) (expr_good at nowhere k)
      (expr_good at nowhere e)
  stmt_keeps (stmt_layer.If p e b) = if_good (expr_form e) (block_form b.0) (expr_good at nowhere e) b.1
  stmt_keeps (stmt_layer.IfElse p e b c) = if_else_good (expr_form e) (block_form b.0) (block_form c.0)
      (expr_good at nowhere e) b.1 c.1
  stmt_keeps (stmt_layer.Case p e b n c) = case_good (expr_form e) (block_form b.0) n (block_form c.0)
      (expr_good at nowhere e) b.1 c.1
  stmt_keeps (stmt_layer.Assume p e) = assume_good (expr_form e) (expr_good at nowhere e)
  stmt_keeps (stmt_layer.Return p e) = return_good (expr_form e) (expr_good at nowhere e)

  block_keeps : (y : stmt_layer.Block-F GStmt GBlock)
      → GoodBlock at nowhere (block_step (map-Block Stmt Block (Form Stmt) (Form Block) stmt_form block_form
      (map-Block GStmt GBlock Stmt Block (λ x. x.0) (λ x. x.0) y)))
  block_keeps y = block_good (map stmt_form (map (λ x. x.0) y.statements)) (each_stmt y.statements)

  stmt_case : (y : stmt_layer.Stmt-F GStmt GBlock)
      → GoodStmt (stmt_form (roll-Stmt (map-Stmt GStmt GBlock Stmt Block (λ x. x.0) (λ x. x.0) y)))
  stmt_case y = subst GoodStmt (sym (fold-roll-Stmt (Form Stmt) (Form Block) stmt_step block_step
      (map-Stmt GStmt GBlock Stmt Block (λ x. x.0) (λ x. x.0) y))) (stmt_keeps y)

  block_case : (y : stmt_layer.Block-F GStmt GBlock)
      → GoodBlock at nowhere (block_form (roll-Block (map-Block GStmt GBlock Stmt Block (λ x. x.0) (λ x. x.0) y)))
  block_case y = subst (GoodBlock at nowhere) (sym (fold-roll-Block (Form Stmt) (Form Block) stmt_step
      block_step (map-Block GStmt GBlock Stmt Block (λ x. x.0) (λ x. x.0) y))) (block_keeps y)

  block_all : (b : Block) → GoodBlock at nowhere (block_form b)
  block_all = ind-Block (λ x. GoodStmt (stmt_form x)) (λ x. GoodBlock at nowhere (block_form x))
      (λ x y is. subst (λ z. GoodStmt (stmt_form (roll-Stmt z))) is (stmt_case y))
      (λ x y is. subst (λ z. GoodBlock at nowhere (block_form (roll-Block z))) is (block_case y))

  -- Declarations

  abbrev GoodDecl : Decl → Type 0
  GoodDecl d = Good at nowhere ADecl Always begins (decl_form d)

  no_key : (t : TypeTree) (ts : List Token) (st : Stack) (k : Values (Key ∷ st) → Tree)
      → running (Key ∷ st) k (set_places at ((type_form t).writes ts)) ≡ running st (λ v. k (None, v))
      (set_places at ((type_form t).writes ts))
  no_key t ts st k = skip_key at nowhere st k ((type_form t).writes ts) (type_no_map t ts)

  decl_good : (d : Decl) → GoodDecl d
  decl_good (decl.Sort p n) = record { taken = λ st k ts ok. refl; starts = λ ts. refl }
  decl_good (decl.Int p n low high) = record {
    taken = λ st k ts ok.
        let us : List Token = token.DotDot ∷ (num_form high).writes (token.Semicolon ∷ ts) in
        let a : Place = at (token.Int ∷ token.Name n ∷ (num_form low).writes us) in
        num_taken at nowhere low (Exactly mark.DotDot ∷ ANum ∷ Exactly mark.Semicolon ∷ st)
        (λ v. k (decl.Int a n v.0 v.1.1.0, v.1.1.1.1)) us tt
        ∙ num_taken at nowhere high (Exactly mark.Semicolon ∷ st)
        (λ v. k (decl.Int a n ((num_form low).placed at us) v.0, v.1.1)) (token.Semicolon ∷ ts) tt;
    starts = λ ts. refl;
  }
  decl_good (decl.Enum p n x xs) = record {
    taken = λ st k ts ok.
        names_taken at nowhere xs (Exactly mark.CloseCurly ∷ st)
        (λ v. k (
          decl.Enum (at (token.Enum ∷ token.Name n ∷ token.OpenCurly ∷ token.Name x
              ∷ names_after token.Comma xs (token.CloseCurly ∷ ts))) n x v.0,
          v.1.1,
        )) (token.CloseCurly ∷ ts) refl;
    starts = λ ts. refl;
  }
  decl_good (decl.Record p n q qs) = record {
    taken = λ st k ts ok.
        let us : List Token = (each_after token.Comma (map part_form qs)).writes (token.CloseCurly ∷ ts) in
        let a : Place = at (token.Record ∷ token.Name n ∷ token.OpenCurly ∷ (part_form q).writes us) in
        part_taken at nowhere q (MoreParts ∷ Exactly mark.CloseCurly ∷ st) (λ v. k (decl.Record a n v.0 v.1.0, v.1.1.1))
        us tt
        ∙ more_parts_taken at nowhere qs (Exactly mark.CloseCurly ∷ st)
        (λ v. k (decl.Record a n ((part_form q).placed at us) v.0, v.1.1)) (token.CloseCurly ∷ ts) refl;
    starts = λ ts. refl;
  }
  decl_good (decl.Cell p n t) = record {
    taken = λ st k ts ok.
        let us : List Token = token.Semicolon ∷ ts in
        let all : List Token = (type_form t).writes us in
        let a : Place = at (token.State ∷ token.Name n ∷ token.Colon ∷ all) in
        no_key t us (AType ∷ Where ∷ Exactly mark.Semicolon ∷ st) (λ v. k (state_of a n v.0 v.1.0 v.1.1.0, v.1.1.1.1))
        ∙ type_taken at nowhere t (Where ∷ Exactly mark.Semicolon ∷ st) (λ v. k (state_of a n None v.0 v.1.0, v.1.1.1))
        us tt
        ∙ skip_where at nowhere (Exactly mark.Semicolon ∷ st)
        (λ v. k (state_of a n None ((type_form t).placed at us) v.0, v.1.1)) us refl;
    starts = λ ts. refl;
  }
  decl_good (decl.CellWhere p n t e) = record {
    taken = λ st k ts ok.
        let ws : List Token = token.Semicolon ∷ ts in
        let us : List Token = token.Where ∷ (expr_form e).writes ws in
        let all : List Token = (type_form t).writes us in
        let a : Place = at (token.State ∷ token.Name n ∷ token.Colon ∷ all) in
        no_key t us (AType ∷ Where ∷ Exactly mark.Semicolon ∷ st) (λ v. k (state_of a n v.0 v.1.0 v.1.1.0, v.1.1.1.1))
        ∙ type_taken at nowhere t (Where ∷ Exactly mark.Semicolon ∷ st) (λ v. k (state_of a n None v.0 v.1.0, v.1.1.1))
        us tt
        ∙ (expr_good at nowhere e).taken (Exactly mark.Semicolon ∷ st)
        (λ v. k (decl.CellWhere a n ((type_form t).placed at us) v.0, v.1.1)) ws (lit< tt);
    starts = λ ts. refl;
  }
  decl_good (decl.Map p n q t) = record {
    taken = λ st k ts ok.
        let us : List Token = token.Semicolon ∷ ts in
        let ws : List Token = token.Arrow ∷ (type_form t).writes us in
        let a : Place = at (token.State ∷ token.Name n ∷ token.Colon ∷ token.Map ∷ (type_form q).writes ws) in
        type_taken at nowhere q (Exactly mark.Arrow ∷ AType ∷ Where ∷ Exactly mark.Semicolon ∷ st)
        (λ v. k (state_of a n (Some v.0) v.1.1.0 v.1.1.1.0, v.1.1.1.1.1)) ws tt
        ∙ type_taken at nowhere t (Where ∷ Exactly mark.Semicolon ∷ st)
        (λ v. k (state_of a n (Some ((type_form q).placed at ws)) v.0 v.1.0, v.1.1.1)) us tt
        ∙ skip_where at nowhere (Exactly mark.Semicolon ∷ st)
        (λ v. k (state_of a n (Some ((type_form q).placed at ws)) ((type_form t).placed at us) v.0, v.1.1)) us refl;
    starts = λ ts. refl;
  }
  decl_good (decl.MapWhere p n q t e) = record {
    taken = λ st k ts ok.
        let xs : List Token = token.Semicolon ∷ ts in
        let us : List Token = token.Where ∷ (expr_form e).writes xs in
        let ws : List Token = token.Arrow ∷ (type_form t).writes us in
        let a : Place = at (token.State ∷ token.Name n ∷ token.Colon ∷ token.Map ∷ (type_form q).writes ws) in
        type_taken at nowhere q (Exactly mark.Arrow ∷ AType ∷ Where ∷ Exactly mark.Semicolon ∷ st)
        (λ v. k (state_of a n (Some v.0) v.1.1.0 v.1.1.1.0, v.1.1.1.1.1)) ws tt
        ∙ type_taken at nowhere t (Where ∷ Exactly mark.Semicolon ∷ st)
        (λ v. k (state_of a n (Some ((type_form q).placed at ws)) v.0 v.1.0, v.1.1.1)) us tt
        ∙ (expr_good at nowhere e).taken (Exactly mark.Semicolon ∷ st)
        (λ v. k (decl.MapWhere a n ((type_form q).placed at ws) ((type_form t).placed at us) v.0, v.1.1))
        xs (lit< tt);
    starts = λ ts. refl;
  }
  decl_good (decl.Function p n ps t b) = record {
    taken = λ st k ts ok.
        let ws : List Token = (block_form b).writes ts in
        let us : List Token = token.CloseRound ∷ token.Arrow ∷ (type_form t).writes ws in
        let a : Place = at (token.Fn ∷ token.Name n ∷ token.OpenRound ∷ (listed (map part_form ps)).writes us) in
        params_taken at nowhere ps (Exactly mark.CloseRound ∷ Exactly mark.Arrow ∷ AType ∷ ABlock ∷ st)
        (λ v. k (decl.Function a n v.0 v.1.1.1.0 v.1.1.1.1.0, v.1.1.1.1.1)) us refl refl
        ∙ type_taken at nowhere t (ABlock ∷ st) (λ v. k (
          decl.Function a n ((listed (map part_form ps)).placed at us)
              v.0 v.1.0,
          v.1.1,
        )) ws tt
        ∙ (block_all b).taken st (λ v. k (
          decl.Function a n ((listed (map part_form ps)).placed at us)
              ((type_form t).placed at ws) v.0,
          v.1,
        )) ts tt;
    starts = λ ts. refl;
  }
  decl_good (decl.Call p n ps qs t b) = record {
    taken = λ st k ts ok.
        let ws : List Token = (block_form b).writes ts in
        let us : List Token = token.Arrow ∷ (type_form t).writes ws in
        let xs : List Token = (internal_form qs).writes (token.CloseRound ∷ us) in
        let a : Place = at (token.Call ∷ token.Name n ∷ token.OpenRound ∷ (listed (map part_form ps)).writes xs) in
        let f : List Part = (listed (map part_form ps)).placed at xs in
        let g : List Part = (internal_form qs).placed at (token.CloseRound ∷ us) in
        params_taken at nowhere ps (Internals ∷ Exactly mark.CloseRound ∷ Exactly mark.Arrow ∷ AType ∷ ABlock ∷ st)
        (λ v. k (decl.Call a n v.0 v.1.0 v.1.1.1.1.0 v.1.1.1.1.1.0, v.1.1.1.1.1.1)) xs (internal_no_comma qs us)
        (internal_no_name qs us)
        ∙ internals_taken at nowhere qs (Exactly mark.CloseRound ∷ Exactly mark.Arrow ∷ AType ∷ ABlock ∷ st)
        (λ v. k (decl.Call a n f v.0 v.1.1.1.0 v.1.1.1.1.0, v.1.1.1.1.1)) us
        ∙ type_taken at nowhere t (ABlock ∷ st) (λ v. k (decl.Call a n f g v.0 v.1.0, v.1.1)) ws tt
        ∙ (block_all b).taken st (λ v. k (decl.Call a n f g ((type_form t).placed at ws) v.0, v.1)) ts tt;
    starts = λ ts. refl;
  }

  open_decls : (st : Stack) (k : Values (Decls ∷ st) → Tree) (ts : List Token) → begins (first ts) ≡ true
      → running (Decls ∷ st) k (set_places at ts) ≡ running (ADecl ∷ Decls ∷ st) (λ v. k (v.0 ∷ v.1.0, v.1.1))
      (set_places at ts)
  open_decls st k ts h = same_run (ADecl ∷ Decls ∷ st) (Decls ∷ st) (λ v. (v.0 ∷ v.1.0, v.1.1)) k (set_places at ts)
      (lists.more_decls_at (head (set_places at ts)) (place_of (set_places at ts)) st
      (subst (λ o. no_end o ≡ true) (head_is at nowhere ts) (begins_no_end (first ts) h)))

  decls_taken : (ds : List Decl) (st : Stack) (k : Values (Decls ∷ st) → Tree) (ts : List Token)
      → running (Decls ∷ st) k (set_places at ((each (map decl_form ds)).writes (token.End ∷ ts)))
      ≡ running st (λ v. k ((each (map decl_form ds)).placed at (token.End ∷ ts), v)) (set_places at ts)
  decls_taken [] st k ts = refl
  decls_taken (d ∷ ds) st k ts =
      let us : List Token = (each (map decl_form ds)).writes (token.End ∷ ts) in
      open_decls st k ((decl_form d).writes us) ((decl_good d).starts us)
      ∙ (decl_good d).taken (Decls ∷ st) (λ v. k (v.0 ∷ v.1.0, v.1.1)) us tt
      ∙ decls_taken ds st (λ v. k ((decl_form d).placed at us ∷ v.0, v.1)) ts

  pub text_taken : (t : Tree) → running (Text ∷ []) (λ v. v.0) (set_places at ((tree_form t).writes []))
      ≡ Ok ((tree_form t).placed at [])
  text_taken t =
      let us : List Token = (each (map decl_form t.more)).writes (token.End ∷ []) in
      let all : List Token = (decl_form t.first).writes us in
      let a : Place = place_of (set_places at all) in
      same_run (ADecl ∷ Decls ∷ []) (Text ∷ []) (λ v. (tree_of a v.0 v.1.0, v.1.1)) (λ v. v.0) (set_places at all) refl
      ∙ (decl_good t.first).taken (Decls ∷ []) (λ v. tree_of a v.0 v.1.0) us tt
      ∙ decls_taken t.more [] (λ v. tree_of a ((decl_form t.first).placed at us) v.0) []
      ∙ ap (λ x. Ok (tree_of x ((decl_form t.first).placed at us) ((each (map decl_form t.more)).placed
      at (token.End ∷ [])))) (first_place at nowhere all)

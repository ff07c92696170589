-- A block of a text has at most 65 shifts one inside another.
use Rattle.std.proofs.Common.{◌≡◌, ℕ, ◌+◌, ◌≤◌, max, Bool, false, List, [], ◌∷◌, ◌++◌, map, length, Some, None, sym}
use Rattle.std.proofs.Common.{subst, arith}
use Rattle.cm_model.specs.Weights.{greatest, shifts_of, stmt_shifts_step}
use Rattle.cm_model.specs.declared.body.Stmt.{Stmt as Step}
use Rattle.cm_model.specs.declared.body.Stmt.TheFolds.{fold-Stmt as fold-Step}
use Rattle.cm_tokens.specs.declared.token.Token.{Token}
use Rattle.cm_tokens.specs.declared.token.Token.TheVariants as token
use Rattle.cm_syntax.specs.Form.{Form}
use Rattle.cm_syntax.specs.Spelling as spelled
use Rattle.cm_syntax.specs.Spelling.{expr_form}
use Rattle.cm_syntax.specs.declared.tree.Expr.{Expr}
use Rattle.cm_syntax.specs.declared.tree.Stmt.{Stmt}
use Rattle.cm_syntax.specs.declared.tree.Block.{Block}
use Rattle.cm_syntax.specs.declared.tree.Stmt.TheViews.{roll-Stmt, roll-Block}
use Rattle.cm_syntax.specs.declared.tree.Stmt.TheOpen as layer
use Rattle.cm_syntax.specs.declared.tree.Stmt.TheFolds.{ind-Block, fold-roll-Stmt, fold-roll-Block, map-Stmt, map-Block}
use Rattle.cm_typing.specs.declared.scope.Scope.{Scope}
use Rattle.cm_typing.specs.declared.names.Entry.TheVariants as entry
use Rattle.cm_typing.specs.Names.{Names, more}
use Rattle.cm_typing.specs.Flats.{payload_of}
use Rattle.cm_typing.specs.Expressions.{expr_told, map_told}
use Rattle.cm_typing.specs.Statements.{StmtMeaning, BlockMeaning, cell_told, block_told, stmt_step, block_step}
use Rattle.cm_typing.specs.Statements.{stmt_told, of_block}
use Rattle.cm_types.proofs.Items.{Each, map_more}
use Rattle.cm_types.proofs.ModelForms as forms
use Rattle.cm_types.proofs.ShiftsTold.{IsLow, greatest_more}
use Rattle.cm_types.proofs.Passing.{Fine, opened, closed, name_passed, held}
use Rattle.cm_types.proofs.NestedExprs.{expr_nests}

abbrev stmt_shifts : Step → ℕ
stmt_shifts = fold-Step ℕ stmt_shifts_step

abbrev all_shifts : List Step → ℕ
all_shifts xs = greatest (map stmt_shifts xs)

-- what is written and what is told
abbrev StmtLow : (Scope → StmtMeaning) → Type 0
StmtLow m = (s : Scope) (l : Names) (returned : Bool) → stmt_shifts (m s l returned).0.0.stmt ≤ 65

abbrev BlockLow : (Scope → BlockMeaning) → Type 0
BlockLow m = (s : Scope) (l : Names) → all_shifts ((m s).told l).0.steps ≤ 65

abbrev Writes : Type 0
Writes = List Token → List Token

abbrev StmtNests : Stmt → Type 0
StmtNests x = (n : ℕ) (ts : List Token) → n ≤ 64 → Fine n ((spelled.stmt_form x).writes ts)
    → StmtLow (λ s. stmt_told s x) × Fine n ts

abbrev pub BlockNests : Block → Type 0
BlockNests x = (n : ℕ) (ts : List Token) → n ≤ 64 → Fine n ((spelled.block_form x).writes ts)
    → BlockLow (λ s. of_block s x) × Fine n ts

abbrev KS : Type 0
KS = (x : Stmt) × StmtNests x

abbrev KB : Type 0
KB = (x : Block) × BlockNests x

abbrev bare_stmt : layer.Stmt-F KS KB → layer.Stmt-F Stmt Block
bare_stmt = map-Stmt KS KB Stmt Block (λ k. k.0) (λ k. k.0)

abbrev bare_block : layer.Block-F KS KB → layer.Block-F Stmt Block
bare_block = map-Block KS KB Stmt Block (λ k. k.0) (λ k. k.0)

abbrev form_at : layer.Stmt-F Stmt Block → Form Stmt
form_at x = spelled.stmt_step (map-Stmt Stmt Block (Form Stmt) (Form Block) spelled.stmt_form spelled.block_form x)

abbrev told_at : Scope → layer.Stmt-F Stmt Block → StmtMeaning
told_at s x = stmt_step s (map-Stmt Stmt Block StmtMeaning BlockMeaning (stmt_told s) (of_block s) x)

abbrev block_form_at : layer.Block-F Stmt Block → Form Block
block_form_at x = spelled.block_step (map-Block Stmt Block (Form Stmt)
    (Form Block) spelled.stmt_form spelled.block_form x)

abbrev block_told_at : Scope → layer.Block-F Stmt Block → BlockMeaning
block_told_at s x = block_step (map-Block Stmt Block StmtMeaning BlockMeaning (stmt_told s) (of_block s) x)

-- the bound with n brackets open holds without them
weaker : (x n : ℕ) → x + n ≤ 65 → x ≤ 65
weaker x n h = omega (arith, h)

same_less : (x y : ℕ) → x ≡ y → y ≤ 65 → x ≤ 65
same_less x y e h = omega (arith, e, h)

two_less : (x y : ℕ) → x ≤ 65 → y ≤ 65 → max x y ≤ 65
two_less x y p q = omega (arith, p, q)

three_less : (x y z : ℕ) → x ≤ 65 → y ≤ 65 → z ≤ 65 → max x (max y z) ≤ 65
three_less x y z p q r = omega (arith, p, q, r)

pub few_in : (e : Expr) (n : ℕ) → IsLow 65 n (expr_told e) → (s : Scope) (l : Names)
    → shifts_of (expr_told e s l).0.expr ≤ 65
few_in e n h s l = weaker (shifts_of (expr_told e s l).0.expr) n (h s l)

steps_low : (s : Scope) (ms : List StmtMeaning) → Each (λ m. (l : Names) (returned : Bool)
    → stmt_shifts (m l returned).0.0.stmt ≤ 65) ms
    → (done : List Step) (returned : Bool) (l : Names) → all_shifts done ≤ 65
    → all_shifts (block_told done returned ms l).0.steps ≤ 65
steps_low s [] h done returned l p = p
steps_low s (m ∷ ms) h done returned l p =
    let o = (m l returned).0 in
    steps_low s ms h.1 (done ++ o.0.stmt ∷ []) o.0.returns o.1
    (subst (λ xs. greatest xs ≤ 65) (sym (map_more stmt_shifts done o.0.stmt)) (one_more (map stmt_shifts done)
    (stmt_shifts o.0.stmt) p (h.0 l returned)))
  where
    one_more : (xs : List ℕ) (x : ℕ) → greatest xs ≤ 65 → x ≤ 65 → greatest (xs ++ x ∷ []) ≤ 65
    one_more xs x p q = plain (greatest (xs ++ x ∷ [])) (greatest_more xs x 0 65 (with_nought (greatest xs) p)
        (with_nought x q))
      where
        with_nought : (x : ℕ) → x ≤ 65 → x + 0 ≤ 65
        with_nought x h = omega (arith, h)

        plain : (x : ℕ) → x + 0 ≤ 65 → x ≤ 65
        plain x h = omega (arith, h)

-- statements one after another
each_nests : (xs : List Stmt) → Each StmtNests xs → (n : ℕ) (ts : List Token) → n ≤ 64
    → Fine n ((spelled.each (map spelled.stmt_form xs)).writes ts) → Each (λ x. StmtLow (λ s. stmt_told s x)) xs
    × Fine n ts
each_nests [] g n ts le h = (tt, h)
each_nests (x ∷ xs) g n ts le h =
    let p = g.0 n ((spelled.each (map spelled.stmt_form xs)).writes ts) le h in
    let q = each_nests xs g.1 n ts le p.1 in
    ((p.0, q.0), q.1)

at_scope : (s : Scope) (xs : List Stmt) → Each (λ x. StmtLow (λ s. stmt_told s x)) xs
    → Each (λ m. (l : Names) (returned : Bool) → stmt_shifts (m l returned).0.0.stmt ≤ 65) (map (stmt_told s) xs)
at_scope s [] h = tt
at_scope s (x ∷ xs) h = (h.0 s, at_scope s xs h.1)

block_layer_nests : (y : layer.Block-F KS KB) (n : ℕ) (ts : List Token) → n ≤ 64
    → Fine n ((block_form_at (bare_block y)).writes ts)
    → BlockLow (λ s. block_told_at s (bare_block y)) × Fine n ts
block_layer_nests y n ts le h =
    let xs = map (λ (k : KS). k.0) y.statements in
    let inner = (spelled.each (map spelled.stmt_form xs)).writes (token.CloseCurly ∷ ts) in
    let o = opened n inner h in
    let a = each_nests xs (held StmtNests y.statements) (n + 1) (token.CloseCurly ∷ ts) o.0 o.1 in
    (λ s l. steps_low s (map (stmt_told s) xs) (at_scope s xs a.0) [] false l (omega arith), closed n ts a.1)

stmt_layer_nests : (y : layer.Stmt-F KS KB) (n : ℕ) (ts : List Token) → n ≤ 64
    → Fine n ((form_at (bare_stmt y)).writes ts)
    → StmtLow (λ s. told_at s (bare_stmt y)) × Fine n ts
stmt_layer_nests (layer.Let p x e) n ts le h =
    let q = name_passed n x (token.Assign ∷ (expr_form e).writes (token.Semicolon ∷ ts)) h in
    let a = expr_nests e n (token.Semicolon ∷ ts) le q.1 in
    (λ s l r. same_less _ _ (forms.of_Let stmt_shifts_step (expr_told e s l).0.expr) (few_in e n a.0 s l), a.1)
stmt_layer_nests (layer.Assign p x e) n ts le h =
    let q = name_passed n x (token.Assign ∷ (expr_form e).writes (token.Semicolon ∷ ts)) h in
    let a = expr_nests e n (token.Semicolon ∷ ts) le q.1 in (
      λ s l r. same_less _ _ (forms.of_Set stmt_shifts_step (cell_told p x s l).0.state None (expr_told e s l).0.expr)
          (two_less 0 (shifts_of (expr_told e s l).0.expr) (omega arith) (few_in e n a.0 s l)),
      a.1,
    )
stmt_layer_nests (layer.AssignAt p x k e) n ts le h =
    let behind = token.Assign ∷ (expr_form e).writes (token.Semicolon ∷ ts) in
    let inner = (expr_form k).writes (token.CloseSquare ∷ behind) in
    let q = name_passed n x (token.OpenSquare ∷ inner) h in
    let o = opened n inner q.1 in
    let c = expr_nests k (n + 1) (token.CloseSquare ∷ behind) o.0 o.1 in
    let a = expr_nests e n (token.Semicolon ∷ ts) le (closed n behind c.1) in (
      λ s l r. same_less _ _ (forms.of_Set stmt_shifts_step (map_told p x s l).0.state (Some (expr_told k s l).0.expr)
          (expr_told e s l).0.expr)
          (two_less (shifts_of (expr_told k s l).0.expr) (shifts_of (expr_told e s l).0.expr)
          (few_in k (n + 1) c.0 s l) (few_in e n a.0 s l)),
      a.1,
    )
stmt_layer_nests (layer.If p e b) n ts le h =
    let a = expr_nests e n ((spelled.block_form b.0).writes ts) le h in
    let c = b.1 n ts le a.1 in (
      λ s l r.
          let steps = ((of_block s b.0).told l).0.steps in
          same_less _ _ (forms.of_If stmt_shifts_step (expr_told e s l).0.expr steps [])
          (three_less (shifts_of (expr_told e s l).0.expr) (all_shifts steps) 0 (few_in e n a.0 s l) (c.0 s l)
          (omega arith)),
      c.1,
    )
stmt_layer_nests (layer.IfElse p e b d) n ts le h =
    let second = token.Else ∷ (spelled.block_form d.0).writes ts in
    let a = expr_nests e n ((spelled.block_form b.0).writes second) le h in
    let c = b.1 n second le a.1 in
    let f = d.1 n ts le c.1 in (
      λ s l r.
          let left = ((of_block s b.0).told l).0.steps in
          let right = ((of_block s d.0).told l).0.steps in
          same_less _ _ (forms.of_If stmt_shifts_step (expr_told e s l).0.expr left right)
          (three_less (shifts_of (expr_told e s l).0.expr) (all_shifts left) (all_shifts right) (few_in e n a.0 s l)
          (c.0 s l) (f.0 s l)),
      f.1,
    )
stmt_layer_nests (layer.Case p e b x d) n ts le h =
    let last = (spelled.block_form d.0).writes (token.CloseCurly ∷ ts) in
    let second = token.Something ∷ token.Name x ∷ last in
    let first = token.Nothing ∷ (spelled.block_form b.0).writes second in
    let a = expr_nests e n (token.OpenCurly ∷ first) le h in
    let o = opened n first a.1 in
    let c = b.1 (n + 1) second o.0 o.1 in
    let q = name_passed (n + 1) x last c.1 in
    let f = d.1 (n + 1) (token.CloseCurly ∷ ts) o.0 q.1 in (
      λ s l r.
          let v = (expr_told e s l).0 in
          let left = ((of_block s b.0).told l).0.steps in
          let k = more l x (entry.Local (length l) (payload_of v.at v.kind).0) in
          let right = ((of_block s d.0).told k).0.steps in
          same_less _ _ (forms.of_Case stmt_shifts_step v.expr left right)
          (three_less (shifts_of v.expr) (all_shifts left) (all_shifts right) (few_in e n a.0 s l) (c.0 s l) (f.0 s k)),
      closed n ts f.1,
    )
stmt_layer_nests (layer.Assume p e) n ts le h =
    let a = expr_nests e n (token.Semicolon ∷ ts) le h in
    (λ s l r. same_less _ _ (forms.of_Assume stmt_shifts_step (expr_told e s l).0.expr) (few_in e n a.0 s l), a.1)
stmt_layer_nests (layer.Return p e) n ts le h =
    let a = expr_nests e n (token.Semicolon ∷ ts) le h in
    (λ s l r. same_less _ _ (forms.of_Return stmt_shifts_step (expr_told e s l).0.expr) (few_in e n a.0 s l), a.1)

stmt_rolled : (x : layer.Stmt-F Stmt Block)
    → ((n : ℕ) (ts : List Token) → n ≤ 64 → Fine n ((form_at x).writes ts) → StmtLow (λ s. told_at s x) × Fine n ts)
    → StmtNests (roll-Stmt x)
stmt_rolled x one n ts le h =
    let a = one n ts le (subst (λ (f : Form Stmt). Fine n (f.writes ts)) (fold-roll-Stmt (Form Stmt)
    (Form Block) spelled.stmt_step spelled.block_step x) h) in (
      λ s l r. subst (λ (m : StmtMeaning). stmt_shifts (m l r).0.0.stmt ≤ 65)
          (sym (fold-roll-Stmt StmtMeaning BlockMeaning (stmt_step s) block_step x)) (a.0 s l r),
      a.1,
    )

block_rolled : (x : layer.Block-F Stmt Block)
    → ((n : ℕ) (ts : List Token) → n ≤ 64 → Fine n ((block_form_at x).writes ts) → BlockLow (λ s. block_told_at s x)
    × Fine n ts) → BlockNests (roll-Block x)
block_rolled x one n ts le h =
    let a = one n ts le (subst (λ (f : Form Block). Fine n (f.writes ts)) (fold-roll-Block (Form Stmt)
    (Form Block) spelled.stmt_step spelled.block_step x) h) in (
      λ s l. subst (λ (m : BlockMeaning). all_shifts (m.told l).0.steps ≤ 65)
          (sym (fold-roll-Block StmtMeaning BlockMeaning (stmt_step s) block_step x)) (a.0 s l),
      a.1,
    )

-- THE SHIFTS OF A BLOCK.
pub block_nests : (b : Block) → BlockNests b
block_nests = ind-Block StmtNests BlockNests
    (λ x y is. subst (λ z. StmtNests (roll-Stmt z)) is (stmt_rolled (bare_stmt y) (stmt_layer_nests y)))
    (λ x y is. subst (λ z. BlockNests (roll-Block z)) is (block_rolled (bare_block y) (block_layer_nests y)))

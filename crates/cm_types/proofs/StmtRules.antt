-- What the folds of statements and of types give has a property that each step keeps.
use Rattle.std.proofs.Common.{◌≡◌, List, refl, sym, ap, ◌∙◌, subst, Option}
use Rattle.cm_syntax.specs.declared.tree.«Type».{«Type» as TypeTree}
use Rattle.cm_syntax.specs.declared.tree.«Type».TheOpen as type_layer
use Rattle.cm_syntax.specs.declared.tree.«Type».TheFolds.{fold-roll-Type, ind-Type, map-Type}
use Rattle.cm_syntax.specs.declared.tree.Stmt.{Stmt}
use Rattle.cm_syntax.specs.declared.tree.Block.{Block}
use Rattle.cm_syntax.specs.declared.tree.Stmt.TheOpen as layer
use Rattle.cm_syntax.specs.declared.tree.Stmt.TheFolds.{fold-roll-Stmt, fold-roll-Block, ind-Block, map-Stmt, map-Block}
use Rattle.cm_typing.specs.declared.flat.Flat.{Flat}
use Rattle.cm_typing.specs.declared.scope.Scope.{Scope}
use Rattle.cm_typing.specs.Told.{Told}
use Rattle.cm_typing.specs.Names.{Names}
use Rattle.cm_typing.specs.Types.{type_told, type_step}
use Rattle.cm_typing.specs.Statements.{StmtMeaning, BlockMeaning, stmt_step, block_step, stmt_told, of_block}
use Rattle.cm_types.proofs.ExprRules.{map_map}

module _ {AS AB BS BB CS CB : Type 0} (fs : AS → BS) (fb : AB → BB) (gs : BS → CS) (gb : BB → CB) where
  stmt_layers : (x : layer.Stmt-F AS AB)
      → map-Stmt BS BB CS CB gs gb (map-Stmt AS AB BS BB fs fb x) ≡ map-Stmt AS AB CS CB (λ s. gs (fs s))
      (λ b. gb (fb b)) x
  stmt_layers (layer.Let p n e) = refl
  stmt_layers (layer.Assign p n e) = refl
  stmt_layers (layer.AssignAt p n k e) = refl
  stmt_layers (layer.If p e b) = refl
  stmt_layers (layer.IfElse p e b c) = refl
  stmt_layers (layer.Case p e b n c) = refl
  stmt_layers (layer.Assume p e) = refl
  stmt_layers (layer.Return p e) = refl

  block_layers : (x : layer.Block-F AS AB)
      → map-Block BS BB CS CB gs gb (map-Block AS AB BS BB fs fb x) ≡ map-Block AS AB CS CB (λ s. gs (fs s))
      (λ b. gb (fb b)) x
  block_layers x =
      ap (λ (l : List CS). let y : layer.Block-F CS CB = record { at = x.at; statements = l } in y)
      (map_map fs gs x.statements)

module _ (Q : StmtMeaning → Type 0) (R : BlockMeaning → Type 0) where
  abbrev pub HeldStmt : Type 0
  HeldStmt = (m : StmtMeaning) × Q m

  abbrev pub HeldBlock : Type 0
  HeldBlock = (m : BlockMeaning) × R m

  abbrev pub bare_stmt : layer.Stmt-F HeldStmt HeldBlock → layer.Stmt-F StmtMeaning BlockMeaning
  bare_stmt = map-Stmt HeldStmt HeldBlock StmtMeaning BlockMeaning (λ m. m.0) (λ m. m.0)

  abbrev pub bare_block : layer.Block-F HeldStmt HeldBlock → layer.Block-F StmtMeaning BlockMeaning
  bare_block = map-Block HeldStmt HeldBlock StmtMeaning BlockMeaning (λ m. m.0) (λ m. m.0)

  -- what a block is told to be has it, where each step keeps it
  pub block_keeps : (s : Scope)
      → ((y : layer.Stmt-F HeldStmt HeldBlock) → Q (stmt_step s (bare_stmt y)))
      → ((y : layer.Block-F HeldStmt HeldBlock) → R (block_step (bare_block y)))
      → (b : Block) → R (of_block s b)
  block_keeps s stmts blocks = ind-Block (λ x. Q (stmt_told s x)) (λ x. R (of_block s x))
      (λ x y is.
      let z : layer.Stmt-F HeldStmt HeldBlock =
      map-Stmt _ _ HeldStmt HeldBlock (λ m. (stmt_told s m.0, m.1)) (λ m. (of_block s m.0, m.1)) y in
      let same : bare_stmt z ≡ map-Stmt Stmt Block StmtMeaning BlockMeaning (stmt_told s) (of_block s) x =
      stmt_layers (λ m. (stmt_told s m.0, m.1)) (λ m. (of_block s m.0, m.1)) (λ (m : HeldStmt). m.0)
      (λ (m : HeldBlock). m.0) y
      ∙ sym (stmt_layers (λ m. m.0) (λ m. m.0) (stmt_told s) (of_block s) y)
      ∙ ap (map-Stmt Stmt Block StmtMeaning BlockMeaning (stmt_told s) (of_block s)) is in
      subst Q (ap (stmt_step s) same ∙ sym (fold-roll-Stmt StmtMeaning BlockMeaning (stmt_step s) block_step x))
      (stmts z))
      (λ x y is.
      let z : layer.Block-F HeldStmt HeldBlock =
      map-Block _ _ HeldStmt HeldBlock (λ m. (stmt_told s m.0, m.1)) (λ m. (of_block s m.0, m.1)) y in
      let same : bare_block z ≡ map-Block Stmt Block StmtMeaning BlockMeaning (stmt_told s) (of_block s) x =
      block_layers (λ m. (stmt_told s m.0, m.1)) (λ m. (of_block s m.0, m.1)) (λ (m : HeldStmt). m.0)
      (λ (m : HeldBlock). m.0) y
      ∙ sym (block_layers (λ m. m.0) (λ m. m.0) (stmt_told s) (of_block s) y)
      ∙ ap (map-Block Stmt Block StmtMeaning BlockMeaning (stmt_told s) (of_block s)) is in
      subst R (ap block_step same ∙ sym (fold-roll-Block StmtMeaning BlockMeaning (stmt_step s) block_step x))
      (blocks z))

-- Types

abbrev pub TypeMeaning : Type 0
TypeMeaning = Names → Told (Option Flat)

type_layers : {X Y Z : Type 0} (f : X → Y) (g : Y → Z) (x : type_layer.Type-F X)
    → map-Type Y Z g (map-Type X Y f x) ≡ map-Type X Z (λ a. g (f a)) x
type_layers f g (type_layer.Bool p) = refl
type_layers f g (type_layer.Named p n) = refl
type_layers f g (type_layer.Optional p t) = refl

module _ (Q : TypeMeaning → Type 0) where
  abbrev pub HeldType : Type 0
  HeldType = (m : TypeMeaning) × Q m

  abbrev pub bare_type : type_layer.Type-F HeldType → type_layer.Type-F TypeMeaning
  bare_type = map-Type HeldType TypeMeaning (λ m. m.0)

  pub type_keeps : ((y : type_layer.Type-F HeldType) → Q (type_step (bare_type y))) → (t : TypeTree) → Q (type_told t)
  type_keeps keeps = ind-Type (λ t. Q (type_told t)) (λ x y is.
      let z : type_layer.Type-F HeldType = map-Type _ HeldType (λ t. (type_told t.0, t.1)) y in
      let same : bare_type z ≡ map-Type TypeTree TypeMeaning type_told x =
      type_layers (λ t. (type_told t.0, t.1)) (λ (m : HeldType). m.0) y
      ∙ sym (type_layers (λ t. t.0) type_told y) ∙ ap (map-Type TypeTree TypeMeaning type_told) is in
      subst Q (ap type_step same ∙ sym (fold-roll-Type TypeMeaning type_step x)) (keeps z))

-- What statements are told to be: a line an alternative of the grammar.
use Rattle.std.specs.Prelude.{ℕ, ltb, Bool, true, false, not, ◌&&◌, ◌||◌, List, [], ◌∷◌, ◌++◌, length, Option, Some}
use Rattle.std.specs.Prelude.{None}
use Rattle.cm_model.specs.declared.place.Place.{Place}
use Rattle.cm_model.specs.declared.body.Expr.{Expr as Made}
use Rattle.cm_model.specs.declared.body.Stmt.{Stmt as Step}
use Rattle.cm_model.specs.declared.body.Stmt.TheVariants as step
use Rattle.cm_syntax.specs.declared.tree.Expr.{Expr}
use Rattle.cm_syntax.specs.declared.tree.Stmt.{Stmt}
use Rattle.cm_syntax.specs.declared.tree.Block.{Block}
use Rattle.cm_syntax.specs.declared.tree.Stmt.TheOpen as layer
use Rattle.cm_syntax.specs.declared.tree.Stmt.TheFolds.{fold-Stmt, fold-Block}
use Rattle.cm_typing.specs.declared.flat.Flat.{Flat}
use Rattle.cm_typing.specs.declared.names.Entry.{Entry}
use Rattle.cm_typing.specs.declared.names.Entry.TheVariants as entry
use Rattle.cm_typing.specs.declared.scope.Scope.{Scope}
use Rattle.cm_typing.specs.declared.told.Typed.{Typed}
use Rattle.cm_typing.specs.declared.told.Done.{Done}
use Rattle.cm_typing.specs.declared.told.Steps.{Steps}
use Rattle.cm_typing.specs.declared.told.FoundCell.{FoundCell}
use Rattle.cm_typing.specs.Told.{Told, fine, given, rule, refused}
use Rattle.cm_typing.specs.Names.{Names, is_taken, more}
use Rattle.cm_typing.specs.Flats.{is_value, is_bool, value_of, wanted, payload_of}
use Rattle.cm_typing.specs.Expressions.{named, map_told, as_condition, expr_told}
use Rattle.cm_typing.specs.Rules as rules

abbrev pub done : Step → Bool → Done
done x returns = record { stmt = x; returns = returns }

abbrev pub steps : List Step → Bool → Steps
steps xs returns = record { steps = xs; returns = returns }

-- from the locals, and whether the statement before it always returns
abbrev pub StmtMeaning : Type 0
StmtMeaning = Names → Bool → Told (Done × Names)

-- a block, with the place of its brace
pub record BlockMeaning : Type 0 where
  pub at : Place
  pub told : Names → Told Steps

-- a name that is new among the declared ones and the locals
abbrev pub unbound : Place → List ℕ → Scope → Names → Told (Unit {0})
unbound at n s l = rule (not (is_taken n s.names || is_taken n l)) rules.taken at

-- how many locals a body may have: one with more of them is too heavy
abbrev pub locals_limit : ℕ
locals_limit = 65535

-- one local more; its number is its position in scope
abbrev pub bound : Place → List ℕ → Option Flat → Scope → Names → Told Names
bound at n t s l =
    given (unbound at n s l) (λ u. given (rule (ltb (length l) locals_limit) rules.heavy s.at) (λ u.
    fine (more l n (entry.Local (length l) t))))

abbrev pub no_cell : FoundCell
no_cell = record { state = 0; value = None }

-- what is assigned
abbrev pub cell_named : Place → Option Entry → Told FoundCell
cell_named at None = fine no_cell
cell_named at (Some (entry.Cell c t)) = fine (record { state = c; value = t })
cell_named at (Some _) = refused no_cell rules.unknown at

abbrev pub cell_told : Place → List ℕ → Scope → Names → Told FoundCell
cell_told at n s l = given (named at n s l) (cell_named at)

-- statements, behind those that are done
abbrev pub block_told : List Step → Bool → List StmtMeaning → Names → Told Steps
block_told xs returns [] l = fine (steps xs returns)
block_told xs returns (m ∷ ms) l = given (m l returns) (λ o. block_told (xs ++ o.0.stmt ∷ []) o.0.returns ms o.1)

-- a condition
abbrev pub condition_told : Expr → Scope → Names → Told Made
condition_told e s l = given (expr_told e s l) as_condition

-- a value of a type
abbrev pub value_told : Expr → Option Flat → Scope → Names → Told Made
value_told e want s l = given (expr_told e s l) (λ v. given (wanted want v.at v.kind) (λ u. fine v.expr))

-- a block in which the payload is one local more; its name is bound at the brace
abbrev pub some_told : List ℕ → Option Flat → BlockMeaning → Scope → Names → Told Steps
some_told n t b s l = given (bound b.at n t s l) (λ m. b.told m)

-- a statement by itself
abbrev pub stmt_alone : Scope → layer.Stmt-F StmtMeaning BlockMeaning → Names → Told (Done × Names)
stmt_alone s (layer.Let at n e) l =
    given (expr_told e s l) (λ v. given (rule (is_value v.kind) rules.number v.at) (λ u.
    given (bound at n (value_of v.kind) s l) (λ m.
    fine (done (step.Let v.expr) false, m))))
stmt_alone s (layer.Assign at n e) l =
    given (cell_told at n s l) (λ c. given (value_told e c.value s l) (λ x.
    fine (done (step.Set c.state None x) false, l)))
stmt_alone s (layer.AssignAt at n k e) l =
    given (map_told at n s l) (λ c. given (value_told k c.key s l) (λ y. given (value_told e c.value s l) (λ x.
    fine (done (step.Set c.state (Some y) x) false, l))))
stmt_alone s (layer.If at e left) l =
    given (condition_told e s l) (λ c. given (left.told l) (λ y. fine (done (step.If c y.steps []) false, l)))
stmt_alone s (layer.IfElse at e left right) l =
    given (condition_told e s l) (λ c. given (left.told l) (λ y. given (right.told l) (λ o.
    fine (done (step.If c y.steps o.steps) (y.returns && o.returns), l))))
stmt_alone s (layer.Case at e left n right) l =
    given (expr_told e s l) (λ v. given (payload_of v.at v.kind) (λ t. given (left.told l) (λ y.
    given (some_told n t right s l) (λ o.
    fine (done (step.Case v.expr y.steps o.steps) (y.returns && o.returns), l)))))
stmt_alone s (layer.Assume at e) l = given (condition_told e s l) (λ c. fine (done (step.Assume c) false, l))
stmt_alone s (layer.Return at e) l = given (value_told e s.reply s l) (λ x. fine (done (step.Return x) true, l))

abbrev pub place_of : {S B : Type 0} → layer.Stmt-F S B → Place
place_of (layer.Let at n e) = at
place_of (layer.Assign at n e) = at
place_of (layer.AssignAt at n k e) = at
place_of (layer.If at e left) = at
place_of (layer.IfElse at e left right) = at
place_of (layer.Case at e left n right) = at
place_of (layer.Assume at e) = at
place_of (layer.Return at e) = at

-- nothing follows a statement that always returns
abbrev pub stmt_step : Scope → layer.Stmt-F StmtMeaning BlockMeaning → StmtMeaning
stmt_step s x l returns = given (rule (not returns) rules.returns (place_of x)) (λ u. stmt_alone s x l)

abbrev pub block_step : layer.Block-F StmtMeaning BlockMeaning → BlockMeaning
block_step b = record { at = b.at; told = block_told [] false b.statements }

abbrev pub stmt_told : Scope → Stmt → StmtMeaning
stmt_told s = fold-Stmt StmtMeaning BlockMeaning (stmt_step s) block_step

abbrev pub of_block : Scope → Block → BlockMeaning
of_block s = fold-Block StmtMeaning BlockMeaning (stmt_step s) block_step

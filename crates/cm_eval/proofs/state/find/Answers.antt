use Rattle.std.proofs.Common.{◌≡◌, arith, option_copied, true, sym, ◌∙◌, subst}
use Rattle.cm_eval.specs.declared.log.CellName.{CellName}
use Rattle.cm_eval.specs.declared.state.Except.{Except}
use Rattle.cm_eval.specs.State.{same_cell}
use Rattle.cm_eval.specs.Evaluation.{named}
use Rattle.cm_eval.proofs.Places.{found, not_found}
use Rattle.cm_eval.proofs.state.find.Goals as goal

-- src/state.rt:140:13
pub returns-then-is_cell : goal.returns-then-is_cell
returns-then-is_cell c =
    let cell : CellName = named c.args.state (option_copied c.args.key) in
    found c.args.exceptions.now cell c.loop-i.i c.index-exceptions-i.result c.loop-i-test.true c.loop-i.invariant
    (subst (λ (e : Except). same_cell e.cell cell ≡ true) c.index-exceptions-i.is (sym c.is_cell.ensures
    ∙ c.if-is_cell.true))

-- src/state.rt:134:1
pub returns : goal.returns
returns c =
    not_found c.args.exceptions.now (named c.args.state (option_copied c.args.key))
    (λ k d lt. c.loop-i.invariant k d (omega (arith, lt, c.loop-i-test.false)))

use Rattle.std.proofs.Common.{arith, ◌+◌, true, false, get_or, None, refl, sym, subst}
use Rattle.std.proofs.lemmas.List.{get_or_default}
use Rattle.cm_world.proofs.Cells.{Keeps, short, on, skips, declared_at}
use Rattle.cm_eval.specs.declared.log.CellName.{CellName}
use Rattle.cm_eval.specs.Evaluation.{named}
use Rattle.cm_world.proofs.path.inspect_cells.Goals as goal
use Rattle.cm_world.proofs.path.inspect_cells.Goals.{then-written-i+in_ok-inspect_cell+else-not-branch, else-written-i}

pub returns-then-i-written : goal.returns-then-i-written
returns-then-i-written c =
    record {
      steps = short c.args.left.now c.args.right.now c.args.cells.now c.args.written.now c.cells.i
          c.args.steps.now c.cells.steps c.if-i-written.true c.cells.invariant;
    }

pub inspect_cell-requires-clause-left : goal.inspect_cell-requires-clause-left
inspect_cell-requires-clause-left c = declared_at _ c.args.cells.now c.cells.i c.index-cells-i.result
    c.cells-test.true c.index-cells-i.is c.requires.left

pub inspect_cell-requires-clause-right : goal.inspect_cell-requires-clause-right
inspect_cell-requires-clause-right c = declared_at _ c.args.cells.now c.cells.i c.index-cells-i.result
    c.cells-test.true c.index-cells-i.is c.requires.right

pub cells-preserved : goal.cells-preserved
cells-preserved c =
    elim c.if-written-i.branch [
      | then-written-i+in_ok-inspect_cell+else-not-branch w ↦
          subst (Keeps c.args.left.now c.args.right.now c.args.cells.now c.args.written.now (c.cells.i + 1)
          c.args.steps.now) (sym w.steps-is)
          (on c.args.left.now c.args.right.now c.args.cells.now c.args.written.now c.cells.i w.index-cells-i.result
          true c.cells-test.true
          (omega (arith, c.if-i-written.false)) w.index-cells-i.is w.if-written-i.true w.in_ok-inspect_cell.field-0
          c.args.steps.now c.cells.steps w.inspect_cell.new.steps
          c.cells.invariant refl w.in_ok-inspect_cell.ensures.inspects w.if-not-branch.false)
      | else-written-i w ↦
          let cell : CellName = get_or c.args.cells.now c.cells.i (named 0 None) in
          subst (Keeps c.args.left.now c.args.right.now c.args.cells.now c.args.written.now (c.cells.i + 1)
          c.args.steps.now) (sym w.steps-is)
          (skips c.args.left.now c.args.right.now c.args.cells.now c.args.written.now c.cells.i cell
          false c.cells-test.true
          (omega (arith, c.if-i-written.false)) (get_or_default c.args.cells.now c.cells.i (named 0 None)
          cell c.cells-test.true) w.if-written-i.false
          c.args.steps.now c.cells.steps c.cells.invariant refl)
    ]

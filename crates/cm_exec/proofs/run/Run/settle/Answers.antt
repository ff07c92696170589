use Rattle.std.proofs.Common.{◌∙◌, length, sym, ap, subst}
use Rattle.cm_eval.specs.Compiled.{IsCodeOf}
use Rattle.cm_exec.specs.declared.run.Run.{Run}
use Rattle.cm_exec.specs.Run.{settled}
use Rattle.cm_exec.specs.Running.{telling, used, adds}
use Rattle.cm_exec.proofs.Going.{found_there, touch_asks, touch_finds, touch_misses, roomy_still}
use Rattle.cm_exec.proofs.Growing.{keeps_none}
use Rattle.cm_exec.proofs.run.Run.settle.Goals as goal

pub use_cell-requires : goal.use_cell-requires
use_cell-requires g c = record {
  cell = found_there c.take_touch-touch.result c.args.self.now.phase c.args.cells.now c.args.touched c.in-Cell.cell
      c.requires.touched c.take_touch-touch.ensures.touch c.in-Cell.is;
}

pub returns-in-Ask-clause-comes : goal.returns-in-Ask-clause-comes
returns-in-Ask-clause-comes g c = λ ps is.
    touch_asks c.args.model.now ps c.args.self.now c.args.cells.now c.args.touched c.in-Ask.question
    c.requires.touched c.in-Ask.is

pub returns-in_ok-use_cell-in-Cell-clause-turned : goal.returns-in_ok-use_cell-in-Cell-clause-turned
returns-in_ok-use_cell-in-Cell-clause-turned g c = λ ps is more.
    ap (settled c.args.model.now c.args.cells.now.places (g.F.Facts.counts c.args.facts.now)
    (g.F.Facts.pieces c.args.facts.now))
    (touch_finds c.args.model.now ps c.args.self.now c.args.cells.now c.take_touch-touch.result c.args.touched
    c.in-Cell.cell c.requires.touched c.take_touch-touch.ensures.touch c.in-Cell.is
    ∙ sym (ap (λ r. used c.args.model.now ps r c.take_touch-touch.result.goal c.in-Cell.cell c.args.cells.now)
    c.take_touch-touch.ensures.rest)
    ∙ c.in_ok-use_cell-in-Cell.ensures.used c.args.model.now ps)
    ∙ sym (ap (λ l. settled c.args.model.now l (g.F.Facts.counts c.args.facts.now)
    (g.F.Facts.pieces c.args.facts.now)
    (telling c.args.model.now ps c.use_cell.new.self c.use_cell.new.cells)) c.in_ok-use_cell-in-Cell.ensures.places)

pub returns-in_ok-use_cell-in-Cell-clause-new : goal.returns-in_ok-use_cell-in-Cell-clause-new
returns-in_ok-use_cell-in-Cell-clause-new g c =
    roomy_still _ (length c.args.cells.now.places) (length c.use_cell.new.cells.places) c.requires.new
    (ap length c.in_ok-use_cell-in-Cell.ensures.places)

pub returns-in_ok-a-in-New-clause-turned : goal.returns-in_ok-a-in-New-clause-turned
returns-in_ok-a-in-New-clause-turned g c = λ ps is more.
    ap (settled c.args.model.now c.args.cells.now.places (g.F.Facts.counts c.args.facts.now)
    (g.F.Facts.pieces c.args.facts.now))
    (touch_misses c.args.model.now ps c.args.self.now c.args.cells.now c.take_touch-touch-in-New.result c.args.touched
    c.requires.touched c.take_touch-touch-in-New.ensures.touch c.in-New.is
    ∙ sym (ap (λ r. adds c.args.model.now ps r c.take_touch-touch-in-New.result c.args.cells.now)
    c.take_touch-touch-in-New.ensures.rest))
    ∙ c.in_ok-a-in-New.ensures.turned ps
    (subst (λ (r : Run). IsCodeOf c.args.model.now r.code) (sym c.take_touch-touch-in-New.ensures.rest) is)

pub returns-in-Ask-clause-satisfied : goal.returns-in-Ask-clause-satisfied
returns-in-Ask-clause-satisfied g c = keeps_none _ _

pub returns-in_ok-use_cell-in-Cell-clause-satisfied : goal.returns-in_ok-use_cell-in-Cell-clause-satisfied
returns-in_ok-use_cell-in-Cell-clause-satisfied g c = keeps_none _ _

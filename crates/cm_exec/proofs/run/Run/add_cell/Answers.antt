use Rattle.std.proofs.Common.{◌∙◌, ◌∷◌, [], length, ap}
use Rattle.std.proofs.lemmas.List.{length-append}
use Rattle.cm_cells.specs.CellTable.{CellTable, place}
use Rattle.cm_term.specs.declared.symbol.Root.TheVariants as root
use Rattle.cm_exec.proofs.Going.{payloads_more, roomy_more}
use Rattle.cm_exec.proofs.Growing.{keeps_none, keeps_one}
use Rattle.cm_exec.proofs.run.Run.add_cell.Goals as goal

pub returns-clause-satisfied : goal.returns-clause-satisfied
returns-clause-satisfied g c = keeps_one _ _ _ _ _ c.in_ok-t.ensures.pieces c.in_ok-t.ensures.satisfied

pub returns-clause-pieces : goal.returns-clause-pieces
returns-clause-pieces g c = payloads_more _ _ _ c.in_ok-t.ensures.pieces

pub returns-clause-new : goal.returns-clause-new
returns-clause-new g c =
    roomy_more _ _ _ (length c.args.cells.now.places) (length c.check_cell.new.cells.places) c.requires.new
    (ap root.Cell c.len.ensures.count) c.in_ok-t.ensures.pieces
    (ap length (c.in_ok-check_cell.ensures.places ∙ ap (λ (t : CellTable). t.places) c.in_ok-cell.ensures.added)
    ∙ length-append c.args.cells.now.places (place c.args.touch.state c.args.touch.key ∷ []))

pub returns-in_default-clause-satisfied : goal.returns-in_default-clause-satisfied
returns-in_default-clause-satisfied g c = keeps_none _ _

use Rattle.std.proofs.Common.{◌<◌, ◌+◌, pos, take, FitsSigned, w32, rules, arith}
use Rattle.std.proofs.lemmas.Int.{to_z-of_z}
use Rattle.std.proofs.lemmas.List.{get_or-take, length-take-le}
use Rattle.cm_order.specs.inner.Shells.{number_at}
use Rattle.cm_order.proofs.Places.{add_comm_int, shell_at}
use Rattle.cm_order.proofs.shells.relax_shell.Goals as goal

pub relax_run-requires-2-clause-fits : goal.relax_run-requires-2-clause-fits
relax_run-requires-2-clause-fits c = λ k h.
    let m = c.args.m in
    let below : k < m = let long = length-take-le m c.args.column.now (omega arith) in omega arith in
    let row : FitsSigned w32 (number_at c.args.row.now m) = search rules in
    rw (to_z-of_z w32 (number_at c.args.row.now m) row, get_or-take m c.args.column.now k (pos 0) below)
    (rw (add_comm_int (number_at c.args.column.now k) (number_at c.args.row.now m)) at
    (c.requires.fits k m (omega arith) c.requires.shell))

pub returns : goal.returns
returns c = λ i j p q.
    let m = c.args.m in
    let column : FitsSigned w32 (number_at c.args.column.now m) = search rules in
    let row : FitsSigned w32 (number_at c.args.row.now m) = search rules in
    shell_at c.args.cells.now c.relax_run.new.cells c.relax_run-2.new.cells c.args.column.now c.args.row.now
    m i j (take (m + 1) c.args.row.now) (take m c.args.column.now) c.requires.shell
    (length-take-le (m + 1) c.args.row.now (omega arith)) (λ k h. get_or-take (m + 1) c.args.row.now k (pos 0) h)
    (length-take-le m c.args.column.now (omega arith)) (λ k h. get_or-take m c.args.column.now k (pos 0) h)
    (rw (to_z-of_z w32 (number_at c.args.column.now m) column) at c.relax_run.ensures)
    (rw (to_z-of_z w32 (number_at c.args.row.now m) row) at c.relax_run-2.ensures)

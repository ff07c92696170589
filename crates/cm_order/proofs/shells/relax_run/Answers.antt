use Rattle.std.proofs.Common.{◌+◌, ◌+ℤ◌, ap, ◌∙◌, FitsSigned, w32, rules}
use Rattle.std.proofs.lemmas.Int.{to_z-of_z}
use Rattle.cm_order.specs.inner.Shells.{number_at, relaxed}
use Rattle.cm_order.proofs.Runs.{relaxed_more}
use Rattle.cm_order.proofs.shells.relax_run.Goals as goal

pub run-preserved : goal.run-preserved
run-preserved c =
    let k = c.run.k in
    let cell : FitsSigned w32 (number_at c.run.cells (c.args.start + k)) = search rules in
    let sum : FitsSigned w32 (c.args.by +ℤ number_at c.args.others.now k) = c.requires.fits k c.run-test.true in
    let least : FitsSigned w32 c.min.result = search rules in
    let other : FitsSigned w32 (number_at c.args.others.now k) = search rules in
    let min = rw (
      to_z-of_z w32 (number_at c.run.cells (c.args.start + k)) cell,
      to_z-of_z w32 c.args.by c.ranges.by,
      to_z-of_z w32 (number_at c.args.others.now k) other,
      to_z-of_z w32 (c.args.by +ℤ number_at c.args.others.now k)
          sum,
    ) at c.min.ensures.value in
    rw (to_z-of_z w32 c.min.result least, to_z-of_z w32 c.args.by c.ranges.by, min)
    (relaxed_more c.args.cells.now c.run.cells c.args.others.now c.args.start c.args.by k c.run-test.true
    c.requires.room c.run.auto.cells
    (λ p. c.run.invariant p ∙ ap (λ by. relaxed c.args.cells.now c.args.start c.args.others.now by k p)
    (to_z-of_z w32 c.args.by c.ranges.by)))

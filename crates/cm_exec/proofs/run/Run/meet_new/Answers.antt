use Rattle.std.proofs.Common.{rules, ◌∙◌, slice_get, sym, ap, arith}
use Rattle.cm_exec.specs.Run.{settled}
use Rattle.cm_exec.specs.Running.{telling, IsThere}
use Rattle.cm_exec.proofs.Going.{misses_at, adds_needs}
use Rattle.cm_exec.proofs.Growing.{keeps_none}
use Rattle.cm_exec.proofs.run.Run.meet_new.Goals as goal

pub returns-then-from-ge-CELLS-clause-turned : goal.returns-then-from-ge-CELLS-clause-turned
returns-then-from-ge-CELLS-clause-turned g c = λ ps is.
    ap (settled c.args.model.now c.args.cells.now.places (g.F.Facts.counts c.args.facts.now)
    (g.F.Facts.pieces c.args.facts.now))
    (sym (misses_at c.args.model.now ps c.args.self.now c.args.cells.now c.args.touch c.requires.is_new)
    ∙ sym (ap (λ r. telling c.args.model.now ps r c.args.cells.now) c.set-then-from-ge-CELLS.ensures))

pub returns-then-from-ge-CELLS-clause-comes : goal.returns-then-from-ge-CELLS-clause-comes
returns-then-from-ge-CELLS-clause-comes g c = λ ps.
    let there : IsThere (slice_get c.args.model.now.states c.args.touch.state) = search (rules) in
    let needs = adds_needs c.args.model.now ps c.args.self.now c.args.cells.now c.args.touch there in (
      omega (arith, c.if-from-ge-CELLS.true, c.from.ensures, c.len.ensures.count),
      needs.0,
      needs.1,
      ap (λ r. telling c.args.model.now ps r c.args.cells.now) c.set-then-from-ge-CELLS.ensures
          ∙ misses_at c.args.model.now ps c.args.self.now c.args.cells.now c.args.touch c.requires.is_new ∙ needs.2,
    )

pub returns-then-not-is_declared-clause-satisfied : goal.returns-then-not-is_declared-clause-satisfied
returns-then-not-is_declared-clause-satisfied g c = keeps_none _ _

pub returns-then-from-ge-CELLS-clause-satisfied : goal.returns-then-from-ge-CELLS-clause-satisfied
returns-then-from-ge-CELLS-clause-satisfied g c = keeps_none _ _

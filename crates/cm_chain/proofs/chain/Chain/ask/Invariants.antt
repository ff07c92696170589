use Rattle.std.proofs.Common.{◌≡◌, length}
use Rattle.cm_ctx.specs.Contexts.{payloads_of}
use Rattle.cm_exec.specs.Comparing.{Extends}
use Rattle.cm_exec.specs.Run.{IsGrown, KeepsAll}
use Rattle.cm_exec.specs.Running.{IsRoomy}
use Rattle.cm_chain.specs.Chains.{Moved, IsCoded, stages_left}
use Rattle.cm_chain.proofs.chain.Chain.ask.Given as goal

abbrev pub invariant-turns : goal.invariant-turns
invariant-turns g l =
    Moved l.model l.fn.self l.fn.cells (g.F.Facts.counts l.fn.facts) l.self l.cells (g.F.Facts.counts l.facts)
    (g.F.Facts.pieces l.facts)
    × IsGrown l.model l.fn.cells.places (g.F.Facts.counts l.fn.facts) (g.F.Facts.pieces l.fn.facts)
    l.cells.places (g.F.Facts.counts l.facts) (g.F.Facts.pieces l.facts)
    × KeepsAll (g.F.Facts.pieces l.fn.facts) (g.F.Facts.satisfied l.fn.facts)
    (g.F.Facts.pieces l.facts) (g.F.Facts.satisfied l.facts)
    × Extends (payloads_of (g.F.Facts.pieces l.fn.facts)) (payloads_of (g.F.Facts.pieces l.facts))
    × IsRoomy (g.F.Facts.pieces l.facts) (length l.cells.places) × IsCoded l.model l.self
    × (l.self.calls ≡ l.fn.self.calls)

abbrev pub decreases-turns : goal.decreases-turns
decreases-turns g l = stages_left l.self.replies l.self.stage

use Rattle.std.proofs.Common.{◌≡◌, ◌≤◌, List}
use Rattle.cm_term.specs.declared.term.Term.{Term}
use Rattle.cm_code.specs.Machine.{with_body}
use Rattle.cm_ctx.specs.Contexts.{payloads_of}
use Rattle.cm_exec.specs.Comparing.{Extends}
use Rattle.cm_exec.specs.Deciding.{doing, left_in}
use Rattle.cm_exec.proofs.decider.Decider.next.Given as goal

abbrev pub invariant-turns : goal.invariant-turns
invariant-turns g l =
    ((ps : List Term) → Extends (payloads_of (g.F.Facts.pieces l.facts)) ps →
    doing (with_body l.funs l.body) l.fn.self ps ≡ doing (with_body l.funs l.body) l.self ps)
    × (left_in (with_body l.funs l.body) l.self ≤ left_in (with_body l.funs l.body) l.fn.self)

abbrev pub decreases-turns : goal.decreases-turns
decreases-turns g l = left_in (with_body l.funs l.body) l.self

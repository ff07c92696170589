use Rattle.std.proofs.Common.{◌≡◌, List}
use Rattle.cm_term.specs.declared.term.Term.{Term}
use Rattle.cm_ctx.specs.Contexts.{payloads_of}
use Rattle.cm_exec.specs.Comparing.{Extends}
use Rattle.cm_exec.specs.Pairing.{settling, left_in}
use Rattle.cm_exec.proofs.compare.Compare.ask.Given as goal

abbrev pub invariant-pairs : goal.invariant-pairs
invariant-pairs g l = (ps : List Term) → Extends (payloads_of (g.F.Facts.pieces l.facts)) ps →
    settling ps l.fn.self ≡ settling ps l.self

abbrev pub decreases-pairs : goal.decreases-pairs
decreases-pairs g l = left_in l.self

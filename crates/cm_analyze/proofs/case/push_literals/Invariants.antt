use Rattle.std.proofs.Common.{◌≡◌, ◌++◌, map, drop, Some}
use Rattle.cm_name.specs.Naming.{literal_of}
use Rattle.cm_analyze.proofs.case.push_literals.Given as goal

-- what is pushed and what is left
abbrev pub invariant-loop-fact : goal.invariant-loop-fact
invariant-loop-fact l =
    map Some l.literals ++ map (literal_of l.ctx.pieces) (drop l.fact-index l.facts)
    ≡ map Some l.fn.literals ++ map (literal_of l.ctx.pieces) l.facts

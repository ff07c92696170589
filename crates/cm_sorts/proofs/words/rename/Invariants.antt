use Rattle.std.proofs.Common.{◌≡◌, ◌++◌, map, take, drop}
use Rattle.cm_sorts.specs.inner.Words.{relabelled}
use Rattle.cm_sorts.proofs.words.rename.Given as goal

abbrev pub invariant-loop-variable : goal.invariant-loop-variable
invariant-loop-variable l = l.variables ≡ map (relabelled l.gone l.keep) (take l.variable-index l.initial.variables)
    ++ drop l.variable-index l.initial.variables

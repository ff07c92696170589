use Rattle.std.proofs.Common.{◌≡◌, Some, drop}
use Rattle.cm_term.specs.Symbols.{followed}
use Rattle.cm_cond.proofs.symbol.followed.Given as goal

-- what is left to follow leads there
abbrev pub invariant-steps : goal.invariant-steps
invariant-steps l = followed (drop l.step-index l.path) (Some l.part) ≡ followed l.path (Some l.fn.value)

use Rattle.std.proofs.Common.{◌≡◌, drop}
use Rattle.std.specs.List.{list_any}
use Rattle.cm_cond.specs.Holding.{case_holds}
use Rattle.cm_cond.proofs.holding.condition_holds.Given as goal

-- what is left to test decides
abbrev pub invariant-cases : goal.invariant-cases
invariant-cases l =
    list_any (case_holds l.model l.world) (drop l.case-index l.condition.cases)
    ≡ list_any (case_holds l.model l.world) l.condition.cases

use Rattle.std.proofs.Common.{◌≡◌, drop}
use Rattle.std.specs.List.{list_all}
use Rattle.cm_cond.specs.Values.{roots_on}
use Rattle.cm_cond.specs.Holding.{literal_holds}
use Rattle.cm_cond.proofs.holding.all_hold.Given as goal

-- what is left to test decides
abbrev pub invariant-literals : goal.invariant-literals
invariant-literals l =
    list_all (literal_holds (roots_on l.world l.cells)) (drop l.literal-index l.literals)
    ≡ list_all (literal_holds (roots_on l.world l.cells)) l.literals

use Rattle.cm_order.proofs.Filling.{Filled}
use Rattle.cm_order.proofs.shells.fill_shell.Given as goal

abbrev pub invariant-cells : goal.invariant-cells
invariant-cells l = Filled l.count l.k l.initial.entries l.entries l.lo l.hi

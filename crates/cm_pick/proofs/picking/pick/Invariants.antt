use Rattle.std.proofs.Common.{take}
use Rattle.cm_pick.proofs.Steps.{Going}
use Rattle.cm_pick.proofs.picking.pick.Given as goal

abbrev pub invariant-loop-equality : goal.invariant-loop-equality
invariant-loop-equality l = Going l.fn.ctx l.ctx (take l.equality-index l.equalities) l.picked

use Rattle.std.proofs.Common.{map}
use Rattle.cm_walk.proofs.AskedFor.{HasAsked}
use Rattle.cm_walk.proofs.arguments.ask_for.Given as goal

abbrev pub invariant-params : goal.invariant-params
invariant-params l = HasAsked l.model l.side (map (λ q. q.ty) l.params) l.fn.known l.i l.known l.terms

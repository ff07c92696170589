use Rattle.std.proofs.Common.{◌≡◌, drop}
use Rattle.cm_types.specs.LeastValues.{with_states}
use Rattle.cm_types.proofs.model.add_states.Given as goal

abbrev pub invariant-loop-d : goal.invariant-loop-d
invariant-loop-d l = with_states l.places (drop l.d-index l.decls) ≡ with_states l.fn.places l.fn.decls

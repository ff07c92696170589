use Rattle.std.proofs.Common.{◌≡◌}
use Rattle.cm_typing.specs.Flats.{around, innermost}
use Rattle.cm_typing.proofs.flat.around.Given as goal

abbrev pub invariant-loop-k : goal.invariant-loop-k
invariant-loop-k l = l.deep ≡ around l._k (innermost l.fn.t.base)

use Rattle.std.proofs.Common.{◌≡◌, ◌+◌, drop}
use Rattle.cm_typing.specs.Counts.{counted}
use Rattle.cm_typing.specs.Flats.{integers_of}
use Rattle.cm_typing.proofs.flat.integers_of.Given as goal

abbrev pub invariant-loop-t : goal.invariant-loop-t
invariant-loop-t l = (counted (l.total + integers_of (drop l.t-index l.types))
    ≡ counted (integers_of l.fn.types)) × (l.total ≡ counted l.total)

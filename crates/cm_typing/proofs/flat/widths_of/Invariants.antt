use Rattle.std.proofs.Common.{◌≡◌, ◌+◌, drop}
use Rattle.cm_typing.specs.Counts.{counted}
use Rattle.cm_typing.specs.Flats.{widths_of}
use Rattle.cm_typing.proofs.flat.widths_of.Given as goal

abbrev pub invariant-loop-t : goal.invariant-loop-t
invariant-loop-t l = (counted (l.total + widths_of (drop l.t-index l.types))
    ≡ counted (widths_of l.fn.types)) × (l.total ≡ counted l.total)

use Rattle.std.proofs.Common.{◌≡◌, ◌+◌, drop}
use Rattle.cm_typing.specs.Declarations.{variants_told}
use Rattle.cm_typing.proofs.scope.Scope.check_variants.Given as goal

abbrev pub invariant-loop-index : goal.invariant-loop-index
invariant-loop-index l = variants_told l.at l.of (l.index + 1) (drop l.index l.more) l.self
    ≡ variants_told l.fn.at l.fn.of 1 l.fn.more l.fn.self

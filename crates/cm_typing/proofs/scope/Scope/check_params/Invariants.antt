use Rattle.std.proofs.Common.{◌≡◌, ◌≤◌, drop, length}
use Rattle.cm_typing.specs.Declarations.{params_told}
use Rattle.cm_typing.proofs.scope.Scope.check_params.Given as goal

abbrev pub invariant-loop-part : goal.invariant-loop-part
invariant-loop-part l =
    (params_told l.done (drop l.part-index l.parts) l.self l.locals
    ≡ params_told l.fn.done l.fn.parts l.fn.self l.fn.locals) × (length l.locals ≤ 64)

use Rattle.std.proofs.Common.{◌≡◌, drop}
use Rattle.cm_typing.specs.Declarations.{fields_told}
use Rattle.cm_typing.proofs.scope.Scope.check_fields.Given as goal

abbrev pub invariant-loop-part : goal.invariant-loop-part
invariant-loop-part l = fields_told l.at l.done (drop l.part-index l.parts) l.self l.fields
    ≡ fields_told l.fn.at l.fn.done l.fn.parts l.fn.self l.fn.fields

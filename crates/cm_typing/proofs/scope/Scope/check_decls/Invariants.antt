use Rattle.std.proofs.Common.{◌≡◌, drop}
use Rattle.cm_typing.specs.Declarations.{decls_told}
use Rattle.cm_typing.proofs.scope.Scope.check_decls.Given as goal

abbrev pub invariant-loop-d : goal.invariant-loop-d
invariant-loop-d l = decls_told (drop l.d-index l.decls) l.self l.draft ≡ decls_told l.fn.decls l.fn.self l.fn.draft

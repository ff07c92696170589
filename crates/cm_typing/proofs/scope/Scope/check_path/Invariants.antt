use Rattle.std.proofs.Common.{◌≡◌, drop}
use Rattle.cm_typing.specs.Expressions.{path_told, no_path}
use Rattle.cm_typing.proofs.scope.Scope.check_path.Given as goal

abbrev pub invariant-loop-name : goal.invariant-loop-name
invariant-loop-name l =
    path_told l.at (record { path = l.path; kind = l.reached }) (drop l.name-index l.names) l.self
    ≡ path_told l.fn.at (no_path l.fn.kind) l.fn.names l.fn.self

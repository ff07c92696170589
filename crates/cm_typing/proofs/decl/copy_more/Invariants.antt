use Rattle.std.proofs.Common.{◌≡◌, ◌++◌, drop}
use Rattle.cm_typing.proofs.decl.copy_more.Given as goal

abbrev pub invariant-loop-name : goal.invariant-loop-name
invariant-loop-name l = l.names ++ drop l.name-index l.more ≡ l.fn.names ++ l.fn.more

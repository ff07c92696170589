-- The codes that were made.
use Rattle.std.proofs.Common.{◌≡◌, ◌++◌, drop}
use Rattle.cm_code.specs.Compiling.{bodies_code}
use Rattle.cm_code.proofs.compile.compile_all.Given as goal

abbrev pub invariant-loop-call : goal.invariant-loop-call
invariant-loop-call l = l.codes ++ bodies_code l.ints (drop l.call-index l.calls) ≡ bodies_code l.ints l.fn.calls

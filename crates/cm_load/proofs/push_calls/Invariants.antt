use Rattle.std.proofs.Common.{◌≡◌, ◌++◌}
use Rattle.cm_load.specs.Text.{call_lines}
use Rattle.cm_load.proofs.push_calls.Given as goal

-- the lines of the calls that were gone over are there
abbrev pub invariant-calls : goal.invariant-calls
invariant-calls l = l.to.items ≡ l.fn.to.items ++ call_lines l.call

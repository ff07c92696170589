-- The fields that were written.
use Rattle.std.proofs.Common.{◌≡◌, ◌++◌, ◌≤◌, drop, length, map}
use Rattle.cm_code.specs.declared.instr.Instr.TheVariants as instr
use Rattle.cm_code.proofs.compile.write_path.Given as goal

abbrev pub invariant-fields : goal.invariant-fields
invariant-fields l = (l.tail ≡ map instr.Field (drop l.left l.path) ++ l.fn.tail) × (l.left ≤ length l.path)

abbrev pub decreases-fields : goal.decreases-fields
decreases-fields l = l.left

use Rattle.std.proofs.Common.{◌≡◌, drop}
use Rattle.cm_cond.specs.Form.{path_before}
use Rattle.cm_name.proofs.order.path_before.Given as goal

-- what is left to compare decides
abbrev pub invariant-steps : goal.invariant-steps
invariant-steps l = path_before (drop l.i l.x) (drop l.i l.y) ≡ path_before l.x l.y

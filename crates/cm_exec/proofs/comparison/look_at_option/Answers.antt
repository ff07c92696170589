use Rattle.std.proofs.Common.{Some}
use Rattle.cm_exec.proofs.Asking.{option_looked}
use Rattle.cm_exec.proofs.comparison.look_at_option.Goals as goal

pub returns-in-Some : goal.returns-in-Some
returns-in-Some c = λ ps fs.
    option_looked ps fs c.args.pair c.args.left (Some c.in-Some.right) c.requires c.in-Some.ensures

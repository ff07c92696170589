use Rattle.std.proofs.Common.{arith}
use Rattle.std.proofs.lemmas.Bool.Decides.{nat_tests}
use Rattle.cm_ctx.proofs.Masks.{first_ones, all_ones}
use Rattle.cm_ctx.proofs.mask.first.Goals as goal

pub returns-then-count-eq64 : goal.returns-then-count-eq64
returns-then-count-eq64 c = all_ones c.args.count (grind (arith, nat_tests, c.if-count-eq64.true))

pub returns-else-count-eq64 : goal.returns-else-count-eq64
returns-else-count-eq64 c = first_ones c.args.count (grind (arith, nat_tests, c.if-count-eq64.false, c.requires.few))

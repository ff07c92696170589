use Rattle.std.proofs.Common.{take}
use Rattle.cm_ctx.proofs.Adding.{MoreNumbers}
use Rattle.cm_ctx.proofs.grown.with_numbers.Given as goal

abbrev pub invariant-parts : goal.invariant-parts
invariant-parts l = MoreNumbers l.bounds l.grown (take l.part-index l.parts)

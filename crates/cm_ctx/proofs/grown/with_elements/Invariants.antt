use Rattle.std.proofs.Common.{take}
use Rattle.cm_ctx.proofs.Adding.{SameElements}
use Rattle.cm_ctx.proofs.grown.with_elements.Given as goal

abbrev pub invariant-parts : goal.invariant-parts
invariant-parts l = SameElements l.classes l.grown (take l.part-index l.parts)

use Rattle.std.proofs.Common.{refl}
use Rattle.cm_ctx.proofs.Masks.{three_bits}
use Rattle.cm_ctx.proofs.mask.mask_of.Goals as goal

pub returns : goal.returns
returns c = three_bits c.args.first c.args.second c.args.third _
    (rw (← c.bit.ensures, ← c.bit-2.ensures, ← c.bit-3.ensures) refl)

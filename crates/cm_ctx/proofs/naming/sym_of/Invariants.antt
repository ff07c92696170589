use Rattle.std.proofs.Common.{◌≡◌, drop, slice_get}
use Rattle.cm_ctx.specs.Naming.{syms_of}
use Rattle.cm_ctx.proofs.naming.sym_of.Given as goal

abbrev pub invariant-pieces : goal.invariant-pieces
invariant-pieces l = slice_get (syms_of l.kind
    (drop l.piece-index l.pieces)) l.left ≡ slice_get (syms_of l.kind l.pieces) l.number

use Rattle.std.proofs.Common.{◌≡◌, take}
use Rattle.cm_ctx.proofs.asked.share_all.Given as goal

abbrev pub invariant-pieces : goal.invariant-pieces
invariant-pieces l = l.shared.items ≡ take l.piece-index l.pieces

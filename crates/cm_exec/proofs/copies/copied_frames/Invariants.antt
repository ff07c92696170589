use Rattle.std.proofs.Common.{◌≡◌, take}
use Rattle.cm_exec.proofs.copies.copied_frames.Given as goal

abbrev pub invariant-loop-fields : goal.invariant-loop-fields
invariant-loop-fields l = l.copy.items ≡ take l.fields-index l.frames

use Rattle.cm_text.proofs.Places.{kept_none}
use Rattle.cm_text.proofs.cursor.Cursor.new.Goals as goal

pub invariant_of-result : goal.invariant_of-result
invariant_of-result c = kept_none c.args.bytes.now c.requires

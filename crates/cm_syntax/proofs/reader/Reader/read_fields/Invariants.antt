use Rattle.std.proofs.Common.{◌≤◌, length}
use Rattle.cm_syntax.specs.inner.Machine.{Fields, followed_by, Partly}
use Rattle.cm_syntax.proofs.reader.Reader.read_fields.Given as goal

abbrev pub invariant-items : goal.invariant-items
invariant-items l = record {
  shorter : length l.self.left ≤ length l.fn.self.left;
  reads : Partly Fields followed_by l.more l.fn.self l.self;
}

abbrev pub decreases-items : goal.decreases-items
decreases-items l = length l.self.left

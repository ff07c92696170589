use Rattle.std.proofs.Common.{◌≤◌, length}
use Rattle.cm_syntax.specs.inner.Machine.{MoreNames, followed_by, Partly}
use Rattle.cm_syntax.proofs.reader.Reader.read_more_names.Given as goal

abbrev pub invariant-names : goal.invariant-names
invariant-names l = record {
  shorter : length l.self.left ≤ length l.fn.self.left;
  reads : Partly MoreNames followed_by l.more l.fn.self l.self;
}

abbrev pub decreases-names : goal.decreases-names
decreases-names l = length l.self.left

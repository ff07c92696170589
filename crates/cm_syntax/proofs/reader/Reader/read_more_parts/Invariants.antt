use Rattle.std.proofs.Common.{◌≤◌, length}
use Rattle.cm_syntax.specs.inner.Machine.{MoreParts, followed_by, Partly}
use Rattle.cm_syntax.proofs.reader.Reader.read_more_parts.Given as goal

abbrev pub invariant-parts : goal.invariant-parts
invariant-parts l = record {
  shorter : length l.self.left ≤ length l.fn.self.left;
  reads : Partly MoreParts followed_by l.more l.fn.self l.self;
}

abbrev pub decreases-parts : goal.decreases-parts
decreases-parts l = length l.self.left

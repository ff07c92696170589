use Rattle.std.proofs.Common.{length}
use Rattle.cm_syntax.specs.inner.Machine.{Decls, followed_by, Partly}
use Rattle.cm_syntax.proofs.reader.Reader.read_decls.Given as goal

abbrev pub invariant-declarations : goal.invariant-declarations
invariant-declarations l = Partly Decls followed_by l.more l.fn.self l.self

abbrev pub decreases-declarations : goal.decreases-declarations
decreases-declarations l = length l.self.left

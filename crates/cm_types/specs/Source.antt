-- Where a tree comes from.
use Rattle.std.specs.Prelude.{ℕ, List, Ok}
use Rattle.cm_tokens.specs.Listing as Listing
use Rattle.cm_syntax.specs.Text.{IsRight}
use Rattle.cm_syntax.specs.declared.tree.Tree.{Tree}

-- THE TREE OF A TEXT: that of some bytes, in which no 65th bracket is open.
abbrev pub IsRead : Tree → Type 0
IsRead tree = (bytes : List ℕ) × IsRight (Listing.tokens_of bytes) (Ok tree)

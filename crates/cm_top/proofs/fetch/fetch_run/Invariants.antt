use Rattle.std.proofs.Common.{◌≡◌, ◌≤◌, ◌-◌, List, ℕ, length}
use Rattle.cm_io.specs.Shelf.{NoneFalls, SameFiles}
use Rattle.cm_top.specs.Fetch.{HoldsFront}
use Rattle.cm_top.specs.inner.Run.{HasRead, count_of}
use Rattle.cm_top.proofs.fetch.fetch_run.Given as goal

-- the run has read the file's front, and no count fell
abbrev pub invariant-pieces : goal.invariant-pieces
invariant-pieces g l = record {
  read : (text : List ℕ) × (length text ≡ l.from) × HoldsFront (g.S.Shelf.held l.initial.shelf l.name) text
      × HasRead l.run text;
  counted : count_of l.run ≤ l.from;
  short : l.from ≤ 1073741824;
  room : length l.buf.items ≡ 32768;
  same : SameFiles (g.S.Shelf.held l.initial.shelf) (g.S.Shelf.held l.shelf);
  later : NoneFalls (g.S.Shelf.faults l.initial.shelf) (g.S.Shelf.faults l.shelf);
}

-- each turn takes a byte
abbrev pub decreases-pieces : goal.decreases-pieces
decreases-pieces g l = 1073741825 - l.from

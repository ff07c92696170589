use Rattle.std.proofs.Common.{◌+◌, ◌≤◌, List, ℕ, length}
use Rattle.cm_mtrace.specs.inner.Reading.{Reads}
use Rattle.cm_mtrace.specs.declared.item.Item.{Item}
use Rattle.cm_mtrace.proofs.step.read_entries.Given as goal

-- what was read before goes on to here
abbrev pub invariant-entries : goal.invariant-entries
invariant-entries l = record {
  two : 2 ≤ l.lines;
  room : l.lines + length l.rest ≤ l.before + length l.text;
  shorter : length l.rest ≤ length l.text;
  goes : (first : ℕ) (all : List ℕ) (whole : List (List ℕ)) (old : List Item)
      → Reads first all whole l.text old l.fn.to.items l.before
      → (more : List (List ℕ)) × Reads first all more l.rest old l.to.items l.lines;
}

abbrev pub decreases-entries : goal.decreases-entries
decreases-entries l = length l.rest

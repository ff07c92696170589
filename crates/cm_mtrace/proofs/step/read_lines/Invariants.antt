use Rattle.std.proofs.Common.{◌+◌, ◌≤◌, List, ℕ, length}
use Rattle.cm_mtrace.specs.inner.Reading.{Reads}
use Rattle.cm_mtrace.proofs.step.read_lines.Given as goal

-- the lines so far were read
abbrev pub invariant-lines : goal.invariant-lines
invariant-lines l = record {
  room : l.lines + length l.rest ≤ l.before + length l.text;
  done : (whole : List (List ℕ)) × Reads l.before l.text whole l.rest l.initial.to.items l.to.items l.lines;
}

abbrev pub decreases-lines : goal.decreases-lines
decreases-lines l = length l.rest

use Rattle.std.proofs.Common.{◌+◌, ◌-◌, ◌≤◌, ◌++◌, vec_len, vec_capacity}
use Rattle.cm_judge.proofs.Notes.{IsNoted}
use Rattle.cm_judge.proofs.judge.note_lines.Given as goal

abbrev pub invariant-loop-k : goal.invariant-loop-k
invariant-loop-k l =
    record {
      noted : IsNoted (l.initial.table ++ l.initial.spill.items) (l.table ++ l.spill.items) l.lines.first l.k l.e;
      room : vec_len l.spill + (l.lines.count - l.k) ≤ vec_capacity l.spill;
    }

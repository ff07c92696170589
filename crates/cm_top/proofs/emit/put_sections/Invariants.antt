use Rattle.std.proofs.Common.{◌≤◌, map, take}
use Rattle.std.specs.Io.KnownBytes.{Appends}
use Rattle.cm_top.specs.Output.{joined}
use Rattle.cm_top.specs.inner.Pieces.{piece_of}
use Rattle.cm_top.proofs.emit.put_sections.Given as goal

-- the pieces so far were taken
abbrev pub invariant-loop-section : goal.invariant-loop-section
invariant-loop-section g l = record {
  taken : Appends (g.O.Sink.written l.initial.out) (g.O.Sink.written l.out)
      (joined (map piece_of (take l.section-index l.judged)));
  later : g.O.Sink.faults l.initial.out ≤ g.O.Sink.faults l.out;
}

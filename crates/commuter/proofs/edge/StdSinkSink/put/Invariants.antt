use Rattle.std.proofs.Common.{◌≡◌, ◌≤◌, ◌-◌, length, take}
use Rattle.std.specs.Io.KnownBytes.{Appends}
use Rattle.commuter.proofs.edge.StdSinkSink.put.Given as goal

-- what was written is the piece so far, and no fault was counted
abbrev pub invariant-writes : goal.invariant-writes
invariant-writes g l = record {
  written : Appends (g.W.Write.contents l.initial.self.inner) (g.W.Write.contents l.self.inner) (take l.done l.bytes);
  still : l.done ≡ 0 → g.W.Write.contents l.self.inner ≡ g.W.Write.contents l.initial.self.inner;
  faults : l.self.faults ≡ l.initial.self.faults;
  within : l.done ≤ length l.bytes;
}

abbrev pub decreases-writes : goal.decreases-writes
decreases-writes g l = length l.bytes - l.done

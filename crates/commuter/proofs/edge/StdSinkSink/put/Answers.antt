use Rattle.std.proofs.Common.{arith, rules}
use Rattle.std.proofs.Math.Seq.{take-add}
use Rattle.std.proofs.lemmas.List.{take_rest}
use Rattle.std.proofs.KnownBytes.{Appends-trans}
use Rattle.commuter.proofs.edge.StdSinkSink.put.Goals as goal

pub writes-preserved : goal.writes-preserved
writes-preserved g c = record {
  written = rw (take-add, ← take_rest c.args.bytes.now c.writes.done) (Appends-trans _ _ _ _ _
      c.writes.invariant.written c.in-Ok.ensures.bytes);
  still = λ none. absurd (omega arith);
  faults = c.writes.invariant.faults;
  within = search rules;
}

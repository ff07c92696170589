use Rattle.std.proofs.Common.{inl, inr}
use Rattle.cm_top.proofs.Runs.{ends_bad, refused_end, same_fault}
use Rattle.cm_top.proofs.run.Run.finish.Goals as goal

pub returns-in-Err-clause-bad : goal.returns-in-Err-clause-bad
returns-in-Err-clause-bad c text has =
    elim has [
      | inl goes ↦ ends_bad text c.in-Err.fault (c.in-Err.ensures.bad text goes.stands)
      | inr refused ↦
          let f = refused.fault in
          refused_end text f.0 c.in-Err.fault f.2
          (same_fault c.args.self.reader.fault _ c.in-Err.fault c.finish.result f.1 c.in-Err.is
          c.finish.ensures.again)
    ]

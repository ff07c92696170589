-- A machine at the start of a body.
use Rattle.cm_code.proofs.Going.{started}
use Rattle.cm_code.proofs.machine.start.Goals as goal

pub returns : goal.returns
returns g c = record {
  body = λ codes body e.
      started _ _ _ g.T.Operand.rules codes body c.args.funs c.args.args
      c.new.result c.new-2.result c.new.ensures c.new-2.ensures e;
}

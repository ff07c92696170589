-- The facts and the equalities behind them have literals.
use Rattle.cm_case.specs.Named.{IsSayable}
use Rattle.cm_analyze.proofs.Lists.{all_parts}
use Rattle.cm_analyze.proofs.case.Known.literals.Goals as goal

pub push_literals-requires : goal.push_literals-requires
push_literals-requires c = record {
  named = (all_parts (IsSayable c.args.self.now.ctx.now.pieces) c.args.self.now.facts.now c.args.equalities.now
      c.requires.named).0;
}

pub push_literals-requires-2 : goal.push_literals-requires-2
push_literals-requires-2 c = record {
  named = (all_parts (IsSayable c.args.self.now.ctx.now.pieces) c.args.self.now.facts.now c.args.equalities.now
      c.requires.named).1;
}

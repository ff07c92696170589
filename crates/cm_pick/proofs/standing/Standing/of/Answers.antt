use Rattle.cm_pick.proofs.Told.{holds_so, never_holds, fails_so, implied_so}
use Rattle.cm_pick.proofs.standing.Standing.of.Goals as goal

pub returns-then-not-has : goal.returns-then-not-has
returns-then-not-has c = record {
  standing = never_holds c.args.ctx.now c.args.equality _ _ c.as_fact-fact.ensures c.outcomes-outcomes.ensures.exact
      c.has.result c.has.result c.has.ensures.has c.if-not-has.true;
}

pub returns-then-has_other : goal.returns-then-has_other
returns-then-has_other c = record {
  standing = (
    holds_so c.args.ctx.now c.args.equality _ _ c.as_fact-fact.ensures c.outcomes-outcomes.ensures.exact
        c.has.result c.has_other.result c.has.ensures.has c.if-not-has.false,
    fails_so c.args.ctx.now c.args.equality _ _ c.as_fact-fact.ensures c.outcomes-outcomes.ensures.exact
        c.has.result c.has_other.result c.has.ensures.has c.has_other.ensures c.if-has_other.true,
  );
}

pub returns-else-has_other : goal.returns-else-has_other
returns-else-has_other c = record {
  standing = (
    holds_so c.args.ctx.now c.args.equality _ _ c.as_fact-fact.ensures c.outcomes-outcomes.ensures.exact
        c.has.result c.has_other.result c.has.ensures.has c.if-not-has.false,
    implied_so c.args.ctx.now c.args.equality _ _ c.as_fact-fact.ensures c.outcomes-outcomes.ensures.exact
        c.has.result c.has_other.result c.has.ensures.has c.has_other.ensures c.if-has_other.false,
  );
}

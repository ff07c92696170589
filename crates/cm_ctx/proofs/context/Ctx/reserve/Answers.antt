use Rattle.std.proofs.Common.{◌≡◌, length, ap, sym, subst, ◌∙◌}
use Rattle.cm_ctx.specs.Making.{counts, first_counts}
use Rattle.cm_ctx.proofs.context.Ctx.reserve.Goals as goal
use Rattle.cm_ctx.proofs.context.Ctx.reserve.Goals.{After-has_valuation}
use Rattle.cm_ctx.specs.Asking.{InRow}

as_many : (c : After-has_valuation)
    → counts (length c.self.inside.classes.sorts) (length c.self.inside.bounds) (length c.self.inside.tags.items)
    (length c.self.inside.options.items)
    ≡ counts (length c.reserve-reserved.new.self.sorts) (length c.self.inside.bounds)
    (length c.self.inside.tags.items) (length c.self.inside.options.items)
as_many c = ap (λ n. counts n (length c.self.inside.bounds) (length c.self.inside.tags.items)
    (length c.self.inside.options.items)) (sym (ap length c.reserve-reserved.ensures.sorts))

pub invariant_of-self : goal.invariant_of-self
invariant_of-self c = record {
  counts = c.self.invariant.counts ∙ as_many c;
  sorts = c.reserve-reserved.ensures.sorts ∙ c.self.invariant.sorts;
  elements = c.has_valuation.ensures.satisfiable;
  numbers = c.self.invariant.numbers;
  zero = c.self.invariant.zero;
  tags = c.self.invariant.tags;
  options = c.self.invariant.options;
  payloads = c.self.invariant.payloads;
  row = subst (InRow first_counts c.self.inside.asked) (as_many c) c.self.invariant.row;
  earlier = c.self.invariant.earlier;
}

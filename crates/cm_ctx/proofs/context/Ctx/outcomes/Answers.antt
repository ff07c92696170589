use Rattle.std.proofs.Common.{◌≡◌}
use Rattle.cm_term.specs.Questions.{elements_outcome, order_outcome, range_outcome}
use Rattle.cm_term.specs.Atoms.{tag_under, opt_under}
use Rattle.cm_ctx.proofs.Outcomes.{same_small}
use Rattle.cm_ctx.proofs.Lifting.{elements_lift, numbers_lift, tags_lift, options_lift}
use Rattle.cm_ctx.proofs.Through.{through}
use Rattle.cm_ctx.proofs.context.Ctx.outcomes.Goals as goal

pub returns-in-Elems : goal.returns-in-Elems
returns-in-Elems c = record {
  exact = rw (← c.self.view_is, c.in-Elems.is)
      (λ i. through (c.outcomes.ensures i) (elements_lift _ _ c.self.invariant
      (λ e. elements_outcome e c.in-Elems.x.0 c.in-Elems.y.0 ≡ i)));
}

pub returns-in-Nums : goal.returns-in-Nums
returns-in-Nums c = record {
  exact = rw (← c.self.view_is, c.in-Nums.is)
      (λ i. through (c.order_outcomes.ensures i) (numbers_lift _ _ c.self.invariant
      (λ n. order_outcome n c.in-Nums.left c.in-Nums.right ≡ i)));
}

pub returns-in-Range : goal.returns-in-Range
returns-in-Range c = record {
  exact = let r = rw (← c.self.view_is, c.in-Range.is) at c.requires in
      rw (← c.self.view_is, c.in-Range.is) (λ i. through (c.range_outcomes.ensures i) (rw
      (same_small _ r.1, same_small _ r.2)
      (numbers_lift _ _ c.self.invariant (λ n. range_outcome n c.in-Range.of c.in-Range.lo c.in-Range.hi ≡ i))));
}

pub returns-in-TagOf : goal.returns-in-TagOf
returns-in-TagOf c = record {
  exact = rw (← c.self.view_is, c.in-TagOf.is)
      (λ i. through (rw (← c.as_slice.ensures.value) (c.tag_outcomes.ensures i))
      (tags_lift _ _ c.self.invariant (λ t. tag_under t c.in-TagOf.tag ≡ i)));
}

pub returns-in-OptOf : goal.returns-in-OptOf
returns-in-OptOf c = record {
  exact = rw (← c.self.view_is, c.in-OptOf.is)
      (λ i. through (rw (← c.as_slice-in-OptOf.ensures.value) (c.opt_outcomes.ensures i))
      (options_lift _ _ c.self.invariant (λ t. opt_under t c.in-OptOf.opt ≡ i)));
}

pub tag_outcomes-requires-clause-proper : goal.tag_outcomes-requires-clause-proper
tag_outcomes-requires-clause-proper c = rw c.as_slice.ensures.value c.self.invariant.tags

pub opt_outcomes-requires-clause-proper : goal.opt_outcomes-requires-clause-proper
opt_outcomes-requires-clause-proper c = rw c.as_slice-in-OptOf.ensures.value c.self.invariant.options

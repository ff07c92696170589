use Rattle.std.proofs.Common.{◌≡◌}
use Rattle.cm_term.specs.Questions.{elements_outcome, order_outcome, range_outcome}
use Rattle.cm_term.specs.Atoms.{tag_under, opt_under}
use Rattle.cm_ctx.proofs.Outcomes.{same_small}
use Rattle.cm_ctx.proofs.Lifting.{elements_kept, numbers_kept, tags_kept, options_kept}
use Rattle.cm_ctx.proofs.context.Ctx.learn.Goals as goal

pub decide_tag-requires-clause-may : goal.decide_tag-requires-clause-may
decide_tag-requires-clause-may c = let m = rw (← c.self.view_is, c.in-TagOf.is) at c.requires.may in
    (m.0.tag, m.1.tags, m.2)

pub decide_opt-requires-clause-may : goal.decide_opt-requires-clause-may
decide_opt-requires-clause-may c = let m = rw (← c.self.view_is, c.in-OptOf.is) at c.requires.may in
    (m.0.present, m.1.options, m.2)

pub returns-in-Elems-clause-kept : goal.returns-in-Elems-clause-kept
returns-in-Elems-clause-kept c = rw (
  ← c.self.view_is,
  c.in-Elems.is,
) (elements_kept _ _ (λ e. elements_outcome e c.in-Elems.x.0 c.in-Elems.y.0
    ≡ c.args.outcome) c.add.ensures.kept)

pub returns-in-Nums-clause-kept : goal.returns-in-Nums-clause-kept
returns-in-Nums-clause-kept c = rw (
  ← c.self.view_is,
  c.in-Nums.is,
) (numbers_kept _ _ (λ n. order_outcome n c.in-Nums.left c.in-Nums.right
    ≡ c.args.outcome) c.add_order.ensures.kept)

pub returns-in-Range-clause-kept : goal.returns-in-Range-clause-kept
returns-in-Range-clause-kept c =
    let r = rw (← c.self.view_is, c.in-Range.is) at c.requires.well in
    rw (← c.self.view_is, c.in-Range.is)
    (numbers_kept _ _ (λ n. range_outcome n c.in-Range.of c.in-Range.lo c.in-Range.hi ≡ c.args.outcome)
    (rw (← same_small c.in-Range.lo r.1, ← same_small c.in-Range.hi r.2) c.add_range.ensures.kept))

pub returns-in-TagOf-clause-kept : goal.returns-in-TagOf-clause-kept
returns-in-TagOf-clause-kept c = rw (
  ← c.self.view_is,
  c.in-TagOf.is,
) (tags_kept _ _ (λ t. tag_under t c.in-TagOf.tag ≡ c.args.outcome) c.decide_tag.ensures.kept)

pub returns-in-OptOf-clause-kept : goal.returns-in-OptOf-clause-kept
returns-in-OptOf-clause-kept c = rw (
  ← c.self.view_is,
  c.in-OptOf.is,
) (options_kept _ _ (λ t. opt_under t c.in-OptOf.opt ≡ c.args.outcome) c.decide_opt.ensures.kept)

use Rattle.std.proofs.Common.{◌≡◌}
use Rattle.cm_term.specs.Atoms.{num_under}
use Rattle.cm_term.specs.Questions.{range_outcome}
use Rattle.cm_ctx.proofs.Outcomes.{below_asked, within_asked, above_asked, numbers_may, numbers_kept, passed_less}
use Rattle.cm_ctx.proofs.Outcomes.{passed_more, place_known, last_of_three, outcome_is}
use Rattle.cm_ctx.proofs.numbers.add_range.Goals as goal

pub add_lt-requires-clause-may : goal.add_lt-requires-clause-may
add_lt-requires-clause-may c =
    let e = c.if-outcome-eq0.true in
    numbers_may c.args.bounds.now _ (λ n. range_outcome n c.args.of c.args.lo c.args.hi ≡ c.args.outcome)
    (λ n z. outcome_is e (below_asked n z c.args.of c.args.lo c.args.hi c.requires.order _ _ c.variable-x.ensures
    (passed_less _ _ _ c.requires.lo c.gap-low.ensures.value c.gap-low.ensures.low c.gap-low.ensures.high)))
    c.requires.may

pub returns-then-outcome-eq0-clause-kept : goal.returns-then-outcome-eq0-clause-kept
returns-then-outcome-eq0-clause-kept c =
    let e = c.if-outcome-eq0.true in
    numbers_kept c.args.bounds.now c.add_lt.new.self _
    (λ n. range_outcome n c.args.of c.args.lo c.args.hi ≡ c.args.outcome)
    (λ n z. outcome_is e (below_asked n z c.args.of c.args.lo c.args.hi c.requires.order _ _ c.variable-x.ensures
    (passed_less _ _ _ c.requires.lo c.gap-low.ensures.value c.gap-low.ensures.low c.gap-low.ensures.high)))
    c.add_lt.ensures.kept

pub add_within-requires-clause-may : goal.add_within-requires-clause-may
add_within-requires-clause-may c =
    let e = c.if-outcome-eq1.true in
    numbers_may c.args.bounds.now _ (λ n. range_outcome n c.args.of c.args.lo c.args.hi ≡ c.args.outcome)
    (λ n z. outcome_is e
    (within_asked n z c.args.of c.args.lo c.args.hi c.requires.order _ _ _ c.variable-x.ensures
    (passed_less _ _ _ c.requires.hi c.gap-high.ensures.value c.gap-high.ensures.low c.gap-high.ensures.high)
    (passed_more _ _ _ c.requires.lo c.gap-rest.ensures.value c.gap-rest.ensures.low c.gap-rest.ensures.high)))
    c.requires.may

pub returns-then-outcome-eq1-clause-kept : goal.returns-then-outcome-eq1-clause-kept
returns-then-outcome-eq1-clause-kept c =
    let e = c.if-outcome-eq1.true in
    numbers_kept c.args.bounds.now c.add_within.new.bounds _
    (λ n. range_outcome n c.args.of c.args.lo c.args.hi ≡ c.args.outcome)
    (λ n z. outcome_is e
    (within_asked n z c.args.of c.args.lo c.args.hi c.requires.order _ _ _ c.variable-x.ensures
    (passed_less _ _ _ c.requires.hi c.gap-high.ensures.value c.gap-high.ensures.low c.gap-high.ensures.high)
    (passed_more _ _ _ c.requires.lo c.gap-rest.ensures.value c.gap-rest.ensures.low c.gap-rest.ensures.high)))
    c.add_within.ensures.kept

pub add_gt-requires-clause-may : goal.add_gt-requires-clause-may
add_gt-requires-clause-may c =
    let e = last_of_three c.args.outcome (place_known c.args.lo c.args.hi
    (num_under c.requires.may.0 c.args.of) c.args.outcome c.requires.order c.requires.may.2) c.if-outcome-eq0.false
    c.if-outcome-eq1.false in
    numbers_may c.args.bounds.now _ (λ n. range_outcome n c.args.of c.args.lo c.args.hi ≡ c.args.outcome)
    (λ n z. outcome_is e (above_asked n z c.args.of c.args.lo c.args.hi c.requires.order _ _ c.variable-x.ensures
    (passed_less _ _ _ c.requires.hi c.gap-high.ensures.value c.gap-high.ensures.low c.gap-high.ensures.high)))
    c.requires.may

pub returns-else-outcome-eq1-clause-kept : goal.returns-else-outcome-eq1-clause-kept
returns-else-outcome-eq1-clause-kept c =
    let e = last_of_three c.args.outcome (place_known c.args.lo c.args.hi
    (num_under c.requires.may.0 c.args.of) c.args.outcome c.requires.order c.requires.may.2) c.if-outcome-eq0.false
    c.if-outcome-eq1.false in
    numbers_kept c.args.bounds.now c.add_gt.new.self _
    (λ n. range_outcome n c.args.of c.args.lo c.args.hi ≡ c.args.outcome)
    (λ n z. outcome_is e (above_asked n z c.args.of c.args.lo c.args.hi c.requires.order _ _ c.variable-x.ensures
    (passed_less _ _ _ c.requires.hi c.gap-high.ensures.value c.gap-high.ensures.low c.gap-high.ensures.high)))
    c.add_gt.ensures.kept

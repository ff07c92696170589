use Rattle.std.proofs.Common.{◌≡◌}
use Rattle.cm_term.specs.Atoms.{num_under}
use Rattle.cm_term.specs.Questions.{order_outcome}
use Rattle.cm_ctx.proofs.Outcomes.{less_asked, equal_asked, greater_asked, numbers_may, numbers_kept, passed}
use Rattle.cm_ctx.proofs.Outcomes.{order_known, last_of_three, outcome_is}
use Rattle.cm_ctx.proofs.numbers.add_order.Goals as goal

pub add_lt-requires-clause-may : goal.add_lt-requires-clause-may
add_lt-requires-clause-may c =
    let e = c.if-outcome-eq0.true in
    numbers_may c.args.bounds.now _ (λ n. order_outcome n c.args.left c.args.right ≡ c.args.outcome)
    (λ n z. outcome_is e (less_asked n z c.args.left c.args.right _ _ _ c.variable-x.ensures c.variable-y.ensures
    (passed _ _ c.gap-c.ensures.value c.gap-c.ensures.low c.gap-c.ensures.high))) c.requires.may

pub returns-then-outcome-eq0-clause-kept : goal.returns-then-outcome-eq0-clause-kept
returns-then-outcome-eq0-clause-kept c =
    let e = c.if-outcome-eq0.true in
    numbers_kept c.args.bounds.now c.add_lt.new.self _
    (λ n. order_outcome n c.args.left c.args.right ≡ c.args.outcome)
    (λ n z. outcome_is e (less_asked n z c.args.left c.args.right _ _ _ c.variable-x.ensures c.variable-y.ensures
    (passed _ _ c.gap-c.ensures.value c.gap-c.ensures.low c.gap-c.ensures.high))) c.add_lt.ensures.kept

pub add_eq-requires-clause-may : goal.add_eq-requires-clause-may
add_eq-requires-clause-may c =
    let e = c.if-outcome-eq1.true in
    numbers_may c.args.bounds.now _ (λ n. order_outcome n c.args.left c.args.right ≡ c.args.outcome)
    (λ n z. outcome_is e (equal_asked n z c.args.left c.args.right _ _ _ c.variable-x.ensures c.variable-y.ensures
    (passed _ _ c.gap-c.ensures.value c.gap-c.ensures.low c.gap-c.ensures.high))) c.requires.may

pub returns-then-outcome-eq1-clause-kept : goal.returns-then-outcome-eq1-clause-kept
returns-then-outcome-eq1-clause-kept c =
    let e = c.if-outcome-eq1.true in
    numbers_kept c.args.bounds.now c.add_eq.new.self _
    (λ n. order_outcome n c.args.left c.args.right ≡ c.args.outcome)
    (λ n z. outcome_is e (equal_asked n z c.args.left c.args.right _ _ _ c.variable-x.ensures c.variable-y.ensures
    (passed _ _ c.gap-c.ensures.value c.gap-c.ensures.low c.gap-c.ensures.high))) c.add_eq.ensures.kept

pub add_gt-requires-clause-may : goal.add_gt-requires-clause-may
add_gt-requires-clause-may c =
    let e = last_of_three c.args.outcome (order_known (num_under c.requires.may.0 c.args.left)
    (num_under c.requires.may.0 c.args.right) c.args.outcome c.requires.may.2) c.if-outcome-eq0.false
    c.if-outcome-eq1.false in
    numbers_may c.args.bounds.now _ (λ n. order_outcome n c.args.left c.args.right ≡ c.args.outcome)
    (λ n z. outcome_is e
    (greater_asked n z c.args.left c.args.right _ _ _ c.variable-x.ensures c.variable-y.ensures
    (passed _ _ c.gap-c.ensures.value c.gap-c.ensures.low c.gap-c.ensures.high))) c.requires.may

pub returns-else-outcome-eq1-clause-kept : goal.returns-else-outcome-eq1-clause-kept
returns-else-outcome-eq1-clause-kept c =
    let e = last_of_three c.args.outcome (order_known (num_under c.requires.may.0 c.args.left)
    (num_under c.requires.may.0 c.args.right) c.args.outcome c.requires.may.2) c.if-outcome-eq0.false
    c.if-outcome-eq1.false in
    numbers_kept c.args.bounds.now c.add_gt.new.self _
    (λ n. order_outcome n c.args.left c.args.right ≡ c.args.outcome)
    (λ n z. outcome_is e
    (greater_asked n z c.args.left c.args.right _ _ _ c.variable-x.ensures c.variable-y.ensures
    (passed _ _ c.gap-c.ensures.value c.gap-c.ensures.low c.gap-c.ensures.high))) c.add_gt.ensures.kept

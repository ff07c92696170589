use Rattle.std.proofs.Common.{arith, ◌∷◌, sym, ◌∙◌}
use Rattle.cm_text.proofs.Fronts.{same_numeral}
use Rattle.cm_mtrace.proofs.Entries.{same_tail}
use Rattle.cm_mtrace.proofs.line.size_at.Goals as goal

pub returns-in_default-short_decimal_at : goal.returns-in_default-short_decimal_at
returns-in_default-short_decimal_at c size rest small line =
    c.in_default-short_decimal_at.ensures size (10 ∷ rest) small (λ d. omega (arith, d.below))
    (same_tail _ _ _ _ (sym c.in-Some.ensures ∙ line))

pub returns-in_default-behind : goal.returns-in_default-behind
returns-in_default-behind c size rest small line =
    let n = c.in-Some-short_decimal_at in
    let digits = same_tail _ _ _ _ (sym c.in-Some.ensures ∙ line) in
    c.in_default-behind.ensures rest (same_numeral 10 n.size size n.rest.now (10 ∷ rest) (omega arith)
    (omega arith) (omega (arith, n.ensures.1)) (omega (arith, small)) n.ensures.2 (λ d. omega (arith, d.below))
    (sym n.ensures.0 ∙ digits)).1

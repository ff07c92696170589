use Rattle.std.proofs.Common.{arith, [], length, ap, sym, ◌∙◌}
use Rattle.std.proofs.lemmas.List.{append-nil}
use Rattle.std.proofs.lemmas.Bool.{eqb-false}
use Rattle.cm_text.specs.Numeral.{numeral}
use Rattle.cm_text.proofs.Fronts.{no_numeral}
use Rattle.cm_text.proofs.numeral.read_hex.Goals as goal

pub returns-in-None-clause-not_number : goal.returns-in-None-clause-not_number
returns-in-None-clause-not_number c n within e = c.in-None.ensures n [] within (λ no. no) (e
    ∙ sym (append-nil (numeral 16 n)))

pub returns-else-is_empty-clause-not_number : goal.returns-else-is_empty-clause-not_number
returns-else-is_empty-clause-not_number c n within e =
    let nothing = no_numeral 16 c.in-Some.n n c.in-Some.rest.now (omega arith) (omega arith)
    (omega (arith, c.in-Some.ensures.1)) (omega (arith, within)) c.in-Some.ensures.2 (sym c.in-Some.ensures.0
    ∙ e) in
    eqb-false (length c.in-Some.rest.now) 0 (sym c.if-is_empty.ensures) (ap length nothing)

use Rattle.std.proofs.Common.{arith, ◌≡◌, ◌∙◌, sym, suc}
use Rattle.std.proofs.lemmas.Fmt.{decimal_injective}
use Rattle.cm_text.proofs.signed.read_below_nought.Goals as goal

pub returns-then-n-eq0-clause-not_number : goal.returns-then-n-eq0-clause-not_number
returns-then-n-eq0-clause-not_number c n within e =
    let same : c.in-Ok.n ≡ suc n = decimal_injective c.in-Ok.n (suc n) (omega (arith, c.if-n-eq0.true))
    (omega arith) (sym c.in-Ok.ensures.number.0 ∙ e) in
    omega (arith, same, c.if-n-eq0.true)

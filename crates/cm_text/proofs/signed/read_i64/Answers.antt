use Rattle.std.proofs.Common.{arith, ◌≡◌, ◌≤ℤ◌, FitsSigned, rules, subst, sym}
use Rattle.std.specs.Int.{w64}
use Rattle.std.proofs.lemmas.Int.{ints}
use Rattle.cm_text.proofs.Signs.{fits_between, one_number}
use Rattle.cm_text.proofs.signed.read_i64.Goals as goal

pub returns-clause-not_number : goal.returns-clause-not_number
returns-clause-not_number c n low high e =
    let read_fits : FitsSigned w64 c.in-Ok.n = search rules in
    let fits = fits_between c.args.low n c.args.high c.ranges.low c.ranges.high low high in
    let same : c.in-Ok.n ≡ n = one_number c.args.text.now c.in-Ok.n n read_fits fits c.in-Ok.ensures.number e in
    let above : c.args.low ≤ℤ c.in-Ok.n = subst (λ k. c.args.low ≤ℤ k) (sym same) low in
    let below : c.in-Ok.n ≤ℤ c.args.high = subst (λ k. k ≤ℤ c.args.high) (sym same) high in
    c.if-is_within.ensures (omega (arith, ints), omega (arith, ints))

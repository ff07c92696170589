use Rattle.std.proofs.Common.{arith, ◌≡◌, ◌∙◌, sym}
use Rattle.std.proofs.lemmas.Fmt.{decimal_injective}
use Rattle.cm_words.proofs.number.number_in.Goals as goal

pub returns-then-n-least : goal.returns-then-n-least
returns-then-n-least c n is =
    let read = c.in-Ok.ensures.number in
    let same : c.in-Ok.n ≡ n = decimal_injective c.in-Ok.n n (omega (arith, read.1, c.ranges.most.fits))
    (omega (arith, is.2, c.ranges.most.fits))
    (sym read.0 ∙ c.as_bytes.ensures.value ∙ is.0) in
    omega (arith, same, is.1, c.if-n-least.true)

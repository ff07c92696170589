use Rattle.std.proofs.Common.{◌<◌, sym, ◌∙◌, subst}
use Rattle.cm_ctx.proofs.Decided.{decided_few, fits_decided, fits_free, found, choice_exact}
use Rattle.cm_ctx.proofs.choice.outcomes.Goals as goal

pub only-requires : goal.only-requires
only-requires c = rw c.from.ensures (decided_few _ c.in-Some.outcome
    (c.requires.proper c.args.x _ (found c.args.choices.now c.args.x _ c.requires.x)) c.in-Some.is)

pub first-requires-clause-some : goal.first-requires-clause-some
first-requires-clause-some c = rw c.from-in-None.ensures (c.requires.proper c.args.x _
    (found c.args.choices.now c.args.x _ c.requires.x)).some

pub first-requires-clause-few : goal.first-requires-clause-few
first-requires-clause-few c = rw c.from-in-None.ensures (c.requires.proper c.args.x _
    (found c.args.choices.now c.args.x _ c.requires.x)).few

pub returns-in-Some : goal.returns-in-Some
returns-in-Some c = λ i.
    let p = found c.args.choices.now c.args.x _ c.requires.x in
    let e = c.only.ensures i in
    let f = fits_decided _ c.in-Some.outcome (c.requires.proper c.args.x _ p) c.in-Some.is i in
    let g = choice_exact c.args.choices.now c.args.x _ c.requires.proper p i in
    ((λ h. g.0 (f.1 (e.0 h ∙ c.from.ensures))), (λ w. e.1 (f.0 (g.1 w) ∙ sym c.from.ensures)))

pub returns-in-None : goal.returns-in-None
returns-in-None c = λ i.
    let p = found c.args.choices.now c.args.x _ c.requires.x in
    let e = c.first.ensures i in
    let f = fits_free _ c.in-None.is i in
    let g = choice_exact c.args.choices.now c.args.x _ c.requires.proper p i in (
      (λ h. g.0 (f.1 (subst (λ n. i < n) c.from-in-None.ensures (e.0 h)))),
      (λ w. e.1 (subst (λ n. i < n) (sym c.from-in-None.ensures) (f.0 (g.1 w)))),
    )

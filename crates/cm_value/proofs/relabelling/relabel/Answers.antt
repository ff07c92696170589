-- The laws of the exchange, at the value that was made.
use Rattle.std.proofs.Common.{Some, sym, subst, ap, ◌∙◌}
use Rattle.cm_value.specs.Membership.{IsValueOf}
use Rattle.cm_value.specs.Relabelling.{relabelled}
use Rattle.cm_value.proofs.Relabelled.{relabel_alike, relabel_back, lacks_both}
use Rattle.cm_value.proofs.relabelling.relabel.Goals as goal

pub returns-clause-of_the_type : goal.returns-clause-of_the_type
returns-clause-of_the_type c =
    let model = c.args.model.now in
    let ty = c.args.ty.now in
    subst (IsValueOf model ty) (sym c.in_ok-value.ensures.exact) (relabel_alike model c.args.by.now c.args.v.now
    (Some ty) ty ∙ c.requires)

pub returns-clause-back : goal.returns-clause-back
returns-clause-back c =
    ap (relabelled c.args.model.now c.args.by.now c.args.ty.now) c.in_ok-value.ensures.exact
    ∙ relabel_back c.args.model.now c.args.by.now c.args.v.now (Some c.args.ty.now)

pub returns-clause-untouched : goal.returns-clause-untouched
returns-clause-untouched c = λ lacks. c.in_ok-value.ensures.exact ∙ lacks_both c.args.model.now c.args.by.now
    c.args.ty.now c.args.v.now lacks

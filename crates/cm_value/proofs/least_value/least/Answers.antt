-- The least value of a type of a well typed model is one of the type.
use Rattle.std.proofs.Common.{◌≡◌, sym, subst, ap, ◌∙◌}
use Rattle.cm_value.specs.Least.{least_of, least_in, least_records}
use Rattle.cm_value.specs.Membership.{IsValueOf}
use Rattle.cm_value.proofs.LeastMember.{least_is_value}
use Rattle.cm_value.proofs.least_value.least.Goals as goal

pub returns-clause-of_the_type : goal.returns-clause-of_the_type
returns-clause-of_the_type c =
    let model = c.args.model.now in
    let ty = c.args.ty.now in
    let same : c.in_ok-value.value ≡ least_of model ty =
    c.in_ok-value.ensures.exact
    ∙ ap (λ ints. least_in ints (least_records ints c.as_slice-2.result.now) ty) (c.as_slice.ensures
    ∙ c.ints.ensures.ints)
    ∙ ap (λ records. least_in model.ints (least_records model.ints records) ty) (c.as_slice-2.ensures
    ∙ c.records.ensures.records) in
    subst (IsValueOf model ty) (sym same) (least_is_value model c.well_typed.ensures.well_typed ty c.requires)

-- The types are those of the example.
use Rattle.std.proofs.Common.{sym, subst}
use Rattle.cm_model.specs.Types.{IsType}
use Rattle.cm_model.specs.Tables.{Tables}
use Rattle.cm_model.specs.declared.ty.Ty.TheVariants as ty
use Rattle.cm_value.proofs.ExampleLemmas.{sort_type, int_type, enum_type, record_type}
use Rattle.cm_value.proofs.tests.least_values.Goals as goal

pub is_least-requires : goal.is_least-requires
is_least-requires g c = subst (λ (t : Tables). IsType t (ty.Sort 1)) (sym c.requires) sort_type

pub is_least-requires-2 : goal.is_least-requires-2
is_least-requires-2 g c = subst (λ (t : Tables). IsType t (ty.Int 0)) (sym c.requires) int_type

pub is_least-requires-3 : goal.is_least-requires-3
is_least-requires-3 g c = subst (λ (t : Tables). IsType t (ty.Enum 1)) (sym c.requires) enum_type

pub is_least-requires-4 : goal.is_least-requires-4
is_least-requires-4 g c = subst (λ (t : Tables). IsType t (ty.Rec 1)) (sym c.requires) record_type

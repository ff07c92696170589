use Rattle.cm_value.proofs.ExampleLemmas.{point_is, too_large, too_few}
use Rattle.cm_value.proofs.tests.example_of_membership.Goals as goal

pub returns : goal.returns
returns c = record { point = point_is; out_of_range = too_large; too_few = too_few }

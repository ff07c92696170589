use Rattle.cm_value.proofs.ExampleLemmas.{least_node}
use Rattle.cm_value.proofs.tests.example_of_a_least_value.Goals as goal

pub returns : goal.returns
returns c = least_node

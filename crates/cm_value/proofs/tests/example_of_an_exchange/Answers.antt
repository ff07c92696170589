use Rattle.cm_value.proofs.ExampleLemmas.{element_exchanged, node_exchanged}
use Rattle.cm_value.proofs.tests.example_of_an_exchange.Goals as goal

pub returns : goal.returns
returns c = record { element = element_exchanged; node = node_exchanged }

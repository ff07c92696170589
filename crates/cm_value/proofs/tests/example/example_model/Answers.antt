-- The example is well typed.
use Rattle.std.proofs.Common.{◌∙◌}
use Rattle.cm_value.proofs.ExampleLemmas.{parts_well_typed, parts_are}
use Rattle.cm_value.proofs.tests.example.example_model.Goals as goal

pub new-model-requires : goal.new-model-requires
new-model-requires c = record {
  well_typed = parts_well_typed c.in_ok-sorts.sorts c.in_ok-ints.ints c.in_ok-enums.enums
      c.in_ok-records.records c.new.result c.new-2.result c.new-3.result c.in_ok-sorts.ensures.exact
      c.in_ok-ints.ensures.exact c.in_ok-enums.ensures.exact c.in_ok-records.ensures.exact c.new.ensures
      c.new-2.ensures c.new-3.ensures;
}

pub returns : goal.returns
returns c = record {
  exact = c.new-model.ensures.tables ∙ parts_are c.in_ok-sorts.sorts c.in_ok-ints.ints
      c.in_ok-enums.enums c.in_ok-records.records c.new.result c.new-2.result c.new-3.result c.in_ok-sorts.ensures.exact
      c.in_ok-ints.ensures.exact c.in_ok-enums.ensures.exact c.in_ok-records.ensures.exact c.new.ensures
      c.new-2.ensures c.new-3.ensures;
}

use Rattle.std.proofs.Common.{◌∙◌}
use Rattle.cm_samples.specs.Depth.{deepest_tables}
use Rattle.cm_samples.proofs.Made.{made, typed}
use Rattle.cm_samples.proofs.TypedDepth.{deepest_is_well_typed}
use Rattle.cm_samples.proofs.depth.deepest.Goals as goal

pub new-model-requires : goal.new-model-requires
unfolding deepest_tables
new-model-requires c = record {
  well_typed = typed c.new-sorts.ensures c.new-ints.ensures c.in_ok-enums.ensures.exact
      c.new-records.ensures c.new-states.ensures c.in_ok-funs.ensures.exact c.in_ok-calls.ensures.exact
      deepest_is_well_typed;
}

pub returns : goal.returns
unfolding deepest_tables
returns c = record {
  tables = c.new-model.ensures.tables ∙ made c.new-sorts.ensures c.new-ints.ensures
      c.in_ok-enums.ensures.exact c.new-records.ensures c.new-states.ensures c.in_ok-funs.ensures.exact
      c.in_ok-calls.ensures.exact;
}

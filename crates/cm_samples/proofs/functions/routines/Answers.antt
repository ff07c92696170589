use Rattle.std.proofs.Common.{◌∙◌}
use Rattle.cm_samples.specs.Functions.{routines_tables}
use Rattle.cm_samples.proofs.Made.{made, typed}
use Rattle.cm_samples.proofs.TypedFunctions.{routines_is_well_typed}
use Rattle.cm_samples.proofs.functions.routines.Goals as goal

pub new-model-requires : goal.new-model-requires
unfolding routines_tables
new-model-requires c = record {
  well_typed = typed c.new-sorts.ensures c.new-ints.ensures c.in_ok-enums.ensures.exact
      c.new-records.ensures c.in_ok-states.ensures.exact c.in_ok-funs.ensures.exact c.in_ok-calls.ensures.exact
      routines_is_well_typed;
}

pub returns : goal.returns
unfolding routines_tables
returns c = record {
  tables = c.new-model.ensures.tables ∙ made c.new-sorts.ensures c.new-ints.ensures
      c.in_ok-enums.ensures.exact c.new-records.ensures c.in_ok-states.ensures.exact c.in_ok-funs.ensures.exact
      c.in_ok-calls.ensures.exact;
}

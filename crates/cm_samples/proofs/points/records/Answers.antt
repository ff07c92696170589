use Rattle.std.proofs.Common.{◌∙◌}
use Rattle.cm_samples.specs.Points.{records_tables}
use Rattle.cm_samples.proofs.Made.{made, typed}
use Rattle.cm_samples.proofs.TypedPoints.{records_is_well_typed}
use Rattle.cm_samples.proofs.points.records.Goals as goal

pub new-model-requires : goal.new-model-requires
unfolding records_tables
new-model-requires c = record {
  well_typed = typed c.in_ok-sorts.ensures.exact c.new-ints.ensures
      c.in_ok-enums.ensures.exact c.in_ok-records.ensures.exact c.in_ok-states.ensures.exact c.new-funs.ensures
      c.in_ok-calls.ensures.exact records_is_well_typed;
}

pub returns : goal.returns
unfolding records_tables
returns c = record {
  tables = c.new-model.ensures.tables ∙ made c.in_ok-sorts.ensures.exact c.new-ints.ensures
      c.in_ok-enums.ensures.exact c.in_ok-records.ensures.exact c.in_ok-states.ensures.exact c.new-funs.ensures
      c.in_ok-calls.ensures.exact;
}

use Rattle.std.proofs.Common.{◌∙◌}
use Rattle.cm_samples.specs.Flags.{fire_tables}
use Rattle.cm_samples.proofs.Made.{made, typed}
use Rattle.cm_samples.proofs.TypedFlags.{fire_is_well_typed}
use Rattle.cm_samples.proofs.flags.fire.Goals as goal

pub new-model-requires : goal.new-model-requires
unfolding fire_tables
new-model-requires c = record {
  well_typed = typed c.new-sorts.ensures c.new-ints.ensures c.in_ok-enums.ensures.exact
      c.new-records.ensures c.in_ok-states.ensures.exact c.new-funs.ensures c.in_ok-calls.ensures.exact
      fire_is_well_typed;
}

pub returns : goal.returns
unfolding fire_tables
returns c = record {
  tables = c.new-model.ensures.tables ∙ made c.new-sorts.ensures c.new-ints.ensures
      c.in_ok-enums.ensures.exact c.new-records.ensures c.in_ok-states.ensures.exact c.new-funs.ensures
      c.in_ok-calls.ensures.exact;
}

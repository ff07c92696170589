use Rattle.std.proofs.Common.{◌∙◌}
use Rattle.cm_samples.specs.Registers.{map_tables}
use Rattle.cm_samples.proofs.Made.{made, typed}
use Rattle.cm_samples.proofs.TypedRegisters.{map_is_well_typed}
use Rattle.cm_samples.proofs.registers.map.Goals as goal

pub new-model-requires : goal.new-model-requires
unfolding map_tables
new-model-requires c = record {
  well_typed = typed c.in_ok-sorts.ensures.exact c.new-ints.ensures
      c.in_ok-enums.ensures.exact c.new-records.ensures c.in_ok-states.ensures.exact c.new-funs.ensures
      c.in_ok-calls.ensures.exact map_is_well_typed;
}

pub returns : goal.returns
unfolding map_tables
returns c = record {
  tables = c.new-model.ensures.tables ∙ made c.in_ok-sorts.ensures.exact c.new-ints.ensures
      c.in_ok-enums.ensures.exact c.new-records.ensures c.in_ok-states.ensures.exact c.new-funs.ensures
      c.in_ok-calls.ensures.exact;
}

use Rattle.std.proofs.Common.{◌∙◌}
use Rattle.cm_samples.specs.Flags.{unset_tables}
use Rattle.cm_samples.proofs.Made.{made, typed}
use Rattle.cm_samples.proofs.TypedFlags.{unset_is_well_typed}
use Rattle.cm_samples.proofs.flags.unset.Goals as goal

pub new-model-requires : goal.new-model-requires
unfolding unset_tables
new-model-requires c = record {
  well_typed = typed c.in_ok-sorts.ensures.exact c.new-ints.ensures
      c.in_ok-enums.ensures.exact c.new-records.ensures c.in_ok-states.ensures.exact c.new-funs.ensures
      c.in_ok-calls.ensures.exact unset_is_well_typed;
}

pub returns : goal.returns
unfolding unset_tables
returns c = record {
  tables = c.new-model.ensures.tables ∙ made c.in_ok-sorts.ensures.exact c.new-ints.ensures
      c.in_ok-enums.ensures.exact c.new-records.ensures c.in_ok-states.ensures.exact c.new-funs.ensures
      c.in_ok-calls.ensures.exact;
}

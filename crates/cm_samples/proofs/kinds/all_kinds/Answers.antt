use Rattle.std.proofs.Common.{◌∙◌}
use Rattle.cm_samples.specs.Kinds.{kinds_tables}
use Rattle.cm_samples.proofs.Made.{made, typed}
use Rattle.cm_samples.proofs.TypedKinds.{kinds_is_well_typed}
use Rattle.cm_samples.proofs.kinds.all_kinds.Goals as goal

pub new-model-requires : goal.new-model-requires
unfolding kinds_tables
new-model-requires c = record {
  well_typed = typed c.in_ok-sorts.ensures.exact c.in_ok-ints.ensures.exact c.in_ok-enums.ensures.exact
      c.in_ok-records.ensures.exact c.new-states.ensures c.new-funs.ensures c.new-calls.ensures kinds_is_well_typed;
}

pub returns : goal.returns
unfolding kinds_tables
returns c = record {
  tables = c.new-model.ensures.tables ∙ made c.in_ok-sorts.ensures.exact c.in_ok-ints.ensures.exact
      c.in_ok-enums.ensures.exact c.in_ok-records.ensures.exact c.new-states.ensures c.new-funs.ensures
      c.new-calls.ensures;
}

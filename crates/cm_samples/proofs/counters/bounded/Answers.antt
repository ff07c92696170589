use Rattle.std.proofs.Common.{◌∙◌}
use Rattle.cm_samples.specs.Counters.{bounded_tables}
use Rattle.cm_samples.proofs.Made.{made, typed}
use Rattle.cm_samples.proofs.TypedCounters.{bounded_is_well_typed}
use Rattle.cm_samples.proofs.counters.bounded.Goals as goal

pub new-model-requires : goal.new-model-requires
unfolding bounded_tables
new-model-requires c = record {
  well_typed = typed c.new-sorts.ensures c.in_ok-ints.ensures.exact
      c.in_ok-enums.ensures.exact c.new-records.ensures c.in_ok-states.ensures.exact c.new-funs.ensures
      c.in_ok-calls.ensures.exact bounded_is_well_typed;
}

pub returns : goal.returns
unfolding bounded_tables
returns c = record {
  tables = c.new-model.ensures.tables ∙ made c.new-sorts.ensures c.in_ok-ints.ensures.exact
      c.in_ok-enums.ensures.exact c.new-records.ensures c.in_ok-states.ensures.exact c.new-funs.ensures
      c.in_ok-calls.ensures.exact;
}

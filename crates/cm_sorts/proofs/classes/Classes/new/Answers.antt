use Rattle.cm_sorts.proofs.Sorting.{none_sorted}
use Rattle.cm_sorts.proofs.Valuations.{empty_proper, satisfiable}
use Rattle.cm_sorts.proofs.classes.Classes.new.Goals as goal

pub invariant_of-result : goal.invariant_of-result
invariant_of-result c = rw (c.new.ensures.items, c.new-2.ensures.items) (record {
  proper = empty_proper;
  sorted =
      none_sorted;
})

pub returns-clause-satisfiable : goal.returns-clause-satisfiable
returns-clause-satisfiable c = satisfiable c.new.result.items c.new-2.result.items (invariant_of-result c).proper

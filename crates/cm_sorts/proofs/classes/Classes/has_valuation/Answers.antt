use Rattle.cm_sorts.proofs.Sorting.{keeps_to_sorts}
use Rattle.cm_sorts.proofs.Valuations.{satisfiable}
use Rattle.cm_sorts.proofs.classes.Classes.has_valuation.Goals as goal

pub returns : goal.returns
returns c = record {
  one_sort = rw (← c.self.view_is) (keeps_to_sorts c.self.inside.variables.items c.self.inside.words.items
      c.self.invariant.sorted);
  satisfiable = rw (← c.self.view_is) (satisfiable c.self.inside.variables.items c.self.inside.words.items
      c.self.invariant.proper);
}

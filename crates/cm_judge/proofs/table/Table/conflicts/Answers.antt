use Rattle.std.proofs.Common.{subst, sym}
use Rattle.cm_judge.specs.inner.Table.{HasOneEach}
use Rattle.cm_judge.proofs.Found.{one_each}
use Rattle.cm_judge.proofs.table.Table.conflicts.Goals as goal

pub conflict_listed-requires-clause-one_each : goal.conflict_listed-requires-clause-one_each
conflict_listed-requires-clause-one_each c =
    subst HasOneEach (sym c.as_slice.ensures.value) (one_each c.self.inside.slots.items c.self.invariant.found)

pub conflict_listed-requires-clause-listed : goal.conflict_listed-requires-clause-listed
conflict_listed-requires-clause-listed c =
    rw (c.as_slice.ensures.value, c.as_slice-then-self.ensures.value) (c.self.invariant.listed c.if-self.true)

pub returns-then-self : goal.returns-then-self
returns-then-self c = rw (← c.self.view_is, ← c.as_slice.ensures.value) c.conflict_listed.ensures

pub conflict_lines-requires : goal.conflict_lines-requires
conflict_lines-requires c =
    subst HasOneEach (sym c.as_slice-2.ensures.value) (one_each c.self.inside.slots.items c.self.invariant.found)

pub returns : goal.returns
returns c = rw (← c.self.view_is, ← c.as_slice-2.ensures.value) c.conflict_lines.ensures

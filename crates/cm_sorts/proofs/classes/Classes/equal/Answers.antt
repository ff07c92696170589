use Rattle.std.proofs.Common.{◌∙◌}
use Rattle.std.proofs.lemmas.List.{with_items_is}
use Rattle.std.specs.Vec.{with_items}
use Rattle.cm_sorts.proofs.Joining.{equal_kept, equal_may, equal_proper, sorts_relabelled}
use Rattle.cm_sorts.proofs.Sorting.{equal_sorted}
use Rattle.cm_sorts.proofs.Valuations.{satisfiable}
use Rattle.cm_sorts.proofs.classes.Classes.equal.Goals as goal

pub join-requires-clause-may : goal.join-requires-clause-may
join-requires-clause-may c =
    let xs = rw (← c.self.view_is) at c.requires.x in
    let ys = rw (← c.self.view_is) at c.requires.y in
    let may = rw (← c.self.view_is) at c.requires.may in
    let first = rw c.as_slice.ensures.value at c.label_at-a.ensures.value in
    let second = rw c.as_slice-2.ensures.value at c.label_at-b.ensures.value in
    rw (c.deref_mut-then-a-b.ensures.value, c.max.ensures, c.min.ensures)
    (equal_may c.self.inside.variables.items c.self.inside.words.items c.args.x.0 c.args.y.0 c.label_at-a.result
    c.label_at-b.result c.self.invariant.proper xs ys first second may)

pub invariant_of-self : goal.invariant_of-self
invariant_of-self c =
    let xs = rw (← c.self.view_is) at c.requires.x in
    let ys = rw (← c.self.view_is) at c.requires.y in
    let may = rw (← c.self.view_is) at c.requires.may in
    let first = rw c.as_slice.ensures.value at c.label_at-a.ensures.value in
    let second = rw c.as_slice-2.ensures.value at c.label_at-b.ensures.value in
    let labels = rw (c.deref_mut.ensures.value, c.max.ensures, c.min.ensures) at c.join.ensures.labels in
    let marks = rw (
      c.deref_mut.ensures.value,
      c.deref_mut-then-a-b.ensures.value,
      c.max.ensures,
      c.min.ensures,
    ) at c.join.ensures.marks in
    let one = rw (← c.self.view_is) at c.requires.one_sort in
    let vs = c.self.inside.variables.items in
    let words = c.self.inside.words.items in
    let a = c.label_at-a.result in
    let b = c.label_at-b.result in
    rw (
      with_items_is c.self.inside.variables c.join.new.variables (c.join.auto.variables ∙ c.deref_mut.ensures.len),
      with_items_is c.self.inside.words c.join.new.words (c.join.auto.words ∙ c.deref_mut-then-a-b.ensures.len),
      labels,
    )
    (record {
      proper = equal_proper vs words c.join.new.words c.args.x.0 c.args.y.0 a b c.self.invariant.proper
          xs ys first second may c.if-a-b.true marks;
      sorted = equal_sorted vs words c.join.new.words c.args.x.0 c.args.y.0 a b c.self.invariant.proper
          c.self.invariant.sorted
          xs ys first second one marks;
    })

pub returns-then-a-b-clause-kept : goal.returns-then-a-b-clause-kept
returns-then-a-b-clause-kept c =
    let xs = rw (← c.self.view_is) at c.requires.x in
    let ys = rw (← c.self.view_is) at c.requires.y in
    let may = rw (← c.self.view_is) at c.requires.may in
    let first = rw c.as_slice.ensures.value at c.label_at-a.ensures.value in
    let second = rw c.as_slice-2.ensures.value at c.label_at-b.ensures.value in
    let labels = rw (c.deref_mut.ensures.value, c.max.ensures, c.min.ensures) at c.join.ensures.labels in
    let marks = rw (
      c.deref_mut.ensures.value,
      c.deref_mut-then-a-b.ensures.value,
      c.max.ensures,
      c.min.ensures,
    ) at c.join.ensures.marks in
    rw (
      ← c.self.view_is,
      with_items_is c.self.inside.variables c.join.new.variables (c.join.auto.variables ∙ c.deref_mut.ensures.len),
      with_items_is c.self.inside.words c.join.new.words (c.join.auto.words ∙ c.deref_mut-then-a-b.ensures.len),
      labels,
    )
    (equal_kept c.self.inside.variables.items c.self.inside.words.items c.join.new.words c.args.x.0 c.args.y.0
    c.label_at-a.result c.label_at-b.result c.self.invariant.proper xs ys first second may c.if-a-b.true marks)

pub returns-then-a-b-clause-sorts : goal.returns-then-a-b-clause-sorts
returns-then-a-b-clause-sorts c =
    let labels = rw c.deref_mut.ensures.value at c.join.ensures.labels in
    rw (
      ← c.self.view_is,
      with_items_is c.self.inside.variables c.join.new.variables (c.join.auto.variables
          ∙ c.deref_mut.ensures.len),
      labels,
    )
    (sorts_relabelled c.max.result c.min.result c.self.inside.variables.items)

pub returns-then-a-b-clause-satisfiable : goal.returns-then-a-b-clause-satisfiable
returns-then-a-b-clause-satisfiable c = satisfiable (with_items c.self.inside.variables c.join.new.variables).items
    (with_items c.self.inside.words c.join.new.words).items (invariant_of-self c).proper

use Rattle.std.proofs.Common.{◌∙◌}
use Rattle.std.proofs.lemmas.List.{with_items_is}
use Rattle.std.specs.Vec.{with_items}
use Rattle.cm_sorts.proofs.Joining.{differ_kept, differ_proper, differ_room, labels_differ}
use Rattle.cm_sorts.specs.inner.Words.{labels_of, sorts_of}
use Rattle.cm_sorts.proofs.Sorting.{labels_of_one_sort, marked_sorted}
use Rattle.cm_sorts.proofs.Valuations.{satisfiable}
use Rattle.cm_sorts.proofs.classes.Classes.differ.Goals as goal

pub mark-requires-clause-room : goal.mark-requires-clause-room
mark-requires-clause-room c =
    let xs = rw (← c.self.view_is) at c.requires.x in
    let ys = rw (← c.self.view_is) at c.requires.y in
    let may = rw (← c.self.view_is) at c.requires.may in
    let spare = rw (← c.self.view_is) at c.requires.spare in
    let first = rw c.as_slice.ensures.value at c.label_at-a.ensures.value in
    let second = rw c.as_slice-2.ensures.value at c.label_at-b.ensures.value in
    let vs = c.self.inside.variables.items in
    let differ = labels_differ vs c.self.inside.words.items c.args.x.0 c.args.y.0 c.label_at-a.result
    c.label_at-b.result xs ys first second may in
    rw c.deref_mut.ensures.value (differ_room vs c.self.inside.words.items c.args.x.0 c.args.y.0 c.label_at-a.result
    c.label_at-b.result c.self.invariant.proper xs ys first second differ spare)

pub invariant_of-self : goal.invariant_of-self
invariant_of-self c =
    let xs = rw (← c.self.view_is) at c.requires.x in
    let ys = rw (← c.self.view_is) at c.requires.y in
    let may = rw (← c.self.view_is) at c.requires.may in
    let first = rw c.as_slice.ensures.value at c.label_at-a.ensures.value in
    let second = rw c.as_slice-2.ensures.value at c.label_at-b.ensures.value in
    let vs = c.self.inside.variables.items in
    let differ = labels_differ vs c.self.inside.words.items c.args.x.0 c.args.y.0 c.label_at-a.result
    c.label_at-b.result xs ys first second may in
    let marks = rw c.deref_mut.ensures.value at c.mark.ensures in
    let one = rw (← c.self.view_is) at c.requires.one_sort in
    let words = c.self.inside.words.items in
    let sorted = c.self.invariant.sorted in
    let a = c.label_at-a.result in
    let b = c.label_at-b.result in
    rw (with_items_is c.self.inside.words c.mark.new.words (c.mark.auto.words ∙ c.deref_mut.ensures.len))
    (record {
      proper = differ_proper vs words c.mark.new.words c.args.x.0 c.args.y.0 a b c.self.invariant.proper
          xs ys first second differ marks;
      sorted = marked_sorted (sorts_of vs) (labels_of vs) words c.mark.new.words a b
          (labels_of_one_sort vs words c.args.x.0 c.args.y.0 a b sorted xs ys first second one) marks sorted;
    })

pub returns-clause-kept : goal.returns-clause-kept
returns-clause-kept c =
    let xs = rw (← c.self.view_is) at c.requires.x in
    let ys = rw (← c.self.view_is) at c.requires.y in
    let may = rw (← c.self.view_is) at c.requires.may in
    let first = rw c.as_slice.ensures.value at c.label_at-a.ensures.value in
    let second = rw c.as_slice-2.ensures.value at c.label_at-b.ensures.value in
    let vs = c.self.inside.variables.items in
    let differ = labels_differ vs c.self.inside.words.items c.args.x.0 c.args.y.0 c.label_at-a.result
    c.label_at-b.result xs ys first second may in
    let marks = rw c.deref_mut.ensures.value at c.mark.ensures in
    rw (
      ← c.self.view_is,
      with_items_is c.self.inside.words c.mark.new.words (c.mark.auto.words
          ∙ c.deref_mut.ensures.len),
    )
    (differ_kept vs c.self.inside.words.items c.mark.new.words c.args.x.0 c.args.y.0 c.label_at-a.result
    c.label_at-b.result c.self.invariant.proper xs ys first second differ marks)

pub returns-clause-satisfiable : goal.returns-clause-satisfiable
returns-clause-satisfiable c = satisfiable c.self.inside.variables.items (with_items c.self.inside.words
    c.mark.new.words).items (invariant_of-self c).proper

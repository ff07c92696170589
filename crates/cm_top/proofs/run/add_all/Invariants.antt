use Rattle.std.proofs.Common.{◌≡◌, ◌++◌, List}
use Rattle.std.specs.List.{All}
use Rattle.std.specs.Slice.Iter.{chunks_rest}
use Rattle.cm_mtrace.specs.Trace.{IsItem, Section, items_of}
use Rattle.cm_mtrace.specs.declared.Item.{Item}
use Rattle.cm_top.specs.inner.Sections.{Have}
use Rattle.cm_top.proofs.run.add_all.Given as goal

-- the sections have the items of the batches so far
abbrev pub invariant-loop-batch : goal.invariant-loop-batch
invariant-loop-batch l =
    goal.iterator-loop-batch.can_next l.batch-iterator
    × goal.iterator-loop-batch.is_finite l.batch-iterator
    × (done : List Item) × (done ++ chunks_rest l.batch-iterator ≡ l.items)
    × All IsItem (chunks_rest l.batch-iterator)
    × ((before : List Item) (all : List Section) → Have l.initial.sections before
    → items_of all ≡ before ++ l.items → Have l.sections (before ++ done))

use Rattle.std.proofs.Common.{◌≡◌, ◌++◌, List, take}
use Rattle.cm_mtrace.specs.Trace.{Section, items_of}
use Rattle.cm_mtrace.specs.declared.Item.{Item}
use Rattle.cm_top.specs.inner.Sections.{Have}
use Rattle.cm_top.proofs.run.add_batch.Given as goal

-- the sections have the items so far
abbrev pub invariant-loop-item : goal.invariant-loop-item
invariant-loop-item l =
    (before rest : List Item) (all : List Section) → Have l.initial.sections before
    → items_of all ≡ before ++ l.items ++ rest → Have l.sections (before ++ take l.item-index l.items)

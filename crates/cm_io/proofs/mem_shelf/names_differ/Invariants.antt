use Rattle.std.proofs.Common.{◌≢◌, take}
use Rattle.std.specs.List.{AllPairs}
use Rattle.cm_io.specs.declared.mem_shelf.MemFile.{MemFile}
use Rattle.cm_io.proofs.mem_shelf.names_differ.Given as goal

-- the names so far are different
abbrev pub invariant-loop-at : goal.invariant-loop-at
invariant-loop-at l = AllPairs (λ (a : MemFile) (b : MemFile). a.name ≢ b.name) (take l.at l.files)

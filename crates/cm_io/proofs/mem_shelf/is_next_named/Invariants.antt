use Rattle.std.proofs.Common.{◌≡◌, ◌+◌, drop}
use Rattle.cm_io.specs.MemShelf.{is_named}
use Rattle.cm_io.proofs.mem_shelf.is_next_named.Given as goal

-- no number so far is that of the next call
abbrev pub invariant-loop-call : goal.invariant-loop-call
invariant-loop-call l = is_named (drop l.call-index l.fails) (l.calls + 1) ≡ is_named l.fails (l.calls + 1)

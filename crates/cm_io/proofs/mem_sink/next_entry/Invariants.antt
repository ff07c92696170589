use Rattle.std.proofs.Common.{◌≡◌, ◌+◌, drop}
use Rattle.std.specs.Prelude.{◌==◌}
use Rattle.std.specs.List.{find}
use Rattle.cm_io.specs.declared.mem_sink.PutFail.{PutFail}
use Rattle.cm_io.proofs.mem_sink.next_entry.Given as goal

-- no entry so far is that of the next put
abbrev pub invariant-loop-fail : goal.invariant-loop-fail
invariant-loop-fail l =
    find (λ (fail : PutFail). fail.call == l.calls + 1) (drop l.fail-index l.fails)
    ≡ find (λ (fail : PutFail). fail.call == l.calls + 1) l.fails

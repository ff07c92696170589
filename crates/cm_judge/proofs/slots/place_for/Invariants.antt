use Rattle.std.proofs.Common.{◌≡◌, ◌≢◌, ◌%◌, ℕ, ◌<◌, ◌≤◌, get_or}
use Rattle.cm_judge.specs.declared.slots.Record.{Record}
use Rattle.cm_judge.proofs.slots.place_for.Given as goal

-- the slots so far have other lines
abbrev pub invariant-loop-k : goal.invariant-loop-k
invariant-loop-k l = (j : ℕ) (d : Record) → l.first ≤ j → j < l.k
    → ((get_or l.slots j d).line % 64 ≡ 0) × ((get_or l.slots j d).line ≢ l.line)

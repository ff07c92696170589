use Rattle.std.proofs.Common.{◌≡◌, drop}
use Rattle.cm_top.specs.Output.{judge_status}
use Rattle.cm_top.proofs.Judgements.{lines_of_all}
use Rattle.cm_top.proofs.judge.status_for.Given as goal

-- no section so far has a conflict line
abbrev pub invariant-loop-section : goal.invariant-loop-section
invariant-loop-section l =
    judge_status (lines_of_all (drop l.section-index l.judged)) ≡ judge_status (lines_of_all l.judged)

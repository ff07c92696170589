-- How a call ended, as its caller sees it.
use Rattle.cm_eval.specs.declared.log.Log.{Log}
use Rattle.cm_eval.specs.declared.outcome.Outcome.{Outcome}
use Rattle.cm_eval.specs.declared.outcome.Outcome.TheVariants as outcome
use Rattle.cm_eval.specs.State.{Store, Touched}
use Rattle.cm_eval.specs.Run.{End, Ended, Stopped}

abbrev pub touched_of : Log → Touched
touched_of l = record { cells = l.cells; written = l.written }

abbrev pub stopped : Log → End
stopped l = Stopped (touched_of l) l.steps

-- with the state and the log after it
abbrev pub end_of : Outcome → Store → Log → End
end_of (outcome.Reply v) s l = Ended v s (touched_of l) l.steps
end_of outcome.Blocked s l = stopped l

use Rattle.cm_top.specs.Endings.{Tells, told_text}
use Rattle.cm_top.specs.declared.outcome.Outcome.{Outcome}
use Rattle.cm_top.proofs.Causes as causes
use Rattle.cm_top.proofs.Endings as ending
use Rattle.cm_top.proofs.top.commuter.Goals as goal

pub returns-clause-answered : goal.returns-clause-answered
returns-clause-answered g c = let a = c.answer.ensures in causes.answered (causes.ran_of a.0 a.1 a.3)

pub returns-clause-usage : goal.returns-clause-usage
returns-clause-usage g c = let a = c.answer.ensures in causes.usage (causes.ran_of a.0 a.1 a.3)

pub returns-clause-no_command : goal.returns-clause-no_command
returns-clause-no_command g c = let a = c.answer.ensures in causes.no_command (causes.ran_of a.0 a.1 a.3)

pub returns-clause-over : goal.returns-clause-over
returns-clause-over g c = let a = c.answer.ensures in causes.no_over (causes.ran_of a.0 a.1 a.3)

pub returns-clause-read_fault : goal.returns-clause-read_fault
returns-clause-read_fault g c task t e = let a = c.answer.ensures in
    (causes.read_fault (causes.ran_of a.0 a.1 a.3) task t e).0

pub returns-clause-too_long : goal.returns-clause-too_long
returns-clause-too_long g c task t e = let a = c.answer.ensures in
    (causes.too_long (causes.ran_of a.0 a.1 a.3) task t e).0

pub returns-clause-long : goal.returns-clause-long
returns-clause-long g c task files t held over calm = let a = c.answer.ensures in
    causes.long (causes.ran_of a.0 a.1 a.3) task files t held calm over

pub returns-clause-refused : goal.returns-clause-refused
returns-clause-refused g c task t e = let a = c.answer.ensures in
    (causes.refused (causes.ran_of a.0 a.1 a.3) task t e).0

pub returns-clause-not_accepted : goal.returns-clause-not_accepted
returns-clause-not_accepted g c task files t held within none calm = let a = c.answer.ensures in
    causes.not_accepted (causes.ran_of a.0 a.1 a.3) task files t held calm within none

pub returns-clause-write_fault : goal.returns-clause-write_fault
returns-clause-write_fault g c = let a = c.answer.ensures in causes.put_fails (causes.ran_of a.0 a.1 a.3)

pub returns-clause-cut_short : goal.returns-clause-cut_short
returns-clause-cut_short g c task t e = let a = c.answer.ensures in
    (causes.write_fault (causes.ran_of a.0 a.1 a.3) task t e).1

pub returns-clause-memory : goal.returns-clause-memory
returns-clause-memory g c = let a = c.answer.ensures in causes.memory (causes.ran_of a.0 a.1 a.3)

pub returns-clause-quiet : goal.returns-clause-quiet
returns-clause-quiet g c = let a = c.answer.ensures in causes.quiet (causes.ran_of a.0 a.1 a.3)

pub returns-clause-complete : goal.returns-clause-complete
returns-clause-complete g c task files t held within accepted calm put = let a = c.answer.ensures in
    causes.complete (causes.ran_of a.0 a.1 a.3) task files t held calm within accepted put

pub returns-clause-told : goal.returns-clause-told
returns-clause-told g c task t = let a = c.answer.ensures in (a.0, a.1, a.2, ending.with_task _ _ a.0 a.3 task t)

pub returns-clause-told_usage : goal.returns-clause-told_usage
returns-clause-told_usage g c e =
    let told = λ (x : Outcome). Tells (g.E.Sink.written c.args.err.now) (g.E.Sink.written c.answer.new.err)
    (g.E.Sink.faults c.args.err.now) (g.E.Sink.faults c.answer.new.err) (told_text x) in
    let a = c.answer.ensures in
    causes.told_usage told a.0 a.1 a.2 e

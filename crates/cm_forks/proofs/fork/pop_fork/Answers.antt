-- The top of a stack, seen as forks.
use Rattle.cm_forks.proofs.Forks.{all_pop, forks_push}
use Rattle.cm_forks.proofs.fork.pop_fork.Goals as goal

pub returns-in-Some-clause-about : goal.returns-in-Some-clause-about
returns-in-Some-clause-about g c =
    (all_pop _ c.pop.new.self.items c.in-Some.top (rw c.in-Some.ensures.items at c.requires.all_wait)).1.0

pub returns-in-Some-clause-waits : goal.returns-in-Some-clause-waits
returns-in-Some-clause-waits g c =
    (all_pop _ c.pop.new.self.items c.in-Some.top (rw c.in-Some.ensures.items at c.requires.all_wait)).1.1

pub returns-in-Some-clause-from : goal.returns-in-Some-clause-from
returns-in-Some-clause-from g c =
    (all_pop _ c.pop.new.self.items c.in-Some.top (rw c.in-Some.ensures.items at c.requires.all_wait)).1.2

pub returns-in-Some-clause-top : goal.returns-in-Some-clause-top
returns-in-Some-clause-top g c =
    rw c.in-Some.ensures.items (forks_push g.N.Node.prefix c.pop.new.self.items c.in-Some.top)

pub returns-in-Some-clause-all_wait : goal.returns-in-Some-clause-all_wait
returns-in-Some-clause-all_wait g c =
    (all_pop _ c.pop.new.self.items c.in-Some.top (rw c.in-Some.ensures.items at c.requires.all_wait)).0

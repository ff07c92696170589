use Rattle.cm_term.proofs.Dependence.{term_depends, question_depends}
use Rattle.cm_term.proofs.term.depend_on_variables.Goals as goal

pub returns-clause-term : goal.returns-clause-term
returns-clause-term c = term_depends

pub returns-clause-question : goal.returns-clause-question
returns-clause-question c = question_depends

use Rattle.std.proofs.Common.{subst}
use Rattle.exec_cases.specs.Arguments.{IsArgument}
use Rattle.cm_exec.proofs.Going.{roomy_beside}
use Rattle.exec_cases.proofs.terms.argument.Goals as goal

pub fresh_of-requires-clause-new : goal.fresh_of-requires-clause-new
fresh_of-requires-clause-new c = λ p among is.
    absurd (let e = c.if-has.ensures.asked.1 (p, among, is) in cc)

pub returns : goal.returns
returns c = record {
  roomy = roomy_beside _ _ _ 0 c.requires.roomy (λ i le is. subst IsArgument is c.requires.argument)
      c.in_ok-t.ensures.pieces;
}

use Rattle.std.proofs.Common.{rules}
use Rattle.cm_term.proofs.Values.{payload_value}
use Rattle.cm_term.proofs.term.Term.payload.Goals as goal

-- src/term.rt:101:5
pub returns-clause-value : goal.returns-clause-value
returns-clause-value c = λ v. payload_value v c.args.self.now c.get.result.now (search rules)

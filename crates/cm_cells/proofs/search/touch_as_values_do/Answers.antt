use Rattle.std.proofs.Common.{◌≡◌, refl, ap}
use Rattle.cm_term.specs.Questions.{outcome_under}
use Rattle.cm_eval.specs.Run.{Trace, Logs}
use Rattle.cm_cells.specs.Alike.{logs_under}
use Rattle.cm_cells.proofs.Beside.{touch_beside}
use Rattle.cm_cells.proofs.OneType.{one_type}
use Rattle.cm_cells.proofs.search.touch_as_values_do.Goals as goal

pub returns-clause-alike : goal.returns-clause-alike
returns-clause-alike c = one_type

pub returns-clause-beside : goal.returns-clause-beside
returns-clause-beside c = λ v ps p is t found fresh.
    touch_beside v Trace (λ a b. a ≡ b) t (logs_under v t) (λ q k l e. ap (Logs t (outcome_under v q)) e) ps 0 p is
    found fresh found fresh (λ n. refl) refl

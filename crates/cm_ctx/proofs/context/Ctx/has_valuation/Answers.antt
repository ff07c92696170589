use Rattle.std.proofs.Common.{◌≡◌, subst}
use Rattle.cm_ctx.specs.Making.{first_counts}
use Rattle.cm_ctx.specs.Contexts.{Context, counts_of, sorts_of, IsSatisfiable}
use Rattle.cm_ctx.specs.Asking.{InRow}
use Rattle.cm_ctx.proofs.Lifting.{satisfiable}
use Rattle.cm_ctx.proofs.Rows.{one_owner}
use Rattle.cm_ctx.proofs.context.Ctx.has_valuation.Goals as goal

pub returns-clause-satisfiable : goal.returns-clause-satisfiable
returns-clause-satisfiable c = subst IsSatisfiable c.self.view_is (satisfiable _ _ c.self.invariant)

pub returns-clause-row : goal.returns-clause-row
returns-clause-row c = subst (λ (x : Context). InRow first_counts x.pieces
    (counts_of x)) c.self.view_is c.self.invariant.row

pub returns-clause-sorts : goal.returns-clause-sorts
returns-clause-sorts c = subst (λ (x : Context). x.classes.sorts ≡ sorts_of x.pieces) c.self.view_is
    c.self.invariant.sorts

pub returns-clause-apart : goal.returns-clause-apart
returns-clause-apart c =
    let row = subst (λ (x : Context). InRow first_counts x.pieces (counts_of x)) c.self.view_is c.self.invariant.row in
    one_owner first_counts (counts_of c.args.self.now) c.args.self.now.pieces row

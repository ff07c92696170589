-- A copy is equal, but for what is spare.
use Rattle.std.proofs.Common.{refl, ◌∙◌}
use Rattle.cm_walk.proofs.Going.{copied}
use Rattle.cm_walk.proofs.prefix.Prefix.try_copy.Goals as goal

pub returns-clause-open : goal.returns-clause-open
returns-clause-open c t p q is =
    copied t p c.args.self.now q _ _ _ _ _ _ _ (c.in_ok-decisions.ensures ∙ c.as_slice.ensures)
    (c.in_ok-facts.ensures ∙ c.as_slice-2.ensures) c.in_ok-known.ensures.equal c.in_ok-cells.ensures.equal
    c.in_ok-chain.ensures.equal refl is

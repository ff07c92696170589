use Rattle.std.proofs.Common.{arith, sym, subst, []}
use Rattle.cm_sorts.specs.Partition.{Partition}
use Rattle.cm_ctx.proofs.Adding.{SameElements, at_item, same_starts, same_more, take_all}
use Rattle.cm_ctx.proofs.grown.with_elements.Goals as goal

pub parts-init : goal.parts-init
parts-init c = subst (λ (k : Partition). SameElements c.args.classes.now k []) (sym c.in_ok-grown.ensures.equal)
    (same_starts c.args.classes.now c.in_ok-grown.grown.spare)

pub parts-preserved : goal.parts-preserved
parts-preserved c =
    same_more c.args.classes.now c.parts.grown c.fresh.new.self c.args.parts.now c.parts.part-index c.part-item.result
    (at_item c.args.parts.now c.parts.part-index c.part-item.result
    (omega arith) c.part-item.is) c.parts.invariant c.in_ok-fresh.ensures.sorts c.in_ok-fresh.ensures.kept

pub returns-clause-sorts : goal.returns-clause-sorts
returns-clause-sorts c = (subst (SameElements c.args.classes.now c.parts.grown)
    (take_all c.args.parts.now c.parts.part-index (let f = c.parts-test.false in
    omega arith)) c.parts.invariant).sorts_more

pub returns-clause-kept : goal.returns-clause-kept
returns-clause-kept c = (subst (SameElements c.args.classes.now c.parts.grown)
    (take_all c.args.parts.now c.parts.part-index (let f = c.parts-test.false in omega arith)) c.parts.invariant).kept

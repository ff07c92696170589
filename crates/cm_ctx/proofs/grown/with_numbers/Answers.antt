use Rattle.std.proofs.Common.{arith, subst}
use Rattle.cm_ctx.proofs.Adding.{MoreNumbers, at_item, numbers_more, take_all, same_low}
use Rattle.cm_ctx.proofs.Adding.{same_high}
use Rattle.cm_ctx.proofs.grown.with_numbers.Goals as goal

pub fresh-requires-clause-low : goal.fresh-requires-clause-low
fresh-requires-clause-low c = let r =
    c.requires c.parts.part-index c.part-item.result
    (at_item c.args.parts.now c.parts.part-index c.part-item.result (omega arith) c.part-item.is) in
    rw (same_low _ r) r.low

pub fresh-requires-clause-order : goal.fresh-requires-clause-order
fresh-requires-clause-order c = let r =
    c.requires c.parts.part-index c.part-item.result
    (at_item c.args.parts.now c.parts.part-index c.part-item.result (omega arith) c.part-item.is) in
    rw (same_low _ r, same_high _ r) r.order

pub fresh-requires-clause-high : goal.fresh-requires-clause-high
fresh-requires-clause-high c = let r =
    c.requires c.parts.part-index c.part-item.result
    (at_item c.args.parts.now c.parts.part-index c.part-item.result (omega arith) c.part-item.is) in
    rw (same_high _ r) r.high

pub parts-preserved : goal.parts-preserved
parts-preserved c =
    let at = at_item c.args.parts.now c.parts.part-index c.part-item.result (omega arith) c.part-item.is in
    let r = c.requires c.parts.part-index c.part-item.result at in
    numbers_more c.args.bounds.now c.parts.grown c.fresh.new.self c.args.parts.now c.parts.part-index
    c.part-item.result at c.parts.invariant c.in_ok-fresh.ensures.count
    (rw (same_low _ r, same_high _ r) at c.in_ok-fresh.ensures.kept)

pub returns-clause-kept : goal.returns-clause-kept
returns-clause-kept c = (subst (MoreNumbers c.args.bounds.now c.parts.grown)
    (take_all c.args.parts.now c.parts.part-index (let f = c.parts-test.false in omega arith)) c.parts.invariant).kept

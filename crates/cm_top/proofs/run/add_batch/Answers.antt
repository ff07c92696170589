use Rattle.std.proofs.Common.{◌++◌, ◌∷◌, [], take, drop, ap, sym, subst, ◌∙◌, ◌+◌}
use Rattle.std.proofs.lemmas.List.{take_all}
use Rattle.cm_top.specs.inner.Sections.{Have}
use Rattle.cm_top.proofs.Runs.{around, one_more}
use Rattle.cm_top.proofs.run.add_batch.Goals as goal

pub loop-item-preserved : goal.loop-item-preserved
loop-item-preserved c before rest all have is =
    let its = c.args.items.now in
    let i = c.loop-item.item-index in
    let item = c.item-item.result in
    let here = before ++ take i its in
    let spelled = is ∙ around before its rest i item c.loop-item-test.true
    ∙ ap (λ x. here ++ x ∷ (drop (i + 1) its ++ rest)) (sym c.item-item.is) in
    let on = c.in_ok-add.ensures here (drop (i + 1) its ++ rest) all
    (c.loop-item.invariant before rest all have is) spelled in
    subst (Have c.add.new.self)
    (ap (λ x. here ++ x ∷ []) c.item-item.is ∙ one_more before its i item c.loop-item-test.true) on

pub returns : goal.returns
returns c before rest all have is =
    subst (λ l. Have c.loop-item.sections (before ++ l))
    (take_all c.loop-item.item-index c.args.items.now c.loop-item-test.false)
    (c.loop-item.invariant before rest all (c.make_room.ensures before have) is)

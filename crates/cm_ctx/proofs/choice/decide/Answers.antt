use Rattle.std.proofs.Common.{◌≡◌, Some, slice_get}
use Rattle.cm_ctx.proofs.Decided.{decide_kept, decide_proper, choice_exact}
use Rattle.cm_ctx.proofs.choice.decide.Goals as goal

pub returns-clause-kept : goal.returns-clause-kept
returns-clause-kept c =
    let p : slice_get c.args.choices.now.items c.args.x ≡ Some c.at-choice.result =
    rw (← c.as_slice.ensures.value) c.at-choice.ensures in
    let g = choice_exact c.args.choices.now.items c.args.x _ c.requires.proper p c.args.outcome in
    rw c.from.ensures (decide_kept c.args.choices.now.items c.args.x c.args.outcome c.at-choice.result p
    (g.1 c.requires.may))

pub returns-clause-proper : goal.returns-clause-proper
returns-clause-proper c =
    let p : slice_get c.args.choices.now.items c.args.x ≡ Some c.at-choice.result =
    rw (← c.as_slice.ensures.value) c.at-choice.ensures in
    let g = choice_exact c.args.choices.now.items c.args.x _ c.requires.proper p c.args.outcome in
    rw c.from.ensures
    (decide_proper c.args.choices.now.items c.args.x c.args.outcome c.at-choice.result c.requires.proper p
    (g.1 c.requires.may))

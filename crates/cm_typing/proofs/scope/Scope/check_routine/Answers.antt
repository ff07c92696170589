use Rattle.std.proofs.Common.{◌≡◌, ◌∙◌, [], sym, ap}
use Rattle.cm_typing.proofs.Telling.{routine_thus, Taken}
use Rattle.cm_typing.proofs.scope.Scope.check_routine.Goals as goal

pub returns-clause-answers : goal.returns-clause-answers
returns-clause-answers c =
    routine_thus c.args.name.now c.args.params.now c.args.internal.now c.args.reply.now c.args.block.now
    c.args.self.now _ c.in_ok-reply.reply c.in_ok-body.body
    (rw (c.new-done.ensures, c.new-locals.ensures) at c.in_ok-outer.ensures) c.in_ok-reply.ensures
    c.in_ok-body.ensures.answers
    ∙ ap (λ r. (r, [])) (sym c.in_ok-make_routine.ensures)

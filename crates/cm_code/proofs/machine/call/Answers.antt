-- A call is entered, or there is no such function.
use Rattle.std.proofs.Common.{◌≡◌, ◌∙◌, ap, arith, [], ◌∷◌, ◌++◌, inl, inr}
use Rattle.cm_code.specs.Machine.{with_body}
use Rattle.cm_code.proofs.Going.{entered, not_entered, entered_steps, count_bodies}
use Rattle.cm_code.proofs.machine.call.Goals as goal
use Rattle.cm_code.proofs.machine.call.Goals.{then-fun-m-via-then-fun-m, then-fun-m-via-else-fun-m+then-fun-funs}

pub returns-then-fun-m-clause-means : goal.returns-then-fun-m-clause-means
returns-then-fun-m-clause-means g c = λ body.
    not_entered _ _ _ g.T.Operand.rules (with_body c.args.funs.now body) c.args.m.now
    c.args.f c.from-fun.result c.args.args c.from-fun.ensures
    (elim c.then-fun-m.branch [
      | then-fun-m-via-then-fun-m w ↦ inl w.if-fun-m.true
      | then-fun-m-via-else-fun-m+then-fun-funs w ↦
          inr (omega (arith, count_bodies c.args.funs.now body, w.if-fun-funs.true))
    ])

pub returns-clause-means : goal.returns-clause-means
returns-clause-means g c = λ body.
    let t : c.replace-caller.new.dest
    ≡ record { fun = c.from-fun.result; at = 0; operands = []; locals = c.args.args } =
    c.replace-caller.ensures.after
    ∙ ap (λ ops. record { fun = c.from-fun.result; at = 0; operands = ops; locals = c.args.args }) c.new.ensures in
    let cs : c.push.new.self ≡ c.args.m.now.callers ++ c.args.m.now.top ∷ [] =
    c.in_ok-push.ensures.ok ∙ ap (λ f. c.args.m.now.callers ++ f ∷ []) c.replace-caller.ensures.value in
    entered _ _ _ g.T.Operand.rules (with_body c.args.funs.now body) c.args.m.now
    c.args.f c.from-fun.result c.args.args _ _ c.from-fun.ensures
    c.if-fun-m.false (omega (arith, count_bodies c.args.funs.now body, c.if-fun-funs.false)) t cs

pub returns-clause-left : goal.returns-clause-left
returns-clause-left g c = λ body.
    let t : c.replace-caller.new.dest
    ≡ record { fun = c.from-fun.result; at = 0; operands = []; locals = c.args.args } =
    c.replace-caller.ensures.after
    ∙ ap (λ ops. record { fun = c.from-fun.result; at = 0; operands = ops; locals = c.args.args }) c.new.ensures in
    let cs : c.push.new.self ≡ c.args.m.now.callers ++ c.args.m.now.top ∷ [] =
    c.in_ok-push.ensures.ok ∙ ap (λ f. c.args.m.now.callers ++ f ∷ []) c.replace-caller.ensures.value in
    entered_steps (with_body c.args.funs.now body) c.args.m.now c.from-fun.result c.args.args _ _
    c.if-fun-m.false (omega (arith, count_bodies c.args.funs.now body, c.if-fun-funs.false)) t cs

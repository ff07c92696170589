-- The values that are taken are the topmost.
use Rattle.std.proofs.Common.{◌∙◌, sym, ap, subst, reverse}
use Rattle.cm_code.specs.Code.{many}
use Rattle.cm_code.specs.Machine.{TakesValue}
use Rattle.cm_code.proofs.Taking.{one_taken, none_taken, all_taken}
use Rattle.cm_code.proofs.stack.pop_many.Goals as goal

pub takes-init : goal.takes-init
takes-init g c = λ k.
    ap (λ b. many _ _ _ g.T.Operand.rules c.args.n (reverse c.args.ops.now) (reverse b) k) c.new-back.ensures

pub takes-preserved : goal.takes-preserved
takes-preserved g c = λ k.
    one_taken _ _ _ g.T.Operand.rules c.takes.left c.in-Some.v
    c.takes.ops c.pop_value.new.ops c.takes.back c.push.new.self k
    c.takes-test.true
    (subst (λ o. TakesValue _ _ _ g.T.Operand.rules c.takes.ops o c.pop_value.new.ops) c.in-Some.is c.pop_value.ensures)
    c.in_ok-push-in-Some.ensures.ok
    ∙ c.takes.invariant k

pub returns-in-None : goal.returns-in-None
returns-in-None g c = λ k.
    sym (c.takes.invariant k)
    ∙ none_taken _ _ _ g.T.Operand.rules c.takes.left
    c.takes.ops c.pop_value.new.ops (reverse c.takes.back) k c.takes-test.true
    (subst (λ o. TakesValue _ _ _ g.T.Operand.rules c.takes.ops o c.pop_value.new.ops) c.in-None.is c.pop_value.ensures)

pub returns : goal.returns
returns g c = λ k.
    sym (c.takes.invariant k)
    ∙ all_taken _ _ _ g.T.Operand.rules c.takes.left (reverse c.takes.ops) (reverse c.takes.back) k c.takes-test.false
    ∙ ap (λ l. k l (reverse c.takes.ops)) (sym c.in_ok-args.ensures)

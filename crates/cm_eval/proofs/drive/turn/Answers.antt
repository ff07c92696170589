-- Turns in which something is decided.
use Rattle.std.proofs.Common.{rules, List}
use Rattle.cm_value.specs.declared.value.Value.{Value}
use Rattle.cm_code.specs.declared.instr.Instr.{Instr}
use Rattle.cm_code.specs.declared.event.Event.TheVariants as event
use Rattle.cm_code.specs.Machine.{with_body, script, event_of}
use Rattle.cm_eval.specs.declared.operand.Operand.{Operand}
use Rattle.cm_eval.specs.Evaluation.{Doing}
use Rattle.cm_eval.specs.Values.{values}
use Rattle.cm_eval.specs.inner.Going.{Turns}
use Rattle.cm_eval.proofs.Running.{turned_in}
use Rattle.cm_eval.proofs.drive.turn.Goals as goal

pub returns-in_ok-r-in-Inspects-clause-means : goal.returns-in_ok-r-in-Inspects-clause-means
returns-in_ok-r-in-Inspects-clause-means c = λ t is.
    turned_in t c.args.state.now c.args.log.now c.args.code.now.funs c.as_slice.result.now c.args.body.now
    c.in_ok-o.field-0 _ c.args.m.now c.go.new.m _ _ _ c.as_slice.ensures
    c.in_ok-o.ensures.means c.in-Inspects.is (c.in_ok-r-in-Inspects.ensures.means
    (with_body c.args.code.now.funs c.args.body.now))

pub returns-in_ok-r-in-Orders-clause-means : goal.returns-in_ok-r-in-Orders-clause-means
returns-in_ok-r-in-Orders-clause-means c = λ t is.
    turned_in t c.args.state.now c.args.log.now c.args.code.now.funs c.as_slice.result.now c.args.body.now
    c.in_ok-o.field-0 _ c.args.m.now c.go.new.m _ _ _ c.as_slice.ensures
    c.in_ok-o.ensures.means c.in-Orders.is (c.in_ok-r-in-Orders.ensures.means
    (with_body c.args.code.now.funs c.args.body.now))

pub returns-in_ok-r-in-Into-clause-means : goal.returns-in_ok-r-in-Into-clause-means
returns-in_ok-r-in-Into-clause-means c = λ t is.
    let codes : List (List Instr) = with_body c.args.code.now.funs c.args.body.now in
    let turns : Turns (event_of Value Operand Doing values codes (event.Into c.in-Into.lo c.in-Into.hi c.in-Into.of)
    c.go.new.m) c.in_ok-r-in-Into.r
    (script Value Operand Doing values codes c.convert_on.new.m) c.args.log.now.steps c.convert_on.new.steps =
    search (rules) in
    turned_in t c.args.state.now c.args.log.now c.args.code.now.funs c.as_slice.result.now c.args.body.now
    c.in_ok-o.field-0 _ c.args.m.now c.go.new.m _ _ _ c.as_slice.ensures
    c.in_ok-o.ensures.means c.in-Into.is turns

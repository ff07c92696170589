use Rattle.std.proofs.Common.{refl, subst, Some}
use Rattle.cm_term.specs.declared.term.Term.{Term}
use Rattle.cm_code.specs.declared.event.Event.{Event}
use Rattle.cm_code.specs.declared.event.Event.TheVariants as event
use Rattle.cm_code.specs.Machine.{with_body}
use Rattle.cm_code.specs.Steps.{steps_left, Falls}
use Rattle.cm_exec.specs.declared.operand.Operand.{Operand}
use Rattle.cm_exec.proofs.Playing.{fell}
use Rattle.cm_exec.proofs.decider.Decider.advance.Goals as goal

pub returns-in-Inspects-clause-left : goal.returns-in-Inspects-clause-left
returns-in-Inspects-clause-left c =
    fell (with_body c.args.funs.now c.args.body.now)
    (steps_left (with_body c.args.funs.now c.args.body.now) c.args.self.now.machine)
    (steps_left (with_body c.args.funs.now c.args.body.now) c.go.new.m) c.go.new.m
    (event.Inspects c.in-Inspects.o c.in-Inspects.then) c.wait_for.result c.wait_for.new.self
    (subst (λ (e : Event Term Operand). Falls (with_body c.args.funs.now c.args.body.now)
    (steps_left (with_body c.args.funs.now c.args.body.now) c.args.self.now.machine) (Some e) c.go.new.m)
    c.in-Inspects.is c.in_ok-o.ensures.left)
    tt refl (c.wait_for.ensures.left (with_body c.args.funs.now c.args.body.now))

pub returns-in-Compares-clause-left : goal.returns-in-Compares-clause-left
returns-in-Compares-clause-left c =
    fell (with_body c.args.funs.now c.args.body.now)
    (steps_left (with_body c.args.funs.now c.args.body.now) c.args.self.now.machine)
    (steps_left (with_body c.args.funs.now c.args.body.now) c.go.new.m) c.go.new.m
    (event.Compares c.in-Compares.x c.in-Compares.y c.in-Compares.then) c.wait_for-in-Compares.result
    c.wait_for-in-Compares.new.self
    (subst (λ (e : Event Term Operand). Falls (with_body c.args.funs.now c.args.body.now)
    (steps_left (with_body c.args.funs.now c.args.body.now) c.args.self.now.machine) (Some e) c.go.new.m)
    c.in-Compares.is c.in_ok-o.ensures.left)
    tt refl (c.wait_for-in-Compares.ensures.left (with_body c.args.funs.now c.args.body.now))

pub returns-in-Orders-clause-left : goal.returns-in-Orders-clause-left
returns-in-Orders-clause-left c =
    fell (with_body c.args.funs.now c.args.body.now)
    (steps_left (with_body c.args.funs.now c.args.body.now) c.args.self.now.machine)
    (steps_left (with_body c.args.funs.now c.args.body.now) c.go.new.m) c.go.new.m
    (event.Orders c.in-Orders.x c.in-Orders.y c.in-Orders.ranked) c.wait_for-in-Orders.result
    c.wait_for-in-Orders.new.self
    (subst (λ (e : Event Term Operand). Falls (with_body c.args.funs.now c.args.body.now)
    (steps_left (with_body c.args.funs.now c.args.body.now) c.args.self.now.machine) (Some e) c.go.new.m)
    c.in-Orders.is c.in_ok-o.ensures.left)
    tt refl (c.wait_for-in-Orders.ensures.left (with_body c.args.funs.now c.args.body.now))

pub returns-in-Into-clause-left : goal.returns-in-Into-clause-left
returns-in-Into-clause-left c =
    fell (with_body c.args.funs.now c.args.body.now)
    (steps_left (with_body c.args.funs.now c.args.body.now) c.args.self.now.machine)
    (steps_left (with_body c.args.funs.now c.args.body.now) c.go.new.m) c.go.new.m
    (event.Into c.in-Into.lo c.in-Into.hi c.in-Into.of) c.wait_for-in-Into.result c.wait_for-in-Into.new.self
    (subst (λ (e : Event Term Operand). Falls (with_body c.args.funs.now c.args.body.now)
    (steps_left (with_body c.args.funs.now c.args.body.now) c.args.self.now.machine) (Some e) c.go.new.m)
    c.in-Into.is c.in_ok-o.ensures.left)
    tt refl (c.wait_for-in-Into.ensures.left (with_body c.args.funs.now c.args.body.now))

pub returns-in-Opens-clause-left : goal.returns-in-Opens-clause-left
returns-in-Opens-clause-left c =
    fell (with_body c.args.funs.now c.args.body.now)
    (steps_left (with_body c.args.funs.now c.args.body.now) c.args.self.now.machine)
    (steps_left (with_body c.args.funs.now c.args.body.now) c.go.new.m) c.go.new.m
    (event.Opens c.in-Opens.t c.in-Opens.over) c.wait_for-in-Opens.result c.wait_for-in-Opens.new.self
    (subst (λ (e : Event Term Operand). Falls (with_body c.args.funs.now c.args.body.now)
    (steps_left (with_body c.args.funs.now c.args.body.now) c.args.self.now.machine) (Some e) c.go.new.m)
    c.in-Opens.is c.in_ok-o.ensures.left)
    tt refl (c.wait_for-in-Opens.ensures.left (with_body c.args.funs.now c.args.body.now))

use Rattle.std.proofs.Common.{rules, ◌∙◌, slice_get, sym, ap}
use Rattle.cm_exec.specs.declared.run.Touch.{Touch}
use Rattle.cm_exec.specs.Running.{telling, IsThere}
use Rattle.cm_exec.proofs.Going.{touch_of_state}
use Rattle.cm_exec.proofs.run.Run.touch.Goals as goal

pub returns-then-is_declared-clause-touched : goal.returns-then-is_declared-clause-touched
returns-then-is_declared-clause-touched c = λ ps cells.
    let there : IsThere (slice_get c.args.model.now.states c.args.state) = search (rules) in
    let x : Touch =
    record { state = c.args.state; key = c.args.key; goal = c.args.goal; answers = c.new-answers.result } in
    touch_of_state c.args.model.now ps c.args.self.now cells x there c.new-answers.ensures
    ∙ sym (ap (λ r. telling c.args.model.now ps r cells) c.set.ensures)

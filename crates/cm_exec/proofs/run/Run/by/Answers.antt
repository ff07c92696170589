use Rattle.std.proofs.Common.{rules, ◌≡◌, ◌∙◌, List, length, slice_get, sym, ap, subst}
use Rattle.cm_code.specs.declared.instr.Instr.{Instr}
use Rattle.cm_code.specs.Machine.{or_empty}
use Rattle.cm_eval.specs.declared.code.Code.{Code}
use Rattle.cm_eval.specs.Compiled.{IsCodeOf}
use Rattle.cm_exec.specs.Run.{play, invariants_of, tale_of}
use Rattle.cm_exec.proofs.Beginning.{call_by_code}
use Rattle.cm_exec.proofs.run.Run.by.Goals as goal

pub returns-clause-begins : goal.returns-clause-begins
returns-clause-begins c = λ m is ps cells.
    let same : c.in_ok-code.code ≡ c.args.code.now = c.in_ok-code.ensures.value in
    let shared : c.in_ok-args.args ≡ c.args.args.now = search (rules) in
    let count : length c.in_ok-code.code.funs ≡ c.len.result = search (rules) in
    let body : List Instr = or_empty (slice_get c.in_ok-code.code.calls c.args.call) in
    ap (λ s. play (invariants_of m ps) c.args.order s cells)
    (c.new-decider.ensures.body c.in_ok-code.code.funs body ps count
    ∙ call_by_code m c.in_ok-code.code (subst (λ (k : Code). IsCodeOf m k) (sym same) is) c.in_ok-args.args ps
    c.args.call)
    ∙ ap (λ l. tale_of m c.args.call l c.args.order ps cells) shared

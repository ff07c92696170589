use Rattle.std.proofs.Common.{rules, ◌≡◌, ◌∷◌, ◌++◌, suc, ◌∙◌, [], List, length, sym, ap, arith, true, slice_get, refl}
use Rattle.cm_term.specs.declared.term.Term.{Term}
use Rattle.cm_code.specs.declared.instr.Instr.{Instr}
use Rattle.cm_code.specs.Code.{code_meaning, codes_from}
use Rattle.cm_code.specs.Machine.{with_body}
use Rattle.cm_exec.specs.declared.operand.Operand.{Operand}
use Rattle.cm_exec.specs.Terms.{Doing, terms}
use Rattle.cm_exec.specs.Deciding.{doing}
use Rattle.cm_exec.specs.Run.{checking}
use Rattle.cm_exec.specs.Running.{telling, used, used_last, is_there, if_there}
use Rattle.cm_exec.proofs.Checking.{checked_by_code}
use Rattle.cm_exec.proofs.run.Run.check_cell.Goals as goal

pub returns-clause-checked : goal.returns-clause-checked
returns-clause-checked c = λ m ps is.
    let code : List Instr = if_there (slice_get c.args.self.now.code.invariants c.args.state) in
    let there : is_there (slice_get c.args.self.now.code.invariants c.args.state) ≡ true = search (rules) in
    let args : c.push.new.self ≡ c.args.t ∷ [] =
    c.in_ok-push.ensures.ok ∙ ap (λ l. l ++ c.args.t ∷ []) c.new-args.ensures in
    let last : suc c.args.cell ≡ length c.args.cells.now.places = omega (arith, c.requires.last) in
    checked_by_code m ps c.args.t c.args.cells.now
    (used m ps c.args.self.now c.args.goal c.args.cell c.args.cells.now) c.args.self.now.code is c.args.state there
    ∙ ap (λ p. checking p c.args.cells.now (used m ps c.args.self.now c.args.goal c.args.cell c.args.cells.now))
    (sym (c.new-decider.ensures.body [] code ps refl
    ∙ ap (λ l. code_meaning Term Operand Doing terms (codes_from Term Operand Doing terms [] []) code l
    terms.replies ps)
    args))
    ∙ ap (λ n. checking (doing (with_body [] code) c.new-decider.result ps) c.args.cells.now
    (used_last m ps c.args.self.now c.args.goal n c.args.cells.now)) last
    ∙ sym (ap (λ r. telling m ps r c.args.cells.now) c.set.ensures)

use Rattle.std.proofs.Common.{length, ap, sym, subst}
use Rattle.cm_eval.specs.Compiled.{IsCodeOf}
use Rattle.cm_exec.proofs.Going.{roomy_still}
use Rattle.cm_exec.proofs.Growing.{keeps_none}
use Rattle.cm_chain.specs.Chains.{HasCode}
use Rattle.cm_chain.proofs.Chains.{moved_by_run, falls_same}
use Rattle.cm_chain.proofs.chain.Chain.turn.Goals as goal

pub returns-in_ok-asked-in-Runs-clause-moved : goal.returns-in_ok-asked-in-Runs-clause-moved
returns-in_ok-asked-in-Runs-clause-moved g c =
    let t = c.args.model.now in
    let met = c.in_ok-met-in-Runs.ensures in
    let asked = c.in_ok-asked-in-Runs.ensures in
    let code = subst (HasCode t) c.in-Runs.is c.requires.coded.runs in
    moved_by_run t c.args.self.now c.in-Runs.run' c.ask.new.self c.args.cells.now c.ask.new.cells _ _ _ _
    c.meet.new.self c.meet.new.cells c.in-Runs.is c.requires.coded.runs met.same
    (asked.same t (record { code = c.requires.coded.code; runs = subst (IsCodeOf t) (sym met.code) code })
    ((λ ps is. met.comes ps code), met.awaits)) asked.places

pub returns-in_ok-asked-in-Runs-clause-new : goal.returns-in_ok-asked-in-Runs-clause-new
returns-in_ok-asked-in-Runs-clause-new g c =
    roomy_still _ (length c.ask.new.cells.places) (length c.meet.new.cells.places) c.in_ok-met-in-Runs.ensures.new
    (ap length c.in_ok-asked-in-Runs.ensures.places)

pub returns-in_ok-asked-in-Runs-clause-fewer : goal.returns-in_ok-asked-in-Runs-clause-fewer
returns-in_ok-asked-in-Runs-clause-fewer g c =
    let t = c.args.model.now in
    let met = c.in_ok-met-in-Runs.ensures in
    let code = subst (HasCode t) c.in-Runs.is c.requires.coded.runs in
    falls_same _ c.args.self.now c.meet.new.self c.in-Runs.run' c.ask.new.self c.in-Runs.is
    (c.in_ok-asked-in-Runs.ensures.fewer t ((λ ps is. met.comes ps code), met.awaits))

pub returns-in_ok-met-in-Compares-clause-satisfied : goal.returns-in_ok-met-in-Compares-clause-satisfied
returns-in_ok-met-in-Compares-clause-satisfied g c = keeps_none _ _

pub returns-in-Ended-clause-satisfied : goal.returns-in-Ended-clause-satisfied
returns-in-Ended-clause-satisfied g c = keeps_none _ _

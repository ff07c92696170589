use Rattle.std.proofs.Common.{arith, List, subst, sym, IfErr, IfOk}
use Rattle.std.proofs.lemmas.Result.{IfErr-weaker, IfOk-weaker}
use Rattle.cm_mtrace.specs.inner.Reading.{Refuses, SectionRefuses, SectionSteps, Steps}
use Rattle.cm_mtrace.specs.declared.item.Item.{Item}
use Rattle.cm_mtrace.proofs.Stepping.{section_refuses, section_steps}
use Rattle.cm_mtrace.proofs.step.next_step.Goals as goal

pub returns-in-0-clause-steps : goal.returns-in-0-clause-steps
returns-in-0-clause-steps c =
    let items = c.args.to.now.items in
    subst (λ n. IfOk c.first_step.result (Steps n c.args.text.now items items)) (sym c.in-0.is)
    (IfOk-weaker c.first_step.result (λ step. (its : List Item) → Steps 0 c.args.text.now its its step)
    (Steps 0 c.args.text.now items items) (λ step s. s items) c.first_step.ensures.steps)

pub returns-in-0-clause-refuses : goal.returns-in-0-clause-refuses
returns-in-0-clause-refuses c =
    let items = c.args.to.now.items in
    subst (λ n. IfErr c.first_step.result (Refuses n c.args.text.now items items)) (sym c.in-0.is)
    (IfErr-weaker c.first_step.result (λ f. (its : List Item) → Refuses 0 c.args.text.now its its f)
    (Refuses 0 c.args.text.now items items) (λ f r. r items) c.first_step.ensures.refuses)

pub returns-in-1-clause-steps : goal.returns-in-1-clause-steps
returns-in-1-clause-steps c =
    let text = c.args.text.now in
    let old = c.args.to.now.items in
    let new = c.section_step.new.to.items in
    IfOk-weaker c.section_step.result (SectionSteps text old new) (Steps c.args.before text old new)
    (λ step s. section_steps c.args.before text old new step (omega (arith, c.in-1.is)) s)
    c.section_step.ensures.steps

pub returns-in-1-clause-refuses : goal.returns-in-1-clause-refuses
returns-in-1-clause-refuses c =
    let text = c.args.text.now in
    let old = c.args.to.now.items in
    let new = c.section_step.new.to.items in
    IfErr-weaker c.section_step.result (SectionRefuses c.args.before text old new) (Refuses c.args.before text old new)
    (λ f s. section_refuses c.args.before text old new f (omega (arith, c.in-1.is))
    (λ two. absurd (omega (arith, two, c.in-1.is))) s) c.section_step.ensures.refuses

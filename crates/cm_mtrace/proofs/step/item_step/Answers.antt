use Rattle.std.proofs.Common.{arith, ◌∷◌, []}
use Rattle.std.proofs.lemmas.Result.{IfErr-weaker, IfOk-weaker}
use Rattle.cm_mtrace.specs.inner.Reading.{Refuses, SectionRefuses, SectionSteps, Steps}
use Rattle.cm_mtrace.specs.Trace.{line_of}
use Rattle.cm_mtrace.specs.declared.item.Item.TheVariants as items
use Rattle.cm_mtrace.proofs.Items.{item_line}
use Rattle.cm_mtrace.proofs.Stepping.{item_gives, section_refuses, section_steps}
use Rattle.cm_mtrace.proofs.step.item_step.Goals as goal

pub returns-in_default-clause-steps : goal.returns-in_default-clause-steps
returns-in_default-clause-steps c =
    let text = c.args.text.now in
    let old = c.args.to.now.items in
    let new = c.section_step.new.to.items in
    IfOk-weaker c.section_step.result (SectionSteps text old new) (Steps c.args.before text old new)
    (λ step s. section_steps c.args.before text old new step (omega (arith, c.requires.two)) s)
    c.section_step.ensures.steps

pub returns-in_default-clause-refuses : goal.returns-in_default-clause-refuses
returns-in_default-clause-refuses c =
    let text = c.args.text.now in
    let old = c.args.to.now.items in
    let new = c.section_step.new.to.items in
    IfErr-weaker c.section_step.result (SectionRefuses c.args.before text old new) (Refuses c.args.before text old new)
    (λ f s. section_refuses c.args.before text old new f (omega (arith, c.requires.two)) (λ _. c.in_default.ensures) s)
    c.section_step.ensures.refuses

pub returns-clause-steps : goal.returns-clause-steps
returns-clause-steps c =
    let e = c.in-Some.ensures in (
      line_of (items.Entry c.in-Some.entry),
      items.Entry c.in-Some.entry ∷ [],
      item_line (items.Entry c.in-Some.entry) e.0,
      e.1,
      item_gives c.args.before (items.Entry c.in-Some.entry) c.requires.two e.0,
      c.in_ok-push.ensures.items,
    )

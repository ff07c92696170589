use Rattle.std.proofs.Common.{arith, ◌<◌, ◌++◌, [], codes, length, refl, sym, subst, ◌∙◌, length-append}
use Rattle.std.proofs.lemmas.List.{append-nil}
use Rattle.cm_mtrace.specs.inner.Reading.{BadNext, IsLine, Steps}
use Rattle.cm_mtrace.proofs.LineTexts.{all_append}
use Rattle.cm_mtrace.proofs.Pieces.{long_bad, not_open, reads_one}
use Rattle.cm_mtrace.proofs.piece.ended_step.Goals as goal

pub returns-then-front-left-clause-refuses : goal.returns-then-front-left-clause-refuses
returns-then-front-left-clause-refuses c =
    let left = c.args.left.now in
    let front = c.args.front.now in
    let long : 80 < length (left ++ front) = omega (
      arith,
      c.if-front-left.true,
      c.requires.left.short,
      length-append left front,
    ) in
    let is = all_append _ left front c.requires.left.line c.requires.front in (
      refl,
      subst (BadNext c.args.before) (append-nil (left ++ front ++ codes "\n"))
          (long_bad c.args.before (left ++ front) [] is long),
      refl,
    )

pub returns-in-Some-clause-reads : goal.returns-in-Some-clause-reads
returns-in-Some-clause-reads c =
    let line = c.args.left.now ++ c.args.front.now in
    let old = c.args.to.now.items in
    let new = c.next_step.new.to.items in
    let s = subst (Steps c.args.before c.deref.result.now old new) c.in-Some.is c.in_ok-next_step.ensures.steps in
    let spelled = sym (c.deref.ensures.value ∙ c.in_ok-line.ensures) ∙ s.3 in
    reads_one c.args.before line s.0 c.in-Some.field-0.now old new s.1 (all_append _ c.args.left.now
    c.args.front.now c.requires.left.line c.requires.front) s.2 spelled s.4 s.5

pub returns-clause-refuses : goal.returns-clause-refuses
returns-clause-refuses c =
    let line = c.args.left.now ++ c.args.front.now in
    let s = subst (Steps c.args.before c.deref.result.now c.args.to.now.items c.next_step.new.to.items)
    c.in-None.is c.in_ok-next_step.ensures.steps in
    absurd (not_open line (subst IsLine (c.deref.ensures.value ∙ c.in_ok-line.ensures) s.0))

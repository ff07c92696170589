use Rattle.std.proofs.Common.{sym, subst, ◌∙◌}
use Rattle.cm_top.specs.inner.Sections.{AreJudged, HaveFrom}
use Rattle.cm_top.proofs.SectionSteps.{section_ends}
use Rattle.cm_top.proofs.sections.Sections.end.Goals as goal

pub returns : goal.returns
returns c = record {
  ended = λ items have.
      let old = c.args.self.now in
      let h = subst (λ o. HaveFrom o old items) (sym c.take.ensures.value ∙ c.in-Some.is) have in
      let e = section_ends old c.in-Some.name c.in_ok-lines.lines items h c.in_ok-lines.ensures.lines in
      (e.0, e.1, subst (AreJudged e.0) (sym c.in_ok-push.ensures.items) e.2, c.in_ok-lines.ensures.emptied);
}

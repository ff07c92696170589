-- What the enumeration says, of the pair.
use Rattle.std.proofs.Common.{◌≡◌, Ok, IfOk, IfErr, IfNone, ap, sym, ◌∙◌, subst}
use Rattle.cm_model.specs.declared.pair.Over.{Over}
use Rattle.cm_world.specs.Over.{IsOver, IsOverBy}
use Rattle.cm_world.specs.OpenPrefix.{IsOpenPrefix}
use Rattle.cm_forks.specs.Counts.{AtLeast}
use Rattle.cm_forks.specs.declared.fault.Fault.TheVariants as fault
use Rattle.cm_walk.specs.Walking.{Walking}
use Rattle.cm_walk.proofs.Walks.{err, none_left, not_over, open_prefixes, over_by}
use Rattle.cm_walk.proofs.walk.Walk.next.Goals as goal
use Rattle.cm_walk.proofs.walk.Walk.next.Goals.{in-Err, in-Ok-None, in-Ok-Some}

pub returns-clause-are_open : goal.returns-clause-are_open
returns-clause-are_open g c =
    let s = c.self.inside.paths.subject in
    subst (λ (w : Walking). AtLeast (IsOpenPrefix w.model w.pair_of) c.next.new.self.added) c.self.view_is
    (open_prefixes s.model.now s.pair _ c.next.ensures.are_open)

pub returns-clause-over : goal.returns-clause-over
returns-clause-over g c =
    let s = c.self.inside.paths.subject in
    let limits = c.self.inside.paths.limits in
    subst (λ (w : Walking). IfErr c.match-next.result (λ why.
    (x : Over) → why ≡ fault.Over x → IsOverBy w.model w.pair_of w.limit x)) c.self.view_is
    (elim c.match-next.branch [
      | in-Err w ↦
          subst (λ r. IfErr r (λ why. (x : Over) → why ≡ fault.Over x → IsOverBy s.model.now s.pair limits.paths x))
          (sym w.result-is)
          (over_by s.model.now s.pair limits c.self.invariant w.in-Err.why
          (err c.next.result w.in-Err.why _ w.in-Err.is c.next.ensures.right))
      | in-Ok-None w ↦
          subst (λ r. IfErr r (λ why. (x : Over) → why ≡ fault.Over x → IsOverBy s.model.now s.pair limits.paths x))
          (sym w.result-is) tt
      | in-Ok-Some w ↦
          subst (λ r. IfErr r (λ why. (x : Over) → why ≡ fault.Over x → IsOverBy s.model.now s.pair limits.paths x))
          (sym w.result-is) tt
    ])

pub returns-clause-not_over : goal.returns-clause-not_over
returns-clause-not_over g c =
    let s = c.self.inside.paths.subject in
    let limits = c.self.inside.paths.limits in
    subst (λ (w : Walking). IfOk c.match-next.result (λ next. IfNone next (IsOver w.model w.pair_of w.limit → ⊥)))
    c.self.view_is
    (elim c.match-next.branch [
      | in-Err w ↦
          subst (λ r. IfOk r (λ next. IfNone next (IsOver s.model.now s.pair limits.paths → ⊥))) (sym w.result-is) tt
      | in-Ok-None w ↦
          subst (λ r. IfOk r (λ next. IfNone next (IsOver s.model.now s.pair limits.paths → ⊥))) (sym w.result-is)
          (not_over s.model.now s.pair limits c.self.invariant
          (none_left c.next.result _ (w.in-Ok-None.is ∙ ap Ok w.in-Ok-None.field-0-is) c.next.ensures.not_many)
          (none_left c.next.result _ (w.in-Ok-None.is ∙ ap Ok w.in-Ok-None.field-0-is) c.next.ensures.not_long)
          (none_left c.next.result _ (w.in-Ok-None.is ∙ ap Ok w.in-Ok-None.field-0-is) c.next.ensures.shown))
      | in-Ok-Some w ↦
          subst (λ r. IfOk r (λ next. IfNone next (IsOver s.model.now s.pair limits.paths → ⊥))) (sym w.result-is) tt
    ])

-- A path more, or the end.
use Rattle.std.proofs.Common.{◌≡◌, ◌+◌, List, ℕ, Option, Some, None, IfSome, IfNone, sym, subst, length}
use Rattle.cm_world.specs.Over.{IsPath, IsOver}
use Rattle.cm_cond.specs.declared.report.Case.{Case}
use Rattle.cm_forks.specs.Paths.{IsNext, IsPast}
use Rattle.cm_walk.specs.Walking.{Walking}
use Rattle.cm_case.specs.Right.{CommutesOn, IsRightCase}
use Rattle.cm_case.specs.Report.{AreThePaths, AreTheCases}
use Rattle.cm_analyze.specs.inner.SoFar.{AreSoFar}
use Rattle.cm_analyze.proofs.Growing.{more_with, more_without, at_end, case_of_walk, none_of_walk}
use Rattle.cm_walk.specs.declared.leaf.Leaf.{Leaf}
use Rattle.cm_analyze.proofs.report.go_on.Goals as goal

some_is : {X : Type 0} (P : X → Type 0) (o : Option X) (x : X) → o ≡ Some x → IfSome o P → P x
some_is P o x is h = subst (λ q. IfSome q P) is h

none_is : {X : Type 0} (P : Type 0) (o : Option X) → o ≡ None → IfNone o P → P
none_is P o is h = subst (λ q. IfNone q P) is h

module _ (w v : Walking) (o : Option Leaf) (x : Leaf) (is : o ≡ Some x) where
  next_of : IfSome o (λ leaf. IsNext (IsPath w.model w.pair_of) w.last leaf.path)
      → IsNext (IsPath w.model w.pair_of) w.last x.path
  next_of h = some_is (λ (leaf : Leaf). IsNext (IsPath w.model w.pair_of) w.last leaf.path) o x is h

  last_given : IfSome o (λ leaf. v.last ≡ Some leaf.path) → v.last ≡ Some x.path
  last_given h = some_is (λ (leaf : Leaf). v.last ≡ Some leaf.path) o x is h

  many_given : IfSome o (λ leaf. v.given ≡ w.given + 1) → v.given ≡ w.given + 1
  many_given h = some_is (λ (leaf : Leaf). v.given ≡ w.given + 1) o x is h

pub returns-in_ok-push-in-Ok-Some-clause-path : goal.returns-in_ok-push-in-Ok-Some-clause-path
returns-in_ok-push-in-Ok-Some-clause-path g c is so =
    let e = c.in-Ok-Some.ensures in
    let w = c.args.walk.now in
    let v = c.next.new.self in
    let o = c.in-Ok-Some.field-0 in
    let x = c.in-Ok-Some.leaf in
    let there = c.in-Ok-Some.field-0-is in
    subst (AreSoFar v) (sym c.in_ok-push-in-Ok-Some.ensures.ok)
    (more_with w v c.args.cases.now c.in-Some.case x.path so e.model e.pair (next_of w v o x there e.next)
    (last_given w v o x there e.last) (many_given w v o x there e.given)
    (case_of_walk w c.args.subject.model.now c.args.subject.pair x.path c.in-Some.case c.requires.model c.requires.pair
    (some_is (λ (k : Case). IsRightCase c.args.subject.model.now c.args.subject.pair x.path k)
    c.in_ok-case-in-Ok-Some.field-0 c.in-Some.case c.in-Some.is c.in_ok-case-in-Ok-Some.ensures.right)))

pub returns-in_default-clause-path : goal.returns-in_default-clause-path
returns-in_default-clause-path g c is so =
    let e = c.in-Ok-Some.ensures in
    let w = c.args.walk.now in
    let v = c.next.new.self in
    let o = c.in-Ok-Some.field-0 in
    let x = c.in-Ok-Some.leaf in
    let there = c.in-Ok-Some.field-0-is in
    more_without w v c.args.cases.now x.path so e.model e.pair (next_of w v o x there e.next)
    (last_given w v o x there e.last) (many_given w v o x there e.given)
    (none_of_walk w c.args.subject.model.now c.args.subject.pair x.path c.requires.model c.requires.pair
    (none_is (CommutesOn c.args.subject.model.now c.args.subject.pair x.path → ⊥) c.in_ok-case-in-Ok-Some.field-0
    c.in_default.is c.in_ok-case-in-Ok-Some.ensures.none))

pub returns-in-Ok-None-clause-end : goal.returns-in-Ok-None-clause-end
returns-in-Ok-None-clause-end g c is so =
    let e = c.in-Ok-None.ensures in
    let w = c.args.walk.now in
    subst (λ p. (IsOver c.args.subject.model.now p w.limit → ⊥) × (x : List (List ℕ))
    × AreThePaths c.args.subject.model.now p x × (length x ≡ w.given)
    × AreTheCases c.args.subject.model.now p x c.args.cases.now) c.requires.pair
    (subst (λ t. (IsOver t w.pair_of w.limit → ⊥) × (x : List (List ℕ)) × AreThePaths t w.pair_of x
    × (length x ≡ w.given) × AreTheCases t w.pair_of x c.args.cases.now) c.requires.model
    (at_end w c.args.cases.now so
    (none_is (IsOver w.model w.pair_of w.limit → ⊥) c.in-Ok-None.field-0 c.in-Ok-None.field-0-is e.not_over)
    (none_is (IsPast (IsPath w.model w.pair_of) w.last) c.in-Ok-None.field-0 c.in-Ok-None.field-0-is e.end)))

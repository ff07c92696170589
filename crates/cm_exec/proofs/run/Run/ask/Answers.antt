use Rattle.std.proofs.Common.{◌∙◌, [], refl, sym, subst}
use Rattle.cm_eval.specs.Compiled.{IsCodeOf}
use Rattle.std.proofs.lemmas.List.{append-nil}
use Rattle.cm_exec.proofs.Growing.{extends_on, grown_none, grown_on, keeps_none, keeps_on}
use Rattle.cm_exec.proofs.run.Run.ask.Goals as goal

pub returns-in-Some-clause-grown : goal.returns-in-Some-clause-grown
returns-in-Some-clause-grown g c =
    grown_on _ _ _ _ _ _ _ _ _ _ c.turns.invariant.1 c.in_ok-a.ensures.grown

pub returns-in-Some-clause-satisfied : goal.returns-in-Some-clause-satisfied
returns-in-Some-clause-satisfied g c =
    keeps_on _ _ _ _ _ _ _ _ c.turns.invariant.1.pieces c.in_ok-a.ensures.grown.pieces c.turns.invariant.2
    c.in_ok-a.ensures.satisfied

pub turns-init : goal.turns-init
turns-init g c = (
  λ ps is more. refl,
  grown_none _ _ _ _,
  keeps_none _ _,
  ([], sym (append-nil _)),
  c.requires.new,
  refl,
)

pub turns-preserved : goal.turns-preserved
turns-preserved g c = (
  λ ps is more. c.turns.invariant.0 ps is (extends_on _ _ ps c.in_ok-a.ensures.pieces more)
      ∙ c.in_ok-a.ensures.turned ps
      (subst (IsCodeOf c.args.model.now) (sym c.turns.invariant.5) is) more,
  grown_on _ _ _ _ _ _ _ _ _ _ c.turns.invariant.1 c.in_ok-a.ensures.grown,
  keeps_on _ _ _ _ _ _ _ _ c.turns.invariant.1.pieces c.in_ok-a.ensures.grown.pieces c.turns.invariant.2
      c.in_ok-a.ensures.satisfied,
  extends_on _ _ _ c.turns.invariant.3 c.in_ok-a.ensures.pieces,
  c.in_ok-a.ensures.new,
  c.in_ok-a.ensures.code ∙ c.turns.invariant.5,
)

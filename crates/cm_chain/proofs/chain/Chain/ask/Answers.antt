use Rattle.std.proofs.Common.{◌∙◌, [], refl, sym}
use Rattle.std.proofs.lemmas.List.{append-nil}
use Rattle.cm_exec.proofs.Growing.{extends_on, grown_none, grown_on, keeps_none, keeps_on}
use Rattle.cm_chain.proofs.Chains.{alike_same, alike_on}
use Rattle.cm_chain.proofs.chain.Chain.ask.Goals as goal

pub returns-in-Some-clause-grown : goal.returns-in-Some-clause-grown
returns-in-Some-clause-grown g c =
    grown_on _ _ _ _ _ _ _ _ _ _ c.turns.invariant.1 c.in_ok-a.ensures.grown

pub returns-in-Some-clause-satisfied : goal.returns-in-Some-clause-satisfied
returns-in-Some-clause-satisfied g c =
    keeps_on _ _ _ _ _ _ _ _ c.turns.invariant.1.pieces c.in_ok-a.ensures.grown.pieces c.turns.invariant.2
    c.in_ok-a.ensures.satisfied

pub turns-init : goal.turns-init
turns-init g c = (
  λ ps more. alike_same _ _ _ _ _ refl,
  grown_none _ _ _ _,
  keeps_none _ _,
  ([], sym (append-nil _)),
  c.requires.new,
  c.requires.coded,
  refl,
)

pub turns-preserved : goal.turns-preserved
turns-preserved g c = (
  λ ps more. alike_on _ _ _ _ _ _ _ _ _ _ (c.turns.invariant.0 ps (extends_on _ _ ps c.in_ok-a.ensures.pieces more))
      (c.in_ok-a.ensures.moved ps more),
  grown_on _ _ _ _ _ _ _ _ _ _ c.turns.invariant.1 c.in_ok-a.ensures.grown,
  keeps_on _ _ _ _ _ _ _ _ c.turns.invariant.1.pieces c.in_ok-a.ensures.grown.pieces c.turns.invariant.2
      c.in_ok-a.ensures.satisfied,
  extends_on _ _ _ c.turns.invariant.3 c.in_ok-a.ensures.pieces,
  c.in_ok-a.ensures.new,
  c.in_ok-a.ensures.coded,
  c.in_ok-a.ensures.calls ∙ c.turns.invariant.6,
)

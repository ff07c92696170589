-- A call and an invariant on values, beside what they do on terms.
use Rattle.std.proofs.Common.{◌≡◌, ℕ, true, List, map, slice_get, Some, refl, sym, ap, ◌∙◌, subst}
use Rattle.cm_model.specs.Tables.{Tables}
use Rattle.cm_model.specs.WellTyped.{IsWellTyped}
use Rattle.cm_model.specs.declared.body.Call.{Call}
use Rattle.cm_model.specs.declared.body.Expr.{Expr}
use Rattle.cm_model.specs.declared.body.StateDecl.{StateDecl}
use Rattle.cm_value.specs.declared.value.Value.{Value}
use Rattle.cm_code.specs.Language as language
use Rattle.cm_term.specs.declared.term.Term.{Term}
use Rattle.cm_eval.specs.Script.{Replies, given}
use Rattle.cm_eval.specs.Evaluation.{Doing, call_of}
use Rattle.cm_eval.specs.Evaluation as evaluation
use Rattle.cm_eval.specs.Values.{values}
use Rattle.cm_eval.specs.declared.operand.Operand.{Operand}
use Rattle.cm_eval.proofs.Direct.{body_same, meanings_same, invariant_same}
use Rattle.cm_exec.specs.declared.operand.Operand as exec
use Rattle.cm_exec.specs.Terms.{Plan, terms}
use Rattle.cm_exec.specs.Run.{plan_of, plan_in}
use Rattle.cm_relation.specs.Relation.{AreAll}
use Rattle.cm_relation.proofs.Calls.{call_related, invariant_related}
use Rattle.cm_beside.specs.Grounds.{Grounds}
use Rattle.cm_beside.specs.Fits.{Fits}
use Rattle.cm_beside.specs.Related.{Related, IsGround}
use Rattle.cm_beside.proofs.Rules.{kept}

abbrev pub TermDoing : Type 0
TermDoing = List Term → Plan

-- whatever a reply is
abbrev pub Any : Value → Term → Type 0
Any v x = Unit {0}

module _ (t : Tables) (typed : IsWellTyped t) (g : Grounds) (ground : IsGround g) where
  abbrev on_terms : Call → List Term → TermDoing
  on_terms d xs =
      language.body_of Term exec.Operand TermDoing terms t.ints
      (language.meanings Term exec.Operand TermDoing terms t.ints t.funs) d.body xs terms.replies

  same_call : (i : ℕ) (d : Call) (args : List Value) → slice_get t.calls i ≡ Some d → call_of t i args
      ≡ language.body_of Value Operand Doing values t.ints (language.meanings Value Operand Doing values t.ints t.funs)
      d.body args values.replies
  unfolding language.meanings
  same_call i d args at =
      ap (λ o. given o (λ d. evaluation.body_of t.ints (evaluation.meanings t.ints t.funs) d.body args Replies)) at
      ∙ ap (λ (f : evaluation.Called). f args Replies) (body_same t.ints (evaluation.meanings t.ints t.funs) d.body)
      ∙ ap (λ fs. language.body_of Value Operand Doing values t.ints fs d.body args Replies) (meanings_same t.ints t.funs)

  -- a call on arguments, and on terms that have them
  pub call_fits : (i : ℕ) (d : Call) (args : List Value) (xs : List Term) → slice_get t.calls i ≡ Some d
      → AreAll (Fits t g) (map (λ p. p.ty) d.params) args xs
      → Related t g (Fits t g d.reply) (call_of t i args) (plan_of t i xs g.payloads)
  call_fits i d args xs at are =
      subst (λ c. Related t g (Fits t g d.reply) c (plan_of t i xs g.payloads)) (sym (same_call i d args at))
      (subst (λ o. Related t g (Fits t g d.reply) (language.body_of Value Operand Doing values t.ints
      (language.meanings Value Operand Doing values t.ints t.funs) d.body args values.replies)
      (plan_in t xs o g.payloads)) (sym at)
      (call_related (kept t typed g ground (Fits t g d.reply)) typed i d args xs
      values.replies terms.replies at are (λ v x fits. (v, refl, fits))))

  -- the invariant of a cell's value, and of a term that has it
  pub invariant_fits : (s : ℕ) (d : StateDecl) (e : Expr) (v : Value) (x : Term) → slice_get t.states s ≡ Some d
      → d.inv ≡ Some e → Fits t g d.value v x
      → Related t g Any (evaluation.invariant_of t.ints e v)
      (language.invariant_of Term exec.Operand TermDoing terms t.ints e x g.payloads)
  invariant_fits s d e v x at inv fits =
      subst (λ c. Related t g Any c (language.invariant_of Term exec.Operand TermDoing terms t.ints e x g.payloads))
      (sym (invariant_same t.ints e v))
      (invariant_related (kept t typed g ground Any) typed s d e v x at inv fits (values.flag true, refl, tt))

-- Calls on arguments with other names, and invariants of values with other names, do the same under these names.
use Rattle.std.proofs.Common.{◌≡◌, ℕ, true, List, [], map, Some, slice_get, refl, sym, ap, ◌∙◌, subst}
use Rattle.cm_model.specs.Tables.{Tables}
use Rattle.cm_model.specs.WellTyped.{IsWellTyped}
use Rattle.cm_model.specs.Kinds.{bool_ty}
use Rattle.cm_model.specs.declared.ty.Ty.{Ty}
use Rattle.cm_model.specs.declared.body.Call.{Call}
use Rattle.cm_model.specs.declared.body.StateDecl.{StateDecl}
use Rattle.cm_model.specs.declared.body.Expr.{Expr}
use Rattle.cm_value.specs.declared.value.Value.{Value}
use Rattle.cm_code.specs.Language as language
use Rattle.cm_eval.specs.declared.operand.Operand.{Operand}
use Rattle.cm_eval.specs.Script as script
use Rattle.cm_eval.specs.Script.{Replies}
use Rattle.cm_eval.specs.Evaluation.{Doing, Called, bool, body_of, meanings, call_of, invariant_of}
use Rattle.cm_eval.specs.Values.{values}
use Rattle.cm_eval.proofs.Direct.{body_same, meanings_same, invariant_same}
use Rattle.cm_relation.specs.Relation.{AreAll}
use Rattle.cm_relation.proofs.Calls.{call_related, invariant_related}
use Rattle.cm_twin.specs.Names.{Names, AreTwins}
use Rattle.cm_twin.proofs.Scripts.{Renamed, keeps_names, tag_twin}

-- a body as the rules over a record have it
body_is : (t : Tables) (d : Call) (args : List Value)
    → body_of t.ints (meanings t.ints t.funs) d.body args Replies
    ≡ language.body_of Value Operand Doing values t.ints
    (language.meanings Value Operand Doing values t.ints t.funs) d.body args Replies
unfolding language.meanings
body_is t d args =
    ap (λ fs. body_of t.ints fs d.body args Replies) (meanings_same t.ints t.funs)
    ∙ ap (λ (f : Called). f args Replies) (body_same t.ints
    (language.meanings_from Value Operand Doing values t.ints [] t.funs) d.body)

module _ (t : Tables) (typed : IsWellTyped t) (names : Names) where
  abbrev pub AreArguments : List Ty → List Value → List Value → Type 0
  AreArguments = AreAll (λ u x y. AreTwins t names (Some u) x y)

  pub call_renamed : (i : ℕ) (d : Call) (args args' : List Value) → slice_get t.calls i ≡ Some d
      → AreArguments (map (λ p. p.ty) d.params) args args'
      → Renamed t names d.reply (call_of t i args) (call_of t i args')
  call_renamed i d args args' at are =
      subst (λ o. Renamed t names d.reply
      (script.given o (λ c. body_of t.ints (meanings t.ints t.funs) c.body args Replies))
      (script.given o (λ c. body_of t.ints (meanings t.ints t.funs) c.body args' Replies))) (sym at)
      (subst (λ c. Renamed t names d.reply c (body_of t.ints (meanings t.ints t.funs) d.body args' Replies))
      (sym (body_is t d args))
      (subst (λ c. Renamed t names d.reply
      (language.body_of Value Operand Doing values t.ints
      (language.meanings Value Operand Doing values t.ints t.funs) d.body args Replies) c)
      (sym (body_is t d args'))
      (call_related (keeps_names t names d.reply) typed i d args args' Replies Replies at are
      (λ x y is. (y, refl, is)))))

  pub invariant_renamed : (s : ℕ) (d : StateDecl) (e : Expr) (x y : Value) → slice_get t.states s ≡ Some d
      → d.inv ≡ Some e → AreTwins t names (Some d.value) x y
      → Renamed t names bool_ty (invariant_of t.ints e x) (invariant_of t.ints e y)
  invariant_renamed s d e x y at inv is =
      subst (λ c. Renamed t names bool_ty c (invariant_of t.ints e y)) (sym (invariant_same t.ints e x))
      (subst (λ c. Renamed t names bool_ty (language.invariant_of Value Operand Doing values t.ints e x) c)
      (sym (invariant_same t.ints e y))
      (invariant_related (keeps_names t names bool_ty) typed s d e x y at inv is
      (bool true, refl, tag_twin t names bool_ty (Some bool_ty) 1)))

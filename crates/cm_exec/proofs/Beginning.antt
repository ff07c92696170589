-- A call's code on terms does what the call does.
use Rattle.std.proofs.Common.{◌≡◌, ℕ, List, [], slice_get, Option, Some, None, refl, ap, ◌∙◌}
use Rattle.std.specs.Option.{option_map}
use Rattle.std.proofs.lemmas.Option.{slice_get-map}
use Rattle.cm_model.specs.Tables.{Tables}
use Rattle.cm_model.specs.declared.body.Call.{Call}
use Rattle.cm_code.specs.declared.instr.Instr.{Instr}
use Rattle.cm_code.specs.Code.{code_meaning, codes_from}
use Rattle.cm_code.specs.Compiling.{body_code}
use Rattle.cm_code.specs.Language.{Called, meanings}
use Rattle.cm_code.specs.Machine.{or_empty}
use Rattle.cm_code.proofs.RightTurns.{called_right, funs_right}
use Rattle.cm_eval.specs.declared.code.Code.{Code}
use Rattle.cm_eval.specs.Compiled.{IsCodeOf}
use Rattle.cm_term.specs.declared.term.Term.{Term}
use Rattle.cm_exec.specs.declared.operand.Operand.{Operand}
use Rattle.cm_exec.specs.Terms.{Plan, Doing, terms}
use Rattle.cm_exec.specs.Run.{plan_in, plan_of}

module _ (m : Tables) (c : Code) (is : IsCodeOf m c) (args : List Term) (ps : List Term) where
  abbrev by_code : List Instr → Plan
  by_code body = code_meaning Term Operand Doing terms (codes_from Term Operand Doing terms [] c.funs) body args
      terms.replies ps

  functions : codes_from Term Operand Doing terms [] c.funs ≡ meanings Term Operand Doing terms m.ints m.funs
  unfolding meanings
  functions = ap (codes_from Term Operand Doing terms []) is.funs ∙ funs_right Term Operand Doing terms m.ints [] m.funs

  of_call : (o : Option Call) → by_code (or_empty (option_map (λ (d : Call). body_code m.ints d.body) o))
      ≡ plan_in m args o ps
  of_call None = refl
  of_call (Some d) =
      ap (λ fs. code_meaning Term Operand Doing terms fs (body_code m.ints d.body) args terms.replies ps) functions
      ∙ ap (λ (f : Called Term Doing). f args terms.replies ps)
      (called_right Term Operand Doing terms m.ints (meanings Term Operand Doing terms m.ints m.funs) d.body)

  -- by the call's number
  pub call_by_code : (i : ℕ) → by_code (or_empty (slice_get c.calls i)) ≡ plan_of m i args ps
  call_by_code i =
      ap (λ cs. by_code (or_empty (slice_get cs i))) is.calls
      ∙ ap (λ o. by_code (or_empty o)) (slice_get-map (λ (d : Call). body_code m.ints d.body) m.calls i)
      ∙ of_call (slice_get m.calls i)

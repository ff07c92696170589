-- Two readings that are related operation by operation do related things at every call and every invariant.
use Rattle.std.proofs.Common.{◌≡◌, ℕ, zero, suc, ◌+◌, ◌<◌, ◌≤◌, ltb, leb, Bool, true, false, List, [], ◌∷◌, ◌++◌, map}
use Rattle.std.proofs.Common.{length, Some, slice_get, IsTrue, refl, sym, ap, ◌∙◌, subst, arith, if◌then◌else◌}
use Rattle.std.proofs.lemmas.Bool.{and_parts, leb-true, ltb-true, ltb-false}
use Rattle.std.proofs.lemmas.List.{length-append}
use Rattle.cm_model.specs.Tables.{Tables}
use Rattle.cm_model.specs.WellTyped.{IsWellTyped, is_call, is_fun, is_state, is_invariant}
use Rattle.cm_model.specs.Limits.{shift_limit}
use Rattle.cm_model.specs.Kinds.{Of, scope, is_bool, bool_ty, kind_of}
use Rattle.cm_model.specs.Blocks.{is_body, always_returns}
use Rattle.cm_model.specs.Weights.{shifts_of, body_shifts}
use Rattle.cm_model.specs.declared.body.Call.{Call}
use Rattle.cm_model.specs.declared.body.StateDecl.{StateDecl}
use Rattle.cm_model.specs.declared.body.Expr.{Expr}
use Rattle.cm_value.proofs.Declared.{all_at, each_at}
use Rattle.cm_code.specs.Rules.{Rules}
use Rattle.cm_code.specs.Language as language
use Rattle.cm_code.specs.Language.{Called}
use Rattle.cm_relation.specs.Relation.{Relation, KeepRelation, AreAll}
use Rattle.cm_relation.proofs.OneKind.{bool_is, of_one}
use Rattle.cm_relation.proofs.Parts.{Answers, inspected_related}
use Rattle.cm_relation.proofs.Expressions.{FunctionsAnswer, expr_related}
use Rattle.cm_relation.proofs.Bodies.{body_related}

-- an element before what was added at the end, and that one
before_end : {X : Type 0} (xs : List X) (y : X) (i : ℕ) → i < length xs → slice_get (xs ++ y ∷ []) i ≡ slice_get xs i
before_end [] y i lt = absurd (omega arith)
before_end (x ∷ xs) y zero lt = refl
before_end (x ∷ xs) y (suc i) lt = before_end xs y i (omega (arith, lt))

at_end : {X : Type 0} (xs : List X) (y : X) → slice_get (xs ++ y ∷ []) (length xs) ≡ Some y
at_end [] y = refl
at_end (x ∷ xs) y = at_end xs y

-- what is asked of a call: its body is well typed, and has few shifts
call_body : (t : Tables) (n : ℕ) (d : Call) → is_call t n d ≡ true
    → IsTrue (is_body t n d.reply (map (λ p. p.ty) d.params) d.body) × (body_shifts d.body ≤ shift_limit)
call_body t n d h =
    let later = and_parts _ _ (and_parts _ _ (and_parts _ _ h).1).1 in (
      (and_parts (is_body t n d.reply (map (λ p. p.ty) d.params) d.body) (always_returns d.body) later.0).0,
      leb-true (body_shifts d.body) shift_limit (and_parts _ (leb (body_shifts d.body) shift_limit) later.1).1,
    )

module _ {t : Tables} {V O S V' O' S' : Type 0} {r : Rules V O S} {r' : Rules V' O' S'} {R : Relation V O S V' O' S'}
    (keep : KeepRelation t V O S V' O' S' r r' R) (typed : IsWellTyped t) where
  abbrev body : List (Called V S) → Call → Called V S
  body funs d = language.body_of V O S r t.ints funs d.body

  abbrev body' : List (Called V' S') → Call → Called V' S'
  body' funs d = language.body_of V' O' S' r' t.ints funs d.body

  call_answers : (n : ℕ) (funs : List (Called V S)) (funs' : List (Called V' S')) → FunctionsAnswer keep n funs funs'
      → (d : Call) → is_call t n d ≡ true → Answers keep d (body funs d) (body' funs' d)
  call_answers n funs funs' answer d h args args' k k' are goes =
      let b = call_body t n d h in
      body_related keep n funs funs' answer d.reply (map (λ p. p.ty) d.params) d.body b.0 b.1 args args' k k' are goes

  -- one function more
  one_more : (n : ℕ) (funs : List (Called V S)) (funs' : List (Called V' S')) (f : Call) → length funs ≡ n
      → length funs' ≡ n → slice_get t.funs n ≡ Some f → FunctionsAnswer keep n funs funs'
      → FunctionsAnswer keep (suc n) (funs ++ body funs f ∷ []) (funs' ++ body' funs' f ∷ [])
  one_more n funs funs' f many many' at answer i d lt there = by (ltb i n) refl
    where
      by : (b : Bool) → ltb i n ≡ b
          → Answers keep d (language.fun_at V O S r (funs ++ body funs f ∷ []) i)
          (language.fun_at V' O' S' r' (funs' ++ body' funs' f ∷ []) i)
      by true less =
          let below : i < n = ltb-true i n less in
          subst (λ o. Answers keep d (language.called V O S r o)
          (language.fun_at V' O' S' r' (funs' ++ body' funs' f ∷ []) i))
          (sym (before_end funs (body funs f) i (omega (arith, below, many))))
          (subst (λ o. Answers keep d (language.fun_at V O S r funs i) (language.called V' O' S' r' o))
          (sym (before_end funs' (body' funs' f) i (omega (arith, below, many')))) (answer i d below there))
      by false less =
          let last : n ≡ i = omega (arith, lt, ltb-false i n less) in
          let same : f ≡ d = of_one f d (sym at ∙ ap (slice_get t.funs) last ∙ there) in
          let is : is_call t n f ≡ true = (and_parts (leb (length f.params) f.outer) (is_call t n f)
          (each_at (is_fun t) 0 t.funs n n f typed.functions at (omega arith))).1 in
          subst (λ g. Answers keep g (language.fun_at V O S r (funs ++ body funs f ∷ []) i)
          (language.fun_at V' O' S' r' (funs' ++ body' funs' f ∷ []) i)) same
          (subst (λ o. Answers keep f (language.called V O S r o)
          (language.fun_at V' O' S' r' (funs' ++ body' funs' f ∷ []) i))
          (sym (ap (slice_get (funs ++ body funs f ∷ [])) (sym last ∙ sym many) ∙ at_end funs (body funs f)))
          (subst (λ o. Answers keep f (body funs f) (language.called V' O' S' r' o))
          (sym (ap (slice_get (funs' ++ body' funs' f ∷ [])) (sym last ∙ sym many') ∙ at_end funs' (body' funs' f)))
          (call_answers n funs funs' answer f is)))

  -- where fs are the functions behind the first n
  functions_from : (fs : List Call) (n : ℕ) (funs : List (Called V S)) (funs' : List (Called V' S')) → length funs ≡ n
      → length funs' ≡ n → ((i : ℕ) → slice_get t.funs (n + i) ≡ slice_get fs i) → FunctionsAnswer keep n funs funs'
      → FunctionsAnswer keep (n + length fs) (language.meanings_from V O S r t.ints funs fs)
      (language.meanings_from V' O' S' r' t.ints funs' fs)
  functions_from [] n funs funs' many many' rest answer i d lt there = answer i d (omega (arith, lt)) there
  functions_from (f ∷ fs) n funs funs' many many' rest answer i d lt there =
      let none : n ≡ n + 0 = omega arith in
      let at : slice_get t.funs n ≡ Some f = ap (slice_get t.funs) none ∙ rest 0 in
      functions_from fs (suc n) (funs ++ body funs f ∷ []) (funs' ++ body' funs' f ∷ [])
      (length-append funs (body funs f ∷ []) ∙ (let e : length funs + 1 ≡ suc n = omega (arith, many) in e))
      (length-append funs' (body' funs' f ∷ []) ∙ (let e : length funs' + 1 ≡ suc n = omega (arith, many') in e))
      (λ j. (let e : suc n + j ≡ n + suc j = omega arith in ap (slice_get t.funs) e ∙ rest (suc j)))
      (one_more n funs funs' f many many' at answer) i d (omega (arith, lt)) there

  none_answer : FunctionsAnswer keep 0 [] []
  none_answer i d lt at = absurd (omega (arith, lt))

  functions_answer : FunctionsAnswer keep (length t.funs) (language.meanings V O S r t.ints t.funs)
      (language.meanings V' O' S' r' t.ints t.funs)
  unfolding language.meanings
  functions_answer =
      let many : 0 + length t.funs ≡ length t.funs = omega arith in
      subst (λ n. FunctionsAnswer keep n (language.meanings_from V O S r t.ints [] t.funs)
      (language.meanings_from V' O' S' r' t.ints [] t.funs)) many
      (functions_from t.funs 0 [] [] refl refl (λ i. (let e : 0 + i ≡ i = omega arith in ap (slice_get t.funs) e))
      none_answer)

  -- the same call on related arguments, where what is done with related replies is related
  pub call_related : (i : ℕ) (d : Call) (args : List V) (args' : List V') (ret : V → S) (ret' : V' → S')
      → slice_get t.calls i ≡ Some d → AreAll R.value (map (λ p. p.ty) d.params) args args'
      → ((x : V) (x' : V') → R.value d.reply x x' → R.doing (ret x) (ret' x'))
      → R.doing (language.body_of V O S r t.ints (language.meanings V O S r t.ints t.funs) d.body args ret)
      (language.body_of V' O' S' r' t.ints (language.meanings V' O' S' r' t.ints t.funs) d.body args' ret')
  call_related i d args args' ret ret' at are goes =
      call_answers (length t.funs) (language.meanings V O S r t.ints t.funs)
      (language.meanings V' O' S' r' t.ints t.funs) functions_answer d
      (all_at (is_call t (length t.funs)) t.calls i d typed.bodies at) args args' ret ret' are goes

  -- the invariant of a cell on related values
  pub invariant_related : (s : ℕ) (d : StateDecl) (e : Expr) (x : V) (x' : V') → slice_get t.states s ≡ Some d
      → d.inv ≡ Some e → R.value d.value x x' → R.doing (r.replies (r.flag true)) (r'.replies (r'.flag true))
      → R.doing (language.invariant_of V O S r t.ints e x) (language.invariant_of V' O' S' r' t.ints e x')
  invariant_related s d e x x' at inv is replies =
      let state = all_at (is_state t) t.states s d typed.cells at in
      let whole = (and_parts _ (is_invariant t d.value d.inv) (and_parts _ _ state).1).1 in
      let fits = and_parts (is_bool (kind_of (scope t 0 (d.value ∷ [])) e)) _
      (sym (ap (is_invariant t d.value) inv) ∙ whole) in
      let few : shifts_of e ≤ shift_limit =
      leb-true (shifts_of e) shift_limit (and_parts _ (leb (shifts_of e) shift_limit) (and_parts _ _ fits.1).1).1 in
      inspected_related keep (d.value ∷ []) (shifts_of e) (language.meaning_of V O S r t.ints [] e)
      (language.meaning_of V' O' S' r' t.ints [] e) few
      (expr_related keep 0 [] [] none_answer (d.value ∷ []) e (Of bool_ty)
      (bool_is (kind_of (scope t 0 (d.value ∷ [])) e) fits.0) few)
      (x ∷ []) (x' ∷ []) (λ b. if b then r.replies (r.flag true) else r.blocks)
      (λ b. if b then r'.replies (r'.flag true) else r'.blocks) (is, tt) by
    where
      by : (b : Bool) → R.doing (if b then r.replies (r.flag true) else r.blocks)
          (if b then r'.replies (r'.flag true) else r'.blocks)
      by true = replies
      by false = keep.blocks

-- The fields of two records, one after another, and what they weigh.
use Rattle.std.proofs.Common.{◌≡◌, ◌<◌, ℕ, zero, suc, ◌+◌, Bool, true, false, List, [], ◌∷◌, ◌++◌, map, drop, reverse}
use Rattle.std.proofs.Common.{slice_get, Some, None, refl, sym, ap, ◌∙◌, arith, if◌then◌else◌}
use Rattle.std.proofs.Math.Path.{fun_ext}
use Rattle.std.proofs.Math.Seq.{drop-cons}
use Rattle.std.proofs.lemmas.Option.{slice_get_within, get_or_from_slice_get}
use Rattle.cm_term.specs.declared.term.Term.{Term}
use Rattle.std.proofs.lemmas.List.{reverse-append}
use Rattle.cm_exec.specs.Asking.{Asking, Stops, Says, bound, fields_asked, asks_below}
use Rattle.cm_exec.specs.declared.comparison.Fields.{Fields}
use Rattle.cm_exec.specs.Comparing.{fields_of, after, at, weight, all_weights, frame_weight}
use Rattle.cm_exec.specs.Comparing.{frames_weight}
use Rattle.cm_exec.proofs.Asking.{bound_bound}

pub drop_there : {X : Type 0} (i : ℕ) (xs : List X) (x : X) → slice_get xs i ≡ Some x → drop i xs ≡ x ∷ drop (i + 1) xs
drop_there i xs x e =
    let n : suc i ≡ i + 1 = omega arith in
    drop-cons xs i x (slice_get_within xs i x e) ∙ ap (λ y. y ∷ drop (suc i) xs) (get_or_from_slice_get xs i x x e)
    ∙ ap (λ m. x ∷ drop m xs) n

pub drop_missing : {X : Type 0} (i : ℕ) (xs : List X) → slice_get xs i ≡ None → drop i xs ≡ []
drop_missing zero [] e = refl
drop_missing (suc i) [] e = refl
drop_missing zero (y ∷ xs) e = absurd (cc)
drop_missing (suc i) (y ∷ xs) e = drop_missing i xs e

module _ (ps : List Term) where
  -- both records have a field here
  pub one_field : (old new : List Fields) (f : Fields) (t u : Term) → slice_get f.left f.at ≡ Some t
      → slice_get f.right f.at ≡ Some u → new ≡ old ++ record f { at = f.at + 1 } ∷ []
      → bound (fields_of ps f) (after ps (reverse old))
      ≡ at ps new (asks_below ps f.below t u)
  one_field old new f t u left right e =
      ap (λ a. bound a (after ps (reverse old))) (opened ∙ refl)
      ∙ bound_bound (asks_below ps f.below t u) rest (after ps (reverse old))
      ∙ ap (bound (asks_below ps f.below t u)) (fun_ext on)
      ∙ sym (ap (λ fs. bound (asks_below ps f.below t u) (after ps fs))
      (ap reverse e ∙ reverse-append old (record f { at = f.at + 1 } ∷ [])))
    where
      later : Asking
      later = fields_of ps (record f { at = f.at + 1 })

      rest : Bool → Asking
      rest s = if s then later else Says false

      opened : fields_of ps f ≡ bound (asks_below ps f.below t u) rest
      opened =
          ap (λ (ts : List Term). fields_asked (map (asks_below ps f.below) ts) (drop f.at f.right))
          (drop_there f.at f.left t left)
          ∙ ap (fields_asked (map (asks_below ps f.below) (t ∷ drop (f.at + 1) f.left)))
          (drop_there f.at f.right u right)

      on : (s : Bool) → bound (rest s) (after ps (reverse old))
          ≡ after ps (record f { at = f.at + 1 } ∷ reverse old) s
      on true = refl
      on false = refl

  -- neither has
  pub no_field : (old : List Fields) (f : Fields) → slice_get f.left f.at ≡ None → slice_get f.right f.at ≡ None
      → bound (fields_of ps f) (after ps (reverse old)) ≡ after ps (reverse old) true
  no_field old f left right = ap (λ a. bound a (after ps (reverse old)))
      (ap (λ (ts : List Term). fields_asked (map (asks_below ps f.below) ts) (drop f.at f.right))
      (drop_missing f.at f.left left)
      ∙ ap (fields_asked []) (drop_missing f.at f.right right))

  pub left_shorter : (old : List Fields) (f : Fields) (u : Term) → slice_get f.left f.at ≡ None
      → slice_get f.right f.at ≡ Some u
      → bound (fields_of ps f) (after ps (reverse old)) ≡ Stops
  left_shorter old f u left right = ap (λ a. bound a (after ps (reverse old)))
      (ap (λ (ts : List Term). fields_asked (map (asks_below ps f.below) ts) (drop f.at f.right))
      (drop_missing f.at f.left left)
      ∙ ap (fields_asked []) (drop_there f.at f.right u right))

  pub right_shorter : (old : List Fields) (f : Fields) (t : Term) → slice_get f.left f.at ≡ Some t
      → slice_get f.right f.at ≡ None
      → bound (fields_of ps f) (after ps (reverse old)) ≡ Stops
  right_shorter old f t left right = ap (λ a. bound a (after ps (reverse old)))
      (ap (λ (ts : List Term). fields_asked (map (asks_below ps f.below) ts) (drop f.at f.right))
      (drop_there f.at f.left t left)
      ∙ ap (fields_asked (map (asks_below ps f.below) (t ∷ drop (f.at + 1) f.left))) (drop_missing f.at f.right right))

-- a field taken off makes the rest lighter
pub lighter : (old new : List Fields) (f : Fields) (t : Term) → slice_get f.left f.at ≡ Some t
    → new ≡ old ++ record f { at = f.at + 1 } ∷ []
    → weight t + frames_weight (reverse new) < frame_weight f + frames_weight (reverse old)
lighter old new f t left e =
    let one : all_weights (map weight (drop f.at f.left))
    ≡ 1 + weight t + all_weights (map weight (drop (f.at + 1) f.left))
    = ap (λ ts. all_weights (map weight ts)) (drop_there f.at f.left t left) in
    let two : frames_weight (reverse new) ≡ frame_weight (record f { at = f.at + 1 }) + frames_weight (reverse old)
    = ap frames_weight (ap reverse e ∙ reverse-append old (record f { at = f.at + 1 } ∷ [])) in
    omega (arith, one, two)

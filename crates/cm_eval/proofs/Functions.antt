-- What a function of a list means.
use Rattle.std.proofs.Common.{◌≡◌, ℕ, zero, suc, ◌+◌, ◌<◌, ◌≤◌, List, [], ◌∷◌, ◌++◌, length, take, get_or, Some, None}
use Rattle.std.proofs.Common.{refl, sym, ap, ◌∙◌, arith, slice_get, append_assoc}
use Rattle.std.proofs.lemmas.List.{append-nil, length-append}
use Rattle.std.proofs.lemmas.Option.{slice_get_past}
use Rattle.cm_model.specs.declared.ty.IntDecl.{IntDecl}
use Rattle.cm_model.specs.declared.body.Call.{Call}
use Rattle.cm_eval.specs.Evaluation.{Called, meanings, meanings_from, body_of, called, fun_at}

module _ (ints : List IntDecl) where
  more_meanings : (before : List Called) (fs : List Call) → (more : List Called)
      × (meanings_from ints before fs ≡ before ++ more) × (length more ≡ length fs)
  more_meanings before [] = ([], sym (append-nil before), refl)
  more_meanings before (f ∷ fs) =
      let rest = more_meanings (before ++ body_of ints before f.body ∷ []) fs in (
        body_of ints before f.body ∷ rest.0,
        rest.1 ∙ append_assoc before (body_of ints before f.body ∷ []) rest.0,
        ap suc rest.2,
      )

  at_middle : (before more : List Called) (m : Called) → slice_get (before ++ m ∷ more) (length before) ≡ Some m
  at_middle [] more m = refl
  at_middle (b ∷ before) more m = at_middle before more m

  count_meanings : (before : List Called) (fs : List Call) → length (meanings_from ints before fs)
      ≡ length before + length fs
  count_meanings before fs =
      let m = more_meanings before fs in ap length m.1 ∙ length-append before m.0 ∙ ap (λ n. length before + n) m.2

  function_from : (before : List Called) (fs : List Call) (i k : ℕ) (d : Call) → i < length fs → k ≡ length before + i
      → slice_get (meanings_from ints before fs) k ≡ Some (body_of ints (meanings_from ints before (take i fs))
      (get_or fs i d).body)
  function_from before [] i k d lt e = absurd (omega arith)
  function_from before (f ∷ fs) zero k d lt e =
      let m = more_meanings (before ++ body_of ints before f.body ∷ []) fs in
      let here : k ≡ length before = omega arith in
      rw (here, m.1, append_assoc) (at_middle before m.0 (body_of ints before f.body))
  function_from before (f ∷ fs) (suc i) k d lt e =
      function_from (before ++ body_of ints before f.body ∷ []) fs i k d (omega arith)
      (omega (arith, length-append before (body_of ints before f.body ∷ [])))

  pub function_meaning : (fs : List Call) (i : ℕ) (f : Call) → i < length fs → f ≡ get_or fs i f
      → fun_at (meanings ints fs) i ≡ body_of ints (meanings ints (take i fs)) f.body
  unfolding meanings
  function_meaning fs i f lt is =
      ap called (function_from [] fs i i f lt (omega arith))
      ∙ ap (λ (g : Call). body_of ints (meanings_from ints [] (take i fs)) g.body) (sym is)

  pub no_function : (fs : List Call) (i : ℕ) → length fs ≤ i → fun_at (meanings ints fs) i ≡ called None
  unfolding meanings
  no_function fs i le = ap called (slice_get_past (meanings_from ints [] fs) i (omega (arith, count_meanings [] fs)))

-- How many shifts stand one inside another in what an expression is told to be, from those in its parts.
use Rattle.std.proofs.Common.{◌≡◌, ℕ, ◌+◌, ◌≤◌, max, pos, Bool, true, false, List, [], ◌∷◌, ◌++◌, map, Option, Some}
use Rattle.std.proofs.Common.{None, refl, sym, subst, arith}
use Rattle.cm_model.specs.Weights.{greatest, shifts_step, shifts_of}
use Rattle.cm_model.specs.declared.place.Place.{Place}
use Rattle.cm_model.specs.declared.body.Expr.{Expr as Made}
use Rattle.cm_model.specs.declared.body.Expr.TheOpen.{SetField-F}
use Rattle.cm_model.specs.declared.body.SetField.{SetField, roll-SetField}
use Rattle.cm_typing.specs.declared.flat.Flat.{Flat}
use Rattle.cm_typing.specs.declared.flat.Kind.{Kind}
use Rattle.cm_typing.specs.declared.names.Entry.{Entry}
use Rattle.cm_typing.specs.declared.names.Entry.TheVariants as entry
use Rattle.cm_typing.specs.declared.scope.Scope.{Scope}
use Rattle.cm_typing.specs.declared.told.Typed.{Typed}
use Rattle.cm_typing.specs.declared.told.Sets.{Sets}
use Rattle.cm_typing.specs.Told.{Broken}
use Rattle.cm_typing.specs.Names.{Names, in_invariant}
use Rattle.cm_typing.specs.Rules as rules
use Rattle.cm_typing.specs.Expressions.{Meaning, SetMeaning, it_told, value_named, operands_told, args_told}
use Rattle.cm_typing.specs.Expressions.{counted_told, loose_told, into_told, applied_told, apply_told, expr_at}
use Rattle.cm_typing.specs.Expressions.{set_field, next_set_told, sets_told, no_sets, with_told}
use Rattle.cm_types.proofs.Items.{Each, map_more}
use Rattle.cm_types.proofs.ModelForms as forms

abbrev value_of_set : SetField-F ℕ ℕ → ℕ
value_of_set x = x.value

abbrev pub set_shifts : SetField → ℕ
set_shifts = forms.set_of shifts_step value_of_set

-- where nothing is shifted

pub none_in_value : (at : Place) (o : Option Entry) → shifts_of (value_named at o).0.expr ≡ 0
none_in_value at None = forms.of_Num shifts_step value_of_set (pos 0)
none_in_value at (Some (entry.Local i o)) = forms.of_Local shifts_step value_of_set i
none_in_value at (Some (entry.Variant e i)) = forms.of_Tag shifts_step value_of_set e i
none_in_value at (Some (entry.Cell c o)) = forms.of_Cell shifts_step value_of_set c
none_in_value at (Some (entry.Sort n)) = forms.of_Num shifts_step value_of_set (pos 0)
none_in_value at (Some (entry.Int n)) = forms.of_Num shifts_step value_of_set (pos 0)
none_in_value at (Some (entry.Enum n)) = forms.of_Num shifts_step value_of_set (pos 0)
none_in_value at (Some (entry.Record r o os)) = forms.of_Num shifts_step value_of_set (pos 0)
none_in_value at (Some (entry.Map c g o)) = forms.of_Num shifts_step value_of_set (pos 0)
none_in_value at (Some (entry.Function i os o)) = forms.of_Num shifts_step value_of_set (pos 0)
none_in_value at (Some entry.Unusable) = forms.of_Num shifts_step value_of_set (pos 0)
none_in_value at (Some (entry.Field i o)) = forms.of_Num shifts_step value_of_set (pos 0)

pub none_in_it : (at : Place) (o : Option Entry) → shifts_of (it_told at o).0.expr ≡ 0
none_in_it at None = forms.of_Num shifts_step value_of_set (pos 0)
none_in_it at (Some (entry.Local i o)) = forms.of_Local shifts_step value_of_set i
none_in_it at (Some (entry.Variant e i)) = forms.of_Num shifts_step value_of_set (pos 0)
none_in_it at (Some (entry.Cell c o)) = forms.of_Num shifts_step value_of_set (pos 0)
none_in_it at (Some (entry.Sort n)) = forms.of_Num shifts_step value_of_set (pos 0)
none_in_it at (Some (entry.Int n)) = forms.of_Num shifts_step value_of_set (pos 0)
none_in_it at (Some (entry.Enum n)) = forms.of_Num shifts_step value_of_set (pos 0)
none_in_it at (Some (entry.Record r o os)) = forms.of_Num shifts_step value_of_set (pos 0)
none_in_it at (Some (entry.Map c g o)) = forms.of_Num shifts_step value_of_set (pos 0)
none_in_it at (Some (entry.Function i os o)) = forms.of_Num shifts_step value_of_set (pos 0)
none_in_it at (Some entry.Unusable) = forms.of_Num shifts_step value_of_set (pos 0)
none_in_it at (Some (entry.Field i o)) = forms.of_Num shifts_step value_of_set (pos 0)

pub none_low : (x n k : ℕ) → x ≡ 0 → n ≤ k → x + n ≤ k
none_low x n k h le = omega (arith, h, le)

pub same_low : (x y n k : ℕ) → x ≡ y → y + n ≤ k → x + n ≤ k
same_low x y n k h le = omega (arith, h, le)

pub both_low : (x y n k : ℕ) → x + n ≤ k → y + n ≤ k → max x y + n ≤ k
both_low x y n k p q = omega (arith, p, q)

pub greatest_more : (xs : List ℕ) (x n k : ℕ) → greatest xs + n ≤ k → x + n ≤ k → greatest (xs ++ x ∷ []) + n ≤ k
greatest_more [] x n k h e = both_low x 0 n k e h
greatest_more (y ∷ xs) x n k h e =
    let p = parts y (greatest xs) n k h in both_low y (greatest (xs ++ x ∷ [])) n k p.0 (greatest_more xs x n k p.1 e)
  where
    parts : (x y n k : ℕ) → max x y + n ≤ k → (x + n ≤ k) × (y + n ≤ k)
    parts x y n k h = (omega (arith, h), omega (arith, h))

-- with n more outside, at most k
module _ (k n : ℕ) where
  abbrev pub Low : Made → Type 0
  Low e = shifts_of e + n ≤ k

  abbrev pub AllLow : List Made → Type 0
  AllLow es = greatest (map shifts_of es) + n ≤ k

  abbrev pub IsLow : Meaning → Type 0
  IsLow m = (s : Scope) (l : Names) → Low (m s l).0.expr

  module _ (low : n ≤ k) where
    nought : AllLow []
    nought = none_low 0 n k refl low

    low_more : (es : List Made) (e : Made) → AllLow es → Low e → AllLow (es ++ e ∷ [])
    low_more es e h p =
        subst (λ xs. greatest xs + n ≤ k) (sym (map_more shifts_of es e)) (greatest_more (map shifts_of es)
        (shifts_of e) n k h p)

    module _ (s : Scope) (l : Names) where
      operands_low : (ms : List Meaning) (done : List Made) → Each IsLow ms → AllLow done
          → AllLow (operands_told done ms s l).0
      operands_low [] done h p = p
      operands_low (m ∷ ms) done h p = operands_low ms (done ++ (m s l).0.expr ∷ []) h.1
          (low_more done (m s l).0.expr p (h.0 s l))

      pub operands_are_low : (ms : List Meaning) → Each IsLow ms → AllLow (operands_told [] ms s l).0
      operands_are_low ms h = operands_low ms [] h nought

      args_low : (ms : List Meaning) (types : List (Option Flat)) (done : List Made) → Each IsLow ms → AllLow done
          → AllLow (args_told done ms types s l).0
      args_low [] types done h p = p
      args_low (m ∷ ms) types done h p = args_low ms types (done ++ (m s l).0.expr ∷ []) h.1
          (low_more done (m s l).0.expr p (h.0 s l))

      loose_low : (at : Place) (code : ℕ) (ms : List Meaning) → Low (loose_told at code ms s l).0.expr
      loose_low at code ms = none_low _ n k (forms.of_Num shifts_step value_of_set (pos 0)) low

      into_low : (at : Place) (i : ℕ) (ms : List Meaning) → Each IsLow ms → Low (into_told at i ms s l).0.expr
      into_low at i [] h = loose_low at rules.count []
      into_low at i (m ∷ []) h = same_low _ _ n k (forms.of_Into shifts_step value_of_set i (m s l).0.expr) (h.0 s l)
      into_low at i (m ∷ o ∷ ms) h = loose_low at rules.count (m ∷ o ∷ ms)

      applied_low : (at : Place) (e : Entry) (inside : Bool) (ms : List Meaning) → Each IsLow ms
          → Low (applied_told at e inside ms s l).0.expr
      applied_low at (entry.Record r o os) inside ms h =
          same_low _ _ n k (forms.of_Make shifts_step value_of_set r (counted_told at os ms s l).0)
          (args_low ms os [] h nought)
      applied_low at (entry.Int i) true ms h = loose_low at rules.invariant ms
      applied_low at (entry.Int i) false ms h = into_low at i ms h
      applied_low at (entry.Function i os o) true ms h = loose_low at rules.invariant ms
      applied_low at (entry.Function i os o) false ms h =
          same_low _ _ n k (forms.of_Apply shifts_step value_of_set i (counted_told at os ms s l).0)
          (args_low ms os [] h nought)
      applied_low at (entry.Sort i) inside ms h = loose_low at rules.unknown ms
      applied_low at (entry.Enum i) inside ms h = loose_low at rules.unknown ms
      applied_low at (entry.Variant e i) inside ms h = loose_low at rules.unknown ms
      applied_low at (entry.Cell c o) inside ms h = loose_low at rules.unknown ms
      applied_low at (entry.Map c g o) inside ms h = loose_low at rules.unknown ms
      applied_low at entry.Unusable inside ms h = loose_low at rules.unknown ms
      applied_low at (entry.Local i o) inside ms h = loose_low at rules.unknown ms
      applied_low at (entry.Field i o) inside ms h = loose_low at rules.unknown ms

      pub apply_low : (at : Place) (o : Option Entry) (fs : List Broken) (ms : List Meaning) → Each IsLow ms
          → Low (apply_told at (o, fs) ms s l).0.expr
      apply_low at None fs ms h = none_low _ n k (forms.of_Num shifts_step value_of_set (pos 0)) low
      apply_low at (Some e) fs ms h = applied_low at e (in_invariant l) ms h

      pub path_low : (e : Made) (is : List ℕ) → Low e → Low (expr_at e is)
      path_low e [] h = h
      path_low e (i ∷ is) h = same_low _ _ n k (forms.of_Fields shifts_step value_of_set e (i ∷ is)) h

      sets_low : (ms : List SetMeaning) (o : Option Kind) (d : Sets) → Each (λ m. IsLow m.2) ms
          → greatest (map set_shifts d.sets) + n ≤ k
          → greatest (map set_shifts (sets_told d ms o s l).0.sets) + n ≤ k
      unfolding next_set_told
      sets_low [] o d h p = p
      sets_low (m ∷ ms) o d h p =
          let x = (set_field m.0 m.1 d.taken o s).0 in
          let e = (m.2 s l).0.expr in
          let one : SetField = roll-SetField (record { field = x.index; value = e }) in
          sets_low ms o (next_set_told d m o s l).0 h.1
          (subst (λ xs. greatest xs + n ≤ k) (sym (map_more set_shifts d.sets one))
          (greatest_more (map set_shifts d.sets) (set_shifts one) n k p
          (same_low _ _ n k (forms.of_set shifts_step value_of_set x.index e) (h.0 s l))))

      pub with_low : (v : Typed) (ms : List SetMeaning) → Low v.expr → Each (λ m. IsLow m.2) ms
          → Low (with_told v ms s l).0.expr
      with_low v [] h p = h
      with_low v (m ∷ ms) h p =
          let d = (sets_told no_sets (m ∷ ms) v.kind s l).0 in
          same_low _ _ n k (forms.of_With shifts_step value_of_set v.expr d.sets)
          (both_low (shifts_of v.expr) (greatest (map set_shifts d.sets)) n k h
          (sets_low (m ∷ ms) v.kind no_sets p nought))

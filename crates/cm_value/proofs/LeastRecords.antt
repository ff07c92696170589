-- The least values of the records, one by one.
use Rattle.std.proofs.Common.{◌≡◌, ℕ, zero, suc, ◌+◌, ◌<◌, ◌≤◌, List, [], ◌∷◌, ◌++◌, map, length, take, get_or, Some}
use Rattle.std.proofs.Common.{refl, sym, ap, ◌∙◌, arith, slice_get, append_assoc, length-append}
use Rattle.std.proofs.lemmas.List.{append-nil}
use Rattle.std.proofs.lemmas.Option.{slice_get_past}
use Rattle.cm_model.specs.Types.{record_values}
use Rattle.cm_model.specs.declared.ty.RecDecl.{RecDecl}
use Rattle.cm_model.specs.declared.ty.IntDecl.{IntDecl}
use Rattle.cm_model.specs.declared.ty.Part.{Part}
use Rattle.cm_value.specs.declared.value.Value.{Value}
use Rattle.cm_value.specs.declared.value.Value.TheVariants as value
use Rattle.cm_value.specs.Least.{least_in, least_record, least_records, or_empty}

-- what is made for each record, from what was made for those before it
module _ {X : Type 0} (f : List X → RecDecl → X) where
  pub length_values : (before : List X) (rs : List RecDecl) → length (record_values f before rs)
      ≡ length before + length rs
  length_values before [] = omega arith
  length_values before (r ∷ rs) = grind (arith, length-append {A = X}, length_values (before ++ f before r ∷ []) rs)

  values_more : (before : List X) (rs : List RecDecl) → (more : List X) × (record_values f before rs ≡ before ++ more)
  values_more before [] = ([], sym (append-nil before))
  values_more before (r ∷ rs) =
      let rest = values_more (before ++ f before r ∷ []) rs in
      (f before r ∷ rest.0, rest.1 ∙ append_assoc before (f before r ∷ []) rest.0)

  at_middle : (before more : List X) (x : X) → slice_get (before ++ x ∷ more) (length before) ≡ Some x
  at_middle [] more x = refl
  at_middle (b ∷ before) more x = at_middle before more x

  value_from : (before : List X) (rs : List RecDecl) (i k : ℕ) (r : RecDecl) → slice_get rs i ≡ Some r
      → k ≡ length before + i
      → slice_get (record_values f before rs) k ≡ Some (f (record_values f before (take i rs)) r)
  value_from before [] i k r e at = absurd (cc)
  value_from before (q ∷ rs) zero k r e at =
      let m = values_more (before ++ f before q ∷ []) rs in
      let here : k ≡ length before = omega arith in
      let same : q ≡ r = cc in
      rw (here, m.1, append_assoc, ← same) (at_middle before m.0 (f before q))
  value_from before (q ∷ rs) (suc i) k r e at =
      value_from (before ++ f before q ∷ []) rs i k r e (omega (arith, length-append before (f before q ∷ [])))

  -- the value of a record, from those of the records before it
  pub value_at : (rs : List RecDecl) (i : ℕ) (r : RecDecl) → slice_get rs i ≡ Some r
      → slice_get (record_values f [] rs) i ≡ Some (f (record_values f [] (take i rs)) r)
  value_at rs i r e = value_from [] rs i i r e (omega arith)

slice_get_at : {X : Type 0} (xs : List X) (i : ℕ) (d : X) → i < length xs → slice_get xs i ≡ Some (get_or xs i d)
slice_get_at [] i d lt = absurd (omega arith)
slice_get_at (x ∷ xs) zero d lt = refl
slice_get_at (x ∷ xs) (suc i) d lt = slice_get_at xs i d (omega arith)

-- a record's least value has the least values of its fields, whose records are earlier ones
pub record_at : (ints : List IntDecl) (rs : List RecDecl) (i k : ℕ) (d : RecDecl) (fields : List Part)
    (parts : List Value) → i < length rs → k ≡ i
    → fields ≡ (get_or rs k d).fields → parts ≡ map (λ p. least_in ints (least_records ints (take k rs)) p.ty) fields
    → value.Rec parts ≡ or_empty (slice_get (least_records ints rs) i)
unfolding least_records
record_at ints rs i k d fields parts lt same are made =
    let at = value_at (least_record ints) rs k (get_or rs k d) (slice_get_at rs k d (omega arith)) in
    rw (made, are, ← same) (sym (ap or_empty at))

pub no_record : (ints : List IntDecl) (rs : List RecDecl) (i : ℕ) → length rs ≤ i
    → or_empty (slice_get (least_records ints rs) i) ≡ value.Rec []
unfolding least_records
no_record ints rs i le = ap or_empty (slice_get_past (least_records ints rs) i
    (omega (arith, length_values (least_record ints) [] rs)))

get_taken : {X : Type 0} (xs : List X) (n i : ℕ) (x : X) → i < n → slice_get xs i ≡ Some x
    → slice_get (take n xs) i ≡ Some x
get_taken xs zero i x lt at = absurd (omega arith)
get_taken [] (suc n) i x lt at = at
get_taken (y ∷ xs) (suc n) zero x lt at = at
get_taken (y ∷ xs) (suc n) (suc i) x lt at = get_taken xs n i x (omega arith) at

taken : {X : Type 0} (xs : List X) (n i : ℕ) → i ≤ n → take i (take n xs) ≡ take i xs
taken xs n zero le = refl
taken xs zero (suc i) le = absurd (omega arith)
taken [] (suc n) (suc i) le = refl
taken (x ∷ xs) (suc n) (suc i) le = ap (λ ys. x ∷ ys) (taken xs n i (omega arith))

-- the same among the first records
pub least_at : (ints : List IntDecl) (rs : List RecDecl) (n i : ℕ) (d : RecDecl) → i < n → slice_get rs i ≡ Some d
    → or_empty (slice_get (least_records ints (take n rs)) i) ≡ value.Rec
    (map (λ p. least_in ints (least_records ints (take i rs)) p.ty) d.fields)
unfolding least_records
least_at ints rs n i d lt at =
    ap or_empty (value_at (least_record ints) (take n rs) i d (get_taken rs n i d lt at))
    ∙ ap (λ qs. least_record ints (record_values (least_record ints) [] qs) d) (taken rs n i (omega arith))

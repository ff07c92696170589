-- What well typed tables say of each declaration.
use Rattle.std.proofs.Common.{◌≡◌, ℕ, zero, suc, ◌+◌, ◌<◌, Bool, true, false, ◌&&◌, List, [], ◌∷◌, length, Some}
use Rattle.std.proofs.Common.{slice_get, IsTrue, ltb, leb, refl, subst, arith}
use Rattle.std.specs.List.{list_all}
use Rattle.std.proofs.lemmas.Bool.{ltb-true}
use Rattle.cm_model.specs.Tables.{Tables}
use Rattle.cm_model.specs.Types.{is_type_before, is_type_in_use}
use Rattle.cm_model.specs.declared.ty.Ty.TheVariants as form
use Rattle.cm_model.specs.WellTyped.{IsWellTyped, each_from, is_range, is_enum, is_record}
use Rattle.cm_model.specs.Names.{are_distinct, is_name, part_names}
use Rattle.cm_model.specs.declared.ty.IntDecl.{IntDecl}
use Rattle.cm_model.specs.declared.ty.EnumDecl.{EnumDecl}
use Rattle.cm_model.specs.declared.ty.RecDecl.{RecDecl}
use Rattle.cm_model.specs.declared.ty.Part.{Part}

-- both of two tests
pub both : (a b : Bool) → (a && b) ≡ true → (a ≡ true) × (b ≡ true)
both true b e = (refl, e)
both false b e = absurd (cc)

pub and_true : (a b : Bool) → a ≡ true → b ≡ true → (a && b) ≡ true
and_true true b e f = f
and_true false b e f = absurd (cc)

-- what stands below the length is there
pub there : {X : Type 0} (xs : List X) (i : ℕ) → ltb i (length xs) ≡ true → (x : X) × (slice_get xs i ≡ Some x)
there {X} xs i lt = at xs i (ltb-true i (length xs) lt)
  where
    at : (xs : List X) (i : ℕ) → i < length xs → (x : X) × (slice_get xs i ≡ Some x)
    at [] i lt = absurd (omega arith)
    at (x ∷ xs) zero lt = (x, refl)
    at (x ∷ xs) (suc i) lt = at xs i (omega arith)

pub all_at : {X : Type 0} (p : X → Bool) (xs : List X) (i : ℕ) (x : X) → list_all p xs ≡ true → slice_get xs i ≡ Some x
    → p x ≡ true
all_at p [] i x all at = absurd (cc)
all_at p (y ∷ xs) zero x all at = let same : y ≡ x = cc in
    subst (λ z. p z ≡ true) same (both (p y) (list_all p xs) all).0
all_at p (y ∷ xs) (suc i) x all at = all_at p xs i x (both (p y) (list_all p xs) all).1 at

pub each_at : {X : Type 0} (p : ℕ → X → Bool) (n : ℕ) (xs : List X) (i k : ℕ) (x : X) → each_from p n xs ≡ true
    → slice_get xs i ≡ Some x → k ≡ n + i → p k x ≡ true
each_at p n [] i k x all at is = absurd (cc)
each_at p n (y ∷ xs) zero k x all at is =
    let same : y ≡ x = cc in
    let here : n ≡ k = omega arith in
    subst (λ m. p m x ≡ true) here (subst (λ z. p n z ≡ true) same (both (p n y) (each_from p (n + 1) xs) all).0)
each_at p n (y ∷ xs) (suc i) k x all at is = each_at p (n + 1) xs i k x (both (p n y) (each_from p (n + 1) xs) all).1
    at (omega arith)

module _ (t : Tables) (typed : IsWellTyped t) where
  pub range_at : (i : ℕ) (d : IntDecl) → slice_get t.ints i ≡ Some d → IsTrue (is_range d)
  range_at i d at = all_at is_range t.ints i d typed.ranges at

  pub enum_at : (e : ℕ) (d : EnumDecl) → slice_get t.enums e ≡ Some d → IsTrue (is_enum d)
  enum_at e d at = all_at is_enum t.enums e d typed.variants at

  -- the type of a record's field is of earlier records
  pub field_before : (r i : ℕ) (d : RecDecl) (p : Part) → slice_get t.records r ≡ Some d → slice_get d.fields i ≡ Some p
      → IsTrue (is_type_before t r p.ty)
  field_before r i d p at field =
      let whole = each_at (is_record t) 0 t.records r r d typed.fields at (omega arith) in
      let types = (both (list_all (λ q. is_type_before t r q.ty && is_type_in_use t q.ty) d.fields)
      ((are_distinct (part_names d.fields) && list_all is_name (part_names d.fields))
      && is_type_in_use t (form.Rec r))
      (both (leb 1 (length d.fields)) _ whole).1).0 in
      (both (is_type_before t r p.ty) (is_type_in_use t p.ty) (all_at (λ q. is_type_before t r q.ty
      && is_type_in_use t q.ty) d.fields i p types field)).0

-- What a relabelled value is.
use Rattle.std.proofs.Common.{◌≡◌, ℕ, ℤ, ◌==◌, Bool, true, false, not, ◌&&◌, ◌||◌, if◌then◌else◌, List, [], ◌∷◌, map}
use Rattle.std.proofs.Common.{Option, Some, None, slice_get, IsTrue, refl, sym, ap, ◌∙◌, arith}
use Rattle.std.proofs.lemmas.Bool.Decides.{nat_tests}
use Rattle.cm_model.specs.Tables.{Tables}
use Rattle.cm_model.specs.declared.ty.Ty.{Ty, out-Ty}
use Rattle.cm_model.specs.declared.ty.Ty.TheOpen.{Ty-F}
use Rattle.cm_model.specs.declared.ty.RecDecl.{RecDecl}
use Rattle.cm_value.specs.declared.value.Swap.{Swap}
use Rattle.cm_value.specs.declared.value.Value.{Value}
use Rattle.cm_value.specs.declared.value.Value.TheVariants as value
use Rattle.cm_value.specs.Membership.{Member, field_types, member_of, are_members, is_value_of, is_some_of}
use Rattle.cm_value.specs.Membership.{is_record_of, has_fields}
use Rattle.cm_value.specs.Relabelling.{LacksBoth, relabelled, Relabel, swapped, relabel_of, relabel_step}
use Rattle.cm_value.specs.Relabelling.{each_relabelled, is_of_sort, types_of_fields, type_of_payload, Stands}
use Rattle.cm_value.specs.Relabelling.{stands_in_one, stands_step, stands_of}
use Rattle.cm_value.proofs.Folds.{fold-elem, fold-int, fold-tag, fold-rec, fold-none, fold-some}
use Rattle.cm_value.proofs.Members.{member-elem, member-rec, member-some}
use Rattle.cm_value.proofs.Induction.{Each, value_ind}

swapped_twice : (x y n : ℕ) → swapped x y (swapped x y n) ≡ n
swapped_twice x y n = grind (arith, nat_tests)

module _ (t : Tables) (by : Swap) where
  abbrev new_element : Option Ty → ℕ → ℕ
  new_element o n = if is_of_sort by.sort o then swapped by.x by.y n else n

  new_element_twice : (o : Option Ty) (n : ℕ) → new_element o (new_element o n) ≡ n
  new_element_twice o n = twice (is_of_sort by.sort o)
    where
      twice : (b : Bool) → (if b then swapped by.x by.y (if b then swapped by.x by.y n else n)
          else (if b then swapped by.x by.y n else n)) ≡ n
      twice true = swapped_twice by.x by.y n
      twice false = refl

  module _ (o : Option Ty) where
    abbrev typed : Relabel → Value
    typed m = m o

    pub relabel-elem : (n : ℕ) → relabel_of t by (value.Elem n) o ≡ value.Elem (new_element o n)
    relabel-elem n = ap typed (fold-elem (relabel_step t by) n)

    pub relabel-int : (n : ℤ) → relabel_of t by (value.Int n) o ≡ value.Int n
    relabel-int n = ap typed (fold-int (relabel_step t by) n)

    pub relabel-tag : (n : ℕ) → relabel_of t by (value.Tag n) o ≡ value.Tag n
    relabel-tag n = ap typed (fold-tag (relabel_step t by) n)

    pub relabel-rec : (vs : List Value) → relabel_of t by (value.Rec vs) o ≡ value.Rec
        (each_relabelled (map (relabel_of t by) vs) (types_of_fields t o))
    relabel-rec vs = ap typed (fold-rec (relabel_step t by) vs)

    pub relabel-none : relabel_of t by value.None o ≡ value.None
    relabel-none = ap typed (fold-none (relabel_step t by))

    pub relabel-some : (v : Value) → relabel_of t by (value.Some v) o ≡ value.Some
        (relabel_of t by v (type_of_payload o))
    relabel-some v = ap typed (fold-some (relabel_step t by) v)

  -- relabelling twice gives the value back
  abbrev Back : Value → Type 0
  Back v = (o : Option Ty) → relabel_of t by (relabel_of t by v o) o ≡ v

  all_back : (vs : List Value) (tys : List Ty) → Each Back vs
      → each_relabelled (map (relabel_of t by) (each_relabelled (map (relabel_of t by) vs) tys)) tys ≡ vs
  all_back [] tys back = refl
  all_back (v ∷ vs) [] back =
      ap (λ w. w ∷ each_relabelled (map (relabel_of t by) (each_relabelled (map (relabel_of t by) vs) [])) [])
      (back.0 None)
      ∙ ap (λ ws. v ∷ ws) (all_back vs [] back.1)
  all_back (v ∷ vs) (u ∷ tys) back =
      ap (λ w. w ∷ each_relabelled (map (relabel_of t by) (each_relabelled (map (relabel_of t by) vs) tys)) tys)
      (back.0 (Some u))
      ∙ ap (λ ws. v ∷ ws) (all_back vs tys back.1)

  abbrev again : Option Ty → Value → Value
  again o v = relabel_of t by v o

  pub relabel_back : (v : Value) → Back v
  relabel_back = value_ind Back
      (λ n o. ap (again o) (relabel-elem o n) ∙ relabel-elem o (new_element o n)
      ∙ ap value.Elem (new_element_twice o n))
      (λ n o. ap (again o) (relabel-int o n) ∙ relabel-int o n)
      (λ n o. ap (again o) (relabel-tag o n) ∙ relabel-tag o n)
      (λ vs back o. ap (again o) (relabel-rec o vs) ∙ relabel-rec o (each_relabelled (map (relabel_of t by) vs)
      (types_of_fields t o))
      ∙ ap value.Rec (all_back vs (types_of_fields t o) back))
      (λ o. ap (again o) (relabel-none o) ∙ relabel-none o)
      (λ v back o. ap (again o) (relabel-some o v) ∙ relabel-some o (relabel_of t by v (type_of_payload o))
      ∙ ap value.Some (back (type_of_payload o)))

  -- a relabelled value is of the same types
  abbrev Alike : Value → Type 0
  Alike v = (o : Option Ty) (u : Ty) → is_value_of t u (relabel_of t by v o) ≡ is_value_of t u v

  all_alike : (vs : List Value) (tys us : List Ty) → Each Alike vs
      → are_members (map (member_of t) (each_relabelled (map (relabel_of t by) vs) tys)) us ≡ are_members
      (map (member_of t) vs) us
  all_alike [] tys us alike = refl
  all_alike (v ∷ vs) [] [] alike = refl
  all_alike (v ∷ vs) (w ∷ tys) [] alike = refl
  all_alike (v ∷ vs) [] (u ∷ us) alike =
      ap (λ b. b && are_members (map (member_of t) (each_relabelled (map (relabel_of t by) vs) [])) us) (alike.0 None u)
      ∙ ap (λ b. is_value_of t u v && b) (all_alike vs [] us alike.1)
  all_alike (v ∷ vs) (w ∷ tys) (u ∷ us) alike =
      ap (λ b. b && are_members (map (member_of t) (each_relabelled (map (relabel_of t by) vs) tys)) us)
      (alike.0 (Some w) u)
      ∙ ap (λ b. is_value_of t u v && b) (all_alike vs tys us alike.1)

  same_record : (ms ns : List Member) → ((us : List Ty) → are_members ms us ≡ are_members ns us) → (x : Ty-F Ty)
      → is_record_of t x ms ≡ is_record_of t x ns
  same_record ms ns same (Ty-F.Sort s) = refl
  same_record ms ns same (Ty-F.Int i) = refl
  same_record ms ns same (Ty-F.Enum e) = refl
  same_record ms ns same (Ty-F.Rec r) = fields (slice_get t.records r)
    where
      fields : (d : Option RecDecl) → has_fields d ms ≡ has_fields d ns
      fields (Some d) = same (field_types d)
      fields None = refl
  same_record ms ns same (Ty-F.Option payload) = refl

  same_some : (m n : Member) → ((u : Ty) → m u ≡ n u) → (x : Ty-F Ty) → is_some_of x m ≡ is_some_of x n
  same_some m n same (Ty-F.Sort s) = refl
  same_some m n same (Ty-F.Int i) = refl
  same_some m n same (Ty-F.Enum e) = refl
  same_some m n same (Ty-F.Rec r) = refl
  same_some m n same (Ty-F.Option payload) = same payload

  pub relabel_alike : (v : Value) → Alike v
  relabel_alike = value_ind Alike
      (λ n o u. ap (is_value_of t u) (relabel-elem o n) ∙ member-elem t u (new_element o n) ∙ sym (member-elem t u n))
      (λ n o u. ap (is_value_of t u) (relabel-int o n))
      (λ n o u. ap (is_value_of t u) (relabel-tag o n))
      (λ vs alike o u. ap (is_value_of t u) (relabel-rec o vs)
      ∙ member-rec t u (each_relabelled (map (relabel_of t by) vs) (types_of_fields t o))
      ∙ same_record (map (member_of t) (each_relabelled (map (relabel_of t by) vs) (types_of_fields t o)))
      (map (member_of t) vs)
      (λ us. all_alike vs (types_of_fields t o) us alike) (out-Ty u)
      ∙ sym (member-rec t u vs))
      (λ o u. ap (is_value_of t u) (relabel-none o))
      (λ v alike o u. ap (is_value_of t u) (relabel-some o v) ∙ member-some t u (relabel_of t by v (type_of_payload o))
      ∙ same_some (member_of t (relabel_of t by v (type_of_payload o))) (member_of t v) (alike (type_of_payload o))
      (out-Ty u)
      ∙ sym (member-some t u v))

  -- a value in which neither element stands stays as it is
  abbrev neither : Value → Option Ty → Type 0
  neither v o = (stands_of t by.sort by.x v o ≡ false) × (stands_of t by.sort by.y v o ≡ false)

  abbrev Untouched : Value → Type 0
  Untouched v = (o : Option Ty) → neither v o → relabel_of t by v o ≡ v

  same_element : (o : Option Ty) (n : ℕ) → (is_of_sort by.sort o && (n == by.x)) ≡ false
      → (is_of_sort by.sort o && (n == by.y)) ≡ false → new_element o n ≡ n
  same_element o n = cases (is_of_sort by.sort o) (n == by.x) (n == by.y)
    where
      cases : (b x y : Bool) → (b && x) ≡ false → (b && y) ≡ false
          → (if b then (if x then by.y else if y then by.x else n) else n) ≡ n
      cases false x y e f = refl
      cases true true y e f = absurd (cc)
      cases true false true e f = absurd (cc)
      cases true false false e f = refl

  module _ (x : ℕ) (o : Option Ty) where
    abbrev under : Stands → Bool
    under m = m o

    stands-elem : (n : ℕ) → stands_of t by.sort x (value.Elem n) o ≡ (is_of_sort by.sort o && (n == x))
    stands-elem n = ap under (fold-elem (stands_step t by.sort x) n)

    stands-rec : (vs : List Value) → stands_of t by.sort x (value.Rec vs) o ≡ stands_in_one
        (map (stands_of t by.sort x) vs) (types_of_fields t o)
    stands-rec vs = ap under (fold-rec (stands_step t by.sort x) vs)

    stands-some : (v : Value) → stands_of t by.sort x (value.Some v) o ≡ stands_of t by.sort x v (type_of_payload o)
    stands-some v = ap under (fold-some (stands_step t by.sort x) v)

  neither_of : (a b : Bool) → (a || b) ≡ false → (a ≡ false) × (b ≡ false)
  neither_of false b e = (refl, e)
  neither_of true b e = absurd (cc)

  all_untouched : (vs : List Value) (tys : List Ty) → Each Untouched vs
      → stands_in_one (map (stands_of t by.sort by.x) vs) tys ≡ false
      → stands_in_one (map (stands_of t by.sort by.y) vs) tys ≡ false
      → each_relabelled (map (relabel_of t by) vs) tys ≡ vs
  all_untouched [] tys same e f = refl
  all_untouched (v ∷ vs) [] same e f =
      let x = neither_of (stands_of t by.sort by.x v None) (stands_in_one (map (stands_of t by.sort by.x) vs) []) e in
      let y = neither_of (stands_of t by.sort by.y v None) (stands_in_one (map (stands_of t by.sort by.y) vs) []) f in
      ap (λ w. w ∷ each_relabelled (map (relabel_of t by) vs) []) (same.0 None (x.0, y.0))
      ∙ ap (λ ws. v ∷ ws) (all_untouched vs [] same.1 x.1 y.1)
  all_untouched (v ∷ vs) (u ∷ tys) same e f =
      let x = neither_of (stands_of t by.sort by.x v (Some u)) (stands_in_one (map (stands_of t by.sort by.x) vs) tys)
      e in
      let y = neither_of (stands_of t by.sort by.y v (Some u)) (stands_in_one (map (stands_of t by.sort by.y) vs) tys)
      f in
      ap (λ w. w ∷ each_relabelled (map (relabel_of t by) vs) tys) (same.0 (Some u) (x.0, y.0))
      ∙ ap (λ ws. v ∷ ws) (all_untouched vs tys same.1 x.1 y.1)

  pub relabel_untouched : (v : Value) → Untouched v
  relabel_untouched = value_ind Untouched
      (λ n o h. relabel-elem o n ∙ ap value.Elem (same_element o n (sym (stands-elem by.x o n) ∙ h.0)
      (sym (stands-elem by.y o n) ∙ h.1)))
      (λ n o h. relabel-int o n)
      (λ n o h. relabel-tag o n)
      (λ vs same o h. relabel-rec o vs ∙ ap value.Rec (all_untouched vs (types_of_fields t o) same
      (sym (stands-rec by.x o vs) ∙ h.0) (sym (stands-rec by.y o vs) ∙ h.1)))
      (λ o h. relabel-none o)
      (λ v same o h. relabel-some o v ∙ ap value.Some (same (type_of_payload o) (
        sym (stands-some by.x o v) ∙ h.0,
        sym (stands-some by.y o v) ∙ h.1,
      )))

  lacking : (b : Bool) → IsTrue (not b) → b ≡ false
  lacking true e = absurd (cc)
  lacking false e = refl

  pub lacks_both : (u : Ty) (v : Value) → LacksBoth t by u v → relabelled t by u v ≡ v
  lacks_both u v h = relabel_untouched v (Some u) (
    lacking (stands_of t by.sort by.x v (Some u)) h.0,
    lacking (stands_of t by.sort by.y v (Some u)) h.1,
  )

  -- different values stay different
  pub relabel_apart : (u : Ty) (v w : Value) → relabelled t by u v ≡ relabelled t by u w → v ≡ w
  relabel_apart u v w same = sym (relabel_back v (Some u)) ∙ ap (λ z. relabelled t by u z) same
      ∙ relabel_back w (Some u)

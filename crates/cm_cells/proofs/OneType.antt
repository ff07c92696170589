-- Keys of one type that hold no option are alike.
use Rattle.std.proofs.Common.{◌≡◌, refl, ℕ, ℤ, ◌==◌, ltb, Bool, true, false, ◌&&◌, List, [], ◌∷◌, map, Option, Some}
use Rattle.std.proofs.Common.{None, slice_get, sym, subst, ap, ◌∙◌, if◌then◌else◌}
use Rattle.std.specs.List.{list_all}
use Rattle.std.proofs.lemmas.Bool.{and_parts, lt-ltb}
use Rattle.cm_model.specs.Limits.{variant_limit}
use Rattle.cm_model.specs.Tables.{Tables}
use Rattle.cm_model.specs.WellTyped.{IsWellTyped}
use Rattle.cm_model.specs.declared.variable.SortVar.{SortVar}
use Rattle.cm_model.specs.declared.ty.Ty.{Ty, out-Ty}
use Rattle.cm_model.specs.declared.ty.Ty.TheOpen.{Ty-F}
use Rattle.cm_model.specs.declared.ty.RecDecl.{RecDecl}
use Rattle.cm_value.specs.declared.value.Value.{Value}
use Rattle.cm_value.specs.declared.value.Value.TheVariants as value
use Rattle.cm_value.specs.Membership.{member_of, are_members, is_value_of, is_sort, is_number_of, is_variant_of}
use Rattle.cm_value.specs.Membership.{is_record_of, is_none_of, is_some_of, has_fields, field_types}
use Rattle.cm_value.proofs.Folds as values
use Rattle.cm_value.proofs.Declared.{and_true}
use Rattle.cm_value.proofs.Limited.{value_is_limited, limited_tag}
use Rattle.cm_value.proofs.Members.{member-elem, member-int, member-tag, member-rec, member-none, member-some}
use Rattle.cm_term.specs.declared.atom.Num.{Num}
use Rattle.cm_term.specs.declared.atom.Tag.{Tag}
use Rattle.cm_term.specs.declared.atom.OptVar.{OptVar}
use Rattle.cm_term.specs.declared.term.Term.{Term, out-Term}
use Rattle.cm_term.specs.declared.term.Term.TheVariants as term
use Rattle.cm_term.specs.declared.term.Term.TheOpen.{Term-F}
use Rattle.cm_term.specs.Valuation.{Valuation}
use Rattle.cm_term.specs.Atoms.{num_under, tag_under}
use Rattle.cm_term.specs.Terms.{value_of}
use Rattle.cm_term.proofs.Folds as terms
use Rattle.cm_term.proofs.Values.{value_elem, value_num, value_tag, value_rec, value_none, value_some, value_either}
use Rattle.cm_term.proofs.Induction.{Each, term_ind}
use Rattle.cm_cells.specs.Comparison.{elem_in, num_in, tag_in, fields_in}
use Rattle.cm_cells.specs.Alike.{is_there, is_variant, is_variant_in, all_alike, fields_alike, alike, alike_step}
use Rattle.cm_cells.specs.Alike.{is_without_options, plain_step}
use Rattle.cm_cells.proofs.Beside.{whole}

-- the form of a term, and of the values of a type
abbrev form_of : Term-F Term → ℕ
form_of (Term-F.Elem x) = 0
form_of (Term-F.Num a) = 1
form_of (Term-F.Tag a) = 2
form_of (Term-F.Rec ts) = 3
form_of Term-F.None = 4
form_of (Term-F.Some t) = 4
form_of (Term-F.Either o) = 4

abbrev form_in : Ty-F Ty → ℕ
form_in (Ty-F.Sort s) = 0
form_in (Ty-F.Int i) = 1
form_in (Ty-F.Enum e) = 2
form_in (Ty-F.Rec r) = 3
form_in (Ty-F.Option u) = 4

elem_there : (y : Term-F Term) → form_of y ≡ 0 → is_there (elem_in y) ≡ true
elem_there (Term-F.Elem x) e = refl
elem_there (Term-F.Num a) e = absurd (cc)
elem_there (Term-F.Tag a) e = absurd (cc)
elem_there (Term-F.Rec ts) e = absurd (cc)
elem_there Term-F.None e = absurd (cc)
elem_there (Term-F.Some t) e = absurd (cc)
elem_there (Term-F.Either o) e = absurd (cc)

num_there : (y : Term-F Term) → form_of y ≡ 1 → is_there (num_in y) ≡ true
num_there (Term-F.Num a) e = refl
num_there (Term-F.Elem x) e = absurd (cc)
num_there (Term-F.Tag a) e = absurd (cc)
num_there (Term-F.Rec ts) e = absurd (cc)
num_there Term-F.None e = absurd (cc)
num_there (Term-F.Some t) e = absurd (cc)
num_there (Term-F.Either o) e = absurd (cc)

module _ (m : Tables) (typed : IsWellTyped m) (v : Valuation) where
  sort_at : (x : Ty-F Ty) → is_sort m x ≡ true → form_in x ≡ 0
  sort_at (Ty-F.Sort s) h = refl
  sort_at (Ty-F.Int i) h = absurd (cc)
  sort_at (Ty-F.Enum e) h = absurd (cc)
  sort_at (Ty-F.Rec r) h = absurd (cc)
  sort_at (Ty-F.Option u) h = absurd (cc)

  int_at : (n : ℤ) (x : Ty-F Ty) → is_number_of m x n ≡ true → form_in x ≡ 1
  int_at n (Ty-F.Int i) h = refl
  int_at n (Ty-F.Sort s) h = absurd (cc)
  int_at n (Ty-F.Enum e) h = absurd (cc)
  int_at n (Ty-F.Rec r) h = absurd (cc)
  int_at n (Ty-F.Option u) h = absurd (cc)

  enum_at : (n : ℕ) (x : Ty-F Ty) → is_variant_of m x n ≡ true → form_in x ≡ 2
  enum_at n (Ty-F.Enum e) h = refl
  enum_at n (Ty-F.Sort s) h = absurd (cc)
  enum_at n (Ty-F.Int i) h = absurd (cc)
  enum_at n (Ty-F.Rec r) h = absurd (cc)
  enum_at n (Ty-F.Option u) h = absurd (cc)

  record_at : (ms : List (Ty → Bool)) (x : Ty-F Ty) → is_record_of m x ms ≡ true → form_in x ≡ 3
  record_at ms (Ty-F.Rec r) h = refl
  record_at ms (Ty-F.Sort s) h = absurd (cc)
  record_at ms (Ty-F.Int i) h = absurd (cc)
  record_at ms (Ty-F.Enum e) h = absurd (cc)
  record_at ms (Ty-F.Option u) h = absurd (cc)

  none_at : (x : Ty-F Ty) → is_none_of x ≡ true → form_in x ≡ 4
  none_at (Ty-F.Option u) h = refl
  none_at (Ty-F.Sort s) h = absurd (cc)
  none_at (Ty-F.Int i) h = absurd (cc)
  none_at (Ty-F.Enum e) h = absurd (cc)
  none_at (Ty-F.Rec r) h = absurd (cc)

  some_at : (f : Ty → Bool) (x : Ty-F Ty) → is_some_of x f ≡ true → form_in x ≡ 4
  some_at f (Ty-F.Option u) h = refl
  some_at f (Ty-F.Sort s) h = absurd (cc)
  some_at f (Ty-F.Int i) h = absurd (cc)
  some_at f (Ty-F.Enum e) h = absurd (cc)
  some_at f (Ty-F.Rec r) h = absurd (cc)

  abbrev IsOf : Ty → Term → Type 0
  IsOf ty t = is_value_of m ty (value_of v t) ≡ true

  -- with the value of a term in place of the term
  seen : (ty : Ty) (t : Term) (w : Value) → value_of v t ≡ w → IsOf ty t → is_value_of m ty w ≡ true
  seen ty t w e is = sym (ap (is_value_of m ty) e) ∙ is

  elem_form : (ty : Ty) (x : SortVar) → IsOf ty (term.Elem x) → form_in (out-Ty ty) ≡ 0
  elem_form ty x is = sort_at (out-Ty ty) (sym (member-elem m ty _) ∙ seen ty _ _ (value_elem v x) is)

  num_form : (ty : Ty) (a : Num) → IsOf ty (term.Num a) → form_in (out-Ty ty) ≡ 1
  num_form ty a is = int_at _ (out-Ty ty) (sym (member-int m ty _) ∙ seen ty _ _ (value_num v a) is)

  tag_form : (ty : Ty) (a : Tag) → IsOf ty (term.Tag a) → form_in (out-Ty ty) ≡ 2
  tag_form ty a is = enum_at _ (out-Ty ty) (sym (member-tag m ty _) ∙ seen ty _ _ (value_tag v a) is)

  record_is : (ty : Ty) (ts : List Term) → IsOf ty (term.Rec ts)
      → is_record_of m (out-Ty ty) (map (member_of m) (map (value_of v) ts)) ≡ true
  record_is ty ts is = sym (member-rec m ty _) ∙ seen ty _ _ (value_rec v ts) is

  option_form : (ty : Ty) (o : OptVar) → IsOf ty (term.Either o) → form_in (out-Ty ty) ≡ 4
  option_form ty o is = by (v.present o.0 == 1) (seen ty _ _ (value_either v o) is)
    where
      by : (b : Bool) → is_value_of m ty (if b then value.Some (v.payload o.0) else value.None) ≡ true
          → form_in (out-Ty ty) ≡ 4
      by true is = some_at _ (out-Ty ty) (sym (member-some m ty _) ∙ is)
      by false is = none_at (out-Ty ty) (sym (member-none m ty) ∙ is)

  -- a term has the form of its value's type
  form_fits : (ty : Ty) (u : Term) → IsOf ty u → form_of (out-Term u) ≡ form_in (out-Ty ty)
  form_fits ty u is = by (out-Term u) refl
    where
      of_form : (t : Term) → u ≡ t → IsOf ty t
      of_form t e = subst (IsOf ty) e is

      by : (y : Term-F Term) → out-Term u ≡ y → form_of y ≡ form_in (out-Ty ty)
      by (Term-F.Elem x) e = sym (elem_form ty x (of_form _ (whole u (Term-F.Elem x) e ∙ term.rolls-Elem x)))
      by (Term-F.Num a) e = sym (num_form ty a (of_form _ (whole u (Term-F.Num a) e ∙ term.rolls-Num a)))
      by (Term-F.Tag a) e = sym (tag_form ty a (of_form _ (whole u (Term-F.Tag a) e ∙ term.rolls-Tag a)))
      by (Term-F.Rec ts) e =
          sym (record_at _ (out-Ty ty) (record_is ty ts (of_form _ (whole u (Term-F.Rec ts) e ∙ term.rolls-Rec ts))))
      by Term-F.None e =
          sym (none_at (out-Ty ty) (sym (member-none m ty)
          ∙ seen ty _ _ (value_none v) (of_form _ (whole u Term-F.None e ∙ term.rolls-None))))
      by (Term-F.Some t) e =
          sym (some_at _ (out-Ty ty) (sym (member-some m ty _)
          ∙ seen ty _ _ (value_some v t) (of_form _ (whole u (Term-F.Some t) e ∙ term.rolls-Some t))))
      by (Term-F.Either o) e =
          sym (option_form ty o (of_form _ (whole u (Term-F.Either o) e ∙ term.rolls-Either o)))

  few : (ty : Ty) (a : Tag) → IsOf ty (term.Tag a) → is_variant v a ≡ true
  few ty a is =
      let n = tag_under v.tag a in
      let limited = value_is_limited m typed (value.Tag n) ty (seen ty _ _ (value_tag v a) is) in
      lt-ltb n variant_limit (limited_tag n limited)

  variant_there : (ty : Ty) (u : Term) → IsOf ty u → form_in (out-Ty ty) ≡ 2
      → is_variant_in v (tag_in (out-Term u)) ≡ true
  variant_there ty u is two = by (out-Term u) refl (form_fits ty u is ∙ two)
    where
      by : (y : Term-F Term) → out-Term u ≡ y → form_of y ≡ 2 → is_variant_in v (tag_in y) ≡ true
      by (Term-F.Tag a) e f = few ty a (subst (IsOf ty) (whole u (Term-F.Tag a) e ∙ term.rolls-Tag a) is)
      by (Term-F.Elem x) e f = absurd (cc)
      by (Term-F.Num a) e f = absurd (cc)
      by (Term-F.Rec ts) e f = absurd (cc)
      by Term-F.None e f = absurd (cc)
      by (Term-F.Some t) e f = absurd (cc)
      by (Term-F.Either o) e f = absurd (cc)

  abbrev Plain : Term → Type 0
  Plain t = is_without_options (value_of v t) ≡ true

  abbrev Comes : Term → Type 0
  Comes t = (ty : Ty) (u : Term) → IsOf ty t → IsOf ty u → Plain t → alike v t u ≡ true

  elem_comes : (x : SortVar) → Comes (term.Elem x)
  elem_comes x ty u a b p =
      ap (λ f. f u) (terms.fold-elem (alike_step v) x)
      ∙ elem_there (out-Term u) (form_fits ty u b ∙ elem_form ty x a)

  num_comes : (n : Num) → Comes (term.Num n)
  num_comes n ty u a b p =
      ap (λ f. f u) (terms.fold-num (alike_step v) n) ∙ num_there (out-Term u) (form_fits ty u b ∙ num_form ty n a)

  tag_comes : (i : Tag) → Comes (term.Tag i)
  tag_comes i ty u a b p =
      ap (λ f. f u) (terms.fold-tag (alike_step v) i)
      ∙ and_true (is_variant v i) (is_variant_in v (tag_in (out-Term u))) (few ty i a)
      (variant_there ty u b (tag_form ty i a))

  abbrev members : List Term → List (Ty → Bool)
  members ts = map (member_of m) (map (value_of v) ts)

  lists_come : (ts us : List Term) (tys : List Ty) → Each Comes ts → are_members (members ts) tys ≡ true
      → are_members (members us) tys ≡ true → list_all (λ b. b) (map is_without_options (map (value_of v) ts)) ≡ true
      → all_alike (map (alike v) ts) us ≡ true
  lists_come [] [] tys e a b p = refl
  lists_come [] (u ∷ us) [] e a b p = absurd (cc)
  lists_come [] (u ∷ us) (ty ∷ tys) e a b p = absurd (cc)
  lists_come (t ∷ ts) [] [] e a b p = absurd (cc)
  lists_come (t ∷ ts) [] (ty ∷ tys) e a b p = absurd (cc)
  lists_come (t ∷ ts) (u ∷ us) [] e a b p = absurd (cc)
  lists_come (t ∷ ts) (u ∷ us) (ty ∷ tys) e a b p =
      let c = and_parts (is_value_of m ty (value_of v t)) (are_members (members ts) tys) a in
      let d = and_parts (is_value_of m ty (value_of v u)) (are_members (members us) tys) b in
      let f = and_parts (is_without_options (value_of v t))
      (list_all (λ b. b) (map is_without_options (map (value_of v) ts))) p in
      and_true (alike v t u) (all_alike (map (alike v) ts) us) (e.0 ty u c.0 d.0 f.0)
      (lists_come ts us tys e.1 c.1 d.1 f.1)

  fields_come : (ts us : List Term) → Each Comes ts → (x : Ty-F Ty) → is_record_of m x (members ts) ≡ true
      → is_record_of m x (members us) ≡ true → list_all (λ b. b) (map is_without_options (map (value_of v) ts)) ≡ true
      → all_alike (map (alike v) ts) us ≡ true
  fields_come ts us e (Ty-F.Rec r) a b p = found (slice_get m.records r) a b
    where
      found : (o : Option RecDecl) → has_fields o (members ts) ≡ true → has_fields o (members us) ≡ true
          → all_alike (map (alike v) ts) us ≡ true
      found (Some d) a b = lists_come ts us (field_types d) e a b p
      found None a b = absurd (cc)
  fields_come ts us e (Ty-F.Sort s) a b p = absurd (cc)
  fields_come ts us e (Ty-F.Int i) a b p = absurd (cc)
  fields_come ts us e (Ty-F.Enum i) a b p = absurd (cc)
  fields_come ts us e (Ty-F.Option o) a b p = absurd (cc)

  rec_comes : (ts : List Term) → Each Comes ts → Comes (term.Rec ts)
  rec_comes ts each ty u a b p =
      ap (λ f. f u) (terms.fold-rec (alike_step v) ts)
      ∙ by (out-Term u) refl (form_fits ty u b ∙ record_at _ (out-Ty ty) (record_is ty ts a))
    where
      parts : list_all (λ b. b) (map is_without_options (map (value_of v) ts)) ≡ true
      parts = sym (ap is_without_options (value_rec v ts) ∙ values.fold-rec plain_step (map (value_of v) ts)) ∙ p

      by : (y : Term-F Term) → out-Term u ≡ y → form_of y ≡ 3 → fields_alike (map (alike v) ts) (fields_in y) ≡ true
      by (Term-F.Rec us) e f =
          fields_come ts us each (out-Ty ty) (record_is ty ts a)
          (record_is ty us (subst (IsOf ty) (whole u (Term-F.Rec us) e ∙ term.rolls-Rec us) b)) parts
      by (Term-F.Elem x) e f = absurd (cc)
      by (Term-F.Num n) e f = absurd (cc)
      by (Term-F.Tag i) e f = absurd (cc)
      by Term-F.None e f = absurd (cc)
      by (Term-F.Some t) e f = absurd (cc)
      by (Term-F.Either o) e f = absurd (cc)

  none_comes : Comes term.None
  none_comes ty u a b p =
      absurd (let f = sym (ap is_without_options (value_none v) ∙ values.fold-none plain_step) ∙ p in cc)

  some_comes : (t : Term) → Comes t → Comes (term.Some t)
  some_comes t e ty u a b p =
      absurd (let f = sym (ap is_without_options (value_some v t) ∙ values.fold-some plain_step (value_of v t)) ∙ p in
      cc)

  either_comes : (o : OptVar) → Comes (term.Either o)
  either_comes o ty u a b p =
      absurd (by (v.present o.0 == 1) (sym (ap is_without_options (value_either v o)) ∙ p))
    where
      by : (b : Bool) → is_without_options (if b then value.Some (v.payload o.0) else value.None) ≡ true → ⊥
      by true q = let f = sym (values.fold-some plain_step (v.payload o.0)) ∙ q in cc
      by false q = let f = sym (values.fold-none plain_step) ∙ q in cc

  pub one_type : (ty : Ty) (t u : Term) → is_value_of m ty (value_of v t) ≡ true
      → is_value_of m ty (value_of v u) ≡ true → is_without_options (value_of v t) ≡ true → alike v t u ≡ true
  one_type ty t u a b p =
      term_ind Comes elem_comes num_comes tag_comes rec_comes none_comes some_comes either_comes t ty u a b p

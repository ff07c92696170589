-- The least value of a type is a value of it.
use Rattle.std.proofs.Common.{◌≡◌, ℕ, zero, suc, ◌<◌, ◌≤◌, ℤ, pos, negsuc, Bool, true, ◌&&◌, List, [], ◌∷◌, map, take}
use Rattle.std.proofs.Common.{length, Some, slice_get, IsTrue, leb, int_le, refl, sym, ap, ◌∙◌, subst, arith}
use Rattle.std.proofs.lemmas.Bool.{ltb-true, lt-ltb, leb-true, le-leb}
use Rattle.cm_model.specs.Tables.{Tables}
use Rattle.cm_model.specs.Types.{IsType, is_type_before, ty_step}
use Rattle.cm_model.specs.Limits.{is_number}
use Rattle.cm_model.specs.WellTyped.{IsWellTyped, is_range, is_enum}
use Rattle.cm_model.specs.declared.ty.Ty.{Ty, out-Ty}
use Rattle.cm_model.specs.declared.ty.Ty.TheOpen.{Ty-F}
use Rattle.cm_model.specs.declared.ty.Ty.TheFolds.{map-Ty}
use Rattle.cm_model.specs.declared.ty.IntDecl.{IntDecl}
use Rattle.cm_model.specs.declared.ty.EnumDecl.{EnumDecl}
use Rattle.cm_model.specs.declared.ty.RecDecl.{RecDecl}
use Rattle.cm_model.specs.declared.ty.Part.{Part}
use Rattle.cm_value.specs.declared.value.Value.{Value}
use Rattle.cm_value.specs.Membership.{member_of, are_members, IsValueOf, is_sort, is_number_of, is_variant_of}
use Rattle.cm_value.specs.Membership.{is_record_of, is_none_of, is_within, has_variant, has_fields}
use Rattle.cm_value.specs.Least.{least_of, least_in, least_form, least_records, lowest, or_empty}
use Rattle.cm_value.proofs.Types.{type_before}
use Rattle.cm_value.proofs.Declared.{both, and_true, there, range_at, enum_at, field_before}
use Rattle.cm_value.proofs.Members.{member-elem, member-int, member-tag, member-rec, member-none}
use Rattle.cm_value.proofs.LeastRecords.{least_at}

at_most_itself : (n : ℤ) → int_le n n ≡ true
at_most_itself (pos n) = le-leb n n (omega arith)
at_most_itself (negsuc n) = le-leb n n (omega arith)

module _ (t : Tables) (typed : IsWellTyped t) where
  fields_made : (f : Ty → Value) (ps : List Part) → ((i : ℕ) (p : Part) → slice_get ps i ≡ Some p
      → IsValueOf t p.ty (f p.ty))
      → are_members (map (member_of t) (map (λ p. f p.ty) ps)) (map (λ p. p.ty) ps) ≡ true
  fields_made f [] each = refl
  fields_made f (p ∷ ps) each = and_true _ _ (each 0 p refl) (fields_made f ps (λ i q at. each (suc i) q at))

  lowest_within : (d : IntDecl) → IsTrue (is_range d) → is_within (Some d) d.lo ≡ true
  lowest_within d range = and_true (int_le d.lo d.lo) (int_le d.lo d.hi) (at_most_itself d.lo)
      (both (is_number d.lo && is_number d.hi) (int_le d.lo d.hi) range).1

  first_variant : (d : EnumDecl) → IsTrue (is_enum d) → has_variant (Some d) 0 ≡ true
  first_variant d some = lt-ltb 0 (length d.variants) (leb-true 1 (length d.variants)
      (both (leb 1 (length d.variants)) (leb (length d.variants) 64) some).0)

  abbrev made_before : ℕ → Ty → Value
  made_before n = least_in t.ints (least_records t.ints (take n t.records))

  -- so it is where records are among the first n
  abbrev Made : ℕ → Type 0
  Made n = (u : Ty) → IsTrue (is_type_before t n u) → IsValueOf t u (made_before n u)

  made_record : (n : ℕ) → n ≤ length t.records → ((r : ℕ) → r < n → Made r) → (u : Ty) (r : ℕ) → out-Ty u ≡ Ty-F.Rec r
      → r < n
      → IsValueOf t u (or_empty (slice_get (least_records t.ints (take n t.records)) r))
  made_record n within earlier u r e lt =
      let d = there t.records r (lt-ltb r (length t.records) (omega arith)) in
      subst (IsValueOf t u) (sym (least_at t.ints t.records n r d.0 lt d.1))
      (member-rec t u (map (λ p. made_before r p.ty) d.0.fields)
      ∙ ap (λ y. is_record_of t y (map (member_of t) (map (λ p. made_before r p.ty) d.0.fields))) e
      ∙ ap (λ o. has_fields o (map (member_of t) (map (λ p. made_before r p.ty) d.0.fields))) d.1
      ∙ fields_made (made_before r) d.0.fields (λ i p at. earlier r lt p.ty (field_before t typed r i d.0 p d.1 at)))

  made_form : (n : ℕ) → n ≤ length t.records → ((r : ℕ) → r < n → Made r) → (u : Ty) (x : Ty-F Ty) → out-Ty u ≡ x
      → IsTrue (ty_step t n (map-Ty Ty Bool (is_type_before t n) x))
      → IsValueOf t u (least_form t.ints (least_records t.ints (take n t.records)) x)
  made_form n within earlier u (Ty-F.Sort s) e is = member-elem t u 0 ∙ ap (is_sort t) e ∙ is
  made_form n within earlier u (Ty-F.Int i) e is =
      let d = there t.ints i is in
      member-int t u (lowest (slice_get t.ints i)) ∙ ap (λ y. is_number_of t y (lowest (slice_get t.ints i))) e
      ∙ ap (λ o. is_within o (lowest o)) d.1 ∙ lowest_within d.0 (range_at t typed i d.0 d.1)
  made_form n within earlier u (Ty-F.Enum k) e is =
      let d = there t.enums k is in
      member-tag t u 0 ∙ ap (λ y. is_variant_of t y 0) e ∙ ap (λ o. has_variant o 0) d.1
      ∙ first_variant d.0 (enum_at t typed k d.0 d.1)
  made_form n within earlier u (Ty-F.Rec r) e is = made_record n within earlier u r e (ltb-true r n is)
  made_form n within earlier u (Ty-F.Option payload) e is = member-none t u ∙ ap is_none_of e

  made : (most n : ℕ) → n ≤ most → n ≤ length t.records → Made n
  made zero n le within u is = made_form n within (λ r lt. absurd (omega arith)) u (out-Ty u) refl
      (sym (type_before t n u) ∙ is)
  made (suc most) n le within u is =
      made_form n within (λ r lt. made most r (omega arith) (omega arith)) u (out-Ty u) refl (sym (type_before t n u)
      ∙ is)

  whole : (rs : List RecDecl) → take (length rs) rs ≡ rs
  whole [] = refl
  whole (r ∷ rs) = ap (λ qs. r ∷ qs) (whole rs)

  pub least_is_value : (u : Ty) → IsType t u → IsValueOf t u (least_of t u)
  least_is_value u is = subst (λ rs. IsValueOf t u (least_in t.ints (least_records t.ints rs) u)) (whole t.records)
      (made (length t.records) (length t.records) (omega arith) (omega arith) u is)

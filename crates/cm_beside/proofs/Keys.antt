-- A value of a key's type holds no option.
use Rattle.std.proofs.Common.{◌≡◌, ◌<◌, ℕ, zero, suc, Bool, true, false, not, ◌||◌, List, [], ◌∷◌, map}
use Rattle.std.proofs.Common.{take, slice_get, Option, Some, None, refl, sym, ap, ◌∙◌, subst, arith}
use Rattle.std.specs.List.{list_all}
use Rattle.std.proofs.lemmas.Bool.{and_parts, and_from, ltb-true}
use Rattle.cm_model.specs.Tables.{Tables}
use Rattle.cm_model.specs.WellTyped.{IsWellTyped, is_key_type, is_state}
use Rattle.cm_model.specs.Types.{is_type_before, is_type_in_use, ty_step, option_step, holds_option, holds_option_in}
use Rattle.cm_model.specs.Types.{record_options, any_of, or_else}
use Rattle.cm_model.specs.declared.ty.Ty.{Ty, out-Ty}
use Rattle.cm_model.specs.declared.ty.Ty.TheVariants as ty
use Rattle.cm_model.specs.declared.ty.Ty.TheViews.{roll-Ty, roll-out-Ty}
use Rattle.cm_model.specs.declared.ty.Ty.TheOpen.{Ty-F}
use Rattle.cm_model.specs.declared.ty.Part.{Part}
use Rattle.cm_model.specs.declared.ty.RecDecl.{RecDecl}
use Rattle.cm_model.specs.declared.body.StateDecl.{StateDecl}
use Rattle.cm_value.proofs.LeastRecords.{value_at}
use Rattle.cm_value.specs.declared.value.Value.{Value}
use Rattle.cm_value.specs.declared.value.Value.TheVariants as value
use Rattle.cm_value.specs.Membership.{IsValueOf, member_of, are_members, is_record_of, is_none_of, is_some_of}
use Rattle.cm_value.specs.Membership.{has_fields}
use Rattle.cm_value.proofs.Folds as values
use Rattle.cm_value.proofs.Induction.{Each, value_ind}
use Rattle.cm_value.proofs.Members.{member-rec, member-none, member-some}
use Rattle.cm_value.proofs.Types.{fold-record, fold-sort, fold-int_type, fold-enum, fold-option}
use Rattle.cm_value.proofs.Declared.{field_before, all_at}
use Rattle.cm_ctx.proofs.Makers.{ty_ind}
use Rattle.cm_cells.specs.Alike.{is_without_options, plain_step}

module _ (t : Tables) (typed : IsWellTyped t) where
  -- which of the first n records hold an option
  abbrev among : ℕ → List Bool
  among n = record_options (take n t.records)

  abbrev SameAt : ℕ → List Bool → List Bool → Type 0
  SameAt n vs ws = (r : ℕ) → r < n → slice_get vs r ≡ slice_get ws r

  -- a type over the first n records is judged by these alone
  judged : (n : ℕ) (vs ws : List Bool) → SameAt n vs ws → (u : Ty) → is_type_before t n u ≡ true
      → holds_option_in vs u ≡ holds_option_in ws u
  judged n vs ws same =
      ty_ind (λ u. is_type_before t n u ≡ true → holds_option_in vs u ≡ holds_option_in ws u)
      (λ s h. fold-sort (option_step vs) s ∙ sym (fold-sort (option_step ws) s))
      (λ i h. fold-int_type (option_step vs) i ∙ sym (fold-int_type (option_step ws) i))
      (λ e h. fold-enum (option_step vs) e ∙ sym (fold-enum (option_step ws) e))
      (λ r h. fold-record (option_step vs) r
      ∙ ap (or_else false) (same r (ltb-true r n (sym (fold-record (ty_step t n) r) ∙ h)))
      ∙ sym (fold-record (option_step ws) r))
      (λ u k h. fold-option (option_step vs) u ∙ sym (fold-option (option_step ws) u))

  abbrev of_record : List Bool → RecDecl → Bool
  of_record vs d = any_of (map (λ p. holds_option_in vs p.ty) d.fields)

  taken_at : {X : Type 0} (xs : List X) (n i : ℕ) (x : X) → i < n → slice_get xs i ≡ Some x
      → slice_get (take n xs) i ≡ Some x
  taken_at xs zero i x lt at = absurd (omega arith)
  taken_at [] (suc n) i x lt at = at
  taken_at (y ∷ xs) (suc n) zero x lt at = at
  taken_at (y ∷ xs) (suc n) (suc i) x lt at = taken_at xs n i x (omega arith) at

  taken_in : {X : Type 0} (xs : List X) (n i : ℕ) → i < n → take i (take n xs) ≡ take i xs
  taken_in xs n zero lt = refl
  taken_in xs zero (suc i) lt = absurd (omega arith)
  taken_in [] (suc n) (suc i) lt = refl
  taken_in (x ∷ xs) (suc n) (suc i) lt = ap (λ ys. x ∷ ys) (taken_in xs n i (omega arith))

  earlier : {X : Type 0} (xs : List X) (r q : ℕ) (d : X) → slice_get xs r ≡ Some d → q < r
      → (x : X) × (slice_get xs q ≡ Some x)
  earlier [] r q d at lt = absurd (cc)
  earlier (x ∷ xs) zero q d at lt = absurd (omega arith)
  earlier (x ∷ xs) (suc r) zero d at lt = (x, refl)
  earlier (x ∷ xs) (suc r) (suc q) d at lt = earlier xs r q d at (omega arith)

  -- the earlier records have what they have among all
  agree : (r : ℕ) (d : RecDecl) → slice_get t.records r ≡ Some d → SameAt r (among r) (record_options t.records)
  agree r d at q lt =
      let x = earlier t.records r q d at lt in
      value_at of_record (take r t.records) q x.0 (taken_at t.records r q x.0 lt x.1)
      ∙ ap (λ rs. Some (of_record (record_options rs) x.0)) (taken_in t.records r q lt)
      ∙ sym (value_at of_record t.records q x.0 x.1)

  -- a record without options has fields without options
  abbrev Without : Ty → Type 0
  Without u = holds_option t u ≡ false

  none_of : (fs : List Part) (vs : List Bool) → any_of (map (λ p. holds_option_in vs p.ty) fs) ≡ false → (i : ℕ) (p : Part)
      → slice_get fs i ≡ Some p → holds_option_in vs p.ty ≡ false
  none_of [] vs h i p at = absurd (cc)
  none_of (f ∷ fs) vs h zero p at =
      let same : f ≡ p = cc in subst (λ q. holds_option_in vs q.ty ≡ false) same (left _ _ h)
    where
      left : (a b : Bool) → (a || b) ≡ false → a ≡ false
      left true b h = absurd (cc)
      left false b h = refl
  none_of (f ∷ fs) vs h (suc i) p at = none_of fs vs (right _ _ h) i p at
    where
      right : (a b : Bool) → (a || b) ≡ false → b ≡ false
      right true b h = absurd (cc)
      right false b h = h

  fields_without : (r : ℕ) (d : RecDecl) → slice_get t.records r ≡ Some d
      → or_else false (slice_get (record_options t.records) r) ≡ false → (i : ℕ) (p : Part)
      → slice_get d.fields i ≡ Some p → Without p.ty
  fields_without r d at h i p field =
      sym (judged r (among r) (record_options t.records) (agree r d at) p.ty (field_before t typed r i d p at field))
      ∙ none_of d.fields (among r)
      (sym (ap (or_else false) (value_at of_record t.records r d at)) ∙ h) i p field

  abbrev IsPlain : Value → Type 0
  IsPlain v = (u : Ty) → IsValueOf t u v → Without u → is_without_options v ≡ true

  all_plain : (vs : List Value) → Each IsPlain vs → (fs : List Part)
      → are_members (map (member_of t) vs) (map (λ (p : Part). p.ty) fs) ≡ true
      → ((i : ℕ) (p : Part) → slice_get fs i ≡ Some p → Without p.ty)
      → list_all (λ b. b) (map is_without_options vs) ≡ true
  all_plain [] e fs h each = refl
  all_plain (v ∷ vs) e [] h each = absurd (cc)
  all_plain (v ∷ vs) e (f ∷ fs) h each =
      let both = and_parts (member_of t v f.ty) (are_members (map (member_of t) vs) (map (λ (p : Part). p.ty) fs)) h in
      and_from (is_without_options v) _ (e.0 f.ty both.0 (each 0 f refl))
      (all_plain vs e.1 fs both.1 (λ i p at. each (suc i) p at))

  rec_plain : (vs : List Value) → Each IsPlain vs → IsPlain (value.Rec vs)
  rec_plain vs e u is without =
      values.fold-rec plain_step vs ∙ by (out-Ty u) refl (sym (member-rec t u vs) ∙ is)
    where
      found : (r : ℕ) → out-Ty u ≡ Ty-F.Rec r → (o : Option RecDecl) → slice_get t.records r ≡ o
          → has_fields o (map (member_of t) vs) ≡ true → list_all (λ b. b) (map is_without_options vs) ≡ true
      found r f (Some d) at k =
          all_plain vs e d.fields k (fields_without r d at
          (sym (fold-record (option_step (record_options t.records)) r)
          ∙ sym (ap (holds_option t) (sym (roll-out-Ty u) ∙ ap roll-Ty f ∙ ty.rolls-Rec r)) ∙ without))
      found r f None at k = absurd (cc)

      by : (z : Ty-F Ty) → out-Ty u ≡ z → is_record_of t z (map (member_of t) vs) ≡ true
          → list_all (λ b. b) (map is_without_options vs) ≡ true
      by (Ty-F.Rec r) f k = found r f (slice_get t.records r) refl k
      by (Ty-F.Sort i) f k = absurd (cc)
      by (Ty-F.Int i) f k = absurd (cc)
      by (Ty-F.Enum i) f k = absurd (cc)
      by (Ty-F.Option w) f k = absurd (cc)

  no_option : (u w : Ty) → out-Ty u ≡ Ty-F.Option w → Without u → ⊥
  no_option u w f without =
      let yes_ : holds_option t u ≡ true =
      ap (holds_option t) (sym (roll-out-Ty u) ∙ ap roll-Ty f ∙ ty.rolls-Option w)
      ∙ fold-option (option_step (record_options t.records)) w in
      let no_ = without in cc

  none_plain : IsPlain value.None
  none_plain u is without = by (out-Ty u) refl (sym (member-none t u) ∙ is)
    where
      by : (z : Ty-F Ty) → out-Ty u ≡ z → is_none_of z ≡ true → is_without_options value.None ≡ true
      by (Ty-F.Option w) f k = absurd (no_option u w f without)
      by (Ty-F.Sort i) f k = absurd (cc)
      by (Ty-F.Int i) f k = absurd (cc)
      by (Ty-F.Enum i) f k = absurd (cc)
      by (Ty-F.Rec i) f k = absurd (cc)

  some_plain : (v : Value) → IsPlain v → IsPlain (value.Some v)
  some_plain v e u is without = by (out-Ty u) refl (sym (member-some t u v) ∙ is)
    where
      by : (z : Ty-F Ty) → out-Ty u ≡ z → is_some_of z (member_of t v) ≡ true → is_without_options (value.Some v) ≡ true
      by (Ty-F.Option w) f k = absurd (no_option u w f without)
      by (Ty-F.Sort i) f k = absurd (cc)
      by (Ty-F.Int i) f k = absurd (cc)
      by (Ty-F.Enum i) f k = absurd (cc)
      by (Ty-F.Rec i) f k = absurd (cc)

  plain : (v : Value) → IsPlain v
  plain = value_ind IsPlain (λ n u is w. values.fold-elem plain_step n) (λ n u is w. values.fold-int plain_step n)
      (λ n u is w. values.fold-tag plain_step n) rec_plain none_plain some_plain

  -- a key of a state's key type holds no option
  pub key_is_plain : (s : ℕ) (d : StateDecl) (u : Ty) (v : Value) → slice_get t.states s ≡ Some d → d.key ≡ Some u
      → IsValueOf t u v → is_without_options v ≡ true
  key_is_plain s d u v at key is = plain v u is (negated _ (and_parts (is_type_in_use t u) _ typed_key).1)
    where
      typed_key : is_key_type t (Some u) ≡ true
      typed_key = subst (λ k. is_key_type t k ≡ true) key
          (and_parts (is_key_type t d.key) _ (all_at (is_state t) t.states s d typed.cells at)).0

      negated : (b : Bool) → not b ≡ true → b ≡ false
      negated true h = absurd (cc)
      negated false h = refl

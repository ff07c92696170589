-- Induction over what is made for types, and over the records before each record.
use Rattle.std.proofs.Common.{◌≡◌, ℕ, zero, suc, ◌<◌, ◌≤◌, inl, inr, List, [], ◌∷◌, map, take, length}
use Rattle.std.proofs.Common.{slice_get, Some, refl, sym, ap, subst, ◌∙◌, arith}
use Rattle.std.proofs.lemmas.Bool.{cases_lt}
use Rattle.cm_model.specs.Types.{or_else}
use Rattle.cm_model.specs.declared.ty.Ty.{Ty}
use Rattle.cm_model.specs.declared.ty.Ty.TheVariants as ty
use Rattle.cm_model.specs.declared.ty.Ty.TheVariants.{rolls-Sort, rolls-Int, rolls-Enum, rolls-Rec, rolls-Option}
use Rattle.cm_model.specs.declared.ty.Ty.TheViews.{roll-Ty}
use Rattle.cm_model.specs.declared.ty.Ty.TheOpen.{Ty-F}
use Rattle.cm_model.specs.declared.ty.Ty.TheFolds.{ind-Ty, map-Ty}
use Rattle.cm_model.specs.declared.ty.Part.{Part}
use Rattle.cm_model.specs.declared.ty.IntDecl.{IntDecl}
use Rattle.cm_model.specs.declared.ty.EnumDecl.{EnumDecl}
use Rattle.cm_model.specs.declared.ty.RecDecl.{RecDecl}
use Rattle.cm_value.proofs.LeastRecords.{value_at}
use Rattle.cm_value.proofs.Types.{fold-sort, fold-int_type, fold-enum, fold-record, fold-option}
use Rattle.cm_ctx.specs.Making.{Maker, element_made, number_made, tag_made, option_made, record_made, make_step}
use Rattle.cm_ctx.specs.Making.{made_in, record_maker, record_makers}
use Rattle.cm_ctx.proofs.Growing.{no_maker}

module _ (Q : Ty → Type 0) where
  abbrev Known : Type 0
  Known = (u : Ty) × Q u

  module _ (sort : (s : ℕ) → Q (ty.Sort s)) (int : (i : ℕ) → Q (ty.Int i)) (enum : (e : ℕ) → Q (ty.Enum e))
      (rec : (r : ℕ) → Q (ty.Rec r)) (option : (u : Ty) → Q u → Q (ty.Option u)) where
    layer : (y : Ty-F Known) → Q (roll-Ty (map-Ty Known Ty (λ k. k.0) y))
    layer (Ty-F.Sort s) = subst Q (sym (rolls-Sort s)) (sort s)
    layer (Ty-F.Int i) = subst Q (sym (rolls-Int i)) (int i)
    layer (Ty-F.Enum e) = subst Q (sym (rolls-Enum e)) (enum e)
    layer (Ty-F.Rec r) = subst Q (sym (rolls-Rec r)) (rec r)
    layer (Ty-F.Option k) = subst Q (sym (rolls-Option k.0)) (option k.0 k.1)

    -- a fact of all types, form by form
    pub ty_ind : (u : Ty) → Q u
    ty_ind = ind-Ty Q (λ x y is. subst (λ z. Q (roll-Ty z)) is (layer y))

get_taken : {X : Type 0} (xs : List X) (n i : ℕ) (x : X) → i < n → slice_get xs i ≡ Some x
    → slice_get (take n xs) i ≡ Some x
get_taken xs zero i x lt at = absurd (omega arith)
get_taken [] (suc n) i x lt at = at
get_taken (y ∷ xs) (suc n) zero x lt at = at
get_taken (y ∷ xs) (suc n) (suc i) x lt at = get_taken xs n i x (omega arith) at

taken : {X : Type 0} (xs : List X) (n i : ℕ) → i ≤ n → take i (take n xs) ≡ take i xs
taken xs n zero le = refl
taken xs zero (suc i) le = absurd (omega arith)
taken [] (suc n) (suc i) le = refl
taken (x ∷ xs) (suc n) (suc i) le = ap (λ ys. x ∷ ys) (taken xs n i (omega arith))

few_taken : {X : Type 0} (xs : List X) (n : ℕ) → length (take n xs) ≤ n
few_taken xs zero = omega arith
few_taken [] (suc n) = omega arith
few_taken (x ∷ xs) (suc n) = let rest = few_taken xs n in omega arith

there : {X : Type 0} (xs : List X) (i : ℕ) → i < length xs → (x : X) × (slice_get xs i ≡ Some x)
there [] i lt = absurd (omega arith)
there (x ∷ xs) zero lt = (x, refl)
there (x ∷ xs) (suc i) lt = there xs i (omega arith)

module _ (ints : List IntDecl) (enums : List EnumDecl) (rs : List RecDecl) where
  abbrev pub made_before : ℕ → Ty → Maker
  made_before n = made_in ints enums (record_makers ints enums (take n rs))

  -- a record's maker among the first ones is that of its fields, whose records are before it
  maker_among : (n r : ℕ) (d : RecDecl) → r < n → slice_get rs r ≡ Some d
      → or_else (record_made []) (slice_get (record_makers ints enums (take n rs)) r) ≡ record_made
      (map (λ (p : Part). made_before r p.ty) d.fields)
  unfolding record_makers
  maker_among n r d lt at =
      ap (or_else (record_made [])) (value_at (record_maker ints enums) (take n rs) r d (get_taken rs n r d lt at))
      ∙ ap (λ qs. record_maker ints enums (record_makers ints enums qs) d) (taken rs n r (omega arith))

  -- a fact of types whose records are among the first n, and of what is made for them
  module _ (P : ℕ → Ty → Maker → Type 0)
      (sort : (n s : ℕ) → P n (ty.Sort s) (element_made s))
      (int : (n i : ℕ) → P n (ty.Int i) (number_made (slice_get ints i)))
      (enum : (n e : ℕ) → P n (ty.Enum e) (tag_made (slice_get enums e)))
      (option : (n : ℕ) (u : Ty) (m : Maker) → P n u m → P n (ty.Option u) (option_made m))
      (record_there : (n r : ℕ) (d : RecDecl) → r < n → slice_get rs r ≡ Some d → (f : Ty → Maker)
      → ((u : Ty) → P r u (f u)) → P n (ty.Rec r) (record_made (map (λ (p : Part). f p.ty) d.fields)))
      (no_record : (n r : ℕ) → n ≤ r → P n (ty.Rec r) (record_made [])) where
    abbrev step : ℕ → Ty-F Maker → Maker
    step n = make_step ints enums (record_makers ints enums (take n rs))

    abbrev All : ℕ → Type 0
    All n = (u : Ty) → P n u (made_before n u)

    rec_case : (n : ℕ) → n ≤ length rs → ((r : ℕ) → r < n → All r) → (r : ℕ)
        → P n (ty.Rec r) (or_else (record_made []) (slice_get (record_makers ints enums (take n rs)) r))
    rec_case n within earlier r = elim (cases_lt r n) [
      | inl lt ↦
          let d = there rs r (omega arith) in
          subst (P n (ty.Rec r)) (sym (maker_among n r d.0 lt d.1))
          (record_there n r d.0 lt d.1 (made_before r) (earlier r lt))
      | inr le ↦ subst (P n (ty.Rec r)) (sym (no_maker ints enums (take n rs) r
          (let few = few_taken rs n in omega arith))) (no_record n r le)
    ]

    one_more : (n : ℕ) → n ≤ length rs → ((r : ℕ) → r < n → All r) → All n
    one_more n within earlier = ty_ind (λ u. P n u (made_before n u))
        (λ s. subst (P n (ty.Sort s)) (sym (fold-sort (step n) s)) (sort n s))
        (λ i. subst (P n (ty.Int i)) (sym (fold-int_type (step n) i)) (int n i))
        (λ e. subst (P n (ty.Enum e)) (sym (fold-enum (step n) e)) (enum n e))
        (λ r. subst (P n (ty.Rec r)) (sym (fold-record (step n) r)) (rec_case n within earlier r))
        (λ u k. subst (P n (ty.Option u)) (sym (fold-option (step n) u)) (option n u (made_before n u) k))

    up_to : (most n : ℕ) → n ≤ most → n ≤ length rs → All n
    up_to zero n le within = one_more n within (λ r lt. absurd (omega arith))
    up_to (suc most) n le within = one_more n within (λ r lt. up_to most r (omega arith) (omega arith))

    whole : {X : Type 0} (xs : List X) → take (length xs) xs ≡ xs
    whole [] = refl
    whole (x ∷ xs) = ap (λ ys. x ∷ ys) (whole xs)

    pub maker_ind : (u : Ty) → P (length rs) u (made_in ints enums (record_makers ints enums rs) u)
    maker_ind u = subst (λ qs. P (length rs) u (made_in ints enums (record_makers ints enums qs) u)) (whole rs)
        (up_to (length rs) (length rs) (omega arith) (omega arith) u)

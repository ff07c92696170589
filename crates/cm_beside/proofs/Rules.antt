-- Each operation of the rules on terms does what it does on values: it keeps the relation of the two.
use Rattle.std.proofs.Common.{◌≡◌, ◌<◌, ◌≤◌, ℕ, zero, suc, ◌==◌, ltb, ℤ, pos, neg_ℤ, ◌+ℤ◌, int_le}
use Rattle.std.proofs.Common.{Bool, true, false, ◌&&◌, ◌||◌, List, [], ◌∷◌, map, length, slice_get, slice_set, Option, Some}
use Rattle.std.proofs.Common.{None, IsTrue, refl, sym, ap, ◌∙◌, subst, arith, if◌then◌else◌}
use Rattle.std.specs.Prelude.{option_map}
use Rattle.std.specs.Ordering.{int_eq}
use Rattle.std.proofs.lemmas.Bool.{and_parts, and_from, eqb-true, eq-eqb, ltb-true, lt-ltb}
use Rattle.std.proofs.Math.Bool.{or-true}
use Rattle.std.proofs.lemmas.Bool.Decides.{Decides-int_eq}
use Rattle.std.proofs.lemmas.Int.{ints}
use Rattle.cm_model.specs.Limits.{number_limit, shift_limit}
use Rattle.cm_model.specs.Limits as limits
use Rattle.cm_model.specs.Tables.{Tables}
use Rattle.cm_model.specs.WellTyped.{IsWellTyped, is_range}
use Rattle.cm_model.specs.Types.{is_type_in_use}
use Rattle.cm_model.specs.Kinds.{Kind, Number, Of, is_integer, is_integer_ty, bool_ty, field_of, fields_of, fields_in}
use Rattle.cm_model.specs.Kinds.{payload_of}
use Rattle.cm_model.specs.Kinds as kinds
use Rattle.cm_model.specs.declared.ty.Ty.{Ty, out-Ty}
use Rattle.cm_model.specs.declared.ty.Ty.TheVariants as ty
use Rattle.cm_model.specs.declared.ty.Ty.TheOpen.{Ty-F}
use Rattle.cm_model.specs.declared.ty.Part.{Part}
use Rattle.cm_model.specs.declared.ty.IntDecl.{IntDecl}
use Rattle.cm_model.specs.declared.ty.EnumDecl.{EnumDecl}
use Rattle.cm_model.specs.declared.ty.RecDecl.{RecDecl}
use Rattle.cm_model.proofs.KindParts.{given_some}
use Rattle.cm_value.specs.declared.value.Value.{Value}
use Rattle.cm_value.specs.declared.value.Value.TheVariants as value
use Rattle.cm_value.specs.Membership.{is_variant_of, is_number_of, is_within, has_variant, field_types}
use Rattle.cm_value.proofs.Types.{out_int, out_enum, out_rec, out_option}
use Rattle.cm_value.proofs.Declared.{range_at}
use Rattle.cm_term.specs.declared.atom.Num.{Num}
use Rattle.cm_term.specs.declared.atom.Num.TheVariants as num
use Rattle.cm_term.specs.declared.atom.Tag.{Tag}
use Rattle.cm_term.specs.declared.atom.Tag.TheVariants as tag
use Rattle.cm_term.specs.declared.question.Question.{Question}
use Rattle.cm_term.specs.declared.question.Question.TheVariants as question
use Rattle.cm_term.specs.declared.term.Term.{Term, out-Term}
use Rattle.cm_term.specs.declared.term.Term.TheVariants as term
use Rattle.cm_term.specs.declared.term.Term.TheViews.{out-roll-Term}
use Rattle.cm_term.specs.declared.term.Term.TheOpen.{Term-F}
use Rattle.cm_term.specs.Atoms.{num_under, tag_under, shifted}
use Rattle.cm_term.specs.Questions.{outcome_under}
use Rattle.cm_eval.specs.Script.{Blocks, Decides, given}
use Rattle.cm_eval.specs.Evaluation.{Doing, bool, variant_of}
use Rattle.cm_eval.specs.Evaluation as evaluation
use Rattle.cm_eval.specs.Comparison as eval
use Rattle.cm_eval.specs.Values.{values, summed, placed}
use Rattle.cm_eval.specs.declared.operand.Operand.{Operand}
use Rattle.cm_eval.specs.declared.operand.Operand.TheVariants as operand
use Rattle.cm_eval.proofs.Examples.{out_tag}
use Rattle.cm_eval.proofs.Examples.{out_int as out_int_of, out_rec as out_rec_of}
use Rattle.cm_term.proofs.Values.{out_none, out_some}
use Rattle.cm_world.proofs.TypedValues.{bool_enum, in_range}
use Rattle.cm_cells.specs.Comparison.{num_in, tag_in, fields_in as fields_in_term}
use Rattle.cm_exec.specs.declared.operand.Operand as exec
use Rattle.cm_exec.specs.declared.operand.Operand.TheVariants as on_terms
use Rattle.cm_exec.specs.Asking.{opt_of}
use Rattle.cm_exec.specs.Asking as asking
use Rattle.cm_exec.specs.Terms.{Plan, terms}
use Rattle.cm_exec.specs.Terms as exec_terms
use Rattle.cm_relation.specs.Relation.{Relation, KeepRelation, IfBoth, AreAll}
use Rattle.cm_beside.specs.Grounds.{Grounds}
use Rattle.cm_beside.specs.Fits.{Fitting, Fits, is_number, is_choice, is_num, all_fit, is_record, is_none, is_some}
use Rattle.cm_beside.specs.Fits.{fields_fit, value_offset_limit, is_near}
use Rattle.cm_beside.specs.Related.{Related, FitsOperand, has_ends, is_numeral, operand_limit, asked_limit, IsGround}
use Rattle.cm_beside.proofs.Layers.{fitting, at_int, at_enum, at_record, AtRecord}
use Rattle.cm_beside.proofs.Fitting.{fit_int, fit_tag, fit_rec, fit_none, fit_some, decided}
use Rattle.cm_beside.proofs.Options.{OptionAt, IsNone, IsSome, option_at}
use Rattle.cm_beside.proofs.Near.{nearer, at_most, tested}
use Rattle.cm_beside.proofs.Comparing.{decides, compared, numbers_compared}
use Rattle.cm_beside.proofs.Questions.{few_variants, variant_asked, number_asked, small}

some_same : {X : Type 0} (x y : X) → Some x ≡ Some y → x ≡ y
some_same x y h = cc

int_same : (a : ℤ) → int_eq a a ≡ true
int_same a = grind (arith, ints)

ends_there : (ds : List IntDecl) (i : ℕ) (d : IntDecl) → slice_get ds i ≡ Some d → has_ends ds d.lo d.hi ≡ true
ends_there [] i d at = absurd (cc)
ends_there (e ∷ ds) zero d at =
    let same : e ≡ d = some_same e d at in
    rw same (ap (λ b. b || has_ends ds d.lo d.hi) (and_from _ _ (int_same d.lo) (int_same d.hi)))
ends_there (e ∷ ds) (suc i) d at =
    ap (λ b. (int_eq e.lo d.lo && int_eq e.hi d.hi) || b) (ends_there ds i d at) ∙ or-true _

pub out_tag_term : (a : Tag) → out-Term (term.Tag a) ≡ Term-F.Tag a
out_tag_term a = ap out-Term (sym (term.rolls-Tag a)) ∙ out-roll-Term (Term-F.Tag a)

pub out_num_term : (a : Num) → out-Term (term.Num a) ≡ Term-F.Num a
out_num_term a = ap out-Term (sym (term.rolls-Num a)) ∙ out-roll-Term (Term-F.Num a)

pub out_rec_term : (xs : List Term) → out-Term (term.Rec xs) ≡ Term-F.Rec xs
out_rec_term xs = ap out-Term (sym (term.rolls-Rec xs)) ∙ out-roll-Term (Term-F.Rec xs)

pub out_none_term : out-Term term.None ≡ Term-F.None
out_none_term = ap out-Term (sym term.rolls-None) ∙ out-roll-Term Term-F.None

pub out_some_term : (x : Term) → out-Term (term.Some x) ≡ Term-F.Some x
out_some_term x = ap out-Term (sym (term.rolls-Some x)) ∙ out-roll-Term (Term-F.Some x)

module _ (t : Tables) (typed : IsWellTyped t) (g : Grounds) (ground : IsGround g) (Q : Value → Term → Type 0) where
  abbrev Rel : Doing → Plan → Type 0
  Rel = Related t g Q

  abbrev fit : Value → Fitting
  fit = fitting t g

  abbrev out : Question → ℕ
  out = outcome_under g.valuation

  -- what is done on values, and on terms with the payloads
  abbrev pub sides : Relation Value Operand Doing Term exec.Operand (List Term → Plan)
  sides = record { value = Fits t g; operand = FitsOperand t g; doing = λ c f. Rel c (f g.payloads) }

  -- values that are made here
  tag_kept : (e i : ℕ) (d : EnumDecl) → slice_get t.enums e ≡ Some d → i < length d.variants
      → Fits t g (ty.Enum e) (value.Tag i) (term.Tag (tag.Const e i))
  tag_kept e i d at lt =
      fit_tag t g i (ty.Enum e) g.options (term.Tag (tag.Const e i))
      ∙ ap (λ y. is_choice t g (ty.Enum e) i (tag_in y)) (out_tag_term (tag.Const e i))
      ∙ and_from (i == i) _ (eq-eqb i i refl)
      (and_from (is_variant_of t (out-Ty (ty.Enum e)) i) true
      (ap (λ z. is_variant_of t z i) (out_enum e) ∙ ap (λ o. has_variant o i) at ∙ lt-ltb i (length d.variants) lt) refl)

  flag_kept : (b : Bool) → Fits t g bool_ty (bool b) (exec_terms.bool b)
  flag_kept b =
      let two = bool_enum t.enums typed.bool in
      tag_kept 0 (variant_of b) two.0 two.1 (subst (λ n. variant_of b < n) (sym two.2) (by b))
    where
      by : (b : Bool) → variant_of b < 2
      by true = omega arith
      by false = omega arith

  all_from : (us : List Ty) (vs : List Value) (xs : List Term) → AreAll (Fits t g) us vs xs
      → all_fit t g (map fit vs) us g.options xs ≡ true
  all_from [] [] [] h = refl
  all_from (u ∷ us) (v ∷ vs) (x ∷ xs) h = and_from (fit v u g.options x) _ h.0 (all_from us vs xs h.1)
  all_from [] [] (x ∷ xs) h = absurd h
  all_from [] (v ∷ vs) xs h = absurd h
  all_from (u ∷ us) [] xs h = absurd h
  all_from (u ∷ us) (v ∷ vs) [] h = absurd h

  make_kept : (n : ℕ) (d : RecDecl) (vs : List Value) (xs : List Term) → slice_get t.records n ≡ Some d
      → AreAll (Fits t g) (map (λ p. p.ty) d.fields) vs xs → Fits t g (ty.Rec n) (value.Rec vs) (term.Rec xs)
  make_kept n d vs xs at h =
      fit_rec t g vs (ty.Rec n) g.options (term.Rec xs)
      ∙ ap (λ y. is_record t g (map fit vs) (out-Ty (ty.Rec n)) g.options (fields_in_term y)) (out_rec_term xs)
      ∙ ap (λ z. is_record t g (map fit vs) z g.options (Some xs)) (out_rec n)
      ∙ ap (λ o. fields_fit t g (map fit vs) o g.options (Some xs)) at
      ∙ all_from (field_types d) vs xs h

  nothing_kept : (u : Ty) → IsTrue (is_type_in_use t (ty.Option u)) → Fits t g (ty.Option u) value.None term.None
  nothing_kept u in_use =
      fit_none t g (ty.Option u) g.options term.None
      ∙ ap (λ y. is_none t g (out-Ty (ty.Option u)) g.options y) out_none_term
      ∙ ap (λ z. is_none t g z g.options Term-F.None) (out_option u)

  some_kept : (u : Ty) (v : Value) (x : Term) → IsTrue (is_type_in_use t (ty.Option u)) → Fits t g u v x
      → Fits t g (ty.Option u) (value.Some v) (term.Some x)
  some_kept u v x in_use h =
      fit_some t g v (ty.Option u) g.options (term.Some x)
      ∙ ap (λ y. is_some t g (fit v) (out-Ty (ty.Option u)) g.options y) (out_some_term x)
      ∙ ap (λ z. is_some t g (fit v) z g.options (Term-F.Some x)) (out_option u)
      ∙ h

  -- a field of a record, and a record with another field
  record FieldAt (u w : Ty) (i : ℕ) (v : Value) (x : Term) : Type 0 where
    r : ℕ
    is_record : out-Ty u ≡ Ty-F.Rec r
    at : AtRecord t g u r g.options v x
    field : slice_get (field_types at.d) i ≡ Some w

  field_at : (u w : Ty) (i : ℕ) (v : Value) (x : Term) → Fits t g u v x → field_of t u i ≡ Some w
      → FieldAt u w i v x
  field_at u w i v x h f =
      let found = given_some (fields_of t u) (λ ps. option_map (λ (p : Part). p.ty) (slice_get ps i)) w f in
      by found.0 (out-Ty u) refl found.1 found.2
    where
      mapped : (ps : List Part) (j : ℕ) → option_map (λ (p : Part). p.ty) (slice_get ps j) ≡ Some w
          → slice_get (map (λ (p : Part). p.ty) ps) j ≡ Some w
      mapped [] j h = absurd (cc)
      mapped (p ∷ ps) zero h = h
      mapped (p ∷ ps) (suc j) h = mapped ps j h

      by : (ps : List Part) (z : Ty-F Ty) → out-Ty u ≡ z → fields_in t z ≡ Some ps
          → option_map (λ (p : Part). p.ty) (slice_get ps i) ≡ Some w → FieldAt u w i v x
      by ps (Ty-F.Rec r) e k l =
          let a = at_record t g u r e v g.options x h in
          record {
            r = r;
            is_record = e;
            at = a;
            field =
                ap (λ qs. slice_get (map (λ (p : Part). p.ty) qs) i)
                (some_same a.d.fields ps (sym (ap (option_map (λ (d : RecDecl). d.fields)) a.declared) ∙ k))
                ∙ mapped ps i l;
          }
      by ps (Ty-F.Sort s) e k l = absurd (cc)
      by ps (Ty-F.Int s) e k l = absurd (cc)
      by ps (Ty-F.Enum s) e k l = absurd (cc)
      by ps (Ty-F.Option s) e k l = absurd (cc)

  one_fits : (us : List Ty) (vs : List Value) (xs : List Term) (i : ℕ) (w : Ty)
      → all_fit t g (map fit vs) us g.options xs ≡ true → slice_get us i ≡ Some w
      → IfBoth (Fits t g w) (slice_get vs i) (slice_get xs i)
  one_fits [] vs xs i w h f = absurd (cc)
  one_fits (u ∷ us) [] xs i w h f = absurd (cc)
  one_fits (u ∷ us) (v ∷ vs) [] i w h f = absurd (cc)
  one_fits (u ∷ us) (v ∷ vs) (x ∷ xs) zero w h f =
      let both = and_parts (fit v u g.options x) (all_fit t g (map fit vs) us g.options xs) h in
      subst (λ y. fit v y g.options x ≡ true) (some_same u w f) both.0
  one_fits (u ∷ us) (v ∷ vs) (x ∷ xs) (suc i) w h f =
      one_fits us vs xs i w (and_parts (fit v u g.options x) (all_fit t g (map fit vs) us g.options xs) h).1 f

  parts_are : (v : Value) (vs : List Value) → v ≡ value.Rec vs → eval.parts_of v ≡ Some vs
  parts_are v vs e = ap eval.parts_of e ∙ ap eval.parts_in (out_rec_of vs)

  field_kept : (u w : Ty) (v : Value) (x : Term) (i : ℕ) → Fits t g u v x → field_of t u i ≡ Some w
      → IfBoth (Fits t g w) (evaluation.field_in (eval.parts_of v) i) (exec_terms.field_in (fields_in_term (out-Term x)) i)
  field_kept u w v x i h f =
      let a = field_at u w i v x h f in
      subst (λ o. IfBoth (Fits t g w) (evaluation.field_in o i) (exec_terms.field_in (fields_in_term (out-Term x)) i))
      (sym (parts_are v a.at.parts a.at.value_is))
      (subst (λ o. IfBoth (Fits t g w) (slice_get a.at.parts i) (exec_terms.field_in o i)) (sym a.at.term_is)
      (one_fits (field_types a.at.d) a.at.parts a.at.fields i w a.at.fit a.field))

  with_one : (us : List Ty) (vs : List Value) (xs : List Term) (i : ℕ) (w : Ty) (y : Value) (z : Term)
      → all_fit t g (map fit vs) us g.options xs ≡ true → slice_get us i ≡ Some w → Fits t g w y z
      → all_fit t g (map fit (slice_set vs i y)) us g.options (slice_set xs i z) ≡ true
  with_one [] vs xs i w y z h f new = absurd (cc)
  with_one (u ∷ us) [] xs i w y z h f new = absurd (cc)
  with_one (u ∷ us) (v ∷ vs) [] i w y z h f new = absurd (cc)
  with_one (u ∷ us) (v ∷ vs) (x ∷ xs) zero w y z h f new =
      let both = and_parts (fit v u g.options x) (all_fit t g (map fit vs) us g.options xs) h in
      and_from (fit y u g.options z) _ (subst (λ q. fit y q g.options z ≡ true) (sym (some_same u w f)) new) both.1
  with_one (u ∷ us) (v ∷ vs) (x ∷ xs) (suc i) w y z h f new =
      let both = and_parts (fit v u g.options x) (all_fit t g (map fit vs) us g.options xs) h in
      and_from (fit v u g.options x) _ both.0 (with_one us vs xs i w y z both.1 f new)

  within : (us : List Ty) (vs : List Value) (xs : List Term) (i : ℕ) (w : Ty)
      → all_fit t g (map fit vs) us g.options xs ≡ true → slice_get us i ≡ Some w
      → (ltb i (length vs) ≡ true) × (ltb i (length xs) ≡ true)
  within [] vs xs i w h f = absurd (cc)
  within (u ∷ us) [] xs i w h f = absurd (cc)
  within (u ∷ us) (v ∷ vs) [] i w h f = absurd (cc)
  within (u ∷ us) (v ∷ vs) (x ∷ xs) zero w h f =
      (lt-ltb 0 (length (v ∷ vs)) (omega arith), lt-ltb 0 (length (x ∷ xs)) (omega arith))
  within (u ∷ us) (v ∷ vs) (x ∷ xs) (suc i) w h f =
      more (within us vs xs i w (and_parts (fit v u g.options x) (all_fit t g (map fit vs) us g.options xs) h).1 f)
    where
      more : (ltb i (length vs) ≡ true) × (ltb i (length xs) ≡ true)
          → (ltb (suc i) (length (v ∷ vs)) ≡ true) × (ltb (suc i) (length (x ∷ xs)) ≡ true)
      more both =
          let a : i < length vs = ltb-true i (length vs) both.0 in
          let b : i < length xs = ltb-true i (length xs) both.1 in
          (lt-ltb (suc i) (length (v ∷ vs)) (omega (arith, a)), lt-ltb (suc i) (length (x ∷ xs)) (omega (arith, b)))

  with_field_kept : (u w : Ty) (v : Value) (x : Term) (i : ℕ) (y : Value) (z : Term) → Fits t g u v x
      → field_of t u i ≡ Some w → Fits t g w y z
      → IfBoth (Fits t g u) (evaluation.with_field v i y) (exec_terms.fields_with (fields_in_term (out-Term x)) i z)
  with_field_kept u w v x i y z h f new =
      let a = field_at u w i v x h f in
      let lt = within (field_types a.at.d) a.at.parts a.at.fields i w a.at.fit a.field in
      subst (λ o. IfBoth (Fits t g u) (evaluation.fields_with o i y) (exec_terms.fields_with (fields_in_term (out-Term x)) i z))
      (sym (parts_are v a.at.parts a.at.value_is))
      (subst (λ o. IfBoth (Fits t g u) (evaluation.fields_with (Some a.at.parts) i y) (exec_terms.fields_with o i z))
      (sym a.at.term_is)
      (subst (λ b. IfBoth (Fits t g u) (if b then Some (value.Rec (slice_set a.at.parts i y)) else None)
      (if ltb i (length a.at.fields) then Some (term.Rec (slice_set a.at.fields i z)) else None)) (sym lt.0)
      (subst (λ b. IfBoth (Fits t g u) (Some (value.Rec (slice_set a.at.parts i y)))
      (if b then Some (term.Rec (slice_set a.at.fields i z)) else None)) (sym lt.1)
      (made a.r a.is_record a.at.d a.at.declared (slice_set a.at.parts i y) (slice_set a.at.fields i z)
      (with_one (field_types a.at.d) a.at.parts a.at.fields i w y z a.at.fit a.field new)))))
    where
      made : (r : ℕ) → out-Ty u ≡ Ty-F.Rec r → (d : RecDecl) → slice_get t.records r ≡ Some d
          → (vs : List Value) (xs : List Term) → all_fit t g (map fit vs) (field_types d) g.options xs ≡ true
          → Fits t g u (value.Rec vs) (term.Rec xs)
      made r is d at vs xs all =
          fit_rec t g vs u g.options (term.Rec xs)
          ∙ ap (λ y. is_record t g (map fit vs) (out-Ty u) g.options (fields_in_term y)) (out_rec_term xs)
          ∙ ap (λ z. is_record t g (map fit vs) z g.options (Some xs)) is
          ∙ ap (λ o. fields_fit t g (map fit vs) o g.options (Some xs)) at
          ∙ all

  -- a number, as a value or bare, with so many shifts in it
  record NumberAt (n : ℕ) (o : Operand) (p : exec.Operand) : Type 0 where
    m : ℤ
    a : Num
    of_value : evaluation.number_of o ≡ Some m
    of_term : exec_terms.number_of p ≡ Some a
    same : num_under g.valuation.number a ≡ m
    is_num_ : is_num t g (operand_limit n) a ≡ true

  wider : (l k : ℕ) (a : Num) → l ≤ k → is_num t g l a ≡ true → is_num t g k a ≡ true
  wider l k a le h =
      let parts = and_parts _ _ h in
      let one = and_parts _ _ parts.0 in
      and_from _ _ (and_from _ _ one.0 (nearer l k _ le one.1)) parts.1

  number_at : (n : ℕ) (kind : Kind) (o : Operand) (p : exec.Operand) → is_integer (Some kind) ≡ true
      → FitsOperand t g n kind o p → NumberAt n o p
  number_at n (Of u) (operand.Plain v) (on_terms.Plain x) is h = by (out-Ty u) refl is
    where
      by : (z : Ty-F Ty) → out-Ty u ≡ z → is_integer_ty z ≡ true → NumberAt n (operand.Plain v) (on_terms.Plain x)
      by (Ty-F.Int i) e k =
          let a = at_int t g u i e v g.options x h in
          let parts = and_parts _ _ a.number in
          record {
            m = a.n;
            a = a.a;
            of_value = ap eval.int_of a.value_is ∙ ap eval.int_in (out_int_of a.n);
            of_term = a.term_is;
            same = decided (Decides-int_eq (num_under g.valuation.number a.a) a.n) parts.0;
            is_num_ = wider value_offset_limit (operand_limit n) a.a (omega arith) (and_parts _ _ parts.1).1;
          }
      by (Ty-F.Sort s) e k = absurd (cc)
      by (Ty-F.Enum s) e k = absurd (cc)
      by (Ty-F.Rec s) e k = absurd (cc)
      by (Ty-F.Option s) e k = absurd (cc)
  number_at n (Of u) (operand.Plain v) (on_terms.Number a) is h = absurd h
  number_at n (Of u) (operand.Number m) p is h = absurd h
  number_at n Number (operand.Number m) (on_terms.Number a) is h =
      let parts = and_parts _ _ h in
      record {
        m = m;
        a = a;
        of_value = refl;
        of_term = refl;
        same = decided (Decides-int_eq (num_under g.valuation.number a) m) parts.0;
        is_num_ = parts.1;
      }
  number_at n Number (operand.Number m) (on_terms.Plain x) is h = absurd h
  number_at n Number (operand.Plain v) p is h = absurd h

  -- operands
  value_kept : (n : ℕ) (u : Ty) (o : Operand) (p : exec.Operand) → FitsOperand t g n (Of u) o p
      → IfBoth (Fits t g u) (evaluation.value_of o) (exec_terms.term_of p)
  value_kept n u (operand.Plain v) (on_terms.Plain x) h = h
  value_kept n u (operand.Plain v) (on_terms.Number a) h = absurd h
  value_kept n u (operand.Number m) p h = absurd h

  number_kept : (n : ℕ) (m : ℤ) → limits.is_number m ≡ true
      → FitsOperand t g n Number (operand.Number m) (on_terms.Number (num.Const m))
  number_kept n m is =
      and_from (int_eq m m) _ (same m) (and_from _ true (and_from _ _ (lt-ltb 0 g.numbers ground.zero)
      (nearer number_limit (operand_limit n) m (omega arith) is)) refl)
    where
      same : (m : ℤ) → int_eq m m ≡ true
      same m = grind (arith, ints)

  shifted_near : (n : ℕ) (k by : ℤ) → is_near (operand_limit n) k ≡ true → limits.is_number by ≡ true
      → is_near (operand_limit (suc n)) (k +ℤ by) ≡ true
  shifted_near n k by h is =
      let one = and_parts (int_le (neg_ℤ (pos (operand_limit n))) k) (int_le k (pos (operand_limit n))) h in
      let two = and_parts (int_le (neg_ℤ (pos number_limit)) by) (int_le by (pos number_limit)) is in
      let a = at_most (neg_ℤ (pos (operand_limit n))) k one.0 in
      let b = at_most k (pos (operand_limit n)) one.1 in
      let c = at_most (neg_ℤ (pos number_limit)) by two.0 in
      let d = at_most by (pos number_limit) two.1 in
      and_from _ _ (tested (neg_ℤ (pos (operand_limit (suc n)))) (k +ℤ by) (omega (arith, ints, a, c)))
      (tested (k +ℤ by) (pos (operand_limit (suc n))) (omega (arith, ints, b, d)))

  shift_kept : (n : ℕ) (kind : Kind) (o : Operand) (p : exec.Operand) (by : ℤ) → is_integer (Some kind) ≡ true
      → limits.is_number by ≡ true → FitsOperand t g n kind o p
      → IfBoth (FitsOperand t g (suc n) Number) (summed (evaluation.number_of o) by)
      (exec_terms.summed (exec_terms.number_of p) by)
  shift_kept n kind o p by is small_by h =
      let a = number_at n kind o p is h in
      subst (λ z. IfBoth (FitsOperand t g (suc n) Number) (summed z by) (exec_terms.summed (exec_terms.number_of p) by))
      (sym a.of_value)
      (subst (λ z. IfBoth (FitsOperand t g (suc n) Number) (summed (Some a.m) by) (exec_terms.summed z by))
      (sym a.of_term) (moved a.m a.a a.same a.is_num_))
    where
      plus : (x k m : ℤ) → (x +ℤ k) ≡ m → int_eq (x +ℤ (k +ℤ by)) (m +ℤ by) ≡ true
      plus x k m e = grind (arith, ints, e)

      alone : (k m : ℤ) → k ≡ m → int_eq (k +ℤ by) (m +ℤ by) ≡ true
      alone k m e = grind (arith, ints, e)

      moved : (m : ℤ) (a : Num) → num_under g.valuation.number a ≡ m → is_num t g (operand_limit n) a ≡ true
          → is_numeral t g (suc n) (m +ℤ by) (shifted a by) ≡ true
      moved m (num.Const k) e h =
          let parts = and_parts _ _ h in
          let one = and_parts _ _ parts.0 in
          and_from _ _ (alone k m e)
          (and_from _ true (and_from _ _ one.0 (shifted_near n k by one.1 small_by)) refl)
      moved m (num.Plus x k) e h =
          let parts = and_parts _ _ h in
          let one = and_parts _ _ parts.0 in
          and_from _ _ (plus (g.valuation.number x.0) k m e)
          (and_from _ _ (and_from _ _ one.0 (shifted_near n k by one.1 small_by)) parts.1)

  -- what is done
  carry : {a b : Doing} {c d : Plan} → a ≡ b → c ≡ d → Rel b d → Rel a c
  carry {a} {b} {c} {d} p q r = subst (λ z. Rel z c) (sym p) (subst (λ z. Rel b z) (sym q) r)

  asks_small : (n : ℕ) (a : Num) → n ≤ shift_limit → is_num t g (operand_limit n) a ≡ true
      → is_num t g asked_limit a ≡ true
  asks_small n a le h = number_asked t g (operand_limit n) a (omega (arith, le)) h

  inspects_kept : (n : ℕ) (o : Operand) (p : exec.Operand) (k : Bool → Doing) (l : Bool → List Term → Plan)
      → FitsOperand t g n (Of bool_ty) o p → ((b : Bool) → Rel (k b) (l b g.payloads))
      → Rel (evaluation.inspects o k) (exec_terms.inspects p l g.payloads)
  inspects_kept n (operand.Plain v) (on_terms.Plain x) k l h each =
      let a = at_enum t g bool_ty 0 (out_enum 0) v g.options x h in
      let few = few_variants t g typed a.n bool_ty g.options x
      (subst (λ z. fit z bool_ty g.options x ≡ true) a.value_is h) in
      carry
      (ap (λ z. given z (λ m. Decides m (λ d. k (d == 1))))
      (ap eval.tag_of a.value_is ∙ ap eval.tag_in (out_tag a.n) ∙ small a.n few))
      (ap (λ z. given z (λ q. Decides (question.TagOf q) (λ d. l (d == 1) g.payloads))) a.term_is)
      (decides t typed g Q (question.TagOf a.a) a.n
      (sym (eqb-true (tag_under g.valuation.tag a.a) a.n (and_parts _ _ a.choice).0))
      (variant_asked t g a.n bool_ty a.a a.choice few) (λ d. k (d == 1)) (λ d. l (d == 1) g.payloads)
      (each (a.n == 1)))
  inspects_kept n (operand.Plain v) (on_terms.Number a) k l h each = absurd h
  inspects_kept n (operand.Number m) p k l h each = absurd h

  orders_kept : (m n : ℕ) (left right : Kind) (o : Operand) (p : exec.Operand) (q : Operand) (r : exec.Operand)
      (k : ℕ → Doing) (l : ℕ → List Term → Plan) → m ≤ shift_limit → n ≤ shift_limit → is_integer (Some left) ≡ true
      → is_integer (Some right) ≡ true → FitsOperand t g m left o p → FitsOperand t g n right q r
      → ((d : ℕ) → Rel (k d) (l d g.payloads)) → Rel (evaluation.orders o q k) (exec_terms.orders p r l g.payloads)
  orders_kept m n left right o p q r k l lem len il ir h i each =
      let a = number_at m left o p il h in
      let b = number_at n right q r ir i in
      carry
      (ap (λ z. given z (λ x. given (evaluation.number_of q) (λ y. Decides (eval.ordered x y) k))) a.of_value
      ∙ ap (λ z. given z (λ y. Decides (eval.ordered a.m y) k)) b.of_value)
      (ap (λ z. given z (λ x. given (exec_terms.number_of r) (λ y. Decides (question.Nums x y) (λ d. l d g.payloads))))
      a.of_term
      ∙ ap (λ z. given z (λ y. Decides (question.Nums a.a y) (λ d. l d g.payloads))) b.of_term)
      (decides t typed g Q (question.Nums a.a b.a) (eval.ordered a.m b.m)
      (ap (λ z. eval.ordered z b.m) (sym a.same) ∙ ap (λ z. eval.ordered (num_under g.valuation.number a.a) z) (sym b.same))
      (and_from _ _ (asks_small m a.a lem a.is_num_) (asks_small n b.a len b.is_num_)) k (λ d. l d g.payloads)
      (each (eval.ordered a.m b.m)))

  compares_values_kept : (m n : ℕ) (u : Ty) (o : Operand) (p : exec.Operand) (q : Operand) (r : exec.Operand)
      (k : Bool → Doing) (l : Bool → List Term → Plan) → FitsOperand t g m (Of u) o p → FitsOperand t g n (Of u) q r
      → ((b : Bool) → Rel (k b) (l b g.payloads)) → Rel (evaluation.compares o q k) (exec_terms.compares p r l g.payloads)
  compares_values_kept m n u (operand.Plain v) (on_terms.Plain x) (operand.Plain w) (on_terms.Plain y) k l h i each =
      compared t typed g Q v u x h w y i k (λ b. l b g.payloads) each
  compares_values_kept m n u (operand.Plain v) (on_terms.Number a) q r k l h i each = absurd h
  compares_values_kept m n u (operand.Number a) p q r k l h i each = absurd h
  compares_values_kept m n u (operand.Plain v) (on_terms.Plain x) (operand.Plain w) (on_terms.Number a) k l h i each = absurd i
  compares_values_kept m n u (operand.Plain v) (on_terms.Plain x) (operand.Number w) r k l h i each = absurd i

  compares_numbers_kept : (m n : ℕ) (left right : Kind) (o : Operand) (p : exec.Operand) (q : Operand) (r : exec.Operand)
      (k : Bool → Doing) (l : Bool → List Term → Plan) → m ≤ shift_limit → n ≤ shift_limit
      → is_integer (Some left) ≡ true → is_integer (Some right) ≡ true → FitsOperand t g m left o p
      → FitsOperand t g n right q r → ((b : Bool) → Rel (k b) (l b g.payloads))
      → Rel (evaluation.compares o q k) (exec_terms.compares p r l g.payloads)
  compares_numbers_kept m n (Of u) (Of w) (operand.Plain v) (on_terms.Plain x) (operand.Plain z) (on_terms.Plain y) k l
      lem len il ir h i each = by (out-Ty u) (out-Ty w) refl refl il ir
    where
      by : (a b : Ty-F Ty) → out-Ty u ≡ a → out-Ty w ≡ b → is_integer_ty a ≡ true → is_integer_ty b ≡ true
          → Rel (evaluation.compares (operand.Plain v) (operand.Plain z) k)
          (exec_terms.compares (on_terms.Plain x) (on_terms.Plain y) l g.payloads)
      by (Ty-F.Int r) (Ty-F.Int s) e f a b = numbers_compared t typed g Q u r e w s f v x h z y i k (λ b. l b g.payloads) each
      by (Ty-F.Sort r) z e f a b = absurd (cc)
      by (Ty-F.Enum r) z e f a b = absurd (cc)
      by (Ty-F.Rec r) z e f a b = absurd (cc)
      by (Ty-F.Option r) z e f a b = absurd (cc)
      by (Ty-F.Int r) (Ty-F.Sort s) e f a b = absurd (cc)
      by (Ty-F.Int r) (Ty-F.Enum s) e f a b = absurd (cc)
      by (Ty-F.Int r) (Ty-F.Rec s) e f a b = absurd (cc)
      by (Ty-F.Int r) (Ty-F.Option s) e f a b = absurd (cc)
  compares_numbers_kept m n Number right (operand.Plain v) (on_terms.Plain x) (operand.Plain z) (on_terms.Plain y) k l
      lem len il ir h i each = absurd h
  compares_numbers_kept m n (Of u) Number (operand.Plain v) (on_terms.Plain x) (operand.Plain z) (on_terms.Plain y) k l
      lem len il ir h i each = absurd i
  compares_numbers_kept m n left right (operand.Plain v) (on_terms.Plain x) (operand.Number z) (on_terms.Number y) k l
      lem len il ir h i each =
      orders_kept m n left right (operand.Plain v) (on_terms.Plain x) (operand.Number z) (on_terms.Number y)
      (λ d. k (d == 1)) (λ d. l (d == 1)) lem len il ir h i (λ d. each (d == 1))
  compares_numbers_kept m n left right (operand.Number v) (on_terms.Number x) q r k l lem len il ir h i each =
      orders_kept m n left right (operand.Number v) (on_terms.Number x) q r
      (λ d. k (d == 1)) (λ d. l (d == 1)) lem len il ir h i (λ d. each (d == 1))
  compares_numbers_kept m n left right (operand.Plain v) (on_terms.Number x) q r k l lem len il ir h i each =
      absurd (mixed left h)
    where
      mixed : (kind : Kind) → FitsOperand t g m kind (operand.Plain v) (on_terms.Number x) → ⊥
      mixed (Of u) h = h
      mixed Number h = h
  compares_numbers_kept m n left right (operand.Number v) (on_terms.Plain x) q r k l lem len il ir h i each =
      absurd (mixed left h)
    where
      mixed : (kind : Kind) → FitsOperand t g m kind (operand.Number v) (on_terms.Plain x) → ⊥
      mixed (Of u) h = h
      mixed Number h = h
  compares_numbers_kept m n left right (operand.Plain v) (on_terms.Plain x) (operand.Plain z) (on_terms.Number y) k l
      lem len il ir h i each = absurd (mixed right i)
    where
      mixed : (kind : Kind) → FitsOperand t g n kind (operand.Plain z) (on_terms.Number y) → ⊥
      mixed (Of u) h = h
      mixed Number h = h
  compares_numbers_kept m n left right (operand.Plain v) (on_terms.Plain x) (operand.Number z) (on_terms.Plain y) k l
      lem len il ir h i each = absurd (mixed right i)
    where
      mixed : (kind : Kind) → FitsOperand t g n kind (operand.Number z) (on_terms.Plain y) → ⊥
      mixed (Of u) h = h
      mixed Number h = h

  -- a number of a range: its offset is near, since its variable's number is
  offset_near : (x k n : ℤ) → is_near number_limit x ≡ true → is_near number_limit n ≡ true → (x +ℤ k) ≡ n
      → is_near value_offset_limit k ≡ true
  offset_near x k n hx hn e =
      let one = and_parts (int_le (neg_ℤ (pos number_limit)) x) (int_le x (pos number_limit)) hx in
      let two = and_parts (int_le (neg_ℤ (pos number_limit)) n) (int_le n (pos number_limit)) hn in
      let a = at_most (neg_ℤ (pos number_limit)) x one.0 in
      let b = at_most x (pos number_limit) one.1 in
      let c = at_most (neg_ℤ (pos number_limit)) n two.0 in
      let d = at_most n (pos number_limit) two.1 in
      and_from _ _ (tested (neg_ℤ (pos value_offset_limit)) k (omega (arith, ints, b, c, e)))
      (tested k (pos value_offset_limit) (omega (arith, ints, a, d, e)))

  number_near : (d : IntDecl) (n : ℤ) → is_range d ≡ true → is_within (Some d) n ≡ true → is_near number_limit n ≡ true
  number_near d n range is =
      let ends = and_parts (limits.is_number d.lo) (limits.is_number d.hi) (and_parts _ (int_le d.lo d.hi) range).0 in
      let low = and_parts (int_le (neg_ℤ (pos number_limit)) d.lo) _ ends.0 in
      let high = and_parts _ (int_le d.hi (pos number_limit)) ends.1 in
      let in_it = and_parts (int_le d.lo n) (int_le n d.hi) is in
      let a = at_most (neg_ℤ (pos number_limit)) d.lo low.0 in
      let b = at_most d.hi (pos number_limit) high.1 in
      let c = at_most d.lo n in_it.0 in
      let e = at_most n d.hi in_it.1 in
      and_from _ _ (tested (neg_ℤ (pos number_limit)) n (omega (arith, ints, a, c)))
      (tested n (pos number_limit) (omega (arith, ints, b, e)))

  num_near : (n l : ℕ) (m : ℤ) (a : Num) → num_under g.valuation.number a ≡ m → is_num t g l a ≡ true
      → is_near number_limit m ≡ true → is_num t g value_offset_limit a ≡ true
  num_near n l m (num.Const k) e h is =
      let one = and_parts _ _ (and_parts _ _ h).0 in
      and_from _ true (and_from _ _ one.0 (nearer number_limit value_offset_limit k (omega arith)
      (subst (λ z. is_near number_limit z ≡ true) (sym e) is))) refl
  num_near n l m (num.Plus x k) e h is =
      let parts = and_parts _ _ h in
      let one = and_parts _ _ parts.0 in
      and_from _ _ (and_from _ _ one.0
      (offset_near (g.valuation.number x.0) k m (ground.numbers x.0 (ltb-true x.0 g.numbers one.0)) is e)) parts.1

  into_kept : (n i : ℕ) (d : IntDecl) (kind : Kind) (o : Operand) (p : exec.Operand) (k : Value → Doing)
      (l : Term → List Term → Plan) → n ≤ shift_limit → slice_get t.ints i ≡ Some d → is_integer (Some kind) ≡ true
      → FitsOperand t g n kind o p → ((v : Value) (x : Term) → Fits t g (ty.Int i) v x → Rel (k v) (l x g.payloads))
      → Rel (values.into d.lo d.hi o k) (terms.into d.lo d.hi p l g.payloads)
  into_kept n i d kind o p k l le at is h each =
      let a = number_at n kind o p is h in
      let range = range_at t typed i d at in
      let ends = and_parts (limits.is_number d.lo && limits.is_number d.hi) (int_le d.lo d.hi) range in
      carry
      (ap (λ z. given z (λ m. Decides (placed d.lo d.hi m) (λ c. if c == 1 then k (value.Int m) else Blocks))) a.of_value)
      (ap (λ z. given z (λ b. Decides (question.Range b d.lo d.hi)
      (λ c. if c == 1 then l (term.Num b) g.payloads else Blocks))) a.of_term)
      (decides t typed g Q (question.Range a.a d.lo d.hi) (placed d.lo d.hi a.m)
      (ap (placed d.lo d.hi) (sym a.same))
      (and_from _ _ (asks_small n a.a le a.is_num_)
      (and_from _ _ (and_parts _ _ ends.0).0 (and_from _ _ (and_parts _ _ ends.0).1 (and_from _ _ ends.1 (ends_there t.ints i d at)))))
      (λ c. if c == 1 then k (value.Int a.m) else Blocks) (λ c. if c == 1 then l (term.Num a.a) g.payloads else Blocks)
      (by a.m a.a a.same a.is_num_ range (placed d.lo d.hi a.m == 1) refl))
    where
      by : (m : ℤ) (a : Num) → num_under g.valuation.number a ≡ m → is_num t g (operand_limit n) a ≡ true
          → is_range d ≡ true → (b : Bool) → (placed d.lo d.hi m == 1) ≡ b
          → Rel (if b then k (value.Int m) else Blocks) (if b then l (term.Num a) g.payloads else Blocks)
      by m a e num range false f = refl
      by m a e num range true f =
          let inside = in_range d m f in
          each (value.Int m) (term.Num a)
          (fit_int t g m (ty.Int i) g.options (term.Num a)
          ∙ ap (λ y. is_number t g (ty.Int i) m (num_in y)) (out_num_term a)
          ∙ and_from _ _ (equal (num_under g.valuation.number a) m e)
          (and_from (is_number_of t (out-Ty (ty.Int i)) m) _
          (ap (λ z. is_number_of t z m) (out_int i) ∙ ap (λ z. is_within z m) at ∙ inside)
          (num_near n (operand_limit n) m a e num (number_near d m range inside))))
        where
          equal : (a b : ℤ) → a ≡ b → int_eq a b ≡ true
          equal a b e = grind (arith, ints, e)

  opens_kept : (u w : Ty) (v : Value) (x : Term) (k : Option Value → Doing) (l : Option Term → List Term → Plan)
      → Fits t g u v x → payload_of u ≡ Some w
      → ((o : Option Value) (p : Option Term) → IfBoth (Fits t g w) o p → Rel (k o) (l p g.payloads))
      → Rel (values.opens v k) (terms.opens x l g.payloads)
  opens_kept u w v x k l h is each = typed_ (out-Ty u) refl is
    where
      by : OptionAt t g w v x → Rel (values.opens v k) (terms.opens x l g.payloads)
      by (IsNone r e f ok zero_) =
          carry
          (ap (λ z. evaluation.opens z k) (ap eval.option_of e ∙ ap eval.option_in out_none))
          (ap (λ z. given z (λ o. Decides (question.OptOf o) (λ d. if d == 1
          then given (asking.payload_of g.payloads x) (λ y. l (Some y) g.payloads) else l None g.payloads))) f)
          (decides t typed g Q (question.OptOf r) 0 (sym zero_) ok (λ d. if d == 1 then given None (λ y. k (Some y)) else k None)
          (λ d. if d == 1 then given (asking.payload_of g.payloads x) (λ y. l (Some y) g.payloads) else l None g.payloads)
          (each None None tt))
      by (IsSome z r p e f ok one_ there fits) =
          carry
          (ap (λ z. evaluation.opens z k) (ap eval.option_of e ∙ ap eval.option_in (out_some z)))
          (ap (λ z. given z (λ o. Decides (question.OptOf o) (λ d. if d == 1
          then given (asking.payload_of g.payloads x) (λ y. l (Some y) g.payloads) else l None g.payloads))) f
          ∙ ap (λ q. Decides (question.OptOf r) (λ d. if d == 1
          then given q (λ y. l (Some y) g.payloads) else l None g.payloads)) there)
          (decides t typed g Q (question.OptOf r) 1 (sym one_) ok (λ d. if d == 1 then given (Some z) (λ y. k (Some y)) else k None)
          (λ d. if d == 1 then given (Some p) (λ y. l (Some y) g.payloads) else l None g.payloads)
          (each (Some z) (Some p) fits))

      typed_ : (y : Ty-F Ty) → out-Ty u ≡ y → kinds.payload_in y ≡ Some w → Rel (values.opens v k) (terms.opens x l g.payloads)
      typed_ (Ty-F.Option z) e f =
          by (option_at t g u w (e ∙ ap Ty-F.Option (some_same z w f)) v x h)
      typed_ (Ty-F.Sort z) e f = absurd (cc)
      typed_ (Ty-F.Int z) e f = absurd (cc)
      typed_ (Ty-F.Enum z) e f = absurd (cc)
      typed_ (Ty-F.Rec z) e f = absurd (cc)

  -- all of them
  pub kept : KeepRelation t Value Operand Doing Term exec.Operand (List Term → Plan) values terms sides
  kept = record {
    tag = tag_kept;
    flag = flag_kept;
    make = make_kept;
    nothing = nothing_kept;
    some = some_kept;
    field = field_kept;
    with_field = with_field_kept;
    plain = λ n u v x h. h;
    number = number_kept;
    value = value_kept;
    shift = λ n kind o p by lt is small_by h. shift_kept n kind o p by is small_by h;
    blocks = refl;
    inspects = λ n o p k l le h each. inspects_kept n o p k l h each;
    compares_values = λ m n u o p q r k l lem len h i each. compares_values_kept m n u o p q r k l h i each;
    compares_numbers = compares_numbers_kept;
    orders = orders_kept;
    into = into_kept;
    opens = opens_kept;
    reads = λ s d c key k l at h each. (d, at, c, h, k, refl, each);
    writes = λ s d c key v x k l at h fits each. (d, at, c, h, v, fits, k, refl, each);
  }

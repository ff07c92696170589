-- The terms of variables and the values of types: each valuation gives a term a value of its type, and each value of
-- the type is given.
use Rattle.std.proofs.Common.{◌≡◌, ◌<◌, ◌≤◌, ◌+◌, ◌==◌, ◌&&◌, inl, inr, Bool, true, false, if◌then◌else◌}
use Rattle.std.proofs.Common.{IsTrue, leb, int_le, ℕ, suc, ℤ, pos, ◌+ℤ◌, ◌≤ℤ◌, List, [], ◌∷◌, map}
use Rattle.std.proofs.Common.{length, slice_get, Some, refl, sym, ap, subst, ◌∙◌, arith}
use Rattle.std.proofs.lemmas.Bool.{ltb-true, lt-ltb, leb-true}
use Rattle.std.proofs.lemmas.Bool.Decides.{nat_tests}
use Rattle.std.proofs.lemmas.Int.{ints}
use Rattle.cm_model.specs.Tables.{Tables}
use Rattle.cm_model.specs.Types.{IsType, is_type_before, ty_step}
use Rattle.cm_model.specs.WellTyped.{IsWellTyped}
use Rattle.cm_model.specs.Limits.{is_number}
use Rattle.cm_model.specs.declared.ty.Ty.{Ty}
use Rattle.cm_model.specs.declared.ty.Ty.TheVariants as ty
use Rattle.cm_model.specs.declared.ty.Ty.TheOpen.{Ty-F}
use Rattle.cm_model.specs.declared.ty.Part.{Part}
use Rattle.cm_model.specs.declared.ty.IntDecl.{IntDecl}
use Rattle.cm_model.specs.declared.ty.EnumDecl.{EnumDecl}
use Rattle.cm_model.specs.declared.ty.RecDecl.{RecDecl}
use Rattle.cm_value.specs.declared.value.Value.{Value}
use Rattle.cm_value.specs.declared.value.Value.TheVariants as value
use Rattle.cm_value.specs.Membership.{member_of, are_members, is_value_of, IsValueOf, is_sort, is_number_of}
use Rattle.cm_value.specs.Membership.{is_variant_of, is_record_of, is_none_of, is_some_of, is_within, has_variant}
use Rattle.cm_value.specs.Membership.{has_fields, field_types}
use Rattle.cm_value.proofs.Declared.{both, and_true, there, range_at, enum_at, field_before}
use Rattle.cm_value.proofs.Members.{member-elem, member-int, member-tag, member-rec, member-none, member-some}
use Rattle.cm_value.proofs.Types.{out_sort, out_int, out_enum, out_rec, out_option, fold-sort}
use Rattle.cm_value.proofs.Types.{fold-int_type, fold-enum, fold-record, fold-option}
use Rattle.cm_term.specs.declared.symbol.Step.TheVariants as step
use Rattle.cm_term.specs.Valuation.{Valuation}
use Rattle.cm_term.specs.Terms.{value_of}
use Rattle.cm_term.proofs.Values.{value_elem, value_num, value_tag, value_rec, value_either}
use Rattle.cm_ctx.specs.declared.piece.Counts.{Counts}
use Rattle.cm_ctx.specs.declared.piece.OptionPart.{OptionPart}
use Rattle.cm_ctx.specs.declared.piece.Variables.{Variables}
use Rattle.cm_ctx.specs.Making.{Place, into, behind, sym_of, counted, variables, Maker, Fields}
use Rattle.cm_ctx.specs.Making.{fields_made, element_made, number_made, tag_made, option_made, record_made}
use Rattle.cm_ctx.specs.Making.{made_of}
use Rattle.cm_ctx.specs.Giving.{EachFrom, Gives, Agree, IsWithin, IsVariant, HasPayload}
use Rattle.cm_ctx.proofs.Each.{each_so}
use Rattle.cm_ctx.proofs.Counting.{AtMost, at_most, agree_less, agree_then, agree_same, gives_both}
use Rattle.cm_ctx.proofs.Seeing.{below, SeesBelow, Grounded, Sound, AllSound, SoundFields, sound_element}
use Rattle.cm_ctx.proofs.Seeing.{sound_number, sound_tag, sound_option, sound_record, sound_fields}
use Rattle.cm_ctx.proofs.Grounding.{put, put_here, put_elsewhere}
use Rattle.cm_ctx.proofs.Makers.{maker_ind}
use Rattle.cm_ctx.proofs.Forms.{Formed, formed}

-- what is given to variables rests on these and on those before them
pub gives_seen : (from : Counts) (vs : Variables) (v w : Valuation) → Grounded from vs → Agree (counted from vs) v w
    → Gives from vs v → Gives from vs w
gives_seen from vs v w g a h = record {
  numbers = each_so (IsWithin v) (IsWithin w) from.numbers vs.numbers
      (λ x d low high i. subst (λ n. (d.lo ≤ℤ n) × (n ≤ℤ d.hi)) (a.numbers x high) i) h.numbers;
  tags = each_so (IsVariant v) (IsVariant w) from.tags vs.tags
      (λ x d low high i. subst (λ n. n < d.variants) (a.tags x high) i) h.tags;
  options = payloads from.options vs.options (omega arith) (omega arith) g.payloads h.options;
}
  where
    fewer : (o : ℕ) → o < from.options + length vs.options → AtMost (below o (counted from vs)) (counted from vs)
    fewer o lt = record { elements = omega arith; numbers = omega arith; tags = omega arith; options = omega arith }

    payloads : (x : ℕ) (os : List OptionPart) → from.options ≤ x → x + length os ≤ from.options + length vs.options
        → EachFrom (SeesBelow (counted from vs)) x os → EachFrom (HasPayload v) x os → EachFrom (HasPayload w) x os
    payloads x [] low high s k = tt
    payloads x (d ∷ os) low high s k =
        let lt : x < from.options + length vs.options = omega arith in (
          (
            subst (λ n. n < 2) (a.present x lt) k.0.0,
            sym (a.payloads x lt) ∙ k.0.1 ∙ s.0 v w (agree_less (below x (counted from vs)) (counted from vs) v w
                (fewer x lt) a),
          ),
          payloads (x + 1) os (omega arith) (omega arith) s.1 k.1,
        )

-- a valuation with another number for one variable
abbrev with_nat : (ℕ → ℕ) → ℕ → ℕ → ℕ → ℕ
with_nat f k n x = if x == k then n else f x

abbrev with_int : (ℕ → ℤ) → ℕ → ℤ → ℕ → ℤ
with_int f k n x = if x == k then n else f x

nat_here : (f : ℕ → ℕ) (k n : ℕ) → with_nat f k n k ≡ n
nat_here f k n = grind (arith, nat_tests)

nat_below : (f : ℕ → ℕ) (k n x : ℕ) → x < k → f x ≡ with_nat f k n x
nat_below f k n x lt = first (x == k) refl
  where
    first : (b : Bool) → (x == k) ≡ b → f x ≡ with_nat f k n x
    first true e = absurd (grind (arith, nat_tests))
    first false e = rw e refl

int_here : (f : ℕ → ℤ) (k : ℕ) (n : ℤ) → with_int f k n k ≡ n
int_here f k n = first (k == k) refl
  where
    first : (b : Bool) → (k == k) ≡ b → with_int f k n k ≡ n
    first true e = rw e refl
    first false e = absurd (grind (arith, nat_tests))

int_below : (f : ℕ → ℤ) (k : ℕ) (n : ℤ) (x : ℕ) → x < k → f x ≡ with_int f k n x
int_below f k n x lt = first (x == k) refl
  where
    first : (b : Bool) → (x == k) ≡ b → f x ≡ with_int f k n x
    first true e = absurd (grind (arith, nat_tests))
    first false e = rw e refl

abbrev with_element : Valuation → ℕ → ℕ → Valuation
with_element v k n = record v { element = with_nat v.element k n }

abbrev with_number : Valuation → ℕ → ℤ → Valuation
with_number v k n = record v { number = with_int v.number k n }

abbrev with_tag : Valuation → ℕ → ℕ → Valuation
with_tag v k n = record v { tag = with_nat v.tag k n }

abbrev with_payload : Valuation → ℕ → ℕ → Value → Valuation
with_payload v o b y = record v { present = with_nat v.present o b; payload = put v.payload o y }

element_agrees : (v : Valuation) (c : Counts) (n : ℕ) → Agree c v (with_element v c.elements n)
element_agrees v c n = record {
  elements = λ x lt. nat_below v.element c.elements n x lt;
  numbers = λ x lt. refl;
  tags = λ x lt. refl;
  present = λ x lt. refl;
  payloads = λ x lt. refl;
}

number_agrees : (v : Valuation) (c : Counts) (n : ℤ) → Agree c v (with_number v c.numbers n)
number_agrees v c n = record {
  elements = λ x lt. refl;
  numbers = λ x lt. int_below v.number c.numbers n x lt;
  tags = λ x lt. refl;
  present = λ x lt. refl;
  payloads = λ x lt. refl;
}

tag_agrees : (v : Valuation) (c : Counts) (n : ℕ) → Agree c v (with_tag v c.tags n)
tag_agrees v c n = record {
  elements = λ x lt. refl;
  numbers = λ x lt. refl;
  tags = λ x lt. nat_below v.tag c.tags n x lt;
  present = λ x lt. refl;
  payloads = λ x lt. refl;
}

payload_agrees : (v : Valuation) (c : Counts) (b : ℕ) (y : Value) → Agree c v (with_payload v c.options b y)
payload_agrees v c b y = record {
  elements = λ x lt. refl;
  numbers = λ x lt. refl;
  tags = λ x lt. refl;
  present = λ x lt. nat_below v.present c.options b x lt;
  payloads =
      λ x lt. sym (put_elsewhere v.payload c.options y x lt);
}

zero_more : (n : ℤ) → (n +ℤ pos 0) ≡ n
zero_more n = omega (arith, ints)

module _ (t : Tables) where
  pub record Good (u : Ty) (m : Maker) : Type 0 where
    pub sound : Sound m
    pub some : (x : Value) × IsValueOf t u x
    pub typed : (p : Place) (v : Valuation) → Gives p.from (m p).variables v → IsValueOf t u (value_of v (m p).term)
    pub free : (p : Place) (v : Valuation) (x : Value) → IsValueOf t u x → (w : Valuation) × Agree p.from v w
        × Gives p.from (m p).variables w × (value_of w (m p).term ≡ x)

  elem_of : (s n : ℕ) → is_sort t (Ty-F.Sort s) ≡ true → IsValueOf t (ty.Sort s) (value.Elem n)
  elem_of s n is = member-elem t (ty.Sort s) n ∙ ap (is_sort t) (out_sort s) ∙ is

  good_element : (s : ℕ) → is_sort t (Ty-F.Sort s) ≡ true → Good (ty.Sort s) (element_made s)
  good_element s is = record {
    sound = sound_element s;
    some = (value.Elem 0, elem_of s 0 is);
    typed = λ p v g. subst (IsValueOf t (ty.Sort s)) (sym (value_elem v _)) (elem_of s (v.element p.from.elements) is);
    free = λ p v x h.
        let f : Formed t (Ty-F.Sort s) x = subst (λ y. Formed t y x) (out_sort s) (formed t x (ty.Sort s) h) in (
          with_element v p.from.elements f.0,
          element_agrees v p.from f.0,
          record { numbers = tt; tags = tt; options = tt },
          value_elem (with_element v p.from.elements f.0) _ ∙ ap value.Elem (nat_here v.element p.from.elements f.0)
              ∙ sym f.1,
        );
  }

  int_of : (i : ℕ) (d : IntDecl) (n : ℤ) → slice_get t.ints i ≡ Some d → is_within (Some d) n ≡ true
      → IsValueOf t (ty.Int i) (value.Int n)
  int_of i d n at is = member-int t (ty.Int i) n ∙ ap (λ y. is_number_of t y n) (out_int i)
      ∙ ap (λ o. is_within o n) at ∙ is

  within_tests : (d : IntDecl) (n : ℤ) → d.lo ≤ℤ n → n ≤ℤ d.hi → is_within (Some d) n ≡ true
  within_tests d n low high = and_true (int_le d.lo n) (int_le n d.hi) (tested d.lo n low) (tested n d.hi high)
    where
      tested : (a b : ℤ) → a ≤ℤ b → int_le a b ≡ true
      tested a b h = grind (arith, ints)

  within_so : (d : IntDecl) (n : ℤ) → is_within (Some d) n ≡ true → (d.lo ≤ℤ n) × (n ≤ℤ d.hi)
  within_so d n is = let b = both (int_le d.lo n) (int_le n d.hi) is in (so d.lo n b.0, so n d.hi b.1)
    where
      so : (a b : ℤ) → int_le a b ≡ true → a ≤ℤ b
      so a b e = grind (arith, ints)

  good_number : IsWellTyped t → (i : ℕ) (d : IntDecl) → slice_get t.ints i ≡ Some d
      → Good (ty.Int i) (number_made (Some d))
  good_number typed i d at = record {
    sound = sound_number (Some d);
    some = (value.Int d.lo, int_of i d d.lo at (within_tests d d.lo (omega (arith, ints)) order));
    typed = λ p v g. subst (IsValueOf t (ty.Int i))
        (sym (value_num v _ ∙ ap value.Int (zero_more (v.number p.from.numbers))))
        (int_of i d (v.number p.from.numbers) at (within_tests d
        (v.number p.from.numbers) g.numbers.0.0 g.numbers.0.1));
    free = λ p v x h.
        let f : Formed t (Ty-F.Int i) x = subst (λ y. Formed t y x) (out_int i) (formed t x (ty.Int i) h) in
        let k = within_so d f.0 (sym (ap (λ o. is_within o f.0) at) ∙ f.2) in
        let here : with_int v.number p.from.numbers f.0 p.from.numbers ≡ f.0 = int_here v.number p.from.numbers f.0 in (
          with_number v p.from.numbers f.0,
          number_agrees v p.from f.0,
          record {
            numbers = ((subst (λ n. d.lo ≤ℤ n) (sym here) k.0, subst (λ n. n ≤ℤ d.hi) (sym here) k.1), tt);
            tags = tt;
            options = tt;
          },
          value_num (with_number v p.from.numbers f.0) _
              ∙ ap value.Int (zero_more (with_int v.number p.from.numbers f.0 p.from.numbers) ∙ here) ∙ sym f.1,
        );
  }
    where
      order : d.lo ≤ℤ d.hi
      order = so d.lo d.hi (both (is_number d.lo && is_number d.hi) (int_le d.lo d.hi) (range_at t typed i d at)).1
        where
          so : (a b : ℤ) → int_le a b ≡ true → a ≤ℤ b
          so a b e = grind (arith, ints)

  tag_of : (e : ℕ) (d : EnumDecl) (n : ℕ) → slice_get t.enums e ≡ Some d → n < length d.variants
      → IsValueOf t (ty.Enum e) (value.Tag n)
  tag_of e d n at lt = member-tag t (ty.Enum e) n ∙ ap (λ y. is_variant_of t y n) (out_enum e)
      ∙ ap (λ o. has_variant o n) at ∙ lt-ltb n (length d.variants) lt

  good_tag : IsWellTyped t → (e : ℕ) (d : EnumDecl) → slice_get t.enums e ≡ Some d
      → Good (ty.Enum e) (tag_made (Some d))
  good_tag typed e d at = record {
    sound = sound_tag (Some d);
    some = (
      value.Tag 0,
      tag_of e d 0 at (let h = leb-true 1 (length d.variants)
          (both (leb 1 (length d.variants)) (leb (length d.variants) 64) (enum_at t typed e d at)).0 in omega arith),
    );
    typed = λ p v g. subst (IsValueOf t (ty.Enum e)) (sym (value_tag v _)) (tag_of e d (v.tag p.from.tags) at g.tags.0);
    free = λ p v x h.
        let f : Formed t (Ty-F.Enum e) x = subst (λ y. Formed t y x) (out_enum e) (formed t x (ty.Enum e) h) in
        let lt : f.0 < length d.variants = ltb-true f.0 (length d.variants) (sym (ap (λ o. has_variant o f.0) at)
        ∙ f.2) in
        let here : with_nat v.tag p.from.tags f.0 p.from.tags ≡ f.0 = nat_here v.tag p.from.tags f.0 in (
          with_tag v p.from.tags f.0,
          tag_agrees v p.from f.0,
          record { numbers = tt; tags = (subst (λ n. n < length d.variants) (sym here) lt, tt); options = tt },
          value_tag (with_tag v p.from.tags f.0) _ ∙ ap value.Tag here ∙ sym f.1,
        );
  }

  none_of : (u : Ty) → IsValueOf t (ty.Option u) value.None
  none_of u = member-none t (ty.Option u) ∙ ap is_none_of (out_option u)

  some_of : (u : Ty) (x : Value) → IsValueOf t u x → IsValueOf t (ty.Option u) (value.Some x)
  some_of u x h = member-some t (ty.Option u) x ∙ ap (λ y. is_some_of y (member_of t x)) (out_option u) ∙ h

  abbrev either_value : ℕ → Value → Value
  either_value n x = if n == 1 then value.Some x else value.None

  option_typed : (u : Ty) (n : ℕ) (x : Value) → IsValueOf t u x → IsValueOf t (ty.Option u) (either_value n x)
  option_typed u n x h = first (n == 1) refl
    where
      first : (b : Bool) → (n == 1) ≡ b → IsValueOf t (ty.Option u) (either_value n x)
      first true e = rw e (some_of u x h)
      first false e = rw e (none_of u)

  module _ (u : Ty) (m : Maker) (good : Good u m) where
    abbrev last : Place → Variables
    last p = variables [] [] [] (record { payload = (m (into p step.Payload)).term; sym = sym_of p } ∷ [])

    option_is : (p : Place) (v : Valuation) → Gives p.from (option_made m p).variables v
        → IsValueOf t (ty.Option u) (value_of v (option_made m p).term)
    option_is p v g =
        let V = (m (into p step.Payload)).variables in
        let o = p.from.options + length V.options in
        let parts = (gives_both p.from V (last p) v).0 g in
        let payload : IsValueOf t u (v.payload o) =
        subst (IsValueOf t u) (sym parts.1.options.0.1) (good.typed (into p step.Payload) v parts.0) in
        subst (IsValueOf t (ty.Option u)) (sym (value_either v _)) (option_typed u (v.present o) (v.payload o) payload)

    -- with any flag and any payload
    given : (p : Place) (v : Valuation) (b : ℕ) (y : Value) → b < 2 → IsValueOf t u y
        → (w : Valuation) × Agree p.from v w × Gives p.from (option_made m p).variables w
        × (value_of w (option_made m p).term ≡ either_value b y)
    given p v b y two h =
        let V = (m (into p step.Payload)).variables in
        let T = (m (into p step.Payload)).term in
        let o = p.from.options + length V.options in
        let before = good.free (into p step.Payload) v y h in
        let c : Counts = counted p.from V in
        let w : Valuation = with_payload before.0 o b y in
        let a : Agree c before.0 w = payload_agrees before.0 c b y in
        let same : value_of w T ≡ y = sym (good.sound.sees (into p step.Payload) before.0 w a) ∙ before.3 in
        let present : with_nat before.0.present o b o ≡ b = nat_here before.0.present o b in
        let payload : put before.0.payload o y o ≡ y = put_here before.0.payload o y in (
          w,
          agree_then p.from v before.0 w before.1 (agree_less p.from c before.0 w (at_most p.from V) a),
          (gives_both p.from V (last p) w).1 (
            gives_seen p.from V before.0 w (good.sound.grounded (into p step.Payload)) a before.2,
            record {
              numbers = tt;
              tags = tt;
              options = (
                (subst (λ n. n < 2) (sym present) two, payload ∙ sym same),
                tt,
              );
            },
          ),
          value_either w _ ∙ ap (λ n. either_value n (put before.0.payload o y o)) present
              ∙ ap (either_value b) payload,
        )

    option_free : (p : Place) (v : Valuation) (x : Value) → IsValueOf t (ty.Option u) x
        → (w : Valuation) × Agree p.from v w × Gives p.from (option_made m p).variables w
        × (value_of w (option_made m p).term ≡ x)
    option_free p v x h = form (subst (λ y. Formed t y x) (out_option u) (formed t x (ty.Option u) h))
      where
        form : Formed t (Ty-F.Option u) x → (w : Valuation) × Agree p.from v w
            × Gives p.from (option_made m p).variables w × (value_of w (option_made m p).term ≡ x)
        form (inl e) = let g = given p v 0 good.some.0 (omega arith) good.some.1 in (g.0, g.1, g.2, g.3 ∙ sym e)
        form (inr k) = let g = given p v 1 k.0 (omega arith) k.2 in (g.0, g.1, g.2, g.3 ∙ sym k.1)

    good_option : Good (ty.Option u) (option_made m)
    good_option = record {
      sound = sound_option m good.sound;
      some = (value.None, none_of u);
      typed = option_is;
      free = option_free;
    }

  -- the fields of a record
  record GoodFields (us : List Ty) (f : Place → Fields) : Type 0 where
    sound_fields_are : SoundFields f
    some_values : (xs : List Value) × IsTrue (are_members (map (member_of t) xs) us)
    typed_values : (p : Place) (v : Valuation) → Gives p.from (f p).variables v
        → IsTrue (are_members (map (member_of t) (map (value_of v) (f p).terms)) us)
    free_values : (p : Place) (v : Valuation) (xs : List Value) → IsTrue (are_members (map (member_of t) xs) us)
        → (w : Valuation) × Agree p.from v w × Gives p.from (f p).variables w × (map (value_of w) (f p).terms ≡ xs)

  abbrev AllGood : List Ty → List Maker → Type 0
  AllGood [] [] = Unit {0}
  AllGood [] (m ∷ ms) = ⊥
  AllGood (u ∷ us) [] = ⊥
  AllGood (u ∷ us) (m ∷ ms) = Good u m × AllGood us ms

  all_sound : (us : List Ty) (ms : List Maker) → AllGood us ms → AllSound ms
  all_sound [] [] g = tt
  all_sound [] (m ∷ ms) g = absurd g
  all_sound (u ∷ us) [] g = absurd g
  all_sound (u ∷ us) (m ∷ ms) g = (g.0.sound, all_sound us ms g.1)

  no_fields_good : (i : ℕ) → GoodFields [] (fields_made i [])
  no_fields_good i = record {
    sound_fields_are = sound_fields i [] tt;
    some_values = ([], refl);
    typed_values = λ p v h. refl;
    free_values = λ p v xs h. nothing p v xs h;
  }
    where
      nothing : (p : Place) (v : Valuation) (xs : List Value) → IsTrue (are_members (map (member_of t) xs) [])
          → (w : Valuation) × Agree p.from v w × Gives p.from (variables [] [] [] []) w × ([] ≡ xs)
      nothing p v [] h = (v, agree_same p.from v, record { numbers = tt; tags = tt; options = tt }, refl)
      nothing p v (x ∷ xs) h = absurd (cc)

  more_fields : (i : ℕ) (u : Ty) (us : List Ty) (m : Maker) (ms : List Maker) → Good u m → AllSound ms
      → GoodFields us (fields_made (i + 1) ms) → GoodFields (u ∷ us) (fields_made i (m ∷ ms))
  more_fields i u us m ms good sound rest = record {
    sound_fields_are = sound_fields i (m ∷ ms) (good.sound, sound);
    some_values = (
      good.some.0 ∷ rest.some_values.0,
      and_true (is_value_of t u good.some.0) _ good.some.1 rest.some_values.1,
    );
    typed_values = typed;
    free_values = free;
  }
    where
      typed : (p : Place) (v : Valuation) → Gives p.from (fields_made i (m ∷ ms) p).variables v
          → IsTrue (are_members (map (member_of t) (map (value_of v) (fields_made i (m ∷ ms) p).terms)) (u ∷ us))
      typed p v h =
          let q = into p (step.Field i) in
          let V = (m q).variables in
          let R = fields_made (i + 1) ms (behind p V) in
          let parts = (gives_both p.from V R.variables v).0 h in
          and_true (is_value_of t u (value_of v (m q).term)) _ (good.typed q v parts.0)
          (rest.typed_values (behind p V) v parts.1)

      free : (p : Place) (v : Valuation) (xs : List Value) → IsTrue (are_members (map (member_of t) xs) (u ∷ us))
          → (w : Valuation) × Agree p.from v w × Gives p.from (fields_made i (m ∷ ms) p).variables w
          × (map (value_of w) (fields_made i (m ∷ ms) p).terms ≡ xs)
      free p v [] h = absurd (cc)
      free p v (x ∷ xs) h =
          let q = into p (step.Field i) in
          let V = (m q).variables in
          let R = fields_made (i + 1) ms (behind p V) in
          let tests = both (is_value_of t u x) (are_members (map (member_of t) xs) us) h in
          let a = good.free q v x tests.0 in
          let b = rest.free_values (behind p V) a.0 xs tests.1 in (
            b.0,
            agree_then p.from v a.0 b.0 a.1 (agree_less p.from (counted p.from V) a.0 b.0 (at_most p.from V) b.1),
            (gives_both p.from V R.variables b.0).1 (gives_seen p.from V a.0 b.0 (good.sound.grounded q) b.1 a.2, b.2),
            ap (λ y. y ∷ map (value_of b.0) R.terms) (sym (good.sound.sees q a.0 b.0 b.1) ∙ a.3)
                ∙ ap (λ ys. x ∷ ys) b.3,
          )

  good_fields : (i : ℕ) (us : List Ty) (ms : List Maker) → AllGood us ms → GoodFields us (fields_made i ms)
  good_fields i [] [] g = no_fields_good i
  good_fields i [] (m ∷ ms) g = absurd g
  good_fields i (u ∷ us) [] g = absurd g
  good_fields i (u ∷ us) (m ∷ ms) g = more_fields i u us m ms g.0 (all_sound us ms g.1) (good_fields (i + 1) us ms g.1)

  rec_of : (r : ℕ) (d : RecDecl) (vs : List Value) → slice_get t.records r ≡ Some d
      → IsTrue (are_members (map (member_of t) vs) (field_types d)) → IsValueOf t (ty.Rec r) (value.Rec vs)
  rec_of r d vs at h = member-rec t (ty.Rec r) vs ∙ ap (λ y. is_record_of t y (map (member_of t) vs)) (out_rec r)
      ∙ ap (λ o. has_fields o (map (member_of t) vs)) at ∙ h

  good_record : (r : ℕ) (d : RecDecl) (ms : List Maker) → slice_get t.records r ≡ Some d → AllGood (field_types d) ms
      → Good (ty.Rec r) (record_made ms)
  good_record r d ms at g = record {
    sound = sound_record ms (all_sound (field_types d) ms g);
    some = (value.Rec fs.some_values.0, rec_of r d fs.some_values.0 at fs.some_values.1);
    typed = λ p v h. subst (IsValueOf t (ty.Rec r)) (sym (value_rec v _)) (rec_of r d _ at (fs.typed_values p v h));
    free = λ p v x h.
        let f : Formed t (Ty-F.Rec r) x = subst (λ y. Formed t y x) (out_rec r) (formed t x (ty.Rec r) h) in
        let a = fs.free_values p v f.0 (sym (ap (λ o. has_fields o (map (member_of t) f.0)) at) ∙ f.2) in
        (a.0, a.1, a.2, value_rec a.0 _ ∙ ap value.Rec a.3 ∙ sym f.1);
  }
    where
      fs : GoodFields (field_types d) (fields_made 0 ms)
      fs = good_fields 0 (field_types d) ms g

module _ (t : Tables) (typed : IsWellTyped t) where
  -- of types whose records are among the first n
  abbrev Made_good : ℕ → Ty → Maker → Type 0
  Made_good n u m = IsTrue (is_type_before t n u) → Good t u m

  all_good : (ps : List Part) (f : Ty → Maker) → ((i : ℕ) (p : Part) → slice_get ps i ≡ Some p → Good t p.ty (f p.ty))
      → AllGood t (map (λ (p : Part). p.ty) ps) (map (λ (p : Part). f p.ty) ps)
  all_good [] f h = tt
  all_good (p ∷ ps) f h = (h 0 p refl, all_good ps f (λ i q at. h (suc i) q at))

  number_case : (n i : ℕ) → Made_good n (ty.Int i) (number_made (slice_get t.ints i))
  number_case n i is = let d = there t.ints i (sym (fold-int_type (ty_step t n) i) ∙ is) in
      subst (λ o. Good t (ty.Int i) (number_made o)) (sym d.1) (good_number t typed i d.0 d.1)

  tag_case : (n e : ℕ) → Made_good n (ty.Enum e) (tag_made (slice_get t.enums e))
  tag_case n e is = let d = there t.enums e (sym (fold-enum (ty_step t n) e) ∙ is) in
      subst (λ o. Good t (ty.Enum e) (tag_made o)) (sym d.1) (good_tag t typed e d.0 d.1)

  -- each valuation gives the term of a type a value of the type, and each value of the type is given
  pub made_good : (u : Ty) → IsType t u → Good t u (made_of t u)
  made_good = maker_ind t.ints t.enums t.records Made_good
      (λ n s is. good_element t s (sym (fold-sort (ty_step t n) s) ∙ is))
      number_case
      tag_case
      (λ n u m h is. good_option t u m (h (sym (fold-option (ty_step t n) u) ∙ is)))
      (λ n r d lt at f h is. good_record t r d (map (λ (p : Part). f p.ty) d.fields) at
      (all_good d.fields f (λ i p field. h p.ty (field_before t typed r i d p at field))))
      (λ n r le is. absurd (let lt = ltb-true r n (sym (fold-record (ty_step t n) r) ∙ is) in omega arith))

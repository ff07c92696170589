-- The ranges of the numbers and the variants of the tags that are made for types of a well typed model.
use Rattle.std.proofs.Common.{◌≡◌, ◌<◌, ◌≤◌, ◌+◌, ◌&&◌, true, IsTrue, leb, int_le, ℕ, zero, suc, ℤ, pos}
use Rattle.std.proofs.Common.{neg_ℤ, ◌≤ℤ◌, List, [], ◌∷◌, ◌++◌, map, length, slice_get, Option, Some, None}
use Rattle.std.proofs.Common.{refl, subst, arith}
use Rattle.std.specs.List.{list_all}
use Rattle.std.proofs.lemmas.Int.{ints}
use Rattle.std.proofs.lemmas.Bool.{leb-true}
use Rattle.cm_model.specs.WellTyped.{is_range, is_enum}
use Rattle.cm_model.specs.Limits.{is_number}
use Rattle.cm_model.specs.declared.ty.Ty.{Ty}
use Rattle.cm_model.specs.declared.ty.Part.{Part}
use Rattle.cm_model.specs.declared.ty.IntDecl.{IntDecl}
use Rattle.cm_model.specs.declared.ty.EnumDecl.{EnumDecl}
use Rattle.cm_model.specs.declared.ty.RecDecl.{RecDecl}
use Rattle.cm_value.proofs.Declared.{both, all_at}
use Rattle.cm_term.specs.declared.symbol.Step.TheVariants as step
use Rattle.cm_ctx.specs.Making.{Place, into, behind, Maker, Fields, fields_made, number_made}
use Rattle.cm_ctx.specs.Making.{tag_made, option_made, record_made, made_in, record_makers}
use Rattle.cm_ctx.specs.Making.{piece_of, place}
use Rattle.cm_model.specs.Tables.{Tables}
use Rattle.cm_model.specs.WellTyped.{IsWellTyped}
use Rattle.cm_term.specs.declared.symbol.Root.{Root}
use Rattle.cm_ctx.specs.declared.piece.Counts.{Counts}
use Rattle.cm_ctx.specs.Grown.{IsRange, AreRanges, IsEnum, AreEnums, IsFitting}
use Rattle.cm_ctx.proofs.Makers.{maker_ind}
use Rattle.cm_ctx.proofs.Seeing.{Sound, AllSound, sound_element, sound_number, sound_tag, sound_option, sound_record}

-- what is so of each item of two lists is so of both lists together
pub all_append : {A : Type 0} (P : A → Type 0) (xs ys : List A) → ((i : ℕ) (a : A) → slice_get xs i ≡ Some a → P a)
    → ((i : ℕ) (a : A) → slice_get ys i ≡ Some a → P a)
    → (i : ℕ) (a : A) → slice_get (xs ++ ys) i ≡ Some a → P a
all_append P [] ys f g i a at = g i a at
all_append P (x ∷ xs) ys f g zero a at = f zero a at
all_append P (x ∷ xs) ys f g (suc i) a at = all_append P xs ys (λ j b e. f (suc j) b e) g i a at

none_at : {A : Type 0} (P : A → Type 0) (i : ℕ) (a : A) → slice_get [] i ≡ Some a → P a
none_at P i a at = absurd (cc)

one_at : {A : Type 0} (P : A → Type 0) (x : A) → P x → (i : ℕ) (a : A) → slice_get (x ∷ []) i ≡ Some a → P a
one_at P x p zero a at = let same : x ≡ a = cc in subst P same p
one_at P x p (suc i) a at = absurd (cc)

pub record InRange (m : Maker) : Type 0 where
  pub numbers : (p : Place) → AreRanges (m p).variables.numbers
  pub tags : (p : Place) → AreEnums (m p).variables.tags

pub record FieldsInRange (f : Place → Fields) : Type 0 where
  pub numbers : (p : Place) → AreRanges (f p).variables.numbers
  pub tags : (p : Place) → AreEnums (f p).variables.tags

abbrev AllInRange : List Maker → Type 0
AllInRange [] = Unit {0}
AllInRange (m ∷ ms) = InRange m × AllInRange ms

fields_in_range : (i : ℕ) (ms : List Maker) → AllInRange ms → FieldsInRange (fields_made i ms)
fields_in_range i [] s = record { numbers = λ p. none_at IsRange; tags = λ p. none_at IsEnum }
fields_in_range i (m ∷ ms) s = record {
  numbers = λ p.
      all_append IsRange (m (into p (step.Field i))).variables.numbers
      (fields_made (i + 1) ms (behind p (m (into p (step.Field i))).variables)).variables.numbers
      (s.0.numbers (into p (step.Field i))) ((fields_in_range (i + 1) ms s.1).numbers
      (behind p (m (into p (step.Field i))).variables));
  tags = λ p.
      all_append IsEnum (m (into p (step.Field i))).variables.tags
      (fields_made (i + 1) ms (behind p (m (into p (step.Field i))).variables)).variables.tags
      (s.0.tags (into p (step.Field i))) ((fields_in_range (i + 1) ms s.1).tags
      (behind p (m (into p (step.Field i))).variables));
}

test_of : (a b : ℤ) → int_le a b ≡ true → a ≤ℤ b
test_of a b e = grind (arith, ints)

module _ (is : List IntDecl) (es : List EnumDecl) (rs : List RecDecl) (ranges : IsTrue (list_all is_range is))
    (enums : IsTrue (list_all is_enum es)) where
  number_in_range : (i : ℕ) → InRange (number_made (slice_get is i))
  number_in_range i = found (slice_get is i) refl
    where
      found : (o : Option IntDecl) → slice_get is i ≡ o → InRange (number_made o)
      found None at = record {
        numbers = λ p. one_at IsRange _ (record {
          low = omega (arith, ints);
          order = omega (arith, ints);
          high = omega (arith, ints);
        });
        tags = λ p. none_at IsEnum;
      }
      found (Some d) at =
          let range = both (is_number d.lo && is_number d.hi) (int_le d.lo d.hi) (all_at is_range is i d ranges at) in
          let ends = both (is_number d.lo) (is_number d.hi) range.0 in
          let low = test_of (neg_ℤ (pos 1000000)) d.lo
          (both (int_le (neg_ℤ (pos 1000000)) d.lo) (int_le d.lo (pos 1000000)) ends.0).0 in
          let high = test_of d.hi (pos 1000000) (both (int_le (neg_ℤ (pos 1000000)) d.hi)
          (int_le d.hi (pos 1000000)) ends.1).1 in
          let order = test_of d.lo d.hi range.1 in
          record {
            numbers = λ p. one_at IsRange _ (record { low = low; order = order; high = high });
            tags = λ p. none_at IsEnum;
          }

  tag_in_range : (e : ℕ) → InRange (tag_made (slice_get es e))
  tag_in_range e = found (slice_get es e) refl
    where
      found : (o : Option EnumDecl) → slice_get es e ≡ o → InRange (tag_made o)
      found None at = record {
        numbers = λ p. none_at IsRange;
        tags = λ p. one_at IsEnum _ (record { some = omega arith; few = omega arith });
      }
      found (Some d) at =
          let so = both (leb 1 (length d.variants)) (leb (length d.variants) 64) (all_at is_enum es e d enums at) in
          let some : 0 < length d.variants = let h = leb-true 1 (length d.variants) so.0 in omega arith in
          let few : length d.variants ≤ 64 = leb-true (length d.variants) 64 so.1 in
          record { numbers = λ p. none_at IsRange; tags = λ p. one_at IsEnum _ (record { some = some; few = few }) }

  abbrev Whole : ℕ → Ty → Maker → Type 0
  Whole n u m = Sound m × InRange m

  option_in_range : (m : Maker) → InRange m → InRange (option_made m)
  option_in_range m r = record {
    numbers = λ p. all_append IsRange (m (into p step.Payload)).variables.numbers [] (r.numbers (into p step.Payload))
        (none_at IsRange);
    tags = λ p. all_append IsEnum (m (into p step.Payload)).variables.tags [] (r.tags (into p step.Payload))
        (none_at IsEnum);
  }

  fields_whole : (f : Ty → Maker) → ((u : Ty) → Sound (f u) × InRange (f u)) → (ps : List Part)
      → AllSound (map (λ (p : Part). f p.ty) ps) × AllInRange (map (λ (p : Part). f p.ty) ps)
  fields_whole f h [] = (tt, tt)
  fields_whole f h (p ∷ ps) = let a = h p.ty in let rest = fields_whole f h ps in ((a.0, rest.0), (a.1, rest.1))

  record_whole : (f : Ty → Maker) → ((u : Ty) → Sound (f u) × InRange (f u)) → (ps : List Part)
      → Sound (record_made (map (λ (p : Part). f p.ty) ps)) × InRange (record_made (map (λ (p : Part). f p.ty) ps))
  record_whole f h ps =
      let w = fields_whole f h ps in
      let r = fields_in_range 0 (map (λ (p : Part). f p.ty) ps) w.1 in
      (sound_record (map (λ (p : Part). f p.ty) ps) w.0, record { numbers = r.numbers; tags = r.tags })

  none_whole : Sound (record_made []) × InRange (record_made [])
  none_whole =
      let r = fields_in_range 0 [] tt in
      (sound_record [] tt, record { numbers = r.numbers; tags = r.tags })

  pub made_whole : (u : Ty) → Sound (made_in is es (record_makers is es rs) u)
      × InRange (made_in is es (record_makers is es rs) u)
  made_whole = maker_ind is es rs Whole
      (λ n s. (sound_element s, record { numbers = λ p. none_at IsRange; tags = λ p. none_at IsEnum }))
      (λ n i. (sound_number (slice_get is i), number_in_range i))
      (λ n e. (sound_tag (slice_get es e), tag_in_range e))
      (λ n u m h. (sound_option m h.0, option_in_range m h.1))
      (λ n r d lt at f h. record_whole f h d.fields)
      (λ n r le. none_whole)

-- what is made for a type of a well typed model fits
pub fitting : (t : Tables) → IsWellTyped t → (u : Ty) (root : Root) (from : Counts) → IsFitting (piece_of t u root from)
fitting t typed u root from =
    let w = made_whole t.ints t.enums t.records typed.ranges typed.variants u in
    record {
      numbers = w.1.numbers (place root [] from);
      tags = w.1.tags (place root [] from);
      payloads = (w.0.grounded (place root [] from)).payloads;
    }

-- What tables say of a flat type whose measures are right.
use Rattle.std.proofs.Common.{◌≡◌, ℕ, suc, ◌+◌, ◌-◌, ◌<◌, ◌≤◌, ◌&&◌, ◌||◌, nat_lt, leb, true, [], length, Some, refl}
use Rattle.std.proofs.Common.{sym, ap, ◌∙◌, arith}
use Rattle.std.proofs.lemmas.Bool.{and_parts, and_from, ltb-true, leb-true, le-leb}
use Rattle.std.proofs.lemmas.List.{append-nil}
use Rattle.cm_model.specs.Tables.{Tables}
use Rattle.cm_model.specs.Limits.{width_limit, integer_limit}
use Rattle.cm_model.specs.Types as types
use Rattle.cm_model.specs.Types.{is_type_before, is_type_in_use, widths, record_integers, record_options, or_else}
use Rattle.cm_model.specs.Kinds.{payload_of, payload_in}
use Rattle.cm_model.proofs.Larger.{IsLarger, still_before}
use Rattle.cm_typing.specs.declared.flat.Flat.{Flat}
use Rattle.cm_typing.specs.Flats.{width_of, holds_option, is_small, innermost, around, ty_of_flat, option_flat}
use Rattle.cm_typing.specs.Flats.{enum_flat, int_flat, sort_flat}
use Rattle.cm_types.proofs.Deepening.{before_around, width_around, integers_around, options_around, out_option}
use Rattle.cm_types.proofs.Deepening.{fold_base}

-- a declared type, whose records are among the first n, with the measures that tables give it, and small enough
pub record IsFlat (t : Tables) (n : ℕ) (f : Flat) : Type 0 where
  pub before : is_type_before t n (innermost f.base) ≡ true
  pub width : types.width_of t (innermost f.base) ≡ f.width
  pub integers : types.integers_of t (innermost f.base) ≡ f.integers
  pub optional : types.holds_option t (innermost f.base) ≡ f.optional
  pub small : is_small (width_of f) f.integers ≡ true

same_tables : (t : Tables) → IsLarger t t
same_tables t = record {
  sorts = ([], sym (append-nil t.sorts));
  ints = ([], sym (append-nil t.ints));
  enums = ([], sym (append-nil t.enums));
  records = ([], sym (append-nil t.records));
  states = ([], sym (append-nil t.states));
  funs = ([], sym (append-nil t.funs));
}

pub wider : (t : Tables) (m n : ℕ) → m ≤ n → (f : Flat) → IsFlat t m f → IsFlat t n f
wider t m n le f h = record {
  before = still_before t t (same_tables t) m n le (innermost f.base) h.before;
  width = h.width;
  integers = h.integers;
  optional = h.optional;
  small = h.small;
}

module _ (t : Tables) (n : ℕ) (f : Flat) (h : IsFlat t n f) where
  pub is_before : is_type_before t n (ty_of_flat f) ≡ true
  is_before = before_around t n f.options f.base ∙ h.before

  pub width_is : types.width_of t (ty_of_flat f) ≡ width_of f
  width_is = width_around (widths t.records) f.options f.base ∙ ap (λ w. w + f.options) h.width

  pub integers_are : types.integers_of t (ty_of_flat f) ≡ f.integers
  integers_are = integers_around (record_integers t.records) f.options f.base ∙ h.integers

  pub option_is : types.holds_option t (ty_of_flat f) ≡ holds_option f
  option_is = options_around (record_options t.records) f.options f.base ∙ ap (λ b. b || nat_lt 0 f.options) h.optional

  pub in_use : n ≤ length t.records → is_type_in_use t (ty_of_flat f) ≡ true
  in_use le =
      let small = leb (types.width_of t (ty_of_flat f)) width_limit && leb (types.integers_of t (ty_of_flat f))
      integer_limit in
      and_from (is_type_before t (length t.records) (ty_of_flat f)) small
      (is_before_of (wider t n (length t.records) le f h))
      (ap (λ w. leb w width_limit && leb (types.integers_of t (ty_of_flat f)) integer_limit) width_is
      ∙ ap (λ i. leb (width_of f) width_limit && leb i integer_limit) integers_are ∙ h.small)
    where
      is_before_of : IsFlat t (length t.records) f → is_type_before t (length t.records) (ty_of_flat f) ≡ true
      is_before_of k = before_around t (length t.records) f.options f.base ∙ k.before

  -- its option
  pub option_fits : is_small (width_of f + 1) f.integers ≡ true → IsFlat t n (option_flat f)
  option_fits small = record {
    before = h.before;
    width = h.width;
    integers = h.integers;
    optional = h.optional;
    small = ap (λ w. is_small w f.integers) (moved f.width f.options) ∙ small;
  }
    where
      moved : (w k : ℕ) → w + (k + 1) ≡ w + k + 1
      moved w k = omega arith

  -- the payload of an option
  abbrev pub payload_flat : Flat
  payload_flat = record f { options = f.options - 1 }

  pub payload_fits : nat_lt 0 f.options ≡ true
      → IsFlat t n payload_flat × (payload_of (ty_of_flat f) ≡ Some (ty_of_flat payload_flat))
  payload_fits some = (
    record {
      before = h.before;
      width = h.width;
      integers = h.integers;
      optional = h.optional;
      small = smaller f.width f.options f.integers h.small;
    },
    ap (λ k. payload_of (around k (innermost f.base))) (one_more f.options (ltb-true 0 f.options some))
        ∙ ap payload_in (out_option (ty_of_flat payload_flat)),
  )
    where
      one_more : (k : ℕ) → 0 < k → k ≡ suc (k - 1)
      one_more k lt = omega (arith, lt)

      smaller : (w k i : ℕ) → is_small (w + k) i ≡ true → is_small (w + (k - 1)) i ≡ true
      smaller w k i h =
          let p = and_parts (leb (w + k) width_limit) (leb i integer_limit) h in
          and_from (leb (w + (k - 1)) width_limit) (leb i integer_limit) (less w k p.0) p.1
        where
          less : (w k : ℕ) → leb (w + k) 32 ≡ true → leb (w + (k - 1)) 32 ≡ true
          less w k h = le-leb (w + (k - 1)) 32 (omega (arith, leb-true (w + k) 32 h))

-- Types without a record

module _ (t : Tables) (n : ℕ) where
  pub sort_fits : (s : ℕ) → nat_lt s (length t.sorts) ≡ true → IsFlat t n (sort_flat s)
  sort_fits s lt = record {
    before = fold_base (types.ty_step t n) (sort_flat s).base ∙ lt;
    width = fold_base (types.width_step (widths t.records)) (sort_flat s).base;
    integers = fold_base (types.integers_step (record_integers t.records)) (sort_flat s).base;
    optional = fold_base (types.option_step (record_options t.records)) (sort_flat s).base;
    small = refl;
  }

  pub int_fits : (i : ℕ) → nat_lt i (length t.ints) ≡ true → IsFlat t n (int_flat i)
  int_fits i lt = record {
    before = fold_base (types.ty_step t n) (int_flat i).base ∙ lt;
    width = fold_base (types.width_step (widths t.records)) (int_flat i).base;
    integers = fold_base (types.integers_step (record_integers t.records)) (int_flat i).base;
    optional = fold_base (types.option_step (record_options t.records)) (int_flat i).base;
    small = refl;
  }

  pub enum_fits : (e : ℕ) → nat_lt e (length t.enums) ≡ true → IsFlat t n (enum_flat e)
  enum_fits e lt = record {
    before = fold_base (types.ty_step t n) (enum_flat e).base ∙ lt;
    width = fold_base (types.width_step (widths t.records)) (enum_flat e).base;
    integers = fold_base (types.integers_step (record_integers t.records)) (enum_flat e).base;
    optional = fold_base (types.option_step (record_options t.records)) (enum_flat e).base;
    small = refl;
  }

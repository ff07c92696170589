-- What a term that fits a value of an option looks like, and its payload.
use Rattle.std.proofs.Common.{◌≡◌, ◌<◌, ◌≤◌, ℕ, ◌==◌, ltb, true, ◌&&◌, List, slice_get, Option, Some, None}
use Rattle.std.proofs.Common.{refl, sym, ap, ◌∙◌, arith}
use Rattle.std.proofs.lemmas.Bool.{and_parts, and_from, eqb-true, ltb-true}
use Rattle.cm_model.specs.Tables.{Tables}
use Rattle.cm_model.specs.declared.ty.Ty.{Ty, out-Ty}
use Rattle.cm_model.specs.declared.ty.Ty.TheOpen.{Ty-F}
use Rattle.cm_model.specs.declared.variable.SortVar.{SortVar}
use Rattle.cm_value.specs.declared.value.Value.{Value}
use Rattle.cm_value.specs.declared.value.Value.TheVariants as value
use Rattle.cm_term.specs.declared.atom.Num.{Num}
use Rattle.cm_term.specs.declared.atom.Tag.{Tag}
use Rattle.cm_term.specs.declared.atom.Opt.{Opt}
use Rattle.cm_term.specs.declared.atom.Opt.TheVariants as opt
use Rattle.cm_term.specs.declared.term.Term.{Term, out-Term}
use Rattle.cm_term.specs.declared.term.Term.TheVariants as term
use Rattle.cm_term.specs.declared.term.Term.TheViews.{roll-Term, roll-out-Term}
use Rattle.cm_term.specs.declared.term.Term.TheOpen.{Term-F}
use Rattle.cm_term.specs.Atoms.{opt_under}
use Rattle.cm_term.specs.Valuation.{OfOption}
use Rattle.cm_cells.specs.Comparison.{elem_in, num_in, tag_in, fields_in}
use Rattle.cm_exec.specs.Asking.{opt_in, opt_of, payload_in, payload_of}
use Rattle.cm_beside.specs.Grounds.{Grounds}
use Rattle.cm_beside.specs.Fits.{Fitting, is_nothing, is_something, is_option, payload_fits}
use Rattle.cm_beside.specs.Related.{is_opt}
use Rattle.cm_beside.proofs.Layers.{fitting, AtOption, Nothing, Something, at_option}
use Rattle.cm_beside.proofs.Fitting.{grows}

pub whole : (x : Term) (y : Term-F Term) → out-Term x ≡ y → x ≡ roll-Term y
whole x y is = sym (roll-out-Term x) ∙ ap roll-Term is

-- the forms of terms
pub elem_form : (x : Term) (a : SortVar) → elem_in (out-Term x) ≡ Some a → x ≡ term.Elem a
elem_form x a h = by (out-Term x) refl h
  where
    by : (y : Term-F Term) → out-Term x ≡ y → elem_in y ≡ Some a → x ≡ term.Elem a
    by (Term-F.Elem z) e k = whole x (Term-F.Elem z) e ∙ term.rolls-Elem z ∙ ap term.Elem (let s : z ≡ a = cc in s)
    by (Term-F.Num z) e k = absurd (cc)
    by (Term-F.Tag z) e k = absurd (cc)
    by (Term-F.Rec z) e k = absurd (cc)
    by Term-F.None e k = absurd (cc)
    by (Term-F.Some z) e k = absurd (cc)
    by (Term-F.Either z) e k = absurd (cc)

pub num_form : (x : Term) (a : Num) → num_in (out-Term x) ≡ Some a → x ≡ term.Num a
num_form x a h = by (out-Term x) refl h
  where
    by : (y : Term-F Term) → out-Term x ≡ y → num_in y ≡ Some a → x ≡ term.Num a
    by (Term-F.Num z) e k = whole x (Term-F.Num z) e ∙ term.rolls-Num z ∙ ap term.Num (let s : z ≡ a = cc in s)
    by (Term-F.Elem z) e k = absurd (cc)
    by (Term-F.Tag z) e k = absurd (cc)
    by (Term-F.Rec z) e k = absurd (cc)
    by Term-F.None e k = absurd (cc)
    by (Term-F.Some z) e k = absurd (cc)
    by (Term-F.Either z) e k = absurd (cc)

pub tag_form : (x : Term) (a : Tag) → tag_in (out-Term x) ≡ Some a → x ≡ term.Tag a
tag_form x a h = by (out-Term x) refl h
  where
    by : (y : Term-F Term) → out-Term x ≡ y → tag_in y ≡ Some a → x ≡ term.Tag a
    by (Term-F.Tag z) e k = whole x (Term-F.Tag z) e ∙ term.rolls-Tag z ∙ ap term.Tag (let s : z ≡ a = cc in s)
    by (Term-F.Elem z) e k = absurd (cc)
    by (Term-F.Num z) e k = absurd (cc)
    by (Term-F.Rec z) e k = absurd (cc)
    by Term-F.None e k = absurd (cc)
    by (Term-F.Some z) e k = absurd (cc)
    by (Term-F.Either z) e k = absurd (cc)

pub rec_form : (x : Term) (xs : List Term) → fields_in (out-Term x) ≡ Some xs → x ≡ term.Rec xs
rec_form x xs h = by (out-Term x) refl h
  where
    by : (y : Term-F Term) → out-Term x ≡ y → fields_in y ≡ Some xs → x ≡ term.Rec xs
    by (Term-F.Rec z) e k = whole x (Term-F.Rec z) e ∙ term.rolls-Rec z ∙ ap term.Rec (let s : z ≡ xs = cc in s)
    by (Term-F.Elem z) e k = absurd (cc)
    by (Term-F.Num z) e k = absurd (cc)
    by (Term-F.Tag z) e k = absurd (cc)
    by Term-F.None e k = absurd (cc)
    by (Term-F.Some z) e k = absurd (cc)
    by (Term-F.Either z) e k = absurd (cc)

module _ (t : Tables) (g : Grounds) where
  abbrev fit : Value → Fitting
  fit = fitting t g

  -- an option's term: what says whether it is there, and its payload where it is
  pub data OptionAt (w : Ty) (v : Value) (x : Term) : Type 0 where
    IsNone : (r : Opt) → v ≡ value.None → opt_of x ≡ Some r → is_opt t g r ≡ true → opt_under g.valuation.present r ≡ 0
        → OptionAt w v x
    IsSome : (z : Value) (r : Opt) (p : Term) → v ≡ value.Some z → opt_of x ≡ Some r → is_opt t g r ≡ true
        → opt_under g.valuation.present r ≡ 1 → payload_of g.payloads x ≡ Some p → fit z w g.options p ≡ true
        → OptionAt w v x

  pub option_parts : (o n : ℕ) → is_option t g g.options o n ≡ true
      → (o < g.options) × (g.valuation.present o ≡ n) × ((ltb o g.options && g.has (OfOption o)) ≡ true)
  option_parts o n h =
      let whole_ = and_parts (ltb o g.options && (g.valuation.present o == n)) _ h in
      let parts = and_parts (ltb o g.options) (g.valuation.present o == n) whole_.0 in
      (ltb-true o g.options parts.0, eqb-true (g.valuation.present o) n parts.1, and_from _ _ parts.0 whole_.1)

  pub option_at : (u w : Ty) → out-Ty u ≡ Ty-F.Option w → (v : Value) (x : Term) → fit v u g.options x ≡ true
      → OptionAt w v x
  option_at u w of v x h = by (at_option t g u w of v g.options x h)
    where
      nothing : v ≡ value.None → (y : Term-F Term) → out-Term x ≡ y → is_nothing t g g.options y ≡ true → OptionAt w v x
      nothing is Term-F.None e k = IsNone opt.None is (ap opt_in e) refl refl
      nothing is (Term-F.Either o) e k =
          let parts = option_parts o.0 0 k in IsNone (opt.Var o) is (ap opt_in e) parts.2 parts.1
      nothing is (Term-F.Elem z) e k = absurd (cc)
      nothing is (Term-F.Num z) e k = absurd (cc)
      nothing is (Term-F.Tag z) e k = absurd (cc)
      nothing is (Term-F.Rec z) e k = absurd (cc)
      nothing is (Term-F.Some z) e k = absurd (cc)

      payload : (z : Value) (o : ℕ) (p : Option Term) → payload_fits t g (fit z) w o p ≡ true
          → (q : Term) × (p ≡ Some q) × (fit z w o q ≡ true)
      payload z o (Some q) k = (q, refl, k)
      payload z o None k = absurd (cc)

      something : (z : Value) → v ≡ value.Some z → (y : Term-F Term) → out-Term x ≡ y
          → is_something t g (fit z) w g.options y ≡ true → OptionAt w v x
      something z is (Term-F.Some p) e k = IsSome z opt.Some p is (ap opt_in e) refl refl (ap (payload_in g.payloads) e) k
      something z is (Term-F.Either o) e k =
          let both = and_parts (is_option t g g.options o.0 1) _ k in
          let parts = option_parts o.0 1 both.0 in
          let found = payload z o.0 (slice_get g.payloads o.0) both.1 in
          let le : o.0 ≤ g.options = omega (arith, parts.0) in
          IsSome z (opt.Var o) found.0 is (ap opt_in e) parts.2 parts.1 (ap (payload_in g.payloads) e ∙ found.1)
          (grows t g z w o.0 g.options found.0 le found.2)
      something z is (Term-F.Elem y) e k = absurd (cc)
      something z is (Term-F.Num y) e k = absurd (cc)
      something z is (Term-F.Tag y) e k = absurd (cc)
      something z is (Term-F.Rec y) e k = absurd (cc)
      something z is Term-F.None e k = absurd (cc)

      by : AtOption t g w g.options v x → OptionAt w v x
      by (Nothing is k) = nothing is (out-Term x) refl k
      by (Something z is k) = something z is (out-Term x) refl k

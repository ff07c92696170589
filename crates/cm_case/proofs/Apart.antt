-- A question with two possible outcomes has a literal, and the two symbols in it are different.
use Rattle.std.proofs.Common.{◌≡◌, ◌≢◌, ℕ, ℤ, ◌+ℤ◌, int_lt, Bool, true, false, List, Option, Some}
use Rattle.std.proofs.Common.{IfSome, refl, sym, ap, ◌∙◌, subst, arith, if◌then◌else◌}
use Rattle.std.specs.List.{AllByRecursion}
use Rattle.std.specs.Option.{option_map}
use Rattle.std.proofs.lemmas.Bool.{eq-eqb}
use Rattle.std.proofs.lemmas.Int.{ints}
use Rattle.cm_model.specs.Tables.{Tables}
use Rattle.cm_model.specs.declared.pair.Pair.{Pair}
use Rattle.cm_value.specs.declared.value.Value.{out-Value}
use Rattle.cm_value.specs.declared.value.Value.TheVariants as value
use Rattle.cm_value.specs.declared.value.Value.TheOpen.{Value-F}
use Rattle.cm_value.specs.declared.value.Value.TheViews.{out-roll-Value}
use Rattle.cm_term.specs.declared.atom.Num.TheVariants as num
use Rattle.cm_term.specs.declared.atom.Tag.TheVariants as tag
use Rattle.cm_term.specs.declared.atom.Opt.TheVariants as opt
use Rattle.cm_term.specs.declared.question.Question.{Question}
use Rattle.cm_term.specs.declared.question.Question.TheVariants as question
use Rattle.cm_term.specs.declared.symbol.Sym.{Sym}
use Rattle.cm_term.specs.Symbols.{symbol_value}
use Rattle.cm_term.specs.Valuation.{Valuation, Var, OfElement, OfNumber, OfTag, OfOption}
use Rattle.cm_term.specs.Questions.{outcome_under, elements_outcome, order_of, vars_asked}
use Rattle.cm_cells.specs.CellTable.{Place}
use Rattle.cm_ctx.specs.declared.piece.Piece.{Piece}
use Rattle.cm_cond.specs.declared.literal.Literal.{Literal}
use Rattle.cm_beside.specs.Nodes.{pieces_of, IsValuation}
use Rattle.cm_beside.specs.Seen.{roots_under, symbol_at, has_value}
use Rattle.cm_name.specs.Naming.{of_two, said_of, elements_literal}
use Rattle.cm_beside.proofs.Seeing.{value_at}
use Rattle.cm_case.proofs.Keyed.{MaySee}
use Rattle.cm_case.proofs.Extending.{has_symbol}

-- the symbols of two variables that are asked of together are different
abbrev pub Differ : Option Sym → Option Sym → Type 0
Differ o q = (x y : Sym) → o ≡ Some x → q ≡ Some y → x ≢ y

abbrev pub AreApart : List Piece → Question → Type 0
AreApart ps (question.Elems x y) = Differ (symbol_at ps (OfElement x.0)) (symbol_at ps (OfElement y.0))
AreApart ps (question.Nums (num.Plus x k) (num.Plus y l)) =
    Differ (symbol_at ps (OfNumber x.0)) (symbol_at ps (OfNumber y.0))
AreApart ps q = Unit {0}

element_is : (a b : ℕ) → value.Elem a ≡ value.Elem b → a ≡ b
element_is a b e =
    let f = sym (out a) ∙ ap out-Value e ∙ out b in cc
  where
    out : (n : ℕ) → out-Value (value.Elem n) ≡ Value-F.Elem n
    out n = ap out-Value (sym (value.rolls-Elem n)) ∙ out-roll-Value (Value-F.Elem n)

number_is : (a b : ℤ) → value.Int a ≡ value.Int b → a ≡ b
number_is a b e =
    let f = sym (out a) ∙ ap out-Value e ∙ out b in cc
  where
    out : (n : ℤ) → out-Value (value.Int n) ≡ Value-F.Int n
    out n = ap out-Value (sym (value.rolls-Int n)) ∙ out-roll-Value (Value-F.Int n)

some_same : {X : Type 0} {x y : X} → Some x ≡ Some y → x ≡ y
some_same h = cc

-- the same element
one_element : (e : ℕ → ℕ) (x y : ℕ) → e x ≡ e y → elements_outcome e x y ≡ 0
one_element e x y same = ap (λ b. if b then 0 else 1) (eq-eqb (e x) (e y) same)

-- the order of two sums with one number
moved : (m k l : ℤ) → int_lt (m +ℤ k) (m +ℤ l) ≡ int_lt k l
moved m k l = by (int_lt k l) refl
  where
    by : (b : Bool) → int_lt k l ≡ b → int_lt (m +ℤ k) (m +ℤ l) ≡ b
    by true e = grind (arith, ints, e)
    by false e = grind (arith, ints, e)

one_order : (m k l : ℤ) → order_of (m +ℤ k) (m +ℤ l) ≡ order_of k l
one_order m k l =
    ap (λ b. if b then 0 else if int_lt (m +ℤ l) (m +ℤ k) then 2 else 1) (moved m k l)
    ∙ ap (λ b. if int_lt k l then 0 else if b then 2 else 1) (moved m l k)

module _ (t : Tables) (p : Pair) (may : MaySee t p) (places : List Place) where
  abbrev P : List Piece
  P = pieces_of t p places

  abbrev Has : Valuation → List Var → Type 0
  Has v = AllByRecursion (λ x. has_value t p places v x ≡ true)

  -- two variables of one symbol have one value
  one_value : (v : Valuation) → IsValuation (pieces_of t p places) v → (x y : Var) → has_value t p places v x ≡ true
      → (s : Sym) → symbol_at (pieces_of t p places) x ≡ Some s → symbol_at (pieces_of t p places) y ≡ Some s
      → value_at v x ≡ value_at v y
  one_value v is x y has s ax ay =
      let h = has_symbol t p places v x has in
      let same : h.0 ≡ s = some_same (sym h.1 ∙ ax) in
      let there : symbol_value (roots_under t p places v) s ≡ Some h.2 =
      ap (symbol_value (roots_under t p places v)) (sym same) ∙ h.3 in
      sym (subst (λ o. IfSome o (λ z. z ≡ value_at v x)) there (may places v is x s ax))
      ∙ subst (λ o. IfSome o (λ z. z ≡ value_at v y)) there (may places v is y s ay)

  module _ (u w : Valuation) (iu : IsValuation (pieces_of t p places) u) (iw : IsValuation (pieces_of t p places) w)
    where
      pub apart : (q : Question) (d : ℕ) → Has u (vars_asked q) → Has w (vars_asked q) → outcome_under u q ≢ d
          → outcome_under w q ≡ d → AreApart (pieces_of t p places) q
      apart (question.Elems x y) d hu hw other told = λ a b at bt same.
          let one : symbol_at P (OfElement y.0) ≡ Some a = bt ∙ ap Some (sym same) in
          let eu = element_is _ _ (one_value u iu (OfElement x.0) (OfElement y.0) hu.0 a at one) in
          let ew = element_is _ _ (one_value w iw (OfElement x.0) (OfElement y.0) hw.0 a at one) in
          other (one_element u.element x.0 y.0 eu ∙ sym (one_element w.element x.0 y.0 ew) ∙ told)
      apart (question.Nums (num.Plus x k) (num.Plus y l)) d hu hw other told = λ a b at bt same.
          let one : symbol_at P (OfNumber y.0) ≡ Some a = bt ∙ ap Some (sym same) in
          let eu = number_is _ _ (one_value u iu (OfNumber x.0) (OfNumber y.0) hu.0 a at one) in
          let ew = number_is _ _ (one_value w iw (OfNumber x.0) (OfNumber y.0) hw.0 a at one) in
          other (ap (λ n. order_of (u.number x.0 +ℤ k) (n +ℤ l)) (sym eu) ∙ one_order (u.number x.0) k l
          ∙ sym (ap (λ n. order_of (w.number x.0 +ℤ k) (n +ℤ l)) (sym ew) ∙ one_order (w.number x.0) k l) ∙ told)
      apart (question.Nums (num.Plus x k) (num.Const n)) d hu hw other told = tt
      apart (question.Nums (num.Const m) (num.Plus y l)) d hu hw other told = tt
      apart (question.Nums (num.Const m) (num.Const n)) d hu hw other told = tt
      apart (question.Range a lo hi) d hu hw other told = tt
      apart (question.TagOf a) d hu hw other told = tt
      apart (question.OptOf a) d hu hw other told = tt

      two_there : {X : Type 0} (f : Sym → Sym → X) (o q : Option Sym) (a b : Sym) → o ≡ Some a → q ≡ Some b
          → (l : X) × (of_two f o q ≡ Some l)
      two_there f o q a b at bt = (f a b, ap (λ s. of_two f s q) at ∙ ap (of_two f (Some a)) bt)

      one_there : {X : Type 0} (f : Sym → X) (o : Option Sym) (a : Sym) → o ≡ Some a → (l : X) × (option_map f o ≡ Some l)
      one_there f o a at = (f a, ap (option_map f) at)

      symbol_there : (x : Var) → has_value t p places u x ≡ true → (s : Sym) × (symbol_at (pieces_of t p places) x ≡ Some s)
      symbol_there x h = let s = has_symbol t p places u x h in (s.0, s.1)

      -- constants have one outcome
      pub sayable : (q : Question) (d : ℕ) → Has u (vars_asked q) → outcome_under u q ≢ d → outcome_under w q ≡ d
          → (l : Literal) × (said_of (pieces_of t p places) q d ≡ Some l)
      sayable (question.Elems x y) d h other told =
          let a = symbol_there (OfElement x.0) h.0 in
          let b = symbol_there (OfElement y.0) h.1.0 in
          two_there (elements_literal d) (symbol_at P (OfElement x.0)) (symbol_at P (OfElement y.0)) a.0 b.0 a.1 b.1
      sayable (question.Nums (num.Plus x k) (num.Plus y l)) d h other told =
          let a = symbol_there (OfNumber x.0) h.0 in
          let b = symbol_there (OfNumber y.0) h.1.0 in
          two_there _ (symbol_at P (OfNumber x.0)) (symbol_at P (OfNumber y.0)) a.0 b.0 a.1 b.1
      sayable (question.Nums (num.Plus x k) (num.Const n)) d h other told =
          let a = symbol_there (OfNumber x.0) h.0 in one_there _ (symbol_at P (OfNumber x.0)) a.0 a.1
      sayable (question.Nums (num.Const m) (num.Plus y l)) d h other told =
          let a = symbol_there (OfNumber y.0) h.0 in one_there _ (symbol_at P (OfNumber y.0)) a.0 a.1
      sayable (question.Nums (num.Const m) (num.Const n)) d h other told = absurd (other told)
      sayable (question.Range (num.Plus x k) lo hi) d h other told =
          let a = symbol_there (OfNumber x.0) h.0 in one_there _ (symbol_at P (OfNumber x.0)) a.0 a.1
      sayable (question.Range (num.Const n) lo hi) d h other told = absurd (other told)
      sayable (question.TagOf (tag.Var x)) d h other told =
          let a = symbol_there (OfTag x.0) h.0 in one_there _ (symbol_at P (OfTag x.0)) a.0 a.1
      sayable (question.TagOf (tag.Const e i)) d h other told = absurd (other told)
      sayable (question.OptOf (opt.Var o)) d h other told =
          let a = symbol_there (OfOption o.0) h.0 in one_there _ (symbol_at P (OfOption o.0)) a.0 a.1
      sayable (question.OptOf opt.None) d h other told = absurd (other told)
      sayable (question.OptOf opt.Some) d h other told = absurd (other told)

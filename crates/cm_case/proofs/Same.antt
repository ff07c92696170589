-- A literal holds by the values of its symbols alone.
use Rattle.std.proofs.Common.{◌≡◌, ◌==◌, not, ℕ, zero, suc, ℤ, Bool, true, false, List, Option, Some, None}
use Rattle.std.proofs.Common.{refl, ap, ◌∙◌, subst, if◌then◌else◌}
use Rattle.std.specs.List.{AllByRecursion}
use Rattle.std.specs.Option.{option_map}
use Rattle.cm_term.specs.declared.atom.Num.TheVariants as num
use Rattle.cm_term.specs.declared.atom.Tag.TheVariants as tag
use Rattle.cm_term.specs.declared.atom.Opt.TheVariants as opt
use Rattle.cm_term.specs.declared.question.Question.{Question}
use Rattle.cm_term.specs.declared.question.Question.TheVariants as question
use Rattle.cm_term.specs.declared.symbol.Sym.{Sym}
use Rattle.cm_term.specs.Symbols.{Roots, symbol_value}
use Rattle.cm_term.specs.Valuation.{Var, OfElement, OfNumber, OfTag, OfOption}
use Rattle.cm_term.specs.Questions.{vars_asked}
use Rattle.cm_ctx.specs.declared.piece.Piece.{Piece}
use Rattle.cm_cond.specs.declared.literal.Ord3.{Ord3}
use Rattle.cm_cond.specs.declared.literal.Ord3.TheVariants as ord
use Rattle.cm_cond.specs.declared.literal.Literal.{Literal}
use Rattle.cm_cond.specs.declared.literal.Literal.TheVariants as literal
use Rattle.cm_cond.specs.Values.{read, element_in, number_in, variant_in, presence_in, element_of, number_of, raised}
use Rattle.cm_cond.specs.Holding.{both, it_is, same_number, other_number, stands_so, is_from, literal_holds}
use Rattle.cm_cond.specs.Form.{is_before}
use Rattle.cm_beside.specs.Seen.{symbol_at}
use Rattle.cm_name.specs.Naming.{of_two, equality_literal, elements_literal, order_said, turned, less_by, numbers_literal}
use Rattle.cm_name.specs.Naming.{place_literal, presence_literal}
use Rattle.cm_name.specs.Naming.{said_of}

some_same : {X : Type 0} {x y : X} → Some x ≡ Some y → x ≡ y
some_same h = cc

module _ (r s : Roots) where
  -- a symbol has one value in both
  abbrev pub AreOne : Sym → Type 0
  AreOne x = symbol_value r x ≡ symbol_value s x

  abbrev Alike : Literal → Type 0
  Alike l = literal_holds r l ≡ literal_holds s l

  alike_equality : (d : ℕ) (x y : Sym) → AreOne x → AreOne y → Alike (equality_literal d x y)
  alike_equality zero x y a b =
      ap (λ o. both same_number (read element_in o) (element_of r y)) a
      ∙ ap (λ o. both same_number (element_of s x) (read element_in o)) b
  alike_equality (suc d) x y a b =
      ap (λ o. both other_number (read element_in o) (element_of r y)) a
      ∙ ap (λ o. both other_number (element_of s x) (read element_in o)) b

  alike_elements : (d : ℕ) (x y : Sym) → AreOne x → AreOne y → Alike (elements_literal d x y)
  alike_elements d x y a b = by (is_before y x)
    where
      by : (c : Bool) → Alike (if c then equality_literal d y x else equality_literal d x y)
      by true = alike_equality d y x b a
      by false = alike_equality d x y a b

  alike_order : (x y : Sym) (k : ℤ) (op : Ord3) → AreOne x → AreOne y → Alike (literal.Order x k op y)
  alike_order x y k op a b =
      ap (λ o. both (stands_so op) (raised (read number_in o) k) (number_of r y)) a
      ∙ ap (λ o. both (stands_so op) (raised (number_of s x) k) (read number_in o)) b

  alike_numbers : (op : Ord3) (k l : ℤ) (x y : Sym) → AreOne x → AreOne y → Alike (numbers_literal op k l x y)
  alike_numbers op k l x y a b = by (is_before y x)
    where
      by : (c : Bool)
          → Alike (if c then literal.Order y (less_by l k) (turned op) x else literal.Order x (less_by k l) op y)
      by true = alike_order y x (less_by l k) (turned op) b a
      by false = alike_order x y (less_by k l) op a b

  alike_against : (x : Sym) (op : Ord3) (n : ℤ) → AreOne x → Alike (literal.Against x op n)
  alike_against x op n a = ap (λ o. it_is (λ m. stands_so op m n) (read number_in o)) a

  alike_place : (k lo hi : ℤ) (d : ℕ) (x : Sym) → AreOne x → Alike (place_literal k lo hi d x)
  alike_place k lo hi zero x a = alike_against x ord.Less (less_by lo k) a
  alike_place k lo hi (suc zero) x a = ap (λ o. it_is (is_from lo hi) (raised (read number_in o) k)) a
  alike_place k lo hi (suc (suc d)) x a = alike_against x ord.Greater (less_by hi k) a

  alike_presence : (d : ℕ) (x : Sym) → AreOne x → Alike (presence_literal d x)
  alike_presence zero x a = ap (λ o. it_is not (read presence_in o)) a
  alike_presence (suc d) x a = ap (λ o. it_is (λ b. b) (read presence_in o)) a

  module _ (ps : List Piece) where
    -- the symbol of a variable has one value in both
    abbrev pub IsOne : Var → Type 0
    IsOne x = (y : Sym) → symbol_at ps x ≡ Some y → AreOne y

    one : (f : Sym → Literal) → ((x : Sym) → AreOne x → Alike (f x)) → (o : Option Sym) (l : Literal)
        → ((x : Sym) → o ≡ Some x → AreOne x) → option_map f o ≡ Some l → Alike l
    one f alike None l same e = absurd (cc)
    one f alike (Some x) l same e = subst Alike (some_same e) (alike x (same x refl))

    two : (f : Sym → Sym → Literal) → ((x y : Sym) → AreOne x → AreOne y → Alike (f x y)) → (o q : Option Sym)
        (l : Literal) → ((x : Sym) → o ≡ Some x → AreOne x) → ((x : Sym) → q ≡ Some x → AreOne x)
        → of_two f o q ≡ Some l → Alike l
    two f alike None q l a b e = absurd (cc)
    two f alike (Some x) None l a b e = absurd (cc)
    two f alike (Some x) (Some y) l a b e = subst Alike (some_same e) (alike x y (a x refl) (b y refl))

    pub alike_said : (q : Question) (d : ℕ) (l : Literal) → said_of ps q d ≡ Some l
        → AllByRecursion IsOne (vars_asked q) → Alike l
    alike_said (question.Elems x y) d l e h =
        two (elements_literal d) (alike_elements d) (symbol_at ps (OfElement x.0)) (symbol_at ps (OfElement y.0)) l h.0 h.1.0 e
    alike_said (question.Nums (num.Plus x k) (num.Plus y j)) d l e h =
        two (numbers_literal (order_said d) k j) (alike_numbers (order_said d) k j) (symbol_at ps (OfNumber x.0))
        (symbol_at ps (OfNumber y.0)) l h.0 h.1.0 e
    alike_said (question.Nums (num.Plus x k) (num.Const n)) d l e h =
        one (λ s. literal.Against s (order_said d) (less_by n k))
        (λ s. alike_against s (order_said d) (less_by n k)) (symbol_at ps (OfNumber x.0)) l h.0 e
    alike_said (question.Nums (num.Const n) (num.Plus y j)) d l e h =
        one (λ s. literal.Against s (turned (order_said d)) (less_by n j))
        (λ s. alike_against s (turned (order_said d)) (less_by n j)) (symbol_at ps (OfNumber y.0)) l h.0 e
    alike_said (question.Nums (num.Const m) (num.Const n)) d l e h = absurd (cc)
    alike_said (question.Range (num.Plus x k) lo hi) d l e h =
        one (place_literal k lo hi d) (alike_place k lo hi d) (symbol_at ps (OfNumber x.0)) l h.0 e
    alike_said (question.Range (num.Const n) lo hi) d l e h = absurd (cc)
    alike_said (question.TagOf (tag.Var x)) d l e h =
        one (λ s. literal.Tag s d) (λ s a. ap (λ o. it_is (λ i. i == d) (read variant_in o)) a) (symbol_at ps (OfTag x.0)) l h.0 e
    alike_said (question.TagOf (tag.Const c i)) d l e h = absurd (cc)
    alike_said (question.OptOf (opt.Var o)) d l e h =
        one (presence_literal d) (alike_presence d) (symbol_at ps (OfOption o.0)) l h.0 e
    alike_said (question.OptOf opt.None) d l e h = absurd (cc)
    alike_said (question.OptOf opt.Some) d l e h = absurd (cc)

-- The literal of a question that can be asked, and had another possible outcome, is one of a report.
use Rattle.std.proofs.Common.{◌≡◌, ◌≢◌, ◌+◌, ◌==◌, ltb, ℕ, zero, suc, ℤ, pos, neg_ℤ, ◌≤◌, int_le, Bool, true}
use Rattle.std.proofs.Common.{false, List, slice_get, Option, Some, None, refl, sym}
use Rattle.std.proofs.Common.{ap, ◌∙◌, subst, arith, if◌then◌else◌}
use Rattle.std.specs.Option.{option_map}
use Rattle.std.proofs.lemmas.Bool.{and_parts, and_from, eq-eqb, eqb-true}
use Rattle.std.proofs.lemmas.Int.{ints}
use Rattle.cm_model.specs.Tables.{Tables}
use Rattle.cm_model.specs.Limits.{number_limit, is_number}
use Rattle.cm_model.specs.declared.ty.Ty.{Ty, out-Ty}
use Rattle.cm_model.specs.declared.ty.Ty.TheOpen.{Ty-F}
use Rattle.cm_model.specs.declared.pair.Pair.{Pair}
use Rattle.cm_value.specs.Membership.{has_variant}
use Rattle.cm_term.specs.declared.atom.Num.{Num}
use Rattle.cm_term.specs.declared.atom.Num.TheVariants as num
use Rattle.cm_term.specs.declared.atom.Tag.TheVariants as tag
use Rattle.cm_term.specs.declared.atom.Opt.TheVariants as opt
use Rattle.cm_term.specs.declared.question.Question.{Question}
use Rattle.cm_term.specs.declared.question.Question.TheVariants as question
use Rattle.cm_term.specs.declared.symbol.Sym.{Sym}
use Rattle.cm_term.specs.Atoms.{offset_limit, var_of, offset_of}
use Rattle.cm_term.specs.Valuation.{Valuation, OfElement, OfNumber, OfTag, OfOption}
use Rattle.cm_term.specs.Questions.{outcome_under}
use Rattle.cm_ctx.specs.declared.piece.Piece.{Piece}
use Rattle.cm_ctx.specs.Contexts.{sorts_of}
use Rattle.cm_cond.specs.declared.cell.CellTerm.{CellTerm}
use Rattle.cm_cond.specs.declared.literal.Ord3.{Ord3}
use Rattle.cm_cond.specs.declared.literal.Ord3.TheVariants as ord
use Rattle.cm_cond.specs.declared.literal.Literal.{Literal}
use Rattle.cm_cond.specs.declared.literal.Literal.TheVariants as literal
use Rattle.cm_cond.specs.Typing.{symbol_type}
use Rattle.cm_cond.specs.Form.{is_before, is_offset, sort_in, enum_in, is_integer, is_option, are_one, has_variant_in}
use Rattle.cm_cond.specs.Form.{is_literal}
use Rattle.cm_beside.specs.Grounds.{Grounds}
use Rattle.cm_beside.specs.Fits.{is_near, is_num, has_number}
use Rattle.cm_beside.proofs.Near.{at_most, nearer, tested}
use Rattle.cm_beside.specs.Related.{is_question, are_one_sort, asked_limit, has_ends}
use Rattle.cm_beside.specs.Seen.{symbol_at}
use Rattle.cm_name.specs.Naming.{of_two, equality_literal, elements_literal, order_said, turned, less_by, numbers_literal}
use Rattle.cm_name.specs.Naming.{place_literal, presence_literal, said_of}
use Rattle.cm_case.proofs.Order.{one_symbol}
use Rattle.cm_case.proofs.Apart.{AreApart}

some_same : {X : Type 0} {x y : X} → Some x ≡ Some y → x ≡ y
some_same h = cc

-- the types of symbols, by what their variables were made for, and that a valuation's variants are those of their enums
pub record AreTyped (t : Tables) (p : Pair) (ps : List Piece) (cells : List CellTerm) (w : Valuation) : Type 0 where
  pub element : (x : ℕ) (s : Sym) → symbol_at ps (OfElement x) ≡ Some s
      → (u : Ty) × (symbol_type t p cells s ≡ Some u) × (r : ℕ) × (out-Ty u ≡ Ty-F.Sort r)
      × (slice_get (sorts_of ps) x ≡ Some r)
  pub number : (x : ℕ) (s : Sym) → symbol_at ps (OfNumber x) ≡ Some s
      → (u : Ty) × (symbol_type t p cells s ≡ Some u) × (i : ℕ) × (out-Ty u ≡ Ty-F.Int i)
  pub tag : (x : ℕ) (s : Sym) → symbol_at ps (OfTag x) ≡ Some s
      → (u : Ty) × (symbol_type t p cells s ≡ Some u) × (e : ℕ) × (out-Ty u ≡ Ty-F.Enum e)
      × (has_variant (slice_get t.enums e) (w.tag x) ≡ true)
  pub option : (o : ℕ) (s : Sym) → symbol_at ps (OfOption o) ≡ Some s
      → (u : Ty) × (symbol_type t p cells s ≡ Some u) × (a : Ty) × (out-Ty u ≡ Ty-F.Option a)

module _ (t : Tables) (p : Pair) (ps : List Piece) (cells : List CellTerm) (w : Valuation)
    (typed : AreTyped t p ps cells w) (g : Grounds)
    (stay : (x r : ℕ) → slice_get g.sorts x ≡ Some r → slice_get (sorts_of ps) x ≡ Some r) where
  abbrev type_of : Sym → Option Ty
  type_of x = symbol_type t p cells x

  abbrev IsFormed : Literal → Type 0
  IsFormed l = is_literal t p cells l ≡ true

  before : (x y : Sym) (a b : Ty) → type_of x ≡ Some a → type_of y ≡ Some b → x ≢ y → is_before y x ≡ false
      → is_before x y ≡ true
  before x y a b tx ty other h = by (is_before x y) refl
    where
      by : (c : Bool) → is_before x y ≡ c → c ≡ true
      by true is = refl
      by false is = absurd (other (one_symbol t p cells x y a b tx ty is h))

  sort_is : (u : Ty) (r : ℕ) → out-Ty u ≡ Ty-F.Sort r → sort_in (Some u) ≡ Some r
  sort_is u r is = cc

  integer_is : (u : Ty) (i : ℕ) → out-Ty u ≡ Ty-F.Int i → is_integer (Some u) ≡ true
  integer_is u i is = cc

  enum_is : (u : Ty) (e : ℕ) → out-Ty u ≡ Ty-F.Enum e → enum_in (Some u) ≡ Some e
  enum_is u e is = cc

  option_is : (u w : Ty) → out-Ty u ≡ Ty-F.Option w → is_option (Some u) ≡ true
  option_is u w is = cc

  is_number_symbol : (x : ℕ) (s : Sym) → symbol_at ps (OfNumber x) ≡ Some s → is_integer (type_of s) ≡ true
  is_number_symbol x s at =
      let h = typed.number x s at in
      ap is_integer h.1 ∙ integer_is h.0 h.2 h.3

  -- an order of two numbers, the earlier symbol left
  order_formed : (x y : Sym) (k : ℤ) (op : Ord3) → is_integer (type_of x) ≡ true → is_integer (type_of y) ≡ true
      → is_offset k ≡ true → is_before x y ≡ true → IsFormed (literal.Order x k op y)
  order_formed x y k op a b c d =
      and_from _ (is_before x y) (and_from _ (is_offset k) (and_from (is_integer (type_of x)) _ a b) c) d

  against_formed : (x : Sym) (op : Ord3) (n : ℤ) → is_integer (type_of x) ≡ true → is_offset n ≡ true
      → IsFormed (literal.Against x op n)
  against_formed x op n a b = and_from (is_integer (type_of x)) (is_offset n) a b

  -- two numbers that are near
  near_less : (m n top : ℕ) (k l : ℤ) → m + n ≤ top → is_near m k ≡ true → is_near n l ≡ true
      → is_near top (less_by k l) ≡ true
  near_less m n top k l le a b =
      let p = and_parts (int_le (neg_ℤ (pos m)) k) _ a in
      let q = and_parts (int_le (neg_ℤ (pos n)) l) _ b in
      let low = at_most (neg_ℤ (pos m)) k p.0 in
      let high = at_most k (pos m) p.1 in
      let below = at_most (neg_ℤ (pos n)) l q.0 in
      let above = at_most l (pos n) q.1 in
      and_from _ _ (tested (neg_ℤ (pos top)) (less_by k l) (omega (arith, ints, le, low, above)))
      (tested (less_by k l) (pos top) (omega (arith, ints, le, high, below)))

  offsets : (k l : ℤ) → is_near asked_limit k ≡ true → is_near asked_limit l ≡ true → is_offset (less_by k l) ≡ true
  offsets k l = near_less asked_limit asked_limit offset_limit k l (omega arith)

  ends : (n k : ℤ) → is_near number_limit n ≡ true → is_near asked_limit k ≡ true → is_offset (less_by n k) ≡ true
  ends n k = near_less number_limit asked_limit offset_limit n k (omega arith)

  num_near : (a : Num) → is_num t g asked_limit a ≡ true → is_near asked_limit (offset_of a) ≡ true
  num_near a h = (and_parts (ltb (var_of a) g.numbers) _ (and_parts _ (has_number t g a) h).0).1

  equality_formed : (d : ℕ) (x y : Sym) → are_one (sort_in (type_of x)) (sort_in (type_of y)) ≡ true
      → is_before x y ≡ true → IsFormed (equality_literal d x y)
  equality_formed zero x y a b = and_from _ (is_before x y) a b
  equality_formed (suc d) x y a b = and_from _ (is_before x y) a b

  one_for : (f : Sym → Literal) (o : Option Sym) (l : Literal) → option_map f o ≡ Some l
      → ((s : Sym) → o ≡ Some s → IsFormed (f s)) → IsFormed l
  one_for f None l e h = absurd (cc)
  one_for f (Some s) l e h = subst IsFormed (some_same e) (h s refl)

  two_for : (f : Sym → Sym → Literal) (o q : Option Sym) (l : Literal) → of_two f o q ≡ Some l
      → ((x y : Sym) → o ≡ Some x → q ≡ Some y → IsFormed (f x y)) → IsFormed l
  two_for f None q l e h = absurd (cc)
  two_for f (Some x) None l e h = absurd (cc)
  two_for f (Some x) (Some y) l e h = subst IsFormed (some_same e) (h x y refl refl)

  -- the sorts that are asked of are those of the symbols
  sorts_asked : (x y : ℕ) (a b : ℕ) → slice_get (sorts_of ps) x ≡ Some a → slice_get (sorts_of ps) y ≡ Some b
      → are_one_sort (slice_get g.sorts x) (slice_get g.sorts y) ≡ true → (a == b) ≡ true
  sorts_asked x y a b ax by_ same = at (slice_get g.sorts x) refl (slice_get g.sorts y) refl same
    where
      at : (o : Option ℕ) → slice_get g.sorts x ≡ o → (q : Option ℕ) → slice_get g.sorts y ≡ q
          → are_one_sort o q ≡ true → (a == b) ≡ true
      at (Some c) is (Some d) at_ h =
          let e : c ≡ a = some_same (sym (stay x c is) ∙ ax) in
          let f : d ≡ b = some_same (sym (stay y d at_) ∙ by_) in
          ap (λ n. n == b) (sym e) ∙ ap (λ n. c == n) (sym f) ∙ h
      at (Some c) is None at_ h = absurd (cc)
      at None is q at_ h = absurd (cc)

  elements_formed : (x y : ℕ) (d : ℕ) → are_one_sort (slice_get g.sorts x) (slice_get g.sorts y) ≡ true → (a b : Sym)
      → symbol_at ps (OfElement x) ≡ Some a → symbol_at ps (OfElement y) ≡ Some b → a ≢ b
      → IsFormed (elements_literal d a b)
  elements_formed x y d same a b at bt other =
      let h = typed.element x a at in
      let k = typed.element y b bt in
      let one : (h.2 == k.2) ≡ true = sorts_asked x y h.2 k.2 h.4 k.4 same in
      let sa = ap sort_in h.1 ∙ sort_is h.0 h.2 h.3 in
      let sb = ap sort_in k.1 ∙ sort_is k.0 k.2 k.3 in
      by (is_before b a) refl
      (ap (λ o. are_one o (sort_in (type_of b))) sa ∙ ap (are_one (Some h.2)) sb ∙ one)
      (ap (λ o. are_one o (sort_in (type_of a))) sb ∙ ap (are_one (Some k.2)) sa
      ∙ eq-eqb k.2 h.2 (sym (eqb-true h.2 k.2 one)))
      (λ e. before a b h.0 k.0 h.1 k.1 other e)
    where
      by : (c : Bool) → is_before b a ≡ c → are_one (sort_in (type_of a)) (sort_in (type_of b)) ≡ true
          → are_one (sort_in (type_of b)) (sort_in (type_of a)) ≡ true → (is_before b a ≡ false → is_before a b ≡ true)
          → IsFormed (if c then equality_literal d b a else equality_literal d a b)
      by true is f g e = equality_formed d b a g is
      by false is f g e = equality_formed d a b f (e is)

  numbers_formed : (x y : ℕ) (op : Ord3) (k l : ℤ) → is_near asked_limit k ≡ true → is_near asked_limit l ≡ true
      → (a b : Sym) → symbol_at ps (OfNumber x) ≡ Some a → symbol_at ps (OfNumber y) ≡ Some b → a ≢ b
      → IsFormed (numbers_literal op k l a b)
  numbers_formed x y op k l nk nl a b at bt other =
      let h = typed.number x a at in
      let j = typed.number y b bt in
      by (is_before b a) refl (is_number_symbol x a at) (is_number_symbol y b bt)
      (λ e. before a b h.0 j.0 h.1 j.1 other e)
    where
      by : (c : Bool) → is_before b a ≡ c → is_integer (type_of a) ≡ true → is_integer (type_of b) ≡ true
          → (is_before b a ≡ false → is_before a b ≡ true)
          → IsFormed (if c then literal.Order b (less_by l k) (turned op) a else literal.Order a (less_by k l) op b)
      by true is f g e = order_formed b a (less_by l k) (turned op) g f (offsets l k nl nk) is
      by false is f g e = order_formed a b (less_by k l) op f g (offsets k l nk nl) (e is)

  place_formed : (x : ℕ) (k lo hi : ℤ) (d : ℕ) → is_near asked_limit k ≡ true → is_near number_limit lo ≡ true
      → is_near number_limit hi ≡ true → int_le lo hi ≡ true → (s : Sym) → symbol_at ps (OfNumber x) ≡ Some s
      → IsFormed (place_literal k lo hi d s)
  place_formed x k lo hi zero nk nlo nhi le s at =
      against_formed s ord.Less (less_by lo k) (is_number_symbol x s at) (ends lo k nlo nk)
  place_formed x k lo hi (suc zero) nk nlo nhi le s at =
      and_from _ (is_number hi) (and_from _ (is_number lo) (and_from _ (int_le lo hi)
      (and_from (is_integer (type_of s)) (is_offset k) (is_number_symbol x s at) (farther k nk)) le) nlo) nhi
    where
      farther : (k : ℤ) → is_near asked_limit k ≡ true → is_offset k ≡ true
      farther k h = nearer asked_limit offset_limit k (omega arith) h
  place_formed x k lo hi (suc (suc d)) nk nlo nhi le s at =
      against_formed s ord.Greater (less_by hi k) (is_number_symbol x s at) (ends hi k nhi nk)

  presence_formed : (x d : ℕ) (s : Sym) → symbol_at ps (OfOption x) ≡ Some s → IsFormed (presence_literal d s)
  presence_formed x zero s at = let h = typed.option x s at in ap is_option h.1 ∙ option_is h.0 h.2 h.3
  presence_formed x (suc d) s at = let h = typed.option x s at in ap is_option h.1 ∙ option_is h.0 h.2 h.3

  pub formed : (q : Question) (d : ℕ) (l : Literal) → said_of ps q d ≡ Some l → is_question t g q ≡ true → AreApart ps q
      → outcome_under w q ≡ d → IsFormed l
  formed (question.Elems x y) d l e is apart told =
      two_for (elements_literal d) (symbol_at ps (OfElement x.0)) (symbol_at ps (OfElement y.0)) l e
      (λ a b at bt. elements_formed x.0 y.0 d (and_parts _ _ is).0 a b at bt (apart a b at bt))
  formed (question.Nums (num.Plus x k) (num.Plus y j)) d l e is apart told =
      let both = and_parts (is_num t g asked_limit (num.Plus x k)) _ is in
      two_for (numbers_literal (order_said d) k j) (symbol_at ps (OfNumber x.0)) (symbol_at ps (OfNumber y.0)) l e
      (λ a b at bt. numbers_formed x.0 y.0 (order_said d) k j (num_near (num.Plus x k) both.0)
      (num_near (num.Plus y j) both.1) a b at bt (apart a b at bt))
  formed (question.Nums (num.Plus x k) (num.Const n)) d l e is apart told =
      let both = and_parts (is_num t g asked_limit (num.Plus x k)) _ is in
      one_for (λ s. literal.Against s (order_said d) (less_by n k)) (symbol_at ps (OfNumber x.0)) l e
      (λ s at. against_formed s (order_said d) (less_by n k) (is_number_symbol x.0 s at)
      (offsets n k (num_near (num.Const n) both.1) (num_near (num.Plus x k) both.0)))
  formed (question.Nums (num.Const n) (num.Plus y j)) d l e is apart told =
      let both = and_parts (is_num t g asked_limit (num.Const n)) _ is in
      one_for (λ s. literal.Against s (turned (order_said d)) (less_by n j)) (symbol_at ps (OfNumber y.0)) l e
      (λ s at. against_formed s (turned (order_said d)) (less_by n j) (is_number_symbol y.0 s at)
      (offsets n j (num_near (num.Const n) both.0) (num_near (num.Plus y j) both.1)))
  formed (question.Nums (num.Const m) (num.Const n)) d l e is apart told = absurd (cc)
  formed (question.Range (num.Plus x k) lo hi) d l e is apart told =
      let a = and_parts (is_num t g asked_limit (num.Plus x k)) _ is in
      let b = and_parts (is_near number_limit lo) _ a.1 in
      let c = and_parts (is_near number_limit hi) _ b.1 in
      one_for (place_literal k lo hi d) (symbol_at ps (OfNumber x.0)) l e
      (λ s at. place_formed x.0 k lo hi d (num_near (num.Plus x k) a.0) b.0 c.0
      (and_parts (int_le lo hi) (has_ends t.ints lo hi) c.1).0 s at)
  formed (question.Range (num.Const n) lo hi) d l e is apart told = absurd (cc)
  formed (question.TagOf (tag.Var x)) d l e is apart told =
      one_for (λ s. literal.Tag s d) (symbol_at ps (OfTag x.0)) l e (λ s at.
      let h = typed.tag x.0 s at in
      ap (λ o. has_variant_in t o d) (ap enum_in h.1 ∙ enum_is h.0 h.2 h.3)
      ∙ ap (has_variant (slice_get t.enums h.2)) (sym told) ∙ h.4)
  formed (question.TagOf (tag.Const c i)) d l e is apart told = absurd (cc)
  formed (question.OptOf (opt.Var o)) d l e is apart told =
      one_for (presence_literal d) (symbol_at ps (OfOption o.0)) l e (λ s at. presence_formed o.0 d s at)
  formed (question.OptOf opt.None) d l e is apart told = absurd (cc)
  formed (question.OptOf opt.Some) d l e is apart told = absurd (cc)

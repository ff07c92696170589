-- A literal holds by the values under a valuation exactly where the valuation has the fact that it was made of.
use Rattle.std.proofs.Common.{◌≡◌, ◌<◌, ◌==◌, ℕ, ◌+ℤ◌, ◌≤ℤ◌, true, List, Option, Some, None, IsTrue, refl, sym}
use Rattle.std.proofs.Common.{ap, subst, ◌∙◌}
use Rattle.std.specs.List.{AllByRecursion}
use Rattle.std.specs.Option.{option_map}
use Rattle.std.proofs.lemmas.Bool.{eqb-true, eq-eqb}
use Rattle.cm_model.specs.Tables.{Tables}
use Rattle.cm_model.specs.declared.pair.Pair.{Pair}
use Rattle.cm_term.specs.declared.atom.Num.TheVariants as num
use Rattle.cm_term.specs.declared.atom.Tag.TheVariants as tag
use Rattle.cm_term.specs.declared.atom.Opt.TheVariants as opt
use Rattle.cm_term.specs.declared.question.Question.{Question}
use Rattle.cm_term.specs.declared.question.Question.TheVariants as question
use Rattle.cm_term.specs.declared.question.Fact.{Fact}
use Rattle.cm_term.specs.declared.symbol.Sym.{Sym}
use Rattle.cm_term.specs.Questions.{outcome_under, vars_asked, IsTold}
use Rattle.cm_term.specs.Symbols.{Roots, symbol_value}
use Rattle.cm_term.specs.Valuation.{Valuation, Var, OfElement, OfNumber, OfTag, OfOption}
use Rattle.cm_cells.specs.CellTable.{Place}
use Rattle.cm_ctx.specs.declared.piece.Piece.{Piece}
use Rattle.cm_ctx.proofs.Outcomes.{order_known, place_known}
use Rattle.cm_cond.specs.declared.literal.Literal.{Literal}
use Rattle.cm_cond.specs.declared.literal.Literal.TheVariants as literal
use Rattle.cm_cond.specs.Holding.{literal_holds}
use Rattle.cm_cond.specs.Values.{element_in, number_in, variant_in, presence_in, element_of, number_of, variant_of}
use Rattle.cm_cond.specs.Values.{presence_of}
use Rattle.cm_beside.specs.Nodes.{pieces_of, IsValuation}
use Rattle.cm_beside.specs.Seen.{roots_under, symbol_at, has_value, is_seen_in}
use Rattle.cm_beside.proofs.Seeing.{value_at}
use Rattle.cm_name.specs.Naming.{of_two, elements_literal, order_said, turned, numbers_literal, place_literal, less_by}
use Rattle.cm_name.specs.Naming.{presence_literal, said_of, literal_of}
use Rattle.cm_name.proofs.Numbers.{turn, turn_back, order_told, order_stands}
use Rattle.cm_name.proofs.Literals.{few_elements, elements_told, elements_tested, numbers_told, numbers_tested}
use Rattle.cm_name.proofs.Literals.{against_told, against_tested, place_told, place_tested}
use Rattle.cm_name.proofs.Literals.{presence_told, presence_tested}
use Rattle.cm_name.proofs.Readings.{MayBe, it_is_there, read_may, read_is, element_read, number_read, variant_read}
use Rattle.cm_name.proofs.Readings.{presence_read, it_told, it_tested}
use Rattle.cm_name.proofs.Seeing.{may_see, presence}

-- the ends of a range stand in their order
abbrev pub AreEnds : Question → Type 0
AreEnds (question.Elems x y) = Unit {0}
AreEnds (question.Nums a b) = Unit {0}
AreEnds (question.Range a lo hi) = lo ≤ℤ hi
AreEnds (question.TagOf a) = Unit {0}
AreEnds (question.OptOf a) = Unit {0}

-- the symbols that a literal is made of
pub two_of : {X : Type 0} (f : Sym → Sym → X) (a b : Option Sym) (l : X) → of_two f a b ≡ Some l
    → (x : Sym) × (y : Sym) × (a ≡ Some x) × (b ≡ Some y) × (f x y ≡ l)
two_of f (Some x) (Some y) l e = (x, y, refl, refl, (let same : f x y ≡ l = cc in same))
two_of f (Some x) None l e = absurd (cc)
two_of f None b l e = absurd (cc)

pub one_of : {X : Type 0} (f : Sym → X) (a : Option Sym) (l : X) → option_map f a ≡ Some l
    → (x : Sym) × (a ≡ Some x) × (f x ≡ l)
one_of f (Some x) l e = (x, refl, (let same : f x ≡ l = cc in same))
one_of f None l e = absurd (cc)

never : {X : Type 0} (x : X) → None ≡ Some x → ⊥
never x e = cc

module _ (t : Tables) (p : Pair) (places : List Place) (v : Valuation) (is : IsValuation (pieces_of t p places) v) where
  abbrev P : List Piece
  P = pieces_of t p places

  abbrev here : Roots
  here = roots_under t p places v

  -- what is read of the symbol of a variable, if anything is
  element_may : (x : ℕ) (s : Sym) → symbol_at P (OfElement x) ≡ Some s → MayBe (element_of here s) (v.element x)
  element_may x s at = read_may element_in (value_at v (OfElement x)) (v.element x) (element_read (v.element x))
      (symbol_value here s) (may_see t p places v is (OfElement x) s at)

  number_may : (x : ℕ) (s : Sym) → symbol_at P (OfNumber x) ≡ Some s → MayBe (number_of here s) (v.number x)
  number_may x s at = read_may number_in (value_at v (OfNumber x)) (v.number x) (number_read (v.number x))
      (symbol_value here s) (may_see t p places v is (OfNumber x) s at)

  variant_may : (x : ℕ) (s : Sym) → symbol_at P (OfTag x) ≡ Some s → MayBe (variant_of here s) (v.tag x)
  variant_may x s at = read_may variant_in (value_at v (OfTag x)) (v.tag x) (variant_read (v.tag x))
      (symbol_value here s) (may_see t p places v is (OfTag x) s at)

  presence_may : (o : ℕ) (s : Sym) → symbol_at P (OfOption o) ≡ Some s → MayBe (presence_of here s) (v.present o == 1)
  presence_may o s at = read_may presence_in (value_at v (OfOption o)) (v.present o == 1) (presence_read v o)
      (symbol_value here s) (may_see t p places v is (OfOption o) s at)

  abbrev Has : Var → Type 0
  Has x = has_value t p places v x ≡ true

  -- a symbol that has a value has the variable's
  seen_value : (x : Var) (s : Sym) → symbol_at P x ≡ Some s → Has x → symbol_value here s ≡ Some (value_at v x)
  seen_value x s at has = it_is_there (symbol_value here s) (value_at v x) (may_see t p places v is x s at)
      (sym (ap (is_seen_in here) at) ∙ has)

  element_is : (x : ℕ) (s : Sym) → symbol_at P (OfElement x) ≡ Some s → Has (OfElement x)
      → element_of here s ≡ Some (v.element x)
  element_is x s at has = read_is element_in (value_at v (OfElement x)) (v.element x) (element_read (v.element x))
      (symbol_value here s) (seen_value (OfElement x) s at has)

  number_is : (x : ℕ) (s : Sym) → symbol_at P (OfNumber x) ≡ Some s → Has (OfNumber x)
      → number_of here s ≡ Some (v.number x)
  number_is x s at has = read_is number_in (value_at v (OfNumber x)) (v.number x) (number_read (v.number x))
      (symbol_value here s) (seen_value (OfNumber x) s at has)

  variant_is : (x : ℕ) (s : Sym) → symbol_at P (OfTag x) ≡ Some s → Has (OfTag x) → variant_of here s ≡ Some (v.tag x)
  variant_is x s at has = read_is variant_in (value_at v (OfTag x)) (v.tag x) (variant_read (v.tag x))
      (symbol_value here s) (seen_value (OfTag x) s at has)

  presence_is : (o : ℕ) (s : Sym) → symbol_at P (OfOption o) ≡ Some s → Has (OfOption o)
      → presence_of here s ≡ Some (v.present o == 1)
  presence_is o s at has = read_is presence_in (value_at v (OfOption o)) (v.present o == 1) (presence_read v o)
      (symbol_value here s) (seen_value (OfOption o) s at has)

  -- where a literal holds, the fact is so: the outcome is a possible one, since some valuation has it
  says : (q : Question) (d : ℕ) (l : Literal) → said_of P q d ≡ Some l → AreEnds q → (w : Valuation) → IsValuation P w
      → outcome_under w q ≡ d → literal_holds here l ≡ true → outcome_under v q ≡ d
  says (question.Elems x y) d l named ends w of_ is_d holds =
      let s = two_of (elements_literal d) _ _ l named in
      elements_told here d s.0 s.1 (v.element x.0) (v.element y.0) (few_elements (w.element x.0) (w.element y.0) d is_d)
      (element_may x.0 s.0 s.2) (element_may y.0 s.1 s.3) (subst (λ k. literal_holds here k ≡ true) (sym s.4) holds)
  says (question.Nums (num.Plus x k) (num.Plus y j)) d l named ends w of_ is_d holds =
      let s = two_of (numbers_literal (order_said d) k j) _ _ l named in
      order_told d (v.number x.0 +ℤ k) (v.number y.0 +ℤ j)
      (order_known (w.number x.0 +ℤ k) (w.number y.0 +ℤ j) d is_d)
      (numbers_told here (order_said d) k j s.0 s.1 (v.number x.0) (v.number y.0) (number_may x.0 s.0 s.2)
      (number_may y.0 s.1 s.3) (subst (λ k. literal_holds here k ≡ true) (sym s.4) holds))
  says (question.Nums (num.Plus x k) (num.Const n)) d l named ends w of_ is_d holds =
      let s = one_of (λ s. literal.Against s (order_said d) (less_by n k)) _ l named in
      order_told d (v.number x.0 +ℤ k) n (order_known (w.number x.0 +ℤ k) n d is_d)
      (against_told here (order_said d) k n s.0 (v.number x.0) (number_may x.0 s.0 s.1)
      (subst (λ k. literal_holds here k ≡ true) (sym s.2) holds))
  says (question.Nums (num.Const n) (num.Plus y j)) d l named ends w of_ is_d holds =
      let s = one_of (λ s. literal.Against s (turned (order_said d)) (less_by n j)) _ l named in
      order_told d n (v.number y.0 +ℤ j) (order_known n (w.number y.0 +ℤ j) d is_d)
      (turn (order_said d) n (v.number y.0 +ℤ j)
      (against_told here (turned (order_said d)) j n s.0 (v.number y.0) (number_may y.0 s.0 s.1)
      (subst (λ k. literal_holds here k ≡ true) (sym s.2) holds)))
  says (question.Nums (num.Const m) (num.Const n)) d l named ends w of_ is_d holds = absurd (never l named)
  says (question.Range (num.Plus x k) lo hi) d l named ends w of_ is_d holds =
      let s = one_of (place_literal k lo hi d) _ l named in
      place_told here k lo hi d s.0 (v.number x.0) ends
      (place_known lo hi (w.number x.0 +ℤ k) d ends is_d) (number_may x.0 s.0 s.1)
      (subst (λ k. literal_holds here k ≡ true) (sym s.2) holds)
  says (question.Range (num.Const n) lo hi) d l named ends w of_ is_d holds = absurd (never l named)
  says (question.TagOf (tag.Var x)) d l named ends w of_ is_d holds =
      let s = one_of (λ s. literal.Tag s d) _ l named in
      eqb-true (v.tag x.0) d (it_told (λ i. i == d) (variant_of here s.0) (v.tag x.0) (variant_may x.0 s.0 s.1)
      (subst (λ k. literal_holds here k ≡ true) (sym s.2) holds))
  says (question.TagOf (tag.Const e i)) d l named ends w of_ is_d holds = absurd (never l named)
  says (question.OptOf (opt.Var o)) d l named ends w of_ is_d holds =
      let s = one_of (presence_literal d) _ l named in
      presence_told here d s.0 (v.present o.0) (subst (λ n. n < 2) is_d (presence t p places w of_ o.0 s.0 s.1))
      (presence t p places v is o.0 s.0 s.1) (presence_may o.0 s.0 s.1)
      (subst (λ k. literal_holds here k ≡ true) (sym s.2) holds)
  says (question.OptOf opt.None) d l named ends w of_ is_d holds = absurd (never l named)
  says (question.OptOf opt.Some) d l named ends w of_ is_d holds = absurd (never l named)

  -- where the fact is so and its symbols have values, the literal holds
  says_so : (q : Question) (d : ℕ) (l : Literal) → said_of P q d ≡ Some l → AllByRecursion Has (vars_asked q)
      → outcome_under v q ≡ d → literal_holds here l ≡ true
  says_so (question.Elems x y) d l named have is_d =
      let s = two_of (elements_literal d) _ _ l named in
      subst (λ k. literal_holds here k ≡ true) s.4
      (elements_tested here d s.0 s.1 (v.element x.0) (v.element y.0) (element_is x.0 s.0 s.2 have.0)
      (element_is y.0 s.1 s.3 have.1.0) is_d)
  says_so (question.Nums (num.Plus x k) (num.Plus y j)) d l named have is_d =
      let s = two_of (numbers_literal (order_said d) k j) _ _ l named in
      subst (λ k. literal_holds here k ≡ true) s.4
      (numbers_tested here (order_said d) k j s.0 s.1 (v.number x.0) (v.number y.0) (number_is x.0 s.0 s.2 have.0)
      (number_is y.0 s.1 s.3 have.1.0) (order_stands d (v.number x.0 +ℤ k) (v.number y.0 +ℤ j) is_d))
  says_so (question.Nums (num.Plus x k) (num.Const n)) d l named have is_d =
      let s = one_of (λ s. literal.Against s (order_said d) (less_by n k)) _ l named in
      subst (λ k. literal_holds here k ≡ true) s.2
      (against_tested here (order_said d) k n s.0 (v.number x.0) (number_is x.0 s.0 s.1 have.0)
      (order_stands d (v.number x.0 +ℤ k) n is_d))
  says_so (question.Nums (num.Const n) (num.Plus y j)) d l named have is_d =
      let s = one_of (λ s. literal.Against s (turned (order_said d)) (less_by n j)) _ l named in
      subst (λ k. literal_holds here k ≡ true) s.2
      (against_tested here (turned (order_said d)) j n s.0 (v.number y.0) (number_is y.0 s.0 s.1 have.0)
      (turn_back (order_said d) n (v.number y.0 +ℤ j) (order_stands d n (v.number y.0 +ℤ j) is_d)))
  says_so (question.Nums (num.Const m) (num.Const n)) d l named have is_d = absurd (never l named)
  says_so (question.Range (num.Plus x k) lo hi) d l named have is_d =
      let s = one_of (place_literal k lo hi d) _ l named in
      subst (λ k. literal_holds here k ≡ true) s.2
      (place_tested here k lo hi d s.0 (v.number x.0) (number_is x.0 s.0 s.1 have.0) is_d)
  says_so (question.Range (num.Const n) lo hi) d l named have is_d = absurd (never l named)
  says_so (question.TagOf (tag.Var x)) d l named have is_d =
      let s = one_of (λ s. literal.Tag s d) _ l named in
      subst (λ k. literal_holds here k ≡ true) s.2
      (it_tested (λ i. i == d) (variant_of here s.0) (v.tag x.0) (variant_is x.0 s.0 s.1 have.0)
      (eq-eqb (v.tag x.0) d is_d))
  says_so (question.TagOf (tag.Const e i)) d l named have is_d = absurd (never l named)
  says_so (question.OptOf (opt.Var o)) d l named have is_d =
      let s = one_of (presence_literal d) _ l named in
      subst (λ k. literal_holds here k ≡ true) s.2
      (presence_tested here d s.0 (v.present o.0) (presence t p places v is o.0 s.0 s.1)
      (presence_is o.0 s.0 s.1 have.0) is_d)
  says_so (question.OptOf opt.None) d l named have is_d = absurd (never l named)
  says_so (question.OptOf opt.Some) d l named have is_d = absurd (never l named)

  pub holds_says : (f : Fact) (l : Literal) → literal_of P f ≡ Some l → AreEnds f.question
      → ((w : Valuation) × IsValuation P w × IsTold w f)
      → IsTrue (literal_holds (roots_under t p places v) l) → IsTold v f
  holds_says f l named ends some holds = says f.question f.outcome l named ends some.0 some.1 some.2 holds

  pub says_holds : (f : Fact) (l : Literal) → literal_of P f ≡ Some l
      → AllByRecursion (λ x. IsTrue (has_value t p places v x)) (vars_asked f.question)
      → IsTold v f → IsTrue (literal_holds (roots_under t p places v) l)
  says_holds f l named have is_so = says_so f.question f.outcome l named have is_so

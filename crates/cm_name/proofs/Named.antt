-- Which facts have literals, and what is so of a question that may be asked.
use Rattle.std.proofs.Common.{◌≡◌, ◌≢◌, ℕ, ℤ, pos, neg_ℤ, int_le, ◌≤ℤ◌, true, ◌&&◌, List, [], ◌∷◌, Option, Some, None}
use Rattle.std.proofs.Common.{IsTrue, refl, ap, ◌∙◌, arith}
use Rattle.std.specs.List.{AllByRecursion}
use Rattle.std.specs.Option.{option_map}
use Rattle.std.proofs.lemmas.Bool.{and_parts}
use Rattle.std.proofs.lemmas.Int.{ints}
use Rattle.cm_model.specs.Tables.{Tables}
use Rattle.cm_model.specs.Limits.{number_limit}
use Rattle.cm_model.specs.declared.pair.Pair.{Pair}
use Rattle.cm_term.specs.declared.atom.Num.{Num}
use Rattle.cm_term.specs.declared.atom.Num.TheVariants as num
use Rattle.cm_term.specs.declared.atom.Tag.TheVariants as tag
use Rattle.cm_term.specs.declared.atom.Opt.TheVariants as opt
use Rattle.cm_term.specs.declared.question.Question.{Question}
use Rattle.cm_term.specs.declared.question.Question.TheVariants as question
use Rattle.cm_term.specs.declared.question.Fact.{Fact}
use Rattle.cm_term.specs.declared.symbol.Sym.{Sym}
use Rattle.cm_term.specs.Atoms.{offset_of, vars_of_num}
use Rattle.cm_term.specs.Questions.{outcome_under, vars_asked, IsTold}
use Rattle.cm_term.specs.Symbols.{Roots}
use Rattle.cm_term.specs.Valuation.{Valuation, Var, OfElement, OfNumber, OfTag, OfOption}
use Rattle.cm_cells.specs.Alike.{is_there}
use Rattle.cm_cells.specs.CellTable.{Place}
use Rattle.cm_ctx.specs.declared.piece.Piece.{Piece}
use Rattle.cm_ctx.specs.Contexts.{IsSmall}
use Rattle.cm_cond.specs.declared.literal.Literal.{Literal}
use Rattle.cm_cond.specs.declared.literal.Literal.TheVariants as literal
use Rattle.cm_beside.specs.Grounds.{Grounds}
use Rattle.cm_beside.specs.Fits.{is_near, is_num}
use Rattle.cm_beside.specs.Related.{asked_limit, has_ends, is_question}
use Rattle.cm_beside.specs.Nodes.{pieces_of, grounds_of}
use Rattle.cm_beside.specs.Seen.{roots_under, symbol_at, has_value, is_seen_in}
use Rattle.cm_beside.specs.Enums.{enum_of}
use Rattle.cm_name.specs.Naming.{of_two, order_said, turned, less_by, elements_literal, numbers_literal, place_literal}
use Rattle.cm_name.specs.Naming.{presence_literal, said_of, literal_of, AreSmall, has_symbol, HaveSymbols}
use Rattle.cm_name.proofs.Seeing.{all_both}
use Rattle.cm_name.proofs.Saying.{AreEnds, two_of, one_of}

near_small : (k : ℤ) → is_near asked_limit k ≡ true → IsSmall k
near_small k h = let parts = and_parts _ _ h in (low parts.0, high parts.1)
  where
    low : int_le (neg_ℤ (pos asked_limit)) k ≡ true → neg_ℤ (pos 500000000) ≤ℤ k
    low e = grind (arith, ints, e)

    high : int_le k (pos asked_limit) ≡ true → k ≤ℤ pos 500000000
    high e = grind (arith, ints, e)

limit_small : (k : ℤ) → is_near number_limit k ≡ true → IsSmall k
limit_small k h = let parts = and_parts _ _ h in (low parts.0, high parts.1)
  where
    low : int_le (neg_ℤ (pos number_limit)) k ≡ true → neg_ℤ (pos 500000000) ≤ℤ k
    low e = grind (arith, ints, e)

    high : int_le k (pos number_limit) ≡ true → k ≤ℤ pos 500000000
    high e = grind (arith, ints, e)

-- what is so of a question that may be asked
module _ (t : Tables) (g : Grounds) where
  offset_small : (a : Num) → is_num t g asked_limit a ≡ true → IsSmall (offset_of a)
  offset_small a h = near_small (offset_of a) (and_parts _ _ (and_parts _ _ h).0).1

  -- its numbers are small
  pub asked_small : (q : Question) → IsTrue (is_question t g q) → AreSmall q
  asked_small (question.Elems x y) h = tt
  asked_small (question.Nums a b) h = let parts = and_parts _ _ h in (offset_small a parts.0, offset_small b parts.1)
  asked_small (question.Range a lo hi) h =
      let one = and_parts _ _ h in
      let two = and_parts _ _ one.1 in
      let three = and_parts _ _ two.1 in
      (offset_small a one.0, limit_small lo two.0, limit_small hi three.0)
  asked_small (question.TagOf a) h = tt
  asked_small (question.OptOf a) h = tt

  -- the ends of a range stand in their order
  pub asked_ends : (q : Question) → IsTrue (is_question t g q) → AreEnds q
  asked_ends (question.Elems x y) h = tt
  asked_ends (question.Nums a b) h = tt
  asked_ends (question.Range a lo hi) h =
      let ordered = int_le lo hi && has_ends t.ints lo hi in
      let high = is_near number_limit hi && ordered in
      let one = and_parts (is_num t g asked_limit a) (is_near number_limit lo && high) h in
      let two = and_parts (is_near number_limit lo) high one.1 in
      let three = and_parts (is_near number_limit hi) ordered two.1 in
      ends (and_parts (int_le lo hi) (has_ends t.ints lo hi) three.1).0
    where
      ends : int_le lo hi ≡ true → lo ≤ℤ hi
      ends e = grind (arith, ints, e)
  asked_ends (question.TagOf a) h = tt
  asked_ends (question.OptOf a) h = tt

  num_has : (a : Num) → is_num t g asked_limit a ≡ true → AllByRecursion (λ x. g.has x ≡ true) (vars_of_num a)
  num_has (num.Const k) h = tt
  num_has (num.Plus x k) h = ((and_parts _ _ h).1, tt)

  -- its variables' symbols have values
  pub asked_have : (q : Question) → IsTrue (is_question t g q)
      → AllByRecursion (λ x. IsTrue (g.has x)) (vars_asked q)
  asked_have (question.Elems x y) h = let have = and_parts _ _ (and_parts _ _ h).1 in (have.0, (have.1, tt))
  asked_have (question.Nums a b) h =
      let parts = and_parts _ _ h in
      all_both (λ x. g.has x ≡ true) (vars_of_num a) (vars_of_num b) (num_has a parts.0) (num_has b parts.1)
  asked_have (question.Range a lo hi) h = num_has a (and_parts _ _ h).0
  asked_have (question.TagOf (tag.Const e i)) h = tt
  asked_have (question.TagOf (tag.Var x)) h = ((and_parts _ _ (and_parts _ _ h).0).1, tt)
  asked_have (question.OptOf opt.None) h = tt
  asked_have (question.OptOf opt.Some) h = tt
  asked_have (question.OptOf (opt.Var o)) h = ((and_parts _ _ h).1, tt)

-- what symbols that are there give
seen_there : (r : Roots) (o : Option Sym) → is_seen_in r o ≡ true → (s : Sym) × (o ≡ Some s)
seen_there r (Some s) h = (s, refl)
seen_there r None h = absurd (cc)

two_are : {X : Type 0} (f : Sym → Sym → X) (a b : Option Sym) (x y : Sym) → a ≡ Some x → b ≡ Some y
    → of_two f a b ≡ Some (f x y)
two_are f a b x y h k = ap (λ o. of_two f o b) h ∙ ap (of_two f (Some x)) k

two_give : {X : Type 0} (f : Sym → Sym → X) (a b : Option Sym) → (s : Sym) × (a ≡ Some s) → (s : Sym) × (b ≡ Some s)
    → (l : X) × (of_two f a b ≡ Some l)
two_give f a b x y = (f x.0 y.0, two_are f a b x.0 y.0 x.1 y.1)

one_gives : {X : Type 0} (f : Sym → X) (a : Option Sym) → (s : Sym) × (a ≡ Some s) → (l : X) × (option_map f a ≡ Some l)
one_gives f a x = (f x.0, ap (option_map f) x.1)

module _ (t : Tables) (p : Pair) (places : List Place) where
  abbrev P : List Piece
  P = pieces_of t p places

  -- a symbol that has a value is there
  pub value_named : (v : Valuation) (x : Var) → IsTrue (has_value t p places v x)
      → IsTrue (has_symbol (pieces_of t p places) x)
  value_named v x has = by (symbol_at P x) has
    where
      by : (o : Option Sym) → is_seen_in (roots_under t p places v) o ≡ true → is_there o ≡ true
      by (Some s) h = refl
      by None h = absurd (cc)

  pub values_named : (v : Valuation) (xs : List Var) → AllByRecursion (λ x. IsTrue (has_value t p places v x)) xs
      → HaveSymbols (pieces_of t p places) xs
  values_named v [] have = tt
  values_named v (x ∷ xs) have = (value_named v x have.0, values_named v xs have.1)

  -- a fact that another valuation has otherwise is on variables, and these have symbols
  named_by : (q : Question) (d : ℕ) (u w : Valuation)
      → is_question t (grounds_of P (enum_of t p places) u (has_value t p places u)) q ≡ true → outcome_under u q ≢ d
      → outcome_under w q ≡ d → (l : Literal) × (said_of P q d ≡ Some l)
  named_by (question.Elems x y) d u w asked other is_d =
      let have = and_parts _ _ (and_parts _ _ asked).1 in
      two_give (elements_literal d) _ _ (seen_there _ _ have.0) (seen_there _ _ have.1)
  named_by (question.Nums (num.Plus x k) (num.Plus y j)) d u w asked other is_d =
      let parts = and_parts _ _ asked in
      two_give (numbers_literal (order_said d) k j) _ _ (seen_there _ _ (and_parts _ _ parts.0).1)
      (seen_there _ _ (and_parts _ _ parts.1).1)
  named_by (question.Nums (num.Plus x k) (num.Const n)) d u w asked other is_d =
      one_gives (λ s. literal.Against s (order_said d) (less_by n k)) _
      (seen_there _ _ (and_parts _ _ (and_parts _ _ asked).0).1)
  named_by (question.Nums (num.Const n) (num.Plus y j)) d u w asked other is_d =
      one_gives (λ s. literal.Against s (turned (order_said d)) (less_by n j)) _
      (seen_there _ _ (and_parts _ _ (and_parts _ _ asked).1).1)
  named_by (question.Nums (num.Const m) (num.Const n)) d u w asked other is_d = absurd (other is_d)
  named_by (question.Range (num.Plus x k) lo hi) d u w asked other is_d =
      one_gives (place_literal k lo hi d) _ (seen_there _ _ (and_parts _ _ (and_parts _ _ asked).0).1)
  named_by (question.Range (num.Const n) lo hi) d u w asked other is_d = absurd (other is_d)
  named_by (question.TagOf (tag.Var x)) d u w asked other is_d =
      one_gives (λ s. literal.Tag s d) _ (seen_there _ _ (and_parts _ _ (and_parts _ _ asked).0).1)
  named_by (question.TagOf (tag.Const e i)) d u w asked other is_d = absurd (other is_d)
  named_by (question.OptOf (opt.Var o)) d u w asked other is_d =
      one_gives (presence_literal d) _ (seen_there _ _ (and_parts _ _ asked).1)
  named_by (question.OptOf opt.None) d u w asked other is_d = absurd (other is_d)
  named_by (question.OptOf opt.Some) d u w asked other is_d = absurd (other is_d)

  pub named : (f : Fact) (u w : Valuation)
      → IsTrue (is_question t (grounds_of P (enum_of t p places) u (has_value t p places u)) f.question)
      → outcome_under u f.question ≢ f.outcome → IsTold w f → (l : Literal) × (literal_of P f ≡ Some l)
  named f u w asked other told = named_by f.question f.outcome u w asked other told

-- where variables keep their symbols, facts keep their literals
module _ (ps qs : List Piece)
    (stays : (x : Var) (s : Sym) → symbol_at ps x ≡ Some s → symbol_at qs x ≡ Some s) where
  two_stay : {X : Type 0} (f : Sym → Sym → X) (x y : Var) (l : X) → of_two f (symbol_at ps x) (symbol_at ps y) ≡ Some l
      → of_two f (symbol_at qs x) (symbol_at qs y) ≡ Some l
  two_stay f x y l named_ =
      let s = two_of f (symbol_at ps x) (symbol_at ps y) l named_ in
      two_are f (symbol_at qs x) (symbol_at qs y) s.0 s.1 (stays x s.0 s.2) (stays y s.1 s.3) ∙ ap Some s.4

  one_stays : {X : Type 0} (f : Sym → X) (x : Var) (l : X) → option_map f (symbol_at ps x) ≡ Some l
      → option_map f (symbol_at qs x) ≡ Some l
  one_stays f x l named_ =
      let s = one_of f (symbol_at ps x) l named_ in
      ap (option_map f) (stays x s.0 s.1) ∙ ap Some s.2

  said_stays : (q : Question) (d : ℕ) (l : Literal) → said_of ps q d ≡ Some l → said_of qs q d ≡ Some l
  said_stays (question.Elems x y) d l n = two_stay (elements_literal d) (OfElement x.0) (OfElement y.0) l n
  said_stays (question.Nums (num.Plus x k) (num.Plus y j)) d l n =
      two_stay (numbers_literal (order_said d) k j) (OfNumber x.0) (OfNumber y.0) l n
  said_stays (question.Nums (num.Plus x k) (num.Const m)) d l n =
      one_stays (λ s. literal.Against s (order_said d) (less_by m k)) (OfNumber x.0) l n
  said_stays (question.Nums (num.Const m) (num.Plus y j)) d l n =
      one_stays (λ s. literal.Against s (turned (order_said d)) (less_by m j)) (OfNumber y.0) l n
  said_stays (question.Nums (num.Const m) (num.Const k)) d l n = absurd (cc)
  said_stays (question.Range (num.Plus x k) lo hi) d l n = one_stays (place_literal k lo hi d) (OfNumber x.0) l n
  said_stays (question.Range (num.Const m) lo hi) d l n = absurd (cc)
  said_stays (question.TagOf (tag.Var x)) d l n = one_stays (λ s. literal.Tag s d) (OfTag x.0) l n
  said_stays (question.TagOf (tag.Const e i)) d l n = absurd (cc)
  said_stays (question.OptOf (opt.Var o)) d l n = one_stays (presence_literal d) (OfOption o.0) l n
  said_stays (question.OptOf opt.None) d l n = absurd (cc)
  said_stays (question.OptOf opt.Some) d l n = absurd (cc)

  pub literal_stays : (f : Fact) (l : Literal) → literal_of ps f ≡ Some l → literal_of qs f ≡ Some l
  literal_stays f l n = said_stays f.question f.outcome l n

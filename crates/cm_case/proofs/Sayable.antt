-- Each fact of a leaf, and each equality that is printed behind them, has a literal, which is one of a report.
use Rattle.std.proofs.Common.{◌≡◌, ◌≢◌, ℕ, true, List, [], ◌∷◌, ◌++◌, map, slice_get, Option, Some}
use Rattle.std.proofs.Common.{refl, sym, ap, ◌∙◌, subst}
use Rattle.std.specs.List.{AllByRecursion, list_all}
use Rattle.std.proofs.lemmas.List.{append-nil}
use Rattle.cm_model.specs.Tables.{Tables}
use Rattle.cm_model.specs.WellTyped.{IsWellTyped}
use Rattle.cm_model.specs.declared.pair.Pair.{Pair}
use Rattle.cm_term.specs.declared.question.Equal.{Equal}
use Rattle.cm_term.specs.declared.question.Fact.{Fact}
use Rattle.cm_term.specs.declared.question.Question.{Question}
use Rattle.cm_term.specs.declared.question.Question.TheVariants as question
use Rattle.cm_term.specs.declared.atom.Num.TheVariants as num
use Rattle.cm_term.specs.declared.symbol.Sym.{Sym}
use Rattle.cm_term.specs.Valuation.{Valuation, OfElement, OfNumber, OfTag, OfOption}
use Rattle.cm_term.specs.Questions.{outcome_under, vars_asked, IsTold}
use Rattle.cm_cells.specs.CellTable.{Place}
use Rattle.cm_ctx.specs.declared.piece.Piece.{Piece}
use Rattle.cm_ctx.specs.Contexts.{sorts_of}
use Rattle.cm_exec.specs.Terms.{question_of}
use Rattle.cm_cond.specs.declared.literal.Literal.{Literal}
use Rattle.cm_cond.specs.Form.{is_literal}
use Rattle.cm_beside.specs.declared.verdict.Verdict.TheVariants as verdict
use Rattle.cm_beside.specs.Related.{is_question}
use Rattle.cm_beside.specs.Grounds.{Grounds}
use Rattle.cm_beside.specs.Nodes.{pieces_of, IsValuation, Satisfies, grounds_of}
use Rattle.cm_beside.specs.Leaf.{IsRightLeaf}
use Rattle.cm_beside.specs.Seen.{has_value}
use Rattle.cm_beside.specs.Enums.{enum_of}
use Rattle.cm_beside.proofs.Declaring.{IsDeclared}
use Rattle.cm_walk.specs.Prefixes.{AreOpenDecisions}
use Rattle.cm_name.specs.Naming.{literal_of, cell_named}
use Rattle.cm_name.proofs.Named.{asked_small}
use Rattle.cm_case.specs.Named.{IsSayable}
use Rattle.cm_case.proofs.Lists.{all_so, all_both, all_parts, all_one, all_each, AreNamed, all_hold}
use Rattle.cm_case.proofs.Told.{asked_has, IsOneSymbol, said_same}
use Rattle.cm_case.proofs.Extending.{valuation_less, pieces_both, later_pieces, get_found}
use Rattle.cm_case.proofs.Assembly.{Further, sees, symbols_stay, equal_asked}
use Rattle.cm_case.proofs.Opened.{opened}
use Rattle.cm_case.proofs.Apart.{AreApart, Differ, apart, sayable}
use Rattle.cm_case.proofs.Literals.{AreTyped, formed}
use Rattle.cm_case.proofs.Typing.{symbol_typed}
use Rattle.cm_case.proofs.Spelling.{states_are, sorts_both}
use Rattle.cm_case.proofs.Backward.{keyed_declared}

-- the sorts of the first cells' variables stay
sorts_more : (t : Tables) (p : Pair) (first later : List Place) (x r : ℕ)
    → slice_get (sorts_of (pieces_of t p first)) x ≡ Some r
    → slice_get (sorts_of (pieces_of t p (first ++ later))) x ≡ Some r
sorts_more t p first later x r at =
    ap (λ ps. slice_get (sorts_of ps) x) (pieces_both t p first later)
    ∙ ap (λ ss. slice_get ss x) (sorts_both (pieces_of t p first) (later_pieces t p first later))
    ∙ get_found (sorts_of (pieces_of t p first)) (sorts_of (later_pieces t p first later)) x r at

module _ (t : Tables) (typed : IsWellTyped t) (p : Pair) (places : List Place) where
  abbrev P : List Piece
  P = pieces_of t p places

  -- it has a literal, which is one of a report with these cells
  abbrev IsSaid : Fact → Type 0
  IsSaid f = IsSayable (pieces_of t p places) f
      × ((l : Literal) → literal_of (pieces_of t p places) f ≡ Some l
      → is_literal t p (map (cell_named (pieces_of t p places)) places) l ≡ true)

  -- what is apart among the first cells' symbols is so among all
  apart_more : (first later : List Place) → places ≡ first ++ later → (v : Valuation) (q : Question)
      → AllByRecursion (λ x. has_value t p first v x ≡ true) (vars_asked q)
      → AreApart (pieces_of t p first) q → AreApart (pieces_of t p places) q
  apart_more first later whole v q have = by q (symbols_stay t typed p places first later whole v (vars_asked q) have)
    where
      both : (o o' r r' : Option Sym) → o ≡ o' → r ≡ r' → Differ o r → Differ o' r'
      both o o' r r' e f h = λ x y at bt same. h x y (e ∙ at) (f ∙ bt) same

      by : (q : Question) → AllByRecursion (IsOneSymbol (pieces_of t p first) (pieces_of t p places)) (vars_asked q)
          → AreApart (pieces_of t p first) q → AreApart (pieces_of t p places) q
      by (question.Elems x y) s h = both _ _ _ _ s.0 s.1.0 h
      by (question.Nums (num.Plus x k) (num.Plus y l)) s h = both _ _ _ _ s.0 s.1.0 h
      by (question.Nums (num.Plus x k) (num.Const n)) s h = tt
      by (question.Nums (num.Const m) (num.Plus y l)) s h = tt
      by (question.Nums (num.Const m) (num.Const n)) s h = tt
      by (question.Range a lo hi) s h = tt
      by (question.TagOf a) s h = tt
      by (question.OptOf a) s h = tt

  abbrev ground : List Place → Valuation → Grounds
  ground first v = grounds_of (pieces_of t p first) (enum_of t p first) v (has_value t p first v)

  -- a fact of the first cells, which one valuation has and another has not
  module _ (first later : List Place) (whole : places ≡ first ++ later) (f : Fact) (u w : Valuation)
      (iu : IsValuation (pieces_of t p first) u) (iw : IsValuation (pieces_of t p places) w)
      (asked_u : is_question t (ground first u) f.question ≡ true)
      (asked_w : is_question t (ground first w) f.question ≡ true)
      (differs : outcome_under u f.question ≢ f.outcome) (told : IsTold w f)
      (types : AreTyped t p (pieces_of t p places) (map (cell_named (pieces_of t p places)) places) w) where
    has_u : AllByRecursion (λ x. has_value t p first u x ≡ true) (vars_asked f.question)
    has_u = asked_has t (ground first u) f.question asked_u

    has_w : AllByRecursion (λ x. has_value t p first w x ≡ true) (vars_asked f.question)
    has_w = asked_has t (ground first w) f.question asked_w

    less : IsValuation (pieces_of t p first) w
    less = valuation_less t p first later w (subst (λ qs. IsValuation (pieces_of t p qs) w) whole iw)

    said : (l : Literal) × (literal_of (pieces_of t p places) f ≡ Some l)
    said =
        let s = sayable t p (sees t p) first u w iu less f.question f.outcome has_u differs told in (
          s.0,
          sym (said_same (pieces_of t p first) (pieces_of t p places) f.question f.outcome
              (symbols_stay t typed p places first later whole u (vars_asked f.question) has_u)) ∙ s.1,
        )

    stay : (x r : ℕ) → slice_get (sorts_of (pieces_of t p first)) x ≡ Some r
        → slice_get (sorts_of (pieces_of t p places)) x ≡ Some r
    stay x r at = ap (λ qs. slice_get (sorts_of (pieces_of t p qs)) x) whole ∙ sorts_more t p first later x r at

    pub is_said : IsSaid f
    is_said = (
      (said, asked_small t (ground first w) f.question asked_w),
      (λ l named. formed t p (pieces_of t p places) (map (cell_named (pieces_of t p places)) places) w types
          (ground first w) stay f.question f.outcome l named asked_w
          (apart_more first later whole u f.question has_u
          (apart t p (sees t p) first u w iu less f.question f.outcome has_u has_w differs told)) told),
    )

  -- the symbols of a valuation's variables have types
  types_of_symbols : (v : Valuation) → IsValuation (pieces_of t p places) v → AllByRecursion (IsDeclared t) places
      → AreTyped t p (pieces_of t p places) (map (cell_named (pieces_of t p places)) places) v
  types_of_symbols v is declared =
      let cells = map (cell_named (pieces_of t p places)) places in
      let states = states_are t typed p (pieces_of t p places) places in
      record {
        element = λ x s at.
            let h = symbol_typed t typed p cells places declared states (OfElement x) s at in
            (h.end, h.typed_so, h.form.0, h.form.2, h.form.1);
        number = λ x s at.
            let h = symbol_typed t typed p cells places declared states (OfNumber x) s at in
            (h.end, h.typed_so, h.form.0, h.form.1);
        tag = λ x s at.
            let h = symbol_typed t typed p cells places declared states (OfTag x) s at in
            (h.end, h.typed_so, h.form.0, h.form.1, h.form.2 v is);
        option = λ o s at.
            let h = symbol_typed t typed p cells places declared states (OfOption o) s at in
            (h.end, h.typed_so, h.form.0, h.form.1);
      }

  -- of a right leaf
  module _ (path : List ℕ) (facts : List Fact) (es : List Equal) (right : IsRightLeaf t p path facts places (verdict.If es))
      (were_open : AreOpenDecisions t p [] [] path facts places) (more : List Fact)
      (further : Further t p facts places es more) where
    abbrev w : Valuation
    w = further.some.0

    abbrev sat : Satisfies further.some.0 facts
    sat = (all_parts (IsTold further.some.0) facts more further.some.2).0

    abbrev IsEqual : Fact → Type 0
    IsEqual f = (i : ℕ) × (e : Equal) × (slice_get es i ≡ Some e) × (f.question ≡ question_of e)

    pub declared : AllByRecursion (IsDeclared t) places
    declared = keyed_declared t p places w (right.keyed w further.some.1 sat) [] places refl

    types : AreTyped t p (pieces_of t p places) (map (cell_named (pieces_of t p places)) places) further.some.0
    types = types_of_symbols further.some.0 further.some.1 declared

    fact_said : (before : List Fact) (f : Fact) (after : List Fact) → facts ≡ before ++ f ∷ after → IsSaid f
    fact_said before f after split =
        let o = (opened t p places [] [] path facts were_open before f after split).itself.was_open in
        let u = o.satisfies in
        let parts = all_parts (IsTold w) before (f ∷ after) (subst (Satisfies w) split sat) in
        let less = valuation_less t p o.first o.later w
        (subst (λ qs. IsValuation (pieces_of t p qs) w) o.in_order further.some.1) in
        is_said o.first o.later o.in_order f u.valuation w u.is_valuation further.some.1
        (o.node.asked u.valuation u.is_valuation u.satisfies) (o.node.asked w less parts.0) o.differs parts.1.0 types

    equal_said : (before : List Fact) (f : Fact) (after : List Fact) → more ≡ before ++ f ∷ after → IsSaid f
    equal_said before f after split =
        let o = further.were_open before f after split in
        let sat_o = (all_parts (IsTold o.0) facts before o.2).0 in
        let known = all_one IsEqual before f after (subst (AllByRecursion IsEqual) split further.among) in
        let told = all_one (IsTold w) before f after
        (subst (Satisfies w) split (all_parts (IsTold w) facts more further.some.2).1) in
        is_said places [] (sym (append-nil places)) f o.0 w o.1 further.some.1
        (equal_asked t typed p places path facts es right were_open more further o.0 o.1 sat_o f known)
        (equal_asked t typed p places path facts es right were_open more further w further.some.1 sat f known)
        o.3 told types

    pub all_said : AllByRecursion IsSaid (facts ++ more)
    all_said = all_both IsSaid facts more (all_each IsSaid facts fact_said) (all_each IsSaid more equal_said)

    pub all_sayable : AllByRecursion (IsSayable (pieces_of t p places)) (facts ++ more)
    all_sayable = all_so IsSaid (IsSayable (pieces_of t p places)) (facts ++ more) (λ f h. h.0) all_said

    pub all_formed : (ls : List Literal) → AreNamed (literal_of (pieces_of t p places)) (facts ++ more) ls
        → list_all (is_literal t p (map (cell_named (pieces_of t p places)) places)) ls ≡ true
    all_formed ls named = all_hold (literal_of (pieces_of t p places))
        (is_literal t p (map (cell_named (pieces_of t p places)) places)) IsSaid (facts ++ more) ls named
        (λ f l at h. h.1 l at) all_said

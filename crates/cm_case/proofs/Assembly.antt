-- The case that is named after a right leaf is right.
use Rattle.std.proofs.Common.{◌≡◌, ◌≢◌, ◌↔◌, ◌⊎◌, inl, inr, ℕ, zero, suc, true, List, [], ◌∷◌, ◌++◌, map, slice_get}
use Rattle.std.proofs.Common.{Option, Some, IsTrue, refl, sym, ap, ◌∙◌, subst, append_assoc}
use Rattle.std.specs.List.{AllByRecursion, list_all}
use Rattle.std.proofs.lemmas.Bool.{and_parts, and_from}
use Rattle.std.proofs.lemmas.List.{append-nil}
use Rattle.cm_model.specs.Tables.{Tables}
use Rattle.cm_model.specs.WellTyped.{IsWellTyped}
use Rattle.cm_model.specs.declared.pair.Pair.{Pair}
use Rattle.cm_term.specs.declared.question.Equal.{Equal}
use Rattle.cm_term.specs.declared.question.Fact.{Fact}
use Rattle.cm_term.specs.declared.question.Question.{Question}
use Rattle.cm_term.specs.Symbols.{Roots}
use Rattle.cm_term.specs.Valuation.{Valuation, Var}
use Rattle.cm_term.specs.Questions.{outcome_under, vars_asked, AreEqual, IsTold}
use Rattle.cm_eval.specs.declared.log.CellName.{CellName}
use Rattle.cm_cells.specs.CellTable.{Place}
use Rattle.cm_cells.specs.Alike.{cell_under}
use Rattle.cm_ctx.specs.declared.piece.Piece.{Piece}
use Rattle.cm_exec.specs.Terms.{question_of}
use Rattle.cm_world.specs.declared.world.World.{World}
use Rattle.cm_world.specs.World.{IsWorldOf}
use Rattle.cm_world.specs.Order.{touched_cells}
use Rattle.cm_world.specs.Path.{path_of_world}
use Rattle.cm_world.specs.Commuting.{Commutes}
use Rattle.cm_cond.specs.declared.literal.Literal.{Literal}
use Rattle.cm_cond.specs.declared.report.Case.{Case}
use Rattle.cm_cond.specs.Values.{roots_on}
use Rattle.cm_cond.specs.Keys.{cells_on, initial_values}
use Rattle.cm_cond.specs.Holding.{literal_holds, case_holds, CaseHolds}
use Rattle.cm_cond.specs.Holding as holding
use Rattle.cm_beside.specs.declared.verdict.Verdict.TheVariants as verdict
use Rattle.cm_beside.specs.Beside.{IsGood}
use Rattle.cm_beside.specs.Related.{is_question}
use Rattle.cm_beside.specs.Grounds.{Grounds}
use Rattle.cm_beside.specs.Nodes.{pieces_of, IsValuation, Satisfies, Agrees, grounds_of}
use Rattle.cm_beside.specs.Leaf.{StartsWith, AreKeyed, IsRightLeaf, IsRightNode}
use Rattle.cm_beside.specs.Seen.{roots_under, symbol_at, has_value}
use Rattle.cm_beside.specs.Enums.{enum_of}
use Rattle.cm_walk.specs.Prefixes.{WasOpen, AreOpenDecisions}
use Rattle.cm_name.specs.Naming.{literal_of, cell_named}
use Rattle.cm_case.specs.Right.{roots_of, IsFree, CommutesOn}
use Rattle.cm_case.proofs.Lists.{all_so, all_both, all_parts, all_one, all_each, Stands, InFirst, InLast, where_stands}
use Rattle.cm_case.proofs.Lists.{AreNamed, all_hold, all_said, FactOf, fact_of_literal}
use Rattle.cm_case.proofs.Same.{IsOne, alike_said}
use Rattle.cm_case.proofs.Told.{asked_has, IsOneSymbol, said_same}
use Rattle.cm_case.proofs.Extending.{Begins, seen_same, has_symbol, symbol_more, valuation_less}
use Rattle.cm_case.proofs.Opened.{Opened, opened}
use Rattle.cm_case.proofs.Keyed.{MaySee}
use Rattle.cm_case.proofs.Cells.{forward, cells_are}
use Rattle.cm_case.proofs.Backward.{backward}
use Rattle.cm_name.proofs.Seeing.{may_see}
use Rattle.cm_name.proofs.Saying.{AreEnds, holds_says, says_holds}
use Rattle.cm_name.proofs.Named.{asked_ends}

-- the equalities that are printed, as facts behind the facts
pub record Further (t : Tables) (p : Pair) (facts : List Fact) (places : List Place) (es : List Equal) (more : List Fact)
    : Type 0 where
  pub among : AllByRecursion (λ f. (i : ℕ) × (e : Equal) × (slice_get es i ≡ Some e) × (f.question ≡ question_of e)) more
  pub says : (v : Valuation) → IsValuation (pieces_of t p places) v → Satisfies v facts
      → Satisfies v more ↔ AllByRecursion (AreEqual v) es
  pub were_open : (before : List Fact) (f : Fact) (after : List Fact) → more ≡ before ++ f ∷ after
      → (v : Valuation) × IsValuation (pieces_of t p places) v × Satisfies v (facts ++ before)
      × (outcome_under v f.question ≢ f.outcome)
  pub some : (v : Valuation) × IsValuation (pieces_of t p places) v × Satisfies v (facts ++ more)

list_cancel : (xs ys zs : List ℕ) → xs ++ ys ≡ xs ++ zs → ys ≡ zs
list_cancel [] ys zs e = e
list_cancel (x ∷ xs) ys zs e = list_cancel xs ys zs (let f : xs ++ ys ≡ xs ++ zs = cc in f)

-- where the symbol of a variable has a value, it is the variable's
pub sees : (t : Tables) (p : Pair) → MaySee t p
sees t p places v is x s at = may_see t p places v is x s at

module _ (t : Tables) (typed : IsWellTyped t) (p : Pair) (places : List Place) where
  abbrev P : List Piece
  P = pieces_of t p places

  -- on a world, of a case that has these cells
  abbrev on : World → Roots
  on u = roots_on u (initial_values t u (map (cell_named (pieces_of t p places)) places))

  -- the variables of a question among the first cells have their symbols there
  pub symbols_stay : (first later : List Place) → places ≡ first ++ later → (v : Valuation) (xs : List Var)
      → AllByRecursion (λ x. has_value t p first v x ≡ true) xs
      → AllByRecursion (IsOneSymbol (pieces_of t p first) (pieces_of t p places)) xs
  symbols_stay first later whole v xs = all_so (λ x. has_value t p first v x ≡ true)
      (IsOneSymbol (pieces_of t p first) (pieces_of t p places)) xs (λ x h.
      let s = has_symbol t p first v x h in
      s.1 ∙ sym (ap (λ qs. symbol_at (pieces_of t p qs) x) whole ∙ symbol_more t p first later x s.0 s.1))

  -- on a world that agrees with a valuation of the first cells, a literal of a question that has values there holds
  -- exactly as under the valuation
  module _ (first later : List Place) (whole : places ≡ first ++ later) (u : World) (v : Valuation)
      (world : IsWorldOf t p u) (is : IsValuation (pieces_of t p first) v) (agrees : Agrees t p v u first)
      (keyed : AreKeyed t p v first) (f : Fact) (l : Literal) (named : literal_of (pieces_of t p places) f ≡ Some l)
      (have : AllByRecursion (λ x. has_value t p first v x ≡ true) (vars_asked f.question)) where
    named_first : literal_of (pieces_of t p first) f ≡ Some l
    named_first =
        said_same (pieces_of t p first) (pieces_of t p places) f.question f.outcome
        (symbols_stay first later whole v (vars_asked f.question) have) ∙ named

    begun : Begins t p first v (on u)
    begun = forward t p typed (sees t p) places first later whole u world v is agrees keyed

    alike : literal_holds (on u) l ≡ literal_holds (roots_under t p first v) l
    alike = alike_said (on u) (roots_under t p first v) (pieces_of t p first) f.question f.outcome l named_first
        (all_so (λ x. has_value t p first v x ≡ true) (IsOne (on u) (roots_under t p first v) (pieces_of t p first))
        (vars_asked f.question) (λ x h s at. seen_same t p first v (on u) begun x s at) have)

    told_holds : IsTold v f → IsTrue (literal_holds (on u) l)
    told_holds told = alike ∙ says_holds t p first v is f l named_first have told

    holds_told : AreEnds f.question → ((w : Valuation) × IsValuation (pieces_of t p first) w × IsTold w f)
        → IsTrue (literal_holds (on u) l) → IsTold v f
    holds_told ends some so = holds_says t p first v is f l named_first ends some (sym alike ∙ so)

  -- the variables that a node asks of have values
  node_has : (front : List ℕ) (before : List Fact) (first : List Place) (q : Question)
      → IsRightNode t p front before first q → (v : Valuation) → IsValuation (pieces_of t p first) v → Satisfies v before
      → AllByRecursion (λ x. has_value t p first v x ≡ true) (vars_asked q)
  node_has front before first q node v is sat =
      asked_has t (grounds_of (pieces_of t p first) (enum_of t p first) v (has_value t p first v)) q
      (node.asked v is sat)

  node_ends : (front : List ℕ) (before : List Fact) (first : List Place) (q : Question)
      → IsRightNode t p front before first q → (v : Valuation) → IsValuation (pieces_of t p first) v → Satisfies v before
      → AreEnds q
  node_ends front before first q node v is sat =
      asked_ends t (grounds_of (pieces_of t p first) (enum_of t p first) v (has_value t p first v)) q
      (node.asked v is sat)

  -- where a path goes on with a fact's outcome, its literal holds
  told_on : (front : List ℕ) (before : List Fact) (f : Fact) → WasOpen t p front before f places → (u : World)
      → IsWorldOf t p u → StartsWith (path_of_world t p u) (front ++ f.outcome ∷ []) → (l : Literal)
      → literal_of (pieces_of t p places) f ≡ Some l → IsTrue (literal_holds (on u) l)
  told_on front before f was u world starts l named =
      let node = was.node in
      let s = (node.begins u world).0 (f.outcome ∷ starts.0, starts.1 ∙ append_assoc front (f.outcome ∷ []) starts.0) in
      told_holds was.first was.later was.in_order u s.valuation world s.is_valuation s.agrees
      (node.keyed s.valuation s.is_valuation s.satisfies) f l named
      (node_has front before was.first f.question node s.valuation s.is_valuation s.satisfies)
      (outcome_is s.valuation (node.goes_on u s.valuation world s.is_valuation s.agrees s.satisfies))
    where
      outcome_is : (v : Valuation) → StartsWith (path_of_world t p u) (front ++ outcome_under v f.question ∷ [])
          → IsTold v f
      outcome_is v goes =
          same_head (outcome_under v f.question) f.outcome goes.0 starts.0
          (list_cancel front (outcome_under v f.question ∷ goes.0) (f.outcome ∷ starts.0)
          (sym (append_assoc front (outcome_under v f.question ∷ []) goes.0) ∙ sym goes.1 ∙ starts.1
          ∙ append_assoc front (f.outcome ∷ []) starts.0))
        where
          same_head : (x y : ℕ) (xs ys : List ℕ) → x ∷ xs ≡ y ∷ ys → x ≡ y
          same_head x y xs ys e = cc

  -- a world at the node that gives the question another outcome does not make its literal true
  not_on : (front : List ℕ) (before : List Fact) (f : Fact) (was : WasOpen t p front before f places)
      → ((w : Valuation) × IsValuation (pieces_of t p places) w × IsTold w f) → (l : Literal)
      → literal_of (pieces_of t p places) f ≡ Some l → IsTrue (literal_holds (on was.world) l) → ⊥
  not_on front before f was some l named so =
      let s = was.satisfies in
      let node = was.node in
      was.differs (holds_told was.first was.later was.in_order was.world s.valuation was.is_world s.is_valuation s.agrees
      (node.keyed s.valuation s.is_valuation s.satisfies) f l named
      (node_has front before was.first f.question node s.valuation s.is_valuation s.satisfies)
      (node_ends front before was.first f.question node s.valuation s.is_valuation s.satisfies) (
        some.0,
        valuation_less t p was.first was.later some.0
            (subst (λ qs. IsValuation (pieces_of t p qs) some.0) was.in_order some.1),
        some.2,
      ) so)

  -- a right leaf with the equalities that are printed
  module _ (path : List ℕ) (facts : List Fact) (es : List Equal) (right : IsRightLeaf t p path facts places (verdict.If es))
      (were_open : AreOpenDecisions t p [] [] path facts places) (more : List Fact)
      (further : Further t p facts places es more) where
    abbrev name : Fact → Option Literal
    name = literal_of (pieces_of t p places)

    stands_at : (before : List Fact) (f : Fact) (after : List Fact) → facts ≡ before ++ f ∷ after
        → Opened t p places [] [] path before f
    stands_at = opened t p places [] [] path facts were_open

    -- some valuation satisfies each fact
    possible : AllByRecursion (λ f. (w : Valuation) × IsValuation (pieces_of t p places) w × IsTold w f) (facts ++ more)
    possible = all_so (IsTold further.some.0)
        (λ f. (w : Valuation) × IsValuation (pieces_of t p places) w × IsTold w f) (facts ++ more)
        (λ f told. (further.some.0, further.some.1, told)) further.some.2

    facts_hold : (v : Valuation) → Satisfies v (facts ++ more) → Satisfies v facts
    facts_hold v sat = (all_parts (IsTold v) facts more sat).0

    -- on a world with the path each fact's literal holds
    fact_on : (u : World) → IsWorldOf t p u → path_of_world t p u ≡ path → (before : List Fact) (f : Fact)
        (after : List Fact) → facts ≡ before ++ f ∷ after → (l : Literal) → name f ≡ Some l
        → IsTrue (literal_holds (on u) l)
    fact_on u world has before f after split l named =
        let o = (stands_at before f after split).itself in
        told_on o.ahead before f o.was_open u world
        (o.rest, has ∙ o.whole ∙ sym (append_assoc o.ahead (f.outcome ∷ []) o.rest)) l named

    abbrev ground : Valuation → Grounds
    ground v = grounds_of (pieces_of t p places) (enum_of t p places) v (has_value t p places v)

    -- an equality could be asked
    pub equal_asked : (v : Valuation) → IsValuation (pieces_of t p places) v → Satisfies v facts → (f : Fact)
        → ((i : ℕ) × (e : Equal) × (slice_get es i ≡ Some e) × (f.question ≡ question_of e))
        → is_question t (ground v) f.question ≡ true
    equal_asked v is sat f h =
        subst (λ q. is_question t (ground v) q ≡ true) (sym h.3) (good_at es h.0 h.1 h.2 (right.needed v is sat))
      where
        good_at : (ds : List Equal) (i : ℕ) (e : Equal) → slice_get ds i ≡ Some e
            → AllByRecursion (IsGood t (ground v)) ds
            → is_question t (ground v) (question_of e) ≡ true
        good_at [] i e at h = absurd (cc)
        good_at (d ∷ ds) zero e at h =
            let same : d ≡ e = cc in
            subst (λ x. is_question t (ground v) (question_of x) ≡ true) same h.0
        good_at (d ∷ ds) (suc i) e at h = good_at ds i e at h.1

    -- its variables have values under each valuation of the leaf
    equal_has : (v : Valuation) → IsValuation (pieces_of t p places) v → Satisfies v facts → (f : Fact)
        → ((i : ℕ) × (e : Equal) × (slice_get es i ≡ Some e) × (f.question ≡ question_of e))
        → AllByRecursion (λ x. has_value t p places v x ≡ true) (vars_asked f.question)
    equal_has v is sat f h =
        asked_has t (ground v) f.question (equal_asked v is sat f h)

    equal_ends : (v : Valuation) → IsValuation (pieces_of t p places) v → Satisfies v facts → (f : Fact)
        → ((i : ℕ) × (e : Equal) × (slice_get es i ≡ Some e) × (f.question ≡ question_of e)) → AreEnds f.question
    equal_ends v is sat f h =
        asked_ends t (ground v) f.question (equal_asked v is sat f h)

    -- and the ends of each range stand in their order
    with_ends : AllByRecursion (λ f. AreEnds f.question × ((w : Valuation) × IsValuation (pieces_of t p places) w × IsTold w f))
        (facts ++ more)
    with_ends = joined (facts ++ more) (all_both (λ f. AreEnds f.question) facts more
        (all_each (λ f. AreEnds f.question) facts (λ before f after e.
        let o = (stands_at before f after e).itself.was_open in
        node_ends _ before o.first f.question o.node o.satisfies.valuation o.satisfies.is_valuation
        o.satisfies.satisfies))
        (all_so (λ f. (i : ℕ) × (e : Equal) × (slice_get es i ≡ Some e) × (f.question ≡ question_of e))
        (λ f. AreEnds f.question) more
        (λ f h. equal_ends further.some.0 further.some.1 (facts_hold further.some.0 further.some.2) f h) further.among))
        possible
      where
        joined : (fs : List Fact) → AllByRecursion (λ f. AreEnds f.question) fs
            → AllByRecursion (λ f. (w : Valuation) × IsValuation (pieces_of t p places) w × IsTold w f) fs
            → AllByRecursion (λ f. AreEnds f.question × ((w : Valuation) × IsValuation (pieces_of t p places) w × IsTold w f)) fs
        joined [] h k = tt
        joined (f ∷ fs) h k = ((h.0, k.0), joined fs h.1 k.1)

    -- and on a world that agrees with a valuation of the leaf an equality's literal holds exactly as under it
    module _ (u : World) (v : Valuation) (world : IsWorldOf t p u) (is : IsValuation (pieces_of t p places) v)
        (agrees : Agrees t p v u places) (sat : Satisfies v facts) where
      equal_holds : (f : Fact)
          → ((i : ℕ) × (e : Equal) × (slice_get es i ≡ Some e) × (f.question ≡ question_of e)) → (l : Literal)
          → name f ≡ Some l → IsTold v f → IsTrue (literal_holds (on u) l)
      equal_holds f h l named told =
          told_holds places [] (sym (append-nil places)) u v world is agrees (right.keyed v is sat) f l named
          (equal_has v is sat f h) told

      equal_told : (f : Fact)
          → ((i : ℕ) × (e : Equal) × (slice_get es i ≡ Some e) × (f.question ≡ question_of e)) → (l : Literal)
          → name f ≡ Some l → ((w : Valuation) × IsValuation (pieces_of t p places) w × IsTold w f)
          → IsTrue (literal_holds (on u) l) → IsTold v f
      equal_told f h l named some so =
          holds_told places [] (sym (append-nil places)) u v world is agrees (right.keyed v is sat) f l named
          (equal_has v is sat f h) (equal_ends v is sat f h) some so

      path_is : path_of_world t p u ≡ path
      path_is = (right.has_path u world).1 (record {
        valuation = v;
        is_valuation = is;
        agrees = agrees;
        satisfies = sat;
      })

    -- each fact with what is known of it
    abbrev Known : Fact → Type 0
    Known f =
        ((before : List Fact) × (after : List Fact) × (facts ≡ before ++ f ∷ after))
        ⊎ ((i : ℕ) × (e : Equal) × (slice_get es i ≡ Some e) × (f.question ≡ question_of e))

    -- the literals of facts and of equalities that are told hold
    all_on : (u : World) (v : Valuation) → IsWorldOf t p u → IsValuation (pieces_of t p places) v
        → Agrees t p v u places → Satisfies v facts → (fs : List Fact) (ls : List Literal) → AreNamed name fs ls
        → AllByRecursion (λ f. Known f × IsTold v f) fs → IsTrue (list_all (literal_holds (on u)) ls)
    all_on u v world is agrees sat fs ls named all =
        all_hold name (literal_holds (on u)) (λ f. Known f × IsTold v f) fs ls named (λ f l at h. by f l at h.0 h.1) all
      where
        by : (f : Fact) (l : Literal) → name f ≡ Some l → Known f → IsTold v f → IsTrue (literal_holds (on u) l)
        by f l at (inl k) told = fact_on u world (path_is u v world is agrees sat) k.0 f k.1 k.2 l at
        by f l at (inr k) told = equal_holds u v world is agrees sat f k l at told

    known_facts : AllByRecursion Known facts
    known_facts = all_each Known facts (λ before f after e. inl (before, after, e))

    known_more : AllByRecursion Known more
    known_more = all_so (λ f. (i : ℕ) × (e : Equal) × (slice_get es i ≡ Some e) × (f.question ≡ question_of e)) Known more
        (λ f h. inr h) further.among

    with_told : (v : Valuation) (fs : List Fact) → AllByRecursion Known fs → Satisfies v fs
        → AllByRecursion (λ f. Known f × IsTold v f) fs
    with_told v [] k sat = tt
    with_told v (f ∷ fs) k sat = ((k.0, sat.0), with_told v fs k.1 sat.1)

    all_there : (cs : List CellName) → list_all holding.has_value (map Some cs) ≡ true
    all_there [] = refl
    all_there (c ∷ cs) = all_there cs

    -- the case that is named after them
    module _ (c : Case) (cells : c.cells ≡ map (cell_named (pieces_of t p places)) places)
        (literals : AreNamed (literal_of (pieces_of t p places)) (facts ++ more) c.literals) where
      on_is : (u : World) → roots_of t p c u ≡ on u
      on_is u = ap (λ cs. roots_on u (initial_values t u cs)) cells

      -- a world that commutes and has the path makes the case hold
      makes_hold : (u : World) → IsWorldOf t p u → path_of_world t p u ≡ path → Commutes t p u → CaseHolds t c u
      makes_hold u world has commutes =
          let s = (right.has_path u world).0 has in
          let v = s.valuation in
          let sat_more = (further.says v s.is_valuation s.satisfies).1
          ((right.commutes u v world s.is_valuation s.agrees s.satisfies).0 commutes) in
          let there = ap (list_all holding.has_value) (ap (cells_on t u) cells
          ∙ cells_are t p typed (sees t p) places u world v s.is_valuation s.agrees (right.keyed v s.is_valuation s.satisfies))
          ∙ all_there (map (cell_under v) places) in
          and_from _ _ there (ap (λ r. list_all (literal_holds r) c.literals) (on_is u)
          ∙ all_on u v world s.is_valuation s.agrees s.satisfies (facts ++ more) c.literals literals
          (with_told v (facts ++ more) (all_both Known facts more known_facts known_more)
          (all_both (IsTold v) facts more s.satisfies sat_more)))

      -- and the other way
      is_made : (u : World) → IsWorldOf t p u → CaseHolds t c u
          → (path_of_world t p u ≡ path) × Commutes t p u
      is_made u world holds_ =
          let both = and_parts (list_all holding.has_value (cells_on t u c.cells)) _ holds_ in
          let w = further.some in
          let back = backward t p typed (sees t p) places w.0 (right.keyed w.0 w.1 (facts_hold w.0 w.2)) u world
          (ap (list_all holding.has_value) (sym (ap (cells_on t u) cells)) ∙ both.0) in
          let v = back.valuation in
          let so : IsTrue (list_all (literal_holds (roots_under t p places v)) c.literals) =
          ap (λ r. list_all (literal_holds r) c.literals) (sym (on_is u ∙ back.roots)) ∙ both.1 in
          let all = all_said name (literal_holds (roots_under t p places v)) (IsTold v)
          (λ f. AreEnds f.question × ((w : Valuation) × IsValuation (pieces_of t p places) w × IsTold w f)) (facts ++ more)
          c.literals literals (λ f l at some h. holds_says t p places v back.is_valuation f l at some.0 some.1 h)
          with_ends so in
          let parts = all_parts (IsTold v) facts more all in (
            path_is u v world back.is_valuation back.agrees parts.0,
            (right.commutes u v world back.is_valuation back.agrees parts.0).1
                ((further.says v back.is_valuation parts.0).0 parts.1),
          )

      pub case_holds_so : (u : World) → IsWorldOf t p u → CaseHolds t c u
          ↔ ((path_of_world t p u ≡ path) × Commutes t p u)
      case_holds_so u world = (is_made u world, (λ h. makes_hold u world h.0 h.1))

      pub case_cells : (u : World) → IsWorldOf t p u → path_of_world t p u ≡ path
          → cells_on t u c.cells ≡ map Some (touched_cells t p u)
      case_cells u world has =
          let s = (right.has_path u world).0 has in
          ap (cells_on t u) cells
          ∙ cells_are t p typed (sees t p) places u world s.valuation s.is_valuation s.agrees
          (right.keyed s.valuation s.is_valuation s.satisfies)
          ∙ ap (map Some) (sym (right.touches u s.valuation world s.is_valuation s.agrees s.satisfies))

      pub some_commutes : CommutesOn t p path
      some_commutes =
          let w = further.some in
          let sat = facts_hold w.0 w.2 in
          let sat_more = (all_parts (IsTold w.0) facts more w.2).1 in
          let u = right.valued w.0 w.1 sat in
          record {
            world = u.0;
            is_world = u.1.is_world;
            has_path = path_is u.0 w.0 u.1.is_world w.1 u.1.agrees sat;
            commutes = (right.commutes u.0 w.0 u.1.is_world w.1 u.1.agrees sat).1
                ((further.says w.0 w.1 sat).0 sat_more);
          }

      -- no literal follows from those before it
      pub case_free : (before : List Literal) (l : Literal) (after : List Literal) → c.literals ≡ before ++ l ∷ after
          → IsFree t p c before l
      case_free before l after split =
          let f = fact_of_literal name (facts ++ more) before l after
          (ap (map Some) (sym split) ∙ literals) in
          by f (where_stands facts more f.earlier f.fact f.later f.whole)
        where
          first_of : (f : FactOf name (facts ++ more) before l) → (rest : List Fact)
              → facts ≡ f.earlier ++ f.fact ∷ rest → IsFree t p c before l
          first_of f rest at =
              let o = stands_at f.earlier f.fact rest at in
              let was = o.itself.was_open in
              let u = was.world in
              let s = was.satisfies in
              let starts = (was.node.begins u was.is_world).1 s in
              let possible_ = all_one (λ f. (w : Valuation) × IsValuation (pieces_of t p places) w × IsTold w f) f.earlier
              f.fact f.later (subst (AllByRecursion (λ f. (w : Valuation) × IsValuation (pieces_of t p places) w × IsTold w f))
              f.whole possible) in
              record {
                world = u;
                is_world = was.is_world;
                before_hold = ap (λ r. list_all (literal_holds r) before) (on_is u)
                    ∙ all_hold name (literal_holds (on u))
                    (λ g. (b : List Fact) × (a : List Fact) × (f.earlier ≡ b ++ g ∷ a)) f.earlier before f.named_before
                    (λ g m named k.
                    let e = o.earlier k.0 g k.1 k.2 in
                    told_on e.ahead k.0 g e.was_open u was.is_world (
                      e.rest ++ starts.0,
                      starts.1 ∙ ap (λ xs. xs ++ starts.0) e.whole
                          ∙ append_assoc e.ahead (g.outcome ∷ e.rest) starts.0
                          ∙ sym (append_assoc e.ahead (g.outcome ∷ []) (e.rest ++ starts.0)),
                    ) m named)
                    (all_each (λ g. (b : List Fact) × (a : List Fact) × (f.earlier ≡ b ++ g ∷ a)) f.earlier
                    (λ b g a e. (b, a, e)));
                is_not_so = λ so. not_on o.itself.ahead f.earlier f.fact was possible_ l f.named
                    (ap (λ r. literal_holds r l) (sym (on_is u)) ∙ so);
              }

          last_of : (f : FactOf name (facts ++ more) before l) → (front : List Fact) → f.earlier ≡ facts ++ front
              → more ≡ front ++ f.fact ∷ f.later → IsFree t p c before l
          last_of f front at behind =
              let o = further.were_open front f.fact f.later behind in
              let v = o.0 in
              let sat = facts_hold_ v front o.2 in
              let u = right.valued v o.1 sat in
              let known : AllByRecursion Known (facts ++ front) = all_both Known facts front known_facts
              (all_parts Known front (f.fact ∷ f.later) (subst (AllByRecursion Known) behind known_more)).0 in
              let equal = all_one (λ f. (i : ℕ) × (e : Equal) × (slice_get es i ≡ Some e) × (f.question ≡ question_of e)) front
              f.fact f.later
              (subst (AllByRecursion (λ f. (i : ℕ) × (e : Equal) × (slice_get es i ≡ Some e) × (f.question ≡ question_of e)))
              behind further.among) in
              let possible_ = all_one (λ f. (w : Valuation) × IsValuation (pieces_of t p places) w × IsTold w f) f.earlier
              f.fact f.later (subst (AllByRecursion (λ f. (w : Valuation) × IsValuation (pieces_of t p places) w × IsTold w f))
              f.whole possible) in
              record {
                world = u.0;
                is_world = u.1.is_world;
                before_hold = ap (λ r. list_all (literal_holds r) before) (on_is u.0)
                    ∙ all_on u.0 v u.1.is_world o.1 u.1.agrees sat f.earlier before f.named_before
                    (subst (AllByRecursion (λ f. Known f × IsTold v f)) (sym at) (with_told v (facts ++ front) known o.2));
                is_not_so = λ so. o.3 (equal_told u.0 v u.1.is_world o.1 u.1.agrees sat f.fact equal l f.named possible_
                    (ap (λ r. literal_holds r l) (sym (on_is u.0)) ∙ so));
              }
            where
              facts_hold_ : (v : Valuation) (front : List Fact) → Satisfies v (facts ++ front) → Satisfies v facts
              facts_hold_ v front sat = (all_parts (IsTold v) facts front sat).0

          by : (f : FactOf name (facts ++ more) before l) → Stands facts more f.earlier f.fact f.later
              → IsFree t p c before l
          by f (InFirst rest at is) = first_of f rest at
          by f (InLast front at behind) = last_of f front at behind

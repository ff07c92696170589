-- Each node of a pair's tale is a right one.
use Rattle.std.proofs.Common.{◌≡◌, ◌↔◌, ◌+◌, ℕ, Bool, true, false, List, [], ◌∷◌, ◌++◌, map, slice_get}
use Rattle.std.proofs.Common.{Some, IsTrue, refl, sym, ap, ◌∙◌, subst, append_assoc}
use Rattle.std.specs.List.{AllByRecursion}
use Rattle.std.proofs.lemmas.Bool.{and_from}
use Rattle.std.proofs.lemmas.List.{append-nil}
use Rattle.cm_model.specs.Tables.{Tables}
use Rattle.cm_model.specs.WellTyped.{IsWellTyped}
use Rattle.cm_model.specs.declared.ty.Ty.{Ty}
use Rattle.cm_model.specs.declared.body.Call.{Call}
use Rattle.cm_model.specs.declared.pair.Pair.{Pair}
use Rattle.cm_value.specs.declared.value.Value.{Value}
use Rattle.cm_value.specs.Membership.{is_value_of, are_values_of}
use Rattle.cm_term.specs.declared.question.Question.{Question}
use Rattle.cm_term.specs.declared.question.Fact.{Fact}
use Rattle.cm_term.specs.declared.term.Term.{Term}
use Rattle.cm_term.specs.Valuation.{Valuation}
use Rattle.cm_term.specs.Terms.{value_of}
use Rattle.cm_term.specs.Questions.{outcome_under}
use Rattle.cm_eval.specs.State.{store}
use Rattle.cm_cells.specs.CellTable.{Place}
use Rattle.cm_cells.specs.Alike.{cell_under}
use Rattle.cm_ctx.specs.declared.piece.Piece.{Piece}
use Rattle.cm_ctx.specs.Making.{counted}
use Rattle.cm_ctx.specs.Contexts.{payloads_of}
use Rattle.cm_exec.specs.Run.{piece_at}
use Rattle.cm_world.specs.declared.world.World.{World}
use Rattle.cm_world.specs.World.{IsWorldOf, are_arguments_in}
use Rattle.cm_world.specs.Path.{path_of_world}
use Rattle.cm_story.specs.Story.{story_of}
use Rattle.cm_eval.specs.declared.log.CellName.{CellName}
use Rattle.cm_ctx.specs.declared.piece.Counts.{Counts}
use Rattle.cm_world.specs.Order.{touched_cells}
use Rattle.cm_story.specs.Following.{Look, looks, cells_in}
use Rattle.cm_beside.specs.Related.{IsGround}
use Rattle.cm_story.specs.Touches.{Apart}
use Rattle.cm_story.proofs.Worlds.{path_told, cells_told, commutes_told}
use Rattle.cm_story.proofs.Distinct.{cells_apart}
use Rattle.cm_relation.specs.Relation.{AreAll}
use Rattle.cm_beside.specs.declared.verdict.Verdict.{Verdict}
use Rattle.cm_beside.specs.declared.verdict.Verdict.TheVariants as verdict
use Rattle.cm_beside.specs.Grounds.{Grounds}
use Rattle.cm_beside.specs.Fits.{Fits}
use Rattle.cm_beside.specs.Places.{ArePlaces}
use Rattle.cm_beside.specs.Beside.{PairTale, pair_tale, Beside, Judges}
use Rattle.cm_beside.specs.Nodes.{args_a, args_b, counts_b, pieces_of, Next, Asking, Ended, node, node_at}
use Rattle.cm_beside.specs.Nodes.{IsNode, IsValuation, Satisfies, CellsAgree, Agrees, WorldSatisfies}
use Rattle.cm_beside.specs.Leaf.{StartsWith, IsValuationOf, IsSo, AreNeeded, AreKeyed, IsRightLeaf, IsRightNode}
use Rattle.cm_beside.proofs.Fitting.{member}
use Rattle.cm_beside.proofs.Declaring.{IsDeclared, places_declared, pair_needs}
use Rattle.cm_beside.proofs.Branch.{TermsFit, Comes, on_branch, places_fit, place_fits, touches_next}
use Rattle.cm_beside.proofs.Worlds.{here, here_all, grounded, grounded_all, fit_a, fit_b, fit_all, terms_fit, stands}
use Rattle.cm_beside.proofs.Worlds.{from_world, all_front}
use Rattle.cm_beside.proofs.Making.{exceptions, cells_of, agree_made, defaults, state_made, apart_front}

-- where a node's places begin with some
module _ (t : Tables) (typed : IsWellTyped t) (p : Pair) (a b : Call) (at_a : slice_get t.calls p.a ≡ Some a)
    (at_b : slice_get t.calls p.b ≡ Some b) (answers : List ℕ) (facts : List Fact) (places rest : List Place) (next : Next)
    (at_node : node_at t p (payloads_of (pieces_of t p places)) answers ≡ node facts (places ++ rest) next) where
  abbrev pieces : List Piece
  pieces = pieces_of t p places

  abbrev tale : PairTale
  tale = pair_tale t p (args_a t p) (args_b t p) (payloads_of (pieces_of t p places))

  declared : AllByRecursion (IsDeclared t) places
  declared =
      all_front (IsDeclared t) places rest
      (subst (AllByRecursion (IsDeclared t)) (ap (λ n. n.places) at_node)
      (places_declared t tale (pair_needs t p (args_a t p) (args_b t p) (payloads_of pieces)) (counts_b t p) 0 answers))

  module _ (v : Valuation) (is : IsValuation pieces v) (sat : Satisfies v facts) where
    abbrev g : Grounds
    g = here_all t typed p a b at_a at_b places declared v is

    abbrev ground : IsGround g
    ground = grounded_all t typed p a b at_a at_b places declared v is

    sat_there : Satisfies v (node_at t p (payloads_of pieces) answers).facts
    sat_there = subst (Satisfies v) (sym (ap (λ n. n.facts) at_node)) sat

    fit : TermsFit t g ground (counts_b t p) 0 places
    fit = fit_all t typed p a b at_a at_b places declared v is

    fit_front : (c : Counts) (n : ℕ) (done more : List Place) → TermsFit t g ground c n (done ++ more)
        → TermsFit t g ground c n done
    fit_front c n [] more h = tt
    fit_front c n (q ∷ done) more h =
        (h.0, fit_front (counted c (piece_at t c n q).variables) (n + 1) done more h.1)

    -- the cells are different ones
    are_places : ArePlaces t g (map (cell_under v) places) places
    are_places =
        places_fit t g ground tale _ (stands t typed p a b at_a at_b places declared v is places [] (sym (append-nil places))) (counts_b t p) 0 answers
        sat_there places rest (ap (λ n. n.places) at_node) fit

    -- each place's key fits by the symbols of the arguments and of the cells before it
    pub keyed : AreKeyed t p v places
    keyed first q more whole =
        let g_first = here t typed p a b at_a at_b places declared v is first (q ∷ more) whole in
        place_fits t g_first (grounded t typed p a b at_a at_b places declared v is first (q ∷ more) whole) tale _
        (stands t typed p a b at_a at_b places declared v is first (q ∷ more) whole) (counts_b t p) 0 answers sat_there
        first q (more ++ rest)
        (ap (λ n. n.places) at_node ∙ ap (λ qs. qs ++ rest) whole ∙ append_assoc first (q ∷ more) rest)
        (terms_fit t typed p a b at_a at_b places declared v is first (q ∷ more) whole)

    -- and where those before one agree, that one is touched behind them
    touched_then : (o : Look) (done : List Place) (q : Place) (more : List Place) → places ++ rest ≡ done ++ q ∷ more
        → TermsFit t g ground (counts_b t p) 0 done → CellsAgree t v o (counts_b t p) 0 done
        → (later : List CellName) × (cells_in o (story_of t p (map (value_of v) (args_a t p)) (map (value_of v) (args_b t p)))
        ≡ map (cell_under v) done ++ cell_under v q ∷ later)
    touched_then o done q more whole fits agree =
        touches_next t g ground tale _ (stands t typed p a b at_a at_b places declared v is places [] (sym (append-nil places))) o (counts_b t p) 0 answers
        sat_there done q more (ap (λ n. n.places) at_node ∙ whole) fits agree

    further : (done more : List Place) → places ≡ done ++ more → Apart (map (cell_under v) done)
        → Apart (map (cell_under v) (done ++ more))
    further done [] whole apart = subst (λ qs. Apart (map (cell_under v) qs)) (sym (append-nil done)) apart
    further done (q ∷ more) whole apart =
        let o = looks (store [] (exceptions t v (counts_b t p) 0 done)) in
        let next_ = touched_then o done q (more ++ rest)
        (ap (λ qs. qs ++ rest) whole ∙ append_assoc done (q ∷ more) rest)
        (fit_front (counts_b t p) 0 done (q ∷ more) (subst (TermsFit t g ground (counts_b t p) 0) whole fit))
        (agree_made t v [] [] (counts_b t p) 0 done (subst Apart (sym (cells_of t v (counts_b t p) 0 done)) apart)) in
        let all = subst Apart next_.1 (cells_apart t p (map (value_of v) (args_a t p)) (map (value_of v) (args_b t p)) o) in
        let one = apart_front (map (cell_under v) done ++ cell_under v q ∷ []) next_.0
        (subst Apart (sym (append_assoc (map (cell_under v) done) (cell_under v q ∷ []) next_.0)) all) in
        subst (λ qs. Apart (map (cell_under v) qs)) (append_assoc done (q ∷ []) more)
        (further (done ++ q ∷ []) more (whole ∙ sym (append_assoc done (q ∷ []) more))
        (subst Apart (sym (mapped done q)) one))
      where
        mapped : (qs : List Place) (q : Place)
            → map (cell_under v) (qs ++ q ∷ []) ≡ map (cell_under v) qs ++ cell_under v q ∷ []
        mapped [] q = refl
        mapped (r ∷ qs) q = ap (λ cs. cell_under v r ∷ cs) (mapped qs q)

    all_apart : Apart (map (cell_under v) places)
    all_apart = further [] places refl tt

    values_are : (us : List Ty) (vs : List Value) (xs : List Term) → AreAll (Fits t g) us vs xs
        → are_values_of t us vs ≡ true
    values_are [] [] [] h = refl
    values_are (u ∷ us) (w ∷ vs) (x ∷ xs) h =
        and_from (is_value_of t u w) (are_values_of t us vs) (member t g w u g.options x h.0) (values_are us vs xs h.1)
    values_are [] [] (x ∷ xs) h = absurd h
    values_are [] (w ∷ vs) xs h = absurd h
    values_are (u ∷ us) [] xs h = absurd h
    values_are (u ∷ us) (w ∷ vs) [] h = absurd h

    -- the world with these exceptions
    abbrev made : World
    made = record {
      init = store (defaults t typed g ground) (exceptions t v (counts_b t p) 0 places);
      a = record { vals = map (value_of v) (args_a t p) };
      b = record { vals = map (value_of v) (args_b t p) };
    }

    pub valued : (u : World) × IsValuationOf t p v places u
    valued = (
      made,
      record {
        is_world = record {
          init = state_made t typed g ground (counts_b t p) 0 places are_places fit all_apart;
          a = ap (λ c. are_arguments_in t c (map (value_of v) (args_a t p))) at_a
              ∙ values_are (map (λ q. q.ty) a.params) _ (args_a t p) (fit_a t typed p a b at_a at_b places declared v is places [] (sym (append-nil places)));
          b = ap (λ c. are_arguments_in t c (map (value_of v) (args_b t p))) at_b
              ∙ values_are (map (λ q. q.ty) b.params) _ (args_b t p) (fit_b t typed p a b at_a at_b places declared v is places [] (sym (append-nil places)));
        };
        agrees = record {
          a = refl;
          b = refl;
          cells = agree_made t v (defaults t typed g ground) [] (counts_b t p) 0 places
              (subst Apart (sym (cells_of t v (counts_b t p) 0 places)) all_apart);
        };
        exceptions = cells_of t v (counts_b t p) 0 places;
      },
    )

    -- where a further cell is touched
    pub touches_more : (q : Place) (more : List Place) → rest ≡ q ∷ more
        → (u : World) × IsWorldOf t p u × (later : List CellName)
        × (touched_cells t p u ≡ map (cell_under v) places ++ cell_under v q ∷ later)
    unfolding valued
    touches_more q more is_more =
        let u = valued in
        let t_ = touched_then (looks made.init) places q more (ap (λ qs. places ++ qs) is_more) fit u.1.agrees.cells in
        (u.0, u.1.is_world, t_.0, cells_told t typed p u.0 u.1.is_world ∙ t_.1)

module _ (t : Tables) (typed : IsWellTyped t) (p : Pair) (a b : Call) (at_a : slice_get t.calls p.a ≡ Some a)
    (at_b : slice_get t.calls p.b ≡ Some b) (answers : List ℕ) (facts : List Fact) (places : List Place) (next : Next)
    (is_node : IsNode t p answers facts places next) where
  abbrev pieces_ : List Piece
  pieces_ = pieces_of t p places

  abbrev tale_ : PairTale
  tale_ = pair_tale t p (args_a t p) (args_b t p) (payloads_of (pieces_of t p places))

  here_is : node_at t p (payloads_of pieces_) answers ≡ node facts places next
  here_is = is_node (payloads_of pieces_) ([], sym (append-nil (payloads_of pieces_)))

  at_node_ : node_at t p (payloads_of pieces_) answers ≡ node facts (places ++ []) next
  at_node_ = here_is ∙ ap (λ qs. node facts qs next) (sym (append-nil places))

  declared_ : AllByRecursion (IsDeclared t) places
  declared_ = declared t typed p a b at_a at_b answers facts places [] next at_node_

  module _ (v : Valuation) (is : IsValuation pieces_ v) (sat : Satisfies v facts) where
    abbrev g_ : Grounds
    g_ = here_all t typed p a b at_a at_b places declared_ v is

    abbrev ground_ : IsGround g_
    ground_ = grounded_all t typed p a b at_a at_b places declared_ v is

    sat_here : Satisfies v (node_at t p (payloads_of pieces_) answers).facts
    sat_here = subst (Satisfies v) (sym (ap (λ n. n.facts) here_is)) sat

    -- a world that agrees goes by the answers
    told : (u : World) → Agrees t p v u places
        → Comes t g_ ground_ (looks u.init) (story_of t p u.a.vals u.b.vals) answers places next
    told u agrees =
        let s = story_of t p u.a.vals u.b.vals in
        let same : story_of t p (map (value_of v) (args_a t p)) (map (value_of v) (args_b t p)) ≡ s =
        ap (λ vs. story_of t p vs (map (value_of v) (args_b t p))) (sym agrees.a)
        ∙ ap (story_of t p u.a.vals) (sym agrees.b) in
        subst (λ n. Comes t g_ ground_ (looks u.init) s answers places n) (ap (λ n. n.next) here_is)
        (subst (λ qs. Comes t g_ ground_ (looks u.init) s answers qs (node_at t p (payloads_of pieces_) answers).next)
        (ap (λ n. n.places) here_is)
        (on_branch t g_ ground_ tale_ s
        (subst (Beside t g_ tale_) same (stands t typed p a b at_a at_b places declared_ v is places [] (sym (append-nil places)))) (looks u.init)
        (counts_b t p) 0 answers sat_here
        (subst (CellsAgree t v (looks u.init) (counts_b t p) 0) (sym (ap (λ n. n.places) here_is)) agrees.cells)
        (subst (TermsFit t g_ ground_ (counts_b t p) 0) (sym (ap (λ n. n.places) here_is))
        (fit_all t typed p a b at_a at_b places declared_ v is))))

  made_world : (v : Valuation) → IsValuation pieces_ v → Satisfies v facts → (u : World) × IsValuationOf t p v places u
  made_world = valued t typed p a b at_a at_b answers facts places [] next at_node_

  keyed_here : (v : Valuation) → IsValuation pieces_ v → Satisfies v facts → AreKeyed t p v places
  keyed_here = keyed t typed p a b at_a at_b answers facts places [] next at_node_

  from : (u : World) → IsWorldOf t p u → (rest : List ℕ) → path_of_world t p u ≡ answers ++ rest
      → WorldSatisfies t p u facts places
  from u world rest begins =
      from_world t typed p a b at_a at_b places declared_ answers facts next is_node u world rest begins

  -- a leaf
  module _ (w : Verdict) (ends : next ≡ Ended w) where
    ended : (v : Valuation) (is : IsValuation pieces_ v) (sat : Satisfies v facts) (u : World) → Agrees t p v u places
        → Comes t (g_ v is sat) (ground_ v is sat) (looks u.init)
        (story_of t p u.a.vals u.b.vals) answers places (Ended w)
    ended v is sat u agrees =
        subst (Comes t (g_ v is sat) (ground_ v is sat) (looks u.init)
        (story_of t p u.a.vals u.b.vals) answers places) ends (told v is sat u agrees)

    judged : (v : Valuation) (is : IsValuation pieces_ v) (sat : Satisfies v facts) (z : Verdict) (c : Bool)
        → Judges t (g_ v is sat) z c → IsTrue c ↔ IsSo v z
    judged v is sat verdict.Never c h = ((λ so. let f : false ≡ true = sym h ∙ so in cc), (λ no_. absurd no_))
    judged v is sat (verdict.If es) c h = h.0

    needed_of : (v : Valuation) (is : IsValuation pieces_ v) (sat : Satisfies v facts) (z : Verdict) (c : Bool)
        → Judges t (g_ v is sat) z c → AreNeeded t (g_ v is sat) z
    needed_of v is sat verdict.Never c h = tt
    needed_of v is sat (verdict.If es) c h = h.1

    pub right_leaf : IsRightLeaf t p answers facts places w
    right_leaf = record {
      has_path = λ u world. (
        (λ has. from u world [] (has ∙ sym (append-nil answers))),
        (λ s. path_told t typed p u world ∙ (ended s.valuation s.is_valuation s.satisfies u s.agrees).0),
      );
      ends = λ u world starts.
          let s = from u world starts.0 starts.1 in
          path_told t typed p u world ∙ (ended s.valuation s.is_valuation s.satisfies u s.agrees).0;
      touches = λ u v world is agrees sat. cells_told t typed p u world ∙ (ended v is sat u agrees).1;
      commutes = λ u v world is agrees sat.
          let so = judged v is sat w _ (ended v is sat u agrees).2 in
          let commuting = commutes_told t typed p u world in
          ((λ c. so.0 (commuting.0 c)), (λ s. commuting.1 (so.1 s)));
      valued = made_world;
      needed = λ v is sat.
          let u = made_world v is sat in needed_of v is sat w _ (ended v is sat u.0 u.1.agrees).2;
      keyed = keyed_here;
    }

  -- an open question
  module _ (q : Question) (asks : next ≡ Asking q) where
    asked : (v : Valuation) (is : IsValuation pieces_ v) (sat : Satisfies v facts) (u : World) → Agrees t p v u places
        → Comes t (g_ v is sat) (ground_ v is sat) (looks u.init)
        (story_of t p u.a.vals u.b.vals) answers places (Asking q)
    asked v is sat u agrees =
        subst (Comes t (g_ v is sat) (ground_ v is sat) (looks u.init)
        (story_of t p u.a.vals u.b.vals) answers places) asks (told v is sat u agrees)

    goes : (u : World) → IsWorldOf t p u → (v : Valuation) → IsValuation pieces_ v → Agrees t p v u places
        → Satisfies v facts → StartsWith (path_of_world t p u) (answers ++ outcome_under v q ∷ [])
    goes u world v is agrees sat =
        let h = asked v is sat u agrees in
        (h.0.0, path_told t typed p u world ∙ h.0.1 ∙ sym (append_assoc answers (outcome_under v q ∷ []) h.0.0))

    outcome_is : (x y : ℕ) (xs ys zs : List ℕ) → zs ++ x ∷ xs ≡ zs ++ y ∷ ys → x ≡ y
    outcome_is x y xs ys [] h = cc
    outcome_is x y xs ys (z ∷ zs) h = outcome_is x y xs ys zs (let e : zs ++ x ∷ xs ≡ zs ++ y ∷ ys = cc in e)

    pub right_node : IsRightNode t p answers facts places q
    right_node = record {
      begins = λ u world. (
        (λ starts. from u world starts.0 starts.1),
        (λ s. let h = asked s.valuation s.is_valuation s.satisfies u s.agrees in
            (outcome_under s.valuation q ∷ h.0.0, path_told t typed p u world ∙ h.0.1)),
      );
      goes_on = λ u v world is agrees sat. goes u world v is agrees sat;
      touches = λ u v world is agrees sat.
          let h = asked v is sat u agrees in (h.1.0, cells_told t typed p u world ∙ h.1.1);
      valued = made_world;
      asked = λ v is sat. let u = made_world v is sat in (asked v is sat u.0 u.1.agrees).2;
      keyed = keyed_here;
      covers = λ d. (
        (λ begins.
            let u = begins.path.world in
            let starts : path_of_world t p u ≡ answers ++ d ∷ begins.rest =
            begins.path.has ∙ append_assoc answers (d ∷ []) begins.rest in
            let s = from u begins.path.is_world (d ∷ begins.rest) starts in
            let h = goes u begins.path.is_world s.valuation s.is_valuation s.agrees s.satisfies in (
              s.valuation,
              s.is_valuation,
              s.satisfies,
              outcome_is (outcome_under s.valuation q) d h.0 begins.rest answers
                  (sym (append_assoc answers (outcome_under s.valuation q ∷ []) h.0) ∙ sym h.1 ∙ starts),
            )),
        (λ some.
            let u = made_world some.0 some.1 some.2 in
            let h = goes u.0 u.1.is_world some.0 some.1 u.1.agrees some.2 in
            record {
              rest = h.0;
              path = record {
                world = u.0;
                is_world = u.1.is_world;
                has = h.1 ∙ ap (λ e. (answers ++ e ∷ []) ++ h.0) some.3;
              };
            }),
      );
    }

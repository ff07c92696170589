-- Along the answers of a node: what a story does that stands beside the tale.
use Rattle.std.proofs.Common.{◌+◌, ◌≡◌, ℕ, List, [], ◌∷◌, ◌++◌, map, slice_get, Option, Some, None}
use Rattle.std.proofs.Common.{IsTrue, refl, sym, ap, ◌∙◌, subst}
use Rattle.std.specs.Option.{option_map}
use Rattle.cm_model.specs.Tables.{Tables}
use Rattle.cm_model.specs.declared.ty.Ty.{Ty}
use Rattle.cm_model.specs.declared.body.StateDecl.{StateDecl}
use Rattle.cm_value.specs.declared.value.Value.{Value}
use Rattle.cm_term.specs.declared.term.Term.{Term}
use Rattle.cm_term.specs.Valuation.{Valuation}
use Rattle.cm_term.specs.Terms.{value_of}
use Rattle.cm_term.specs.Questions.{outcome_under}
use Rattle.cm_eval.specs.declared.log.CellName.{CellName}
use Rattle.cm_eval.specs.Evaluation.{named}
use Rattle.cm_cells.specs.CellTable.{Place}
use Rattle.cm_cells.specs.Alike.{cell_under}
use Rattle.cm_ctx.specs.declared.piece.Counts.{Counts}
use Rattle.cm_ctx.specs.declared.piece.Piece.{Piece}
use Rattle.cm_ctx.specs.Making.{counted}
use Rattle.cm_story.specs.Tale.{Asks, Needs, Ends}
use Rattle.cm_exec.specs.Run.{piece_at, value_type}
use Rattle.cm_story.specs.Story.{Story}
use Rattle.cm_story.specs.Following.{Look, path_in, cells_in, end_in}
use Rattle.cm_relation.specs.Relation.{AreKeys}
use Rattle.cm_beside.specs.Grounds.{Grounds}
use Rattle.cm_beside.specs.Fits.{Fits}
use Rattle.cm_beside.specs.Related.{IsGround, is_question}
use Rattle.cm_beside.specs.Places.{IsPlace, ArePlaces}
use Rattle.cm_beside.specs.Beside.{PairTale, Beside, Judges}
use Rattle.cm_beside.specs.Nodes.{Next, Asking, Ended, Past, after, Satisfies, CellsAgree}
use Rattle.cm_beside.proofs.Fitting.{has_worth}

pub some_same : {X : Type 0} (x y : X) → Some x ≡ Some y → x ≡ y
some_same x y h = cc

module _ (t : Tables) (g : Grounds) (ground : IsGround g) where
  abbrev v : Valuation
  v = g.valuation

  abbrev type_at : Place → Ty
  type_at p = value_type (slice_get t.states p.state)

  abbrev made : Counts → ℕ → Place → Piece
  made = piece_at t

  abbrev next_counts : Counts → ℕ → Place → Counts
  next_counts c n p = counted c (made c n p).variables

  -- the terms of the cells fit their values
  abbrev pub TermsFit : Counts → ℕ → List Place → Type 0
  TermsFit c n [] = Unit {0}
  TermsFit c n (p ∷ ps) =
      Fits t g (type_at p) (value_of v (made c n p).term) (made c n p).term × TermsFit (next_counts c n p) (n + 1) ps

  -- a key that fits is the key's value
  key_is : (u : Option Ty) (key : Option Value) (x : Option Term) → AreKeys (Fits t g) u key x
      → key ≡ option_map (value_of v) x
  key_is None None None h = refl
  key_is (Some u) (Some k) (Some x) h = ap Some (has_worth t g ground.holds k u g.options x h)
  key_is None None (Some x) h = absurd h
  key_is None (Some k) x h = absurd h
  key_is (Some u) None x h = absurd h
  key_is (Some u) (Some k) None h = absurd h

  pub cell_is : (p : Place) (d : StateDecl) (key : Option Value) → AreKeys (Fits t g) d.key key p.key
      → named p.state key ≡ cell_under v p
  cell_is p d key h = ap (named p.state) (key_is d.key key p.key h)

  type_is : (p : Place) (d : StateDecl) → slice_get t.states p.state ≡ Some d → type_at p ≡ d.value
  type_is p d at = ap value_type at

  -- what a story comes to after the answers
  abbrev pub Comes : Look → Story → List ℕ → List Place → Next → Type 0
  Comes o s answers places (Asking q) =
      ((rest : List ℕ) × (path_in o s ≡ answers ++ outcome_under v q ∷ rest))
      × ((more : List CellName) × (cells_in o s ≡ map (cell_under v) places ++ more))
      × IsTrue (is_question t g q)
  Comes o s answers places (Ended w) =
      (path_in o s ≡ answers) × (cells_in o s ≡ map (cell_under v) places) × Judges t g w (end_in o s)
  Comes o s answers places Past = Unit {0}

  more_told : (o : Look) (s : Story) (l : ℕ → Story) (d : ℕ) (ds : List ℕ) (ps : List Place) (n : Next) → s ≡ Asks d l
      → Comes o (l d) ds ps n → Comes o s (d ∷ ds) ps n
  more_told o s l d ds ps (Asking q) e h = (
    (h.0.0, ap (path_in o) e ∙ ap (λ xs. d ∷ xs) h.0.1),
    (h.1.0, ap (cells_in o) e ∙ h.1.1),
    h.2,
  )
  more_told o s l d ds ps (Ended w) e h = (
    ap (path_in o) e ∙ ap (λ xs. d ∷ xs) h.0,
    ap (cells_in o) e ∙ h.1,
    subst (Judges t g w) (sym (ap (end_in o) e)) h.2,
  )
  more_told o s l d ds ps Past e h = tt

  more_cells : (o : Look) (s : Story) (c : CellName) (l : Value → Story) (ds : List ℕ) (p : Place) (ps : List Place)
      (n : Next) → s ≡ Needs c l → c ≡ cell_under v p → Comes o (l (o c)) ds ps n → Comes o s ds (p ∷ ps) n
  more_cells o s c l ds p ps (Asking q) e f h = (
    (h.0.0, ap (path_in o) e ∙ h.0.1),
    (h.1.0, ap (cells_in o) e ∙ ap (λ d. d ∷ cells_in o (l (o c))) f ∙ ap (λ cs. cell_under v p ∷ cs) h.1.1),
    h.2,
  )
  more_cells o s c l ds p ps (Ended w) e f h = (
    ap (path_in o) e ∙ h.0,
    ap (cells_in o) e ∙ ap (λ d. d ∷ cells_in o (l (o c))) f ∙ ap (λ cs. cell_under v p ∷ cs) h.1,
    subst (Judges t g w) (sym (ap (end_in o) e)) h.2,
  )
  more_cells o s c l ds p ps Past e f h = tt

  -- where the facts are so and the cells agree, the story goes by the answers
  pub on_branch : (tale : PairTale) (s : Story) → Beside t g tale s → (o : Look) (c : Counts) (n : ℕ) (answers : List ℕ)
      → Satisfies v (after t tale c n answers).facts → CellsAgree t v o c n (after t tale c n answers).places
      → TermsFit c n (after t tale c n answers).places
      → Comes o s answers (after t tale c n answers).places (after t tale c n answers).next
  on_branch (Asks a k) s b o c n [] sat agree fit = (
    (path_in o (b.0 (outcome_under v a.question)), ap (path_in o) b.1),
    (cells_in o s, refl),
    b.2,
  )
  on_branch (Asks a k) s b o c n (d ∷ ds) sat agree fit =
      more_told o s b.0 d ds (after t (k d) c n ds).places (after t (k d) c n ds).next
      (b.1 ∙ ap (λ e. Asks e b.0) sat.0)
      (on_branch (k d) (b.0 d)
      (subst (λ e. Beside t g (k e) (b.0 e)) sat.0 b.3) o c n ds sat.1 agree fit)
  on_branch (Needs p k) s b o c n ds sat agree fit =
      let x = (made c n p).term in
      let here : named p.state b.2 ≡ cell_under v p = cell_is p b.0 b.2 b.3 in
      let held : o (named p.state b.2) ≡ value_of v x = ap o here ∙ agree.0 in
      more_cells o s (named p.state b.2) b.4 ds p (after t (k x) (next_counts c n p) (n + 1) ds).places
      (after t (k x) (next_counts c n p) (n + 1) ds).next b.5 here
      (subst (λ y. Comes o (b.4 y) ds (after t (k x) (next_counts c n p) (n + 1) ds).places
      (after t (k x) (next_counts c n p) (n + 1) ds).next) (sym held)
      (on_branch (k x) (b.4 (value_of v x))
      (b.6 (value_of v x) x (subst (λ u. Fits t g u (value_of v x) x) (type_is p b.0 b.1) fit.0)) o (next_counts c n p)
      (n + 1) ds sat agree.1 fit.1))
  on_branch (Ends w) s b o c n [] sat agree fit = (
    ap (path_in o) b.1,
    ap (cells_in o) b.1,
    subst (Judges t g w) (sym (ap (end_in o) b.1)) b.2,
  )
  on_branch (Ends w) s b o c n (d ∷ ds) sat agree fit = tt

  -- the keys of the first places fit where the terms of their cells do, so that the cells are cells of the model
  pub places_fit : (tale : PairTale) (s : Story) → Beside t g tale s → (c : Counts) (n : ℕ) (answers : List ℕ)
      → Satisfies v (after t tale c n answers).facts → (done rest : List Place)
      → (after t tale c n answers).places ≡ done ++ rest → TermsFit c n done
      → ArePlaces t g (map (cell_under v) done) done
  places_fit (Asks a k) s b c n [] sat [] rest is fit = tt
  places_fit (Asks a k) s b c n [] sat (r ∷ done) rest is fit = absurd (cc)
  places_fit (Asks a k) s b c n (d ∷ ds) sat done rest is fit =
      places_fit (k d) (b.0 d) (subst (λ e. Beside t g (k e) (b.0 e)) sat.0 b.3) c n ds sat.1 done rest is fit
  places_fit (Needs p k) s b c n ds sat [] rest is fit = tt
  places_fit (Needs p k) s b c n ds sat (r ∷ done) rest is fit =
      let x = (made c n p).term in
      let same : r ≡ p = cc in
      let later : (after t (k x) (next_counts c n p) (n + 1) ds).places ≡ done ++ rest = cc in
      let mine = subst (λ z. TermsFit c n (z ∷ done)) same fit in
      subst (λ z. ArePlaces t g (map (cell_under v) (z ∷ done)) (z ∷ done)) (sym same) (
        (refl, b.0, b.1, subst (λ key. AreKeys (Fits t g) b.0.key key p.key) (key_is b.0.key b.2 p.key b.3) b.3),
        places_fit (k x) (b.4 (value_of v x))
            (b.6 (value_of v x) x (subst (λ u. Fits t g u (value_of v x) x) (type_is p b.0 b.1) mine.0))
            (next_counts c n p) (n + 1) ds sat done rest later mine.1,
      )
  places_fit (Ends w) s b c n [] sat [] rest is fit = tt
  places_fit (Ends w) s b c n [] sat (r ∷ done) rest is fit = absurd (cc)
  places_fit (Ends w) s b c n (d ∷ ds) sat [] rest is fit = tt
  places_fit (Ends w) s b c n (d ∷ ds) sat (r ∷ done) rest is fit = absurd (cc)

  -- so does the key of the place behind them
  pub place_fits : (tale : PairTale) (s : Story) → Beside t g tale s → (c : Counts) (n : ℕ) (answers : List ℕ)
      → Satisfies v (after t tale c n answers).facts → (done : List Place) (q : Place) (rest : List Place)
      → (after t tale c n answers).places ≡ done ++ q ∷ rest → TermsFit c n done → IsPlace t g (cell_under v q) q
  place_fits (Asks a k) s b c n [] sat [] q rest is fit = absurd (cc)
  place_fits (Asks a k) s b c n [] sat (r ∷ done) q rest is fit = absurd (cc)
  place_fits (Asks a k) s b c n (d ∷ ds) sat done q rest is fit =
      place_fits (k d) (b.0 d) (subst (λ e. Beside t g (k e) (b.0 e)) sat.0 b.3) c n ds sat.1 done q rest is fit
  place_fits (Needs p k) s b c n ds sat [] q rest is fit =
      let same : p ≡ q = cc in
      subst (λ z. IsPlace t g (cell_under v z) z) same
      (refl, b.0, b.1, subst (λ key. AreKeys (Fits t g) b.0.key key p.key) (key_is b.0.key b.2 p.key b.3) b.3)
  place_fits (Needs p k) s b c n ds sat (r ∷ done) q rest is fit =
      let x = (made c n p).term in
      let same : r ≡ p = cc in
      let later : (after t (k x) (next_counts c n p) (n + 1) ds).places ≡ done ++ q ∷ rest = cc in
      let mine = subst (λ z. TermsFit c n (z ∷ done)) same fit in
      place_fits (k x) (b.4 (value_of v x))
      (b.6 (value_of v x) x (subst (λ u. Fits t g u (value_of v x) x) (type_is p b.0 b.1) mine.0))
      (next_counts c n p) (n + 1) ds sat done q rest later mine.1
  place_fits (Ends w) s b c n [] sat [] q rest is fit = absurd (cc)
  place_fits (Ends w) s b c n [] sat (r ∷ done) q rest is fit = absurd (cc)
  place_fits (Ends w) s b c n (d ∷ ds) sat [] q rest is fit = absurd (cc)
  place_fits (Ends w) s b c n (d ∷ ds) sat (r ∷ done) q rest is fit = absurd (cc)

  -- and the story touches them one after the other, and the one behind them, as long as those before agree
  pub touches_next : (tale : PairTale) (s : Story) → Beside t g tale s → (o : Look) (c : Counts) (n : ℕ)
      (answers : List ℕ) → Satisfies v (after t tale c n answers).facts
      → (done : List Place) (q : Place) (rest : List Place)
      → (after t tale c n answers).places ≡ done ++ q ∷ rest → TermsFit c n done → CellsAgree t v o c n done
      → (more : List CellName) × (cells_in o s ≡ map (cell_under v) done ++ cell_under v q ∷ more)
  touches_next (Asks a k) s b o c n [] sat [] q rest is fit agree = absurd (cc)
  touches_next (Asks a k) s b o c n [] sat (r ∷ done) q rest is fit agree = absurd (cc)
  touches_next (Asks a k) s b o c n (d ∷ ds) sat done q rest is fit agree =
      let more = touches_next (k d) (b.0 d) (subst (λ e. Beside t g (k e) (b.0 e)) sat.0 b.3) o c n ds sat.1 done q
      rest is fit agree in
      (more.0, ap (cells_in o) (b.1 ∙ ap (λ e. Asks e b.0) sat.0) ∙ more.1)
  touches_next (Needs p k) s b o c n ds sat [] q rest is fit agree =
      let same : p ≡ q = cc in (
        cells_in o (b.4 (o (named p.state b.2))),
        ap (cells_in o) b.5
            ∙ ap (λ d. d ∷ cells_in o (b.4 (o (named p.state b.2)))) (cell_is p b.0 b.2 b.3 ∙ ap (cell_under v) same),
      )
  touches_next (Needs p k) s b o c n ds sat (r ∷ done) q rest is fit agree =
      let x = (made c n p).term in
      let same : r ≡ p = cc in
      let later : (after t (k x) (next_counts c n p) (n + 1) ds).places ≡ done ++ q ∷ rest = cc in
      let here : named p.state b.2 ≡ cell_under v p = cell_is p b.0 b.2 b.3 in
      let mine = subst (λ z. CellsAgree t v o c n (z ∷ done)) same agree in
      let fits = subst (λ z. TermsFit c n (z ∷ done)) same fit in
      let held : o (named p.state b.2) ≡ value_of v x = ap o here ∙ mine.0 in
      let more = touches_next (k x) (b.4 (value_of v x))
      (b.6 (value_of v x) x (subst (λ u. Fits t g u (value_of v x) x) (type_is p b.0 b.1) fits.0)) o (next_counts c n p)
      (n + 1) ds sat done q rest later fits.1 mine.1 in (
        more.0,
        ap (cells_in o) b.5 ∙ ap (λ y. named p.state b.2 ∷ cells_in o (b.4 y)) held
            ∙ ap (λ d. d ∷ cells_in o (b.4 (value_of v x))) (here ∙ ap (cell_under v) (sym same))
            ∙ ap (λ cs. cell_under v r ∷ cs) more.1,
      )
  touches_next (Ends w) s b o c n [] sat [] q rest is fit agree = absurd (cc)
  touches_next (Ends w) s b o c n [] sat (r ∷ done) q rest is fit agree = absurd (cc)
  touches_next (Ends w) s b o c n (d ∷ ds) sat [] q rest is fit agree = absurd (cc)
  touches_next (Ends w) s b o c n (d ∷ ds) sat (r ∷ done) q rest is fit agree = absurd (cc)

  -- the cells' terms have what the cells hold that the story touches, as far as these are of their states
  abbrev pub Given : Counts → ℕ → List Place → Look → List CellName → Type 0
  Given c n [] o cs = Unit {0}
  Given c n (p ∷ ps) o [] = Unit {0}
  Given c n (p ∷ ps) o (d ∷ cs) =
      (d.state ≡ p.state → o d ≡ value_of v (made c n p).term) × Given (next_counts c n p) (n + 1) ps o cs

  -- a story that begins with the answers makes the facts so, and the cells agree
  pub goes_along : (tale : PairTale) (s : Story) → Beside t g tale s → (o : Look) (c : Counts) (n : ℕ)
      (answers rest : List ℕ) → path_in o s ≡ answers ++ rest
      → TermsFit c n (after t tale c n answers).places
      → Given c n (after t tale c n answers).places o (cells_in o s)
      → Satisfies v (after t tale c n answers).facts × CellsAgree t v o c n (after t tale c n answers).places
  goes_along (Asks a k) s b o c n [] rest is fit given = (tt, tt)
  goes_along (Asks a k) s b o c n (d ∷ ds) rest is fit given =
      let same : outcome_under v a.question ≡ d = head_same (sym (ap (path_in o) b.1) ∙ is) in
      let begins : path_in o (b.0 d) ≡ ds ++ rest =
      subst (λ e. path_in o (b.0 e) ≡ ds ++ rest) same (tail_same (sym (ap (path_in o) b.1) ∙ is)) in
      let later = goes_along (k d) (b.0 d) (subst (λ e. Beside t g (k e) (b.0 e)) same b.3) o c n ds rest begins fit
      (subst (λ cs. Given c n (after t (k d) c n ds).places o cs)
      (ap (cells_in o) (b.1 ∙ ap (λ e. Asks e b.0) same)) given) in
      ((same, later.0), later.1)
    where
      head_same : {x y : ℕ} {xs ys : List ℕ} → x ∷ xs ≡ y ∷ ys → x ≡ y
      head_same h = cc

      tail_same : {x y : ℕ} {xs ys : List ℕ} → x ∷ xs ≡ y ∷ ys → xs ≡ ys
      tail_same h = cc
  goes_along (Needs p k) s b o c n ds rest is fit given =
      let x = (made c n p).term in
      let cell = named p.state b.2 in
      let here : cell ≡ cell_under v p = cell_is p b.0 b.2 b.3 in
      let mine = subst (λ cs. Given c n (p ∷ (after t (k x) (next_counts c n p) (n + 1) ds).places) o cs)
      (ap (cells_in o) b.5) given in
      let held : o cell ≡ value_of v x = mine.0 refl in
      let later = goes_along (k x) (b.4 (value_of v x))
      (b.6 (value_of v x) x (subst (λ u. Fits t g u (value_of v x) x) (type_is p b.0 b.1) fit.0)) o (next_counts c n p)
      (n + 1) ds rest (subst (λ y. path_in o (b.4 y) ≡ ds ++ rest) held (sym (ap (path_in o) b.5) ∙ is)) fit.1
      (subst (λ y. Given (next_counts c n p) (n + 1) (after t (k x) (next_counts c n p) (n + 1) ds).places o
      (cells_in o (b.4 y))) held mine.1) in
      (later.0, (sym (ap o here) ∙ held, later.1))
  goes_along (Ends w) s b o c n [] rest is fit given = (tt, tt)
  goes_along (Ends w) s b o c n (d ∷ ds) rest is fit given = (tt, tt)

-- A world whose exceptions are the cells of a node.
use Rattle.std.proofs.Common.{◌≡◌, ◌+◌, ℕ, true, false, not, List, [], ◌∷◌, ◌++◌, map}
use Rattle.std.proofs.Common.{slice_get, Option, Some, None, refl, sym, ap, ◌∙◌, subst, append_assoc, if◌then◌else◌}
use Rattle.std.specs.List.{list_all}
use Rattle.std.proofs.lemmas.Bool.{and_from, false_from_ne_true}
use Rattle.cm_model.specs.Tables.{Tables}
use Rattle.cm_model.specs.WellTyped.{IsWellTyped}
use Rattle.cm_model.specs.declared.ty.Ty.{Ty}
use Rattle.cm_model.specs.declared.body.StateDecl.{StateDecl}
use Rattle.cm_value.specs.declared.value.Value.{Value}
use Rattle.cm_value.specs.Least.{least_of}
use Rattle.cm_term.specs.declared.term.Term.{Term}
use Rattle.cm_term.specs.Valuation.{Valuation}
use Rattle.cm_term.specs.Terms.{value_of}
use Rattle.cm_eval.specs.declared.log.CellName.{CellName}
use Rattle.cm_eval.specs.declared.state.Except.{Except}
use Rattle.cm_eval.specs.State.{store, exception_of, same_cell, or_default}
use Rattle.cm_eval.proofs.Same.{same_cell_equal, same_cell_self}
use Rattle.cm_cells.specs.CellTable.{Place}
use Rattle.cm_cells.specs.Alike.{cell_under}
use Rattle.cm_ctx.specs.declared.piece.Counts.{Counts}
use Rattle.cm_ctx.specs.Making.{counted}
use Rattle.cm_world.specs.World.{IsStateOf, is_cell, is_cell_in, fits_key, is_exception, is_value_in, are_apart, is_there}
use Rattle.cm_exec.specs.Run.{piece_at, value_type}
use Rattle.cm_story.specs.Following.{looks, or_filler}
use Rattle.cm_story.specs.Touches.{Misses, Apart}
use Rattle.cm_relation.specs.Relation.{AreKeys}
use Rattle.cm_beside.specs.Grounds.{Grounds}
use Rattle.cm_beside.specs.Fits.{Fits}
use Rattle.cm_beside.specs.Related.{IsGround}
use Rattle.cm_beside.specs.Places.{ArePlaces}
use Rattle.cm_beside.specs.Nodes.{CellsAgree}
use Rattle.cm_beside.proofs.Fitting.{member}
use Rattle.cm_beside.proofs.Branch.{TermsFit}
use Rattle.cm_beside.proofs.Least.{least_defaults}

abbrev pub excepted : CellName → Value → Except
excepted c v = record { cell = c; value = v }

abbrev cells_in_ : List Except → List CellName
cells_in_ = map (λ (e : Except). e.cell)

-- lists of cells that are all different
pub apart_front : (xs ys : List CellName) → Apart (xs ++ ys) → Apart xs
apart_front [] ys h = tt
apart_front (x ∷ xs) ys h = (misses_front x xs ys h.0, apart_front xs ys h.1)
  where
    misses_front : (x : CellName) (xs ys : List CellName) → Misses x (xs ++ ys) → Misses x xs
    misses_front x [] ys h = tt
    misses_front x (y ∷ xs) ys h = (h.0, misses_front x xs ys h.1)

misses_at : (c : CellName) (done : List Except) (e : Except) (es : List Except)
    → Misses c (cells_in_ (done ++ e ∷ es)) → c ≡ e.cell → ⊥
misses_at c [] e es h = h.0
misses_at c (f ∷ done) e es h = misses_at c done e es h.1

different : (c d : CellName) → (c ≡ d → ⊥) → same_cell c d ≡ false
different c d no_ = false_from_ne_true (same_cell c d) (λ h. absurd (no_ (same_cell_equal c d h)))

-- the exception of a cell behind others
pub found : (done : List Except) (e : Except) (es : List Except) → Apart (cells_in_ (done ++ e ∷ es))
    → exception_of (done ++ e ∷ es) e.cell ≡ Some e.value
found [] e es h = ap (λ b. if b then Some e.value else exception_of es e.cell) (same_cell_self e.cell)
found (f ∷ done) e es h =
    ap (λ b. if b then Some f.value else exception_of (done ++ e ∷ es) e.cell)
    (different f.cell e.cell (misses_at f.cell done e es h.0))
    ∙ found done e es h.1

none_there : (c : CellName) (es : List Except) → Misses c (cells_in_ es) → exception_of es c ≡ None
none_there c [] h = refl
none_there c (e ∷ es) h =
    ap (λ b. if b then Some e.value else exception_of es c)
    (different e.cell c (λ same. h.0 (sym same))) ∙ none_there c es h.1

pub all_apart : (es : List Except) → Apart (cells_in_ es) → are_apart es ≡ true
all_apart [] h = refl
all_apart (e ∷ es) h =
    and_from (not (is_there (exception_of es e.cell))) (are_apart es)
    (ap (λ o. not (is_there o)) (none_there e.cell es h.0)) (all_apart es h.1)

module _ (t : Tables) (v : Valuation) where
  -- the cells of places, with the values of their terms
  abbrev pub exceptions : Counts → ℕ → List Place → List Except
  exceptions c n [] = []
  exceptions c n (q ∷ qs) =
      excepted (cell_under v q) (value_of v (piece_at t c n q).term)
      ∷ exceptions (counted c (piece_at t c n q).variables) (n + 1) qs

  pub cells_of : (c : Counts) (n : ℕ) (qs : List Place) → cells_in_ (exceptions c n qs) ≡ map (cell_under v) qs
  cells_of c n [] = refl
  cells_of c n (q ∷ qs) =
      ap (λ cs. cell_under v q ∷ cs) (cells_of (counted c (piece_at t c n q).variables) (n + 1) qs)

  -- a state with them agrees
  pub agree_made : (ds : List Value) (done : List Except) (c : Counts) (n : ℕ) (qs : List Place)
      → Apart (cells_in_ (done ++ exceptions c n qs))
      → CellsAgree t v (looks (store ds (done ++ exceptions c n qs))) c n qs
  agree_made ds done c n [] h = tt
  agree_made ds done c n (q ∷ qs) h =
      let e = excepted (cell_under v q) (value_of v (piece_at t c n q).term) in
      let es = exceptions (counted c (piece_at t c n q).variables) (n + 1) qs in
      let move : (done ++ e ∷ []) ++ es ≡ done ++ e ∷ es = append_assoc done (e ∷ []) es in (
        ap (λ o. or_filler (or_default o (slice_get ds q.state))) (found done e es h),
        subst (λ fs. CellsAgree t v (looks (store ds fs)) (counted c (piece_at t c n q).variables) (n + 1) qs) move
            (agree_made ds (done ++ e ∷ []) (counted c (piece_at t c n q).variables) (n + 1) qs
            (subst (λ fs. Apart (cells_in_ fs)) (sym move) h)),
      )

module _ (t : Tables) (typed : IsWellTyped t) (g : Grounds) (ground : IsGround g) where
  abbrev v : Valuation
  v = g.valuation

  -- they are exceptions of a state of the model
  key_fits : (u : Option Ty) (key : Option Value) (x : Option Term) → AreKeys (Fits t g) u key x → fits_key t u key ≡ true
  key_fits None None None h = refl
  key_fits (Some u) (Some k) (Some x) h = member t g k u g.options x h
  key_fits None None (Some x) h = absurd h
  key_fits None (Some k) x h = absurd h
  key_fits (Some u) None x h = absurd h
  key_fits (Some u) (Some k) None h = absurd h

  pub all_exceptions : (c : Counts) (n : ℕ) (qs : List Place) → ArePlaces t g (map (cell_under v) qs) qs
      → TermsFit t g ground c n qs → list_all (is_exception t) (exceptions t v c n qs) ≡ true
  all_exceptions c n [] are fit = refl
  all_exceptions c n (q ∷ qs) are fit =
      let x = (piece_at t c n q).term in
      let d = are.0.1 in
      let at = are.0.2 in
      and_from (is_exception t (excepted (cell_under v q) (value_of v x)))
      (list_all (is_exception t) (exceptions t v (counted c (piece_at t c n q).variables) (n + 1) qs))
      (and_from (is_cell t (cell_under v q)) (is_value_in t (slice_get t.states q.state) (value_of v x))
      (ap (λ o. is_cell_in t o (cell_under v q)) at ∙ key_fits d.key (cell_under v q).key q.key are.0.3)
      (ap (λ o. is_value_in t o (value_of v x)) at
      ∙ member t g (value_of v x) d.value g.options x
      (subst (λ u. Fits t g u (value_of v x) x) (ap value_type at) fit.0)))
      (all_exceptions (counted c (piece_at t c n q).variables) (n + 1) qs are.1 fit.1)

  -- least values
  abbrev pub defaults : List Value
  defaults = map (λ (d : StateDecl). least_of t d.value) t.states

  pub state_made : (c : Counts) (n : ℕ) (qs : List Place) → ArePlaces t g (map (cell_under v) qs) qs
      → TermsFit t g ground c n qs → Apart (map (cell_under v) qs)
      → IsStateOf t (store defaults (exceptions t v c n qs))
  state_made c n qs are fit apart = record {
    defaults = least_defaults t typed;
    exceptions = all_exceptions c n qs are fit;
    apart = all_apart (exceptions t v c n qs) (subst Apart (sym (cells_of t v c n qs)) apart);
  }

-- Cells and facts that have grown, one cell after another.
use Rattle.std.proofs.Common.{◌≡◌, ◌↔◌, ℕ, ◌+◌, List, [], ◌∷◌, ◌++◌, length, refl, sym, ap, ◌∙◌, arith, subst}
use Rattle.std.proofs.Common.{append_assoc}
use Rattle.std.proofs.lemmas.List.{append-nil, length-append, append_cancel_left}
use Rattle.cm_model.specs.Tables.{Tables}
use Rattle.cm_term.specs.Valuation.{Valuation}
use Rattle.cm_term.specs.declared.term.Term.{Term}
use Rattle.cm_cells.specs.CellTable.{Place}
use Rattle.cm_ctx.specs.declared.piece.Counts.{Counts}
use Rattle.cm_ctx.specs.declared.piece.Piece.{Piece}
use Rattle.cm_ctx.specs.Making.{counted}
use Rattle.cm_ctx.specs.Giving.{Gives}
use Rattle.cm_exec.specs.Comparing.{Extends}
use Rattle.cm_exec.specs.Run.{piece_at, pieces_for, counted_all, GivesAll, IsGrown, KeepsAll}

-- with the pieces of some cells, and then of others
counted_more : (c : Counts) (ps qs : List Piece) → counted_all c (ps ++ qs) ≡ counted_all (counted_all c ps) qs
counted_more c [] qs = refl
counted_more c (p ∷ ps) qs = counted_more (counted c p.variables) ps qs

module _ (t : Tables) where
  pieces_more : (c : Counts) (n : ℕ) (old new : List Place)
      → pieces_for t c n (old ++ new)
      ≡ pieces_for t c n old ++ pieces_for t (counted_all c (pieces_for t c n old)) (n + length old) new
  pieces_more c n [] new = let same : n ≡ n + 0 = omega arith in ap (λ m. pieces_for t c m new) same
  pieces_more c n (p ∷ old) new =
      let d : Counts = counted c (piece_at t c n p).variables in
      let same : n + 1 + length old ≡ n + length (p ∷ old) = omega arith in
      ap (λ l. piece_at t c n p ∷ l) (pieces_more d (n + 1) old new
      ∙ ap (λ m. pieces_for t d (n + 1) old
      ++ pieces_for t (counted_all d (pieces_for t d (n + 1) old)) m new) same)

  pub grown_none : (old : List Place) (c : Counts) (ps : List Piece) → IsGrown t old c ps old c ps
  grown_none old c ps = record {
    cells = [];
    places = sym (append-nil old);
    pieces = sym (append-nil ps);
    variables = refl;
  }

  -- no cell is new, and the facts stay
  pub grown_still : (old new : List Place) (c : Counts) (ps : List Piece) → new ≡ old → IsGrown t old c ps new c ps
  grown_still old new c ps e = subst (λ l. IsGrown t old c ps l c ps) (sym e) (grown_none old c ps)

  -- one cell is new
  pub grown_one : (old new : List Place) (p : Place) (c d : Counts) (ps qs : List Piece) → new ≡ old ++ p ∷ []
      → d ≡ counted c (piece_at t c (length old) p).variables → qs ≡ ps ++ piece_at t c (length old) p ∷ []
      → IsGrown t old c ps new d qs
  grown_one old new p c d ps qs e f g = record { cells = p ∷ []; places = e; pieces = g; variables = f }

  -- some cells are new, and then others
  pub grown_on : (a b e : List Place) (c d f : Counts) (ps qs rs : List Piece) → IsGrown t a c ps b d qs
      → IsGrown t b d qs e f rs → IsGrown t a c ps e f rs
  grown_on a b e c d f ps qs rs x y = record {
    cells = x.cells ++ y.cells;
    places = y.places ∙ ap (λ l. l ++ y.cells) x.places ∙ append_assoc a x.cells y.cells;
    pieces = y.pieces ∙ ap (λ l. l ++ later) x.pieces ∙ append_assoc ps first later ∙ sym (ap (λ l. ps ++ l) both);
    variables = y.variables ∙ ap (λ k. counted_all k later) x.variables ∙ sym (counted_more c first later)
        ∙ sym (ap (counted_all c) both);
  }
    where
      first : List Piece
      first = pieces_for t c (length a) x.cells

      later : List Piece
      later = pieces_for t d (length b) y.cells

      count : length b ≡ length a + length x.cells
      count = ap length x.places ∙ length-append a x.cells

      both : pieces_for t c (length a) (x.cells ++ y.cells) ≡ first ++ later
      both = pieces_more c (length a) x.cells y.cells
          ∙ sym (ap (λ k. first ++ pieces_for t k (length b) y.cells) x.variables
          ∙ ap (λ m. first ++ pieces_for t (counted_all c first) m y.cells) count)

gives_front : (ps qs : List Piece) (v : Valuation) → GivesAll (ps ++ qs) v → GivesAll ps v × GivesAll qs v
gives_front [] qs v g = (tt, g)
gives_front (p ∷ ps) qs v g = let r = gives_front ps qs v g.1 in ((g.0, r.0), r.1)

gives_behind : (ps qs : List Piece) (v : Valuation) → GivesAll ps v → GivesAll qs v → GivesAll (ps ++ qs) v
gives_behind [] qs v g h = h
gives_behind (p ∷ ps) qs v g h = (g.0, gives_behind ps qs v g.1 h)

-- facts that got no piece
pub keeps_none : (ps : List Piece) (had : Valuation → Type 0) → KeepsAll ps had ps had
keeps_none ps had made e v =
    let same : made ≡ [] = append_cancel_left ps made [] (sym e ∙ sym (append-nil ps)) in
    (λ h. (h, subst (λ l. GivesAll l v) (sym same) tt), λ h. h.0)

-- facts that got one piece
pub keeps_one : (ps qs : List Piece) (p : Piece) (had has : Valuation → Type 0) → qs ≡ ps ++ p ∷ []
    → ((v : Valuation) → has v ↔ (had v × Gives p.from p.variables v)) → KeepsAll ps had qs has
keeps_one ps qs p had has e one made g v =
    let same : made ≡ p ∷ [] = append_cancel_left ps made (p ∷ []) (sym g ∙ e) in (
      (λ h. let r = (one v).0 h in (r.0, subst (λ l. GivesAll l v) (sym same) (r.1, tt))),
      (λ h. (one v).1 (h.0, (subst (λ l. GivesAll l v) same h.1).0)),
    )

-- facts that got some pieces and then others
pub keeps_on : (ps qs rs : List Piece) (had P has : Valuation → Type 0) (xs ys : List Piece) → qs ≡ ps ++ xs
    → rs ≡ qs ++ ys → KeepsAll ps had qs P → KeepsAll qs P rs has → KeepsAll ps had rs has
keeps_on ps qs rs had P has xs ys e f before after made g v =
    let whole : rs ≡ ps ++ (xs ++ ys) = f ∙ ap (λ l. l ++ ys) e ∙ append_assoc ps xs ys in
    let same : made ≡ xs ++ ys = append_cancel_left ps made (xs ++ ys) (sym g ∙ whole) in
    let one = before xs e v in
    let two = after ys f v in (
      (λ h.
          let r = two.0 h in
          let q = one.0 r.0 in
          (q.0, subst (λ l. GivesAll l v) (sym same) (gives_behind xs ys v q.1 r.1))),
      (λ h.
          let parts = gives_front xs ys v (subst (λ l. GivesAll l v) same h.1) in
          two.1 (one.1 (h.0, parts.0), parts.1)),
    )

-- longer, and longer again
pub extends_on : (ps qs rs : List Term) → Extends ps qs → Extends qs rs → Extends ps rs
extends_on ps qs rs x y =
    (x.0 ++ y.0, y.1 ∙ ap (λ l. l ++ y.0) x.1 ∙ append_assoc ps x.0 y.0)

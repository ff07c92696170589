-- The cells of a path on a world where a valuation agrees: their keys have values, and these are the cells under it.
use Rattle.std.proofs.Common.{◌≡◌, ◌+◌, ℕ, List, [], ◌∷◌, ◌++◌, map, length, Option, Some, refl}
use Rattle.std.proofs.Common.{sym, ap, subst, ◌∙◌, append_assoc, arith}
use Rattle.std.proofs.lemmas.List.{append-nil, map-append}
use Rattle.std.specs.List.{AllByRecursion}
use Rattle.cm_model.specs.Tables.{Tables}
use Rattle.cm_model.specs.WellTyped.{IsWellTyped}
use Rattle.cm_model.specs.declared.pair.Pair.{Pair}
use Rattle.cm_value.specs.declared.value.Value.{Value}
use Rattle.cm_term.specs.Symbols.{Roots}
use Rattle.cm_term.specs.Terms.{value_of}
use Rattle.cm_term.specs.Valuation.{Valuation}
use Rattle.cm_eval.specs.State.{look_up}
use Rattle.cm_cells.specs.CellTable.{Place}
use Rattle.cm_cells.specs.Alike.{cell_under}
use Rattle.cm_ctx.specs.declared.piece.Counts.{Counts}
use Rattle.cm_ctx.specs.declared.piece.Piece.{Piece}
use Rattle.cm_ctx.specs.Making.{counted}
use Rattle.cm_world.specs.declared.world.World.{World}
use Rattle.cm_world.specs.World.{IsWorldOf, IsCellOf}
use Rattle.cm_exec.specs.Run.{piece_at, pieces_for, counted_all}
use Rattle.cm_story.specs.Following.{Look, looks}
use Rattle.cm_story.proofs.Places.{looked}
use Rattle.cm_cond.specs.declared.cell.CellTerm.{CellTerm}
use Rattle.cm_cond.specs.Keys.{cell_on, cells_after, cells_on, initial_value, initial_values}
use Rattle.cm_cond.specs.Values.{roots_on}
use Rattle.cm_name.specs.Naming.{cell_named}
use Rattle.cm_beside.specs.Nodes.{counts_b, pieces_of, IsValuation, CellsAgree, Agrees, grounds_of}
use Rattle.cm_beside.specs.Seen.{roots_under, has_value}
use Rattle.cm_beside.specs.Enums.{enum_of}
use Rattle.cm_beside.specs.Leaf.{AreKeyed}
use Rattle.cm_case.proofs.Keyed.{MaySee}
use Rattle.cm_case.proofs.Extending.{Begins, cells_both, valuation_less}
use Rattle.cm_case.proofs.Keys.{key_there, place_is_cell}

abbrev pub roots : List Value → List Value → List (Option Value) → Roots
roots a b cells = record { a = a; b = b; cells = cells }

-- the value of a piece, which is there
abbrev pub held : Valuation → Piece → Option Value
held v q = Some (value_of v q.term)

module _ (t : Tables) where
  -- what a cell behind others holds
  pub agree_at : (v : Valuation) (o : Look) (c : Counts) (n : ℕ) (done : List Place) (q : Place) (rest : List Place)
      → CellsAgree t v o c n (done ++ q ∷ rest)
      → o (cell_under v q) ≡ value_of v (piece_at t (counted_all c (pieces_for t c n done)) (n + length done) q).term
  agree_at v o c n [] q rest h =
      let e : n ≡ n + 0 = omega arith in h.0 ∙ ap (λ m. value_of v (piece_at t c m q).term) e
  agree_at v o c n (d ∷ done) q rest h =
      let e : n + 1 + length done ≡ n + length (d ∷ done) = omega arith in
      let next = counted c (piece_at t c n d).variables in
      agree_at v o next (n + 1) done q rest h.1
      ∙ ap (λ m. value_of v (piece_at t (counted_all next (pieces_for t next (n + 1) done)) m q).term) e

  -- what cells of the model hold at first
  held_from : (v : Valuation) (w : World) (c : Counts) (n : ℕ) (qs : List Place)
      → CellsAgree t v (looks w.init) c n qs
      → AllByRecursion (λ q. look_up w.init (cell_under v q) ≡ Some (looks w.init (cell_under v q))) qs
      → map (initial_value w) (map (λ q. Some q) (map (cell_under v) qs)) ≡ map (held v) (pieces_for t c n qs)
  held_from v w c n [] h k = refl
  held_from v w c n (q ∷ qs) h k =
      let rest = held_from v w (counted c (piece_at t c n q).variables) (n + 1) qs h.1 k.1 in
      ap (λ o. o ∷ map (initial_value w) (map (λ q. Some q) (map (cell_under v) qs)))
      (k.0 ∙ ap (λ x. Some x) h.0)
      ∙ ap (λ os. held v (piece_at t c n q) ∷ os) rest

  module _ (p : Pair) where
    abbrev pub values_of : Valuation → List Place → List (Option Value)
    values_of v qs = (roots_under t p qs v).cells

    -- the term of the cell that comes behind these
    abbrev pub next_piece : List Place → Place → Piece
    next_piece done q =
        piece_at t (counted_all (counts_b t p) (pieces_for t (counts_b t p) 0 done)) (0 + length done) q

    pub values_more : (v : Valuation) (done : List Place) (q : Place)
        → values_of v (done ++ q ∷ []) ≡ values_of v done ++ held v (next_piece done q) ∷ []
    values_more v done q =
        ap (map (held v)) (cells_both t (counts_b t p) 0 done (q ∷ []))
        ∙ map-append (held v) (pieces_for t (counts_b t p) 0 done) (next_piece done q ∷ [])

    -- the roots of a world whose arguments are those under a valuation
    pub roots_are : (v : Valuation) (w : World) (qs : List Place) → w.a.vals ≡ (roots_under t p qs v).a
        → w.b.vals ≡ (roots_under t p qs v).b → (cells : List (Option Value)) → cells ≡ values_of v qs
        → roots_on w cells ≡ roots_under t p qs v
    roots_are v w qs a b cells e =
        ap (λ x. roots x w.b.vals cells) a ∙ ap (λ x. roots (roots_under t p qs v).a x cells) b
        ∙ ap (λ x. roots (roots_under t p qs v).a (roots_under t p qs v).b x) e

    -- keyed cells are cells of the model
    pub keyed_cells : (v : Valuation) (first : List Place) → AreKeyed t p v first
        → (done rest : List Place) → first ≡ done ++ rest → AllByRecursion (λ q. IsCellOf t (cell_under v q)) rest
    keyed_cells v first keyed done [] is = tt
    keyed_cells v first keyed done (q ∷ rest) is = (
      place_is_cell t (grounds_of (pieces_of t p first) (enum_of t p first) v (has_value t p done v)) (cell_under v q) q
          (keyed done q rest is),
      keyed_cells v first keyed (done ++ q ∷ []) rest (is ∙ sym (append_assoc done (q ∷ []) rest)),
    )

    all_looked : (v : Valuation) (w : World) → IsWorldOf t p w → (qs : List Place)
        → AllByRecursion (λ q. IsCellOf t (cell_under v q)) qs
        → AllByRecursion (λ q. look_up w.init (cell_under v q) ≡ Some (looks w.init (cell_under v q))) qs
    all_looked v w world [] h = tt
    all_looked v w world (q ∷ qs) h =
        (looked t w.init world.init (cell_under v q) h.0, all_looked v w world qs h.1)

    module _ (typed : IsWellTyped t) (may_see : MaySee t p) (places first more : List Place)
        (split : places ≡ first ++ more) (w : World) (world : IsWorldOf t p w) (v : Valuation)
        (valid : IsValuation (pieces_of t p first) v) (agrees : Agrees t p v w first)
        (keyed : AreKeyed t p v first) where
      abbrev cell_of : Place → CellTerm
      cell_of = cell_named (pieces_of t p places)

      -- the cells from one of the first on
      from_here : (done rest : List Place) → first ≡ done ++ rest
          → cells_after t w (values_of v done) (map cell_of (rest ++ more))
          ≡ map (λ c. Some c) (map (cell_under v) rest) ++ cells_after t w (values_of v first) (map cell_of more)
      from_here done [] is =
          ap (λ qs. cells_after t w (values_of v qs) (map cell_of more)) (sym (append-nil done) ∙ sym is)
      from_here done (q ∷ rest) is =
          let whole : places ≡ done ++ q ∷ (rest ++ more) =
          split ∙ ap (λ qs. qs ++ more) is ∙ append_assoc done (q ∷ rest) more in
          let place = keyed done q rest is in
          let valid_here : IsValuation (pieces_of t p done) v =
          valuation_less t p done (q ∷ rest) v (subst (λ qs. IsValuation (pieces_of t p qs) v) is valid) in
          let on_world = roots_are v w done agrees.a agrees.b (values_of v done) refl in
          let here : cell_on t (roots_on w (values_of v done)) (cell_of q) ≡ Some (cell_under v q) =
          ap (λ r. cell_on t r (cell_of q)) on_world
          ∙ key_there t p may_see places done q (rest ++ more) whole (pieces_of t p first) (enum_of t p first) v typed
          place valid_here in
          let ground = grounds_of (pieces_of t p first) (enum_of t p first) v (has_value t p done v) in
          let cell = place_is_cell t ground (cell_under v q) q place in
          let holds : look_up w.init (cell_under v q) ≡ held v (next_piece done q) =
          looked t w.init world.init (cell_under v q) cell
          ∙ ap (λ x. Some x) (agree_at v (looks w.init) (counts_b t p) 0 done q rest
          (subst (CellsAgree t v (looks w.init) (counts_b t p) 0) is agrees.cells)) in
          let values : values_of v done ++ initial_value w (Some (cell_under v q)) ∷ [] ≡ values_of v (done ++ q ∷ []) =
          ap (λ o. values_of v done ++ o ∷ []) holds ∙ sym (values_more v done q) in
          ap (λ o. o ∷ cells_after t w (values_of v done ++ initial_value w o ∷ []) (map cell_of (rest ++ more))) here
          ∙ ap (λ os. Some (cell_under v q) ∷ cells_after t w os (map cell_of (rest ++ more))) values
          ∙ ap (λ os. Some (cell_under v q) ∷ os)
          (from_here (done ++ q ∷ []) rest (is ∙ sym (append_assoc done (q ∷ []) rest)))

      -- the first cells are those under the valuation
      pub cells_begin : cells_on t w (map cell_of places)
          ≡ map (λ c. Some c) (map (cell_under v) first) ++ cells_after t w (values_of v first) (map cell_of more)
      cells_begin = ap (λ qs. cells_on t w (map cell_of qs)) split ∙ from_here [] first refl

      -- and they hold what it gives them
      pub values_begin : initial_values t w (map cell_of places)
          ≡ values_of v first ++ map (initial_value w) (cells_after t w (values_of v first) (map cell_of more))
      values_begin =
          ap (map (initial_value w)) cells_begin
          ∙ map-append (initial_value w) (map (λ c. Some c) (map (cell_under v) first))
          (cells_after t w (values_of v first) (map cell_of more))
          ∙ ap (λ os. os ++ map (initial_value w) (cells_after t w (values_of v first) (map cell_of more)))
          (held_from v w (counts_b t p) 0 first agrees.cells
          (all_looked v w world first (keyed_cells v first keyed [] first refl)))

      pub forward : Begins t p first v (roots_on w (initial_values t w (map cell_of places)))
      forward = record {
        a = agrees.a;
        b = agrees.b;
        later = map (initial_value w) (cells_after t w (values_of v first) (map cell_of more));
        cells = values_begin;
      }

    -- all cells of a path
    module _ (typed : IsWellTyped t) (may_see : MaySee t p) (places : List Place) (w : World) (world : IsWorldOf t p w)
        (v : Valuation) (valid : IsValuation (pieces_of t p places) v) (agrees : Agrees t p v w places)
        (keyed : AreKeyed t p v places) where
      pub cells_are : cells_on t w (map (cell_named (pieces_of t p places)) places)
          ≡ map (λ c. Some c) (map (cell_under v) places)
      cells_are =
          cells_begin typed may_see places places [] (sym (append-nil places)) w world v valid agrees keyed
          ∙ append-nil (map (λ c. Some c) (map (cell_under v) places))

      pub roots_same : roots_on w (initial_values t w (map (cell_named (pieces_of t p places)) places))
          ≡ roots_under t p places v
      roots_same =
          roots_are v w places agrees.a agrees.b (initial_values t w (map (cell_named (pieces_of t p places)) places))
          (values_begin typed may_see places places [] (sym (append-nil places)) w world v valid agrees keyed
          ∙ append-nil (values_of v places))

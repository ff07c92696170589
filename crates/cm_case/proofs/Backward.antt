-- From a world on which all keys of a path's cells have values to a valuation that agrees with it.
use Rattle.std.proofs.Common.{◌≡◌, ◌+◌, true, List, [], ◌∷◌, ◌++◌, map, length, slice_get, Option, Some, None, refl}
use Rattle.std.proofs.Common.{sym, ap, subst, ◌∙◌, append_assoc, arith}
use Rattle.std.proofs.lemmas.Bool.{and_from}
use Rattle.std.proofs.lemmas.List.{length-append}
use Rattle.std.specs.List.{AllByRecursion, list_all}
use Rattle.cm_model.specs.Tables.{Tables}
use Rattle.cm_model.specs.WellTyped.{IsWellTyped}
use Rattle.cm_model.specs.declared.ty.Ty.{Ty}
use Rattle.cm_model.specs.declared.body.Call.{Call}
use Rattle.cm_model.specs.declared.body.StateDecl.{StateDecl}
use Rattle.cm_model.specs.declared.pair.Pair.{Pair}
use Rattle.cm_value.specs.declared.value.Value.{Value}
use Rattle.cm_value.specs.Membership.{is_value_of, are_values_of}
use Rattle.cm_term.specs.Symbols.{Roots}
use Rattle.cm_term.specs.Terms.{value_of}
use Rattle.cm_term.specs.Valuation.{Valuation}
use Rattle.cm_eval.specs.declared.log.CellName.{CellName}
use Rattle.cm_cells.specs.CellTable.{Place}
use Rattle.cm_cells.specs.Alike.{cell_under}
use Rattle.cm_ctx.specs.declared.piece.Counts.{Counts}
use Rattle.cm_ctx.specs.declared.piece.Piece.{Piece}
use Rattle.cm_ctx.specs.Making.{counted}
use Rattle.cm_world.specs.declared.world.World.{World}
use Rattle.cm_world.specs.World.{IsWorldOf, are_arguments_in}
use Rattle.cm_exec.specs.Run.{pieces_for, counted_all, value_type}
use Rattle.cm_story.specs.Following.{looks}
use Rattle.cm_cond.specs.declared.cell.CellTerm.{CellTerm}
use Rattle.cm_cond.specs.declared.cell.KeyTerm.{KeyTerm}
use Rattle.cm_cond.specs.Holding as holding
use Rattle.cm_cond.specs.Keys.{key_value, cell_by, cell_in, cell_on, cells_after, cells_on, initial_value}
use Rattle.cm_cond.specs.Keys.{initial_values}
use Rattle.cm_cond.specs.Values.{roots_on}
use Rattle.cm_name.specs.Naming.{cell_named}
use Rattle.cm_beside.specs.Nodes.{counts_b, parameter_types, pieces_of, IsValuation, CellsAgree, Agrees}
use Rattle.cm_beside.specs.Nodes.{args_a, args_b}
use Rattle.cm_beside.specs.Seen.{roots_under}
use Rattle.cm_beside.specs.Enums.{enum_of}
use Rattle.cm_beside.proofs.Declaring.{IsDeclared}
use Rattle.cm_beside.proofs.Filling.{terms_of}
use Rattle.cm_beside.proofs.Rows.{behind_both}
use Rattle.cm_beside.proofs.Worlds.{fill}
use Rattle.cm_beside.specs.Leaf.{AreKeyed}
use Rattle.cm_case.proofs.Keyed.{MaySee}
use Rattle.cm_case.proofs.Extending.{cells_both, valuation_less}
use Rattle.cm_case.proofs.Keys.{key_may}
use Rattle.cm_case.proofs.KeyMay.{then_some}
use Rattle.cm_case.proofs.Cells.{held, values_of, values_more, next_piece, roots_are}
use Rattle.cm_case.proofs.Looking.{held_there, held_typed}

-- the cells, where each is there
pub all_some : (os : List (Option CellName)) → list_all holding.has_value os ≡ true
    → (cs : List CellName) × (os ≡ map (λ c. Some c) cs)
all_some [] h = ([], refl)
all_some (Some c ∷ os) h = let r = all_some os h in (c ∷ r.0, ap (λ qs. Some c ∷ qs) r.1)
all_some (None ∷ os) h = absurd (cc)

pub some_all : (cs : List CellName) → list_all holding.has_value (map (λ c. Some c) cs) ≡ true
some_all [] = refl
some_all (c ∷ cs) = some_all cs

head_same : {X : Type 0} (x y : X) (xs ys : List X) → x ∷ xs ≡ y ∷ ys → x ≡ y
head_same x y xs ys h = cc

tail_same : {X : Type 0} (x y : X) (xs ys : List X) → x ∷ xs ≡ y ∷ ys → xs ≡ ys
tail_same x y xs ys h = cc

module _ (t : Tables) where
  -- a cell that is meant is one of the state that is named
  state_is : (r : Roots) (k : CellTerm) (c : CellName) → cell_on t r k ≡ Some c → c.state ≡ k.state
  state_is r k c h = by (slice_get t.states k.state) h
    where
      by_key : (u : Option Ty) (key : Option KeyTerm) → cell_by t r k.state u key ≡ Some c → c.state ≡ k.state
      by_key None None e = cc
      by_key None (Some x) e = absurd (cc)
      by_key (Some u) None e = absurd (cc)
      by_key (Some u) (Some x) e =
          let y = then_some (key_value t r x u) _ c e in
          let f = y.2 in
          cc

      by : (o : Option StateDecl) → cell_in t r o k ≡ Some c → c.state ≡ k.state
      by (Some d) e = by_key d.key k.key e
      by None e = absurd (cc)

  abbrev type_at : Place → Ty
  type_at q = value_type (slice_get t.states q.state)

  declared_at : (r : Roots) (names : List Piece) (q : Place) (d : StateDecl) → slice_get t.states q.state ≡ Some d
      → (c : CellName) → cell_on t r (cell_named names q) ≡ Some c → slice_get t.states c.state ≡ Some d
  declared_at r names q d at c h = ap (slice_get t.states) (state_is r (cell_named names q) c h) ∙ at

  module _ (w : World) (p : Pair) (world : IsWorldOf t p w) (names : List Piece) where
    abbrev cell_of : Place → CellTerm
    cell_of = cell_named names

    -- what the world holds in them is of their states' value types
    values_typed : (rest : List Place) → AllByRecursion (IsDeclared t) rest → (done : List (Option Value))
        (cs : List CellName) → cells_after t w done (map cell_of rest) ≡ map (λ c. Some c) cs
        → are_values_of t (map type_at rest) (map (looks w.init) cs) ≡ true
    values_typed [] h done [] e = refl
    values_typed [] h done (c ∷ cs) e = absurd (cc)
    values_typed (q ∷ rest) h done [] e = absurd (cc)
    values_typed (q ∷ rest) h done (c ∷ cs) e =
        let here : cell_on t (roots_on w done) (cell_of q) ≡ Some c = head_same _ _ _ _ e in
        let at = declared_at (roots_on w done) names q h.0.0 h.0.1 c here in
        and_from (is_value_of t (type_at q) (looks w.init c)) _
        (subst (λ u. is_value_of t u (looks w.init c) ≡ true) (sym (ap value_type h.0.1))
        (held_typed t w.init world.init c h.0.0 at))
        (values_typed rest h.1 _ cs (tail_same _ _ _ _ e))

    -- and it is there
    values_held : (rest : List Place) → AllByRecursion (IsDeclared t) rest → (done : List (Option Value))
        (cs : List CellName) → cells_after t w done (map cell_of rest) ≡ map (λ c. Some c) cs
        → map (initial_value w) (map (λ c. Some c) cs) ≡ map (λ x. Some x) (map (looks w.init) cs)
    values_held [] h done [] e = refl
    values_held [] h done (c ∷ cs) e = absurd (cc)
    values_held (q ∷ rest) h done [] e = absurd (cc)
    values_held (q ∷ rest) h done (c ∷ cs) e =
        let here : cell_on t (roots_on w done) (cell_of q) ≡ Some c = head_same _ _ _ _ e in
        let at = declared_at (roots_on w done) names q h.0.0 h.0.1 c here in
        ap (λ o. o ∷ map (initial_value w) (map (λ c. Some c) cs)) (held_there t w.init world.init c h.0.0 at)
        ∙ ap (λ os. Some (looks w.init c) ∷ os) (values_held rest h.1 _ cs (tail_same _ _ _ _ e))

  arguments : (o : Option Call) (xs : List Value) → are_arguments_in t o xs ≡ true
      → (c : Call) × (o ≡ Some c) × (are_values_of t (parameter_types o) xs ≡ true)
  arguments (Some c) xs h = (c, refl, h)
  arguments None xs h = absurd (cc)

  held_terms : (v : Valuation) (qs : List Piece) → map (λ x. Some x) (map (value_of v) (terms_of qs)) ≡ map (held v) qs
  held_terms v [] = refl
  held_terms v (q ∷ qs) = ap (λ os. held v q ∷ os) (held_terms v qs)

  module _ (p : Pair) where
    -- how many variables there are behind these cells
    abbrev counts_at : List Place → Counts
    counts_at done = counted_all (counts_b t p) (pieces_for t (counts_b t p) 0 done)

    counts_more : (done : List Place) (q : Place)
        → counted (counts_at done) (next_piece t p done q).variables ≡ counts_at (done ++ q ∷ [])
    counts_more done q =
        sym (ap (counted_all (counts_b t p)) (cells_both t (counts_b t p) 0 done (q ∷ []))
        ∙ behind_both (counts_b t p) (pieces_for t (counts_b t p) 0 done) (next_piece t p done q ∷ []))

    one_more : (done : List Place) (q : Place) → 0 + length done + 1 ≡ 0 + length (done ++ q ∷ [])
    one_more done q = let e = length-append done (q ∷ []) in omega (arith, e)

    module _ (may_see : MaySee t p) (places : List Place) (v0 : Valuation) (keyed : AreKeyed t p v0 places)
        (w : World) (world : IsWorldOf t p w) (v : Valuation) (valid : IsValuation (pieces_of t p places) v)
        (a_is : w.a.vals ≡ map (value_of v) (args_a t p)) (b_is : w.b.vals ≡ map (value_of v) (args_b t p)) where
      abbrev names : List Piece
      names = pieces_of t p places

      -- from a cell on, where the terms of the cells have what the world holds in the cells that are meant
      agree_from : (done rest : List Place) → places ≡ done ++ rest → AllByRecursion (IsDeclared t) rest
          → (cs : List CellName)
          → cells_after t w (values_of t p v done) (map (cell_named names) rest) ≡ map (λ c. Some c) cs
          → map (value_of v) (terms_of (pieces_for t (counts_at done) (0 + length done) rest)) ≡ map (looks w.init) cs
          → CellsAgree t v (looks w.init) (counts_at done) (0 + length done) rest
      agree_from done [] is declared cs e values = tt
      agree_from done (q ∷ rest) is declared [] e values = absurd (cc)
      agree_from done (q ∷ rest) is declared (c ∷ cs) e values =
          let valid_here : IsValuation (pieces_of t p done) v =
          valuation_less t p done (q ∷ rest) v (subst (λ qs. IsValuation (pieces_of t p qs) v) is valid) in
          let here : cell_on t (roots_on w (values_of t p v done)) (cell_named names q) ≡ Some c =
          head_same _ _ _ _ e in
          let meant : cell_on t (roots_under t p done v) (cell_named names q) ≡ Some c =
          sym (ap (λ r. cell_on t r (cell_named names q))
          (roots_are t p v w done a_is b_is (values_of t p v done) refl)) ∙ here in
          let cell : c ≡ cell_under v q =
          key_may t p may_see places done q rest is names (enum_of t p places) v0 (keyed done q rest is) v valid_here
          c meant in
          let at = declared_at (roots_on w (values_of t p v done)) names q declared.0.0 declared.0.1 c here in
          let value : value_of v (next_piece t p done q).term ≡ looks w.init c = head_same _ _ _ _ values in
          let first : values_of t p v done ++ initial_value w (cell_on t (roots_on w (values_of t p v done))
          (cell_named names q)) ∷ [] ≡ values_of t p v (done ++ q ∷ []) =
          ap (λ o. values_of t p v done ++ initial_value w o ∷ []) here
          ∙ ap (λ o. values_of t p v done ++ o ∷ []) (held_there t w.init world.init c declared.0.0 at
          ∙ ap (λ x. Some x) (sym value)) ∙ sym (values_more t p v done q) in
          let later = agree_from (done ++ q ∷ []) rest (is ∙ sym (append_assoc done (q ∷ []) rest)) declared.1 cs
          (subst (λ os. cells_after t w os (map (cell_named names) rest) ≡ map (λ c. Some c) cs) first
          (tail_same _ _ _ _ e))
          (subst (λ m. map (value_of v) (terms_of (pieces_for t (counts_at (done ++ q ∷ [])) m rest))
          ≡ map (looks w.init) cs) (one_more done q)
          (subst (λ d. map (value_of v) (terms_of (pieces_for t d (0 + length done + 1) rest)) ≡ map (looks w.init) cs)
          (counts_more done q) (tail_same _ _ _ _ values))) in (
            sym (ap (looks w.init) cell) ∙ sym value,
            subst (λ d. CellsAgree t v (looks w.init) d (0 + length done + 1) rest) (sym (counts_more done q))
                (subst (λ m. CellsAgree t v (looks w.init) (counts_at (done ++ q ∷ [])) m rest)
                (sym (one_more done q)) later),
          )

    -- a valuation of the world's values
    pub record Backward (places : List Place) (w : World) : Type 0 where
      pub valuation : Valuation
      pub is_valuation : IsValuation (pieces_of t p places) valuation
      pub agrees : Agrees t p valuation w places
      pub roots : roots_on w (initial_values t w (map (cell_named (pieces_of t p places)) places))
          ≡ roots_under t p places valuation

    pub keyed_declared : (places : List Place) (v0 : Valuation) → AreKeyed t p v0 places → (done rest : List Place)
        → places ≡ done ++ rest → AllByRecursion (IsDeclared t) rest
    keyed_declared places v0 keyed done [] is = tt
    keyed_declared places v0 keyed done (q ∷ rest) is =
        let place = keyed done q rest is in (
          (place.1, place.2),
          keyed_declared places v0 keyed (done ++ q ∷ []) rest (is ∙ sym (append_assoc done (q ∷ []) rest)),
        )

    -- where all keys have values on a world, the world's values are those of a valuation that agrees with it
    pub backward : IsWellTyped t → MaySee t p → (places : List Place) (v0 : Valuation) → AreKeyed t p v0 places
        → (w : World) → IsWorldOf t p w
        → list_all holding.has_value (cells_on t w (map (cell_named (pieces_of t p places)) places)) ≡ true
        → Backward places w
    backward typed may_see places v0 keyed w world there =
        let names = pieces_of t p places in
        let declared = keyed_declared places v0 keyed [] places refl in
        let cs = all_some (cells_on t w (map (cell_named names) places)) there in
        let a = arguments (slice_get t.calls p.a) w.a.vals world.a in
        let b = arguments (slice_get t.calls p.b) w.b.vals world.b in
        let f = fill t typed p a.0 b.0 a.1 b.1 places declared w.a.vals w.b.vals (map (looks w.init) cs.0) a.2 b.2
        (values_typed w p world names places declared [] cs.0 cs.1) in
        record {
          valuation = f.v;
          is_valuation = f.is;
          agrees = record {
            a = sym f.a_is;
            b = sym f.b_is;
            cells = agree_from may_see places v0 keyed w world f.v f.is (sym f.a_is) (sym f.b_is) [] places refl
                declared cs.0 cs.1 f.cells_are;
          };
          roots = roots_are t p f.v w places (sym f.a_is) (sym f.b_is)
              (initial_values t w (map (cell_named names) places))
              (ap (map (initial_value w)) cs.1 ∙ values_held w p world names places declared [] cs.0 cs.1
              ∙ ap (map (λ x. Some x)) (sym f.cells_are)
              ∙ held_terms f.v (pieces_for t (counts_b t p) 0 places));
        }

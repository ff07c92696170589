-- The cell of a place, named by symbols of the arguments and of the cells before it.
use Rattle.std.proofs.Common.{◌≡◌, ℕ, true, List, ◌∷◌, ◌++◌, slice_get, Option, Some, None, refl, sym, ap, ◌∙◌, IfSome}
use Rattle.std.specs.Option.{option_map}
use Rattle.cm_model.specs.Tables.{Tables}
use Rattle.cm_model.specs.WellTyped.{IsWellTyped}
use Rattle.cm_model.specs.declared.ty.Ty.{Ty}
use Rattle.cm_model.specs.declared.body.StateDecl.{StateDecl}
use Rattle.cm_model.specs.declared.pair.Pair.{Pair}
use Rattle.cm_value.specs.declared.value.Value.{Value}
use Rattle.cm_term.specs.declared.symbol.Sym.{Sym}
use Rattle.cm_term.specs.declared.term.Term.{Term}
use Rattle.cm_term.specs.Symbols.{Roots, symbol_value}
use Rattle.cm_term.specs.Terms.{value_of}
use Rattle.cm_term.specs.Valuation.{Valuation, Var}
use Rattle.cm_eval.specs.declared.log.CellName.{CellName}
use Rattle.cm_eval.specs.Evaluation.{named}
use Rattle.cm_cells.specs.CellTable.{Place}
use Rattle.cm_cells.specs.Alike.{cell_under}
use Rattle.cm_ctx.specs.declared.piece.Piece.{Piece}
use Rattle.cm_world.specs.World.{IsCellOf, is_cell_in, fits_key}
use Rattle.cm_relation.specs.Relation.{AreKeys}
use Rattle.cm_cond.specs.Keys.{key_value, cell_by, cell_in, cell_on, and_then}
use Rattle.cm_name.specs.Naming.{key_named, cell_named}
use Rattle.cm_beside.specs.Grounds.{Grounds}
use Rattle.cm_beside.specs.Fits.{Fits}
use Rattle.cm_beside.specs.Nodes.{pieces_of, IsValuation, grounds_of}
use Rattle.cm_beside.specs.Places.{IsPlace}
use Rattle.cm_beside.specs.Seen.{roots_under, symbol_at, has_value}
use Rattle.cm_beside.proofs.Fitting.{member}
use Rattle.cm_beside.proofs.Keys.{key_is_plain}
use Rattle.cm_beside.proofs.Seeing.{value_at}
use Rattle.cm_case.proofs.Keyed.{MaySee}
use Rattle.cm_case.proofs.Extending.{symbol_more, has_symbol}
use Rattle.cm_case.proofs.KeyMay.{key_value_may, if_some, then_some}
use Rattle.cm_case.proofs.KeyThere.{key_value_there}

-- a place's cell is one of the model
pub place_is_cell : (t : Tables) (g : Grounds) (c : CellName) (q : Place) → IsPlace t g c q → IsCellOf t c
place_is_cell t g c q h =
    ap (λ s. is_cell_in t (slice_get t.states s) c) h.0 ∙ ap (λ o. is_cell_in t o c) h.2
    ∙ by h.1.key c.key q.key h.3
  where
    by : (u : Option Ty) (key : Option Value) (x : Option Term) → AreKeys (Fits t g) u key x → fits_key t u key ≡ true
    by None None None h = refl
    by (Some u) (Some k) (Some x) h = member t g k u g.options x h
    by None None (Some x) h = absurd h
    by None (Some k) x h = absurd h
    by (Some u) None x h = absurd h
    by (Some u) (Some k) None h = absurd h

module _ (t : Tables) (p : Pair) (may_see : MaySee t p) where
  -- named by the symbols of all the cells of a path
  named_more : (places first rest : List Place) → places ≡ first ++ rest → (x : Var) (s : Sym)
      → symbol_at (pieces_of t p first) x ≡ Some s → symbol_at (pieces_of t p places) x ≡ Some s
  named_more places first rest is x s at =
      ap (λ qs. symbol_at (pieces_of t p qs) x) is ∙ symbol_more t p first rest x s at

  module _ (places first : List Place) (q : Place) (more : List Place) (is : places ≡ first ++ q ∷ more)
      (ps : List Piece) (enums : ℕ → Option ℕ) (v : Valuation) where
    abbrev names : List Piece
    names = pieces_of t p places

    -- of the arguments and the cells before it alone
    abbrev here : Grounds
    here = grounds_of ps enums v (has_value t p first v)

    module _ (place : IsPlace t here (cell_under v q) q) (w : Valuation)
        (valid : IsValuation (pieces_of t p first) w) where
      abbrev roots : Roots
      roots = roots_under t p first w

      may : (x : Var) → has_value t p first v x ≡ true
          → (s : Sym) × (symbol_at names x ≡ Some s) × IfSome (symbol_value roots s) (λ y. y ≡ value_at w x)
      may x h =
          let s = has_symbol t p first v x h in
          (s.0, named_more places first (q ∷ more) is x s.0 s.1, may_see first w valid x s.0 s.1)

      keyed : (c : CellName) (u : Option Ty) (key : Option Value) (x : Option Term) → AreKeys (Fits t here) u key x
          → cell_by t roots q.state u (option_map (key_named names) x) ≡ Some c
          → c ≡ named q.state (option_map (value_of w) x)
      keyed c None None None a e = let same : c ≡ named q.state None = cc in same
      keyed c (Some u) (Some k) (Some x) a e =
          let y = then_some (key_value t roots (key_named names x) u) (λ y. Some (named q.state (Some y))) c e in
          let same : c ≡ named q.state (Some y.0) = (let f = y.2 in cc) in
          same ∙ ap (λ z. named q.state (Some z))
          (key_value_may t names roots w here may k u here.options x a y.0 y.1)
      keyed c None None (Some x) a e = absurd a
      keyed c None (Some k) x a e = absurd a
      keyed c (Some u) None x a e = absurd a
      keyed c (Some u) (Some k) None a e = absurd a

      -- where the cell's key has a value, it is the key's term's, whatever the valuation is under which the key is of
      -- its type
      pub key_may : (c : CellName) → cell_on t roots (cell_named names q) ≡ Some c → c ≡ cell_under w q
      key_may c h =
          keyed c place.1.key (cell_under v q).key q.key place.3
          (sym (ap (λ o. cell_in t roots o (cell_named names q)) place.2) ∙ h)

    module _ (typed : IsWellTyped t) (place : IsPlace t here (cell_under v q) q)
        (valid : IsValuation (pieces_of t p first) v) where
      sees : (x : Var) → has_value t p first v x ≡ true
          → (s : Sym) × (symbol_at names x ≡ Some s)
          × (symbol_value (roots_under t p first v) s ≡ Some (value_at v x))
      sees x h =
          let s = has_symbol t p first v x h in
          let same = if_some (symbol_value (roots_under t p first v) s.0) (λ y. y ≡ value_at v x)
          (may_see first v valid x s.0 s.1) s.2 s.3 in
          (s.0, named_more places first (q ∷ more) is x s.0 s.1, s.3 ∙ ap (λ y. Some y) same)

      there : (d : StateDecl) → slice_get t.states q.state ≡ Some d → (u : Option Ty) → d.key ≡ u
          → (key : Option Value) (x : Option Term) → AreKeys (Fits t here) u key x
          → cell_by t (roots_under t p first v) q.state u (option_map (key_named names) x) ≡ Some (named q.state key)
      there d at None f None None a = refl
      there d at (Some u) f (Some k) (Some x) a =
          let plain = key_is_plain t typed q.state d u k at f (member t here k u here.options x a) in
          ap (λ o. and_then o (λ y. Some (named q.state (Some y))))
          (key_value_there t names (roots_under t p first v) here sees k u here.options x plain a)
      there d at None f None (Some x) a = absurd a
      there d at None f (Some k) x a = absurd a
      there d at (Some u) f None x a = absurd a
      there d at (Some u) f (Some k) None a = absurd a

      -- under this valuation the cell's key has its term's value
      pub key_there : cell_on t (roots_under t p first v) (cell_named names q) ≡ Some (cell_under v q)
      key_there =
          ap (λ o. cell_in t (roots_under t p first v) o (cell_named names q)) place.2
          ∙ there place.1 place.2 place.1.key refl (cell_under v q).key q.key place.3

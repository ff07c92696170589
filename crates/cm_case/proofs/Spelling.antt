-- The named cells of a path are well formed: each key is spelled by its type, with symbols of the cells before it.
use Rattle.std.proofs.Common.{◌≡◌, ℕ, true, List, [], ◌∷◌, ◌++◌, map, slice_get, Option, Some, None, refl, sym}
use Rattle.std.proofs.Common.{ap, ◌∙◌, append_assoc}
use Rattle.std.specs.List.{AllByRecursion}
use Rattle.std.specs.Option.{option_map}
use Rattle.std.proofs.lemmas.Bool.{and_from}
use Rattle.std.proofs.lemmas.List.{map-append}
use Rattle.std.proofs.lemmas.Option.{slice_get-map}
use Rattle.cm_model.specs.Tables.{Tables}
use Rattle.cm_model.specs.WellTyped.{IsWellTyped}
use Rattle.cm_model.specs.declared.ty.Ty.{Ty}
use Rattle.cm_model.specs.declared.body.StateDecl.{StateDecl}
use Rattle.cm_model.specs.declared.pair.Pair.{Pair}
use Rattle.cm_value.specs.declared.value.Value.{Value}
use Rattle.cm_term.specs.declared.symbol.Root.{Root}
use Rattle.cm_term.specs.declared.symbol.Root.TheVariants as root
use Rattle.cm_term.specs.declared.symbol.Step.{Step}
use Rattle.cm_term.specs.declared.symbol.Sym.{Sym}
use Rattle.cm_term.specs.declared.term.Term.{Term}
use Rattle.cm_term.specs.Valuation.{Valuation, Var, OfElement, OfNumber, OfTag, OfOption}
use Rattle.cm_cells.specs.CellTable.{Place}
use Rattle.cm_cells.specs.Alike.{cell_under}
use Rattle.cm_ctx.specs.declared.piece.ElementPart.{ElementPart}
use Rattle.cm_ctx.specs.declared.piece.Piece.{Piece}
use Rattle.cm_ctx.specs.Contexts.{sorts_of}
use Rattle.cm_relation.specs.Relation.{AreKeys}
use Rattle.cm_cond.specs.declared.cell.CellTerm.{CellTerm}
use Rattle.cm_cond.specs.Form.{sort_in, enum_in, is_integer, is_key_of, is_cell_of, is_cell, are_cells}
use Rattle.cm_cond.specs.Typing.{cell_type, root_type, type_along, symbol_type}
use Rattle.cm_name.specs.Naming.{key_named, cell_named}
use Rattle.cm_beside.specs.Grounds.{Grounds}
use Rattle.cm_beside.specs.Fits.{Fits}
use Rattle.cm_beside.specs.Nodes.{pieces_of, grounds_of}
use Rattle.cm_beside.specs.Seen.{symbol_at, has_value}
use Rattle.cm_beside.specs.Enums.{without_key, cells_of, symbol_enum, enum_of}
use Rattle.cm_beside.proofs.Declaring.{IsDeclared}
use Rattle.cm_beside.proofs.Enums.{enum_is}
use Rattle.cm_beside.proofs.Fitting.{member}
use Rattle.cm_beside.proofs.Keys.{key_is_plain}
use Rattle.cm_beside.specs.Leaf.{AreKeyed}
use Rattle.cm_case.proofs.Extending.{has_symbol, symbol_more, pieces_both, later_pieces, get_found}
use Rattle.cm_case.proofs.Backward.{keyed_declared}
use Rattle.cm_case.proofs.Typing.{StatesAre, IsTypeOf, symbol_typed}
use Rattle.cm_case.proofs.Formed.{HasForm, key_formed, sort_is, integer_is}

pub sorts_both : (ps qs : List Piece) → sorts_of (ps ++ qs) ≡ sorts_of ps ++ sorts_of qs
sorts_both [] qs = refl
sorts_both (p ∷ ps) qs =
    ap (λ ss. map (λ (d : ElementPart). d.sort) p.variables.elements ++ ss) (sorts_both ps qs)
    ∙ sym (append_assoc (map (λ (d : ElementPart). d.sort) p.variables.elements) (sorts_of ps) (sorts_of qs))

all_first : {A : Type 0} (P : A → Type 0) (xs ys : List A) → AllByRecursion P (xs ++ ys) → AllByRecursion P xs
all_first P [] ys h = tt
all_first P (x ∷ xs) ys h = (h.0, all_first P xs ys h.1)

all_moved : {A : Type 0} (P : A → Type 0) (xs ys : List A) → xs ≡ ys → AllByRecursion P xs → AllByRecursion P ys
all_moved P xs ys e h = rw (sym e) h

-- the cells that are named have the states of their places
pub states_are : (t : Tables) (typed : IsWellTyped t) (p : Pair) (names : List Piece) (done : List Place)
    → StatesAre t typed p (map (cell_named names) done) done
states_are t typed p names done j q at = (
  cell_named names q,
  slice_get-map (cell_named names) done j ∙ ap (option_map (cell_named names)) at,
  refl,
)

module _ (t : Tables) (typed : IsWellTyped t) (p : Pair) (places : List Place) (v : Valuation)
    (keyed : AreKeyed t p v places) where
  abbrev names : List Piece
  names = pieces_of t p places

  abbrev named_cells : List Place → List CellTerm
  named_cells done = map (cell_named names) done

  -- of the arguments and the first cells alone
  abbrev ground_at : List Place → Grounds
  ground_at first = grounds_of names (enum_of t p places) v (has_value t p first v)

  -- a symbol of the first cells has its type by the states of all cells, without their keys
  type_more : (done rest : List Place) → places ≡ done ++ rest → (s : Sym) (u : Ty)
      → symbol_type t p (named_cells done) s ≡ Some u → symbol_type t p (cells_of places) s ≡ Some u
  type_more done rest is s u = by (root_type t p (named_cells done) s.root) refl
    where
      none_along : (ss : List Step) → type_along t ss None ≡ None
      none_along [] = refl
      none_along (s ∷ ss) = refl

      held : (i : ℕ) (w : Ty) (o : Option Place) → slice_get done i ≡ o
          → cell_type t (option_map (cell_named names) o) ≡ Some w
          → root_type t p (cells_of places) (root.Cell i) ≡ Some w
      held i w (Some q) at e =
          ap (λ qs. cell_type t (slice_get (cells_of qs) i)) is
          ∙ ap (cell_type t) (slice_get-map without_key (done ++ rest) i)
          ∙ ap (λ o. cell_type t (option_map without_key o)) (get_found done rest i q at) ∙ e
      held i w None at e = absurd (cc)

      root_same : (r : Root) (w : Ty) → root_type t p (named_cells done) r ≡ Some w
          → root_type t p (cells_of places) r ≡ Some w
      root_same (root.A i) w e = e
      root_same (root.B i) w e = e
      root_same (root.Cell i) w e =
          held i w (slice_get done i) refl
          (sym (ap (cell_type t) (slice_get-map (cell_named names) done i)) ∙ e)

      by : (o : Option Ty) → root_type t p (named_cells done) s.root ≡ o
          → type_along t s.path (root_type t p (named_cells done) s.root) ≡ Some u
          → symbol_type t p (cells_of places) s ≡ Some u
      by (Some w) e k =
          ap (type_along t s.path) (root_same s.root w e ∙ sym e) ∙ k
      by None e k =
          absurd (let no_ : None ≡ Some u = sym (none_along s.path) ∙ sym (ap (type_along t s.path) e) ∙ k in cc)

  has_form : (done : List Place) (q : Place) (rest : List Place) → places ≡ done ++ q ∷ rest → (x : Var)
      → has_value t p done v x ≡ true
      → (s : Sym) × (symbol_at names x ≡ Some s) × HasForm t p (named_cells done) names (ground_at done) x s
  has_form done q rest is x h =
      let s = has_symbol t p done v x h in
      let declared = all_first (IsDeclared t) done (q ∷ rest)
      (all_moved (IsDeclared t) places (done ++ q ∷ rest) is (keyed_declared t p places v keyed [] places refl)) in
      let of = symbol_typed t typed p (named_cells done) done declared (states_are t typed p names done) x s.0 s.1 in (
        s.0,
        ap (λ qs. symbol_at (pieces_of t p qs) x) is ∙ symbol_more t p done (q ∷ rest) x s.0 s.1,
        by x s.0 (ap (λ qs. symbol_at (pieces_of t p qs) x) is ∙ symbol_more t p done (q ∷ rest) x s.0 s.1) of.end
            of.typed_so of.form,
      )
    where
      by : (x : Var) (s : Sym) → symbol_at names x ≡ Some s → (u : Ty)
          → symbol_type t p (named_cells done) s ≡ Some u
          → IsTypeOf t typed p (named_cells done) done
          (all_first (IsDeclared t) done (q ∷ rest)
          (all_moved (IsDeclared t) places (done ++ q ∷ rest) is (keyed_declared t p places v keyed [] places refl)))
          (states_are t typed p names done) x u
          → HasForm t p (named_cells done) names (ground_at done) x s
      by (OfElement x) s at u e f = (
        f.0,
        ap (λ qs. slice_get (sorts_of (pieces_of t p qs)) x) is
            ∙ ap (λ ps. slice_get (sorts_of ps) x) (pieces_both t p done (q ∷ rest))
            ∙ ap (λ ss. slice_get ss x) (sorts_both (pieces_of t p done) (later_pieces t p done (q ∷ rest)))
            ∙ get_found (sorts_of (pieces_of t p done)) (sorts_of (later_pieces t p done (q ∷ rest))) x f.0 f.1,
        ap sort_in e ∙ sort_is u f.0 f.2,
      )
      by (OfNumber x) s at u e f = ap is_integer e ∙ integer_is u f.0 f.1
      by (OfTag x) s at u e f = (
        f.0,
        ap (symbol_enum t p places) at ∙ ap enum_in (type_more done (q ∷ rest) is s u e) ∙ enum_is u f.0 f.1,
        ap enum_in e ∙ enum_is u f.0 f.1,
      )
      by (OfOption x) s at u e f = tt

  cell_formed : (done : List Place) (q : Place) (rest : List Place) → places ≡ done ++ q ∷ rest
      → is_cell t p (named_cells done) (cell_named names q) ≡ true
  cell_formed done q rest is =
      let place = keyed done q rest is in
      ap (λ o. is_cell_of t p (named_cells done) o (option_map (key_named names) q.key)) place.2
      ∙ by place.1 place.2 place.1.key refl (cell_under v q).key q.key place.3
    where
      by : (d : StateDecl) → slice_get t.states q.state ≡ Some d → (u : Option Ty) → d.key ≡ u
          → (key : Option Value) (x : Option Term) → AreKeys (Fits t (ground_at done)) u key x
          → is_key_of t p (named_cells done) u (option_map (key_named names) x) ≡ true
      by d at None f None None a = refl
      by d at (Some u) f (Some k) (Some x) a =
          let g = ground_at done in
          let plain = key_is_plain t typed q.state d u k at f (member t g k u g.options x a) in
          key_formed t p (named_cells done) names g (has_form done q rest is) k u g.options x plain a
      by d at None f None (Some x) a = absurd a
      by d at None f (Some k) x a = absurd a
      by d at (Some u) f None x a = absurd a
      by d at (Some u) f (Some k) None a = absurd a

  formed_from : (done rest : List Place) → places ≡ done ++ rest
      → are_cells t p (named_cells done) (named_cells rest) ≡ true
  formed_from done [] is = refl
  formed_from done (q ∷ rest) is =
      and_from (is_cell t p (named_cells done) (cell_named names q))
      (are_cells t p (named_cells done ++ cell_named names q ∷ []) (named_cells rest)) (cell_formed done q rest is)
      (ap (λ cs. are_cells t p cs (named_cells rest)) (sym (map-append (cell_named names) done (q ∷ [])))
      ∙ formed_from (done ++ q ∷ []) rest (is ∙ sym (append_assoc done (q ∷ []) rest)))

  pub cells_formed : are_cells t p [] (map (cell_named names) places) ≡ true
  cells_formed = formed_from [] places refl

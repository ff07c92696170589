-- The twin that names the touched cells alone is a world, and does alike.
use Rattle.std.proofs.Common.{◌≡◌, ◌⊎◌, inl, inr, Bool, true, false, not, List, [], ◌∷◌, map, Option, Some, None}
use Rattle.std.proofs.Common.{slice_get, refl, sym, ap, ◌∙◌, subst, if◌then◌else◌}
use Rattle.std.specs.List.{list_all}
use Rattle.std.proofs.lemmas.Bool.{and_parts, and_from}
use Rattle.cm_model.specs.Tables.{Tables}
use Rattle.cm_model.specs.WellTyped.{IsWellTyped, is_state, is_key_type}
use Rattle.cm_model.specs.Types.{is_type_in_use, is_type_before}
use Rattle.cm_model.specs.declared.pair.Pair.{Pair}
use Rattle.cm_model.specs.declared.body.StateDecl.{StateDecl}
use Rattle.cm_value.specs.Least.{least_of}
use Rattle.cm_value.specs.Membership.{is_value_of, are_values_of}
use Rattle.cm_value.specs.declared.value.Value.{Value}
use Rattle.cm_value.proofs.LeastMember.{least_is_value}
use Rattle.cm_eval.specs.declared.log.CellName.{CellName}
use Rattle.cm_eval.specs.declared.state.Except.{Except}
use Rattle.cm_eval.specs.Evaluation.{call_of}
use Rattle.cm_eval.specs.State.{Store, look_up, exception_of, same_cell, or_default}
use Rattle.cm_eval.proofs.Same.{same_cell_equal, same_cell_self}
use Rattle.cm_world.specs.declared.world.World.{World}
use Rattle.cm_world.specs.World.{IsWorldOf, IsStateOf, is_exception, is_cell, is_value_in, is_there, are_apart}
use Rattle.cm_world.specs.World.{are_arguments}
use Rattle.cm_world.specs.Order.{touched_cells}
use Rattle.cm_world.specs.Shape.{arguments_marked, marks_of_world}
use Rattle.cm_relation.specs.Relation.{IfBoth}
use Rattle.cm_story.specs.Tale.{Asks, Needs, Ends}
use Rattle.cm_story.specs.Story.{Story, story_of}
use Rattle.cm_story.specs.Following.{Look, cells_in, looks}
use Rattle.cm_story.specs.Touches.{Misses, Apart, AreCells}
use Rattle.cm_story.proofs.Local.{world_touched}
use Rattle.cm_story.proofs.Places.{looked, looks_typed}
use Rattle.cm_twin.specs.Names.{Names, named, AreTwins, AreTwinCells, cell_named, value_type}
use Rattle.cm_twin.specs.Twins.{AreTwinArguments, AreTwinsAt, IsTwin, DoAlike}
use Rattle.cm_twin.specs.Own.{AreUndone, entry, IsOwnTwin}
use Rattle.cm_twin.proofs.Stories.{Like, chain_like}
use Rattle.cm_twin.proofs.Twins.{call_twin, twin_alike}
use Rattle.cm_twin.proofs.Everywhere.{named_alike, cell_alike, arguments_alike}
use Rattle.cm_twin.proofs.Undone.{HaveTwins, left_undone, right_undone, arguments_undone, cells_undone}

false_true : false ≡ true → ⊥
false_true e = cc

-- one of these
abbrev IsIn : CellName → List CellName → Type 0
IsIn c [] = ⊥
IsIn c (d ∷ ds) = (c ≡ d) ⊎ IsIn c ds

module _ (t : Tables) (names : Names) where
  abbrev new : CellName → CellName
  new = cell_named t names.there

  -- the keys of cells have twins
  abbrev TwinCells : List CellName → Type 0
  TwinCells [] = Unit {0}
  TwinCells (c ∷ cs) = AreTwinCells t names c (new c) × TwinCells cs

  -- so it is where a story is like another and its cells' first values have twins
  keys_of : (o : Look) (c e : Story) → Like t names c e → HaveTwins t names o (cells_in o c) → TwinCells (cells_in o c)
  keys_of o (Asks d k) e h have = keys_of o (k d) (h.0 d) h.2 have
  keys_of o (Needs c k) e h have = (
    subst (AreTwinCells t names c) (sym h.3.0) h.3,
    keys_of o (k (o c)) (h.1 (named t names.there (o c) (value_type t c.state)))
        (h.4 (o c) (named t names.there (o c) (value_type t c.state)) have.0) have.1,
  )
  keys_of o (Ends b) e h have = tt

  twin_in : (cs : List CellName) (c : CellName) → TwinCells cs → IsIn c cs → AreTwinCells t names c (new c)
  twin_in (d ∷ cs) c twins (inl e) = subst (λ x. AreTwinCells t names x (new x)) (sym e) twins.0
  twin_in (d ∷ cs) c twins (inr more) = twin_in cs c twins.1 more
  twin_in [] c twins none = absurd none

  -- cells that are one under the new names are one
  one_cell : (c d : CellName) → AreTwinCells t names c (new c) → AreTwinCells t names d (new d)
      → same_cell (new c) (new d) ≡ true → c ≡ d
  one_cell c d h g e =
      sym h.1 ∙ ap (cell_named t names.back) (same_cell_equal (new c) (new d) e) ∙ g.1

  two_cells : (c d : CellName) → AreTwinCells t names c (new c) → AreTwinCells t names d (new d) → (c ≡ d → ⊥)
      → same_cell (new c) (new d) ≡ false
  two_cells c d h g apart = by (same_cell (new c) (new d)) refl
    where
      by : (b : Bool) → same_cell (new c) (new d) ≡ b → b ≡ false
      by true e = absurd (apart (one_cell c d h g e))
      by false e = refl

  module _ (s : Store) where
    abbrev value_of : CellName → Value
    value_of c = named t names.there (looks s c) (value_type t c.state)

    found : (cs : List CellName) (c : CellName) → TwinCells cs → AreTwinCells t names c (new c) → IsIn c cs
        → exception_of (map (entry t names s) cs) (new c) ≡ Some (value_of c)
    found (d ∷ cs) c twins twin is = by (same_cell (new d) (new c)) refl is (found cs c twins.1 twin)
      where
        by : (b : Bool) → same_cell (new d) (new c) ≡ b → (c ≡ d) ⊎ IsIn c cs
            → (IsIn c cs → exception_of (map (entry t names s) cs) (new c) ≡ Some (value_of c))
            → (if b then Some (value_of d) else exception_of (map (entry t names s) cs) (new c)) ≡ Some (value_of c)
        by true e at rest = ap (λ x. Some (value_of x)) (one_cell d c twins.0 twin e)
        by false e (inl same) rest =
            absurd (false_true (sym e ∙ ap (λ x. same_cell (new x) (new c)) (sym same) ∙ same_cell_self (new c)))
        by false e (inr more) rest = rest more
    found [] c twins twin none = absurd none

    unnamed : (cs : List CellName) (c : CellName) → TwinCells cs → AreTwinCells t names c (new c) → Misses c cs
        → exception_of (map (entry t names s) cs) (new c) ≡ None
    unnamed [] c twins twin misses = refl
    unnamed (d ∷ cs) c twins twin misses =
        ap (λ b. if b then Some (value_of d) else exception_of (map (entry t names s) cs) (new c))
        (two_cells d c twins.0 twin (λ e. misses.0 (sym e)))
        ∙ unnamed cs c twins.1 twin misses.1

    apart_all : (cs : List CellName) → TwinCells cs → Apart cs → are_apart (map (entry t names s) cs) ≡ true
    apart_all [] twins apart = refl
    apart_all (c ∷ cs) twins apart =
        and_from (not (is_there (exception_of (map (entry t names s) cs) (new c))))
        (are_apart (map (entry t names s) cs))
        (ap (λ o. not (is_there o)) (unnamed cs c twins.1 twins.0 apart.0)) (apart_all cs twins.1 apart.1)

    typed_all : IsStateOf t s → (cs : List CellName) → AreCells t cs
        → list_all (is_exception t) (map (entry t names s) cs) ≡ true
    typed_all state [] are = refl
    typed_all state (c ∷ cs) are =
        and_from (is_exception t (entry t names s c)) (list_all (is_exception t) (map (entry t names s) cs))
        (and_from (is_cell t (new c)) (is_value_in t (slice_get t.states c.state) (value_of c))
        (cell_alike t names.there c ∙ are.0)
        (by (slice_get t.states c.state) ∙ looks_typed t s state c are.0)) (typed_all state cs are.1)
      where
        by : (o : Option StateDecl) → is_value_in t o (value_of c) ≡ is_value_in t o (looks s c)
        by (Some d) = named_alike t names.there (looks s c) (value_type t c.state) d.value
        by None = refl

    cells_all : (cs : List CellName) → map (λ (e : Except). e.cell) (map (entry t names s) cs) ≡ map new cs
    cells_all [] = refl
    cells_all (c ∷ cs) = ap (λ l. new c ∷ l) (cells_all cs)

    twins_at : IsStateOf t s → (u : Store) (all cs : List CellName) → u.exceptions ≡ map (entry t names s) all
        → TwinCells all → ((c : CellName) → IsIn c cs → IsIn c all) → AreCells t cs → HaveTwins t names (looks s) cs
        → AreTwinsAt t names s u cs
    twins_at state u all [] is twins among are have = tt
    twins_at state u all (c ∷ cs) is twins among are have =
        let at = among c (inl refl) in
        let there : look_up u (new c) ≡ Some (value_of c) =
        ap (λ es. or_default (exception_of es (new c)) (slice_get u.defaults c.state)) is
        ∙ ap (λ o. or_default o (slice_get u.defaults c.state)) (found all c twins (twin_in all c twins at) at) in (
          subst (λ o. IfBoth (AreTwins t names (value_type t c.state)) o (look_up u (new c)))
              (sym (looked t s state c are.0))
              (subst (λ o. IfBoth (AreTwins t names (value_type t c.state)) (Some (looks s c)) o) (sym there) have.0),
          twins_at state u all cs is twins (λ d more. among d (inr more)) are.1 have.1,
        )

  module _ (typed : IsWellTyped t) where
    defaults_are : (ds : List StateDecl) → list_all (is_state t) ds ≡ true
        → are_values_of t (map (λ d. d.value) ds) (map (λ d. least_of t d.value) ds) ≡ true
    defaults_are [] all = refl
    defaults_are (d ∷ ds) all =
        let both = and_parts (is_state t d) (list_all (is_state t) ds) all in
        let in_use = (and_parts (is_type_in_use t d.value) _ (and_parts (is_key_type t d.key) _ both.0).1).0 in
        and_from (is_value_of t d.value (least_of t d.value))
        (are_values_of t (map (λ d. d.value) ds) (map (λ d. least_of t d.value) ds))
        (least_is_value t typed d.value (and_parts (is_type_before t _ d.value) _ in_use).0) (defaults_are ds both.1)

    -- what is so of a twin that names the touched cells alone
    pub record OwnTwin (p : Pair) (w u : World) : Type 0 where
      pub is_world : IsWorldOf t p u
      pub twin : IsTwin t p names w u
      pub alike : DoAlike t p names w u
      pub exceptions : map (λ e. e.cell) u.init.exceptions ≡ touched_cells t p u

    pub own_twin : (p : Pair) (w u : World) → IsWorldOf t p w → AreUndone names (marks_of_world t p w)
        → IsOwnTwin t p names w u → OwnTwin p w u
    own_twin p w u is undone own =
        let behind_a = right_undone t names (arguments_marked t (slice_get t.calls p.a) w.a.vals) _ undone in
        let a : AreTwinArguments t names (slice_get t.calls p.a) w.a.vals u.a.vals =
        subst (AreTwinArguments t names (slice_get t.calls p.a) w.a.vals) (sym own.a)
        (arguments_undone t names (slice_get t.calls p.a) w.a.vals is.a
        (left_undone t names (arguments_marked t (slice_get t.calls p.a) w.a.vals) _ undone)) in
        let b : AreTwinArguments t names (slice_get t.calls p.b) w.b.vals u.b.vals =
        subst (AreTwinArguments t names (slice_get t.calls p.b) w.b.vals) (sym own.b)
        (arguments_undone t names (slice_get t.calls p.b) w.b.vals is.b
        (left_undone t names (arguments_marked t (slice_get t.calls p.b) w.b.vals) _ behind_a)) in
        let have : HaveTwins t names (looks w.init) (touched_cells t p w) =
        cells_undone t names w.init (touched_cells t p w)
        (right_undone t names (arguments_marked t (slice_get t.calls p.b) w.b.vals) _ behind_a) in
        let touched = world_touched t typed p w is in
        let a_does = call_twin t names typed p.a w.a.vals u.a.vals a in
        let b_does = call_twin t names typed p.b w.b.vals u.b.vals b in
        let like : Like t names (story_of t p w.a.vals w.b.vals) (story_of t p u.a.vals u.b.vals) =
        chain_like t names typed a_does.0 b_does.0 (call_of t p.a w.a.vals) (call_of t p.b w.b.vals)
        (call_of t p.a u.a.vals) (call_of t p.b u.b.vals) a_does.1 b_does.1 in
        let twins : TwinCells (touched_cells t p w) =
        subst TwinCells (sym touched.told) (keys_of (looks w.init) (story_of t p w.a.vals w.b.vals)
        (story_of t p u.a.vals u.b.vals) like (subst (HaveTwins t names (looks w.init)) touched.told have)) in
        let twin : IsTwin t p names w u = record {
          a = a;
          b = b;
          cells = twins_at w.init is.init u.init (touched_cells t p w) (touched_cells t p w) own.exceptions twins
              (λ c at. at) touched.cells have;
        } in
        let world : IsWorldOf t p u = record {
          init = record {
            defaults = ap (are_values_of t (map (λ d. d.value) t.states)) own.defaults
                ∙ defaults_are t.states typed.cells;
            exceptions = ap (list_all (is_exception t)) own.exceptions
                ∙ typed_all w.init is.init (touched_cells t p w) touched.cells;
            apart = ap are_apart own.exceptions ∙ apart_all w.init (touched_cells t p w) twins touched.apart;
          };
          a = ap (are_arguments t p.a) own.a ∙ arguments_alike t names.there (slice_get t.calls p.a) w.a.vals ∙ is.a;
          b = ap (are_arguments t p.b) own.b ∙ arguments_alike t names.there (slice_get t.calls p.b) w.b.vals ∙ is.b;
        } in
        let alike = twin_alike t names typed p w u is world twin in
        record {
          is_world = world;
          twin = twin;
          alike = alike;
          exceptions = ap (map (λ (e : Except). e.cell)) own.exceptions ∙ cells_all w.init (touched_cells t p w)
              ∙ sym alike.touches;
        }

-- Each look-up of typed values is that of a world, as far as the story looks.
use Rattle.std.proofs.Common.{◌≡◌, ℕ, zero, suc, Bool, true, false, not, ◌&&◌, List, [], ◌∷◌, map, Some, None}
use Rattle.std.proofs.Common.{slice_get, IsTrue, refl, sym, ap, ◌∙◌, subst, if◌then◌else◌}
use Rattle.std.specs.List.{list_all}
use Rattle.std.proofs.lemmas.Bool.{and_parts, and_from, false_from_ne_true}
use Rattle.cm_model.specs.Tables.{Tables}
use Rattle.cm_model.specs.Types.{is_type_before, is_type_in_use}
use Rattle.cm_model.specs.WellTyped.{IsWellTyped, is_state, is_key_type, is_invariant}
use Rattle.cm_model.specs.declared.body.StateDecl.{StateDecl}
use Rattle.cm_model.specs.declared.pair.Pair.{Pair}
use Rattle.cm_value.specs.declared.value.Value.{Value}
use Rattle.cm_value.specs.Least.{least_of}
use Rattle.cm_value.specs.Membership.{is_value_of, are_values_of}
use Rattle.cm_value.proofs.LeastMember.{least_is_value}
use Rattle.cm_eval.specs.declared.log.CellName.{CellName}
use Rattle.cm_eval.specs.State.{exception_of, same_cell, or_default}
use Rattle.cm_eval.proofs.Same.{same_cell_equal, same_cell_self}
use Rattle.cm_world.specs.World.{IsWorldOf, is_cell, is_exception, is_value_in, are_apart, is_there}
use Rattle.cm_world.specs.World.{are_arguments}
use Rattle.cm_story.specs.Story.{Story, story_of}
use Rattle.cm_story.specs.Following.{Look, cells_in, looks, or_filler}
use Rattle.cm_story.specs.Touches.{Misses, Apart, AreCells, IsLook}
use Rattle.cm_story.specs.Seen.{seen_exceptions, seen_store, seen_world, IsSeen}
use Rattle.cm_story.proofs.Followed.{AgreeAt, agreeing}
use Rattle.cm_story.proofs.Worlds.{path_told, cells_told, commutes_told}
use Rattle.cm_story.proofs.Distinct.{cells_apart}
use Rattle.cm_story.proofs.Typed.{cells_typed}

module _ (o : Look) where
  abbrev Found : List CellName → CellName → Type 0
  Found cs c = (i : ℕ) → slice_get cs i ≡ Some c → exception_of (seen_exceptions o cs) c ≡ Some (o c)

  -- each of the cells is found
  found : (cs : List CellName) (i : ℕ) (c : CellName) → slice_get cs i ≡ Some c
      → exception_of (seen_exceptions o cs) c ≡ Some (o c)
  found [] i c at = absurd (cc)
  found (d ∷ cs) i c at = by (same_cell d c) refl (λ j h. found cs j c h)
    where
      later : (j : ℕ) → slice_get (d ∷ cs) j ≡ Some c → same_cell d c ≡ false → Found cs c
          → exception_of (seen_exceptions o cs) c ≡ Some (o c)
      later zero at differ more =
          let same : d ≡ c = cc in
          let yes : same_cell d c ≡ true = subst (λ x. same_cell d x ≡ true) same (same_cell_self d) in
          absurd (cc)
      later (suc j) at differ more = more j at

      by : (b : Bool) → same_cell d c ≡ b → Found cs c
          → (if same_cell d c then Some (o d) else exception_of (seen_exceptions o cs) c) ≡ Some (o c)
      by true same more =
          ap (λ b. if b then Some (o d) else exception_of (seen_exceptions o cs) c) same
          ∙ ap (λ x. Some (o x)) (same_cell_equal d c same)
      by false same more =
          ap (λ b. if b then Some (o d) else exception_of (seen_exceptions o cs) c) same ∙ later i at same more

  none : (c : CellName) (cs : List CellName) → Misses c cs → exception_of (seen_exceptions o cs) c ≡ None
  none c [] misses = refl
  none c (d ∷ cs) misses =
      ap (λ b. if b then Some (o d) else exception_of (seen_exceptions o cs) c)
      (false_from_ne_true (same_cell d c) (λ same. misses.0 (sym (same_cell_equal d c same))))
      ∙ none c cs misses.1

  exceptions_apart : (cs : List CellName) → Apart cs → are_apart (seen_exceptions o cs) ≡ true
  exceptions_apart [] apart = refl
  exceptions_apart (c ∷ cs) apart =
      and_from (not (is_there (exception_of (seen_exceptions o cs) c))) (are_apart (seen_exceptions o cs))
      (ap (λ x. not (is_there x)) (none c cs apart.0)) (exceptions_apart cs apart.1)

  -- the cells are those of the exceptions
  cells_of : (cs : List CellName) → map (λ e. e.cell) (seen_exceptions o cs) ≡ cs
  cells_of [] = refl
  cells_of (c ∷ cs) = ap (λ xs. c ∷ xs) (cells_of cs)

  module _ (t : Tables) where
    agree_at : (all cs : List CellName)
        → ((i : ℕ) (c : CellName) → slice_get cs i ≡ Some c → exception_of (seen_exceptions o all) c ≡ Some (o c))
        → AgreeAt o (looks (seen_store t o all)) cs
    agree_at all [] h = tt
    agree_at all (c ∷ cs) h = (
      sym (ap (λ x. or_filler (or_default x (slice_get (map (λ d. least_of t d.value) t.states) c.state)))
          (h zero c refl)),
      agree_at all cs (λ i d at. h (suc i) d at),
    )

    exceptions_fit : IsLook t o → (cs : List CellName) → AreCells t cs
        → list_all (is_exception t) (seen_exceptions o cs) ≡ true
    exceptions_fit look [] are = refl
    exceptions_fit look (c ∷ cs) are =
        and_from (is_cell t c && is_value_in t (slice_get t.states c.state) (o c))
        (list_all (is_exception t) (seen_exceptions o cs))
        (and_from (is_cell t c) (is_value_in t (slice_get t.states c.state) (o c)) are.0 (look c are.0))
        (exceptions_fit look cs are.1)

module _ (t : Tables) (typed : IsWellTyped t) where
  -- each state's least value is one of its type
  defaults_fit : (ds : List StateDecl) → list_all (is_state t) ds ≡ true
      → are_values_of t (map (λ d. d.value) ds) (map (λ d. least_of t d.value) ds) ≡ true
  defaults_fit [] all = refl
  defaults_fit (d ∷ ds) all =
      let parts = and_parts (is_state t d) (list_all (is_state t) ds) all in
      let state = and_parts (is_key_type t d.key) (is_type_in_use t d.value && is_invariant t d.value d.inv) parts.0 in
      let in_use = and_parts (is_type_in_use t d.value) (is_invariant t d.value d.inv) state.1 in
      and_from (is_value_of t d.value (least_of t d.value)) _
      (least_is_value t typed d.value (and_parts (is_type_before t _ d.value) _ in_use.0).0) (defaults_fit ds parts.1)

  module _ (p : Pair) (a b : List Value) (o : Look) (are_a : IsTrue (are_arguments t p.a a))
      (are_b : IsTrue (are_arguments t p.b b)) (look : IsLook t o) where
    abbrev story : Story
    story = story_of t p a b

    seen_typed : IsWorldOf t p (seen_world t p a b o)
    seen_typed = record {
      init = record {
        defaults = defaults_fit t.states typed.cells;
        exceptions = exceptions_fit o t look (cells_in o story) (cells_typed t o look typed p a b are_a are_b);
        apart = exceptions_apart o (cells_in o story) (cells_apart t p a b o);
      };
      a = are_a;
      b = are_b;
    }

    -- the world that is seen through it is one of the pair, and does what the story tells
    pub is_seen : IsSeen t p a b o (seen_world t p a b o)
    is_seen =
        let first : Look = looks (seen_store t o (cells_in o story)) in
        let same = agreeing o first story (agree_at o t (cells_in o story) (cells_in o story)
        (found o (cells_in o story))) in
        let ends = commutes_told t typed p (seen_world t p a b o) seen_typed in
        let cells = cells_told t typed p (seen_world t p a b o) seen_typed ∙ sym same.cells in
        record {
          is_world = seen_typed;
          path = path_told t typed p (seen_world t p a b o) seen_typed ∙ sym same.path;
          touches = cells;
          commutes = ((λ h. subst IsTrue (sym same.end) (ends.0 h)), (λ h. ends.1 (subst IsTrue same.end h)));
          exceptions = cells_of o (cells_in o story) ∙ sym cells;
          defaults = refl;
        }

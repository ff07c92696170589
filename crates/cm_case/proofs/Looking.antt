-- What a state of the model holds for any cell of a declared state, whatever its key is.
use Rattle.std.proofs.Common.{◌≡◌, ◌<◌, Bool, true, false, List, [], ◌∷◌, map, length, slice_get, Option}
use Rattle.std.proofs.Common.{Some, None, refl, sym, ap, ◌∙◌, arith, if◌then◌else◌}
use Rattle.std.specs.List.{list_all}
use Rattle.std.specs.Option.{option_map}
use Rattle.std.proofs.lemmas.Bool.{and_parts}
use Rattle.std.proofs.lemmas.Option.{slice_get_within, slice_get-get_or, slice_get-map}
use Rattle.cm_model.specs.Tables.{Tables}
use Rattle.cm_model.specs.declared.body.StateDecl.{StateDecl}
use Rattle.cm_value.specs.declared.value.Value.{Value}
use Rattle.cm_value.specs.Membership.{is_value_of}
use Rattle.cm_value.proofs.Members.{value_at}
use Rattle.cm_eval.specs.declared.log.CellName.{CellName}
use Rattle.cm_eval.specs.declared.state.Except.{Except}
use Rattle.cm_eval.specs.State.{Store, look_up, same_cell, exception_of, or_default}
use Rattle.cm_eval.proofs.Same.{same_cell_equal}
use Rattle.cm_world.specs.World.{IsStateOf, is_cell, is_exception, is_value_in}
use Rattle.cm_world.proofs.Typed.{one_default_each}
use Rattle.cm_story.specs.Story.{filler}
use Rattle.cm_story.specs.Following.{looks, or_filler}

module _ (t : Tables) where
  exception_typed : (es : List Except) → list_all (is_exception t) es ≡ true → (c : CellName) (x : Value)
      → exception_of es c ≡ Some x → is_value_in t (slice_get t.states c.state) x ≡ true
  exception_typed [] all c x at = absurd (cc)
  exception_typed (e ∷ es) all c x at = by (same_cell e.cell c) refl at (exception_typed es parts.1 c x)
    where
      parts : (is_exception t e ≡ true) × (list_all (is_exception t) es ≡ true)
      parts = and_parts (is_exception t e) (list_all (is_exception t) es) all

      by : (b : Bool) → same_cell e.cell c ≡ b → (if b then Some e.value else exception_of es c) ≡ Some x
          → (exception_of es c ≡ Some x → is_value_in t (slice_get t.states c.state) x ≡ true)
          → is_value_in t (slice_get t.states c.state) x ≡ true
      by true same is later =
          let one : e.value ≡ x = cc in
          let cell : e.cell ≡ c = same_cell_equal e.cell c same in
          sym (ap (λ d. is_value_in t (slice_get t.states d.state) x) cell)
          ∙ sym (ap (is_value_in t (slice_get t.states e.cell.state)) one)
          ∙ (and_parts (is_cell t e.cell) (is_value_in t (slice_get t.states e.cell.state) e.value) parts.0).1
      by false same is later = later is

  module _ (s : Store) (state : IsStateOf t s) (c : CellName) (d : StateDecl)
      (at : slice_get t.states c.state ≡ Some d) where
    -- it holds a value
    pub held_there : look_up s c ≡ Some (looks s c)
    held_there = by (exception_of s.exceptions c)
      where
        there : c.state < length s.defaults
        there =
            let lt = slice_get_within t.states c.state d at in
            let many = one_default_each t s state in
            omega (arith, lt, many)

        by : (o : Option Value)
            → or_default o (slice_get s.defaults c.state)
            ≡ Some (or_filler (or_default o (slice_get s.defaults c.state)))
        by (Some x) = refl
        by None =
            let is = slice_get-get_or s.defaults c.state filler there in
            is ∙ sym (ap (λ o. Some (or_filler o)) is)

    -- which is of its state's value type
    pub held_typed : is_value_of t d.value (looks s c) ≡ true
    held_typed = by (exception_of s.exceptions c) refl held_there
      where
        by : (o : Option Value) → exception_of s.exceptions c ≡ o
            → or_default o (slice_get s.defaults c.state) ≡ Some (looks s c) → is_value_of t d.value (looks s c) ≡ true
        by (Some x) is holds =
            let same : Some x ≡ Some (looks s c) = holds in
            let found = exception_typed s.exceptions state.exceptions c (looks s c) (is ∙ same) in
            sym (ap (λ o. is_value_in t o (looks s c)) at) ∙ found
        by None is holds =
            value_at t (map (λ (x : StateDecl). x.value) t.states) s.defaults c.state d.value (looks s c) state.defaults
            (slice_get-map (λ (x : StateDecl). x.value) t.states c.state
            ∙ ap (option_map (λ (x : StateDecl). x.value)) at) holds

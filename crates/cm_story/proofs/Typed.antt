-- The cells that a story of typed arguments touches are cells of the model, where each has a first value of its type.
use Rattle.std.proofs.Common.{◌≡◌, ℕ, zero, suc, ◌+◌, ◌==◌, Bool, true, false, ◌&&◌, List, [], ◌∷◌, ◌++◌, length}
use Rattle.std.proofs.Common.{Option, Some, None, slice_get, slice_set, get_or, IsTrue, refl, sym, ap, ◌∙◌, subst}
use Rattle.std.proofs.Common.{arith, append_assoc, length-append, if◌then◌else◌}
use Rattle.cm_model.specs.Tables.{Tables}
use Rattle.cm_model.specs.WellTyped.{IsWellTyped}
use Rattle.cm_model.specs.declared.body.Expr.{Expr}
use Rattle.cm_model.specs.declared.body.StateDecl.{StateDecl}
use Rattle.cm_model.specs.declared.pair.Pair.{Pair}
use Rattle.cm_value.specs.declared.value.Value.{Value}
use Rattle.cm_eval.specs.declared.log.CellName.{CellName}
use Rattle.cm_eval.specs.Script.{Replies, Blocks, Decides, Reads, Writes}
use Rattle.cm_eval.specs.State.{same_key, same_cell}
use Rattle.cm_eval.specs.Evaluation.{Doing, call_of, invariant_of}
use Rattle.cm_eval.proofs.Same.{same_cell_equal}
use Rattle.cm_eval.proofs.Comparing.{comparison_goes}
use Rattle.cm_world.specs.World.{IsCellOf, are_arguments}
use Rattle.cm_world.proofs.TypedScripts.{IsCellValue, IsTypedScript}
use Rattle.cm_story.specs.Tale.{Asks, Ends}
use Rattle.cm_story.specs.Story.{Story, StoryCells, no_cells, with_new, with_written, turned, held, filler, blocked}
use Rattle.cm_story.specs.Story.{asked, checked, keys_compared, cells_compared, searched, added, touched_with, touched}
use Rattle.cm_story.specs.Story.{play, Both, compared, are_same, pairs_inspected, story_of}
use Rattle.cm_story.specs.Following.{Look, cells_in}
use Rattle.cm_story.specs.Touches.{AreCells, IsLook}
use Rattle.cm_story.proofs.Compared.{inspected_beside}
use Rattle.cm_story.proofs.Places.{at_middle}
use Rattle.cm_story.proofs.Runs.{AnyReply}
use Rattle.cm_story.proofs.Worlds.{call_typed}

module _ (t : Tables) where
  -- each cell holds a value of its type
  abbrev HoldAll : List CellName → List Value → Type 0
  HoldAll [] [] = Unit {0}
  HoldAll [] (v ∷ vs) = ⊥
  HoldAll (c ∷ cs) [] = ⊥
  HoldAll (c ∷ cs) (v ∷ vs) = IsCellValue t c v × HoldAll cs vs

  hold_more : (cs : List CellName) (vs : List Value) (c : CellName) (v : Value) → HoldAll cs vs → IsCellValue t c v
      → HoldAll (cs ++ c ∷ []) (vs ++ v ∷ [])
  hold_more [] [] c v h is = (is, tt)
  hold_more [] (w ∷ vs) c v h is = absurd h
  hold_more (d ∷ cs) [] c v h is = absurd h
  hold_more (d ∷ cs) (w ∷ vs) c v h is = (h.0, hold_more cs vs c v h.1 is)

  hold_set : (cs : List CellName) (vs : List Value) (i : ℕ) (c : CellName) (v : Value) → HoldAll cs vs
      → slice_get cs i ≡ Some c → IsCellValue t c v → HoldAll cs (slice_set vs i v)
  hold_set [] [] i c v h at is = h
  hold_set [] (w ∷ vs) i c v h at is = absurd h
  hold_set (d ∷ cs) [] i c v h at is = absurd h
  hold_set (d ∷ cs) (w ∷ vs) zero c v h at is =
      let same : d ≡ c = cc in
      (subst (λ x. IsCellValue t x v) (sym same) is, h.1)
  hold_set (d ∷ cs) (w ∷ vs) (suc i) c v h at is = (h.0, hold_set cs vs i c v h.1 at is)

  hold_at : (cs : List CellName) (vs : List Value) (i : ℕ) (c : CellName) → HoldAll cs vs → slice_get cs i ≡ Some c
      → IsCellValue t c (get_or vs i filler)
  hold_at [] vs i c h at = absurd (cc)
  hold_at (d ∷ cs) [] i c h at = absurd h
  hold_at (d ∷ cs) (w ∷ vs) zero c h at =
      let same : d ≡ c = cc in
      subst (λ x. IsCellValue t x w) same h.0
  hold_at (d ∷ cs) (w ∷ vs) (suc i) c h at = hold_at cs vs i c h.1 at

  -- the cells hold values of their types in both orders
  pub record Holds (cs : StoryCells) : Type 0 where
    pub now : HoldAll cs.places cs.now
    pub other : HoldAll cs.places cs.other

  module _ (o : Look) (look : IsLook t o) where
    abbrev OfModel : Story → Type 0
    OfModel s = AreCells t (cells_in o s)

    keys_typed : (k m : Option Value) (f : Bool → Story) → OfModel (f (same_key k m)) → OfModel (keys_compared k m f)
    keys_typed None None f h = h
    keys_typed None (Some w) f h = h
    keys_typed (Some v) None f h = h
    keys_typed (Some v) (Some w) f h = comparison_goes Story blocked Asks OfModel (λ d k g. g) tt v w f h

    one_typed : (c d : CellName) (f : Bool → Story) → (c ≡ d → OfModel (f true)) → OfModel (f false)
        → OfModel (cells_compared c d f)
    one_typed c d f one two = by (c.state == d.state) (at (same_cell c d) refl)
      where
        at : (b : Bool) → same_cell c d ≡ b → OfModel (f b)
        at true is = one (same_cell_equal c d is)
        at false is = two

        by : (b : Bool) → OfModel (f (b && same_key c.key d.key))
            → OfModel (if b then keys_compared c.key d.key f else f false)
        by true h = keys_typed c.key d.key f h
        by false h = h

    asked_typed : (d : Doing) (more : Story) → OfModel more → OfModel (asked d more)
    asked_typed (Replies v) more h = h
    asked_typed Blocks more h = tt
    asked_typed (Decides d k) more h = asked_typed (k d) more h
    asked_typed (Reads c k) more h = tt
    asked_typed (Writes c v k) more h = tt

    checked_typed : (inv : Option Expr) (v : Value) (more : Story) → OfModel more → OfModel (checked t.ints inv v more)
    checked_typed None v more h = h
    checked_typed (Some e) v more h = asked_typed (invariant_of t.ints e v) more h

    searched_typed : (ps left done : List CellName) (i : ℕ) (c : CellName) (found : ℕ → Story) (fresh : Story)
        → ps ≡ done ++ left → i ≡ length done → ((j : ℕ) → slice_get ps j ≡ Some c → OfModel (found j))
        → OfModel fresh → OfModel (searched left i c found fresh)
    searched_typed ps [] done i c found fresh split is each last = last
    searched_typed ps (d ∷ left) done i c found fresh split is each last =
        one_typed c d (λ s. if s then found i else searched left (i + 1) c found fresh)
        (λ e. each i (subst (λ cs. slice_get cs i ≡ Some c) (sym split)
        (ap (λ x. slice_get (done ++ x ∷ left) i) (sym e) ∙ at_middle done left c i is)))
        (searched_typed ps left (done ++ d ∷ []) (i + 1) c found fresh (split ∙ sym (append_assoc done (d ∷ []) left))
        (omega (arith, length-append done (d ∷ []))) each last)

    new_holds : (cs : StoryCells) (c : CellName) → IsCellOf t c → Holds cs → Holds (with_new cs c (o c))
    new_holds cs c cell holds = record {
      now = hold_more cs.places cs.now c (o c) holds.now (look c cell);
      other = hold_more cs.places cs.other c (o c) holds.other (look c cell);
    }

    -- what is done after a touch goes on well
    abbrev EachTyped : CellName → (ℕ → StoryCells → Story) → Type 0
    EachTyped c k = (i : ℕ) (more : StoryCells) → slice_get more.places i ≡ Some c → Holds more → OfModel (k i more)

    touched_typed : (c : CellName) → IsCellOf t c → (cs : StoryCells) (k : ℕ → StoryCells → Story) → Holds cs
        → EachTyped c k → OfModel (touched t.ints t.states c cs k)
    touched_typed c cell cs k holds each = by (slice_get t.states c.state)
      where
        fresh : (inv : Option Expr) → OfModel (added t.ints inv c cs k)
        fresh inv = (
          cell,
          checked_typed inv (o c) (k (length cs.places) (with_new cs c (o c)))
              (each (length cs.places) (with_new cs c (o c)) (at_middle cs.places [] c (length cs.places) refl)
              (new_holds cs c cell holds)),
        )

        by : (d : Option StateDecl) → OfModel (touched_with t.ints d c cs k)
        by (Some d) = searched_typed cs.places cs.places [] 0 c (λ i. k i cs) (added t.ints d.inv c cs k) refl refl
            (λ i at. each i cs at holds) (fresh d.inv)
        by None = tt

    play_typed : (d : Doing) → IsTypedScript t AnyReply d → (cs : StoryCells) (k : Value → StoryCells → Story)
        → Holds cs → ((v : Value) (more : StoryCells) → Holds more → OfModel (k v more))
        → OfModel (play t.ints t.states d cs k)
    play_typed (Replies v) fits cs k holds each = each v cs holds
    play_typed Blocks fits cs k holds each = tt
    play_typed (Decides d f) fits cs k holds each = play_typed (f d) fits cs k holds each
    play_typed (Reads c f) fits cs k holds each =
        touched_typed c fits.0 cs (λ i more. play t.ints t.states (f (held more i)) more k) holds (λ i more at holds.
        play_typed (f (held more i)) (fits.1 (held more i) (hold_at more.places more.now i c holds.now at)) more k
        holds each)
    play_typed (Writes c v f) fits cs k holds each =
        touched_typed c fits.0 cs (λ i more. play t.ints t.states f (with_written more i v) k) holds (λ i more at holds.
        play_typed f fits.2 (with_written more i v) k (record {
          now = hold_set more.places more.now i c v holds.now at fits.1;
          other = holds.other;
        }) each)

    last_typed : (qs : List Both) (s : Story) → OfModel s → OfModel (pairs_inspected qs s)
    last_typed [] s h = h
    last_typed (q ∷ qs) s h =
        inspected_beside Story Story blocked blocked Asks Asks (λ x y. OfModel x) tt (λ d k l g. g)
        q.0 q.1 (pairs_inspected qs s) (pairs_inspected qs s) (last_typed qs s h)

    turned_holds : (cs : StoryCells) → Holds cs → Holds (turned cs)
    turned_holds cs holds = record { now = holds.other; other = holds.now }

    pub cells_typed : IsWellTyped t → (p : Pair) (a b : List Value) → IsTrue (are_arguments t p.a a)
        → IsTrue (are_arguments t p.b b) → AreCells t (cells_in o (story_of t p a b))
    cells_typed typed p a b are_a are_b =
        let a_typed = call_typed t typed p.a a are_a in
        let b_typed = call_typed t typed p.b b are_b in
        play_typed (call_of t p.a a) a_typed no_cells _ (record { now = tt; other = tt }) (λ v cs h.
        play_typed (call_of t p.b b) b_typed cs _ h (λ w cs h.
        play_typed (call_of t p.b b) b_typed (turned cs) _ (turned_holds cs h) (λ x cs h.
        play_typed (call_of t p.a a) a_typed cs _ h (λ y cs h.
        last_typed (compared v w x y cs) (Ends (are_same (compared v w x y cs))) tt))))

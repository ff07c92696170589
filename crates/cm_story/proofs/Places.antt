-- Cells that are apart, and what a state has for them.
use Rattle.std.proofs.Common.{◌≡◌, ℕ, zero, suc, ◌<◌, Bool, true, false, List, [], ◌∷◌, ◌++◌, map, length, Option, Some}
use Rattle.std.proofs.Common.{None, slice_get, slice_set, get_or, refl, sym, ap, ◌∙◌, subst, arith}
use Rattle.std.proofs.lemmas.Option.{slice_get_within, slice_get-get_or}
use Rattle.cm_model.specs.Tables.{Tables}
use Rattle.cm_model.specs.declared.body.StateDecl.{StateDecl}
use Rattle.cm_value.specs.declared.value.Value.{Value}
use Rattle.cm_eval.specs.declared.log.CellName.{CellName}
use Rattle.cm_eval.specs.State.{Store, look_up, put, same_cell, exception_of, or_default}
use Rattle.cm_eval.specs.Invariant.{MeetsInvariant}
use Rattle.cm_eval.proofs.Same.{same_cell_equal, same_cell_self}
use Rattle.cm_eval.proofs.Storing.{look_up_put, look_up_elsewhere}
use Rattle.cm_world.specs.World.{IsStateOf, IsCellOf, is_cell_in}
use Rattle.cm_world.proofs.Typed.{one_default_each}
use Rattle.cm_world.proofs.TypedScripts.{IsCellValue}
use Rattle.cm_world.proofs.TypedRuns.{look_up_typed}
use Rattle.cm_story.specs.Story.{filler}
use Rattle.cm_story.specs.Following.{Look, looks, or_filler}
use Rattle.cm_story.specs.Touches.{Misses, Apart, AreCells, AllMeet}

pub cells_differ : (c d : CellName) → same_cell c d ≡ false → c ≡ d → ⊥
cells_differ c d apart is =
    let same : same_cell c d ≡ true = subst (λ x. same_cell c x ≡ true) is (same_cell_self c) in
    cc

-- two cells are one, or they are two
pub one_or_two : (c d : CellName) (X : Type 0) → (c ≡ d → X) → ((c ≡ d → ⊥) → X) → X
one_or_two c d X one two = by (same_cell c d) refl
  where
    by : (b : Bool) → same_cell c d ≡ b → X
    by true is = one (same_cell_equal c d is)
    by false is = two (cells_differ c d is)

pub misses_at : (c : CellName) (ds : List CellName) (i : ℕ) (d : CellName) → Misses c ds → slice_get ds i ≡ Some d
    → c ≡ d → ⊥
misses_at c [] i d m at same = cc
misses_at c (e ∷ ds) zero d m at same = m.0 (cc)
misses_at c (e ∷ ds) (suc i) d m at same = misses_at c ds i d m.1 at same

pub misses_more : (c : CellName) (ds : List CellName) (d : CellName) → Misses c ds → (c ≡ d → ⊥)
    → Misses c (ds ++ d ∷ [])
misses_more c [] d m apart = (apart, tt)
misses_more c (e ∷ ds) d m apart = (m.0, misses_more c ds d m.1 apart)

pub misses_less : (c : CellName) (ds es : List CellName) → Misses c (ds ++ es) → Misses c ds
misses_less c [] es m = tt
misses_less c (d ∷ ds) es m = (m.0, misses_less c ds es m.1)

pub apart_more : (cs : List CellName) (c : CellName) → Apart cs → Misses c cs → Apart (cs ++ c ∷ [])
apart_more [] c apart m = (tt, tt)
apart_more (d ∷ cs) c apart m = (misses_more d cs c apart.0 (λ e. m.0 (sym e)), apart_more cs c apart.1 m.1)

pub cells_more : (t : Tables) (cs : List CellName) (c : CellName) → AreCells t cs → IsCellOf t c
    → AreCells t (cs ++ c ∷ [])
cells_more t [] c are is = (is, tt)
cells_more t (d ∷ cs) c are is = (are.0, cells_more t cs c are.1 is)

pub met_more : (t : Tables) (o : Look) (cs : List CellName) (c : CellName) → AllMeet t o cs
    → MeetsInvariant t c.state (o c) → AllMeet t o (cs ++ c ∷ [])
met_more t o [] c all is = (is, tt)
met_more t o (d ∷ cs) c all is = (all.0, met_more t o cs c all.1 is)

pub at_middle : {X : Type 0} (before more : List X) (x : X) (i : ℕ) → i ≡ length before
    → slice_get (before ++ x ∷ more) i ≡ Some x
at_middle [] more x i e = rw e refl
at_middle (y ∷ before) more x zero e = absurd (omega arith)
at_middle (y ∷ before) more x (suc i) e = at_middle before more x i (omega arith)

-- a cell of the model has a value in each state
pub looked : (t : Tables) (s : Store) → IsStateOf t s → (c : CellName) → IsCellOf t c
    → look_up s c ≡ Some (looks s c)
looked t s state c cell = by (exception_of s.exceptions c)
  where
    declared : (o : Option StateDecl) → slice_get t.states c.state ≡ o → is_cell_in t o c ≡ true
        → c.state < length t.states
    declared (Some d) at is = slice_get_within t.states c.state d at
    declared None at is = absurd (cc)

    there : c.state < length s.defaults
    there =
        let lt = declared (slice_get t.states c.state) refl cell in
        let as_many = one_default_each t s state in
        omega (arith, lt, as_many)

    by : (o : Option Value)
        → or_default o (slice_get s.defaults c.state) ≡ Some (or_filler (or_default o (slice_get s.defaults c.state)))
    by (Some v) = refl
    by None =
        let is = slice_get-get_or s.defaults c.state filler there in
        is ∙ sym (ap (λ o. Some (or_filler o)) is)

-- and it is one of its type
pub looks_typed : (t : Tables) (s : Store) → IsStateOf t s → (c : CellName) → IsCellOf t c
    → IsCellValue t c (looks s c)
looks_typed t s state c cell = look_up_typed t s state c (looks s c) cell (looked t s state c cell)

-- a write elsewhere
pub kept : (s : Store) (c : CellName) (v : Value) (ds : List CellName) → Misses c ds
    → map (looks (put s c v)) ds ≡ map (looks s) ds
kept s c v [] m = refl
kept s c v (d ∷ ds) m =
    ap (λ o. or_filler o ∷ map (looks (put s c v)) ds) (look_up_elsewhere s c d v m.0)
    ∙ ap (λ xs. looks s d ∷ xs) (kept s c v ds m.1)

-- a write to one of them
pub set_there : (s : Store) (ds : List CellName) (i : ℕ) (c : CellName) (v : Value) → Apart ds
    → slice_get ds i ≡ Some c → slice_set (map (looks s) ds) i v ≡ map (looks (put s c v)) ds
set_there s [] i c v apart at = cc
set_there s (d ∷ ds) zero c v apart at =
    let same : d ≡ c = cc in
    ap (λ x. x ∷ map (looks s) ds) (sym (ap (looks (put s c v)) same ∙ ap or_filler (look_up_put s c v)))
    ∙ ap (λ xs. looks (put s c v) d ∷ xs) (sym (kept s c v ds (subst (λ x. Misses x ds) same apart.0)))
set_there s (d ∷ ds) (suc i) c v apart at =
    ap (λ o. or_filler o ∷ slice_set (map (looks s) ds) i v)
    (sym (look_up_elsewhere s c d v (λ e. misses_at d ds i c apart.0 at (sym e))))
    ∙ ap (λ xs. looks (put s c v) d ∷ xs) (set_there s ds i c v apart.1 at)

pub held_there : (s : Store) (ds : List CellName) (i : ℕ) (c : CellName) → slice_get ds i ≡ Some c
    → get_or (map (looks s) ds) i filler ≡ looks s c
held_there s [] i c at = cc
held_there s (d ∷ ds) zero c at = let same : d ≡ c = cc in ap (looks s) same
held_there s (d ∷ ds) (suc i) c at = held_there s ds i c at

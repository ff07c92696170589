-- The story of a pair on arguments with other names is the same story under these names.
use Rattle.std.proofs.Common.{◌≡◌, ℕ, zero, suc, ◌+◌, ◌==◌, Bool, true, false, ◌&&◌, List, [], ◌∷◌, ◌++◌, length}
use Rattle.std.proofs.Common.{get_or, Option, Some, None, slice_get, slice_set, refl, sym, ap, ◌∙◌, subst}
use Rattle.std.proofs.Common.{if◌then◌else◌, arith}
use Rattle.std.specs.Prelude.{option_map}
use Rattle.std.proofs.lemmas.Bool.{eqb-true}
use Rattle.cm_model.specs.Tables.{Tables}
use Rattle.cm_model.specs.WellTyped.{IsWellTyped}
use Rattle.cm_model.specs.Kinds.{bool_ty}
use Rattle.cm_model.specs.declared.ty.Ty.{Ty}
use Rattle.cm_model.specs.declared.body.StateDecl.{StateDecl}
use Rattle.cm_model.specs.declared.body.Expr.{Expr}
use Rattle.cm_value.specs.declared.value.Value.{Value}
use Rattle.cm_eval.specs.declared.log.CellName.{CellName}
use Rattle.cm_eval.specs.Script.{Replies, Blocks, Decides, Reads, Writes}
use Rattle.cm_eval.specs.State.{same_value}
use Rattle.cm_eval.specs.Evaluation.{Doing, invariant_of}
use Rattle.cm_world.specs.Path.{inspecting}
use Rattle.cm_relation.specs.Relation.{IfBoth}
use Rattle.cm_story.specs.Tale.{Asks, Needs, Ends}
use Rattle.cm_story.specs.Story.{Story, StoryCells, with_new, with_written, turned, held, filler, blocked, asked}
use Rattle.cm_story.specs.Story.{checked, keys_compared, cells_compared, searched, added, touched_with, touched, play}
use Rattle.cm_story.specs.Story.{Both, finals, compared, chain, are_same, pairs_inspected, last_comparison, no_cells}
use Rattle.cm_story.proofs.Compared.{compared_beside, inspected_beside}
use Rattle.cm_twin.specs.Names.{Names, named, AreTwins, AreTwinCells, value_type, key_type}
use Rattle.cm_twin.proofs.Alike.{both_from, compared_same, inspected_same, same_under}
use Rattle.cm_twin.proofs.Scripts.{Renamed, cell_value}
use Rattle.cm_twin.proofs.Doings.{invariant_renamed}

module _ (t : Tables) (names : Names) where
  -- the second story is the first under the new names, where what new cells hold is
  abbrev pub Like : Story → Story → Type 0
  Like (Asks d k) c = (k' : ℕ → Story) × (c ≡ Asks d k') × Like (k d) (k' d)
  Like (Needs p k) c = (p' : CellName) × (k' : Value → Story) × (c ≡ Needs p' k') × AreTwinCells t names p p'
      × ((x x' : Value) → AreTwins t names (value_type t p.state) x x' → Like (k x) (k' x'))
  Like (Ends b) c = c ≡ Ends b

  abbrev IsTwin : Value → Value → CellName → Type 0
  IsTwin x y c = AreTwins t names (value_type t c.state) x y

  pub same_state : (c d : CellName) → AreTwinCells t names c d → d.state ≡ c.state
  same_state c d h = ap (λ (e : CellName). e.state) (sym h.0)

  key_pair : (c d : CellName) → AreTwinCells t names c d → IfBoth (AreTwins t names (key_type t c.state)) c.key d.key
  key_pair c d h =
      both_from c.key d.key (λ v. named t names.there v (key_type t c.state))
      (λ v. named t names.back v (key_type t c.state)) (ap (λ (e : CellName). e.key) (sym h.0))
      (ap (λ (e : CellName). e.key) (sym h.1)
      ∙ ap (λ s. option_map (λ v. named t names.back v (key_type t s)) d.key) (same_state c d h))

  keys_same : (o : Option Ty) (c c' d d' : Option Value) (k : Bool → Story) → IfBoth (AreTwins t names o) c c'
      → IfBoth (AreTwins t names o) d d' → keys_compared c' d' k ≡ keys_compared c d k
  keys_same o None None None None k h g = refl
  keys_same o None None (Some w) (Some w') k h g = refl
  keys_same o (Some v) (Some v') None None k h g = refl
  keys_same o (Some v) (Some v') (Some w) (Some w') k h g = compared_same t names Story blocked Asks v v' w w' o k h g
  keys_same o None (Some v') d d' k h g = absurd h
  keys_same o (Some v) None d d' k h g = absurd h
  keys_same o None None None (Some w') k h g = absurd g
  keys_same o None None (Some w) None k h g = absurd g
  keys_same o (Some v) (Some v') None (Some w') k h g = absurd g
  keys_same o (Some v) (Some v') (Some w) None k h g = absurd g

  cells_same : (c c' d d' : CellName) (k : Bool → Story) → AreTwinCells t names c c' → AreTwinCells t names d d'
      → cells_compared c' d' k ≡ cells_compared c d k
  cells_same c c' d d' k h g =
      ap (λ s. if s == d'.state then keys_compared c'.key d'.key k else k false) (same_state c c' h)
      ∙ ap (λ s. if c.state == s then keys_compared c'.key d'.key k else k false) (same_state d d' g)
      ∙ by (c.state == d.state) refl
    where
      by : (b : Bool) → (c.state == d.state) ≡ b
          → (if b then keys_compared c'.key d'.key k else k false)
          ≡ (if b then keys_compared c.key d.key k else k false)
      by true e =
          keys_same (key_type t c.state) c.key c'.key d.key d'.key k (key_pair c c' h)
          (subst (λ s. IfBoth (AreTwins t names (key_type t s)) d.key d'.key) (sym (eqb-true c.state d.state e))
          (key_pair d d' g))
      by false e = refl

  -- cells and values one for one
  abbrev pub ArePlaces : List CellName → List CellName → Type 0
  ArePlaces [] [] = Unit {0}
  ArePlaces (c ∷ cs) (d ∷ ds) = AreTwinCells t names c d × ArePlaces cs ds
  ArePlaces [] (d ∷ ds) = ⊥
  ArePlaces (c ∷ cs) [] = ⊥

  abbrev pub AreHeld : List CellName → List Value → List Value → Type 0
  AreHeld [] [] [] = Unit {0}
  AreHeld (c ∷ cs) (v ∷ vs) (w ∷ ws) = AreTwins t names (value_type t c.state) v w × AreHeld cs vs ws
  AreHeld [] [] (w ∷ ws) = ⊥
  AreHeld [] (v ∷ vs) ws = ⊥
  AreHeld (c ∷ cs) [] ws = ⊥
  AreHeld (c ∷ cs) (v ∷ vs) [] = ⊥

  searched_same : (ds ds' : List CellName) (i : ℕ) (c c' : CellName) (found : ℕ → Story) (fresh : Story)
      → ArePlaces ds ds' → AreTwinCells t names c c' → searched ds' i c' found fresh ≡ searched ds i c found fresh
  searched_same [] [] i c c' found fresh are h = refl
  searched_same (d ∷ ds) (d' ∷ ds') i c c' found fresh are h =
      cells_same c c' d d' (λ s. if s then found i else searched ds' (i + 1) c' found fresh) h are.0
      ∙ ap (λ rest. cells_compared c d (λ s. if s then found i else rest))
      (searched_same ds ds' (i + 1) c c' found fresh are.1 h)
  searched_same [] (d' ∷ ds') i c c' found fresh are h = absurd are
  searched_same (d ∷ ds) [] i c c' found fresh are h = absurd are

  keys_like : (c d : Option Value) (k l : Bool → Story) → Like (k true) (l true) → Like (k false) (l false)
      → Like (keys_compared c d k) (keys_compared c d l)
  keys_like None None k l same other = same
  keys_like None (Some w) k l same other = other
  keys_like (Some v) None k l same other = other
  keys_like (Some v) (Some w) k l same other =
      compared_beside Story Story blocked blocked Asks Asks Like refl (λ d f g e. (g, refl, e)) v w k l
      (by (same_value v w))
    where
      by : (b : Bool) → Like (k b) (l b)
      by true = same
      by false = other

  cells_like : (c d : CellName) (k l : Bool → Story) → (c.state ≡ d.state → Like (k true) (l true))
      → Like (k false) (l false) → Like (cells_compared c d k) (cells_compared c d l)
  cells_like c d k l same other = by (c.state == d.state) refl
    where
      by : (b : Bool) → (c.state == d.state) ≡ b
          → Like (if b then keys_compared c.key d.key k else k false)
          (if b then keys_compared c.key d.key l else l false)
      by true e = keys_like c.key d.key k l (same (eqb-true c.state d.state e)) other
      by false e = other

  searched_like : (ds : List CellName) (i : ℕ) (c : CellName) (found other : ℕ → Story) (fresh new : Story)
      → ((j : ℕ) (d : CellName) → slice_get ds j ≡ Some d → c.state ≡ d.state → Like (found (i + j)) (other (i + j)))
      → Like fresh new → Like (searched ds i c found fresh) (searched ds i c other new)
  searched_like [] i c found other fresh new each last = last
  searched_like (d ∷ ds) i c found other fresh new each last =
      cells_like c d (λ s. if s then found i else searched ds (i + 1) c found fresh)
      (λ s. if s then other i else searched ds (i + 1) c other new)
      (λ e. subst (λ n. Like (found n) (other n)) (let none : i + 0 ≡ i = omega arith in none) (each 0 d refl e))
      (searched_like ds (i + 1) c found other fresh new
      (λ j x at e. subst (λ n. Like (found n) (other n)) (let n : i + suc j ≡ (i + 1) + j = omega arith in n)
      (each (suc j) x at e)) last)

  asked_like : (reply : Ty) (c e : Doing) → Renamed t names reply c e → (more new : Story) → Like more new
      → Like (asked c more) (asked e new)
  asked_like reply (Replies x) e r more new h = subst (λ e. Like more (asked e new)) (sym r.1) h
  asked_like reply Blocks e r more new h = ap (λ e. asked e new) r
  asked_like reply (Decides n k) e r more new h =
      ((λ d. asked (r.0 d) new), ap (λ e. asked e new) r.1, asked_like reply (k n) (r.0 n) r.2 more new h)
  asked_like reply (Reads p k) e r more new h = ap (λ e. asked e new) r.2
  asked_like reply (Writes p x k) e r more new h = ap (λ e. asked e new) r.3

  places_more : (cs ds : List CellName) (c d : CellName) → ArePlaces cs ds → AreTwinCells t names c d
      → ArePlaces (cs ++ c ∷ []) (ds ++ d ∷ [])
  places_more [] [] c d are h = (h, tt)
  places_more (x ∷ cs) (y ∷ ds) c d are h = (are.0, places_more cs ds c d are.1 h)
  places_more [] (y ∷ ds) c d are h = absurd are
  places_more (x ∷ cs) [] c d are h = absurd are

  places_length : (cs ds : List CellName) → ArePlaces cs ds → length ds ≡ length cs
  places_length [] [] are = refl
  places_length (x ∷ cs) (y ∷ ds) are = ap suc (places_length cs ds are.1)
  places_length [] (y ∷ ds) are = absurd are
  places_length (x ∷ cs) [] are = absurd are

  held_more : (cs : List CellName) (vs ws : List Value) (c : CellName) (x y : Value) → AreHeld cs vs ws
      → AreTwins t names (value_type t c.state) x y → AreHeld (cs ++ c ∷ []) (vs ++ x ∷ []) (ws ++ y ∷ [])
  held_more [] [] [] c x y are h = (h, tt)
  held_more (d ∷ cs) (v ∷ vs) (w ∷ ws) c x y are h = (are.0, held_more cs vs ws c x y are.1 h)
  held_more [] [] (w ∷ ws) c x y are h = absurd are
  held_more [] (v ∷ vs) ws c x y are h = absurd are
  held_more (d ∷ cs) [] ws c x y are h = absurd are
  held_more (d ∷ cs) (v ∷ vs) [] c x y are h = absurd are

  held_at : (cs : List CellName) (vs ws : List Value) (i : ℕ) (c : CellName) → AreHeld cs vs ws
      → slice_get cs i ≡ Some c → AreTwins t names (value_type t c.state) (get_or vs i filler) (get_or ws i filler)
  held_at [] vs ws i c are at = absurd (cc)
  held_at (d ∷ cs) (v ∷ vs) (w ∷ ws) zero c are at = let same : d ≡ c = cc in subst (IsTwin v w) same are.0
  held_at (d ∷ cs) (v ∷ vs) (w ∷ ws) (suc i) c are at = held_at cs vs ws i c are.1 at
  held_at (d ∷ cs) [] ws i c are at = absurd are
  held_at (d ∷ cs) (v ∷ vs) [] i c are at = absurd are

  held_set : (cs : List CellName) (vs ws : List Value) (i : ℕ) (c : CellName) (x y : Value) → AreHeld cs vs ws
      → slice_get cs i ≡ Some c → AreTwins t names (value_type t c.state) x y
      → AreHeld cs (slice_set vs i x) (slice_set ws i y)
  held_set [] vs ws i c x y are at h = absurd (cc)
  held_set (d ∷ cs) (v ∷ vs) (w ∷ ws) zero c x y are at h =
      let same : d ≡ c = cc in (subst (IsTwin x y) (sym same) h, are.1)
  held_set (d ∷ cs) (v ∷ vs) (w ∷ ws) (suc i) c x y are at h = (are.0, held_set cs vs ws i c x y are.1 at h)
  held_set (d ∷ cs) [] ws i c x y are at h = absurd are
  held_set (d ∷ cs) (v ∷ vs) [] i c x y are at h = absurd are

  at_last : (cs : List CellName) (c : CellName) → slice_get (cs ++ c ∷ []) (length cs) ≡ Some c
  at_last [] c = refl
  at_last (d ∷ cs) c = at_last cs c

  -- the cells so far, under the new names
  pub record Seats (cs ds : StoryCells) : Type 0 where
    pub places : ArePlaces cs.places ds.places
    pub written : ds.written ≡ cs.written
    pub now : AreHeld cs.places cs.now ds.now
    pub other : AreHeld cs.places cs.other ds.other

  module _ (typed : IsWellTyped t) where
    checked_like : (s : ℕ) (d : StateDecl) (o : Option Expr) → slice_get t.states s ≡ Some d → d.inv ≡ o
        → (x y : Value) → AreTwins t names (Some d.value) x y → (more new : Story) → Like more new
        → Like (checked t.ints o x more) (checked t.ints o y new)
    checked_like s d None at inv x y is more new h = h
    checked_like s d (Some e) at inv x y is more new h =
        asked_like bool_ty (invariant_of t.ints e x) (invariant_of t.ints e y)
        (invariant_renamed t typed names s d e x y at inv is) more new h

    -- what is done with a touched cell, by its number
    abbrev GoesOn : CellName → (ℕ → StoryCells → Story) → (ℕ → StoryCells → Story) → Type 0
    GoesOn c k l = (i : ℕ) (cs ds : StoryCells) (d : CellName) → Seats cs ds → slice_get cs.places i ≡ Some d
        → c.state ≡ d.state → Like (k i cs) (l i ds)

    added_like : (d : StateDecl) (c c' : CellName) (cs ds : StoryCells) (k l : ℕ → StoryCells → Story)
        → slice_get t.states c.state ≡ Some d → AreTwinCells t names c c' → Seats cs ds → GoesOn c k l
        → Like (added t.ints d.inv c cs k) (added t.ints d.inv c' ds l)
    added_like d c c' cs ds k l at h seats goes = (
      c',
      (λ v. checked t.ints d.inv v (l (length ds.places) (with_new ds c' v))),
      refl,
      h,
      (λ x y is.
          checked_like c.state d d.inv at refl x y
          (subst (λ o. AreTwins t names o x y) (cell_value t names bool_ty c.state d at) is)
          (k (length cs.places) (with_new cs c x)) (l (length ds.places) (with_new ds c' y))
          (subst (λ n. Like (k (length cs.places) (with_new cs c x)) (l n (with_new ds c' y)))
          (sym (places_length cs.places ds.places seats.places))
          (goes (length cs.places) (with_new cs c x) (with_new ds c' y) c (record {
            places = places_more cs.places ds.places c c' seats.places h;
            written = ap (λ ws. ws ++ false ∷ []) seats.written;
            now = held_more cs.places cs.now ds.now c x y seats.now is;
            other = held_more cs.places cs.other ds.other c x y seats.other is;
          }) (at_last cs.places c) refl))),
    )

    touched_like : (c c' : CellName) (cs ds : StoryCells) (k l : ℕ → StoryCells → Story) → AreTwinCells t names c c'
        → Seats cs ds → GoesOn c k l
        → Like (touched t.ints t.states c cs k) (touched t.ints t.states c' ds l)
    touched_like c c' cs ds k l h seats goes =
        subst (λ s. Like (touched t.ints t.states c cs k) (touched_with t.ints (slice_get t.states s) c' ds l))
        (sym (same_state c c' h)) (by (slice_get t.states c.state) refl)
      where
        by : (o : Option StateDecl) → slice_get t.states c.state ≡ o
            → Like (touched_with t.ints o c cs k) (touched_with t.ints o c' ds l)
        by (Some d) at =
            subst (Like (searched cs.places 0 c (λ i. k i cs) (added t.ints d.inv c cs k)))
            (sym (searched_same cs.places ds.places 0 c c' (λ i. l i ds) (added t.ints d.inv c' ds l) seats.places h))
            (searched_like cs.places 0 c (λ i. k i cs) (λ i. l i ds) (added t.ints d.inv c cs k)
            (added t.ints d.inv c' ds l)
            (λ j x there e. subst (λ n. Like (k n cs) (l n ds)) (let n : j ≡ 0 + j = omega arith in n)
            (goes j cs ds x seats there e))
            (added_like d c c' cs ds k l at h seats goes))
        by None at = refl

    play_like : (reply : Ty) (c e : Doing) → Renamed t names reply c e → (cs ds : StoryCells) → Seats cs ds
        → (k l : Value → StoryCells → Story)
        → ((x y : Value) (more new : StoryCells) → AreTwins t names (Some reply) x y → Seats more new
        → Like (k x more) (l y new))
        → Like (play t.ints t.states c cs k) (play t.ints t.states e ds l)
    play_like reply (Replies x) e r cs ds seats k l goes =
        subst (λ e. Like (k x cs) (play t.ints t.states e ds l)) (sym r.1) (goes x r.0 cs ds r.2 seats)
    play_like reply Blocks e r cs ds seats k l goes = ap (λ e. play t.ints t.states e ds l) r
    play_like reply (Decides n f) e r cs ds seats k l goes = (
      (λ d. play t.ints t.states (r.0 d) ds l),
      ap (λ e. play t.ints t.states e ds l) r.1,
      play_like reply (f n) (r.0 n) r.2 cs ds seats k l goes,
    )
    play_like reply (Reads c f) e r cs ds seats k l goes =
        subst (λ e. Like (touched t.ints t.states c cs (λ i more. play t.ints t.states (f (held more i)) more k))
        (play t.ints t.states e ds l)) (sym r.2)
        (touched_like c r.0 cs ds (λ i more. play t.ints t.states (f (held more i)) more k)
        (λ i more. play t.ints t.states (r.1 (held more i)) more l) r.3 seats (λ i more new d more_seats at same.
        play_like reply (f (held more i)) (r.1 (held new i))
        (r.4 (held more i) (held new i) (subst (λ s. AreTwins t names (value_type t s) (held more i) (held new i))
        (sym same) (held_at more.places more.now new.now i d more_seats.now at)))
        more new more_seats k l goes))
    play_like reply (Writes c x f) e r cs ds seats k l goes =
        subst (λ e. Like (touched t.ints t.states c cs (λ i more. play t.ints t.states f (with_written more i x) k))
        (play t.ints t.states e ds l)) (sym r.3)
        (touched_like c r.0 cs ds (λ i more. play t.ints t.states f (with_written more i x) k)
        (λ i more. play t.ints t.states r.2 (with_written more i r.1) l) r.4 seats (λ i more new d more_seats at same.
        play_like reply f r.2 r.6 (with_written more i x) (with_written new i r.1) (record {
          places = more_seats.places;
          written = ap (λ ws. slice_set ws i true) more_seats.written;
          now = held_set more.places more.now new.now i d x r.1 more_seats.now at
              (subst (λ s. AreTwins t names (value_type t s) x r.1) same r.5);
          other = more_seats.other;
        }) k l goes))

  -- pairs that are compared at last, each of one type
  abbrev pub AreBoth : List Both → List Both → Type 0
  AreBoth [] [] = Unit {0}
  AreBoth (p ∷ ps) (q ∷ qs) =
      ((o : Option Ty) × AreTwins t names o p.0 q.0 × AreTwins t names o p.1 q.1) × AreBoth ps qs
  AreBoth [] (q ∷ qs) = ⊥
  AreBoth (p ∷ ps) [] = ⊥

  finals_are : (cs : List CellName) (bs : List Bool) (vs vs' ws ws' : List Value) → AreHeld cs vs vs'
      → AreHeld cs ws ws' → AreBoth (finals bs vs ws) (finals bs vs' ws')
  finals_are cs [] vs vs' ws ws' h g = tt
  finals_are [] (b ∷ bs) [] [] ws ws' h g = tt
  finals_are [] (b ∷ bs) [] (v ∷ vs') ws ws' h g = absurd h
  finals_are [] (b ∷ bs) (v ∷ vs) vs' ws ws' h g = absurd h
  finals_are (c ∷ cs) (true ∷ bs) (v ∷ vs) (v' ∷ vs') (w ∷ ws) (w' ∷ ws') h g =
      ((value_type t c.state, h.0, g.0), finals_are cs bs vs vs' ws ws' h.1 g.1)
  finals_are (c ∷ cs) (false ∷ bs) (v ∷ vs) (v' ∷ vs') (w ∷ ws) (w' ∷ ws') h g = finals_are cs bs vs vs' ws ws' h.1 g.1
  finals_are (c ∷ cs) (b ∷ bs) [] vs' ws ws' h g = absurd h
  finals_are (c ∷ cs) (b ∷ bs) (v ∷ vs) [] ws ws' h g = absurd h
  finals_are (c ∷ cs) (b ∷ bs) (v ∷ vs) (v' ∷ vs') [] ws' h g = absurd g
  finals_are (c ∷ cs) (b ∷ bs) (v ∷ vs) (v' ∷ vs') (w ∷ ws) [] h g = absurd g

  all_same_under : (ps qs : List Both) → AreBoth ps qs → are_same qs ≡ are_same ps
  all_same_under [] [] are = refl
  all_same_under (p ∷ ps) (q ∷ qs) are =
      ap (λ b. b && are_same qs) (same_under t names are.0.0 p.0 q.0 p.1 q.1 are.0.1 are.0.2)
      ∙ ap (λ b. same_value p.0 p.1 && b) (all_same_under ps qs are.1)
  all_same_under [] (q ∷ qs) are = absurd are
  all_same_under (p ∷ ps) [] are = absurd are

  pairs_same : (ps qs : List Both) (rest : Story) → AreBoth ps qs → pairs_inspected qs rest ≡ pairs_inspected ps rest
  pairs_same [] [] rest are = refl
  pairs_same (p ∷ ps) (q ∷ qs) rest are =
      inspected_same t names Story blocked Asks p.0 q.0 p.1 q.1 are.0.0 (pairs_inspected qs rest) are.0.1 are.0.2
      ∙ ap (inspecting Story blocked Asks p.0 p.1) (pairs_same ps qs rest are.1)
  pairs_same [] (q ∷ qs) rest are = absurd are
  pairs_same (p ∷ ps) [] rest are = absurd are

  pairs_like : (ps : List Both) (rest new : Story) → Like rest new
      → Like (pairs_inspected ps rest) (pairs_inspected ps new)
  pairs_like [] rest new h = h
  pairs_like (p ∷ ps) rest new h =
      inspected_beside Story Story blocked blocked Asks Asks Like refl (λ d f g e. (g, refl, e)) p.0 p.1
      (pairs_inspected ps rest) (pairs_inspected ps new) (pairs_like ps rest new h)

  last_like : (ps qs : List Both) → AreBoth ps qs → Like (last_comparison ps) (last_comparison qs)
  last_like ps qs are =
      subst (Like (last_comparison ps))
      (sym (pairs_same ps qs (Ends (are_same qs)) are)) (pairs_like ps (Ends (are_same ps)) (Ends (are_same qs))
      (ap Ends (all_same_under ps qs are)))

  turned_seats : (cs ds : StoryCells) → Seats cs ds → Seats (turned cs) (turned ds)
  turned_seats cs ds seats =
      record { places = seats.places; written = seats.written; now = seats.other; other = seats.now }

  compared_are : (ra rb : Ty) (v v' w w' x x' y y' : Value) (cs ds : StoryCells) → AreTwins t names (Some ra) v v'
      → AreTwins t names (Some rb) w w' → AreTwins t names (Some rb) x x' → AreTwins t names (Some ra) y y'
      → Seats cs ds → AreBoth (compared v w x y cs) (compared v' w' x' y' ds)
  compared_are ra rb v v' w w' x x' y y' cs ds a b c d seats = (
    (Some ra, a, d),
    (
      (Some rb, b, c),
      subst (λ bs. AreBoth (finals cs.written cs.other cs.now) (finals bs ds.other ds.now)) (sym seats.written)
          (finals_are cs.places cs.written cs.other ds.other cs.now ds.now seats.other seats.now),
    ),
  )

  -- the whole of a pair of calls with these replies
  pub chain_like : IsWellTyped t → (ra rb : Ty) (a b a' b' : Doing) → Renamed t names ra a a' → Renamed t names rb b b'
      → Like (chain t.ints t.states a b last_comparison) (chain t.ints t.states a' b' last_comparison)
  chain_like typed ra rb a b a' b' ha hb =
      play_like typed ra a a' ha no_cells no_cells (record { places = tt; written = refl; now = tt; other = tt }) _ _
      (λ v v' cs ds v_is seats. play_like typed rb b b' hb cs ds seats _ _
      (λ w w' cs ds w_is seats. play_like typed rb b b' hb (turned cs) (turned ds) (turned_seats cs ds seats) _ _
      (λ x x' cs ds x_is seats. play_like typed ra a a' ha cs ds seats _ _
      (λ y y' cs ds y_is seats. last_like (compared v w x y cs) (compared v' w' x' y' ds)
      (compared_are ra rb v v' w w' x x' y y' cs ds v_is w_is x_is y_is seats)))))

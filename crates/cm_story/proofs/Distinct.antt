-- The cells that a story touches are all different.
use Rattle.std.proofs.Common.{◌≡◌, ℕ, ◌+◌, ◌==◌, Bool, true, false, ◌&&◌, List, [], ◌∷◌, ◌++◌, length}
use Rattle.std.proofs.Common.{Option, Some, None, slice_get, refl, sym, ◌∙◌, subst, append_assoc, if◌then◌else◌}
use Rattle.std.proofs.lemmas.List.{append-nil}
use Rattle.cm_model.specs.Tables.{Tables}
use Rattle.cm_model.specs.declared.body.Expr.{Expr}
use Rattle.cm_model.specs.declared.body.StateDecl.{StateDecl}
use Rattle.cm_model.specs.declared.pair.Pair.{Pair}
use Rattle.cm_value.specs.declared.value.Value.{Value}
use Rattle.cm_eval.specs.declared.log.CellName.{CellName}
use Rattle.cm_eval.specs.Script.{Replies, Blocks, Decides, Reads, Writes}
use Rattle.cm_eval.specs.State.{same_key, same_cell}
use Rattle.cm_eval.specs.Evaluation.{Doing, call_of, invariant_of}
use Rattle.cm_eval.proofs.Same.{same_cell_equal}
use Rattle.cm_eval.proofs.Comparing.{comparison_goes}
use Rattle.cm_story.specs.Tale.{Asks, Ends}
use Rattle.cm_story.specs.Story.{Story, StoryCells, no_cells, with_new, with_written, turned, held, blocked, asked}
use Rattle.cm_story.specs.Story.{checked, keys_compared, cells_compared, searched, added, touched_with, touched}
use Rattle.cm_story.specs.Story.{play, Both, compared, are_same, pairs_inspected, story_of}
use Rattle.cm_story.specs.Following.{Look, cells_in}
use Rattle.cm_story.specs.Touches.{Misses, Apart}
use Rattle.cm_story.proofs.Compared.{inspected_beside}
use Rattle.cm_story.proofs.Places.{cells_differ, misses_more, apart_more}

module _ (o : Look) where
  -- with those before, the cells that are touched are all different
  abbrev Distinct : List CellName → Story → Type 0
  Distinct ps s = Apart (ps ++ cells_in o s)

  stopped : (ps : List CellName) → Apart ps → Distinct ps blocked
  stopped ps apart = subst Apart (sym (append-nil ps)) apart

  module _ (ps : List CellName) (apart : Apart ps) where
    keys_distinct : (k m : Option Value) (f : Bool → Story) → Distinct ps (f (same_key k m))
        → Distinct ps (keys_compared k m f)
    keys_distinct None None f h = h
    keys_distinct None (Some w) f h = h
    keys_distinct (Some v) None f h = h
    keys_distinct (Some v) (Some w) f h =
        comparison_goes Story blocked Asks (Distinct ps) (λ d k g. g) (stopped ps apart) v w f h

    one_distinct : (c d : CellName) (f : Bool → Story) → (c ≡ d → Distinct ps (f true))
        → ((c ≡ d → ⊥) → Distinct ps (f false)) → Distinct ps (cells_compared c d f)
    one_distinct c d f one two = by (c.state == d.state) (at (same_cell c d) refl)
      where
        at : (b : Bool) → same_cell c d ≡ b → Distinct ps (f b)
        at true is = one (same_cell_equal c d is)
        at false is = two (cells_differ c d is)

        by : (b : Bool) → Distinct ps (f (b && same_key c.key d.key))
            → Distinct ps (if b then keys_compared c.key d.key f else f false)
        by true h = keys_distinct c.key d.key f h
        by false h = h

    asked_distinct : (d : Doing) (more : Story) → Distinct ps more → Distinct ps (asked d more)
    asked_distinct (Replies v) more h = h
    asked_distinct Blocks more h = stopped ps apart
    asked_distinct (Decides d k) more h = asked_distinct (k d) more h
    asked_distinct (Reads c k) more h = stopped ps apart
    asked_distinct (Writes c v k) more h = stopped ps apart

    searched_distinct : (left done : List CellName) (i : ℕ) (c : CellName) (found : ℕ → Story) (fresh : Story)
        → ps ≡ done ++ left → Misses c done → ((j : ℕ) → Distinct ps (found j))
        → (Misses c ps → Distinct ps fresh) → Distinct ps (searched left i c found fresh)
    searched_distinct [] done i c found fresh split misses each last =
        last (subst (Misses c) (sym (append-nil done) ∙ sym split) misses)
    searched_distinct (d ∷ left) done i c found fresh split misses each last =
        one_distinct c d (λ s. if s then found i else searched left (i + 1) c found fresh) (λ e. each i) (λ two.
        searched_distinct left (done ++ d ∷ []) (i + 1) c found fresh
        (split ∙ sym (append_assoc done (d ∷ []) left)) (misses_more c done d misses two) each last)

  module _ (t : Tables) where
    checked_distinct : (inv : Option Expr) (v : Value) (ps : List CellName) (more : Story) → Apart ps
        → Distinct ps more → Distinct ps (checked t.ints inv v more)
    checked_distinct None v ps more apart h = h
    checked_distinct (Some e) v ps more apart h = asked_distinct ps apart (invariant_of t.ints e v) more h

    -- what is done after a touch touches others
    abbrev EachDistinct : (ℕ → StoryCells → Story) → Type 0
    EachDistinct k = (i : ℕ) (more : StoryCells) → Apart more.places → Distinct more.places (k i more)

    touched_distinct : (c : CellName) (cs : StoryCells) (k : ℕ → StoryCells → Story) → Apart cs.places → EachDistinct k
        → Distinct cs.places (touched t.ints t.states c cs k)
    touched_distinct c cs k apart each = by (slice_get t.states c.state)
      where
        fresh : (inv : Option Expr) → Misses c cs.places → Distinct cs.places (added t.ints inv c cs k)
        fresh inv misses =
            let more = apart_more cs.places c apart misses in
            subst Apart (append_assoc cs.places (c ∷ []) (cells_in o (checked t.ints inv (o c)
            (k (length cs.places) (with_new cs c (o c))))))
            (checked_distinct inv (o c) (cs.places ++ c ∷ []) (k (length cs.places) (with_new cs c (o c))) more
            (each (length cs.places) (with_new cs c (o c)) more))

        by : (d : Option StateDecl) → Distinct cs.places (touched_with t.ints d c cs k)
        by (Some d) = searched_distinct cs.places apart cs.places [] 0 c (λ i. k i cs) (added t.ints d.inv c cs k)
            refl tt (λ i. each i cs apart) (fresh d.inv)
        by None = stopped cs.places apart

    play_distinct : (d : Doing) (cs : StoryCells) (k : Value → StoryCells → Story) → Apart cs.places
        → ((v : Value) (more : StoryCells) → Apart more.places → Distinct more.places (k v more))
        → Distinct cs.places (play t.ints t.states d cs k)
    play_distinct (Replies v) cs k apart each = each v cs apart
    play_distinct Blocks cs k apart each = stopped cs.places apart
    play_distinct (Decides d f) cs k apart each = play_distinct (f d) cs k apart each
    play_distinct (Reads c f) cs k apart each =
        touched_distinct c cs (λ i more. play t.ints t.states (f (held more i)) more k) apart
        (λ i more apart. play_distinct (f (held more i)) more k apart each)
    play_distinct (Writes c v f) cs k apart each =
        touched_distinct c cs (λ i more. play t.ints t.states f (with_written more i v) k) apart
        (λ i more apart. play_distinct f (with_written more i v) k apart each)

  last_distinct : (ps : List CellName) (qs : List Both) (s : Story) → Apart ps → Distinct ps s
      → Distinct ps (pairs_inspected qs s)
  last_distinct ps [] s apart h = h
  last_distinct ps (q ∷ qs) s apart h =
      inspected_beside Story Story blocked blocked Asks Asks (λ x y. Distinct ps x) (stopped ps apart) (λ d k l g. g)
      q.0 q.1 (pairs_inspected qs s) (pairs_inspected qs s) (last_distinct ps qs s apart h)

-- whatever the cells held at first
pub cells_apart : (t : Tables) (p : Pair) (a b : List Value) (o : Look) → Apart (cells_in o (story_of t p a b))
cells_apart t p a b o =
    play_distinct o t (call_of t p.a a) no_cells _ tt (λ v cs h.
    play_distinct o t (call_of t p.b b) cs _ h (λ w cs h.
    play_distinct o t (call_of t p.b b) (turned cs) _ h (λ x cs h.
    play_distinct o t (call_of t p.a a) cs _ h (λ y cs h.
    last_distinct o cs.places (compared v w x y cs) (Ends (are_same (compared v w x y cs))) h
    (stopped o cs.places h)))))

-- Runs on a state, beside the story whose new cells have the state's values. The state enters here and nowhere else.
use Rattle.std.proofs.Common.{◌≡◌, ℕ, zero, suc, ◌+◌, ◌==◌, Bool, true, false, ◌&&◌, List, [], ◌∷◌, ◌++◌, map, length}
use Rattle.std.proofs.Common.{Option, Some, None, slice_get, slice_set, refl, sym, ap, ◌∙◌, subst, append_assoc, arith}
use Rattle.std.proofs.Common.{length-append, if◌then◌else◌}
use Rattle.std.proofs.lemmas.List.{append-nil, map-append}
use Rattle.cm_model.specs.Tables.{Tables}
use Rattle.cm_model.specs.declared.body.Expr.{Expr}
use Rattle.cm_model.specs.declared.body.StateDecl.{StateDecl}
use Rattle.cm_value.specs.declared.value.Value.{Value}
use Rattle.cm_eval.specs.declared.log.CellName.{CellName}
use Rattle.cm_eval.specs.Script.{Replies, Blocks, Decides, Reads, Writes}
use Rattle.cm_eval.specs.State.{Store, Touched, look_up, put, with_cell, marked, same_key, same_cell}
use Rattle.cm_eval.specs.Evaluation.{Doing, invariant_of}
use Rattle.cm_eval.specs.Invariant.{replies, invariant_holds, declared_invariant, MeetsInvariant}
use Rattle.cm_eval.specs.Run as runs
use Rattle.cm_eval.specs.Run.{Trace, Blocked, Logs, End, Ended, Stopped, logged, run, touch_of}
use Rattle.cm_eval.proofs.Same.{same_cell_equal}
use Rattle.cm_eval.proofs.Storing.{look_up_elsewhere}
use Rattle.cm_world.specs.World.{IsStateOf, IsCellOf}
use Rattle.cm_world.proofs.TypedScripts.{IsTypedScript}
use Rattle.cm_world.proofs.TypedRuns.{put_typed}
use Rattle.cm_story.specs.Tale.{Asks}
use Rattle.cm_story.specs.Story.{Story, StoryCells, story_cells, with_new, with_written, held, blocked, asked}
use Rattle.cm_story.specs.Story.{checked, keys_compared, cells_compared, searched, added, touched_with, touched, play}
use Rattle.cm_story.specs.Following.{looks, or_filler}
use Rattle.cm_story.specs.Touches.{Misses, Apart, AreCells, AllMeet}
use Rattle.cm_story.proofs.Compared.{compared_beside}
use Rattle.cm_story.proofs.Places.{cells_differ, misses_at, misses_more, misses_less, apart_more, cells_more, at_middle}
use Rattle.cm_story.proofs.Places.{met_more}
use Rattle.cm_story.proofs.Places.{looked, looks_typed, set_there, held_there}
use Rattle.cm_story.proofs.Followed.{Told, told, told_as}

-- how a run ends, and what is then so of what was told
abbrev pub went : End → (Value → Store → Touched → List ℕ → Told → Type 0) → Told → Type 0
went (Ended v s l log) r w = r v s l log w
went (Stopped l log) r w = w ≡ told_as log l.cells false

abbrev pub cells_at : Store → Store → Touched → StoryCells
cells_at s u l = story_cells l.cells l.written (map (looks s) l.cells) (map (looks u) l.cells)

-- both are as at first in the cells that were not written
abbrev pub Unwritten : Store → Store → Store → List CellName → List Bool → Type 0
Unwritten f s u [] [] = Unit {0}
Unwritten f s u [] (b ∷ bs) = ⊥
Unwritten f s u (c ∷ cs) [] = ⊥
Unwritten f s u (c ∷ cs) (b ∷ bs) =
    (b ≡ false → (look_up s c ≡ look_up f c) × (look_up u c ≡ look_up f c)) × Unwritten f s u cs bs

unwritten_more : (f s u : Store) (cs : List CellName) (bs : List Bool) (c : CellName) → Unwritten f s u cs bs
    → look_up s c ≡ look_up f c → look_up u c ≡ look_up f c → Unwritten f s u (cs ++ c ∷ []) (bs ++ false ∷ [])
unwritten_more f s u [] [] c h a b = ((λ e. (a, b)), tt)
unwritten_more f s u [] (x ∷ bs) c h a b = absurd h
unwritten_more f s u (d ∷ cs) [] c h a b = absurd h
unwritten_more f s u (d ∷ cs) (x ∷ bs) c h a b = (h.0, unwritten_more f s u cs bs c h.1 a b)

pub unwritten_turned : (f s u : Store) (cs : List CellName) (bs : List Bool) → Unwritten f s u cs bs
    → Unwritten f u s cs bs
unwritten_turned f s u [] [] h = tt
unwritten_turned f s u [] (b ∷ bs) h = absurd h
unwritten_turned f s u (c ∷ cs) [] h = absurd h
unwritten_turned f s u (c ∷ cs) (b ∷ bs) h = ((λ e. ((h.0 e).1, (h.0 e).0)), unwritten_turned f s u cs bs h.1)

unwritten_kept : (f s u : Store) (cs : List CellName) (bs : List Bool) (c : CellName) (v : Value) → Misses c cs
    → Unwritten f s u cs bs → Unwritten f (put s c v) u cs bs
unwritten_kept f s u [] [] c v m h = tt
unwritten_kept f s u [] (b ∷ bs) c v m h = absurd h
unwritten_kept f s u (d ∷ cs) [] c v m h = absurd h
unwritten_kept f s u (d ∷ cs) (b ∷ bs) c v m h =
    ((λ e. (look_up_elsewhere s c d v m.0 ∙ (h.0 e).0, (h.0 e).1)), unwritten_kept f s u cs bs c v m.1 h.1)

unwritten_set : (f s u : Store) (cs : List CellName) (bs : List Bool) (i : ℕ) (c : CellName) (v : Value) → Apart cs
    → slice_get cs i ≡ Some c → Unwritten f s u cs bs → Unwritten f (put s c v) u cs (slice_set bs i true)
unwritten_set f s u [] [] i c v apart at h = cc
unwritten_set f s u [] (b ∷ bs) i c v apart at h = absurd h
unwritten_set f s u (d ∷ cs) [] i c v apart at h = absurd h
unwritten_set f s u (d ∷ cs) (b ∷ bs) zero c v apart at h =
    let same : d ≡ c = cc in
    ((λ e. cc), unwritten_kept f s u cs bs c v (subst (λ x. Misses x cs) same apart.0) h.1)
unwritten_set f s u (d ∷ cs) (b ∷ bs) (suc i) c v apart at h = (
  (λ e. (look_up_elsewhere s c d v (λ g. misses_at d cs i c apart.0 at (sym g)) ∙ (h.0 e).0, (h.0 e).1)),
  unwritten_set f s u cs bs i c v apart.1 at h.1,
)

-- nothing is asked of a reply
abbrev pub AnyReply : Value → Type 0
AnyReply v = Unit {0}

module _ (t : Tables) (f : Store) where
  -- both states are typed, and as at first but in the cells that were written; the touched cells are cells of the
  -- model, each once
  pub record Good (s u : Store) (l : Touched) : Type 0 where
    pub this_typed : IsStateOf t s
    pub other_typed : IsStateOf t u
    pub cells : AreCells t l.cells
    pub apart : Apart l.cells
    pub this : (c : CellName) → Misses c l.cells → look_up s c ≡ look_up f c
    pub other : (c : CellName) → Misses c l.cells → look_up u c ≡ look_up f c
    pub unwritten : Unwritten f s u l.cells l.written
    pub met : AllMeet t (looks f) l.cells

  good_more : (s u : Store) (l : Touched) (c : CellName) → IsCellOf t c → Good s u l → Misses c l.cells
      → MeetsInvariant t c.state (looks f c) → Good s u (with_cell l c)
  good_more s u l c cell good misses meets = record {
    this_typed = good.this_typed;
    other_typed = good.other_typed;
    cells = cells_more t l.cells c good.cells cell;
    apart = apart_more l.cells c good.apart misses;
    this = λ d m. good.this d (misses_less d l.cells (c ∷ []) m);
    other = λ d m. good.other d (misses_less d l.cells (c ∷ []) m);
    unwritten = unwritten_more f s u l.cells l.written c good.unwritten (good.this c misses) (good.other c misses);
    met = met_more t (looks f) l.cells c good.met meets;
  }

  added_at : (s u : Store) (l : Touched) (c : CellName) → Good s u l → Misses c l.cells
      → with_new (cells_at s u l) c (looks f c) ≡ cells_at s u (with_cell l c)
  added_at s u l c good misses =
      ap (λ o. story_cells (l.cells ++ c ∷ []) (l.written ++ false ∷ []) (map (looks s) l.cells ++ or_filler o ∷ [])
      (map (looks u) l.cells ++ looks f c ∷ [])) (sym (good.this c misses))
      ∙ ap (λ o. story_cells (l.cells ++ c ∷ []) (l.written ++ false ∷ []) (map (looks s) l.cells ++ looks s c ∷ [])
      (map (looks u) l.cells ++ or_filler o ∷ [])) (sym (good.other c misses))
      ∙ ap (λ xs. story_cells (l.cells ++ c ∷ []) (l.written ++ false ∷ []) xs
      (map (looks u) l.cells ++ looks u c ∷ []))
      (sym (map-append (looks s) l.cells (c ∷ [])))
      ∙ ap (λ xs. story_cells (l.cells ++ c ∷ []) (l.written ++ false ∷ []) (map (looks s) (l.cells ++ c ∷ [])) xs)
      (sym (map-append (looks u) l.cells (c ∷ [])))

  -- what is so at a reply, by the other order's state
  module _ (u : Store) (r : Value → Store → Touched → List ℕ → Told → Type 0) where
    abbrev Goes : Trace → List ℕ → Told → Type 0
    Goes trace log w = went (logged log trace) r w

    -- whatever was decided before
    abbrev Always : Touched → Trace → Story → Type 0
    Always l trace story = (log : List ℕ) → Goes trace log (told (looks f) log l.cells story)

    keys_ran : (k m : Option Value) (l : Touched) (kt : Bool → Trace) (ks : Bool → Story)
        → Always l (kt (same_key k m)) (ks (same_key k m))
        → Always l (runs.keys_compared k m l kt) (keys_compared k m ks)
    keys_ran None None l kt ks h = h
    keys_ran None (Some w) l kt ks h = h
    keys_ran (Some v) None l kt ks h = h
    keys_ran (Some v) (Some w) l kt ks h =
        compared_beside Trace Story (Blocked l) blocked (λ d more. Logs l d (more d)) Asks (Always l) (λ log. refl)
        (λ d x y g log. g (log ++ d ∷ [])) v w kt ks h

    cells_ran : (c d : CellName) (l : Touched) (kt : Bool → Trace) (ks : Bool → Story)
        → Always l (kt (same_cell c d)) (ks (same_cell c d))
        → Always l (runs.cells_compared c d l kt) (cells_compared c d ks)
    cells_ran c d l kt ks = by (c.state == d.state)
      where
        by : (b : Bool) → Always l (kt (b && same_key c.key d.key)) (ks (b && same_key c.key d.key))
            → Always l (if b then runs.keys_compared c.key d.key l kt else kt false)
            (if b then keys_compared c.key d.key ks else ks false)
        by true h = keys_ran c.key d.key l kt ks h
        by false h = h

    -- the two cells are one, or they are two
    one_ran : (c d : CellName) (l : Touched) (kt : Bool → Trace) (ks : Bool → Story)
        → (c ≡ d → Always l (kt true) (ks true)) → ((c ≡ d → ⊥) → Always l (kt false) (ks false))
        → Always l (runs.cells_compared c d l kt) (cells_compared c d ks)
    one_ran c d l kt ks one two = cells_ran c d l kt ks (by (same_cell c d) refl)
      where
        by : (b : Bool) → same_cell c d ≡ b → Always l (kt b) (ks b)
        by true is = one (same_cell_equal c d is)
        by false is = two (cells_differ c d is)

    asked_ran : (d : Doing) (l : Touched) (more : Trace) (story : Story) → (replies d ≡ true → Always l more story)
        → Always l (runs.asked l d more) (asked d story)
    asked_ran (Replies v) l more story h = h refl
    asked_ran Blocks l more story h = λ log. refl
    asked_ran (Decides d k) l more story h = λ log. asked_ran (k d) l more story h (log ++ d ∷ [])
    asked_ran (Reads c k) l more story h = λ log. refl
    asked_ran (Writes c v k) l more story h = λ log. refl

    checked_ran : (inv : Option Expr) (v : Value) (l : Touched) (more : Trace) (story : Story)
        → (invariant_holds t.ints inv v ≡ true → Always l more story)
        → Always l (runs.checked t.ints inv v l more) (checked t.ints inv v story)
    checked_ran None v l more story h = h refl
    checked_ran (Some e) v l more story h = asked_ran (invariant_of t.ints e v) l more story h

    -- what is done after a touch goes on well
    abbrev EachRan : Store → CellName → (Value → ℕ → Touched → Trace) → (ℕ → StoryCells → Story) → Type 0
    EachRan s c kt ks = (after : Touched) (i : ℕ) → Good s u after → slice_get after.cells i ≡ Some c
        → Always after (kt (looks s c) i after) (ks i (cells_at s u after))

    module _ (s : Store) (l : Touched) (c : CellName) (cell : IsCellOf t c) (good : Good s u l) (inv : Option Expr)
        (declared : declared_invariant (slice_get t.states c.state) ≡ inv)
        (kt : Value → ℕ → Touched → Trace) (ks : ℕ → StoryCells → Story) (each : EachRan s c kt ks) where
      -- the cell is new
      added_ran : Misses c l.cells → Always l (runs.added t.ints inv (looks s c) c l (kt (looks s c)))
          (added t.ints inv c (cells_at s u l) ks)
      added_ran misses log =
          subst (λ o. Goes (runs.added t.ints inv (looks s c) c l (kt (looks s c))) log
          (told (looks f) log (l.cells ++ c ∷ []) (checked t.ints inv (or_filler o)
          (ks (length l.cells) (with_new (cells_at s u l) c (looks f c)))))) (good.this c misses)
          (checked_ran inv (looks s c) (with_cell l c) (kt (looks s c) (length l.cells) (with_cell l c))
          (ks (length l.cells) (with_new (cells_at s u l) c (looks f c))) (λ holds.
          subst (λ cs. Always (with_cell l c) (kt (looks s c) (length l.cells) (with_cell l c))
          (ks (length l.cells) cs))
          (sym (added_at s u l c good misses))
          (each (with_cell l c) (length l.cells) (good_more s u l c cell good misses (meets holds))
          (at_middle l.cells [] c (length l.cells) refl))) log)
        where
          meets : invariant_holds t.ints inv (looks s c) ≡ true → MeetsInvariant t c.state (looks f c)
          meets holds =
              ap (λ i. invariant_holds t.ints i (looks f c)) declared
              ∙ ap (λ o. invariant_holds t.ints inv (or_filler o)) (sym (good.this c misses)) ∙ holds

      searched_ran : (left done : List CellName) (i : ℕ) → l.cells ≡ done ++ left → i ≡ length done → Misses c done
          → Always l (touch_of left i c l (λ j. kt (looks s c) j l)
          (runs.added t.ints inv (looks s c) c l (kt (looks s c))))
          (searched left i c (λ j. ks j (cells_at s u l)) (added t.ints inv c (cells_at s u l) ks))
      searched_ran [] done i split is misses =
          added_ran (subst (Misses c) (sym (append-nil done) ∙ sym split) misses)
      searched_ran (d ∷ left) done i split is misses =
          one_ran c d l
          (λ b. if b then kt (looks s c) i l else touch_of left (i + 1) c l (λ j. kt (looks s c) j l)
          (runs.added t.ints inv (looks s c) c l (kt (looks s c))))
          (λ b. if b then ks i (cells_at s u l) else searched left (i + 1) c (λ j. ks j (cells_at s u l))
          (added t.ints inv c (cells_at s u l) ks))
          (λ e. each l i good (subst (λ cs. slice_get cs i ≡ Some c) (sym split)
          (ap (λ x. slice_get (done ++ x ∷ left) i) (sym e) ∙ at_middle done left c i is)))
          (λ apart. searched_ran left (done ++ d ∷ []) (i + 1) (split ∙ sym (append_assoc done (d ∷ []) left))
          (omega (arith, length-append done (d ∷ []))) (misses_more c done d misses apart))

    touched_ran : (s : Store) (l : Touched) (c : CellName) → IsCellOf t c → Good s u l
        → (kt : Value → ℕ → Touched → Trace) (ks : ℕ → StoryCells → Story) → EachRan s c kt ks
        → Always l (runs.touched_at t.ints t.states s c l kt) (touched t.ints t.states c (cells_at s u l) ks)
    touched_ran s l c cell good kt ks each =
        subst (λ o. Always l (runs.touched_with t.ints (slice_get t.states c.state) o c l kt)
        (touched t.ints t.states c (cells_at s u l) ks)) (sym (looked t s good.this_typed c cell))
        (by (slice_get t.states c.state) refl)
      where
        by : (o : Option StateDecl) → slice_get t.states c.state ≡ o
            → Always l (runs.touched_with t.ints o (Some (looks s c)) c l kt)
            (touched_with t.ints o c (cells_at s u l) ks)
        by (Some d) at =
            searched_ran s l c cell good d.inv (ap declared_invariant at) kt ks each l.cells [] 0 refl refl tt
        by None at = λ log. refl

    -- a typed script, where each reply goes on well
    pub play_ran : (d : Doing) → IsTypedScript t AnyReply d → (s : Store) (l : Touched) → Good s u l
        → (k : Value → StoryCells → Story)
        → ((v : Value) (s : Store) (l : Touched) (log : List ℕ) → Good s u l
        → r v s l log (told (looks f) log l.cells (k v (cells_at s u l))))
        → Always l (run t.ints t.states s l d) (play t.ints t.states d (cells_at s u l) k)
    play_ran (Replies v) fits s l good k each = λ log. each v s l log good
    play_ran Blocks fits s l good k each = λ log. refl
    play_ran (Decides d g) fits s l good k each = λ log. play_ran (g d) fits s l good k each (log ++ d ∷ [])
    play_ran (Reads c g) fits s l good k each =
        touched_ran s l c fits.0 good (λ v i after. run t.ints t.states s after (g v))
        (λ i more. play t.ints t.states (g (held more i)) more k) (λ after i good at.
        subst (λ v. Always after (run t.ints t.states s after (g (looks s c)))
        (play t.ints t.states (g v) (cells_at s u after) k)) (sym (held_there s after.cells i c at))
        (play_ran (g (looks s c)) (fits.1 (looks s c) (looks_typed t s good.this_typed c fits.0)) s after good k each))
    play_ran (Writes c v g) fits s l good k each =
        touched_ran s l c fits.0 good (λ x i after. run t.ints t.states (put s c v) (marked after i) g)
        (λ i more. play t.ints t.states g (with_written more i v) k) (λ after i good at.
        subst (λ vs. Always after (run t.ints t.states (put s c v) (marked after i) g)
        (play t.ints t.states g (story_cells after.cells (slice_set after.written i true) vs
        (map (looks u) after.cells)) k))
        (sym (set_there s after.cells i c v good.apart at))
        (play_ran g fits.2 (put s c v) (marked after i) (record {
          this_typed = put_typed t c v fits.0 fits.1 s good.this_typed;
          other_typed = good.other_typed;
          cells = good.cells;
          apart = good.apart;
          this = λ d m. look_up_elsewhere s c d v (λ e. misses_at d after.cells i c m at (sym e)) ∙ good.this d m;
          other = good.other;
          unwritten = unwritten_set f s u after.cells after.written i c v good.apart at good.unwritten;
          met = good.met;
        }) k each))

-- A run's touches and new cells.
use Rattle.std.proofs.Common.{◌≡◌, ◌<◌, ◌≤◌, ℕ, zero, suc, ◌+◌, List, [], ◌∷◌, ◌++◌, length, slice_get, Option, Some}
use Rattle.std.proofs.Common.{None, refl}
use Rattle.std.proofs.Common.{sym, ap, ◌∙◌, subst, arith, append_assoc}
use Rattle.std.proofs.lemmas.List.{append-nil}
use Rattle.cm_model.specs.Tables.{Tables}
use Rattle.cm_term.specs.declared.question.Question.{Question}
use Rattle.cm_term.specs.declared.symbol.Root.TheVariants as root
use Rattle.cm_term.specs.declared.term.Term.{Term}
use Rattle.cm_cells.specs.declared.search.Touched.{Touched}
use Rattle.cm_cells.specs.declared.search.Touched.TheVariants as touched
use Rattle.cm_model.specs.declared.body.StateDecl.{StateDecl}
use Rattle.cm_cells.specs.CellTable.{CellTable, Place, place}
use Rattle.cm_cells.specs.Touching.{next_of}
use Rattle.cm_ctx.specs.declared.piece.Piece.{Piece}
use Rattle.cm_ctx.specs.Contexts.{payloads_of, payloads_in}
use Rattle.cm_exec.specs.Comparing.{Extends}
use Rattle.cm_story.specs.Tale.{Asks, Needs, Ends}
use Rattle.cm_exec.specs.Run.{Asked, asked, Used, Blocked, touched_with, invariants_of, Telling, declared_in, given}
use Rattle.cm_exec.specs.Run.{invariant_in}
use Rattle.cm_exec.specs.declared.run.Run.{Run}
use Rattle.cm_exec.specs.declared.run.Touch.{Touch}
use Rattle.cm_exec.specs.declared.run.Phase.{Phase}
use Rattle.cm_exec.specs.declared.run.Phase.TheVariants as phase
use Rattle.cm_exec.specs.Running.{telling, at_phase, touches, touch_after, used, adds, told_after, IsTouch, IsRoomy}
use Rattle.cm_exec.specs.Running.{Stands, adds_with, IsThere}
use Rattle.cm_exec.proofs.Touching.{touch_begins, touch_stands, found_below}

-- payloads of one symbol more
pub payloads_more : (ps qs : List Piece) (p : Piece) → qs ≡ ps ++ p ∷ [] → Extends (payloads_of ps) (payloads_of qs)
payloads_more ps qs p e = (payloads_in p.variables.options, ap payloads_of e ∙ longer ps)
  where
    longer : (ps : List Piece) → payloads_of (ps ++ p ∷ []) ≡ payloads_of ps ++ payloads_in p.variables.options
    longer [] = append-nil (payloads_in p.variables.options)
    longer (q ∷ ps) = ap (λ ts. payloads_in q.variables.options ++ ts) (longer ps)
        ∙ sym (append_assoc (payloads_in q.variables.options) (payloads_of ps) (payloads_in p.variables.options))

among_more : (ps : List Piece) (p q : Piece) (k : ℕ) → slice_get (ps ++ p ∷ []) k ≡ Some q
    → ((k : ℕ) → slice_get ps k ≡ Some q → ⊥) → (p ≡ q → ⊥) → ⊥
among_more [] p q zero there before last = last (cc)
among_more [] p q (suc k) there before last = absurd (cc)
among_more (x ∷ ps) p q zero there before last = before zero there
among_more (x ∷ ps) p q (suc k) there before last = among_more ps p q k there (λ j h. before (suc j) h) last

-- cells from a number on were not asked for, and something else was
pub roomy_beside : (ps qs : List Piece) (p : Piece) (n : ℕ) → IsRoomy ps n
    → ((i : ℕ) → n ≤ i → p.root ≡ root.Cell i → ⊥) → qs ≡ ps ++ p ∷ [] → IsRoomy qs n
roomy_beside ps qs p n roomy other e i le q among is =
    among_more ps p q among.0 (subst (λ (xs : List Piece). slice_get xs among.0 ≡ Some q) e among.1)
    (λ k there. roomy i le q (k, there) is)
    (λ equal. other i le (ap (λ (x : Piece). x.root) equal ∙ is))

-- cells from the next number on were not asked for
pub roomy_more : (ps qs : List Piece) (p : Piece) (n m : ℕ) → IsRoomy ps n → p.root ≡ root.Cell n
    → qs ≡ ps ++ p ∷ [] → m ≡ n + 1 → IsRoomy qs m
roomy_more ps qs p n m roomy at e same =
    roomy_beside ps qs p m (λ i le. roomy i (omega (arith, same, le))) (λ i le is. apart i le (sym at ∙ is)) e
  where
    apart : (i : ℕ) → m ≤ i → root.Cell n ≡ root.Cell i → ⊥
    apart i le other = let number : n ≡ i = cc in omega (arith, same, le, number)

-- the number of places stays
pub roomy_still : (ps : List Piece) (n m : ℕ) → IsRoomy ps n → m ≡ n → IsRoomy ps m
roomy_still ps n m roomy e = subst (IsRoomy ps) (sym e) roomy

-- what is asked is at the head
pub head_is : (s : Telling) (q : Asked) (f : ℕ → Telling) → s ≡ Asks q f → s ≡ Asks q (told_after s)
head_is s q f e = subst (λ r. r ≡ Asks q (told_after r)) (sym e) refl

module _ (t : Tables) (ps : List Term) (r : Run) (cs : CellTable) where
  -- a touch as it stands
  stands : (x : Touch) (n : Touched) → n ≡ next_of cs.places (place x.state x.key) x.answers
      → Stands cs n (λ more. touches t ps r x (x.answers ++ more) cs) (λ i. used t ps r x.goal i cs) (adds t ps r x cs)
  stands x n e = subst (λ m. Stands cs m (λ more. touches t ps r x (x.answers ++ more) cs)
      (λ i. used t ps r x.goal i cs)
      (adds t ps r x cs)) (sym e)
      (touch_stands cs (place x.state x.key) x.answers (λ i. used t ps r x.goal i cs) (adds t ps r x cs))

  none_more : (x : Touch) → touches t ps r x (x.answers ++ []) cs ≡ touches t ps r x x.answers cs
  none_more x = ap (λ answers. touches t ps r x answers cs) (append-nil x.answers)

  asks_in : (ph : Phase) (q : Question) → IsTouch (touched.Ask q) ph cs
      → at_phase t ps r ph cs ≡ Asks (asked q cs) (told_after (at_phase t ps r ph cs))
  asks_in (phase.Touches x) q is = head_is (touches t ps r x x.answers cs) (asked q cs)
      (λ d. touches t ps r x (x.answers ++ d ∷ []) cs) (sym (none_more x) ∙ stands x (touched.Ask q) is)
  asks_in phase.Goes q is = absurd is
  asks_in (phase.Told x a) q is = absurd is
  asks_in (phase.Checks s d u) q is = absurd is
  asks_in (phase.Replied v) q is = absurd is
  asks_in phase.Blocked q is = absurd is

  -- a question is asked
  pub touch_asks : (n : Touched) (q : Question) → IsTouch n r.phase cs → n ≡ touched.Ask q
      → telling t ps r cs ≡ Asks (asked q cs) (told_after (telling t ps r cs))
  touch_asks n q is e = asks_in r.phase q (subst (λ m. IsTouch m r.phase cs) e is)

  touch_in : (x : Touch) (n : Touched) → IsTouch n r.phase cs → r.phase ≡ phase.Touches x
      → n ≡ next_of cs.places (place x.state x.key) x.answers
  touch_in x n is e = subst (λ ph. IsTouch n ph cs) e is

  -- it is one of the cells
  pub touch_finds : (x : Touch) (n : Touched) (i : ℕ) → IsTouch n r.phase cs → r.phase ≡ phase.Touches x
      → n ≡ touched.Cell i → telling t ps r cs ≡ used t ps r x.goal i cs
  touch_finds x n i is e at =
      ap (λ ph. at_phase t ps r ph cs) e ∙ sym (none_more x)
      ∙ stands x (touched.Cell i) (sym at ∙ touch_in x n is e)

  -- it is none of them
  pub touch_misses : (x : Touch) (n : Touched) → IsTouch n r.phase cs → r.phase ≡ phase.Touches x
      → n ≡ touched.New → telling t ps r cs ≡ adds t ps r x cs
  touch_misses x n is e at =
      ap (λ ph. at_phase t ps r ph cs) e ∙ sym (none_more x) ∙ stands x touched.New (sym at ∙ touch_in x n is e)

  pub misses_at : (x : Touch) → touched.New ≡ next_of cs.places (place x.state x.key) x.answers
      → touches t ps r x x.answers cs ≡ adds t ps r x cs
  misses_at x e = sym (none_more x) ∙ stands x touched.New e

  -- an outcome that is there for a touch
  pub touch_told : (x : Touch) (q : Question) (d : ℕ)
      → touched.Ask q ≡ next_of cs.places (place x.state x.key) x.answers
      → touches t ps r x (x.answers ++ d ∷ []) cs ≡ told_after (touches t ps r x x.answers cs) d
  touch_told x q d e = sym (ap (λ s. told_after s d) (sym (none_more x) ∙ stands x (touched.Ask q) e))

  needs_with : (x : Touch) (o : Option StateDecl) → IsThere o
      → (p : Place) × (f : Term → Telling) × (adds_with t ps r (declared_in t.ints ps o) x cs ≡ Needs p f)
  needs_with x (Some d) is = (
    place x.state x.key,
    given (invariant_in t.ints ps d.inv) (place x.state x.key) cs
        (used t ps r x.goal),
    refl,
  )
  needs_with x None is = absurd is

  -- a cell of a state that is there is needed
  pub adds_needs : (x : Touch) → IsThere (slice_get t.states x.state)
      → (p : Place) × (f : Term → Telling) × (adds t ps r x cs ≡ Needs p f)
  adds_needs x is = needs_with x (slice_get t.states x.state) is

-- the cell is there
pub found_there : (x : Touch) (ph : Phase) (cs : CellTable) (n : Touched) (i : ℕ) → IsTouch n ph cs
    → ph ≡ phase.Touches x → n ≡ touched.Cell i → i < length cs.places
found_there x ph cs n i is e at =
    found_below (length cs.places) cs.places 0 (place x.state x.key) (omega arith) x.answers i
    (sym (subst (λ p. IsTouch n p cs) e is) ∙ at)

module _ (t : Tables) (ps : List Term) (r : Run) (cs : CellTable) where
  begins_with : (x : Touch) (o : Option StateDecl) → IsThere o → x.answers ≡ []
      → touched_with (declared_in t.ints ps o) (place x.state x.key) cs (used t ps r x.goal)
      ≡ touch_after cs (place x.state x.key) x.answers (λ i. used t ps r x.goal i cs)
      (adds_with t ps r (declared_in t.ints ps o) x cs)
  begins_with x None is e = absurd is
  begins_with x (Some d) is e =
      sym (ap (λ l. touch_after cs (place x.state x.key) l (λ i. used t ps r x.goal i cs)
      (adds_with t ps r (declared_in t.ints ps (Some d)) x cs)) e
      ∙ touch_begins cs (place x.state x.key) (λ i. used t ps r x.goal i cs)
      (adds_with t ps r (declared_in t.ints ps (Some d)) x cs))

  -- a touch of a state that is there begins
  pub touch_of_state : (x : Touch) → IsThere (slice_get t.states x.state) → x.answers ≡ []
      → touched_with (invariants_of t ps x.state) (place x.state x.key) cs (used t ps r x.goal)
      ≡ touches t ps r x x.answers cs
  touch_of_state x is e = begins_with x (slice_get t.states x.state) is e

  missing_with : (p : Place) (k : Used) (o : Option StateDecl) → (IsThere o → ⊥)
      → touched_with (declared_in t.ints ps o) p cs k ≡ Ends (Blocked cs)
  missing_with p k None isnt = refl
  missing_with p k (Some d) isnt = absurd (isnt tt)

  -- one of a state that is not there is blocked
  pub touch_of_none : (p : Place) (k : Used) → (IsThere (slice_get t.states p.state) → ⊥)
      → touched_with (invariants_of t ps p.state) p cs k ≡ Ends (Blocked cs)
  touch_of_none p k isnt = missing_with p k (slice_get t.states p.state) isnt

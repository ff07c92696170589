-- The cells that a pair's tale needs are of declared states.
use Rattle.std.proofs.Common.{◌≡◌, ◌+◌, ℕ, List, [], ◌∷◌, slice_get, Option, Some, None, refl}
use Rattle.std.proofs.Common.{length}
use Rattle.std.specs.List.{AllByRecursion}
use Rattle.cm_model.specs.Tables.{Tables}
use Rattle.cm_model.specs.declared.pair.Pair.{Pair}
use Rattle.cm_model.specs.declared.body.StateDecl.{StateDecl}
use Rattle.cm_term.specs.declared.term.Term.{Term}
use Rattle.cm_eval.specs.Script.{Replies, Blocks, Decides, Reads, Writes}
use Rattle.cm_cells.specs.declared.order.Order.{Order}
use Rattle.cm_cells.specs.declared.order.Order.TheVariants as order
use Rattle.cm_cells.specs.CellTable.{CellTable, Place, with_cell, with_term, started_anew}
use Rattle.cm_cells.specs.CellTable as cells
use Rattle.cm_cells.proofs.Related.{touching_alike}
use Rattle.cm_ctx.specs.declared.piece.Counts.{Counts}
use Rattle.cm_ctx.specs.Making.{counted}
use Rattle.cm_story.specs.Tale.{Asks, Needs, Ends}
use Rattle.cm_exec.specs.Terms.{Plan}
use Rattle.cm_exec.specs.Settling.{Settling, settling_of}
use Rattle.cm_exec.specs.Settling as settling
use Rattle.cm_exec.specs.Run.{Telling, Invariant, Used, checked, added, touched_with, term_in}
use Rattle.cm_exec.specs.Run.{checking, asked, play, invariants_of, invariant_in, declared_in, plan_of, piece_at}
use Rattle.cm_beside.specs.Beside.{PairTale, followed_by, settles, pair_tale, compared}
use Rattle.cm_beside.specs.Nodes.{after}

module _ (t : Tables) where
  abbrev pub IsDeclared : Place → Type 0
  IsDeclared p = (d : StateDecl) × (slice_get t.states p.state ≡ Some d)

  -- whatever is answered and given, only such cells are needed
  abbrev pub Needs_ : PairTale → Type 0
  Needs_ (Asks a k) = (d : ℕ) → Needs_ (k d)
  Needs_ (Needs p k) = IsDeclared p × ((x : Term) → Needs_ (k x))
  Needs_ (Ends w) = Unit {0}

  -- those of a node
  pub places_declared : (tale : PairTale) → Needs_ tale → (c : Counts) (n : ℕ) (answers : List ℕ)
      → AllByRecursion IsDeclared (after t tale c n answers).places
  places_declared (Asks a k) h c n [] = tt
  places_declared (Asks a k) h c n (d ∷ ds) = places_declared (k d) (h d) c n ds
  places_declared (Needs p k) h c n ds = (
    h.0,
    places_declared (k (piece_at t c n p).term) (h.1 (piece_at t c n p).term)
        (counted c (piece_at t c n p).variables) (n + 1) ds,
  )
  places_declared (Ends w) h c n [] = tt
  places_declared (Ends w) h c n (d ∷ ds) = tt

  last_needs : (cs : CellTable) (z : Settling) → Needs_ (settles cs z)
  last_needs cs (settling.Asks q f) = λ d. last_needs cs (f d)
  last_needs cs settling.Unequal = tt
  last_needs cs (settling.Needs es) = tt

  module _ (K : Term → CellTable → PairTale) where
    abbrev Fine : Telling → Type 0
    Fine y = Needs_ (followed_by y K)

    checking_needs : (plan : Plan) (cs : CellTable) (more : Telling) → Fine more → Fine (checking plan cs more)
    checking_needs (Replies x) cs more h = h
    checking_needs Blocks cs more h = tt
    checking_needs (Decides q f) cs more h = λ d. checking_needs (f d) cs more h
    checking_needs (Reads p f) cs more h = tt
    checking_needs (Writes p x f) cs more h = tt

    checked_needs : (i : Invariant) (x : Term) (cs : CellTable) (more : Telling) → Fine more → Fine (checked i x cs more)
    checked_needs None x cs more h = h
    checked_needs (Some f) x cs more h = checking_needs (f x) cs more h

    touched_needs : (ps : List Term) (p : Place) (cs : CellTable) (used : Used)
        → ((n : ℕ) (ds : CellTable) → Fine (used n ds)) → Fine (touched_with (invariants_of t ps p.state) p cs used)
    touched_needs ps p cs used each = by (slice_get t.states p.state) refl
      where
        by : (o : Option StateDecl) → slice_get t.states p.state ≡ o
            → Fine (touched_with (declared_in t.ints ps o) p cs used)
        by None at = tt
        by (Some d) at =
            touching_alike Telling Telling (λ x y. Fine x) (λ q. Asks (asked q cs)) (λ q. Asks (asked q cs))
            (λ q k l h d. h d) cs.places 0 p (λ n. used n cs) (added (invariant_in t.ints ps d.inv) p cs used)
            (λ n. used n cs) (added (invariant_in t.ints ps d.inv) p cs used) (λ n. each n cs) (
              (d, at),
              (λ x. checked_needs (invariant_in t.ints ps d.inv) x (with_cell cs p x)
                  (used (length cs.places) (with_cell cs p x)) (each (length cs.places) (with_cell cs p x))),
            )

    pub play_needs : (ps : List Term) (o : Order) → ((x : Term) (cs : CellTable) → Needs_ (K x cs)) → (plan : Plan)
        (cs : CellTable) → Fine (play (invariants_of t ps) o plan cs)
    play_needs ps o last (Replies x) cs = last x cs
    play_needs ps o last Blocks cs = tt
    play_needs ps o last (Decides q f) cs = λ d. play_needs ps o last (f d) cs
    play_needs ps o last (Reads p f) cs =
        touched_needs ps p cs (λ n more. play (invariants_of t ps) o (f (term_in o more n)) more)
        (λ n more. play_needs ps o last (f (term_in o more n)) more)
    play_needs ps o last (Writes p x f) cs =
        touched_needs ps p cs (λ n more. play (invariants_of t ps) o f (with_term o n x more))
        (λ n more. play_needs ps o last f (with_term o n x more))

  -- the whole tale
  pub pair_needs : (p : Pair) (xs ys ps : List Term) → Needs_ (pair_tale t p xs ys ps)
  pair_needs p xs ys ps =
      play_needs _ ps order.Ab (λ x cs. play_needs _ ps order.Ab (λ y cs. play_needs _ ps order.Ba (λ z cs.
      play_needs _ ps order.Ba (λ q cs. last_needs cs (settling_of ps (compared x y z q cs))) (plan_of t p.a xs ps) cs)
      (plan_of t p.b ys ps) (started_anew order.Ba cs)) (plan_of t p.b ys ps) cs) (plan_of t p.a xs ps) cells.no_cells

-- A touch of a cell, question by question.
use Rattle.std.specs.Prelude.{ℕ, ◌+◌, ◌==◌, Bool, true, false, List, [], ◌∷◌, Option, Some, None, if◌then◌else◌}
use Rattle.cm_term.specs.declared.question.Question.{Question}
use Rattle.cm_term.specs.declared.term.Term.{Term}
use Rattle.cm_cells.specs.declared.search.Touched.{Touched}
use Rattle.cm_cells.specs.declared.search.Touched.TheVariants as touched
use Rattle.cm_cells.specs.CellTable.{Place}
use Rattle.cm_cells.specs.Comparison.{comparing}

module _ (X : Type 0) (ask : Question → (ℕ → X) → X) where
  abbrev pub keys_compared : Option Term → Option Term → (Bool → X) → X
  keys_compared None None k = k true
  keys_compared None (Some u) k = k false
  keys_compared (Some t) None k = k false
  keys_compared (Some t) (Some u) k = comparing X ask t u k

  -- a cell beside one that was touched before
  abbrev pub places_compared : Place → Place → (Bool → X) → X
  places_compared p q k = if p.state == q.state then keys_compared p.key q.key k else k false

  -- the cell is compared with those that are left, in the order of first touch, until one is equal; what is done
  -- with the number of that one, and where none is
  abbrev pub touching : List Place → ℕ → Place → (ℕ → X) → X → X
  touching [] i p found fresh = fresh
  touching (q ∷ qs) i p found fresh =
      places_compared p q (λ s. if s then found i else touching qs (i + 1) p found fresh)

-- where a touch stands, from the answers that are left
abbrev pub Answering : Type 0
Answering = List ℕ → Touched

-- a question takes the next answer, and is asked where there is none
abbrev pub asked : Question → (ℕ → Answering) → Answering
asked q k [] = touched.Ask q
asked q k (a ∷ answers) = k a answers

-- where the touch of a cell stands after these answers
abbrev pub next_of : List Place → Place → List ℕ → Touched
next_of ps p = touching Answering asked ps 0 p (λ i answers. touched.Cell i) (λ answers. touched.New)

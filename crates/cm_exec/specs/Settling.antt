-- The comparison of the two orders' terms: its inspections, and the equalities that it needs.
use Rattle.std.specs.Prelude.{ℕ, true, false, List, [], ◌∷◌, ◌++◌}
use Rattle.cm_term.specs.declared.question.Question.{Question}
use Rattle.cm_term.specs.declared.question.Equal.{Equal}
use Rattle.cm_term.specs.declared.term.Term.{Term}
use Rattle.cm_exec.specs.declared.comparison.Sides.{Sides}
use Rattle.cm_exec.specs.Asking.{Asking, Stops, Says, Inspects, Meets, asks_of}

pub data Settling : Type 0 where
  -- a variant or an option is inspected
  Asks : Question → (ℕ → Settling) → Settling
  -- two are unequal, or of no one type
  Unequal : Settling
  -- all are equal exactly where these are
  Needs : List Equal → Settling

-- two elements or numbers that meet are needed to be equal, beside those needed before; what comes after two terms
-- that are equal then
abbrev pub needing : List Equal → Asking → (List Equal → Settling) → Settling
needing es Stops k = Unequal
needing es (Says true) k = k es
needing es (Says false) k = Unequal
needing es (Inspects q f) k = Asks q (λ d. needing es (f d) k)
needing es (Meets e f) k = needing (es ++ e ∷ []) (f true) k

-- pair by pair, with the payloads of the options' variables
abbrev pub settling_from : List Term → List Equal → List Sides → Settling
settling_from ps es [] = Needs es
settling_from ps es (p ∷ more) = needing es (asks_of ps p.left p.right) (λ fs. settling_from ps fs more)

abbrev pub settling_of : List Term → List Sides → Settling
settling_of ps = settling_from ps []

-- what comes after an outcome
abbrev pub settling_after : Settling → ℕ → Settling
settling_after (Asks q f) d = f d
settling_after Unequal d = Unequal
settling_after (Needs es) d = Unequal

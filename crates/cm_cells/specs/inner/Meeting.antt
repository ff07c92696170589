-- What came of a comparison, for every way to go on.
use Rattle.std.specs.Prelude.{◌≡◌, ◌==◌, ℕ, Bool, List, map}
use Rattle.cm_term.specs.declared.atom.Tag.{Tag}
use Rattle.cm_term.specs.declared.question.Question.{Question}
use Rattle.cm_term.specs.declared.term.Term.{Term}
use Rattle.cm_cells.specs.declared.compare.Met.{Met}
use Rattle.cm_cells.specs.declared.compare.Met.TheVariants as meet
use Rattle.cm_cells.specs.declared.search.Touched.{Touched}
use Rattle.cm_cells.specs.declared.search.Touched.TheVariants as touched
use Rattle.cm_cells.specs.CellTable.{Place}
use Rattle.cm_cells.specs.Comparison.{comparing, fields_compared, tags_compared}
use Rattle.cm_cells.specs.Touching.{Answering, asked, places_compared}

abbrev pub met : Met → (Bool → Answering) → Touched
met (meet.Asks q) k = touched.Ask q
met (meet.Told b rest) k = k b rest.now

-- of two keys
abbrev pub Compares : Term → Term → List ℕ → Met → Type 0
Compares t u answers m = (k : Bool → Answering) → comparing Answering asked t u k answers ≡ met m k

-- of two lists of fields
abbrev pub ComparesAll : List Term → List Term → List ℕ → Met → Type 0
ComparesAll ts us answers m = (k : Bool → Answering) →
    fields_compared Answering (map (comparing Answering asked) ts) us k answers ≡ met m k

-- of two variants
abbrev pub ComparesTags : Tag → Tag → List ℕ → Met → Type 0
ComparesTags a b answers m = (k : Bool → Answering) → tags_compared Answering asked a b k answers ≡ met m k

-- of a question that says with this outcome that two are the same
abbrev pub Tells : Question → ℕ → List ℕ → Met → Type 0
Tells q outcome answers m = (k : Bool → Answering) → asked q (λ d. k (d == outcome)) answers ≡ met m k

-- of two cells
abbrev pub Meets : Place → Place → List ℕ → Met → Type 0
Meets p q answers m = (k : Bool → Answering) → places_compared Answering asked p q k answers ≡ met m k

-- The outcome of a question under a valuation.
use Rattle.std.specs.Prelude.{◌≡◌, ◌==◌, ℕ, ℤ, int_lt, List, ◌∷◌, [], ◌++◌, if◌then◌else◌}
use Rattle.cm_term.specs.declared.atom.Num.{Num}
use Rattle.cm_term.specs.declared.question.Question.{Question}
use Rattle.cm_term.specs.declared.question.Question.TheVariants as question
use Rattle.cm_term.specs.declared.question.Equal.{Equal}
use Rattle.cm_term.specs.declared.question.Equal.TheVariants as equal
use Rattle.cm_term.specs.declared.question.Fact.{Fact}
use Rattle.cm_term.specs.Valuation.{Valuation, Var, OfElement}
use Rattle.cm_term.specs.Atoms.{num_under, tag_under, opt_under, vars_of_num, vars_of_tag, vars_of_opt}

-- 0 equal, 1 different
abbrev pub elements_outcome : (ℕ → ℕ) → ℕ → ℕ → ℕ
elements_outcome e x y = if e x == e y then 0 else 1

-- 0 less, 1 equal, 2 greater
abbrev pub order_of : ℤ → ℤ → ℕ
order_of m n = if int_lt m n then 0 else if int_lt n m then 2 else 1

-- 0 below, 1 in range, 2 above
abbrev pub place_in : ℤ → ℤ → ℤ → ℕ
place_in lo hi n = if int_lt n lo then 0 else if int_lt hi n then 2 else 1

abbrev pub order_outcome : (ℕ → ℤ) → Num → Num → ℕ
order_outcome n a b = order_of (num_under n a) (num_under n b)

abbrev pub range_outcome : (ℕ → ℤ) → Num → ℤ → ℤ → ℕ
range_outcome n a lo hi = place_in lo hi (num_under n a)

-- the number that is decided
abbrev pub outcome_under : Valuation → Question → ℕ
outcome_under v (question.Elems x y) = elements_outcome v.element x.0 y.0
outcome_under v (question.Nums a b) = order_outcome v.number a b
outcome_under v (question.Range a lo hi) = range_outcome v.number a lo hi
outcome_under v (question.TagOf a) = tag_under v.tag a
outcome_under v (question.OptOf a) = opt_under v.present a

-- the question has the outcome
abbrev pub IsTold : Valuation → Fact → Type 0
IsTold v f = outcome_under v f.question ≡ f.outcome

-- the two are equal
abbrev pub AreEqual : Valuation → Equal → Type 0
AreEqual v (equal.Elems x y) = v.element x.0 ≡ v.element y.0
AreEqual v (equal.Nums a b) = num_under v.number a ≡ num_under v.number b

-- the variables of a question
abbrev pub vars_asked : Question → List Var
vars_asked (question.Elems x y) = OfElement x.0 ∷ OfElement y.0 ∷ []
vars_asked (question.Nums a b) = vars_of_num a ++ vars_of_num b
vars_asked (question.Range a lo hi) = vars_of_num a
vars_asked (question.TagOf a) = vars_of_tag a
vars_asked (question.OptOf a) = vars_of_opt a

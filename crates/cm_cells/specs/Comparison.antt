-- The comparison of two keys by their form, question by question. What is done with a question, and at the end,
-- is the reader's.
use Rattle.std.specs.Prelude.{ℕ, ◌==◌, Bool, true, false, List, [], ◌∷◌, Option, Some, None, if◌then◌else◌}
use Rattle.cm_model.specs.declared.variable.SortVar.{SortVar}
use Rattle.cm_term.specs.declared.atom.Num.{Num}
use Rattle.cm_term.specs.declared.atom.Tag.{Tag}
use Rattle.cm_term.specs.declared.question.Question.{Question}
use Rattle.cm_term.specs.declared.question.Question.TheVariants as question
use Rattle.cm_term.specs.declared.term.Term.{Term, out-Term}
use Rattle.cm_term.specs.declared.term.Term.TheOpen.{Term-F}
use Rattle.cm_term.specs.declared.term.Term.TheFolds.{fold-Term}

abbrev pub elem_in : Term-F Term → Option SortVar
elem_in (Term-F.Elem x) = Some x
elem_in _ = None

abbrev pub num_in : Term-F Term → Option Num
num_in (Term-F.Num a) = Some a
num_in _ = None

abbrev pub tag_in : Term-F Term → Option Tag
tag_in (Term-F.Tag a) = Some a
tag_in _ = None

abbrev pub fields_in : Term-F Term → Option (List Term)
fields_in (Term-F.Rec ts) = Some ts
fields_in _ = None

-- compared with another term, and what is done with the answer
abbrev pub Comparing : Type 0 → Type 0
Comparing X = Term → (Bool → X) → X

-- terms of no one type are different
abbrev pub or_differ : {X Y : Type 0} → Option Y → (Bool → X) → (Y → X) → X
or_differ (Some y) k f = f y
or_differ None k f = k false

-- field by field, until one differs
abbrev pub fields_compared : (X : Type 0) → List (Comparing X) → List Term → (Bool → X) → X
fields_compared X [] [] k = k true
fields_compared X [] (u ∷ us) k = k false
fields_compared X (m ∷ ms) [] k = k false
fields_compared X (m ∷ ms) (u ∷ us) k = m u (λ s. if s then fields_compared X ms us k else k false)

module _ (X : Type 0) (ask : Question → (ℕ → X) → X) where
  -- the left variant, then the right one
  abbrev pub tags_compared : Tag → Tag → (Bool → X) → X
  tags_compared a b k = ask (question.TagOf a) (λ d. ask (question.TagOf b) (λ e. k (d == e)))

  abbrev pub comparing_step : Term-F (Comparing X) → Comparing X
  comparing_step (Term-F.Elem x) u k =
      or_differ (elem_in (out-Term u)) k (λ y. ask (question.Elems x y) (λ d. k (d == 0)))
  comparing_step (Term-F.Num a) u k =
      or_differ (num_in (out-Term u)) k (λ b. ask (question.Nums a b) (λ d. k (d == 1)))
  comparing_step (Term-F.Tag a) u k = or_differ (tag_in (out-Term u)) k (λ b. tags_compared a b k)
  comparing_step (Term-F.Rec ms) u k = or_differ (fields_in (out-Term u)) k (λ us. fields_compared X ms us k)
  -- a key holds no option
  comparing_step Term-F.None u k = k false
  comparing_step (Term-F.Some m) u k = k false
  comparing_step (Term-F.Either o) u k = k false

  -- two keys compared by their type: elements, numbers, variants, records
  abbrev pub comparing : Term → Comparing X
  comparing = fold-Term (Comparing X) comparing_step

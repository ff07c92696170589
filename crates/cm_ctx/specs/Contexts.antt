-- What is known of the variables of terms, and which valuations satisfy it.
use Rattle.std.specs.Prelude.{◌≡◌, ◌<◌, ◌↔◌, ℕ, ℤ, pos, neg_ℤ, ◌≤ℤ◌, List, [], ◌∷◌, ◌++◌, map, length, slice_get}
use Rattle.std.specs.Prelude.{slice_index, Some, IsTrue}
use Rattle.cm_sorts.specs.Partition.{Partition}
use Rattle.cm_sorts.specs.Partition as sorts
use Rattle.cm_order.specs.Differences.{Differences}
use Rattle.cm_order.specs.Differences as order
use Rattle.cm_term.specs.declared.atom.Num.{Num}
use Rattle.cm_term.specs.declared.atom.Tag.{Tag}
use Rattle.cm_term.specs.declared.atom.Tag.TheVariants as tag
use Rattle.cm_term.specs.declared.atom.Opt.{Opt}
use Rattle.cm_term.specs.declared.atom.Opt.TheVariants as opt
use Rattle.cm_term.specs.declared.question.Question.{Question}
use Rattle.cm_term.specs.declared.question.Question.TheVariants as question
use Rattle.cm_term.specs.declared.term.Term.{Term}
use Rattle.cm_term.specs.Valuation.{Valuation}
use Rattle.cm_term.specs.Atoms.{var_of, offset_of}
use Rattle.cm_term.specs.Terms.{value_of}
use Rattle.cm_ctx.specs.declared.choice.Choice.{Choice}
use Rattle.cm_ctx.specs.declared.piece.Counts.{Counts}
use Rattle.cm_ctx.specs.declared.piece.ElementPart.{ElementPart}
use Rattle.cm_ctx.specs.declared.piece.OptionPart.{OptionPart}
use Rattle.cm_ctx.specs.declared.piece.Piece.{Piece}
use Rattle.cm_ctx.specs.Choices as choices
use Rattle.cm_ctx.specs.Making.{counts}

pub record Context : Type 0 where
  pub classes : Partition
  pub bounds : Differences
  pub tags : List Choice
  pub options : List Choice
  -- what was made for each symbol that was asked for
  pub pieces : List Piece

abbrev pub context : Partition → Differences → List Choice → List Choice → List Piece → Context
context k b ts os ps = record { classes = k; bounds = b; tags = ts; options = os; pieces = ps }

abbrev pub counts_of : Context → Counts
counts_of c = counts (length c.classes.sorts) (length c.bounds) (length c.tags) (length c.options)

abbrev pub payloads_in : List OptionPart → List Term
payloads_in os = map (λ (o : OptionPart). o.payload) os

-- the term of each option's payload, by the options' numbers
abbrev pub payloads_of : List Piece → List Term
payloads_of [] = []
payloads_of (p ∷ ps) = payloads_in p.variables.options ++ payloads_of ps

-- the sorts of the variables of elements, in order
abbrev pub sorts_in : List ElementPart → List ℕ
sorts_in es = map (λ (e : ElementPart). e.sort) es

abbrev pub sorts_of : List Piece → List ℕ
sorts_of [] = []
sorts_of (p ∷ ps) = sorts_in p.variables.elements ++ sorts_of ps

-- each payload has the value of its term
abbrev pub Holds : List Term → Valuation → Type 0
Holds payloads v = (o : ℕ) (t : Term) → slice_get payloads o ≡ Some t → v.payload o ≡ value_of v t

-- the classes and the bounds are satisfied, and each decided tag and option has its decided number
pub record Satisfies (c : Context) (v : Valuation) : Type 0 where
  pub elements : sorts.Satisfies c.classes v.element
  pub numbers : order.Satisfies c.bounds v.number
  pub tags : choices.Satisfies c.tags v.tag
  pub options : choices.Satisfies c.options v.present
  pub payloads : Holds (payloads_of c.pieces) v

abbrev pub IsSatisfiable : Context → Type 0
IsSatisfiable c = (v : Valuation) × Satisfies c v

-- some valuation has the fact
abbrev pub Allows : Context → (Valuation → Type 0) → Type 0
Allows c P = (v : Valuation) × Satisfies c v × P v

-- the fact holds under every valuation
abbrev pub Implies : Context → (Valuation → Type 0) → Type 0
Implies c P = (v : Valuation) → Satisfies c v → P v

-- the new context has exactly the valuations of the old one that have the fact
abbrev pub Keeps : Context → Context → (Valuation → Type 0) → Type 0
Keeps old new P = (v : Valuation) → Satisfies new v ↔ (Satisfies old v × P v)

-- how far a number or an offset of a question is from 0 at most
abbrev pub question_limit : ℕ
question_limit = 500000000

abbrev pub IsSmall : ℤ → Type 0
IsSmall n = (neg_ℤ (pos question_limit) ≤ℤ n) × (n ≤ℤ pos question_limit)

-- a number whose variable is there
abbrev pub IsNum : ℕ → Num → Type 0
IsNum count a = (var_of a < count) × IsSmall (offset_of a)

abbrev pub IsTag : ℕ → Tag → Type 0
IsTag count (tag.Const ty index) = index < 64
IsTag count (tag.Var x) = x.0 < count

abbrev pub IsOpt : ℕ → Opt → Type 0
IsOpt count opt.None = Unit {0}
IsOpt count opt.Some = Unit {0}
IsOpt count (opt.Var o) = o.0 < count

-- a question on variables that are there, with numbers that are small
abbrev pub IsQuestion : Context → Question → Type 0
IsQuestion c (question.Elems x y) =
    (x.0 < length c.classes.sorts) × (y.0 < length c.classes.sorts)
    × (slice_index c.classes.sorts x.0 ≡ slice_index c.classes.sorts y.0)
IsQuestion c (question.Nums a b) = IsNum (length c.bounds) a × IsNum (length c.bounds) b
IsQuestion c (question.Range a lo hi) = IsNum (length c.bounds) a × IsSmall lo × IsSmall hi × (lo ≤ℤ hi)
IsQuestion c (question.TagOf a) = IsTag (length c.tags) a
IsQuestion c (question.OptOf a) = IsOpt (length c.options) a

-- room for the outcome of a question
abbrev pub HasSpare : Context → Question → Type 0
HasSpare c (question.Elems x y) = IsTrue c.classes.spare
HasSpare c (question.Nums a b) = Unit {0}
HasSpare c (question.Range a lo hi) = Unit {0}
HasSpare c (question.TagOf a) = Unit {0}
HasSpare c (question.OptOf a) = Unit {0}

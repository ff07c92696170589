-- What a call does on values beside what it does on terms.
use Rattle.std.specs.Prelude.{◌≡◌, ◌<◌, ◌+◌, ◌*◌, ◌==◌, ltb, int_le, ℕ, ℤ, Bool, true, false, ◌&&◌, ◌||◌}
use Rattle.std.specs.Prelude.{List, [], ◌∷◌, slice_get, Option, Some, IsTrue}
use Rattle.std.specs.Ordering.{int_eq}
use Rattle.cm_model.specs.Limits.{number_limit, variant_limit}
use Rattle.cm_model.specs.Tables.{Tables}
use Rattle.cm_model.specs.Kinds.{Kind, Number, Of}
use Rattle.cm_model.specs.declared.body.StateDecl.{StateDecl}
use Rattle.cm_model.specs.declared.ty.IntDecl.{IntDecl}
use Rattle.cm_value.specs.declared.value.Value.{Value}
use Rattle.cm_eval.specs.Script.{Replies, Blocks, Decides, Reads, Writes}
use Rattle.cm_eval.specs.Evaluation as evaluation
use Rattle.cm_eval.specs.Evaluation.{named}
use Rattle.cm_eval.specs.declared.operand.Operand.{Operand}
use Rattle.cm_eval.specs.declared.operand.Operand.TheVariants as operand
use Rattle.cm_term.specs.declared.atom.Num.{Num}
use Rattle.cm_term.specs.declared.atom.Tag.{Tag}
use Rattle.cm_term.specs.declared.atom.Tag.TheVariants as tag
use Rattle.cm_term.specs.declared.atom.Opt.{Opt}
use Rattle.cm_term.specs.declared.atom.Opt.TheVariants as opt
use Rattle.cm_term.specs.declared.question.Question.{Question}
use Rattle.cm_term.specs.declared.question.Question.TheVariants as question
use Rattle.cm_term.specs.declared.term.Term.{Term}
use Rattle.cm_term.specs.Valuation.{OfElement, OfOption}
use Rattle.cm_term.specs.Atoms.{num_under}
use Rattle.cm_term.specs.Questions.{outcome_under}
use Rattle.cm_term.specs.Terms.{value_of}
use Rattle.cm_exec.specs.declared.operand.Operand as terms
use Rattle.cm_exec.specs.declared.operand.Operand.TheVariants as operand_of_terms
use Rattle.cm_exec.specs.Terms.{Plan}
use Rattle.cm_relation.specs.Relation.{AreKeys}
use Rattle.cm_beside.specs.Grounds.{Grounds}
use Rattle.cm_beside.specs.Fits.{Fits, is_num, is_tag, is_near, value_offset_limit}

-- how far a number with so many shifts in it is from its variable at most
abbrev pub operand_limit : ℕ → ℕ
operand_limit n = value_offset_limit + n * number_limit

-- how far numbers and offsets of questions are from 0 at most
abbrev pub asked_limit : ℕ
asked_limit = 100000000

-- two variables of one sort
abbrev pub are_one_sort : Option ℕ → Option ℕ → Bool
are_one_sort (Some s) (Some r) = s == r
are_one_sort _ _ = false

-- the two ends of an integer type
abbrev pub has_ends : List IntDecl → ℤ → ℤ → Bool
has_ends [] lo hi = false
has_ends (d ∷ ds) lo hi = (int_eq d.lo lo && int_eq d.hi hi) || has_ends ds lo hi

module _ (t : Tables) (g : Grounds) where
  abbrev pub is_opt : Opt → Bool
  is_opt opt.None = true
  is_opt opt.Some = true
  is_opt (opt.Var o) = ltb o.0 g.options && g.has (OfOption o.0)

  abbrev pub is_variant : Tag → Bool
  is_variant (tag.Const e i) = ltb i variant_limit
  is_variant (tag.Var x) = true

  -- a question on variables that are there, whose symbols have values; its numbers are small, and a range is an integer
  -- type's
  abbrev pub is_question : Question → Bool
  is_question (question.Elems x y) =
      are_one_sort (slice_get g.sorts x.0) (slice_get g.sorts y.0) && (g.has (OfElement x.0) && g.has (OfElement y.0))
  is_question (question.Nums a b) = is_num t g asked_limit a && is_num t g asked_limit b
  is_question (question.Range a lo hi) =
      is_num t g asked_limit a && (is_near number_limit lo && (is_near number_limit hi && (int_le lo hi && has_ends t.ints lo hi)))
  is_question (question.TagOf a) = is_tag t g a && is_variant a
  is_question (question.OptOf a) = is_opt a

  -- step by step the same: each question has its outcome under the valuation, and whatever value of its type a cell
  -- has, with whatever term that has it, the rest is the same again; R is said of the replies
  abbrev pub Related : (Value → Term → Type 0) → evaluation.Doing → Plan → Type 0
  Related R c (Replies x) = (v : Value) × (c ≡ Replies v) × R v x
  Related R c Blocks = c ≡ Blocks
  Related R c (Decides q f) =
      (k : ℕ → evaluation.Doing) × (c ≡ Decides (outcome_under g.valuation q) k) × IsTrue (is_question q)
      × Related R (k (outcome_under g.valuation q)) (f (outcome_under g.valuation q))
  Related R c (Reads p f) =
      (d : StateDecl) × (slice_get t.states p.state ≡ Some d)
      × (key : Option Value) × AreKeys (Fits t g) d.key key p.key
      × (k : Value → evaluation.Doing) × (c ≡ Reads (named p.state key) k)
      × ((v : Value) (x : Term) → Fits t g d.value v x → Related R (k v) (f x))
  Related R c (Writes p x f) =
      (d : StateDecl) × (slice_get t.states p.state ≡ Some d)
      × (key : Option Value) × AreKeys (Fits t g) d.key key p.key
      × (v : Value) × Fits t g d.value v x
      × (k : evaluation.Doing) × (c ≡ Writes (named p.state key) v k) × Related R k f

  -- a number and a term's number that has it, with so many shifts in it
  abbrev pub is_numeral : ℕ → ℤ → Num → Bool
  is_numeral n m a = int_eq (num_under g.valuation.number a) m && is_num t g (operand_limit n) a

  -- what expressions of a kind give
  abbrev pub FitsOperand : ℕ → Kind → Operand → terms.Operand → Type 0
  FitsOperand n (Of u) (operand.Plain v) (operand_of_terms.Plain x) = Fits t g u v x
  FitsOperand n Number (operand.Number m) (operand_of_terms.Number a) = IsTrue (is_numeral n m a)
  FitsOperand n _ _ _ = ⊥

-- the payloads have the values of their terms; number 0 is there, and no number is far from 0
pub record IsGround (g : Grounds) : Type 0 where
  pub holds : (o : ℕ) (x : Term) → slice_get g.payloads o ≡ Some x → g.valuation.payload o ≡ value_of g.valuation x
  pub zero : 0 < g.numbers
  pub numbers : (x : ℕ) → x < g.numbers → IsTrue (is_near number_limit (g.valuation.number x))

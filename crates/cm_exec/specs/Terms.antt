-- The rules of the language on terms: a decision is a question.
use Rattle.std.specs.Prelude.{ℕ, ◌==◌, ℤ, Bool, List, length, slice_get, slice_set, ltb, Option, Some, None, refl}
use Rattle.std.specs.Prelude.{if◌then◌else◌}
use Rattle.cm_code.specs.Rules.{Rules}
use Rattle.cm_term.specs.declared.atom.Num.{Num}
use Rattle.cm_term.specs.declared.atom.Num.TheVariants as num
use Rattle.cm_term.specs.declared.atom.Tag.{Tag}
use Rattle.cm_term.specs.declared.atom.Tag.TheVariants as tag
use Rattle.cm_term.specs.declared.question.Question.{Question}
use Rattle.cm_term.specs.declared.question.Question.TheVariants as question
use Rattle.cm_term.specs.declared.question.Equal.{Equal}
use Rattle.cm_term.specs.declared.question.Equal.TheVariants as equal
use Rattle.cm_term.specs.declared.term.Term.{Term, out-Term}
use Rattle.cm_term.specs.declared.term.Term.TheVariants as term
use Rattle.cm_term.specs.Atoms.{shifted}
use Rattle.cm_eval.specs.Script.{Script, Replies, Blocks, Decides, Reads, Writes, given}
use Rattle.cm_cells.specs.CellTable.{Place, place}
use Rattle.cm_cells.specs.Comparison.{num_in, tag_in, fields_in}
use Rattle.cm_exec.specs.declared.operand.Operand.{Operand}
use Rattle.cm_exec.specs.declared.operand.Operand.TheVariants as operand
use Rattle.cm_exec.specs.Asking.{Asking, Stops, Says, Inspects, Meets, opt_of, payload_of, asks_of}

abbrev pub Plan : Type 0
Plan = Script Question Place Term

-- what is done, by the payloads of the options' variables
abbrev pub Doing : Type 0
Doing = List Term → Plan

abbrev pub term_of : Operand → Option Term
term_of (operand.Plain t) = Some t
term_of (operand.Number a) = None

abbrev pub number_of : Operand → Option Num
number_of (operand.Plain t) = num_in (out-Term t)
number_of (operand.Number a) = Some a

-- the variant that an operand is
abbrev pub choice_of : Operand → Option Tag
choice_of (operand.Plain t) = tag_in (out-Term t)
choice_of (operand.Number a) = None

-- a bool is a variant of enum 0
abbrev pub bool : Bool → Term
bool b = term.Tag (tag.Const 0 (if b then 1 else 0))

abbrev pub inspects : Operand → (Bool → Doing) → Doing
inspects o k ps = given (choice_of o) (λ a. Decides (question.TagOf a) (λ d. k (d == 1) ps))

abbrev pub orders : Operand → Operand → (ℕ → Doing) → Doing
orders x y k ps = given (number_of x) (λ m. given (number_of y) (λ n. Decides (question.Nums m n) (λ d. k d ps)))

-- two elements or numbers that meet, as a question
abbrev pub question_of : Equal → Question
question_of (equal.Elems x y) = question.Elems x y
question_of (equal.Nums a b) = question.Nums a b

-- whether two are equal, by the question's outcome
abbrev pub said_equal : Equal → ℕ → Bool
said_equal (equal.Elems x y) d = d == 0
said_equal (equal.Nums a b) d = d == 1

-- a comparison, and what is done with what it comes to
abbrev pub played : Asking → (Bool → Plan) → Plan
played Stops k = Blocks
played (Says b) k = k b
played (Inspects q f) k = Decides q (λ d. played (f d) k)
played (Meets e f) k = Decides (question_of e) (λ d. played (f (said_equal e d)) k)

-- two terms by their type, or two numbers
abbrev pub compares : Operand → Operand → (Bool → Doing) → Doing
compares (operand.Plain t) (operand.Plain u) k ps = played (asks_of ps t u) (λ s. k s ps)
compares (operand.Plain t) (operand.Number b) k ps = orders (operand.Plain t) (operand.Number b) (λ d. k (d == 1)) ps
compares (operand.Number a) y k ps = orders (operand.Number a) y (λ d. k (d == 1)) ps

-- a number between two: blocked where it is none
abbrev pub into : ℤ → ℤ → Operand → (Term → Doing) → Doing
into lo hi o k ps =
    given (number_of o) (λ a. Decides (question.Range a lo hi) (λ d. if d == 1 then k (term.Num a) ps else Blocks))

-- an option is inspected; its payload, where it is there, is what is gone on with
abbrev pub opens : Term → (Option Term → Doing) → Doing
opens t k ps = given (opt_of t) (λ o. Decides (question.OptOf o)
    (λ d. if d == 1 then given (payload_of ps t) (λ u. k (Some u) ps) else k None ps))

abbrev pub field_in : Option (List Term) → ℕ → Option Term
field_in (Some ts) i = slice_get ts i
field_in None i = None

abbrev pub fields_with : Option (List Term) → ℕ → Term → Option Term
fields_with (Some ts) i u = if ltb i (length ts) then Some (term.Rec (slice_set ts i u)) else None
fields_with None i u = None

abbrev pub summed : Option Num → ℤ → Option Operand
summed (Some a) by = Some (operand.Number (shifted a by))
summed None by = None

abbrev pub terms : Rules Term Operand Doing
terms = record {
  tag = λ e i. term.Tag (tag.Const e i);
  flag = bool;
  make = term.Rec;
  nothing = term.None;
  some = term.Some;
  field = λ t i. field_in (fields_in (out-Term t)) i;
  with_field = λ t i u. fields_with (fields_in (out-Term t)) i u;
  plain = operand.Plain;
  number = λ n. operand.Number (num.Const n);
  value = term_of;
  shift = λ o by. summed (number_of o) by;
  blocks = λ ps. Blocks;
  replies = λ t ps. Replies t;
  inspects = inspects;
  compares = compares;
  orders = orders;
  into = into;
  opens = opens;
  reads = λ s c k ps. Reads (place s c) (λ t. k t ps);
  writes = λ s c t k ps. Writes (place s c) t (k ps);
  plain_value = λ t. refl;
}

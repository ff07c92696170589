-- What the comparison of two terms asks.
use Rattle.std.specs.Prelude.{ℕ, ◌==◌, Bool, true, false, List, [], ◌∷◌, ◌++◌, take, slice_get, Option, Some, None}
use Rattle.std.specs.Prelude.{if◌then◌else◌}
use Rattle.cm_term.specs.declared.atom.Tag.{Tag}
use Rattle.cm_term.specs.declared.atom.Opt.{Opt}
use Rattle.cm_term.specs.declared.atom.Opt.TheVariants as opt
use Rattle.cm_term.specs.declared.question.Question.{Question}
use Rattle.cm_term.specs.declared.question.Question.TheVariants as question
use Rattle.cm_term.specs.declared.question.Equal.{Equal}
use Rattle.cm_term.specs.declared.question.Equal.TheVariants as equal
use Rattle.cm_term.specs.declared.term.Term.{Term, out-Term}
use Rattle.cm_term.specs.declared.term.Term.TheOpen.{Term-F}
use Rattle.cm_term.specs.declared.term.Term.TheFolds.{fold-Term}
use Rattle.cm_cells.specs.Comparison.{elem_in, num_in, tag_in, fields_in}

-- what is asked of two terms, question by question, and what they come to
pub data Asking : Type 0 where
  -- the two are of no one type
  Stops : Asking
  Says : Bool → Asking
  -- a variant or an option is inspected
  Inspects : Question → (ℕ → Asking) → Asking
  -- two elements or two numbers meet, and what comes after it, by whether they are equal
  Meets : Equal → (Bool → Asking) → Asking

-- what is asked of the second after the first
abbrev pub bound : Asking → (Bool → Asking) → Asking
bound Stops k = Stops
bound (Says b) k = k b
bound (Inspects q f) k = Inspects q (λ d. bound (f d) k)
bound (Meets e f) k = Meets e (λ b. bound (f b) k)

-- compared with another term
abbrev pub Asker : Type 0
Asker = Term → Asking

abbrev pub or_stops : {X : Type 0} → Option X → (X → Asking) → Asking
or_stops (Some x) k = k x
or_stops None k = Stops

-- whether an option is there
abbrev pub opt_in : Term-F Term → Option Opt
opt_in Term-F.None = Some opt.None
opt_in (Term-F.Some t) = Some opt.Some
opt_in (Term-F.Either o) = Some (opt.Var o)
opt_in _ = None

abbrev pub opt_of : Term → Option Opt
opt_of t = opt_in (out-Term t)

-- the payload of an option that may be there; those of variables are listed by the variables' numbers
abbrev pub payload_in : List Term → Term-F Term → Option Term
payload_in ps (Term-F.Some t) = Some t
payload_in ps (Term-F.Either o) = slice_get ps o.0
payload_in ps _ = None

abbrev pub payload_of : List Term → Term → Option Term
payload_of ps t = payload_in ps (out-Term t)

-- the left variant, then the right one
abbrev pub right_tag : ℕ → Tag → Asking
right_tag d b = Inspects (question.TagOf b) (λ e. Says (d == e))

abbrev pub tags_asked : Tag → Tag → Asking
tags_asked a b = Inspects (question.TagOf a) (λ d. right_tag d b)

-- field by field, until one differs
abbrev pub fields_asked : List Asker → List Term → Asking
fields_asked [] [] = Says true
fields_asked [] (u ∷ us) = Stops
fields_asked (m ∷ ms) [] = Stops
fields_asked (m ∷ ms) (u ∷ us) = bound (m u) (λ s. if s then fields_asked ms us else Says false)

abbrev pub payloads_asked : Option Asker → Option Term → Asking
payloads_asked (Some m) (Some u) = m u
payloads_asked (Some m) None = Stops
payloads_asked None u = Stops

-- both options were inspected: the payloads are compared where both are there
abbrev pub opened_asked : ℕ → ℕ → Option Asker → Option Term → Asking
opened_asked d e m u = if d == e then (if d == 1 then payloads_asked m u else Says true) else Says false

-- the right option, and then the payloads
abbrev pub right_option : ℕ → Opt → Option Asker → Option Term → Asking
right_option d r m u = Inspects (question.OptOf r) (λ e. opened_asked d e m u)

-- the left option, then the right one, and then the payloads
abbrev pub options_asked : Opt → Opt → Option Asker → Option Term → Asking
options_asked l r m u = Inspects (question.OptOf l) (λ d. right_option d r m u)

module _ (ps : List Term) where
  abbrev pub option_step : Opt → Option Asker → Asker
  option_step l m u = or_stops (opt_of u) (λ r. options_asked l r m (payload_of ps u))

  -- where these are asked of the payloads of variables
  abbrev pub asks_step : List Asker → Term-F Asker → Asker
  asks_step askers (Term-F.Elem x) u = or_stops (elem_in (out-Term u)) (λ y. Meets (equal.Elems x y) Says)
  asks_step askers (Term-F.Num a) u = or_stops (num_in (out-Term u)) (λ b. Meets (equal.Nums a b) Says)
  asks_step askers (Term-F.Tag a) u = or_stops (tag_in (out-Term u)) (tags_asked a)
  asks_step askers (Term-F.Rec ms) u = or_stops (fields_in (out-Term u)) (fields_asked ms)
  asks_step askers Term-F.None u = option_step opt.None None u
  asks_step askers (Term-F.Some m) u = option_step opt.Some (Some m) u
  asks_step askers (Term-F.Either o) u = option_step (opt.Var o) (slice_get askers o.0) u

  abbrev pub asks_in : List Asker → Term → Asker
  asks_in askers = fold-Term Asker (asks_step askers)

  -- what is asked of payloads, each from what is asked of those before it
  abbrev pub askers_from : List Asker → List Term → List Asker
  askers_from before [] = before
  askers_from before (t ∷ ts) = askers_from (before ++ asks_in before t ∷ []) ts

  -- what is asked of each variable's payload; the options in it have lesser numbers
  unfoldable pub askers : List Asker
  askers = askers_from [] ps

  -- of all payloads, or of those of variables below a number
  abbrev pub askers_below : Option ℕ → List Asker
  askers_below None = askers
  askers_below (Some n) = take n askers

  abbrev pub asks_below : Option ℕ → Term → Asker
  asks_below b = asks_in (askers_below b)

  -- two terms by their type: elements, numbers, variants, records, options with their payloads
  abbrev pub asks_of : Term → Asker
  asks_of = asks_below None

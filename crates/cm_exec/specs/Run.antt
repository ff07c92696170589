-- What a run of a call on terms asks, and the cells that it leaves.
use Rattle.std.specs.Prelude.{ℕ, ◌+◌, ◌≡◌, ◌↔◌, ltb, List, [], ◌∷◌, ◌++◌, length, slice_get, get_or}
use Rattle.std.specs.Prelude.{Option, Some, None, if◌then◌else◌}
use Rattle.cm_model.specs.Limits.{cell_limit}
use Rattle.cm_model.specs.Tables.{Tables}
use Rattle.cm_model.specs.declared.ty.IntDecl.{IntDecl}
use Rattle.cm_model.specs.declared.ty.Ty.{Ty}
use Rattle.cm_model.specs.declared.ty.Ty.TheVariants as ty
use Rattle.cm_model.specs.declared.body.Expr.{Expr}
use Rattle.cm_model.specs.declared.body.Call.{Call}
use Rattle.cm_model.specs.declared.body.StateDecl.{StateDecl}
use Rattle.cm_code.specs.Language.{body_of, meanings, invariant_of}
use Rattle.cm_eval.specs.Script.{Replies, Blocks, Decides, Reads, Writes}
use Rattle.cm_term.specs.declared.question.Question.{Question}
use Rattle.cm_term.specs.declared.symbol.Root.TheVariants as root
use Rattle.cm_term.specs.declared.term.Term.{Term}
use Rattle.cm_term.specs.declared.term.Term.TheVariants as term
use Rattle.cm_term.specs.Valuation.{Valuation}
use Rattle.cm_cells.specs.declared.order.Order.{Order}
use Rattle.cm_cells.specs.CellTable.{CellTable, Place, with_cell, with_term, terms_in}
use Rattle.cm_cells.specs.Touching.{touching}
use Rattle.cm_ctx.specs.declared.piece.Counts.{Counts}
use Rattle.cm_ctx.specs.declared.piece.Piece.{Piece}
use Rattle.cm_ctx.specs.Making.{counted, piece_of}
use Rattle.cm_ctx.specs.Giving.{Gives}
use Rattle.cm_exec.specs.declared.operand.Operand.{Operand}
use Rattle.cm_story.specs.Tale.{Tale, Asks, Needs, Ends}
use Rattle.cm_exec.specs.Terms.{Plan, Doing, terms}

-- the plan of a state's invariant for a cell's term, if the state is there and has one
abbrev pub Invariant : Type 0
Invariant = Option (Term → Plan)

-- how a run ends, with the cells at that point
pub data End : Type 0 where
  Replied : Term → CellTable → End
  Blocked : CellTable → End

-- a question, with the cells that stand when it is asked
pub record Asked : Type 0 where
  pub question : Question
  pub cells : CellTable

abbrev pub asked : Question → CellTable → Asked
asked q cs = record { question = q; cells = cs }

abbrev pub Telling : Type 0
Telling = Tale Asked Place Term End

-- an invariant's plan, which touches no cell: where it replies the run goes on, and else it is blocked
abbrev pub checking : Plan → CellTable → Telling → Telling
checking (Replies t) cs more = more
checking Blocks cs more = Ends (Blocked cs)
checking (Decides q f) cs more = Asks (asked q cs) (λ d. checking (f d) cs more)
checking (Reads p f) cs more = Ends (Blocked cs)
checking (Writes p t s) cs more = Ends (Blocked cs)

abbrev pub checked : Invariant → Term → CellTable → Telling → Telling
checked None t cs more = more
checked (Some f) t cs more = checking (f t) cs more

-- what is done with a touched cell, by its number
abbrev pub Used : Type 0
Used = ℕ → CellTable → Telling

-- a cell that is new comes last with its initial term, and its invariant is asked
abbrev pub given : Invariant → Place → CellTable → Used → Term → Telling
given i p cs k t = checked i t (with_cell cs p t) (k (length cs.places) (with_cell cs p t))

abbrev pub added : Invariant → Place → CellTable → Used → Telling
added i p cs k = Needs p (given i p cs k)

-- a touch
abbrev pub touched_with : Option Invariant → Place → CellTable → Used → Telling
touched_with (Some i) p cs k =
    touching Telling (λ q. Asks (asked q cs)) cs.places 0 p (λ n. k n cs) (added i p cs k)
touched_with None p cs k = Ends (Blocked cs)

abbrev pub term_in : Order → CellTable → ℕ → Term
term_in o cs n = get_or (terms_in o cs) n term.None

module _ (invariants : ℕ → Option Invariant) (o : Order) where
  abbrev pub touched : Place → CellTable → Used → Telling
  touched p = touched_with (invariants p.state) p

  -- a plan in an order, on the cells so far
  abbrev pub play : Plan → CellTable → Telling
  play (Replies t) cs = Ends (Replied t cs)
  play Blocks cs = Ends (Blocked cs)
  play (Decides q f) cs = Asks (asked q cs) (λ d. play (f d) cs)
  play (Reads p f) cs = touched p cs (λ n more. play (f (term_in o more n)) more)
  play (Writes p t s) cs = touched p cs (λ n more. play s (with_term o n t more))

-- of a state, with the payloads of the options' variables
abbrev pub invariant_in : List IntDecl → List Term → Option Expr → Invariant
invariant_in ints ps (Some e) = Some (λ t. invariant_of Term Operand Doing terms ints e t ps)
invariant_in ints ps None = None

abbrev pub declared_in : List IntDecl → List Term → Option StateDecl → Option Invariant
declared_in ints ps (Some d) = Some (invariant_in ints ps d.inv)
declared_in ints ps None = None

abbrev pub invariants_of : Tables → List Term → ℕ → Option Invariant
invariants_of t ps s = declared_in t.ints ps (slice_get t.states s)

abbrev pub plan_in : Tables → List Term → Option Call → List Term → Plan
plan_in t args (Some d) ps =
    body_of Term Operand Doing terms t.ints (meanings Term Operand Doing terms t.ints t.funs) d.body args
    terms.replies ps
plan_in t args None ps = Blocks

-- what a call does on terms
abbrev pub plan_of : Tables → ℕ → List Term → List Term → Plan
plan_of t call args ps = plan_in t args (slice_get t.calls call) ps

-- what a call asks on terms in an order, with the cells so far
abbrev pub tale_of : Tables → ℕ → List Term → Order → List Term → CellTable → Telling
tale_of t call args o ps cs = play (invariants_of t ps) o (plan_of t call args ps) cs

abbrev pub value_type : Option StateDecl → Ty
value_type (Some d) = d.value
value_type None = ty.Sort 0

-- what is made for a new cell, which comes with the next number
abbrev pub piece_at : Tables → Counts → ℕ → Place → Piece
piece_at t c n p = piece_of t (value_type (slice_get t.states p.state)) (root.Cell n) c

-- what has become where new cells have got their initial terms
pub record Settled : Type 0 where
  -- of the cells, in the order of first touch
  pub places : List Place
  -- how many variables there are
  pub counts : Counts
  -- what was made for symbols, in order
  pub pieces : List Piece
  -- what is still asked
  pub rest : Telling

abbrev pub settled_at : List Place → Counts → List Piece → Telling → Settled
settled_at qs c made s = record { places = qs; counts = c; pieces = made; rest = s }

-- from the cells, variables and pieces that there are: a cell that is new comes last, with a piece of its own whose
-- term it gets, as many cells as a path may touch
abbrev pub settled : Tables → List Place → Counts → List Piece → Telling → Settled
settled t qs c made (Asks q f) = settled_at qs c made (Asks q f)
settled t qs c made (Ends e) = settled_at qs c made (Ends e)
settled t qs c made (Needs p f) =
    if ltb (length qs) cell_limit
    then settled t (qs ++ p ∷ []) (counted c (piece_at t c (length qs) p).variables)
    (made ++ piece_at t c (length qs) p ∷ []) (f (piece_at t c (length qs) p).term)
    else settled_at qs c made (Needs p f)

-- a piece for each of these new cells, in order, the first one's number being n
abbrev pub pieces_for : Tables → Counts → ℕ → List Place → List Piece
pieces_for t c n [] = []
pieces_for t c n (p ∷ more) =
    piece_at t c n p ∷ pieces_for t (counted c (piece_at t c n p).variables) (n + 1) more

-- how many variables there are with these pieces
abbrev pub counted_all : Counts → List Piece → Counts
counted_all c [] = c
counted_all c (p ∷ more) = counted_all (counted c p.variables) more

-- a valuation gives the variables of each piece values of their types
abbrev pub GivesAll : List Piece → Valuation → Type 0
GivesAll [] v = Unit {0}
GivesAll (p ∷ more) v = Gives p.from p.variables v × GivesAll more v

-- cells and facts, before and after: some cells are new and come last, and the facts got a piece for each of them, in
-- order, and nothing else
pub record IsGrown (t : Tables) (old : List Place) (c : Counts) (before : List Piece) (new : List Place) (d : Counts)
    (after : List Piece) : Type 0 where
  pub cells : List Place
  pub places : new ≡ old ++ cells
  pub pieces : after ≡ before ++ pieces_for t c (length old) cells
  pub variables : d ≡ counted_all c (pieces_for t c (length old) cells)

-- facts, before and after: exactly those valuations of before satisfy them that give the variables of the new pieces
-- values of their types
abbrev pub KeepsAll : List Piece → (Valuation → Type 0) → List Piece → (Valuation → Type 0) → Type 0
KeepsAll before had after has =
    (made : List Piece) → after ≡ before ++ made → (v : Valuation) → has v ↔ (had v × GivesAll made v)

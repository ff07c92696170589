-- Nodes of a pair: what is known after some answers, and when a world has it so.
use Rattle.std.specs.Prelude.{◌≡◌, ◌+◌, ℕ, pos, Bool, List, [], ◌∷◌, ◌++◌, map, slice_get, Option, Some, None}
use Rattle.std.specs.List.{AllByRecursion}
use Rattle.cm_model.specs.Tables.{Tables}
use Rattle.cm_model.specs.declared.ty.Ty.{Ty}
use Rattle.cm_model.specs.declared.body.Call.{Call}
use Rattle.cm_model.specs.declared.pair.Pair.{Pair}
use Rattle.cm_term.specs.declared.symbol.Root.{Root}
use Rattle.cm_term.specs.declared.symbol.Root.TheVariants as root
use Rattle.cm_term.specs.declared.question.Question.{Question}
use Rattle.cm_term.specs.declared.question.Fact.{Fact}
use Rattle.cm_term.specs.declared.term.Term.{Term}
use Rattle.cm_term.specs.Valuation.{Valuation, Var}
use Rattle.cm_term.specs.Terms.{value_of}
use Rattle.cm_term.specs.Questions.{IsTold}
use Rattle.cm_cells.specs.CellTable.{Place}
use Rattle.cm_cells.specs.Alike.{cell_under}
use Rattle.cm_ctx.specs.declared.piece.Counts.{Counts}
use Rattle.cm_ctx.specs.declared.piece.Piece.{Piece}
use Rattle.cm_ctx.specs.Making.{counted, first_counts, piece_of}
use Rattle.cm_ctx.specs.Contexts.{payloads_of, sorts_of}
use Rattle.cm_world.specs.declared.world.World.{World}
use Rattle.cm_story.specs.Tale.{Asks, Needs, Ends}
use Rattle.cm_exec.specs.Run.{piece_at, pieces_for, counted_all, GivesAll}
use Rattle.cm_exec.specs.Comparing.{Extends}
use Rattle.cm_story.specs.Following.{Look, looks}
use Rattle.cm_beside.specs.declared.verdict.Verdict.{Verdict}
use Rattle.cm_beside.specs.Grounds.{Grounds}
use Rattle.cm_beside.specs.Beside.{PairTale, pair_tale}

-- what is made for symbols of these types, from a number on, where there are so many variables
abbrev pub pieces_from : Tables → (ℕ → Root) → ℕ → List Ty → Counts → List Piece
pieces_from t r i [] c = []
pieces_from t r i (u ∷ us) c =
    piece_of t u (r i) c ∷ pieces_from t r (i + 1) us (counted c (piece_of t u (r i) c).variables)

abbrev pub parameter_types : Option Call → List Ty
parameter_types (Some d) = map (λ p. p.ty) d.params
parameter_types None = []

abbrev pub types_of : Tables → ℕ → List Ty
types_of t call = parameter_types (slice_get t.calls call)

module _ (t : Tables) (p : Pair) where
  -- for the arguments of a, and then for those of b
  abbrev pub pieces_a : List Piece
  pieces_a = pieces_from t root.A 0 (types_of t p.a) first_counts

  abbrev pub counts_a : Counts
  counts_a = counted_all first_counts pieces_a

  abbrev pub pieces_b : List Piece
  pieces_b = pieces_from t root.B 0 (types_of t p.b) counts_a

  abbrev pub counts_b : Counts
  counts_b = counted_all counts_a pieces_b

  abbrev pub args_a : List Term
  args_a = map (λ (q : Piece). q.term) pieces_a

  abbrev pub args_b : List Term
  args_b = map (λ (q : Piece). q.term) pieces_b

-- for the arguments and these cells
abbrev pub pieces_of : Tables → Pair → List Place → List Piece
pieces_of t p places = pieces_a t p ++ (pieces_b t p ++ pieces_for t (counts_b t p) 0 places)

pub data Next : Type 0 where
  Asking : Question → Next
  Ended : Verdict → Next
  -- there are more answers than questions
  Past : Next

-- the answered questions, the touched cells, and what comes next
pub record Node : Type 0 where
  pub facts : List Fact
  pub places : List Place
  pub next : Next

abbrev pub node : List Fact → List Place → Next → Node
node fs ps n = record { facts = fs; places = ps; next = n }

abbrev pub fact : Question → ℕ → Fact
fact q d = record { question = q; outcome = d }

abbrev pub with_fact : Question → ℕ → Node → Node
with_fact q d n = node (fact q d ∷ n.facts) n.places n.next

abbrev pub with_place : Place → Node → Node
with_place p n = node n.facts (p ∷ n.places) n.next

-- what is known after these answers, where a new cell gets the next number and new variables
abbrev pub after : Tables → PairTale → Counts → ℕ → List ℕ → Node
after t (Asks a k) c n [] = node [] [] (Asking a.question)
after t (Asks a k) c n (d ∷ ds) = with_fact a.question d (after t (k d) c n ds)
after t (Needs p k) c n ds =
    with_place p (after t (k (piece_at t c n p).term) (counted c (piece_at t c n p).variables) (n + 1) ds)
after t (Ends w) c n [] = node [] [] (Ended w)
after t (Ends w) c n (d ∷ ds) = node [] [] Past

-- with the payloads of the options' variables
abbrev pub node_at : Tables → Pair → List Term → List ℕ → Node
node_at t p ps answers = after t (pair_tale t p (args_a t p) (args_b t p) ps) (counts_b t p) 0 answers

-- after the answers these are the facts and cells, and this comes next; whatever symbols are asked for later
abbrev pub IsNode : Tables → Pair → List ℕ → List Fact → List Place → Next → Type 0
IsNode t p answers facts places next =
    (ps : List Term) → Extends (payloads_of (pieces_of t p places)) ps → node_at t p ps answers ≡ node facts places next

-- number 0 is the constant 0, and each variable that was made has a value of its type
pub record IsValuation (pieces : List Piece) (v : Valuation) : Type 0 where
  pub zero : v.number 0 ≡ pos 0
  pub given : GivesAll pieces v

-- each question has its outcome
abbrev pub Satisfies : Valuation → List Fact → Type 0
Satisfies v = AllByRecursion (IsTold v)

-- each cell holds what its term has, the keys valued
abbrev pub CellsAgree : Tables → Valuation → Look → Counts → ℕ → List Place → Type 0
CellsAgree t v o c n [] = Unit {0}
CellsAgree t v o c n (p ∷ ps) =
    (o (cell_under v p) ≡ value_of v (piece_at t c n p).term)
    × CellsAgree t v o (counted c (piece_at t c n p).variables) (n + 1) ps

-- a valuation gives the terms of the arguments and of the cells their values in a world, the keys valued in order
pub record Agrees (t : Tables) (p : Pair) (v : Valuation) (w : World) (places : List Place) : Type 0 where
  pub a : w.a.vals ≡ map (value_of v) (args_a t p)
  pub b : w.b.vals ≡ map (value_of v) (args_b t p)
  pub cells : CellsAgree t v (looks w.init) (counts_b t p) 0 places

-- a world satisfies facts over these cells
pub record WorldSatisfies (t : Tables) (p : Pair) (w : World) (facts : List Fact) (places : List Place) : Type 0 where
  pub valuation : Valuation
  pub is_valuation : IsValuation (pieces_of t p places) valuation
  pub agrees : Agrees t p valuation w places
  pub satisfies : Satisfies valuation facts

-- what a run stands on where these were made, with the enum of each variable of a variant
abbrev pub grounds_of : List Piece → (ℕ → Option ℕ) → Valuation → (Var → Bool) → Grounds
grounds_of pieces enums v has = record {
  sorts = sorts_of pieces;
  enums = enums;
  numbers = (counted_all first_counts pieces).numbers;
  tags = (counted_all first_counts pieces).tags;
  options = (counted_all first_counts pieces).options;
  payloads = payloads_of pieces;
  valuation = v;
  has = has;
}

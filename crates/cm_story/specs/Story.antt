-- The story of a pair of calls on values: what both orders and the last comparison ask, step by step. It holds no
-- state: what a cell held at first comes from whoever follows it.
use Rattle.std.specs.Prelude.{ℕ, ◌+◌, ◌==◌, Bool, true, false, ◌&&◌, List, [], ◌∷◌, ◌++◌, length, get_or, slice_get}
use Rattle.std.specs.Prelude.{slice_set, Option, Some, None, if◌then◌else◌}
use Rattle.cm_model.specs.Tables.{Tables}
use Rattle.cm_model.specs.declared.ty.IntDecl.{IntDecl}
use Rattle.cm_model.specs.declared.body.Expr.{Expr}
use Rattle.cm_model.specs.declared.body.StateDecl.{StateDecl}
use Rattle.cm_model.specs.declared.pair.Pair.{Pair}
use Rattle.cm_value.specs.declared.value.Value.{Value}
use Rattle.cm_value.specs.declared.value.Value.TheVariants as value
use Rattle.cm_eval.specs.declared.log.CellName.{CellName}
use Rattle.cm_eval.specs.Script.{Replies, Blocks, Decides, Reads, Writes}
use Rattle.cm_eval.specs.Comparison.{comparison}
use Rattle.cm_eval.specs.State.{same_value}
use Rattle.cm_eval.specs.Evaluation.{Doing, call_of, invariant_of}
use Rattle.cm_world.specs.Path.{inspecting}
use Rattle.cm_story.specs.Tale.{Tale, Asks, Needs, Ends}

-- a decision is its own question, a cell that is new is named, and the end is whether the world commutes
abbrev pub Story : Type 0
Story = Tale ℕ CellName Value Bool

-- the cells touched in the order of first touch, which of them were written in either order, and what they hold in
-- the present order and in the other one
pub record StoryCells : Type 0 where
  pub places : List CellName
  pub written : List Bool
  pub now : List Value
  pub other : List Value

abbrev pub story_cells : List CellName → List Bool → List Value → List Value → StoryCells
story_cells ps ws now other = record { places = ps; written = ws; now = now; other = other }

abbrev pub no_cells : StoryCells
no_cells = story_cells [] [] [] []

-- a cell that is new comes last, and holds its first value in both orders
abbrev pub with_new : StoryCells → CellName → Value → StoryCells
with_new cs c v = story_cells (cs.places ++ c ∷ []) (cs.written ++ false ∷ []) (cs.now ++ v ∷ []) (cs.other ++ v ∷ [])

-- a cell is written in the present order
abbrev pub with_written : StoryCells → ℕ → Value → StoryCells
with_written cs i v = story_cells cs.places (slice_set cs.written i true) (slice_set cs.now i v) cs.other

-- the other order's turn
abbrev pub turned : StoryCells → StoryCells
turned cs = story_cells cs.places cs.written cs.other cs.now

-- where there is no cell any value will do
abbrev pub filler : Value
filler = value.None

-- what a cell holds in the present order, by its number
abbrev pub held : StoryCells → ℕ → Value
held cs i = get_or cs.now i filler

-- a run that is blocked ends the story
abbrev pub blocked : Story
blocked = Ends false

-- an invariant's script, which touches no cell: where it replies the story goes on
abbrev pub asked : Doing → Story → Story
asked (Replies v) more = more
asked Blocks more = blocked
asked (Decides d k) more = Asks d (λ e. asked (k e) more)
asked (Reads c k) more = blocked
asked (Writes c v k) more = blocked

-- the invariant of a cell that is new, on the cell's value
abbrev pub checked : List IntDecl → Option Expr → Value → Story → Story
checked ints None v more = more
checked ints (Some e) v more = asked (invariant_of ints e v) more

abbrev pub keys_compared : Option Value → Option Value → (Bool → Story) → Story
keys_compared None None k = k true
keys_compared None (Some w) k = k false
keys_compared (Some v) None k = k false
keys_compared (Some v) (Some w) k = comparison Story blocked Asks v w k

-- a cell beside one that was touched before
abbrev pub cells_compared : CellName → CellName → (Bool → Story) → Story
cells_compared c d k = if c.state == d.state then keys_compared c.key d.key k else k false

-- the cell is compared with those that are left, the first of which has number i, until one is equal; what is done
-- with the number of that one, and where none is
abbrev pub searched : List CellName → ℕ → CellName → (ℕ → Story) → Story → Story
searched [] i c found fresh = fresh
searched (d ∷ ds) i c found fresh = cells_compared c d (λ s. if s then found i else searched ds (i + 1) c found fresh)

-- a cell that is new is named, and its invariant is asked of its first value
abbrev pub added : List IntDecl → Option Expr → CellName → StoryCells → (ℕ → StoryCells → Story) → Story
added ints inv c cs k = Needs c (λ v. checked ints inv v (k (length cs.places) (with_new cs c v)))

abbrev pub touched_with : List IntDecl → Option StateDecl → CellName → StoryCells → (ℕ → StoryCells → Story) → Story
touched_with ints (Some d) c cs k = searched cs.places 0 c (λ i. k i cs) (added ints d.inv c cs k)
touched_with ints None c cs k = blocked

-- a touch of a cell; what is done with its number among the touched, and these
abbrev pub touched : List IntDecl → List StateDecl → CellName → StoryCells → (ℕ → StoryCells → Story) → Story
touched ints states c cs k = touched_with ints (slice_get states c.state) c cs k

-- a script, and what is done with its reply and the cells after it
abbrev pub play : List IntDecl → List StateDecl → Doing → StoryCells → (Value → StoryCells → Story) → Story
play ints states (Replies v) cs k = k v cs
play ints states Blocks cs k = blocked
play ints states (Decides d f) cs k = Asks d (λ e. play ints states (f e) cs k)
play ints states (Reads c f) cs k = touched ints states c cs (λ i more. play ints states (f (held more i)) more k)
play ints states (Writes c v f) cs k = touched ints states c cs (λ i more. play ints states f (with_written more i v) k)

-- two values that are compared at last, that of ab and that of ba
abbrev pub Both : Type 0
Both = Value × Value

-- the final values of the cells that were written, in the order of first touch
abbrev pub finals : List Bool → List Value → List Value → List Both
finals [] vs ws = []
finals (b ∷ bs) [] ws = []
finals (b ∷ bs) (v ∷ vs) [] = []
finals (true ∷ bs) (v ∷ vs) (w ∷ ws) = (v, w) ∷ finals bs vs ws
finals (false ∷ bs) (v ∷ vs) (w ∷ ws) = finals bs vs ws

-- the replies of a, those of b, and the written cells, which ab left and ba has now
abbrev pub compared : Value → Value → Value → Value → StoryCells → List Both
compared a_in_ab b_in_ab b_in_ba a_in_ba cs =
    (a_in_ab, a_in_ba) ∷ (b_in_ab, b_in_ba) ∷ finals cs.written cs.other cs.now

-- a and then b, and on the cells as they were at first b and then a; what is done with the pairs to compare
abbrev pub chain : List IntDecl → List StateDecl → Doing → Doing → (List Both → Story) → Story
chain ints states a b last =
    play ints states a no_cells (λ v cs.
    play ints states b cs (λ w cs.
    play ints states b (turned cs) (λ x cs.
    play ints states a cs (λ y cs. last (compared v w x y cs)))))

abbrev pub are_same : List Both → Bool
are_same [] = true
are_same (p ∷ ps) = same_value p.0 p.1 && are_same ps

-- the variants and options in the pairs, until two differ, and what comes after
abbrev pub pairs_inspected : List Both → Story → Story
pairs_inspected [] rest = rest
pairs_inspected (p ∷ ps) rest = inspecting Story blocked Asks p.0 p.1 (pairs_inspected ps rest)

-- at its end is known whether all are the same
abbrev pub last_comparison : List Both → Story
last_comparison ps = pairs_inspected ps (Ends (are_same ps))

-- of a pair of calls, with the arguments of a and those of b
abbrev pub story_of : Tables → Pair → List Value → List Value → Story
story_of t p a b = chain t.ints t.states (call_of t p.a a) (call_of t p.b b) last_comparison

-- What a right leaf of a pair is, and a right node at which a question is open.
use Rattle.std.specs.Prelude.{◌≡◌, ◌↔◌, ℕ, List, [], ◌∷◌, ◌++◌, map, IsTrue}
use Rattle.std.specs.List.{AllByRecursion}
use Rattle.cm_model.specs.Tables.{Tables}
use Rattle.cm_model.specs.declared.pair.Pair.{Pair}
use Rattle.cm_term.specs.declared.question.Question.{Question}
use Rattle.cm_term.specs.declared.question.Fact.{Fact}
use Rattle.cm_term.specs.declared.term.Term.{Term}
use Rattle.cm_term.specs.Valuation.{Valuation}
use Rattle.cm_term.specs.Questions.{outcome_under, AreEqual}
use Rattle.cm_eval.specs.declared.log.CellName.{CellName}
use Rattle.cm_eval.specs.declared.state.Except.{Except}
use Rattle.cm_cells.specs.CellTable.{Place}
use Rattle.cm_cells.specs.Alike.{cell_under}
use Rattle.cm_ctx.specs.Contexts.{payloads_of}
use Rattle.cm_exec.specs.Comparing.{Extends}
use Rattle.cm_world.specs.declared.world.World.{World}
use Rattle.cm_world.specs.World.{IsWorldOf}
use Rattle.cm_world.specs.Order.{touched_cells}
use Rattle.cm_world.specs.Path.{path_of_world}
use Rattle.cm_world.specs.Commuting.{Commutes}
use Rattle.cm_world.specs.OpenPrefix.{BeginsAPath}
use Rattle.cm_beside.specs.declared.verdict.Verdict.{Verdict}
use Rattle.cm_beside.specs.declared.verdict.Verdict.TheVariants as verdict
use Rattle.cm_beside.specs.Grounds.{Grounds}
use Rattle.cm_beside.specs.Places.{IsPlace}
use Rattle.cm_beside.specs.Seen.{has_value}
use Rattle.cm_beside.specs.Enums.{enum_of}
use Rattle.cm_beside.specs.Related.{is_question}
use Rattle.cm_beside.specs.Beside.{IsGood}
use Rattle.cm_beside.specs.Nodes.{Next, node, node_at, pieces_of, IsValuation, Satisfies, Agrees, WorldSatisfies, grounds_of}

abbrev pub StartsWith : List ℕ → List ℕ → Type 0
StartsWith path front = (rest : List ℕ) × (path ≡ front ++ rest)

-- the cells whose values are not the defaults, in order
abbrev pub exceptions_of : World → List CellName
exceptions_of w = map (λ (e : Except). e.cell) w.init.exceptions

-- a valuation is that of a world, whose exceptions are these cells
pub record IsValuationOf (t : Tables) (p : Pair) (v : Valuation) (places : List Place) (w : World) : Type 0 where
  pub is_world : IsWorldOf t p w
  pub agrees : Agrees t p v w places
  pub exceptions : exceptions_of w ≡ map (cell_under v) places

-- after the answers these are the facts and the cells, and a further cell is touched
abbrev pub TouchesMore : Tables → Pair → List ℕ → List Fact → List Place → Type 0
TouchesMore t p answers facts places =
    (ps : List Term) → Extends (payloads_of (pieces_of t p places)) ps
    → (q : Place) × (more : List Place) × (next : Next) × (node_at t p ps answers ≡ node facts (places ++ q ∷ more) next)

-- a verdict under a valuation
abbrev pub IsSo : Valuation → Verdict → Type 0
IsSo v verdict.Never = ⊥
IsSo v (verdict.If es) = AllByRecursion (AreEqual v) es

-- each listed equality could be asked: its variables are there, of one sort where they are elements, its numbers small
abbrev pub AreNeeded : Tables → Grounds → Verdict → Type 0
AreNeeded t g verdict.Never = Unit {0}
AreNeeded t g (verdict.If es) = AllByRecursion (IsGood t g) es

-- each place's key has a value of its type, by the arguments and the cells before it alone
abbrev pub AreKeyed : Tables → Pair → Valuation → List Place → Type 0
AreKeyed t p v places =
    (first : List Place) (q : Place) (more : List Place) → places ≡ first ++ q ∷ more
    → IsPlace t (grounds_of (pieces_of t p places) (enum_of t p places) v (has_value t p first v)) (cell_under v q) q

module _ (t : Tables) (p : Pair) where
  pub record IsRightLeaf (path : List ℕ) (facts : List Fact) (places : List Place) (w : Verdict) : Type 0 where
    -- a world has the path exactly where it satisfies the facts, with the cells' keys valued in order
    pub has_path : (u : World) → IsWorldOf t p u → (path_of_world t p u ≡ path) ↔ WorldSatisfies t p u facts places
    -- no path goes on from it
    pub ends : (u : World) → IsWorldOf t p u → StartsWith (path_of_world t p u) path → path_of_world t p u ≡ path
    -- such a world has the leaf's touched cells, and it commutes exactly by the verdict
    pub touches : (u : World) (v : Valuation) → IsWorldOf t p u → IsValuation (pieces_of t p places) v
        → Agrees t p v u places → Satisfies v facts → touched_cells t p u ≡ map (cell_under v) places
    pub commutes : (u : World) (v : Valuation) → IsWorldOf t p u → IsValuation (pieces_of t p places) v
        → Agrees t p v u places → Satisfies v facts → Commutes t p u ↔ IsSo v w
    -- each valuation that satisfies the facts is that of such a world
    pub valued : (v : Valuation) → IsValuation (pieces_of t p places) v → Satisfies v facts
        → (u : World) × IsValuationOf t p v places u
    -- the verdict's equalities could be asked, their symbols and those of the cells' keys have values
    pub needed : (v : Valuation) → IsValuation (pieces_of t p places) v → Satisfies v facts
        → AreNeeded t (grounds_of (pieces_of t p places) (enum_of t p places) v (has_value t p places v)) w
    pub keyed : (v : Valuation) → IsValuation (pieces_of t p places) v → Satisfies v facts
        → AreKeyed t p v places

  -- the same of a beginning of a path at which a question is open
  pub record IsRightNode (front : List ℕ) (facts : List Fact) (places : List Place) (q : Question) : Type 0 where
    -- a world's path begins so exactly where it satisfies the facts, with the cells' keys valued in order
    pub begins : (u : World) → IsWorldOf t p u
        → StartsWith (path_of_world t p u) front ↔ WorldSatisfies t p u facts places
    -- its next decision is the question's outcome, and its first touched cells are these
    pub goes_on : (u : World) (v : Valuation) → IsWorldOf t p u → IsValuation (pieces_of t p places) v
        → Agrees t p v u places → Satisfies v facts
        → StartsWith (path_of_world t p u) (front ++ outcome_under v q ∷ [])
    pub touches : (u : World) (v : Valuation) → IsWorldOf t p u → IsValuation (pieces_of t p places) v
        → Agrees t p v u places → Satisfies v facts
        → (more : List CellName) × (touched_cells t p u ≡ map (cell_under v) places ++ more)
    pub valued : (v : Valuation) → IsValuation (pieces_of t p places) v → Satisfies v facts
        → (u : World) × IsValuationOf t p v places u
    -- the question is on variables whose symbols have values, as have those of the cells' keys, and its numbers are small
    pub asked : (v : Valuation) → IsValuation (pieces_of t p places) v → Satisfies v facts
        → IsTrue (is_question t (grounds_of (pieces_of t p places) (enum_of t p places) v (has_value t p places v)) q)
    pub keyed : (v : Valuation) → IsValuation (pieces_of t p places) v → Satisfies v facts
        → AreKeyed t p v places
    -- its possible outcomes are those with which some path goes on
    pub covers : (d : ℕ) → BeginsAPath t p (front ++ d ∷ [])
        ↔ ((v : Valuation) × IsValuation (pieces_of t p places) v × Satisfies v facts × (outcome_under v q ≡ d))

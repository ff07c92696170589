-- What a pair of calls asks on terms, as one tale, and the story of a pair on values beside it.
use Rattle.std.specs.Prelude.{◌≡◌, ℕ, Bool, true, false, List, [], ◌∷◌, slice_get, Option, Some, IsTrue, ◌↔◌}
use Rattle.std.specs.List.{AllByRecursion}
use Rattle.cm_model.specs.Tables.{Tables}
use Rattle.cm_model.specs.declared.pair.Pair.{Pair}
use Rattle.cm_model.specs.declared.body.StateDecl.{StateDecl}
use Rattle.cm_value.specs.declared.value.Value.{Value}
use Rattle.cm_eval.specs.Evaluation.{named}
use Rattle.cm_term.specs.declared.question.Equal.{Equal}
use Rattle.cm_term.specs.declared.term.Term.{Term}
use Rattle.cm_term.specs.Questions.{outcome_under, AreEqual}
use Rattle.cm_cells.specs.declared.order.Order.TheVariants as order
use Rattle.cm_cells.specs.CellTable.{CellTable, Place, no_cells, started_anew}
use Rattle.cm_story.specs.Tale.{Tale, Asks, Needs, Ends}
use Rattle.cm_story.specs.Story.{Story}
use Rattle.cm_exec.specs.Run.{Asked, asked, Telling, Replied, Blocked, tale_of}
use Rattle.cm_exec.specs.declared.comparison.Sides.{Sides}
use Rattle.cm_exec.specs.Settling.{Settling, settling_of}
use Rattle.cm_exec.specs.Settling as settling
use Rattle.cm_exec.specs.Terms.{question_of}
use Rattle.cm_relation.specs.Relation.{AreKeys}
use Rattle.cm_beside.specs.declared.verdict.Verdict.{Verdict}
use Rattle.cm_beside.specs.declared.verdict.Verdict.TheVariants as verdict
use Rattle.cm_beside.specs.Grounds.{Grounds}
use Rattle.cm_beside.specs.Fits.{Fits}
use Rattle.cm_beside.specs.Related.{is_question}

-- of both orders and the last comparison; at its end is known when the pair commutes
abbrev pub PairTale : Type 0
PairTale = Tale Asked Place Term Verdict

-- a call's tale, and what is done with its reply and the cells; a blocked call ends the pair, which never commutes
abbrev pub followed_by : Telling → (Term → CellTable → PairTale) → PairTale
followed_by (Asks q f) k = Asks q (λ d. followed_by (f d) k)
followed_by (Needs p f) k = Needs p (λ x. followed_by (f x) k)
followed_by (Ends (Replied x cs)) k = k x cs
followed_by (Ends (Blocked cs)) k = Ends verdict.Never

-- the last comparison, with the cells as they are
abbrev pub settles : CellTable → Settling → PairTale
settles cs (settling.Asks q f) = Asks (asked q cs) (λ d. settles cs (f d))
settles cs settling.Unequal = Ends verdict.Never
settles cs (settling.Needs es) = Ends (verdict.If es)

abbrev pub sides : Term → Term → Sides
sides x y = record { left = x; right = y }

-- the final terms of the cells that were written, in the order of first touch
abbrev pub finals : List Bool → List Term → List Term → List Sides
finals [] xs ys = []
finals (b ∷ bs) [] ys = []
finals (b ∷ bs) (x ∷ xs) [] = []
finals (true ∷ bs) (x ∷ xs) (y ∷ ys) = sides x y ∷ finals bs xs ys
finals (false ∷ bs) (x ∷ xs) (y ∷ ys) = finals bs xs ys

-- the replies of a, those of b, and the written cells; ab's on the left
abbrev pub compared : Term → Term → Term → Term → CellTable → List Sides
compared a_in_ab b_in_ab b_in_ba a_in_ba cs =
    sides a_in_ab a_in_ba ∷ sides b_in_ab b_in_ba ∷ finals cs.written cs.ab cs.ba

-- a and then b, and on the cells as they were at first b and then a, and then the last comparison; with the payloads
-- of the options' variables
abbrev pub pair_tale : Tables → Pair → List Term → List Term → List Term → PairTale
pair_tale t p a b ps =
    followed_by (tale_of t p.a a order.Ab ps no_cells) (λ v cs.
    followed_by (tale_of t p.b b order.Ab ps cs) (λ w cs.
    followed_by (tale_of t p.b b order.Ba ps (started_anew order.Ba cs)) (λ x cs.
    followed_by (tale_of t p.a a order.Ba ps cs) (λ y cs. settles cs (settling_of ps (compared v w x y cs))))))

module _ (t : Tables) (g : Grounds) where
  -- two are equal, whose question could be asked
  abbrev pub IsGood : Equal → Type 0
  IsGood e = IsTrue (is_question t g (question_of e))

  -- a verdict, and whether a world commutes
  abbrev pub Judges : Verdict → Bool → Type 0
  Judges verdict.Never b = b ≡ false
  Judges (verdict.If es) b = (IsTrue b ↔ AllByRecursion (AreEqual g.valuation) es) × AllByRecursion IsGood es

  -- step by step the same, where each question has its outcome under the valuation, and each new cell any value of
  -- its type, with any term that has it
  abbrev pub Beside : PairTale → Story → Type 0
  Beside (Asks a k) s =
      (l : ℕ → Story) × (s ≡ Asks (outcome_under g.valuation a.question) l) × IsTrue (is_question t g a.question)
      × Beside (k (outcome_under g.valuation a.question)) (l (outcome_under g.valuation a.question))
  Beside (Needs p k) s =
      (d : StateDecl) × (slice_get t.states p.state ≡ Some d)
      × (key : Option Value) × AreKeys (Fits t g) d.key key p.key
      × (l : Value → Story) × (s ≡ Needs (named p.state key) l)
      × ((v : Value) (x : Term) → Fits t g d.value v x → Beside (k x) (l v))
  Beside (Ends w) s = (b : Bool) × (s ≡ Ends b) × Judges w b

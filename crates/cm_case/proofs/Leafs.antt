-- What a leaf of a walk and the equalities that are picked come to.
use Rattle.std.proofs.Common.{◌≡◌, ◌≤◌, ℕ, List, ◌++◌, length, slice_get, Some, refl, sym, ap, ◌∙◌, subst}
use Rattle.std.specs.List.{AllByRecursion}
use Rattle.cm_model.specs.Tables.{Tables}
use Rattle.cm_model.specs.WellTyped.{IsWellTyped}
use Rattle.cm_model.specs.Limits.{cell_limit}
use Rattle.cm_cond.specs.declared.report.Case.{Case}
use Rattle.cm_name.specs.Naming.{KeyHasSymbols}
use Rattle.cm_model.specs.declared.pair.Pair.{Pair}
use Rattle.cm_term.specs.declared.question.Equal.{Equal}
use Rattle.cm_term.specs.declared.question.Equal.TheVariants as equal
use Rattle.cm_term.specs.declared.question.Fact.{Fact}
use Rattle.cm_term.specs.Valuation.{Valuation}
use Rattle.cm_term.specs.Questions.{AreEqual, IsTold}
use Rattle.cm_cells.specs.CellTable.{Place}
use Rattle.cm_ctx.specs.Contexts.{IsSatisfiable, IsQuestion, sorts_of}
use Rattle.cm_ctx.specs.Contexts as contexts
use Rattle.cm_ctx.specs.declared.piece.Counts.{Counts}
use Rattle.cm_ctx.specs.declared.piece.Piece.{Piece}
use Rattle.cm_exec.specs.Terms.{question_of}
use Rattle.cm_beside.specs.declared.verdict.Verdict.{Verdict}
use Rattle.cm_beside.specs.declared.verdict.Verdict.TheVariants as verdict
use Rattle.cm_beside.specs.Beside.{IsGood}
use Rattle.cm_beside.specs.Nodes.{pieces_of, IsValuation, Satisfies, grounds_of}
use Rattle.cm_beside.specs.Leaf.{IsRightLeaf}
use Rattle.cm_beside.specs.Seen.{has_value}
use Rattle.cm_beside.specs.Enums.{enum_of}
use Rattle.cm_walk.specs.declared.leaf.Leaf.{Leaf}
use Rattle.cm_walk.specs.Leaves.{IsLeafOf}
use Rattle.cm_walk.proofs.Asked.{can_be_asked}
use Rattle.cm_pick.specs.Picking.{fact_of, ArePicked}
use Rattle.cm_case.specs.Right.{CommutesOn, IsRightCase}
use Rattle.cm_case.specs.Named.{IsNamedAfter, IsSayable}
use Rattle.cm_case.proofs.Whole.{keys_named, right_case}
use Rattle.cm_case.proofs.Sayable.{all_sayable}
use Rattle.cm_case.proofs.Lists.{all_so, all_both}
use Rattle.cm_case.proofs.Assembly.{Further}

question_is : (e : Equal) → (fact_of e).question ≡ question_of e
question_is (equal.Elems x y) = refl
question_is (equal.Nums a b) = refl

module _ (t : Tables) (p : Pair) (x : Leaf) (leaf : IsLeafOf t p x) where
  abbrev P : List Piece
  P = pieces_of t p x.cells.places

  valued : (v : Valuation) → contexts.Satisfies x.ctx v → IsValuation P v × Satisfies v x.facts
  valued v sat = (leaf.knows.valuations v).0 sat

  pub right_for : (w : Verdict) → x.verdict ≡ w → IsRightLeaf t p x.path x.facts x.cells.places w
  right_for w is = subst (IsRightLeaf t p x.path x.facts x.cells.places) is leaf.right

  -- the picked equalities are further facts
  pub further : (es : List Equal) (more : List Fact) → ArePicked x.ctx es more → Further t p x.facts x.cells.places es more
  further es more picked = record {
    among = all_so (λ f. (i : ℕ) × (e : Equal) × (slice_get es i ≡ Some e) × (f ≡ fact_of e))
        (λ f. (i : ℕ) × (e : Equal) × (slice_get es i ≡ Some e) × (f.question ≡ question_of e)) more
        (λ f h. (h.0, h.1, h.2, ap (λ (g : Fact). g.question) h.3 ∙ question_is h.1)) picked.among;
    says = λ v is sat. picked.says v ((leaf.knows.valuations v).1 (is, sat));
    were_open = λ before f after at.
        let o = picked.were_open before f after at in
        let v = valued o.valuation o.satisfies in
        (o.valuation, v.0, all_both (IsTold o.valuation) x.facts before v.1 o.told, o.differs);
    some =
        let s = picked.some in
        let v = valued s.0 s.1 in
        (s.0, v.0, all_both (IsTold s.0) x.facts more v.1 s.2);
  }

  -- a blocked or unequal path has no commuting world
  pub never : x.verdict ≡ verdict.Never → CommutesOn t p x.path → ⊥
  never is c =
      let right = right_for verdict.Never is in
      let s = (right.has_path c.world c.is_world).0 c.has_path in
      (right.commutes c.world s.valuation c.is_world s.is_valuation s.agrees s.satisfies).0 c.commutes

  -- nor has one whose equalities cannot hold
  pub impossible : (es : List Equal) → x.verdict ≡ verdict.If es
      → ((v : Valuation) → contexts.Satisfies x.ctx v → AllByRecursion (AreEqual v) es → ⊥) → CommutesOn t p x.path → ⊥
  impossible es is no_ c =
      let right = right_for (verdict.If es) is in
      let s = (right.has_path c.world c.is_world).0 c.has_path in
      no_ s.valuation ((leaf.knows.valuations s.valuation).1 (s.is_valuation, s.satisfies))
      ((right.commutes c.world s.valuation c.is_world s.is_valuation s.agrees s.satisfies).0 c.commutes)

  -- the equalities can be asked of what is known
  pub askable : (es : List Equal) → x.verdict ≡ verdict.If es → IsSatisfiable x.ctx
      → x.ctx.classes.sorts ≡ sorts_of x.ctx.pieces
      → AllByRecursion (λ e. IsQuestion x.ctx (fact_of e).question) es
  askable es is some sorts =
      let right = right_for (verdict.If es) is in
      let v = valued some.0 some.1 in
      let count = leaf.knows.counts in
      let g = grounds_of P (enum_of t p x.cells.places) some.0 (has_value t p x.cells.places some.0) in
      all_so (IsGood t g) (λ e. IsQuestion x.ctx (fact_of e).question) es
      (λ e good. subst (IsQuestion x.ctx) (sym (question_is e))
      (can_be_asked t g x.ctx (sorts ∙ ap sorts_of leaf.knows.made) (ap (λ (k : Counts). k.numbers) count)
      (ap (λ (k : Counts). k.tags) count) (ap (λ (k : Counts). k.options) count) (question_of e) good))
      (right.needed some.0 v.0 v.1)

-- the leaf's case
module _ (t : Tables) (typed : IsWellTyped t) (p : Pair) (x : Leaf) (leaf : IsLeafOf t p x) (es : List Equal)
    (is : x.verdict ≡ verdict.If es) where
  abbrev right_ : IsRightLeaf t p x.path x.facts x.cells.places (verdict.If es)
  right_ = right_for t p x leaf (verdict.If es) is

  pub leaf_keys : IsSatisfiable x.ctx → AllByRecursion (λ (q : Place). KeyHasSymbols x.ctx.pieces q.key) x.cells.places
  leaf_keys some =
      let v = (leaf.knows.valuations some.0).0 some.1 in
      subst (λ ps. AllByRecursion (λ (q : Place). KeyHasSymbols ps q.key) x.cells.places) (sym leaf.knows.made)
      (keys_named t typed p x.cells.places some.0 (right_.keyed some.0 v.0 v.1))

  module _ (more : List Fact) (picked : ArePicked x.ctx es more) where
    pub leaf_sayable : AllByRecursion (IsSayable x.ctx.pieces) (x.facts ++ more)
    leaf_sayable = subst (λ ps. AllByRecursion (IsSayable ps) (x.facts ++ more)) (sym leaf.knows.made)
        (all_sayable t typed p x.cells.places x.path x.facts es right_ leaf.were_open more (further t p x leaf es more picked))

    pub leaf_case : length x.cells.places ≤ cell_limit → (c : Case)
        → IsNamedAfter x.ctx.pieces x.cells.places x.facts more c → IsRightCase t p x.path c
    leaf_case few c named =
        right_case t typed p x.cells.places x.path x.facts es right_ leaf.were_open more (further t p x leaf es more picked)
        few c (subst (λ ps. IsNamedAfter ps x.cells.places x.facts more c) leaf.knows.made named)

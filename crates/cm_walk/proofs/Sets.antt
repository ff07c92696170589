-- What a node of a pair's tale says of the set of paths.
use Rattle.std.proofs.Common.{◌≡◌, ◌≤◌, ◌↔◌, ℕ, List, [], ◌∷◌, ◌++◌, length, refl, sym, ap, ◌∙◌, arith}
use Rattle.std.proofs.lemmas.List.{append-nil, length-append, length-map}
use Rattle.cm_model.specs.Limits.{cell_limit}
use Rattle.cm_model.specs.Tables.{Tables}
use Rattle.cm_model.specs.declared.pair.Pair.{Pair}
use Rattle.cm_term.specs.declared.question.Question.{Question}
use Rattle.cm_term.specs.declared.question.Fact.{Fact}
use Rattle.cm_term.specs.Valuation.{Valuation}
use Rattle.cm_term.specs.Questions.{outcome_under}
use Rattle.cm_cells.specs.CellTable.{Place}
use Rattle.cm_cells.specs.Alike.{cell_under}
use Rattle.cm_ctx.specs.Contexts.{Context}
use Rattle.cm_ctx.specs.Contexts as contexts
use Rattle.cm_world.specs.Over.{IsPath}
use Rattle.cm_world.specs.OpenPrefix.{BeginsAPath}
use Rattle.cm_forks.specs.Paths.{Begins, Ends}
use Rattle.cm_beside.specs.declared.verdict.Verdict.{Verdict}
use Rattle.cm_beside.specs.Nodes.{pieces_of, IsValuation, Satisfies}
use Rattle.cm_beside.specs.Leaf.{IsRightLeaf, IsRightNode}
use Rattle.cm_beside.specs.Standing.{SaysAll}
use Rattle.cm_walk.specs.Prefixes.{Knows}
use Rattle.cm_walk.specs.Sets.{TouchesFew}

longer : (xs rest : List ℕ) (d : ℕ) → xs ≡ (xs ++ d ∷ []) ++ rest → ⊥
longer xs rest d e =
    let n = ap length e in
    let m = length-append (xs ++ d ∷ []) rest in
    let k = length-append xs (d ∷ []) in
    omega (arith, n, m, k)

module _ (t : Tables) (p : Pair) where
  pub begins_either : (front : List ℕ) → BeginsAPath t p front ↔ Begins (IsPath t p) front
  begins_either front = ((λ b. (b.rest, b.path)), (λ b. record { rest = b.0; path = b.1 }))

  -- no path ends where a question is open
  pub goes_on : (front : List ℕ) (facts : List Fact) (places : List Place) (q : Question)
      → IsRightNode t p front facts places q → IsPath t p front → ⊥
  goes_on front facts places q right path =
      let w = path.world in
      let s = (right.begins w path.is_world).0 ([], path.has ∙ sym (append-nil front)) in
      let g = right.goes_on w s.valuation path.is_world s.is_valuation s.agrees s.satisfies in
      longer front g.0 (outcome_under s.valuation q) (sym path.has ∙ g.1)

  -- no path goes on from a leaf, and its worlds touch its cells
  pub ends : (path : List ℕ) (facts : List Fact) (places : List Place) (w : Verdict)
      → IsRightLeaf t p path facts places w → Ends (IsPath t p) path
  ends path facts places w right q is starts =
      sym is.has ∙ right.ends is.world is.is_world (starts.0, is.has ∙ starts.1)

  pub touches_few : (path : List ℕ) (facts : List Fact) (places : List Place) (w : Verdict)
      → IsRightLeaf t p path facts places w → length places ≤ cell_limit → TouchesFew t p path
  touches_few path facts places w right few u world has =
      let s = (right.has_path u world).0 has in
      let e = ap length (right.touches u s.valuation world s.is_valuation s.agrees s.satisfies) in
      let n = length-map places (cell_under s.valuation) in
      omega (arith, e, n, few)

  -- the outcomes that a context allows are those with which paths go on
  pub covers : (front : List ℕ) (all facts : List Fact) (places : List Place) (q : Question) (c : Context)
      → SaysAll (pieces_of t p places) facts all → Knows (pieces_of t p places) c facts
      → IsRightNode t p front all places q → (d : ℕ)
      → contexts.Allows c (λ v. outcome_under v q ≡ d) ↔ BeginsAPath t p (front ++ d ∷ [])
  covers front all facts places q c says knows right d = (
    (λ a.
        let s = (knows.valuations a.0).0 a.1 in
        (right.covers d).1 (a.0, s.0, (says.says a.0 s.0).0 s.1, a.2)),
    (λ b.
        let v = (right.covers d).0 b in
        (v.0, (knows.valuations v.0).1 (v.1, (says.says v.0 v.1).1 v.2), v.3)),
  )

  -- where only one outcome is possible, each valuation has it
  pub forced : (front : List ℕ) (all facts : List Fact) (places : List Place) (q : Question) (d : ℕ)
      → SaysAll (pieces_of t p places) facts all → IsRightNode t p front all places q
      → ((x : ℕ) → Begins (IsPath t p) (front ++ x ∷ []) → x ≡ d)
      → (v : Valuation) → IsValuation (pieces_of t p places) v → Satisfies v facts → outcome_under v q ≡ d
  forced front all facts places q d says right alone v is sat =
      alone (outcome_under v q) ((begins_either (front ++ outcome_under v q ∷ [])).0
      ((right.covers (outcome_under v q)).1 (v, is, (says.says v is).0 sat, refl)))

  -- of a leaf it is enough to ask the kept facts
  pub right_by : (path : List ℕ) (all facts : List Fact) (places : List Place) (w : Verdict)
      → SaysAll (pieces_of t p places) facts all → IsRightLeaf t p path all places w
      → IsRightLeaf t p path facts places w
  right_by path all facts places w says right = record {
    has_path = λ u world. (
      (λ has.
          let s = (right.has_path u world).0 has in
          record {
            valuation = s.valuation;
            is_valuation = s.is_valuation;
            agrees = s.agrees;
            satisfies = (says.says s.valuation s.is_valuation).1 s.satisfies;
          }),
      (λ s. (right.has_path u world).1 (record {
        valuation = s.valuation;
        is_valuation = s.is_valuation;
        agrees = s.agrees;
        satisfies = (says.says s.valuation s.is_valuation).0 s.satisfies;
      })),
    );
    ends = right.ends;
    touches = λ u v world is agrees sat. right.touches u v world is agrees ((says.says v is).0 sat);
    commutes = λ u v world is agrees sat. right.commutes u v world is agrees ((says.says v is).0 sat);
    valued = λ v is sat. right.valued v is ((says.says v is).0 sat);
    needed = λ v is sat. right.needed v is ((says.says v is).0 sat);
    keyed = λ v is sat. right.keyed v is ((says.says v is).0 sat);
  }

  -- and of a node
  pub node_by : (front : List ℕ) (all facts : List Fact) (places : List Place) (q : Question)
      → SaysAll (pieces_of t p places) facts all → IsRightNode t p front all places q
      → IsRightNode t p front facts places q
  node_by front all facts places q says right = record {
    begins = λ u world. (
      (λ starts.
          let s = (right.begins u world).0 starts in
          record {
            valuation = s.valuation;
            is_valuation = s.is_valuation;
            agrees = s.agrees;
            satisfies = (says.says s.valuation s.is_valuation).1 s.satisfies;
          }),
      (λ s. (right.begins u world).1 (record {
        valuation = s.valuation;
        is_valuation = s.is_valuation;
        agrees = s.agrees;
        satisfies = (says.says s.valuation s.is_valuation).0 s.satisfies;
      })),
    );
    goes_on = λ u v world is agrees sat. right.goes_on u v world is agrees ((says.says v is).0 sat);
    touches = λ u v world is agrees sat. right.touches u v world is agrees ((says.says v is).0 sat);
    valued = λ v is sat. right.valued v is ((says.says v is).0 sat);
    asked = λ v is sat. right.asked v is ((says.says v is).0 sat);
    keyed = λ v is sat. right.keyed v is ((says.says v is).0 sat);
    covers = λ d. (
      (λ b. let v = (right.covers d).0 b in (v.0, v.1, (says.says v.0 v.1).1 v.2, v.3)),
      (λ v. (right.covers d).1 (v.0, v.1, (says.says v.0 v.1).0 v.2, v.3)),
    );
  }

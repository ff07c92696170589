-- Facts that were open where they were asked.
use Rattle.std.proofs.Common.{◌≡◌, ◌≢◌, inl, inr, ℕ, List, [], ◌∷◌, ◌++◌, refl, sym, ap, ◌∙◌, subst, append_assoc}
use Rattle.std.proofs.lemmas.List.{append-nil, append_cancel_left}
use Rattle.cm_model.specs.Tables.{Tables}
use Rattle.cm_model.specs.declared.pair.Pair.{Pair}
use Rattle.cm_term.specs.declared.question.Question.{Question}
use Rattle.cm_term.specs.declared.question.Fact.{Fact}
use Rattle.cm_term.specs.Questions.{outcome_under}
use Rattle.cm_cells.specs.CellTable.{Place}
use Rattle.cm_world.specs.Over.{IsPath}
use Rattle.cm_forks.specs.Paths.{Begins}
use Rattle.cm_beside.specs.Leaf.{IsRightNode}
use Rattle.cm_beside.specs.Nodes.{fact}
use Rattle.cm_walk.specs.Prefixes.{AreOpenDecisions, IsOnly, WasOpen}

-- two lists that go on from one
next_same : (xs ys : List ℕ) (d e : ℕ) (rest more : List ℕ) → xs ≡ ys → (xs ++ d ∷ []) ++ rest ≡ (ys ++ e ∷ []) ++ more
    → d ≡ e
next_same xs ys d e rest more same is =
    let tails : d ∷ rest ≡ e ∷ more = append_cancel_left xs (d ∷ rest) (e ∷ more)
    (sym (append_assoc xs (d ∷ []) rest) ∙ is ∙ append_assoc ys (e ∷ []) more
    ∙ ap (λ zs. zs ++ e ∷ more) (sym same)) in
    cc

module _ (t : Tables) (p : Pair) where
  -- with more cells
  was_still : (front : List ℕ) (before : List Fact) (f : Fact) (old new more : List Place) → new ≡ old ++ more
      → WasOpen t p front before f old → WasOpen t p front before f new
  was_still front before f old new more is h = record {
    first = h.first;
    later = h.later ++ more;
    in_order = is ∙ ap (λ qs. qs ++ more) h.in_order ∙ append_assoc h.first h.later more;
    node = h.node;
    world = h.world;
    is_world = h.is_world;
    satisfies = h.satisfies;
    differs = h.differs;
  }

  pub open_still : (front : List ℕ) (before : List Fact) (path : List ℕ) (facts : List Fact) (old new more : List Place)
      → new ≡ old ++ more → AreOpenDecisions t p front before path facts old
      → AreOpenDecisions t p front before path facts new
  open_still front before [] facts old new more is h = h
  open_still front before (d ∷ ds) facts old new more is h = elim h [
    | inl a ↦ inl (a.0, open_still (front ++ d ∷ []) before ds facts old new more is a.1)
    | inr b ↦
        inr (
          b.0,
          b.1,
          b.2,
          b.3,
          was_still front before b.0 old new more is b.4,
          open_still (front ++ d ∷ []) (before ++ b.0 ∷ []) ds b.1 old new more is b.5,
        )
  ]

  -- with one decision more, which had no other outcome
  pub forced_added : (front : List ℕ) (before : List Fact) (path : List ℕ) (facts : List Fact) (places : List Place) (d : ℕ)
      → AreOpenDecisions t p front before path facts places → IsOnly t p (front ++ path) d
      → AreOpenDecisions t p front before (path ++ d ∷ []) facts places
  forced_added front before [] facts places d h only =
      inl (subst (λ xs. IsOnly t p xs d) (append-nil front) only, h)
  forced_added front before (e ∷ ds) facts places d h only =
      let one = subst (λ xs. IsOnly t p xs d) (sym (append_assoc front (e ∷ []) ds)) only in
      elim h [
        | inl a ↦ inl (a.0, forced_added (front ++ e ∷ []) before ds facts places d a.1 one)
        | inr b ↦
            inr (
              b.0,
              b.1,
              b.2,
              b.3,
              b.4,
              forced_added (front ++ e ∷ []) (before ++ b.0 ∷ []) ds b.1 places d b.5 one,
            )
      ]

  -- and which had one
  pub open_added : (front : List ℕ) (before : List Fact) (path : List ℕ) (facts : List Fact) (places : List Place) (d : ℕ)
      (f : Fact) → f.outcome ≡ d → AreOpenDecisions t p front before path facts places
      → WasOpen t p (front ++ path) (before ++ facts) f places
      → AreOpenDecisions t p front before (path ++ d ∷ []) (facts ++ f ∷ []) places
  open_added front before [] facts places d f same h one =
      let here = subst (λ xs. WasOpen t p xs (before ++ facts) f places) (append-nil front) one in
      let alone = subst (λ fs. WasOpen t p front fs f places) (ap (λ fs. before ++ fs) h ∙ append-nil before) here in
      inr (f, [], ap (λ fs. fs ++ f ∷ []) h, same, alone, refl)
  open_added front before (e ∷ ds) facts places d f same h one =
      let here = subst (λ xs. WasOpen t p xs (before ++ facts) f places) (sym (append_assoc front (e ∷ []) ds)) one in
      elim h [
        | inl a ↦ inl (a.0, open_added (front ++ e ∷ []) before ds facts places d f same a.1 here)
        | inr b ↦
            inr (
              b.0,
              b.1 ++ f ∷ [],
              ap (λ fs. fs ++ f ∷ []) b.2,
              b.3,
              b.4,
              open_added (front ++ e ∷ []) (before ++ b.0 ∷ []) ds b.1 places d f same b.5
                  (subst (λ fs. WasOpen t p ((front ++ e ∷ []) ++ ds) fs f places)
                  (ap (λ fs. before ++ fs) b.2 ∙ sym (append_assoc before (b.0 ∷ []) b.1)) here),
            )
      ]

  -- where a question has an outcome with which a path goes on, another one was open
  pub was_open : (front : List ℕ) (facts : List Fact) (places : List Place) (q : Question) (d e : ℕ) → e ≢ d
      → IsRightNode t p front facts places q → Begins (IsPath t p) (front ++ e ∷ [])
      → WasOpen t p front facts (fact q d) places
  was_open front facts places q d e differ right begins =
      let path = begins.1 in
      let w = path.world in
      let s = (right.begins w path.is_world).0
      (e ∷ begins.0, path.has ∙ append_assoc front (e ∷ []) begins.0) in
      let g = right.goes_on w s.valuation path.is_world s.is_valuation s.agrees s.satisfies in
      record {
        first = places;
        later = [];
        in_order = sym (append-nil places);
        node = right;
        world = w;
        is_world = path.is_world;
        satisfies = s;
        differs = λ same. differ (next_same front front e (outcome_under s.valuation q) begins.0 g.0 refl
            (sym path.has ∙ g.1) ∙ same);
      }

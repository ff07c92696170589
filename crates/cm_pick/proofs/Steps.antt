-- One equality more, and what is so behind the first ones.
use Rattle.std.proofs.Common.{◌≡◌, ◌<◌, ◌≤◌, ◌+◌, ◌↔◌, inl, inr, ℕ, List, [], ◌∷◌, ◌++◌, slice_get}
use Rattle.std.proofs.Common.{slice_index, Some, IsTrue, length, take, drop, take-append-drop, true, rules}
use Rattle.std.proofs.Common.{refl, sym, ap, subst, ◌∙◌}
use Rattle.std.specs.List.{AllByRecursion}
use Rattle.cm_term.specs.declared.question.Equal.{Equal}
use Rattle.cm_term.specs.declared.question.Fact.{Fact}
use Rattle.cm_term.specs.declared.question.Equal.TheVariants as equal
use Rattle.cm_term.specs.Valuation.{Valuation}
use Rattle.cm_term.specs.Questions.{outcome_under, AreEqual, IsTold}
use Rattle.cm_ctx.specs.Contexts.{Context, Satisfies, Allows, Keeps, IsNum, IsQuestion, IsSatisfiable}
use Rattle.cm_ctx.proofs.Adding.{take_more, take_all}
use Rattle.cm_pick.specs.Picking.{fact_of, AllTold, ArePicked, ArePickedInTurn}
use Rattle.cm_pick.specs.inner.Standings.{MayHold, MayFail, IsNext, HasVariablesOf}
use Rattle.cm_pick.proofs.Told.{told_equal}
use Rattle.cm_pick.proofs.Turns.{all_both, all_parts, all_at, left_out, picked_too, says, are_picked}

pub may_learn : (c : Context) (e : Equal) (f : Fact) → f ≡ fact_of e → MayHold c e
    → Allows c (λ v. outcome_under v f.question ≡ f.outcome)
may_learn c e f is m =
    subst (λ (g : Fact). Allows c (λ v. outcome_under v g.question ≡ g.outcome)) (sym is)
    (m.0, m.1, (told_equal m.0 e).1 m.2)

pub learnt : (old new : Context) (e : Equal) (f : Fact) (before after : List Fact) → f ≡ fact_of e
    → MayHold old e × MayFail old e → after ≡ before ++ f ∷ []
    → Keeps old new (λ v. outcome_under v f.question ≡ f.outcome)
    → IsNext old new e before after true
learnt old new e f before after is m more k = (
  m.0,
  inr (m.1, more ∙ ap (λ g. before ++ g ∷ []) is),
  λ v. (
    (λ s. let h = (k v).0 s in (h.0, (told_equal v e).0 (subst (IsTold v) is h.1))),
    (λ h. (k v).1 (h.0, subst (IsTold v) (sym is) ((told_equal v e).1 h.1))),
  ),
)

-- the equality can be asked where the variables are the same
pub still_asked : (old new : Context) → HasVariablesOf old new → (e : Equal) → IsQuestion old (fact_of e).question
    → IsQuestion new (fact_of e).question
still_asked old new s (equal.Elems x y) q = subst (λ (ss : List ℕ). (x.0 < length ss) × (y.0 < length ss)
    × (slice_index ss x.0 ≡ slice_index ss y.0)) (sym s.sorts) q
still_asked old new s (equal.Nums a b) q = subst (λ n. IsNum n a × IsNum n b) (sym s.bounds) q

same_then : (a b c : Context) → HasVariablesOf a b → HasVariablesOf b c → HasVariablesOf a c
same_then a b c s t = record {
  pieces = t.pieces ∙ s.pieces;
  sorts = t.sorts ∙ s.sorts;
  bounds = t.bounds ∙ s.bounds;
  tags = t.tags ∙ s.tags;
  options = t.options ∙ s.options;
}

-- what is so behind the first equalities
pub record Going (start now : Context) (es : List Equal) (picked : List Fact) : Type 0 where
  pub in_turn : ArePickedInTurn start [] es picked
  pub known : Keeps start now (λ v. AllTold v picked)
  pub some : IsSatisfiable now
  pub variables : HasVariablesOf start now
  pub spare : IsTrue now.classes.spare

abbrev reserved : Context → Context
reserved c = record c { classes = record c.classes { spare = true } }

pub begins : (start now : Context) → IsSatisfiable start → now ≡ reserved start → Going start now [] []
begins start now some is = subst (λ c. Going start c [] []) (sym is) (record {
  in_turn = refl;
  known = λ v. ((λ s. (back v s, tt)), (λ h. forth v h.0));
  some = (some.0, forth some.0 some.1);
  variables = record { pieces = refl; sorts = refl; bounds = refl; tags = refl; options = refl };
  spare = search rules;
})
  where
    back : (v : Valuation) → Satisfies (reserved start) v → Satisfies start v
    back v s = record {
      elements = record { same = s.elements.same; apart = s.elements.apart };
      numbers = s.numbers;
      tags = s.tags;
      options = s.options;
      payloads = s.payloads;
    }

    forth : (v : Valuation) → Satisfies start v → Satisfies (reserved start) v
    forth v s = record {
      elements = record { same = s.elements.same; apart = s.elements.apart };
      numbers = s.numbers;
      tags = s.tags;
      options = s.options;
      payloads = s.payloads;
    }

all_told : (v : Valuation) (fs : List Fact) (f : Fact) → AllTold v (fs ++ f ∷ []) ↔ (AllTold v fs × IsTold v f)
all_told v fs f = (
  (λ h. let k = all_parts (IsTold v) fs (f ∷ []) h in (k.0, k.1.0)),
  (λ h. all_both (IsTold v) fs (f ∷ []) h.0 (h.1, tt)),
)

-- one equality more that can be
one_more : (start now new : Context) (es : List Equal) (e : Equal) (picked after : List Fact)
    → Going start now es picked
    → IsNext now new e picked after true → HasVariablesOf now new → new.classes.spare ≡ now.classes.spare
    → Going start new (es ++ e ∷ []) after
one_more start now new es e picked after g (m, inl p, k) variables spare = record {
  in_turn = subst (ArePickedInTurn start [] (es ++ e ∷ [])) (sym p.1) (left_out start [] es picked e g.in_turn
      (λ v s told. (told_equal v e).1 (p.0 v ((g.known v).1 (s, told)))));
  known = λ v. (
    (λ s. let h = (g.known v).0 ((k v).0 s).0 in (h.0, subst (AllTold v) (sym p.1) h.1)),
    (λ h. let s = (g.known v).1 (h.0, subst (AllTold v) p.1 h.1) in (k v).1 (s, p.0 v s)),
  );
  some = (m.0, (k m.0).1 (m.1, m.2));
  variables = same_then start now new g.variables variables;
  spare = subst IsTrue (sym spare) g.spare;
}
one_more start now new es e picked after g (m, inr p, k) variables spare = record {
  in_turn = subst (ArePickedInTurn start [] (es ++ e ∷ [])) (sym p.1) (picked_too start [] es picked e g.in_turn
      (record {
        valuation = p.0.0;
        satisfies = ((g.known p.0.0).0 p.0.1).0;
        told = ((g.known p.0.0).0 p.0.1).1;
        differs = p.0.2;
      }));
  known = λ v. (
    (λ s.
        let both = (k v).0 s in
        let h = (g.known v).0 both.0 in
        (h.0, subst (AllTold v) (sym p.1) ((all_told v picked (fact_of e)).1 (h.1, (told_equal v e).1 both.1)))),
    (λ h.
        let told = (all_told v picked (fact_of e)).0 (subst (AllTold v) p.1 h.1) in
        (k v).1 ((g.known v).1 (h.0, told.0), (told_equal v e).0 told.1)),
  );
  some = (m.0, (k m.0).1 (m.1, m.2));
  variables = same_then start now new g.variables variables;
  spare = subst IsTrue (sym spare) g.spare;
}

module _ (start now : Context) (es : List Equal) (i : ℕ) (e : Equal) (picked : List Fact)
    (at : slice_get es i ≡ Some e) (g : Going start now (take i es) picked) where
  pub goes : (new : Context) (after : List Fact) → IsNext now new e picked after true → HasVariablesOf now new
      → new.classes.spare ≡ now.classes.spare → Going start new (take (i + 1) es) after
  goes new after n variables spare = subst (λ ds. Going start new ds after) (sym (take_more es i e at))
      (one_more start now new (take i es) e picked after g n variables spare)

  pub asked : AllByRecursion (λ d. IsQuestion start (fact_of d).question) es → IsQuestion now (fact_of e).question
  asked h = still_asked start now g.variables e (all_at (λ d. IsQuestion start (fact_of d).question) es i e at h)

  pub stops : (MayHold now e → ⊥) → (v : Valuation) → Satisfies start v → AllByRecursion (AreEqual v) es → ⊥
  stops never v s all =
      let first = all_parts (AreEqual v) (take i es) (drop i es) (subst (AllByRecursion (AreEqual v))
      (sym (take-append-drop i es)) all) in
      let told = (says start [] (take i es) picked g.in_turn v s tt).1 first.0 in
      never (v, (g.known v).1 (s, told), all_at (AreEqual v) es i e at all)

module _ (start now : Context) (es : List Equal) (i : ℕ) (picked : List Fact)
    (g : Going start now (take i es) picked) (whole : length es ≤ i) where
  pub ends : Going start now es picked
  ends = subst (λ ds. Going start now ds picked) (take_all es i whole) g

  pub ends_picked : ArePicked start es picked
  ends_picked = are_picked start es picked ends.in_turn
      (let h = (ends.known ends.some.0).0 ends.some.1 in (ends.some.0, h.0, h.1))

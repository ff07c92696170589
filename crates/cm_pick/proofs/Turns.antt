-- Picking in turn.
use Rattle.std.proofs.Common.{◌≡◌, ◌↔◌, inl, inr, ℕ, zero, suc, List, [], ◌∷◌, ◌++◌, slice_get, Some}
use Rattle.std.proofs.Common.{append_assoc, append-nil, refl, sym, ap, subst, ◌∙◌}
use Rattle.std.specs.List.{AllByRecursion}
use Rattle.cm_term.specs.declared.question.Equal.{Equal}
use Rattle.cm_term.specs.declared.question.Fact.{Fact}
use Rattle.cm_term.specs.Valuation.{Valuation}
use Rattle.cm_term.specs.Questions.{AreEqual, IsTold}
use Rattle.cm_ctx.specs.Contexts.{Context, Satisfies}
use Rattle.cm_pick.specs.Picking.{fact_of, AllTold, FollowsFrom, IsStillOpen, ArePicked, ArePickedInTurn}
use Rattle.cm_pick.proofs.Told.{told_equal}

pub all_both : {A : Type 0} (P : A → Type 0) (xs ys : List A) → AllByRecursion P xs → AllByRecursion P ys
    → AllByRecursion P (xs ++ ys)
all_both P [] ys h k = k
all_both P (x ∷ xs) ys h k = (h.0, all_both P xs ys h.1 k)

pub all_parts : {A : Type 0} (P : A → Type 0) (xs ys : List A) → AllByRecursion P (xs ++ ys)
    → AllByRecursion P xs × AllByRecursion P ys
all_parts P [] ys h = (tt, h)
all_parts P (x ∷ xs) ys h = let k = all_parts P xs ys h.1 in ((h.0, k.0), k.1)

pub all_at : {A : Type 0} (P : A → Type 0) (xs : List A) (i : ℕ) (x : A) → slice_get xs i ≡ Some x
    → AllByRecursion P xs → P x
all_at P [] i x at h = absurd (cc)
all_at P (y ∷ ys) zero x at h = let same : y ≡ x = cc in subst P same h.0
all_at P (y ∷ ys) (suc i) x at h = all_at P ys i x at h.1

one_further : (before : List Fact) (f : Fact) (rest picked : List Fact) → picked ≡ f ∷ rest
    → before ++ picked ≡ (before ++ f ∷ []) ++ rest
one_further before f rest picked is = ap (λ fs. before ++ fs) is ∙ sym (append_assoc before (f ∷ []) rest)

not_empty : (front : List Fact) (f : Fact) (after : List Fact) → [] ≡ front ++ f ∷ after → ⊥
not_empty [] f after is = cc
not_empty (g ∷ front) f after is = cc

first_same : (f g : Fact) (fs gs : List Fact) → f ∷ fs ≡ g ∷ gs → f ≡ g
first_same f g fs gs is = cc

rest_same : (f g : Fact) (fs gs : List Fact) → f ∷ fs ≡ g ∷ gs → fs ≡ gs
rest_same f g fs gs is = cc

module _ (c : Context) where
  -- one more that follows
  pub left_out : (before : List Fact) (es : List Equal) (picked : List Fact) (e : Equal)
      → ArePickedInTurn c before es picked → FollowsFrom c (before ++ picked) (fact_of e)
      → ArePickedInTurn c before (es ++ e ∷ []) picked
  left_out before [] picked e t f = inl (
    subst (λ fs. FollowsFrom c fs (fact_of e)) (ap (λ fs. before ++ fs) t
        ∙ append-nil before) f,
    t,
  )
  left_out before (x ∷ es) picked e (inl t) f = inl (t.0, left_out before es picked e t.1 f)
  left_out before (x ∷ es) picked e (inr t) f = inr (
    t.0,
    t.1,
    t.2,
    left_out (before ++ fact_of x ∷ []) es t.1 e t.3
        (subst (λ fs. FollowsFrom c fs (fact_of e)) (one_further before (fact_of x) t.1 picked t.2) f),
  )

  -- one more that was open
  pub picked_too : (before : List Fact) (es : List Equal) (picked : List Fact) (e : Equal)
      → ArePickedInTurn c before es picked → IsStillOpen c (before ++ picked) (fact_of e)
      → ArePickedInTurn c before (es ++ e ∷ []) (picked ++ fact_of e ∷ [])
  picked_too before [] picked e t f = inr (
    subst (λ fs. IsStillOpen c fs (fact_of e)) (ap (λ fs. before ++ fs) t
        ∙ append-nil before) f,
    [],
    ap (λ fs. fs ++ fact_of e ∷ []) t,
    refl,
  )
  picked_too before (x ∷ es) picked e (inl t) f = inl (t.0, picked_too before es picked e t.1 f)
  picked_too before (x ∷ es) picked e (inr t) f = inr (
    t.0,
    t.1 ++ fact_of e ∷ [],
    ap (λ fs. fs ++ fact_of e ∷ []) t.2,
    picked_too (before ++ fact_of x ∷ []) es t.1 e t.3
        (subst (λ fs. IsStillOpen c fs (fact_of e)) (one_further before (fact_of x) t.1 picked t.2) f),
  )

  -- they say all that the equalities say
  pub says : (before : List Fact) (es : List Equal) (picked : List Fact) → ArePickedInTurn c before es picked
      → (v : Valuation) → Satisfies c v → AllTold v before → AllTold v picked ↔ AllByRecursion (AreEqual v) es
  says before [] picked t v s b = ((λ h. tt), (λ h. subst (AllTold v) (sym t) tt))
  says before (e ∷ es) picked (inl t) v s b =
      let more = says before es picked t.1 v s b in
      ((λ h. ((told_equal v e).0 (t.0 v s b), more.0 h)), (λ h. more.1 h.1))
  says before (e ∷ es) picked (inr t) v s b = (
    (λ h.
        let parts = subst (AllTold v) t.2 h in
        let more = says (before ++ fact_of e ∷ []) es t.1 t.3 v s (all_both (IsTold v) before _ b (parts.0, tt)) in
        ((told_equal v e).0 parts.0, more.0 parts.1)),
    (λ h.
        let first = (told_equal v e).1 h.0 in
        let more = says (before ++ fact_of e ∷ []) es t.1 t.3 v s (all_both (IsTold v) before _ b (first, tt)) in
        subst (AllTold v) (sym t.2) (first, more.1 h.1)),
  )

  -- each is one of them
  abbrev IsAmong : List Equal → Fact → Type 0
  IsAmong es f = (i : ℕ) × (e : Equal) × (slice_get es i ≡ Some e) × (f ≡ fact_of e)

  among_more : (e : Equal) (es : List Equal) (fs : List Fact) → AllByRecursion (IsAmong es) fs
      → AllByRecursion (IsAmong (e ∷ es)) fs
  among_more e es [] h = tt
  among_more e es (f ∷ fs) h = ((suc h.0.0, h.0.1, h.0.2, h.0.3), among_more e es fs h.1)

  among : (before : List Fact) (es : List Equal) (picked : List Fact) → ArePickedInTurn c before es picked
      → AllByRecursion (IsAmong es) picked
  among before [] picked t = subst (AllByRecursion (IsAmong [])) (sym t) tt
  among before (e ∷ es) picked (inl t) = among_more e es picked (among before es picked t.1)
  among before (e ∷ es) picked (inr t) = subst (AllByRecursion (IsAmong (e ∷ es))) (sym t.2)
      ((0, e, refl, refl), among_more e es t.1 (among (before ++ fact_of e ∷ []) es t.1 t.3))

  -- each was still open
  open_then : (before : List Fact) (es : List Equal) (picked : List Fact) → ArePickedInTurn c before es picked
      → (front : List Fact) (f : Fact) (after : List Fact) → picked ≡ front ++ f ∷ after
      → IsStillOpen c (before ++ front) f
  open_then before [] picked t front f after is = absurd (not_empty front f after (sym t ∙ is))
  open_then before (e ∷ es) picked (inl t) front f after is = open_then before es picked t.1 front f after is
  open_then before (e ∷ es) picked (inr t) [] f after is =
      let same : f ≡ fact_of e = first_same f (fact_of e) after t.1 (sym is ∙ t.2) in
      rw (append-nil before, same) t.0
  open_then before (e ∷ es) picked (inr t) (g ∷ front) f after is =
      let two = sym t.2 ∙ is in
      subst (λ fs. IsStillOpen c fs f) (sym (one_further before (fact_of e) front (g ∷ front)
      (ap (λ h. h ∷ front) (first_same g (fact_of e) _ _ (sym two)))))
      (open_then (before ++ fact_of e ∷ []) es t.1 t.3 front f after (rest_same (fact_of e) g _ _ two))

  -- picking in turn gives what is to be picked, where a valuation has it all
  pub are_picked : (es : List Equal) (picked : List Fact) → ArePickedInTurn c [] es picked
      → ((v : Valuation) × Satisfies c v × AllTold v picked) → ArePicked c es picked
  are_picked es picked t some = record {
    among = among [] es picked t;
    says = λ v s. says [] es picked t v s tt;
    were_open = λ before f after is. open_then [] es picked t before f after is;
    some = some;
  }

  -- a fact that follows is not open
  not_both : (before : List Fact) (f : Fact) → FollowsFrom c before f → IsStillOpen c before f → ⊥
  not_both before f follows o = o.differs (follows o.valuation o.satisfies o.told)

  -- there is one such list
  pub only_one : (before : List Fact) (es : List Equal) (picked other : List Fact) → ArePickedInTurn c before es picked
      → ArePickedInTurn c before es other → picked ≡ other
  only_one before [] picked other t u = t ∙ sym u
  only_one before (e ∷ es) picked other (inl t) (inl u) = only_one before es picked other t.1 u.1
  only_one before (e ∷ es) picked other (inl t) (inr u) = absurd (not_both before (fact_of e) t.0 u.0)
  only_one before (e ∷ es) picked other (inr t) (inl u) = absurd (not_both before (fact_of e) u.0 t.0)
  only_one before (e ∷ es) picked other (inr t) (inr u) =
      t.2 ∙ ap (λ fs. fact_of e ∷ fs) (only_one (before ++ fact_of e ∷ []) es t.1 u.1 t.3 u.3) ∙ sym u.2

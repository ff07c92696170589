-- An equality beside its fact, and what a mask of outcomes says of it.
use Rattle.std.proofs.Common.{◌≡◌, ◌≢◌, ◌<◌, ◌↔◌, ◌⊎◌, inl, inr, ℕ, zero, suc, Bool, true, false, IsTrue}
use Rattle.std.proofs.Common.{arith, rules, refl, sym, subst, ◌∙◌}
use Rattle.std.proofs.lemmas.Bool.{cases_eq}
use Rattle.cm_term.specs.declared.question.Equal.{Equal}
use Rattle.cm_term.specs.declared.question.Equal.TheVariants as equal
use Rattle.cm_term.specs.declared.question.Fact.{Fact}
use Rattle.cm_term.specs.declared.question.Question.{Question}
use Rattle.cm_term.specs.Valuation.{Valuation}
use Rattle.cm_term.specs.Questions.{outcome_under, AreEqual, IsTold}
use Rattle.cm_term.specs.Atoms.{num_under}
use Rattle.cm_ctx.specs.Masks.{Has}
use Rattle.cm_ctx.specs.Contexts.{Context, Allows}
use Rattle.cm_ctx.proofs.Outcomes.{elements_equal, elements_known, order_equal, order_known}
use Rattle.cm_pick.specs.Picking.{fact_of}
use Rattle.cm_pick.specs.inner.Standings.{HasOther, MayHold, MayFail, IsImplied}

-- the fact says that the two are equal
pub told_equal : (v : Valuation) (e : Equal) → IsTold v (fact_of e) ↔ AreEqual v e
told_equal v (equal.Elems x y) = elements_equal v.element x.0 y.0
told_equal v (equal.Nums a b) = order_equal (num_under v.number a) (num_under v.number b)

-- another outcome of elements is 1, and of numbers 0 or 2
other_element : (i : ℕ) → i < 2 → i ≢ 0 → i ≡ 1
other_element i h d = elim (cases_eq i 0) [ inl e ↦ absurd (d e) | inr n ↦ omega arith ]

other_number : (i : ℕ) → i < 3 → i ≢ 1 → (i ≡ 0) ⊎ (i ≡ 2)
other_number zero h d = inl (omega arith)
other_number (suc zero) h d = absurd (d (omega arith))
other_number (suc (suc zero)) h d = inr (omega arith)
other_number (suc (suc (suc i))) h d = absurd (omega arith)

decided : (m n : ℕ) → (m ≢ n → ⊥) → m ≡ n
decided m n d = elim (cases_eq m n) [ inl e ↦ e | inr f ↦ absurd (d f) ]

-- where it can't fail every valuation has it
implied : (c : Context) (e : Equal) → (MayFail c e → ⊥) → IsImplied c e
implied c e d = λ v s. (told_equal v e).0 (decided _ _ (λ f. d (v, s, f)))

abbrev AreOutcomes : Context → Question → ℕ → Type 0
AreOutcomes c q mask = (i : ℕ) → Has mask i ↔ Allows c (λ v. outcome_under v q ≡ i)

fails : (c : Context) (e : Equal) (mask : ℕ) → AreOutcomes c (fact_of e).question mask → HasOther mask e ↔ MayFail c e
fails c (equal.Elems x y) mask h = (
  (λ b. let w = (h 1).0 b in (w.0, w.1, (λ same. let two = sym same ∙ w.2 in absurd (omega arith)))),
  (λ w. (h 1).1 (w.0, w.1, other_element _ (elements_known w.0.element x.0 y.0 _ refl) w.2)),
)
fails c (equal.Nums a b) mask h = (
  (λ o. elim o [
    | inl b ↦ let w = (h 0).0 b in (w.0, w.1, (λ same. let two = sym same ∙ w.2 in absurd (omega arith)))
    | inr b ↦ let w = (h 2).0 b in (w.0, w.1, (λ same. let two = sym same ∙ w.2 in absurd (omega arith)))
  ]),
  (λ w. elim (other_number _ (order_known (num_under w.0.number a) (num_under w.0.number b) _ refl) w.2) [
    | inl e ↦ inl ((h 0).1 (w.0, w.1, e))
    | inr e ↦ inr ((h 2).1 (w.0, w.1, e))
  ]),
)

holds : (c : Context) (e : Equal) (mask : ℕ) → AreOutcomes c (fact_of e).question mask
    → Has mask (fact_of e).outcome ↔ MayHold c e
holds c e mask h = (
  (λ b. let w = (h (fact_of e).outcome).0 b in (w.0, w.1, (told_equal w.0 e).0 w.2)),
  (λ w. (h (fact_of e).outcome).1 (w.0, w.1, (told_equal w.0 e).1 w.2)),
)

-- what the tests say of an equality whose fact is asked
module _ (c : Context) (e : Equal) (mask : ℕ) (f : Fact) (is : f ≡ fact_of e) (exact : AreOutcomes c f.question mask)
    (has other : Bool) (has_is : IsTrue has ↔ Has mask f.outcome) where
  exact_here : AreOutcomes c (fact_of e).question mask
  exact_here = subst (λ (g : Fact). AreOutcomes c g.question mask) is exact

  has_here : IsTrue has ↔ MayHold c e
  has_here = (
    (λ t. (holds c e mask exact_here).0 (subst (λ (g : Fact). Has mask g.outcome) is (has_is.0 t))),
    (λ m. has_is.1 (subst (λ (g : Fact). Has mask g.outcome) (sym is) ((holds c e mask exact_here).1 m))),
  )

  pub holds_so : has ≡ true → MayHold c e
  holds_so t = has_here.0 (search (rules, t))

  pub never_holds : has ≡ false → MayHold c e → ⊥
  never_holds t m = let b = has_here.1 m in absurd (search (rules, t, b))

  pub fails_so : (IsTrue other ↔ HasOther mask e) → other ≡ true → MayFail c e
  fails_so other_is t = (fails c e mask exact_here).0 (other_is.0 (search (rules, t)))

  pub implied_so : (IsTrue other ↔ HasOther mask e) → other ≡ false → IsImplied c e
  implied_so other_is t = implied c e (λ m.
      let b = other_is.1 ((fails c e mask exact_here).1 m) in absurd (search (rules, t, b)))

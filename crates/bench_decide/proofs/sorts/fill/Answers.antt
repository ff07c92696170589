-- One variable more of sort 0.
use Rattle.std.proofs.Common.{◌≡◌, ℕ, zero, suc, ◌+◌, List, [], ◌∷◌, ◌++◌, length, refl, sym, ap, ◌∙◌, subst, arith}
use Rattle.std.specs.Prelude.{slice_index}
use Rattle.std.proofs.lemmas.List.{length-append}
use Rattle.bench_decide.specs.OneSort.{IsOneSort}
use Rattle.bench_decide.proofs.sorts.fill.Goals as goal

still_none : (xs : List ℕ) → ((x : ℕ) → slice_index xs x ≡ 0) → (x : ℕ) → slice_index (xs ++ 0 ∷ []) x ≡ 0
still_none [] h zero = refl
still_none [] h (suc x) = h x
still_none (y ∷ ys) h zero = h zero
still_none (y ∷ ys) h (suc x) = still_none ys (λ x. h (suc x)) x

one_more : (n : ℕ) (xs : List ℕ) → IsOneSort n xs → IsOneSort (n + 1) (xs ++ 0 ∷ [])
one_more n xs is = record {
  count = length-append xs (0 ∷ []) ∙ omega (arith, is.count);
  same = still_none xs is.same;
}

pub fresh-preserved : goal.fresh-preserved
fresh-preserved c =
    subst (λ sorts. IsOneSort (c.fresh.counter + 1) sorts) (sym c.in_ok-fresh.ensures.sorts)
    (one_more c.fresh.counter c.fresh.classes.sorts c.fresh.invariant)

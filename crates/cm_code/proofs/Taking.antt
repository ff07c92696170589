-- Operands, the topmost first.
use Rattle.std.proofs.Common.{◌≡◌, ℕ, zero, suc, ◌-◌, ◌<◌, ◌≤◌, List, [], ◌∷◌, ◌++◌, length}
use Rattle.std.proofs.Common.{take, reverse, Some, None, refl, sym, ap, ◌∙◌, arith}
use Rattle.std.proofs.lemmas.List.{reverse-append, length-append}
use Rattle.cm_code.specs.Rules.{Rules}
use Rattle.cm_code.specs.Code.{many}
use Rattle.cm_code.specs.Machine.{TakesValue}

pub reverse_push : {V : Type 0} (back : List V) (x : V) → reverse (back ++ x ∷ []) ≡ x ∷ reverse back
reverse_push back x = reverse-append back (x ∷ [])

module _ (V O S : Type 0) (r : Rules V O S) where
  -- one more of n is taken
  pub one_taken : (n : ℕ) (v : V) (before ops : List O) (back next : List V) (k : List V → List O → S)
      → 0 < n → TakesValue V O S r before (Some v) ops → next ≡ back ++ v ∷ []
      → many V O S r (n - 1) (reverse ops) (reverse next) k ≡ many V O S r n (reverse before) (reverse back) k
  one_taken zero v before ops back next k lt takes f = absurd (omega arith)
  one_taken (suc n) v before ops back next k lt takes f =
      let e : suc n - 1 ≡ n = omega arith in
      ap (λ m. many V O S r m (reverse ops) (reverse next) k) e
      ∙ ap (λ l. many V O S r n (reverse ops) l k) (ap reverse f ∙ reverse_push back v)
      ∙ sym (takes (λ v rest. many V O S r n rest (v ∷ reverse back) k))

  pub none_taken : (n : ℕ) (before ops : List O) (args : List V) (k : List V → List O → S)
      → 0 < n → TakesValue V O S r before None ops → many V O S r n (reverse before) args k ≡ r.blocks
  none_taken zero before ops args k lt takes = absurd (omega arith)
  none_taken (suc n) before ops args k lt takes = takes (λ v rest. many V O S r n rest (v ∷ args) k)

  pub all_taken : (n : ℕ) (ops : List O) (args : List V) (k : List V → List O → S) → n ≤ 0
      → many V O S r n ops args k ≡ k args ops
  all_taken n ops args k le = let e : n ≡ 0 = omega arith in ap (λ m. many V O S r m ops args k) e

-- one fewer
pub one_left : {V : Type 0} (items before more : List V) (x : V) (n : ℕ) → 0 < n → before ≡ items ++ x ∷ []
    → take (length items - (n - 1)) items ≡ take (length before - n) before
one_left items before more x n lt e =
    let count : length before - n ≡ length items - (n - 1) = omega (arith, ap length e, length-append items (x ∷ [])) in
    sym (ap (λ m. take m before) count ∙ ap (take (length items - (n - 1))) e
    ∙ within items (x ∷ []) (length items - (n - 1)) (omega arith))
  where
    within : {V : Type 0} (a b : List V) (n : ℕ) → n ≤ length a → take n (a ++ b) ≡ take n a
    within a b zero le = refl
    within [] b (suc n) le = absurd (omega arith)
    within (x ∷ a) b (suc n) le = ap (λ l. x ∷ l) (within a b n (omega arith))

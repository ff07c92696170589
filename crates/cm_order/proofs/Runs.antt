-- One run of numbers that are lowered.
use Rattle.std.proofs.Common.{◌≡◌, ◌<◌, ◌≤◌, ◌+◌, ◌-◌, inl, inr, ℕ, ℤ, pos, ◌+ℤ◌, false, nat_le, List, length}
use Rattle.std.proofs.Common.{slice_set, refl, sym, ap, ◌∙◌, arith}
use Rattle.std.specs.Int.{int_min}
use Rattle.std.proofs.lemmas.Bool.{cases_eq, cases_lt, le-leb, lt-leb, lt-ltb, le-ltb, and_right}
use Rattle.std.proofs.lemmas.List.{get_or-set_same, get_or-set_other}
use Rattle.cm_order.specs.inner.Shells.{number_at, relaxed}

-- in the run and outside it
pub relaxed_in : (cells : List ℤ) (start : ℕ) (others : List ℤ) (by : ℤ) (n p : ℕ) → start ≤ p → p < start + n
    → relaxed cells start others by n p ≡ int_min (number_at cells p) (by +ℤ number_at others (p - start))
relaxed_in cells start others by n p h k = rw (le-leb start p h, lt-ltb p (start + n) k) refl

pub relaxed_below : (cells : List ℤ) (start : ℕ) (others : List ℤ) (by : ℤ) (n p : ℕ) → p < start
    → relaxed cells start others by n p ≡ number_at cells p
relaxed_below cells start others by n p h = rw (lt-leb start p h) refl

pub relaxed_above : (cells : List ℤ) (start : ℕ) (others : List ℤ) (by : ℤ) (n p : ℕ) → start + n ≤ p
    → relaxed cells start others by n p ≡ number_at cells p
relaxed_above cells start others by n p h = rw (le-ltb p (start + n) h, and_right (nat_le start p) false refl) refl

pub relaxed_more : (cells now others : List ℤ) (start : ℕ) (by : ℤ) (k : ℕ) → k < length others
    → start + length others ≤ length cells → length now ≡ length cells
    → ((p : ℕ) → number_at now p ≡ relaxed cells start others by k p)
    → (p : ℕ) → number_at (slice_set now (start + k) (int_min (number_at now (start + k)) (by +ℤ number_at others k))) p
    ≡ relaxed cells start others by (k + 1) p
relaxed_more cells now others start by k h room long before p = elim (cases_eq p (start + k)) [
  | inl e ↦
      let old : number_at now (start + k) ≡ number_at cells (start + k) = before (start + k)
      ∙ relaxed_above cells start others by k (start + k) (omega arith) in
      let back : (start + k) - start ≡ k = omega arith in
      rw (
        e,
        get_or-set_same now (start + k) (int_min (number_at now (start + k)) (by +ℤ number_at others k))
            (pos 0) (omega arith),
        old,
      )
      (sym (relaxed_in cells start others by (k + 1) (start + k) (omega arith) (omega arith)
      ∙ ap (λ i. int_min (number_at cells (start + k)) (by +ℤ number_at others i)) back))
  | inr f ↦ get_or-set_other now (start + k) p (int_min (number_at now (start + k)) (by +ℤ number_at others k))
      (pos 0) f ∙ before p ∙ same p f
]
  where
    same : (q : ℕ) → (q ≡ start + k → ⊥) → relaxed cells start others by k q ≡ relaxed cells start others by (k + 1) q
    same q f = elim (cases_lt q start) [
      | inl u ↦ relaxed_below cells start others by k q u ∙ sym (relaxed_below cells start others by (k + 1) q u)
      | inr u ↦ elim (cases_lt q (start + k)) [
        | inl w ↦ relaxed_in cells start others by k q u w
            ∙ sym (relaxed_in cells start others by (k + 1) q u (omega arith))
        | inr w ↦ relaxed_above cells start others by k q w
            ∙ sym (relaxed_above cells start others by (k + 1) q (omega arith))
      ]
    ]

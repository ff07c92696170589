-- What each outcome of a question says.
use Rattle.std.proofs.Common.{◌≡◌, ◌≢◌, ◌<◌, ◌↔◌, ◌⊎◌, inl, inr, ℕ, zero, suc, ℤ, pos, negsuc, ◌+ℤ◌, ◌-ℤ◌, ◌≤ℤ◌, ◌<ℤ◌}
use Rattle.std.proofs.Common.{Bool, true, false, IsTrue, refl, sym, ap, ◌∙◌, arith, rules, ◌==◌}
use Rattle.std.specs.Prelude.{int_lt}
use Rattle.std.proofs.lemmas.Int.{ints, by_lt_z, to_z-of_z}
use Rattle.std.proofs.Common.{to_z, of_z, w64}
use Rattle.std.proofs.lemmas.Bool.Decides.{nat_tests}
use Rattle.cm_sorts.specs.Partition.{Partition}
use Rattle.cm_sorts.specs.Partition as sorts
use Rattle.cm_order.specs.Differences.{Differences}
use Rattle.cm_order.specs.Differences as order
use Rattle.cm_term.specs.declared.atom.Num.{Num}
use Rattle.cm_term.specs.declared.atom.Num.TheVariants as num
use Rattle.cm_term.specs.Atoms.{num_under, var_of, offset_of}
use Rattle.cm_term.specs.Questions.{elements_outcome, order_of, place_in, order_outcome, range_outcome}
use Rattle.cm_ctx.specs.Masks.{third_of}
use Rattle.cm_ctx.specs.Contexts.{IsSmall}
use Rattle.cm_ctx.proofs.Between.{between}

order_is : (m n : ℤ) → ((m <ℤ n) × (order_of m n ≡ 0))
    ⊎ (((m ≡ n) × (order_of m n ≡ 1)) ⊎ ((n <ℤ m) × (order_of m n ≡ 2)))
order_is m n = first (int_lt m n) refl (int_lt n m) refl
  where
    first : (t : Bool) → int_lt m n ≡ t → (u : Bool) → int_lt n m ≡ u → ((m <ℤ n) × (order_of m n ≡ 0))
        ⊎ (((m ≡ n) × (order_of m n ≡ 1)) ⊎ ((n <ℤ m) × (order_of m n ≡ 2)))
    first true e u f = inl (grind (arith, ints), rw e refl)
    first false e true f = inr (inr (grind (arith, ints), rw (e, f) refl))
    first false e false f = inr (inl (grind (arith, ints), rw (e, f) refl))

pub order_less : (m n : ℤ) → (order_of m n ≡ 0) ↔ (m <ℤ n)
order_less m n = elim (order_is m n) [
  | inl o ↦ ((λ e. o.0), (λ e. o.1))
  | inr (inl o) ↦ (
    (λ e. absurd (let same = sym e ∙ o.1 in omega arith)),
    (λ e. absurd (let same = o.0 in omega (arith, ints))),
  )
  | inr (inr o) ↦ (
    (λ e. absurd (let same = sym e ∙ o.1 in omega arith)),
    (λ e. absurd (let same = o.0 in omega (arith, ints))),
  )
]

pub order_equal : (m n : ℤ) → (order_of m n ≡ 1) ↔ (m ≡ n)
order_equal m n = elim (order_is m n) [
  | inl o ↦ (
    (λ e. absurd (let same = sym e ∙ o.1 in omega arith)),
    (λ e. absurd (let same = o.0 in omega (arith, ints))),
  )
  | inr (inl o) ↦ ((λ e. o.0), (λ e. o.1))
  | inr (inr o) ↦ (
    (λ e. absurd (let same = sym e ∙ o.1 in omega arith)),
    (λ e. absurd (let same = o.0 in omega (arith, ints))),
  )
]

pub order_greater : (m n : ℤ) → (order_of m n ≡ 2) ↔ (n <ℤ m)
order_greater m n = elim (order_is m n) [
  | inl o ↦ (
    (λ e. absurd (let same = sym e ∙ o.1 in omega arith)),
    (λ e. absurd (let same = o.0 in omega (arith, ints))),
  )
  | inr (inl o) ↦ (
    (λ e. absurd (let same = sym e ∙ o.1 in omega arith)),
    (λ e. absurd (let same = o.0 in omega (arith, ints))),
  )
  | inr (inr o) ↦ ((λ e. o.0), (λ e. o.1))
]

pub order_known : (m n : ℤ) (i : ℕ) → order_of m n ≡ i → i < 3
order_known m n i e = elim (order_is m n) [
  | inl o ↦ let same = sym e ∙ o.1 in omega arith
  | inr (inl o) ↦ let same = sym e ∙ o.1 in omega arith
  | inr (inr o) ↦ let same = sym e ∙ o.1 in omega arith
]

place_is : (lo hi n : ℤ) → lo ≤ℤ hi → ((n <ℤ lo) × (place_in lo hi n ≡ 0))
    ⊎ (((lo ≤ℤ n) × (n ≤ℤ hi) × (place_in lo hi n ≡ 1)) ⊎ ((hi <ℤ n) × (place_in lo hi n ≡ 2)))
place_is lo hi n h = first (int_lt n lo) refl (int_lt hi n) refl
  where
    first : (t : Bool) → int_lt n lo ≡ t → (u : Bool) → int_lt hi n ≡ u → ((n <ℤ lo) × (place_in lo hi n ≡ 0))
        ⊎ (((lo ≤ℤ n) × (n ≤ℤ hi) × (place_in lo hi n ≡ 1)) ⊎ ((hi <ℤ n) × (place_in lo hi n ≡ 2)))
    first true e u f = inl (grind (arith, ints), rw e refl)
    first false e true f = inr (inr (grind (arith, ints), rw (e, f) refl))
    first false e false f = inr (inl (grind (arith, ints), grind (arith, ints), rw (e, f) refl))

pub place_below : (lo hi n : ℤ) → lo ≤ℤ hi → (place_in lo hi n ≡ 0) ↔ (n <ℤ lo)
place_below lo hi n h = elim (place_is lo hi n h) [
  | inl o ↦ ((λ e. o.0), (λ e. o.1))
  | inr (inl o) ↦ (
    (λ e. absurd (let same = sym e ∙ o.2 in omega arith)),
    (λ e. absurd (let same = o.0 in omega (arith, ints))),
  )
  | inr (inr o) ↦ (
    (λ e. absurd (let same = sym e ∙ o.1 in omega arith)),
    (λ e. absurd (let same = o.0 in omega (arith, ints))),
  )
]

pub place_within : (lo hi n : ℤ) → lo ≤ℤ hi → (place_in lo hi n ≡ 1) ↔ ((lo ≤ℤ n) × (n ≤ℤ hi))
place_within lo hi n h = elim (place_is lo hi n h) [
  | inl o ↦ (
    (λ e. absurd (let same = sym e ∙ o.1 in omega arith)),
    (λ e. absurd (let same = o.0 in let a = e.0 in omega (arith, ints))),
  )
  | inr (inl o) ↦ ((λ e. (o.0, o.1)), (λ e. o.2))
  | inr (inr o) ↦ (
    (λ e. absurd (let same = sym e ∙ o.1 in omega arith)),
    (λ e. absurd (let same = o.0 in let a = e.1 in omega (arith, ints))),
  )
]

pub place_above : (lo hi n : ℤ) → lo ≤ℤ hi → (place_in lo hi n ≡ 2) ↔ (hi <ℤ n)
place_above lo hi n h = elim (place_is lo hi n h) [
  | inl o ↦ (
    (λ e. absurd (let same = sym e ∙ o.1 in omega arith)),
    (λ e. absurd (let same = o.0 in omega (arith, ints))),
  )
  | inr (inl o) ↦ (
    (λ e. absurd (let same = sym e ∙ o.2 in omega arith)),
    (λ e. absurd (let same = o.1 in omega (arith, ints))),
  )
  | inr (inr o) ↦ ((λ e. o.0), (λ e. o.1))
]

pub place_known : (lo hi n : ℤ) (i : ℕ) → lo ≤ℤ hi → place_in lo hi n ≡ i → i < 3
place_known lo hi n i h e = elim (place_is lo hi n h) [
  | inl o ↦ let same = sym e ∙ o.1 in omega arith
  | inr (inl o) ↦ let same = sym e ∙ o.2 in omega arith
  | inr (inr o) ↦ let same = sym e ∙ o.1 in omega arith
]

pub num_is : (n : ℕ → ℤ) → n 0 ≡ pos 0 → (a : Num) → num_under n a ≡ (n (var_of a) +ℤ offset_of a)
num_is n z (num.Const k) = omega (arith, ints)
num_is n z (num.Plus x k) = refl

elements_is : (e : ℕ → ℕ) (x y : ℕ) → ((e x ≡ e y) × (elements_outcome e x y ≡ 0))
    ⊎ ((e x ≢ e y) × (elements_outcome e x y ≡ 1))
elements_is e x y = first (e x == e y) refl
  where
    first : (t : Bool) → (e x == e y) ≡ t → ((e x ≡ e y) × (elements_outcome e x y ≡ 0))
        ⊎ ((e x ≢ e y) × (elements_outcome e x y ≡ 1))
    first true h = inl (grind (arith, nat_tests), rw h refl)
    first false h = inr ((λ g. grind (arith, nat_tests)), rw h refl)

pub elements_equal : (e : ℕ → ℕ) (x y : ℕ) → (elements_outcome e x y ≡ 0) ↔ (e x ≡ e y)
elements_equal e x y = elim (elements_is e x y) [
  | inl o ↦ ((λ h. o.0), (λ h. o.1))
  | inr o ↦ ((λ h. absurd (let same = sym h ∙ o.1 in omega arith)), (λ h. absurd (o.0 h)))
]

pub elements_differ : (e : ℕ → ℕ) (x y : ℕ) → (elements_outcome e x y ≡ 1) ↔ (e x ≢ e y)
elements_differ e x y = elim (elements_is e x y) [
  | inl o ↦ ((λ h. absurd (let same = sym h ∙ o.1 in omega arith)), (λ h. absurd (h o.0)))
  | inr o ↦ ((λ h. o.0), (λ h. o.1))
]

pub elements_known : (e : ℕ → ℕ) (x y i : ℕ) → elements_outcome e x y ≡ i → i < 2
elements_known e x y i h = elim (elements_is e x y) [
  | inl o ↦ let same = sym h ∙ o.1 in omega arith
  | inr o ↦ let same = sym h ∙ o.1 in omega arith
]

-- a test of elements, as outcomes
pub elements_exact : (p : Partition) (x y : ℕ) (may_equal may_differ : Bool)
    → IsTrue may_equal ↔ sorts.Allows p (λ v. v x ≡ v y) → IsTrue may_differ ↔ sorts.Allows p (λ v. v x ≢ v y)
    → (i : ℕ) → IsTrue (third_of may_equal may_differ false i) ↔ sorts.Allows p (λ e. elements_outcome e x y ≡ i)
elements_exact p x y a b h k zero = (
  (λ t. let w = h.0 t in (w.0, w.1, (elements_equal w.0 x y).1 w.2)),
  (λ w. h.1 (w.0, w.1, (elements_equal w.0 x y).0 w.2)),
)
elements_exact p x y a b h k (suc zero) = (
  (λ t. let w = k.0 t in (w.0, w.1, (elements_differ w.0 x y).1 w.2)),
  (λ w. k.1 (w.0, w.1, (elements_differ w.0 x y).0 w.2)),
)
elements_exact p x y a b h k (suc (suc zero)) = (
  (λ t. search rules),
  (λ w. let few = elements_known w.0 x y 2 w.2 in absurd (omega arith)),
)
elements_exact p x y a b h k (suc (suc (suc i))) =
    ((λ t. search rules), (λ w. let few = elements_known w.0 x y (suc (suc (suc i))) w.2 in absurd (omega arith)))

-- a test that some valuation passes, said in another way
pub number_test : (d : Differences) (t : Bool) (P Q : (ℕ → ℤ) → Type 0) → ((n : ℕ → ℤ) → n 0 ≡ pos 0 → P n ↔ Q n)
    → IsTrue t ↔ order.Allows d P → IsTrue t ↔ order.Allows d Q
number_test d t P Q e h = (
  (λ u. let w = h.0 u in (w.0, w.1, (e w.0 w.1.zero).0 w.2)),
  (λ w. h.1 (w.0, w.1, (e w.0 w.1.zero).1 w.2)),
)

-- two numbers stand as their variables do, one with an offset
pub nums_stand : (n : ℕ → ℤ) → n 0 ≡ pos 0 → (a b : Num) (x y : ℕ) (c : ℤ) → x ≡ var_of a → y ≡ var_of b
    → c ≡ (offset_of a -ℤ offset_of b)
    → (num_under n a -ℤ num_under n b) ≡ ((n x +ℤ c) -ℤ n y)
nums_stand n z a b x y c p q r =
    let s = num_is n z a in
    let t = num_is n z b in
    let goal : (num_under n a -ℤ num_under n b) ≡ ((n (var_of a) +ℤ (offset_of a -ℤ offset_of b)) -ℤ n (var_of b)) =
    omega (arith, ints) in
    rw (p, q, r) goal

less_so : (m n a b : ℤ) → (m -ℤ n) ≡ (a -ℤ b) → (a <ℤ b) ↔ (m <ℤ n)
less_so m n a b e = ((λ h. omega (arith, ints)), (λ h. omega (arith, ints)))

equal_so : (m n a b : ℤ) → (m -ℤ n) ≡ (a -ℤ b) → (a ≡ b) ↔ (m ≡ n)
equal_so m n a b e = ((λ h. omega (arith, ints)), (λ h. omega (arith, ints)))

through : {A B C : Type 0} → A ↔ B → C ↔ B → A ↔ C
through f g = ((λ a. g.1 (f.0 a)), (λ c. f.1 (g.0 c)))

pub less_asked : (n : ℕ → ℤ) → n 0 ≡ pos 0 → (a b : Num) (x y : ℕ) (c : ℤ) → x ≡ var_of a → y ≡ var_of b
    → c ≡ (offset_of a -ℤ offset_of b)
    → ((n x +ℤ c) <ℤ n y) ↔ (order_outcome n a b ≡ 0)
less_asked n z a b x y c p q r = through (less_so _ _ _ _ (nums_stand n z a b x y c p q r)) (order_less
    (num_under n a) (num_under n b))

pub equal_asked : (n : ℕ → ℤ) → n 0 ≡ pos 0 → (a b : Num) (x y : ℕ) (c : ℤ) → x ≡ var_of a → y ≡ var_of b
    → c ≡ (offset_of a -ℤ offset_of b)
    → ((n x +ℤ c) ≡ n y) ↔ (order_outcome n a b ≡ 1)
equal_asked n z a b x y c p q r = through (equal_so _ _ _ _ (nums_stand n z a b x y c p q r)) (order_equal
    (num_under n a) (num_under n b))

greater_so : (m n a b : ℤ) → (m -ℤ n) ≡ (a -ℤ b) → (b <ℤ a) ↔ (n <ℤ m)
greater_so m n a b e = ((λ h. omega (arith, ints)), (λ h. omega (arith, ints)))

pub greater_asked : (n : ℕ → ℤ) → n 0 ≡ pos 0 → (a b : Num) (x y : ℕ) (c : ℤ) → x ≡ var_of a → y ≡ var_of b
    → c ≡ (offset_of a -ℤ offset_of b)
    → (n y <ℤ (n x +ℤ c)) ↔ (order_outcome n a b ≡ 2)
greater_asked n z a b x y c p q r = through (greater_so _ _ _ _ (nums_stand n z a b x y c p q r)) (order_greater
    (num_under n a) (num_under n b))

-- a test of numbers, as outcomes
pub order_exact : (d : Differences) (a b : Num) (x y : ℕ) (c : ℤ) (lt eq gt : Bool) → x ≡ var_of a → y ≡ var_of b
    → c ≡ (offset_of a -ℤ offset_of b)
    → IsTrue lt ↔ order.Allows d (λ v. (v x +ℤ c) <ℤ v y)
    → IsTrue eq ↔ order.Allows d (λ v. (v x +ℤ c) ≡ v y)
    → IsTrue gt ↔ order.Allows d (λ v. v y <ℤ (v x +ℤ c))
    → (i : ℕ) → IsTrue (third_of lt eq gt i) ↔ order.Allows d (λ n. order_outcome n a b ≡ i)
order_exact d a b x y c lt eq gt p q r h k l zero = number_test d lt _ _ (λ n z. less_asked n z a b x y c p q r) h
order_exact d a b x y c lt eq gt p q r h k l (suc zero) =
    number_test d eq _ _ (λ n z. equal_asked n z a b x y c p q r) k
order_exact d a b x y c lt eq gt p q r h k l (suc (suc zero)) =
    number_test d gt _ _ (λ n z. greater_asked n z a b x y c p q r) l
order_exact d a b x y c lt eq gt p q r h k l (suc (suc (suc i))) = (
  (λ t. search rules),
  (λ w. let few = order_known (num_under w.0 a) (num_under w.0 b) (suc (suc (suc i))) w.2 in
      absurd (omega arith)),
)

-- a number that may reach the lower end and may stay below the upper one may lie between
middle : (d : Differences) (a : Num) (x : ℕ) (lo hi low high : ℤ) → lo ≤ℤ hi → x ≡ var_of a
    → low ≡ (offset_of a -ℤ lo) → high ≡ (offset_of a -ℤ hi)
    → (f g : ℕ → ℤ) → order.Satisfies d f → order.Satisfies d g → f 0 ≤ℤ (f x +ℤ low) → (g x +ℤ high) ≤ℤ g 0
    → order.Allows d (λ n. range_outcome n a lo hi ≡ 1)
middle d a x lo hi low high o p q r f g s t h k =
    by_lt_z hi (num_under f a)
    (λ above. by_lt_z (num_under g a) lo
    (λ below.
    let e = between d g f t s (var_of a) (lo -ℤ offset_of a) (g_low below) (f_high above) in
    let z = e.1.zero in
    let c = num_is e.0 z a in
    let at = e.2 in
    (e.0, e.1, (place_within lo hi (num_under e.0 a) o).1 (omega (arith, ints), omega (arith, ints))))
    (λ reaches. (g, t, (place_within lo hi (num_under g a) o).1 (reaches, g_high))))
    (λ stays. (f, s, (place_within lo hi (num_under f a) o).1 (f_low, stays)))
  where
    g_low : num_under g a <ℤ lo → g (var_of a) ≤ℤ (lo -ℤ offset_of a)
    g_low below = let v = num_is g t.zero a in omega (arith, ints)

    f_high : hi <ℤ num_under f a → (lo -ℤ offset_of a) ≤ℤ f (var_of a)
    f_high above = let u = num_is f s.zero a in omega (arith, ints)

    g_high : num_under g a ≤ℤ hi
    g_high = let v = num_is g t.zero a in let gz = t.zero in let k' : (g (var_of a) +ℤ (offset_of a -ℤ hi)) ≤ℤ g 0 =
        rw (← p, ← r) k in omega (arith, ints)

    f_low : lo ≤ℤ num_under f a
    f_low = let u = num_is f s.zero a in let fz = s.zero in let h' : f 0 ≤ℤ (f (var_of a) +ℤ (offset_of a -ℤ lo)) =
        rw (← p, ← q) h in omega (arith, ints)

-- which sides of two ends a number may have: the middle wherever neither end shuts it out
pub range_exact : (d : Differences) (a : Num) (x : ℕ) (lo hi low high : ℤ) (below reaches stays within above : Bool)
    → lo ≤ℤ hi → x ≡ var_of a → low ≡ (offset_of a -ℤ lo) → high ≡ (offset_of a -ℤ hi)
    → IsTrue below ↔ order.Allows d (λ v. (v x +ℤ low) <ℤ v 0)
    → IsTrue reaches ↔ order.Allows d (λ v. v 0 ≤ℤ (v x +ℤ low))
    → IsTrue stays ↔ order.Allows d (λ v. (v x +ℤ high) ≤ℤ v 0)
    → IsTrue within ↔ (IsTrue reaches × IsTrue stays)
    → IsTrue above ↔ order.Allows d (λ v. v 0 <ℤ (v x +ℤ high))
    → (i : ℕ) → IsTrue (third_of below within above i) ↔ order.Allows d (λ n. range_outcome n a lo hi ≡ i)
range_exact d a x lo hi low high below reaches stays within above o p q r b e s m t zero =
    number_test d below _ _ (λ n z. through (below_so n z) (place_below lo hi (num_under n a) o)) b
  where
    below_so : (n : ℕ → ℤ) → n 0 ≡ pos 0 → ((n x +ℤ low) <ℤ n 0) ↔ (num_under n a <ℤ lo)
    below_so n z = let u = num_is n z a in rw (p, q) ((λ h. omega (arith, ints)), (λ h. omega (arith, ints)))
range_exact d a x lo hi low high below reaches stays within above o p q r b e s m t (suc zero) = (
  (λ u. let y = m.0 u in let f = e.0 y.0 in let g = s.0 y.1 in
      middle d a x lo hi low high o p q r f.0 g.0 f.1 g.1 f.2 g.2),
  (λ w.
      let z = w.1.zero in
      let u = num_is w.0 z a in
      let y = (place_within lo hi (num_under w.0 a) o).0 w.2 in
      let f = y.0 in
      let g = y.1 in
      m.1 (e.1 (w.0, w.1, rw (p, q) (omega (arith, ints))), s.1 (w.0, w.1, rw (p, r) (omega (arith, ints))))),
)
range_exact d a x lo hi low high below reaches stays within above o p q r b e s m t (suc (suc zero)) =
    number_test d above _ _ (λ n z. through (above_so n z) (place_above lo hi (num_under n a) o)) t
  where
    above_so : (n : ℕ → ℤ) → n 0 ≡ pos 0 → (n 0 <ℤ (n x +ℤ high)) ↔ (hi <ℤ num_under n a)
    above_so n z = let u = num_is n z a in rw (p, r) ((λ h. omega (arith, ints)), (λ h. omega (arith, ints)))
range_exact d a x lo hi low high below reaches stays within above o p q r b e s m t (suc (suc (suc i))) = (
  (λ t. search rules),
  (λ w. let few = place_known lo hi (num_under w.0 a) (suc (suc (suc i))) o w.2 in
      absurd (omega arith)),
)

-- what is kept, said in another way
pub numbers_kept : (old new : Differences) (P Q : (ℕ → ℤ) → Type 0) → ((n : ℕ → ℤ) → n 0 ≡ pos 0 → P n ↔ Q n)
    → order.Keeps old new P → order.Keeps old new Q
numbers_kept old new P Q e h v = (
  (λ s. let k = (h v).0 s in (k.0, (e v k.0.zero).0 k.1)),
  (λ s. (h v).1 (s.0, (e v s.0.zero).1 s.1)),
)

pub numbers_may : (d : Differences) (P Q : (ℕ → ℤ) → Type 0) → ((n : ℕ → ℤ) → n 0 ≡ pos 0 → P n ↔ Q n)
    → order.Allows d Q → order.Allows d P
numbers_may d P Q e w = (w.0, w.1, (e w.0 w.1.zero).1 w.2)

pub below_asked : (n : ℕ → ℤ) → n 0 ≡ pos 0 → (a : Num) (lo hi : ℤ) → lo ≤ℤ hi → (x : ℕ) (c : ℤ) → x ≡ var_of a
    → c ≡ (offset_of a -ℤ lo) → ((n x +ℤ c) <ℤ n 0) ↔ (range_outcome n a lo hi ≡ 0)
below_asked n z a lo hi o x c p q = through (let u = num_is n z a in
    rw (p, q) ((λ h. omega (arith, ints)), (λ h. omega (arith, ints)))) (place_below lo hi (num_under n a) o)

pub above_asked : (n : ℕ → ℤ) → n 0 ≡ pos 0 → (a : Num) (lo hi : ℤ) → lo ≤ℤ hi → (x : ℕ) (c : ℤ) → x ≡ var_of a
    → c ≡ (offset_of a -ℤ hi) → (n 0 <ℤ (n x +ℤ c)) ↔ (range_outcome n a lo hi ≡ 2)
above_asked n z a lo hi o x c p q = through (let u = num_is n z a in
    rw (p, q) ((λ h. omega (arith, ints)), (λ h. omega (arith, ints)))) (place_above lo hi (num_under n a) o)

pub within_asked : (n : ℕ → ℤ) → n 0 ≡ pos 0 → (a : Num) (lo hi : ℤ) → lo ≤ℤ hi → (x : ℕ) (high rest : ℤ)
    → x ≡ var_of a → high ≡ (offset_of a -ℤ hi) → rest ≡ (lo -ℤ offset_of a)
    → (((n x +ℤ high) ≤ℤ pos 0) × (rest ≤ℤ n x)) ↔ (range_outcome n a lo hi ≡ 1)
within_asked n z a lo hi o x high rest p q r = through (let u = num_is n z a in
    rw (p, q, r) (
      (λ h. let f = h.0 in let g = h.1 in (omega (arith, ints), omega (arith, ints))),
      (λ h. let f = h.0 in let g = h.1 in (omega (arith, ints), omega (arith, ints))),
    ))
    (place_within lo hi (num_under n a) o)

-- a small number as it is passed on
pub passed : (z e : ℤ) → z ≡ e → negsuc 999999999 ≤ℤ z → z ≤ℤ pos 1000000000 → to_z w64 (of_z w64 z) ≡ e
passed z e h low high = to_z-of_z w64 z (search (rules, ints)) ∙ h

-- the last outcome of three
pub last_of_three : (i : ℕ) → i < 3 → i ≢ 0 → i ≢ 1 → i ≡ 2
last_of_three i h p q = omega arith

-- a test that the number is not below, and one that it is not above
pub reach_test : (d : Differences) (x : ℕ) (c : ℤ) (eq gt t : Bool) → (IsTrue t ↔ (IsTrue eq ⊎ IsTrue gt))
    → IsTrue eq ↔ order.Allows d (λ v. (v x +ℤ c) ≡ v 0) → IsTrue gt ↔ order.Allows d (λ v. v 0 <ℤ (v x +ℤ c))
    → IsTrue t ↔ order.Allows d (λ v. v 0 ≤ℤ (v x +ℤ c))
reach_test d x c eq gt t e h k = (
  (λ u. elim (e.0 u) [
    | inl a ↦ let w = h.0 a in let same = w.2 in (w.0, w.1, omega (arith, ints))
    | inr a ↦ let w = k.0 a in let more = w.2 in (w.0, w.1, omega (arith, ints))
  ]),
  (λ w. let at = w.2 in by_lt_z (w.0 0) (w.0 x +ℤ c) (λ more. e.1 (inr (k.1 (w.0, w.1, more)))) (λ less. e.1
      (inl (h.1 (w.0, w.1, both_ways (w.0 x +ℤ c) (w.0 0) less at))))),
)
  where
    both_ways : (a b : ℤ) → a ≤ℤ b → b ≤ℤ a → a ≡ b
    both_ways a b p q = omega (arith, ints)

pub stay_test : (d : Differences) (x : ℕ) (c : ℤ) (lt eq t : Bool) → (IsTrue t ↔ (IsTrue lt ⊎ IsTrue eq))
    → IsTrue lt ↔ order.Allows d (λ v. (v x +ℤ c) <ℤ v 0) → IsTrue eq ↔ order.Allows d (λ v. (v x +ℤ c) ≡ v 0)
    → IsTrue t ↔ order.Allows d (λ v. (v x +ℤ c) ≤ℤ v 0)
stay_test d x c lt eq t e h k = (
  (λ u. elim (e.0 u) [
    | inl a ↦ let w = h.0 a in let less = w.2 in (w.0, w.1, omega (arith, ints))
    | inr a ↦ let w = k.0 a in let same = w.2 in (w.0, w.1, omega (arith, ints))
  ]),
  (λ w. let at = w.2 in by_lt_z (w.0 x +ℤ c) (w.0 0) (λ less. e.1 (inl (h.1 (w.0, w.1, less)))) (λ more. e.1
      (inr (k.1 (w.0, w.1, both_ways (w.0 x +ℤ c) (w.0 0) at more))))),
)
  where
    both_ways : (a b : ℤ) → a ≤ℤ b → b ≤ℤ a → a ≡ b
    both_ways a b p q = omega (arith, ints)

pub same_small : (b : ℤ) → IsSmall b → to_z w64 (of_z w64 b) ≡ b
same_small b h = let low = h.0 in let high = h.1 in to_z-of_z w64 b (search (rules, ints))

pub passed_less : (z a b : ℤ) → IsSmall b → z ≡ (a -ℤ to_z w64 (of_z w64 b)) → negsuc 999999999 ≤ℤ z
    → z ≤ℤ pos 1000000000 → to_z w64 (of_z w64 z) ≡ (a -ℤ b)
passed_less z a b s e low high = passed z (a -ℤ b) (e ∙ ap (λ m. a -ℤ m) (same_small b s)) low high

pub passed_more : (z a b : ℤ) → IsSmall b → z ≡ (to_z w64 (of_z w64 b) -ℤ a) → negsuc 999999999 ≤ℤ z
    → z ≤ℤ pos 1000000000 → to_z w64 (of_z w64 z) ≡ (b -ℤ a)
passed_more z a b s e low high = passed z (b -ℤ a) (e ∙ ap (λ m. m -ℤ a) (same_small b s)) low high

pub outcome_is : {A : Type 0} {m i j : ℕ} → i ≡ j → A ↔ (m ≡ j) → A ↔ (m ≡ i)
outcome_is e f = ((λ a. f.0 a ∙ sym e), (λ h. f.1 (h ∙ e)))

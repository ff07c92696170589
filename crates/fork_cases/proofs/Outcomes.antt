-- The outcomes at each place.
use Rattle.std.proofs.Common.{◌≡◌, ℕ, zero, suc, ◌<◌, Bool, true, false, [], ◌∷◌, ◌++◌, refl, sym, subst, arith}
use Rattle.std.proofs.lemmas.Nat.Bits.{bit_at_above}
use Rattle.cm_ctx.specs.Masks.{Has}
use Rattle.cm_forks.specs.Paths.{Path, Begins, Covers}
use Rattle.fork_cases.specs.Worlds.{bit, has_path}

few : (mask d : ℕ) → mask < 4 → Has mask (suc (suc d)) → ⊥
few mask d lt h = let none = bit_at_above mask 2 (suc (suc d)) lt (omega arith) in cc

has_three : (x : Bool) (d : ℕ) → d ≡ bit x → Has 3 d
has_three true d e = subst (Has 3) (sym e) refl
has_three false d e = subst (Has 3) (sym e) refl

has_two : Has 2 1
has_two = refl

not_zero : Has 2 0 → ⊥
not_zero h = cc

module _ (wide : Bool) where
  abbrev P : Path → Type 0
  P = has_path wide

  -- every outcome is there, each in some world
  three : (front : Path) → Begins P (front ++ 0 ∷ []) → Begins P (front ++ 1 ∷ [])
      → ((d : ℕ) → Begins P (front ++ d ∷ []) → (x : Bool) × (d ≡ bit x)) → Covers P front 3
  three front z o back zero = ((λ h. z), (λ b. let w = back 0 b in has_three w.0 0 w.1))
  three front z o back (suc zero) = ((λ h. o), (λ b. let w = back 1 b in has_three w.0 1 w.1))
  three front z o back (suc (suc d)) = (
    (λ h. absurd (few 3 d (omega arith) h)),
    (λ b. let w = back (suc (suc d)) b in has_three w.0 (suc (suc d)) w.1),
  )

  pub at_start : Covers P [] 3
  at_start = three [] (0 ∷ [], (false, false, false, (λ e. cc), refl))
      (1 ∷ 0 ∷ [], (true, true, false, (λ e. refl), refl)) back
    where
      back : (d : ℕ) → Begins P (d ∷ []) → (x : Bool) × (d ≡ bit x)
      back d (rest, (a, true, c, imp, e)) = (a, cc)
      back d (rest, (a, false, c, imp, e)) = (a, cc)

  pub at_low : Covers P (0 ∷ []) 3
  at_low = three (0 ∷ []) ([], (false, false, false, (λ e. cc), refl))
      (0 ∷ [], (false, true, false, (λ e. refl), refl)) back
    where
      back : (d : ℕ) → Begins P (0 ∷ d ∷ []) → (x : Bool) × (d ≡ bit x)
      back d (rest, (a, true, c, imp, e)) = (true, cc)
      back d (rest, (a, false, c, imp, e)) = (false, cc)

  pub at_low_high : Covers P (0 ∷ 1 ∷ []) 3
  at_low_high = three (0 ∷ 1 ∷ []) ([], (false, true, false, (λ e. refl), refl))
      ([], (false, true, true, (λ e. refl), refl)) back
    where
      back : (d : ℕ) → Begins P (0 ∷ 1 ∷ d ∷ []) → (x : Bool) × (d ≡ bit x)
      back d (rest, (a, true, c, imp, e)) = (c, cc)
      back d (rest, (a, false, c, imp, e)) = (c, cc)

  pub at_high_high : Covers P (1 ∷ 1 ∷ []) 3
  at_high_high = three (1 ∷ 1 ∷ []) ([], (true, true, false, (λ e. refl), refl))
      ([], (true, true, true, (λ e. refl), refl)) back
    where
      back : (d : ℕ) → Begins P (1 ∷ 1 ∷ d ∷ []) → (x : Bool) × (d ≡ bit x)
      back d (rest, (a, true, c, imp, e)) = (c, cc)
      back d (rest, (a, false, c, imp, e)) = (c, cc)

  pub at_high : Covers P (1 ∷ []) 2
  at_high d = (forth d, back d)
    where
      forth : (d : ℕ) → Has 2 d → Begins P (1 ∷ d ∷ [])
      forth zero h = absurd (not_zero h)
      forth (suc zero) h = (0 ∷ [], (true, true, false, (λ e. refl), refl))
      forth (suc (suc d)) h = absurd (few 2 d (omega arith) h)

      back : (d : ℕ) → Begins P (1 ∷ d ∷ []) → Has 2 d
      back d (rest, (a, true, c, imp, e)) = let one : d ≡ 1 = cc in subst (Has 2) (sym one) has_two
      back d (rest, (true, false, c, imp, e)) = let bad = imp refl in cc
      back d (rest, (false, false, c, imp, e)) = cc

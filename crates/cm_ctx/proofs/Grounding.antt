-- Payloads can have the values of their terms, whatever the variables are.
use Rattle.std.proofs.Common.{◌≡◌, ◌<◌, ◌+◌, ◌==◌, ℕ, ℤ, Bool, true, false}
use Rattle.std.proofs.Common.{if◌then◌else◌, List, [], ◌∷◌, refl, sym, ◌∙◌, arith}
use Rattle.std.proofs.lemmas.Bool.Decides.{nat_tests}
use Rattle.cm_value.specs.declared.value.Value.{Value}
use Rattle.cm_value.specs.declared.value.Value.TheVariants as value
use Rattle.cm_term.specs.declared.term.Term.{Term}
use Rattle.cm_term.specs.Valuation.{valuation}
use Rattle.cm_term.specs.Terms.{value_of}
use Rattle.cm_ctx.specs.Giving.{EachFrom}
use Rattle.cm_ctx.specs.Contexts.{Holds}
use Rattle.cm_ctx.specs.Proper.{IsEarlier, AreEarlier}
use Rattle.cm_ctx.proofs.Each.{each_there}

-- a function with another value in one place
abbrev pub put : (ℕ → Value) → ℕ → Value → ℕ → Value
put f k x o = if o == k then x else f o

pub put_here : (f : ℕ → Value) (k : ℕ) (x : Value) → put f k x k ≡ x
put_here f k x = first (k == k) refl
  where
    first : (b : Bool) → (k == k) ≡ b → put f k x k ≡ x
    first true e = rw e refl
    first false e = absurd (grind (arith, nat_tests))

pub put_elsewhere : (f : ℕ → Value) (k : ℕ) (x : Value) (o : ℕ) → o < k → put f k x o ≡ f o
put_elsewhere f k x o lt = first (o == k) refl
  where
    first : (b : Bool) → (o == k) ≡ b → put f k x o ≡ f o
    first true e = absurd (grind (arith, nat_tests))
    first false e = rw e refl

module _ (e : ℕ → ℕ) (n : ℕ → ℤ) (t p : ℕ → ℕ) where
  abbrev under : (ℕ → Value) → Term → Value
  under f u = value_of (valuation e n t p f) u

  abbrev filled : ℕ → List Term → (ℕ → Value) → ℕ → Value
  filled k [] f = f
  filled k (u ∷ us) f = filled (k + 1) us (put f k (under f u))

  kept_below : (k : ℕ) (us : List Term) (f : ℕ → Value) (o : ℕ) → o < k → filled k us f o ≡ f o
  kept_below k [] f o lt = refl
  kept_below k (u ∷ us) f o lt = kept_below (k + 1) us (put f k (under f u)) o (omega arith)
      ∙ put_elsewhere f k (under f u) o lt

  each_filled : (k : ℕ) (us : List Term) (f : ℕ → Value) → EachFrom IsEarlier k us
      → EachFrom (λ o u. filled k us f o ≡ under (filled k us f) u) k us
  each_filled k [] f h = tt
  each_filled k (u ∷ us) f h =
      let g : ℕ → Value = filled (k + 1) us (put f k (under f u)) in
      let here : g k ≡ under f u = kept_below (k + 1) us (put f k (under f u)) k (omega arith)
      ∙ put_here f k (under f u) in (
        here ∙ h.0 e n t p f g (λ o lt. sym (kept_below (k + 1) us (put f k (under f u)) o (omega arith)
            ∙ put_elsewhere f k (under f u) o lt)),
        each_filled (k + 1) us (put f k (under f u)) h.1,
      )

  pub ground : (us : List Term) → AreEarlier us → (f : ℕ → Value) × Holds us (valuation e n t p f)
  ground us h =
      let f : ℕ → Value = filled 0 us (λ o. value.None) in (
        f,
        (each_there (λ o u. f o ≡ under f u) us).1
            (each_filled 0 us (λ o. value.None) ((each_there IsEarlier us).0 h)),
      )
